-- An event leaves at most 272 drops, and 530 notes, where replays of other calls stay alike.
use Rattle.std.specs.Prelude.{◌≡◌, ℕ, zero, suc, ◌+◌, ◌<◌, ◌≤◌, ◌&&◌, nat_le, Bool, true, false}
use Rattle.std.specs.Prelude.{cond, not, List, [], ◌∷◌, ◌++◌, length, is_some, option_map, Option}
use Rattle.std.specs.Prelude.{Some, None, Contains}
use Rattle.std.proofs.Common.{arith, refl, subst, sym, ap, ◌∙◌}
use Rattle.kernel_model.specs.declared.Event.{Event}
use Rattle.kernel_model.specs.declared.Event.TheVariants.{Tick, Step, Sys}
use Rattle.kernel_model.specs.declared.Need.{Need}
use Rattle.kernel_model.specs.declared.Note.{Note}
use Rattle.kernel_model.specs.declared.Note.TheVariants.{Ticked, Ended, Refused, Gave, Dropped, Ran, Waits, InGraft}
use Rattle.kernel_model.specs.declared.Refusal.TheVariants.{NoProcess, BadIndex}
use Rattle.kernel_model.specs.World.{Blocks}
use Rattle.kernel_model.specs.Policies.{lives}
use Rattle.kernel_model.specs.Locks.{Hindrance, first_hindrance}
use Rattle.kernel_model.specs.Meaning.{Meaning}
use Rattle.kernel_model.specs.Levels.{Level}
use Rattle.kernel_model.specs.GraftStep.{lock_user}
use Rattle.kernel_model.specs.History.{Mark, Trace}
use Rattle.kernel_model.specs.Kernel.{Call, Blocker, Kernel, Run, is_at_piece, has_level, noted, joins}
use Rattle.kernel_model.specs.Blocking.{config_in, levels_in, trace_of, config_of, levels_of}
use Rattle.kernel_model.specs.Blocking.{holds, needs, blocker_from, blocker}
use Rattle.kernel_model.specs.Settle.{step, settled}
use Rattle.kernel_model.specs.Events.{MOST_STEPS, in_order, counted, ticked, waits_note}
use Rattle.kernel_model.specs.Events.{graft_note, last_note, steps, step_event, actions, event}
use Rattle.kernel_model.specs.Sound.{IsSoundKernel, HasWholeBlocks}
use Rattle.kernel_model.specs.Claims.{Stability}
use Rattle.graft_laws.specs.Notes.{is_drop, is_end, is_data, is_line, note_count, EventsLeaveFewNotes}
use Rattle.graft_laws.proofs.MoveLemmas.{count_more}
use Rattle.graft_laws.proofs.GoLemmas.{goes_self, settled_goes, step_goes}
use Rattle.graft_laws.proofs.NoteLemmas.{sound_stands, leaves_few_notes}
use Rattle.graft_laws.proofs.SettleDropLemmas.{calls_leave_few_drops}
use Rattle.graft_laws.proofs.SoundCallLemmas.{in_graft, call_comes}
use Rattle.graft_laws.proofs.HinderLemmas.{hindered_is}
use Rattle.graft_laws.proofs.HistoryKernelStepLemmas.{Known}
use Rattle.graft_laws.proofs.SoundRunLemmas.{order_sound, counted_waiting, step_sound, settle_sound, joins_sound}
use Rattle.graft_laws.proofs.TickLemmas.{clock_sound}
use Rattle.graft_laws.proofs.CountLemmas.{drops_left}
use Rattle.graft_laws.proofs.DropCountLemmas.{PaysTo, at_most_then, drops_most}
use Rattle.graft_laws.proofs.DropCountLemmas.{step_pays, settled_pays, actions_pay}
use Rattle.graft_laws.proofs.PayLemmas.{same_most}

-- ---- kinds of notes

-- each note is of one kind
all_kinds : (ns : List Note) → length ns ≡ note_count is_drop ns + note_count is_end
    ns + note_count is_data ns + note_count is_line ns
all_kinds [] = refl
all_kinds (Ticked n clock ∷ ns) = let k = all_kinds ns in omega arith
all_kinds (Ended n reply ∷ ns) = let k = all_kinds ns in omega arith
all_kinds (Refused n why ∷ ns) = let k = all_kinds ns in omega arith
all_kinds (Gave n bytes ∷ ns) = let k = all_kinds ns in omega arith
all_kinds (Dropped n q pt cause ∷ ns) = let k = all_kinds ns in omega arith
all_kinds (Ran n count ∷ ns) = let k = all_kinds ns in omega arith
all_kinds (Waits n object holder ∷ ns) = let k = all_kinds ns in omega arith
all_kinds (InGraft n q pt level ∷ ns) = let k = all_kinds ns in omega arith

module _ (m : Meaning) (know : Known m) (stability : Stability m) where
  -- ---- steps

  -- a call with a level has some levels
  pub some_levels : (r : Run) (p : ℕ) (c : Call) (ks : List Mark) → IsSoundKernel m r.kernel →
      r.kernel.call p ≡ Some c → c.marks ≡ Some ks → 1 ≤ length (levels_of m r.kernel p)
  some_levels r p c ks sound is marked =
      by_trace (trace_of m r.kernel p (Some c)) (ap (λ x. config_in (trace_of m r.kernel p x)) is)
      (sound.runs p c ks is marked)
    where
      by_trace : (x : Option Trace) → config_of m r.kernel p ≡ config_in x → is_some x ≡ true →
          1 ≤ length (levels_of m r.kernel p)
      by_trace None e some = absurd cc
      by_trace (Some t) e some =
          subst (λ x. 1 ≤ length (levels_in x)) (sym e) (call_comes m know.laws know.histories
          r.kernel sound p t.config e (in_graft m r.kernel p t.config e)).some

  -- a call that is blocked needs something
  pub some_needs : (r : Run) (p : ℕ) (b : Blocker) → blocker m r.kernel p ≡ Some b → 1 ≤ length (needs m r.kernel p)
  some_needs r p b e =
      by_hindrance (first_hindrance (holds m r.kernel) r.kernel.objects.things.lock p
      (lock_user p (levels_of m r.kernel p)) (needs m r.kernel p)) refl e
    where
      some_of : (ns : List Need) (n : Need) → Contains ns n → 1 ≤ length ns
      some_of ns n c = least (length ns) c.0 c.1
        where
          least : (n k : ℕ) → k < n → 1 ≤ n
          least n k h = omega arith

      by_hindrance : (x : Option Hindrance) →
          first_hindrance (holds m r.kernel) r.kernel.objects.things.lock p
          (lock_user p (levels_of m r.kernel p)) (needs m r.kernel p) ≡ x →
          option_map (blocker_from r.kernel) x ≡ Some b → 1 ≤ length (needs m r.kernel p)
      by_hindrance None is h = absurd cc
      by_hindrance (Some h) is same =
          let i = hindered_is (holds m r.kernel) r.kernel.objects.things.lock p
          (lock_user p (levels_of m r.kernel p)) (needs m r.kernel p) h is in
          some_of (needs m r.kernel p) i.need i.among

  -- a call that has a level
  pub level_is : (x : Option Call) → has_level x ≡ true →
      (c : Call) × (ks : List Mark) × (x ≡ Some c) × (c.marks ≡ Some ks)
  level_is None h = absurd cc
  level_is (Some c) h = by_marks c.marks refl h
    where
      by_marks : (x : Option (List Mark)) → c.marks ≡ x →
          elim x as (λ _. Bool) [ None ↦ false | Some y ↦ true ] ≡ true →
          (d : Call) × (ks : List Mark) × (Some c ≡ Some d) × (d.marks ≡ Some ks)
      by_marks None e h = absurd cc
      by_marks (Some ks) e h = (c, ks, refl, e)

  steps_pay : (p n taken : ℕ) (r : Run) → IsSoundKernel m r.kernel →
      HasWholeBlocks r.kernel.world r.blocks → PaysTo m r (steps m p n taken r).1
  steps_pay p zero taken r sound whole = same_most (note_count is_drop r.notes + drops_left m r.kernel)
  steps_pay p (suc n) taken r sound whole =
      pay_by (has_level (r.kernel.call p)) (in_order p r.kernel.order) (blocker m r.kernel p) refl
      refl refl (λ u. steps_pay p n (suc taken) u)
    where
      away : (c : Call) (ks : List Mark) → r.kernel.call p ≡ Some c → c.marks ≡ Some ks →
          is_at_piece (r.kernel.call p) ≡ false
      away c ks is marked =
          ap is_at_piece is ∙ ap (λ (x : Option (List Mark)).
          elim x as (λ _. Bool) [ None ↦ true | Some y ↦ false ]) marked

      pay_by : (a b : Bool) (x : Option Blocker) → has_level (r.kernel.call p) ≡ a →
          in_order p r.kernel.order ≡ b → blocker m r.kernel p ≡ x →
          ((u : Run) → IsSoundKernel m u.kernel → HasWholeBlocks u.kernel.world u.blocks →
          PaysTo m u (steps m p n (suc taken) u).1) →
          PaysTo m r (elim (a && not b) as (λ _. ℕ × Run) [
            | false ↦ (taken, r)
            | true ↦ elim x as (λ _. ℕ × Run) [
              | Some b ↦ (taken, settled m (joins p r))
              | None ↦ steps m p n (suc taken) (settled m (step m p r))
            ]
          ]).1
      pay_by false b x level order blocks more = same_most (note_count is_drop r.notes + drops_left m r.kernel)
      pay_by true true x level order blocks more = same_most (note_count is_drop r.notes + drops_left m r.kernel)
      pay_by true false (Some y) level order blocks more =
          let c = level_is (r.kernel.call p) level in
          settled_pays m know stability r (joins p r)
          (joins_sound m know stability r p sound (away c.0 c.1 c.2 c.3) order
          (some_levels r p c.0 c.1 sound c.2 c.3) (some_needs r p y blocks)) whole
          (same_most (note_count is_drop r.notes + drops_left m r.kernel))
      pay_by true false None level order blocks more =
          let c = level_is (r.kernel.call p) level in
          let u = step m p r in
          let goes = step_goes m know.laws know.instructions know.histories p r
          (sound_stands m r.kernel r.blocks sound whole) in
          let stepped = step_sound m know stability r p c.0 sound whole c.2 blocks in
          let after = settled_goes m know.laws know.instructions know.histories u u (goes_self m u goes.stands) in
          at_most_then (note_count is_drop (steps m p n (suc taken) (settled m u)).1.notes
          + drops_left m (steps m p n (suc taken) (settled m u)).1.kernel)
          (note_count is_drop (settled m u).notes + drops_left m (settled m u).kernel)
          (note_count is_drop r.notes + drops_left m r.kernel)
          (more (settled m u) (settle_sound m know stability 256 u stepped goes.stands.whole) after.stands.whole)
          (settled_pays m know stability r u stepped goes.stands.whole
          (step_pays m know stability r p c.0 sound whole c.2 blocks))

  -- ---- events

  -- what was paid for from a run without drops
  few_drops : (r u : Run) → note_count is_drop r.notes ≡ 0 → PaysTo m r u → note_count is_drop u.notes ≤ 272
  few_drops r u none h =
      at_most (note_count is_drop u.notes) (drops_left m u.kernel) (note_count is_drop r.notes)
      (drops_left m r.kernel) h none (drops_most m r.kernel)
    where
      at_most : (n x a y : ℕ) → n + x ≤ a + y → a ≡ 0 → y ≤ 272 → n ≤ 272
      at_most n x a y h e k = omega arith

  -- a line is of no drop
  no_drop_more : (ns : List Note) (x : Note) → is_drop x ≡ false → note_count is_drop ns ≤ 272 →
      note_count is_drop (ns ++ x ∷ []) ≤ 272
  no_drop_more ns x other h =
      as_many (note_count is_drop (ns ++ x ∷ [])) (note_count is_drop ns)
      (note_count is_drop (x ∷ [])) (count_more is_drop ns (x ∷ [])) (ap (λ b. cond b 1 0) other) h
    where
      as_many : (n a b : ℕ) → n ≡ a + b → b ≡ 0 → a ≤ 272 → n ≤ 272
      as_many n a b e f h = omega arith

  last_drops : (p : ℕ) (x : Option Call) (r : Run) → note_count is_drop r.notes ≤ 272 →
      note_count is_drop (last_note m p x r).notes ≤ 272
  last_drops p None r h = h
  last_drops p (Some c) r h = last_by (in_order p r.kernel.order)
    where
      waits_drops : (b : Option Blocker) → note_count is_drop (waits_note c.number b r).notes ≤ 272
      waits_drops None = h
      waits_drops (Some b) = no_drop_more r.notes (Waits c.number b.object b.holder) refl h

      graft_drops : (ls : List Level) → note_count is_drop (graft_note c.number ls r).notes ≤ 272
      graft_drops [] = h
      graft_drops (l ∷ ls) = no_drop_more r.notes (InGraft c.number l.owner l.point (suc (length ls))) refl h

      last_by : (b : Bool) →
          note_count is_drop (elim b as (λ _. Run) [
            | true ↦ waits_note c.number (blocker m r.kernel p) r
            | false ↦ graft_note c.number (levels_of m r.kernel p) r
          ]).notes ≤ 272
      last_by true = waits_drops (blocker m r.kernel p)
      last_by false = graft_drops (levels_of m r.kernel p)

  event_drops : (k : Kernel) (blocks : Blocks) (number : ℕ) (e : Event) (io : List Bool) →
      IsSoundKernel m k → HasWholeBlocks k.world blocks →
      note_count is_drop (event m k blocks number e io).notes ≤ 272
  event_drops k blocks number Tick io sound whole =
      let r : Run = record { kernel = k; blocks = blocks; notes = []; io = io } in
      let u = ticked number r in
      let after = clock_sound m (record k { order = counted k.order }) (suc k.clock)
      (order_sound m k (counted k.order) (counted_waiting k.order) sound) in
      few_drops u (actions m 288 u) refl (actions_pay m know stability 288 u after whole)
  event_drops k blocks number (Step p n) io sound whole =
      step_by (lives k.objects.things.queue p) (nat_le 1 n && nat_le n MOST_STEPS)
    where
      none_few : 0 ≤ 272
      none_few = omega arith

      step_by : (alive right : Bool) → let r : Run = record { kernel = k; blocks = blocks; notes = []; io = io } in
          note_count is_drop (elim alive as (λ _. Run) [
            | false ↦ noted (Refused number NoProcess) r
            | true ↦ elim right as (λ _. Run) [
              | true ↦ step_event m number p n r
              | false ↦ noted (Refused number BadIndex) r
            ]
          ]).notes ≤ 272
      step_by false right = none_few
      step_by true false = none_few
      step_by true true =
          let r : Run = record { kernel = k; blocks = blocks; notes = []; io = io } in
          let s = steps m p n 0 r in
          let u = noted (Ran number s.0) s.1 in
          last_drops p (u.kernel.call p) u (no_drop_more s.1.notes (Ran number s.0) refl
          (few_drops r s.1 refl (steps_pay p n 0 r sound whole)))
  event_drops k blocks number (Sys p call) io sound whole =
      at_most (note_count is_drop (event m k blocks number (Sys p call) io).notes)
      (calls_leave_few_drops m know.laws know.instructions know.histories k blocks number p call
      io sound whole)
    where
      at_most : (n : ℕ) → n ≤ 16 → n ≤ 272
      at_most n h = omega arith

-- an event leaves few notes
pub events_leave_few_notes : (m : Meaning) → Known m → Stability m → EventsLeaveFewNotes m
events_leave_few_notes m know stable k blocks number e io sound whole =
    let ns = (event m k blocks number e io).notes in
    let drops = event_drops m know stable k blocks number e io sound whole in
    let others = leaves_few_notes m know.laws know.instructions know.histories know.effects k blocks
    number e io sound whole in
    record {
      drops = drops;
      others = others;
      all = in_all (length ns) (note_count is_drop ns) (note_count is_end ns) (note_count is_data
          ns) (note_count is_line ns) (all_kinds ns) drops others.ends others.data_notes others.lines;
    }
  where
    in_all : (n a b c d : ℕ) → n ≡ a + b + c + d → a ≤ 272 → b ≤ 16 → c ≤ 240 → d ≤ 2 → n ≤ 530
    in_all n a b c d e f g h i = omega arith
