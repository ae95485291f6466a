-- An event leaves at most 272 drops, where replays of other calls stay alike.
use Rattle.std.specs.Prelude.{◌≡◌, ◌≢◌, ℕ, zero, suc, ◌+◌, ◌<◌, ◌≤◌, nat_lt, true, false, List, []}
use Rattle.std.specs.Prelude.{◌∷◌, length, is_some, Option, Some, None}
use Rattle.std.proofs.Common.{arith, refl, subst, sym, ap, ◌∙◌, inl, inr}
use Rattle.std.proofs.lemmas.Bool.{cases_Bool, cases_eq}
use Rattle.std.proofs.lemmas.Bool.Decides.{nat_tests}
use Rattle.kernel_model.specs.declared.Cause.{Cause}
use Rattle.kernel_model.specs.declared.Cause.TheVariants.{TimeOut}
use Rattle.kernel_model.specs.declared.Held.{Held}
use Rattle.kernel_model.specs.declared.Mode.{Mode}
use Rattle.kernel_model.specs.declared.Note.TheVariants.{Refused}
use Rattle.kernel_model.specs.declared.Object.{Object}
use Rattle.kernel_model.specs.declared.Refusal.TheVariants.{TimedOut}
use Rattle.kernel_model.specs.Locks.{conflicts, outermost_holding}
use Rattle.kernel_model.specs.Meaning.{Meaning}
use Rattle.kernel_model.specs.Levels.{Level, Config, touched_at, drop_level}
use Rattle.kernel_model.specs.GraftStep.{micro}
use Rattle.kernel_model.specs.History.{Mark, Trace, replay}
use Rattle.kernel_model.specs.Kernel.{Call, Blocker, Waiter, Kernel, Run, requeue}
use Rattle.kernel_model.specs.Blocking.{config_in, levels_in, trace_of, config_of, levels_of, holds, needs, blocker}
use Rattle.kernel_model.specs.Settle.{outcome_step, graft_step, marked_step, call_step, step}
use Rattle.kernel_model.specs.Settle.{first_free, rested, settle, settled}
use Rattle.kernel_model.specs.Events.{innermost, wanted, expired, drop_marked, drop_call}
use Rattle.kernel_model.specs.Events.{times_out, waiter_action, action, entry_action, actions}
use Rattle.kernel_model.specs.Sound.{IsSoundKernel, HasWholeBlocks, once_if}
use Rattle.kernel_model.specs.Claims.{IsStable, Stability}
use Rattle.call_laws.specs.Ledgers.{at_here, at_other}
use Rattle.graft_laws.specs.Notes.{is_drop, note_count}
use Rattle.graft_laws.proofs.InPlaceLemmas.{row_low, row_high, caller_low}
use Rattle.graft_laws.proofs.MoveLemmas.{count_more, StandsAt}
use Rattle.graft_laws.proofs.GoLemmas.{goes_self, settled_goes, step_goes, calls_left, entry_goes}
use Rattle.graft_laws.proofs.NoteLemmas.{sum_ones, sound_stands}
use Rattle.graft_laws.proofs.SoundCallLemmas.{InGraft, in_graft}
use Rattle.graft_laws.proofs.BesideLemmas.{depth_none}
use Rattle.graft_laws.proofs.HinderLemmas.{found_passes}
use Rattle.graft_laws.proofs.HistoryKernelStepLemmas.{Known}
use Rattle.graft_laws.proofs.OutcomeLemmas.{own_trace, instruction_likely, drop_likely}
use Rattle.graft_laws.proofs.SoundRunLemmas.{free_is, entry_call, step_sound, settle_sound, drop_sound, ends_sound}
use Rattle.graft_laws.proofs.SumLemmas.{sum_pairs, pairs_fall, pairs_none, pairs_most}
use Rattle.graft_laws.proofs.CountLemmas.{stands_in, stands_for_all, grafts_left, drops_left}
use Rattle.graft_laws.proofs.CountLemmas.{stands_from, stands_committed, stands_call, once_less}
use Rattle.graft_laws.proofs.CountLemmas.{calls_by}
use Rattle.graft_laws.proofs.PayLemmas.{PaysFor, Steady, outcome_pays, instruction_paid, drop_paid, piece_pays}
use Rattle.graft_laws.proofs.PayLemmas.{same_most}
use Rattle.call_laws.specs.AskRanges.{once_few}

-- drops so far, and those that there can be, are no more than they were
abbrev pub PaysTo : Meaning → Run → Run → Type 0
PaysTo m r u = note_count is_drop u.notes + drops_left m u.kernel ≤ note_count is_drop r.notes + drops_left m r.kernel

pub at_most_then : (a b c : ℕ) → a ≤ b → b ≤ c → a ≤ c
at_most_then a b c h k = omega arith

-- a hold that conflicts is at a level that there is
conflict_below : (m : Meaning) (k : Kernel) (x d : ℕ) (o : Object) (mode : Mode) →
    conflicts (holds m k x d o) mode ≡ true → d < length (levels_of m k x)
conflict_below m k x d o mode h = elim (cases_Bool (nat_lt x 16)) [
  | inr high ↦ absurd (free_not (holds m k x d o) (ap (λ (ls : List Level). touched_at ls d o)
      (row_high (levels_of m k) x (high_number x high))) h)
  | inl low ↦ elim (cases_Bool (nat_lt d (length (levels_of m k x)))) [
    | inl near ↦ low_depth d (length (levels_of m k x)) near
    | inr far ↦ absurd (free_not (holds m k x d o)
        (ap (λ (ls : List Level). touched_at ls d o) (row_low (levels_of m k) x (low_number x low))
        ∙ depth_none (levels_of m k x) d o (high_depth d (length (levels_of m k x)) far)) h)
  ]
]
  where
    free_not : (h : Held) → h ≡ Held.Free → conflicts h mode ≡ true → ⊥
    free_not Held.Free e h = cc
    free_not Held.Shared e h = cc
    free_not Held.Exclusive e h = cc

    low_number : (x : ℕ) → nat_lt x 16 ≡ true → x < 16
    low_number x h = grind (arith, nat_tests)

    high_number : (x : ℕ) → nat_lt x 16 ≡ false → 16 ≤ x
    high_number x h = grind (arith, nat_tests)

    low_depth : (d n : ℕ) → nat_lt d n ≡ true → d < n
    low_depth d n h = grind (arith, nat_tests)

    high_depth : (d n : ℕ) → nat_lt d n ≡ false → n ≤ d
    high_depth d n h = grind (arith, nat_tests)

-- the innermost level is one that there is
innermost_below : (ls : List Level) (d : ℕ) → innermost ls ≡ Some d → d < length ls
innermost_below [] d e = absurd cc
innermost_below (l ∷ ls) d e = below_next (length ls) d (same_number (length ls) d e)
  where
    same_number : (a b : ℕ) → Some a ≡ Some b → a ≡ b
    same_number a b h = cc

    below_next : (n d : ℕ) → n ≡ d → d < suc n
    below_next n d e = omega arith

-- at most 272 drops are left
pub drops_most : (m : Meaning) (k : Kernel) → drops_left m k ≤ 272
drops_most m k =
    both_most (grafts_left m k) (calls_left k.call) (pairs_most
    (λ q pt. once_if (stands_for_all m k q pt)) (λ q pt. once_few (stands_for_all m k q pt)))
    (sum_ones 16 (λ p. once_if (is_some (k.call p))) (λ p. once_few (is_some (k.call p))))
  where
    both_most : (a b : ℕ) → a ≤ 256 → b ≤ 16 → a + b ≤ 272
    both_most a b h k = omega arith

module _ (m : Meaning) (know : Known m) (stability : Stability m) where
  -- ---- steps

  pub step_pays : (r : Run) (p : ℕ) (c : Call) → IsSoundKernel m r.kernel →
      HasWholeBlocks r.kernel.world r.blocks → r.kernel.call p ≡ Some c →
      blocker m r.kernel p ≡ None → PaysTo m r (step m p r)
  step_pays r p c sound whole is free =
      step_by (λ q ne. stability.steps r q p c know.laws sound whole ne is free)
    where
      here : StandsAt m r
      here = sound_stands m r.kernel r.blocks sound whole

      by_trace : (ks : List Mark) (x : Option Trace) → c.marks ≡ Some ks →
          replay m r.kernel.world r.kernel.images r.kernel.objects p c.stage ks ≡ x →
          is_some x ≡ true →
          Steady m know r sound whole here p c is (graft_step m p c ks x r) →
          PaysFor m know r sound whole here p c is (graft_step m p c ks x r)
      by_trace ks None marked leads some steady = absurd cc
      by_trace ks (Some t) marked leads some steady =
          let o = micro r.kernel.world r.kernel.images p t.config in
          outcome_pays m know r sound whole here p c is ks t marked leads o o.said refl
          (instruction_likely m know r sound whole here p c ks t is marked leads free)
          (instruction_paid m know r sound whole here p c is ks t marked leads) steady

      by_marks : (x : Option (List Mark)) → c.marks ≡ x →
          Steady m know r sound whole here p c is (marked_step m p c x r) →
          PaysFor m know r sound whole here p c is (marked_step m p c x r)
      by_marks None marked steady =
          piece_pays m know r sound whole here p c is
          (m.asks r.kernel.world r.kernel.objects p c.stage) marked refl steady
      by_marks (Some ks) marked steady =
          let same : replay m r.kernel.world r.kernel.images r.kernel.objects p c.stage ks
          ≡ trace_of m r.kernel p (Some c) =
          ap (λ (x : Option (List Mark)). elim x as (λ _. Option Trace) [
            | None ↦ None
            | Some y ↦ replay m r.kernel.world r.kernel.images r.kernel.objects p c.stage y
          ]) (sym marked) in
          by_trace ks (trace_of m r.kernel p (Some c)) marked same (sound.runs p c ks is marked) steady

      step_by : ((q : ℕ) → q ≢ p → IsStable m r.kernel (step m p r).kernel q) → PaysTo m r (step m p r)
      step_by steady =
          subst (λ x. PaysTo m r (requeue p (call_step m p x r))) (sym is)
          (by_marks c.marks refl (λ q ne. subst
          (λ x. IsStable m r.kernel (requeue p (call_step m p x r)).kernel q) is (steady q ne)))

  settle_pays : (n : ℕ) (r : Run) → IsSoundKernel m r.kernel →
      HasWholeBlocks r.kernel.world r.blocks → PaysTo m r (settle m n r)
  settle_pays zero r sound whole = same_most (note_count is_drop r.notes + drops_left m r.kernel)
  settle_pays (suc n) r sound whole =
      settle_by (first_free m r.kernel r.kernel.order) refl (λ p. settle_pays n (step m p r))
    where
      settle_by : (x : Option ℕ) → first_free m r.kernel r.kernel.order ≡ x →
          ((p : ℕ) → IsSoundKernel m (step m p r).kernel → HasWholeBlocks (step m p r).kernel.world
          (step m p r).blocks → PaysTo m (step m p r) (settle m n (step m p r))) →
          PaysTo m r (elim x as (λ _. Run) [ None ↦ rested m r | Some p ↦ settle m n (step m p r) ])
      settle_by None e more = same_most (note_count is_drop r.notes + drops_left m r.kernel)
      settle_by (Some p) e more =
          let f = free_is m r.kernel r.kernel.order p e in
          let c = entry_call m r.kernel sound f.1.0 f.1.1 in
          let is = ap r.kernel.call (sym f.1.2) ∙ c.1 in
          let next = step_goes m know.laws know.instructions know.histories p r
          (sound_stands m r.kernel r.blocks sound whole) in
          at_most_then (note_count is_drop (settle m n (step m p r)).notes + drops_left m
          (settle m n (step m p r)).kernel)
          (note_count is_drop (step m p r).notes + drops_left m (step m p r).kernel)
          (note_count is_drop r.notes + drops_left m r.kernel)
          (more p (step_sound m know stability r p c.0 sound whole is f.0) next.stands.whole)
          (step_pays r p c.0 sound whole is f.0)

  -- settling after a run
  pub settled_pays : (r u : Run) → IsSoundKernel m u.kernel →
      HasWholeBlocks u.kernel.world u.blocks → PaysTo m r u → PaysTo m r (settled m u)
  settled_pays r u sound whole h =
      at_most_then (note_count is_drop (settled m u).notes + drops_left m (settled m u).kernel)
      (note_count is_drop u.notes + drops_left m u.kernel)
      (note_count is_drop r.notes + drops_left m r.kernel)
      (settle_pays 256 u sound whole) h

  -- ---- drops and ends

  -- a level that there is is dropped, or none
  drop_pays : (r : Run) (p : ℕ) (d : Option ℕ) (cause : Cause) →
      IsSoundKernel m r.kernel → HasWholeBlocks r.kernel.world r.blocks →
      ((n : ℕ) → d ≡ Some n → n < length (levels_of m r.kernel p)) →
      PaysTo m r (drop_call m p (r.kernel.call p) d cause r)
  drop_pays r p None cause sound whole low = none_by (r.kernel.call p)
    where
      by_marks : (c : Call) (x : Option (List Mark)) (y : Option Trace) →
          PaysTo m r (drop_marked m p c x y None cause r)
      by_marks c None y = same_most (note_count is_drop r.notes + drops_left m r.kernel)
      by_marks c (Some ks) None = same_most (note_count is_drop r.notes + drops_left m r.kernel)
      by_marks c (Some ks) (Some t) = same_most (note_count is_drop r.notes + drops_left m r.kernel)

      none_by : (x : Option Call) → PaysTo m r (drop_call m p x None cause r)
      none_by None = same_most (note_count is_drop r.notes + drops_left m r.kernel)
      none_by (Some c) = by_marks c c.marks (trace_of m r.kernel p (Some c))
  drop_pays r p (Some d) cause sound whole low = by_config (config_of m r.kernel p) refl (low d refl)
    where
      none_lower : (d : ℕ) → d < 0 → ⊥
      none_lower d h = omega arith

      in_graft_pays : (f : Config) → InGraft m r.kernel p f → d < length f.levels →
          PaysTo m r (drop_call m p (r.kernel.call p) (Some d) cause r)
      in_graft_pays f i low =
          let here = sound_stands m r.kernel r.blocks sound whole in
          let c = i.call in
          let t = i.trace in
          let levels = subst (λ (x : Config). d < length x.levels) (sym i.config) low in
          let trace = own_trace m know r sound whole here p c i.marks t i.is i.marked i.leads in
          let o = drop_level r.kernel.world t.config.now t.config.levels d cause in
          let u = outcome_step m p c t i.marks o r in
          let same : drop_call m p (r.kernel.call p) (Some d) cause r ≡ requeue p u =
          ap (λ x. drop_call m p x (Some d) cause r) i.is ∙ ap (λ x. drop_marked m p c x
          (trace_of m r.kernel p (Some c)) (Some d) cause r) i.marked
          ∙ ap (λ y. drop_marked m p c (Some i.marks) y (Some d) cause r) trace in
          subst (PaysTo m r) (sym same)
          (outcome_pays m know r sound whole here p c i.is i.marks t i.marked i.leads o o.said
          refl (drop_likely m know r sound whole here p c i.marks t i.is i.marked i.leads
          d cause levels)
          (drop_paid m know r sound whole here p c i.is i.marks t i.marked i.leads d cause levels)
          (λ q ne. subst (λ (x : Run). IsStable m r.kernel x.kernel q) same
          (stability.drops r q p (Some d) cause know.laws sound whole ne)))

      by_config : (x : Option Config) → config_of m r.kernel p ≡ x → d < length (levels_in x) →
          PaysTo m r (drop_call m p (r.kernel.call p) (Some d) cause r)
      by_config None e low = absurd (none_lower d low)
      by_config (Some f) e low = in_graft_pays f (in_graft m r.kernel p f e) low

  -- a waiter without a level ends
  ends_pays : (r : Run) (p : ℕ) (b : Blocker) (c : Call) → IsSoundKernel m r.kernel →
      HasWholeBlocks r.kernel.world r.blocks → r.kernel.call p ≡ Some c → c.marks ≡ None →
      PaysTo m r (times_out m p b c r)
  ends_pays r p b c sound whole is marked =
      let x = Refused c.number (TimedOut b.object b.holder) in
      let l = (times_out m p b c r).kernel in
      paid (note_count is_drop (times_out m p b c r).notes) (note_count is_drop r.notes)
      (note_count is_drop (x ∷ [])) (grafts_left m l) (grafts_left m r.kernel)
      (calls_left l.call) (calls_left r.kernel.call)
      (sum_pairs (λ q pt. 0)) (once_if (is_some (l.call p)))
      (count_more is_drop r.notes (x ∷ [])) refl (pairs_none (λ q pt. 0) (λ q pt. refl))
      (pairs_fall (λ q pt. once_if (stands_for_all m l q pt))
      (λ q pt. once_if (stands_for_all m r.kernel q pt)) (λ q pt. 0) (λ q pt. 0)
      (λ q pt low low_pt. once_less (stands_for_all m l q pt) (stands_for_all m r.kernel q pt) 0 0 (point q pt) refl))
      (calls_by m know.laws know.histories r sound p c is l.call (λ i ne. at_other p i None
      r.kernel.call ne) (sound.state.store.numbers p (sound.callers p c is)))
      (ap (λ y. once_if (is_some y)) (at_here p None r.kernel.call))
    where
      paid : (n a b g h x y z o : ℕ) → n ≡ a + b → b ≡ 0 → z ≡ 0 → g + z ≤ h + z → x + 1 ≡ y + o →
          o ≡ 0 → n + (g + x) ≤ a + (h + y)
      paid n a b g h x y z o e f k l s t = omega arith

      none_now : config_of m r.kernel p ≡ None
      none_now =
          ap (λ x. config_in (trace_of m r.kernel p x)) is
          ∙ ap (λ (x : Option (List Mark)). config_in (elim x as (λ _. Option Trace) [
            | None ↦ None
            | Some y ↦ replay m r.kernel.world r.kernel.images r.kernel.objects p c.stage y
          ])) marked

      point : (q pt : ℕ) → stands_for_all m (times_out m p b c r).kernel q pt ≡ true →
          stands_for_all m r.kernel q pt ≡ true
      point q pt h =
          stands_from m r.kernel q pt (stands_committed m (times_out m p b c r).kernel q pt h)
          (λ i. elim (cases_eq i p) [
            | inl same ↦ ap (λ j. stands_in (config_of m r.kernel j) q pt) same ∙ ap (λ y. stands_in y q pt) none_now
            | inr ne ↦ other_by i (config_of m r.kernel i) refl (ap (λ y. config_in
                (trace_of m (times_out m p b c r).kernel i y)) (at_other p i None r.kernel.call ne))
          ])
        where
          other_by : (i : ℕ) (y : Option Config) → config_of m r.kernel i ≡ y →
              config_of m (times_out m p b c r).kernel i ≡ config_of m r.kernel i →
              stands_in y q pt ≡ true
          other_by i None e same = refl
          other_by i (Some f) e same =
              sym (ap (λ y. stands_in y q pt) (same ∙ e)) ∙ stands_call m
              (times_out m p b c r).kernel q pt i (caller_low m r.kernel sound i f e) h

  -- ---- an action of a tick

  -- any action leaves a sound kernel, and pays
  pub record ActsWell (r u : Run) : Type 0 where
    pub sound : IsSoundKernel m u.kernel
    pub pays : PaysTo m r u

  acts_self : (r : Run) → IsSoundKernel m r.kernel → ActsWell r r
  acts_self r sound = record { sound = sound; pays = same_most (note_count is_drop r.notes + drops_left m r.kernel) }

  acts_drop : (r : Run) (p : ℕ) (d : Option ℕ) (cause : Cause) →
      IsSoundKernel m r.kernel → HasWholeBlocks r.kernel.world r.blocks →
      ((n : ℕ) → d ≡ Some n → n < length (levels_of m r.kernel p)) →
      ActsWell r (drop_call m p (r.kernel.call p) d cause r)
  acts_drop r p d cause sound whole low =
      record {
        sound = drop_sound m know stability r p d cause sound whole low;
        pays = drop_pays r p d cause sound whole low;
      }

  waiter_acts : (r : Run) (p : ℕ) (b : Blocker) (x : Option Call) → IsSoundKernel m r.kernel →
      HasWholeBlocks r.kernel.world r.blocks → r.kernel.call p ≡ x →
      ActsWell r (waiter_action m p b x r)
  waiter_acts r p b None sound whole is = acts_self r sound
  waiter_acts r p b (Some c) sound whole is = by_marks c.marks refl
    where
      by_marks : (x : Option (List Mark)) → c.marks ≡ x → ActsWell r (elim x as (λ _. Run) [
        | None ↦ times_out m p b c r
        | Some ks ↦ drop_call m p (Some c) (innermost (levels_of m r.kernel p)) (TimeOut b.object b.holder) r
      ])
      by_marks None marked =
          record {
            sound = ends_sound m know stability r p b c sound whole is;
            pays = ends_pays r p b c sound whole is marked;
          }
      by_marks (Some ks) marked =
          subst (λ x. ActsWell r (drop_call m p x (innermost (levels_of m r.kernel p))
          (TimeOut b.object b.holder) r)) is
          (acts_drop r p (innermost (levels_of m r.kernel p)) (TimeOut b.object b.holder) sound
          whole (innermost_below (levels_of m r.kernel p)))

  pub entry_acts : (r : Run) (e : Waiter) (x : Option Blocker) → IsSoundKernel m r.kernel →
      HasWholeBlocks r.kernel.world r.blocks → ActsWell r (entry_action m e x r)
  entry_acts r e None sound whole = acts_self r sound
  entry_acts r e (Some b) sound whole = by_call b.call
    where
      by_call : (n : Option ℕ) → ActsWell r (action m e.process b n r)
      by_call None = waiter_acts r e.process b (r.kernel.call e.process) sound whole refl
      by_call (Some n) =
          let mode = wanted b.object (needs m r.kernel e.process) in
          acts_drop r b.holder (outermost_holding b.object mode (holds m r.kernel b.holder))
          (TimeOut b.object e.process) sound whole
          (λ d found. conflict_below m r.kernel b.holder d b.object mode (found_passes (λ d.
          conflicts (holds m r.kernel b.holder d b.object) mode) (0 ∷ 1 ∷ 2 ∷ 3 ∷ []) d found))

  pub actions_pay : (n : ℕ) (r : Run) → IsSoundKernel m r.kernel →
      HasWholeBlocks r.kernel.world r.blocks → PaysTo m r (actions m n r)
  actions_pay zero r sound whole = same_most (note_count is_drop r.notes + drops_left m r.kernel)
  actions_pay (suc n) r sound whole = pay_by (expired r.kernel r.kernel.order) (λ u. actions_pay n u)
    where
      pay_by : (x : Option Waiter) → ((u : Run) → IsSoundKernel m u.kernel →
          HasWholeBlocks u.kernel.world u.blocks → PaysTo m u (actions m n u)) →
          PaysTo m r (elim x as (λ _. Run) [
            | None ↦ r
            | Some e ↦ actions m n (settled m (entry_action m e e.blocker r))
          ])
      pay_by None more = same_most (note_count is_drop r.notes + drops_left m r.kernel)
      pay_by (Some e) more =
          let u = entry_action m e e.blocker r in
          let acts = entry_acts r e e.blocker sound whole in
          let goes = entry_goes m know.laws know.instructions know.histories know.effects e
          e.blocker r (sound_stands m r.kernel r.blocks sound whole) in
          let after = settled_goes m know.laws know.instructions know.histories u u (goes_self m u goes.stands) in
          at_most_then (note_count is_drop (actions m n (settled m u)).notes + drops_left m
          (actions m n (settled m u)).kernel)
          (note_count is_drop (settled m u).notes + drops_left m (settled m u).kernel)
          (note_count is_drop r.notes + drops_left m r.kernel) (more (settled m u)
          (settle_sound m know stability 256 u acts.sound goes.stands.whole) after.stands.whole)
          (settled_pays r u acts.sound goes.stands.whole acts.pays)
