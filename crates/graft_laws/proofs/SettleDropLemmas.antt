-- Settling drops at most one level of each call that waits in a graft.
use Rattle.std.specs.Prelude.{◌≡◌, ℕ, zero, suc, ◌+◌, ◌≤◌, ◌&&◌, Bool, true, false, cond, List, []}
use Rattle.std.specs.Prelude.{◌∷◌, ◌++◌, length, Option, Some, None, Result, Ok, Err}
use Rattle.std.proofs.Common.{arith, refl, subst, sym, ap, ◌∙◌, inl, inr}
use Rattle.std.proofs.lemmas.Bool.{cases_eq}
use Rattle.kernel_model.specs.declared.Note.{Note}
use Rattle.kernel_model.specs.declared.Note.TheVariants.{Refused, Waits, InGraft}
use Rattle.kernel_model.specs.declared.Refusal.{Refusal}
use Rattle.kernel_model.specs.declared.Refusal.TheVariants.{NoProcess, Busy}
use Rattle.kernel_model.specs.declared.SysCall.{SysCall}
use Rattle.kernel_model.specs.Policies.{lives}
use Rattle.kernel_model.specs.Meaning.{Meaning, Stage}
use Rattle.kernel_model.specs.Levels.{Level}
use Rattle.kernel_model.specs.History.{Mark}
use Rattle.kernel_model.specs.Kernel.{Call, Blocker, Waiter, Run, is_at_piece, has_level, noted, joins, with_call}
use Rattle.kernel_model.specs.Blocking.{levels_of, blocker}
use Rattle.kernel_model.specs.Settle.{call_step, step, first_free, rested, settle, settled}
use Rattle.kernel_model.specs.Events.{in_order, waits_note, graft_note, last_note, begun, sys_event}
use Rattle.kernel_model.specs.Sound.{once_if, sum_below}
use Rattle.kernel_model.specs.Laws.{Laws}
use Rattle.call_laws.specs.Ledgers.{sum_one}
use Rattle.kernel_laws.specs.Soundness.{InstructionsWork, HistoriesWork}
use Rattle.graft_laws.specs.Notes.{is_drop, note_count, CallsLeaveFewDrops}
use Rattle.graft_laws.proofs.MoveLemmas.{count_more, StandsAt}
use Rattle.graft_laws.proofs.StepMoveLemmas.{call_moves}
use Rattle.kernel_laws.proofs.SettleLemmas.{first_stands}
use Rattle.graft_laws.proofs.GoLemmas.{step_goes}
use Rattle.graft_laws.proofs.NoteLemmas.{sum_ones, begun_stands, sound_stands}
use Rattle.call_laws.specs.AskRanges.{once_few}
use Rattle.kernel_laws.proofs.SettleLemmas.{order_after, own_in_after, other_in_after}

-- how many calls wait in a graft
abbrev waits_in_graft : (ℕ → Option Call) → List Waiter → ℕ → ℕ
waits_in_graft call order p = once_if (in_order p order && has_level (call p))

abbrev waiting : (ℕ → Option Call) → List Waiter → ℕ
waiting call order = sum_below 16 (waits_in_graft call order)

-- drops so far, and calls that wait in a graft
abbrev drops_to_come : Run → ℕ
drops_to_come r = note_count is_drop r.notes + waiting r.kernel.call r.kernel.order

-- a call at a piece isn't in a graft
at_piece_or_graft : (x : Option Call) → (is_at_piece x && has_level x) ≡ false
at_piece_or_graft None = refl
at_piece_or_graft (Some c) = by_marks c.marks
  where
    by_marks : (ks : Option (List Mark)) → (elim ks as (λ _. Bool) [ None ↦ true | Some y ↦ false ]
        && elim ks as (λ _. Bool) [ None ↦ false | Some y ↦ true ]) ≡ false
    by_marks None = refl
    by_marks (Some ks) = refl

-- smaller numbers have a smaller sum
sum_less : (n : ℕ) (f g : ℕ → ℕ) → ((i : ℕ) → f i ≤ g i) → sum_below n f ≤ sum_below n g
unfolding sum_below
sum_less zero f g h = omega arith
sum_less (suc n) f g h = let k = sum_less n f g h in let e = h n in omega arith

-- what p itself is in the order after a step
own_waits : (call : ℕ → Option Call) (order : List Waiter) (p : ℕ) →
    waits_in_graft call (order_after p (is_at_piece (call p)) order) p ≡ 0
own_waits call order p =
    ap (λ b. once_if (b && has_level (call p))) (own_in_after p (is_at_piece (call p)) order)
    ∙ ap once_if (at_piece_or_graft (call p))

-- where there is no call
waits_less : (call : ℕ → Option Call) (order : List Waiter) (p : ℕ) →
    waiting call (order_after p (is_at_piece (call p)) order) ≤ waiting call order
waits_less call order p =
    sum_less 16 (waits_in_graft call (order_after p (is_at_piece (call p)) order))
    (waits_in_graft call order) (λ q. less_by q)
  where
    none_most : (a b : ℕ) → a ≡ 0 → a ≤ b
    none_most a b e = omega arith

    same_most : (a b : ℕ) → a ≡ b → a ≤ b
    same_most a b e = omega arith

    less_by : (q : ℕ) → waits_in_graft call (order_after p (is_at_piece (call p)) order) q ≤ waits_in_graft call order q
    less_by q = elim (cases_eq q p) [
      | inl same ↦ none_most (waits_in_graft call (order_after p (is_at_piece (call p)) order) q)
          (waits_in_graft call order q)
          (ap (waits_in_graft call (order_after p (is_at_piece (call p)) order)) same ∙ own_waits call order p)
      | inr ne ↦ same_most (waits_in_graft call (order_after p (is_at_piece (call p)) order) q)
          (waits_in_graft call order q)
          (ap (λ b. once_if (b && has_level (call q))) (other_in_after p q (is_at_piece (call p)) order ne))
    ]

module _ (m : Meaning) (laws : Laws m) (instructions : InstructionsWork) (histories : HistoriesWork m) where
  -- a step of a call in the order
  step_drops_by : (p : ℕ) (x : Option Call) (r : Run) → StandsAt m r → r.kernel.call p ≡ x →
      in_order p r.kernel.order ≡ true → drops_to_come (step m p r) ≤ drops_to_come r
  step_drops_by p None r h e stands =
      subst (λ u. note_count is_drop u.notes + waiting u.kernel.call
      (order_after p (is_at_piece (u.kernel.call p)) u.kernel.order) ≤ drops_to_come r)
      (ap (λ x. call_step m p x r) (sym e))
      (fewer (note_count is_drop r.notes) (waiting r.kernel.call (order_after p
      (is_at_piece (r.kernel.call p)) r.kernel.order)) (waiting r.kernel.call r.kernel.order)
      (waits_less r.kernel.call r.kernel.order p))
    where
      fewer : (n a b : ℕ) → a ≤ b → n + a ≤ n + b
      fewer n a b h = omega arith
  step_drops_by p (Some c) r h e stands =
      let u = call_step m p (r.kernel.call p) r in
      let k = call_moves m laws instructions histories p c r h e in
      let b = is_at_piece (u.kernel.call p) in
      let after = waits_in_graft u.kernel.call (order_after p b u.kernel.order) in
      let before = waits_in_graft r.kernel.call r.kernel.order in
      let sums = sum_one 16 p after before (h.store.numbers p (h.callers p c e)) (λ q low ne.
      ap (λ x. once_if (x && has_level (u.kernel.call q)))
      (other_in_after p q b u.kernel.order ne ∙ ap (in_order q) k.order)
      ∙ ap (λ x. once_if (in_order q r.kernel.order && has_level x)) (k.calls q ne)) in
      paid (note_count is_drop u.notes) (note_count is_drop r.notes) (note_count is_drop k.new)
      (sum_below 16 after) (sum_below 16 before) (after p) (before p)
      (once_if (has_level (r.kernel.call p)))
      (ap (note_count is_drop) k.notes ∙ count_more is_drop r.notes k.new) sums
      (own_waits u.kernel.call u.kernel.order p)
      (ap (λ x. once_if (x && has_level (r.kernel.call p))) stands) k.drops
    where
      paid : (n a b x y i j l : ℕ) → n ≡ a + b → x + j ≡ y + i → i ≡ 0 → j ≡ l → b ≤ l → n + x ≤ a + y
      paid n a b x y i j l e f g h le = omega arith

  -- settling drops no more than what was to come
  settle_drops : (n : ℕ) (r : Run) → StandsAt m r → note_count is_drop (settle m n r).notes ≤ drops_to_come r
  settle_drops zero r h = first_part (note_count is_drop r.notes) (waiting r.kernel.call r.kernel.order)
    where
      first_part : (a b : ℕ) → a ≤ a + b
      first_part a b = omega arith
  settle_drops (suc n) r h = settle_by (first_free m r.kernel r.kernel.order) refl (λ p. settle_drops n (step m p r))
    where
      first_part : (a b : ℕ) → a ≤ a + b
      first_part a b = omega arith

      at_most : (a b c : ℕ) → a ≤ b → b ≤ c → a ≤ c
      at_most a b c h k = omega arith

      settle_by : (x : Option ℕ) → first_free m r.kernel r.kernel.order ≡ x →
          ((p : ℕ) → StandsAt m (step m p r) →
          note_count is_drop (settle m n (step m p r)).notes ≤ drops_to_come (step m p r)) →
          note_count is_drop (elim x as (λ _. Run) [
            | None ↦ rested m r
            | Some p ↦ settle m n (step m p r)
          ]).notes ≤ drops_to_come r
      settle_by None e more = first_part (note_count is_drop r.notes) (waiting r.kernel.call r.kernel.order)
      settle_by (Some p) e more =
          at_most (note_count is_drop (settle m n (step m p r)).notes) (drops_to_come (step m p r)) (drops_to_come r)
          (more p (step_goes m laws instructions histories p r h).stands)
          (step_drops_by p (r.kernel.call p) r h refl (first_stands m r.kernel r.kernel.order p e))

  -- ---- a system call

  -- at most 16 calls wait in a graft
  waiting_most : (call : ℕ → Option Call) (order : List Waiter) → waiting call order ≤ 16
  waiting_most call order =
      sum_ones 16 (waits_in_graft call order)
      (λ p. once_few (in_order p order && has_level (call p)))

  begun_drops : (number p : ℕ) (call : SysCall) (x : Result Stage Refusal) (r : Run) →
      StandsAt m r → r.notes ≡ [] → lives r.kernel.objects.things.queue p ≡ true →
      m.early r.kernel.world r.kernel.images p call ≡ x → note_count is_drop (begun m number p x r).notes ≤ 16
  begun_drops number p call (Err why) r h none alive e =
      subst (λ ns. note_count is_drop (ns ++ Refused number why ∷ []) ≤ 16) (sym none) zero_few
    where
      zero_few : 0 ≤ 16
      zero_few = omega arith
  begun_drops number p call (Ok t) r h none alive e =
      let u = joins p (with_call p (Some (record { number = number; stage = t; marks = None })) r) in
      at_most (note_count is_drop (settled m u).notes) (note_count is_drop u.notes)
      (waiting u.kernel.call u.kernel.order)
      (settle_drops 256 u (begun_stands m laws number p call t r h alive e))
      (ap (note_count is_drop) none) (waiting_most u.kernel.call u.kernel.order)
    where
      at_most : (n a b : ℕ) → n ≤ a + b → a ≡ 0 → b ≤ 16 → n ≤ 16
      at_most n a b h e k = omega arith

  -- the last line is of no drop
  no_drop_more : (ns : List Note) (x : Note) → is_drop x ≡ false → note_count is_drop ns ≤ 16 →
      note_count is_drop (ns ++ x ∷ []) ≤ 16
  no_drop_more ns x other h =
      as_many (note_count is_drop (ns ++ x ∷ [])) (note_count is_drop ns)
      (note_count is_drop (x ∷ [])) (count_more is_drop ns (x ∷ [])) (ap (λ b. cond b 1 0) other) h
    where
      as_many : (n a b : ℕ) → n ≡ a + b → b ≡ 0 → a ≤ 16 → n ≤ 16
      as_many n a b e f h = omega arith

  last_drops : (p : ℕ) (x : Option Call) (r : Run) → note_count is_drop r.notes ≤ 16 →
      note_count is_drop (last_note m p x r).notes ≤ 16
  last_drops p None r h = h
  last_drops p (Some c) r h = last_by (in_order p r.kernel.order)
    where
      waits_drops : (b : Option Blocker) → note_count is_drop (waits_note c.number b r).notes ≤ 16
      waits_drops None = h
      waits_drops (Some b) = no_drop_more r.notes (Waits c.number b.object b.holder) refl h

      graft_drops : (ls : List Level) → note_count is_drop (graft_note c.number ls r).notes ≤ 16
      graft_drops [] = h
      graft_drops (l ∷ ls) = no_drop_more r.notes (InGraft c.number l.owner l.point (suc (length ls))) refl h

      last_by : (b : Bool) →
          note_count is_drop (elim b as (λ _. Run) [
            | true ↦ waits_note c.number (blocker m r.kernel p) r
            | false ↦ graft_note c.number (levels_of m r.kernel p) r
          ]).notes ≤ 16
      last_by true = waits_drops (blocker m r.kernel p)
      last_by false = graft_drops (levels_of m r.kernel p)

  sys_drops : (number p : ℕ) (call : SysCall) (x : Option Call) (r : Run) → StandsAt m r →
      r.notes ≡ [] → lives r.kernel.objects.things.queue p ≡ true →
      note_count is_drop (sys_event m number p call x r).notes ≤ 16
  sys_drops number p call (Some c) r h none alive =
      subst (λ ns. note_count is_drop (ns ++ Refused number (Busy c.number) ∷ []) ≤ 16)
      (sym none) zero_few
    where
      zero_few : 0 ≤ 16
      zero_few = omega arith
  sys_drops number p call None r h none alive =
      let u = begun m number p (m.early r.kernel.world r.kernel.images p call) r in
      last_drops p (u.kernel.call p) u (begun_drops number p call
      (m.early r.kernel.world r.kernel.images p call) r h none alive refl)

-- a system call leaves at most 16 drops
pub calls_leave_few_drops : (m : Meaning) → Laws m → InstructionsWork → HistoriesWork m → CallsLeaveFewDrops m
calls_leave_few_drops m laws instructions histories k blocks number p call io sound whole =
    sys_by (lives k.objects.things.queue p) refl
  where
    zero_few : 0 ≤ 16
    zero_few = omega arith

    sys_by : (alive : Bool) → lives k.objects.things.queue p ≡ alive → let r : Run =
        record { kernel = k; blocks = blocks; notes = []; io = io } in
        note_count is_drop (elim alive as (λ _. Run) [
          | false ↦ noted (Refused number NoProcess) r
          | true ↦ sys_event m number p call (k.call p) r
        ]).notes ≤ 16
    sys_by false e = zero_few
    sys_by true e =
        sys_drops m laws instructions histories number p call (k.call p)
        (record { kernel = k; blocks = blocks; notes = []; io = io })
        (sound_stands m k blocks sound whole) refl e
