-- A kernel that rests has no step to take, and goes on to rest where a step leaves what its call holds.
use Rattle.std.specs.Prelude.{◌≡◌, ◌≢◌, ℕ, zero, suc, ◌<◌, ◌≤◌, ◌==◌, ◌&&◌, nat_lt, Bool}
use Rattle.std.specs.Prelude.{true, false, cond, List, [], ◌∷◌, ◌++◌, map, length, option_map}
use Rattle.std.specs.Prelude.{Option, Some, None, is_some, Contains}
use Rattle.std.specs.List.{AllByRecursion}
use Rattle.std.proofs.Common.{append-nil, arith, refl, subst, sym, ap, ◌∙◌, inl, inr}
use Rattle.std.proofs.lemmas.Bool.{cases_Bool}
use Rattle.std.proofs.lemmas.Bool.Decides.{nat_tests}
use Rattle.std.proofs.lemmas.List.Elements.{All-contains, All-from_recursion}
use mathlib.Core.Path.{fun_ext}
use Rattle.kernel_model.specs.declared.Micro.{Micro}
use Rattle.kernel_model.specs.declared.Need.{Need}
use Rattle.kernel_model.specs.declared.Object.{Object}
use Rattle.kernel_model.specs.Objects.{Things, at, same_object}
use Rattle.kernel_model.specs.UndoLog.{undo_all}
use Rattle.kernel_model.specs.SameObject.{same_object_self}
use Rattle.kernel_model.specs.Meaning.{Meaning, After, Continues, EndsWith, Fails}
use Rattle.kernel_model.specs.Locks.{LockTable, Hindrance, first_hindrance}
use Rattle.kernel_model.specs.Levels.{Level, Outcome, answer_of, touched_at}
use Rattle.kernel_model.specs.GraftStep.{next_needs, lock_user, micro}
use Rattle.kernel_model.specs.History.{Mark, Stepped, Trace, fallen}
use Rattle.kernel_model.specs.Kernel.{Call, Blocker, Waiter, Kernel, Run, call_after, has_level}
use Rattle.kernel_model.specs.Kernel.{is_at_piece, less_entry, new_entry, requeue, with_marks}
use Rattle.kernel_model.specs.Blocking.{config_in, levels_in, trace_of, config_of, levels_of}
use Rattle.kernel_model.specs.Blocking.{holds, needs_at, needs_in, needs, number_of_call}
use Rattle.kernel_model.specs.Blocking.{blocker_from, blocker, same_blocker, same_call}
use Rattle.kernel_model.specs.Settle.{lost_objects, entry_with, after_outcome, graft_step, marked_step, call_step, step}
use Rattle.kernel_model.specs.Events.{in_order}
use Rattle.kernel_model.specs.Sound.{IsAtRest}
use Rattle.kernel_model.specs.Alike.{is_needed}
use Rattle.kernel_model.specs.Laws.{Laws}
use Rattle.call_laws.specs.Ledgers.{at_here, at_other}
use Rattle.kernel_laws.proofs.LevelLemmas.{each_from}
use Rattle.graft_laws.proofs.OrderLemmas.{less_away}
use Rattle.graft_laws.proofs.InPlaceLemmas.{row_low, row_high}
use Rattle.graft_laws.proofs.SteadyLemmas.{alike_touched}
use Rattle.placed_laws.specs.Placed.{has_some, PlacedCall, PlacedLevel, Placed, PlacedRun, bare}
use Rattle.placed_laws.specs.Placed.{levels_with, placed_config, placed_levels, placed_holds}
use Rattle.placed_laws.specs.Placed.{placed_needs_at, placed_needs_in, placed_needs}
use Rattle.placed_laws.specs.Placed.{placed_blocker, placed_blocker_in}
use Rattle.placed_laws.specs.PlacedSteps.{placed_after_outcome, placed_call_step}
use Rattle.placed_laws.specs.PlacedSteps.{placed_first_free_in, placed_outcome, placed_requeue}
use Rattle.placed_laws.specs.PlacedSteps.{placed_rested_order, placed_step, placed_step_by}
use Rattle.placed_laws.specs.PlacedEvents.{placed_rested, placed_settle, placed_settled}
use Rattle.placed_laws.specs.Stands.{RunStandsFor}
use Rattle.placed_laws.specs.Resting.{KeepsHolds, IsStill, Resting}
use Rattle.placed_laws.proofs.BlockerLemmas.{same_blockers}
use Rattle.placed_laws.proofs.LevelLemmas.{laid_alike, length_bare}
use Rattle.placed_laws.proofs.RowLemmas.{same_shown}
use Rattle.placed_laws.proofs.OtherLemmas.{blocker_there}
use Rattle.placed_laws.proofs.SettleLemmas.{settled_stands}
use Rattle.placed_laws.proofs.StandLemmas.{steps_stand}
use Rattle.placed_laws.proofs.TouchLemmas.{instruction_alike}
use Rattle.graft_laws.proofs.SettleSoundLemmas.{away_from}
use Rattle.graft_laws.proofs.ShapeLemmas.{contrary}

-- ---- no step to take

same_call_self : (a : Option ℕ) → same_call a a ≡ true
same_call_self None = refl
same_call_self (Some n) = number_self n
  where
    number_self : (n : ℕ) → (n == n) ≡ true
    number_self n = grind (arith, nat_tests)

same_blocker_self : (b : Option Blocker) → same_blocker b b ≡ true
same_blocker_self None = refl
same_blocker_self (Some b) =
    all_three (same_object b.object b.object) (b.holder == b.holder) (same_call b.call b.call)
    (same_object_self b.object) (number_self b.holder) (same_call_self b.call)
  where
    number_self : (n : ℕ) → (n == n) ≡ true
    number_self n = grind (arith, nat_tests)

    all_three : (a b c : Bool) → a ≡ true → b ≡ true → c ≡ true → (a && b && c) ≡ true
    all_three true true true e f g = refl
    all_three false b c e f g = absurd cc
    all_three true false c e f g = absurd cc
    all_three true true false e f g = absurd cc

-- an entry with the blocker that it keeps
entry_same : (e : Waiter) (b : Option Blocker) → b ≡ e.blocker → entry_with e b ≡ e
entry_same e b h =
    ap (entry_with e) h
    ∙ ap (λ (s : Bool). elim s as (λ _. Waiter) [
      | true ↦ e
      | false ↦ record { process = e.process; blocker = e.blocker; count = 0 }
    ]) (same_blocker_self e.blocker)

module _ (m : Meaning) where
  -- an entry is blocked, by what it keeps
  abbrev IsKept : Placed → LockTable → Waiter → Type 0
  IsKept x locks e = (is_some e.blocker ≡ true) × (placed_blocker_in m x locks e.process ≡ e.blocker)

  none_free : (x : Placed) (locks : LockTable) (es : List Waiter) → AllByRecursion (IsKept x locks) es →
      placed_first_free_in m x locks es ≡ None
  none_free x locks [] h = refl
  none_free x locks (e ∷ es) h =
      ap (λ b. elim b as (λ _. Option ℕ) [ None ↦ Some e.process | Some y ↦ placed_first_free_in m x locks es ]) h.0.1
      ∙ by_kept e.blocker h.0.0 (none_free x locks es h.1)
    where
      by_kept : (b : Option Blocker) → is_some b ≡ true → placed_first_free_in m x locks es ≡ None →
          elim b as (λ _. Option ℕ) [
            | None ↦ Some e.process
            | Some y ↦ placed_first_free_in m x locks es
          ] ≡ None
      by_kept None some rest = absurd cc
      by_kept (Some y) some rest = rest

  entries_same : (x : Placed) (es : List Waiter) → AllByRecursion (IsKept x (placed_holds x)) es →
      placed_rested_order m x es ≡ es
  entries_same x [] h = refl
  entries_same x (e ∷ es) h =
      ap (λ f. f ∷ placed_rested_order m x es)
      (entry_same e (placed_blocker_in m x (placed_holds x) e.process) h.0.1)
      ∙ ap (λ fs. e ∷ fs) (entries_same x es h.1)

  -- a kernel in place of which each entry is blocked stays as it is
  stays_rested : (n : ℕ) (x : PlacedRun) →
      AllByRecursion (IsKept x.placed (placed_holds x.placed)) x.placed.order → placed_settle m n x ≡ x
  stays_rested zero x h =
      ap (λ es. record x { placed = record (x.placed) { order = es } })
      (entries_same x.placed x.placed.order h)
  stays_rested (suc n) x h =
      ap (λ o. elim o as (λ _. PlacedRun) [
        | None ↦ placed_rested m x
        | Some p ↦ placed_settle m n (placed_step m p x)
      ]) (none_free x.placed (placed_holds x.placed) x.placed.order h)
      ∙ ap (λ es. record x { placed = record (x.placed) { order = es } }) (entries_same x.placed x.placed.order h)

  rested_there : Laws m → (x : PlacedRun) (r : Run) → RunStandsFor m x r → IsAtRest m r.kernel → placed_settled m x ≡ x
  rested_there laws x r h rests =
      stays_rested 256 x
      (each_from (IsKept x.placed (placed_holds x.placed)) x.placed.order (λ e c.
      let k = rests e (subst (λ (es : List Waiter). Contains es e) h.kernel.order c) in
      (k.0, blocker_there m laws x r e.process h ∙ k.1)))

-- ---- a call's history changes alone

module _ (m : Meaning) (k : Kernel) (p : ℕ) (f : ℕ → Option Call)
    (es : List Waiter) (same : (q : ℕ) → q ≢ p → f q ≡ k.call q)
    (number : number_of_call (f p) ≡ number_of_call (k.call p)) where
  -- the kernel with these calls and this order
  abbrev changed : Kernel
  changed = record k { call = f; order = es }

  config_there : (q : ℕ) → q ≢ p → config_of m changed q ≡ config_of m k q
  config_there q ne = ap (λ (y : Option Call). config_in (trace_of m k q y)) (same q ne)

  levels_there : (q : ℕ) → q ≢ p → levels_of m changed q ≡ levels_of m k q
  levels_there q ne = ap levels_in (config_there q ne)

  needs_there : (q : ℕ) → q ≢ p → needs m changed q ≡ needs m k q
  needs_there q ne = ap (needs_in m changed q) (same q ne) ∙ by_call (k.call q)
    where
      by_marks : (c : Call) (y : Option (List Mark)) →
          elim y as (λ _. List Need) [
            | None ↦ m.need k.world k.objects q c.stage
            | Some ks ↦ needs_at m changed (config_of m changed q)
          ]
          ≡ elim y as (λ _. List Need) [
            | None ↦ m.need k.world k.objects q c.stage
            | Some ks ↦ needs_at m k (config_of m k q)
          ]
      by_marks c None = refl
      by_marks c (Some ks) = ap (needs_at m k) (config_there q ne)

      by_call : (y : Option Call) → needs_in m changed q y ≡ needs_in m k q y
      by_call None = refl
      by_call (Some c) = by_marks c c.marks

  numbers_there : (q : ℕ) → number_of_call (f q) ≡ number_of_call (k.call q)
  numbers_there q =
      elim (cases_Bool (q == p)) [
        | inl e ↦ subst (λ i. number_of_call (f i) ≡ number_of_call (k.call i)) (sym (one q p e)) number
        | inr e ↦ ap number_of_call (same q (apart q p e))
      ]
    where
      one : (a b : ℕ) → (a == b) ≡ true → a ≡ b
      one a b h = grind (arith, nat_tests)

      apart : (a b : ℕ) → (a == b) ≡ false → a ≢ b
      apart a b h e = grind (arith, nat_tests)

  module _ (held : (d : ℕ) (o : Object) → holds m changed p d o ≡ holds m k p d o) where
    holds_there : holds m changed ≡ holds m k
    holds_there = fun_ext (λ q. fun_ext (λ d. fun_ext (λ o. held_by q d o)))
      where
        below : (q : ℕ) → nat_lt q 16 ≡ true → q < 16
        below q h = grind (arith, nat_tests)

        beyond : (q : ℕ) → nat_lt q 16 ≡ false → 16 ≤ q
        beyond q h = grind (arith, nat_tests)

        one : (a b : ℕ) → (a == b) ≡ true → a ≡ b
        one a b h = grind (arith, nat_tests)

        apart : (a b : ℕ) → (a == b) ≡ false → a ≢ b
        apart a b h e = grind (arith, nat_tests)

        by_other : (q d : ℕ) (o : Object) → q ≢ p → holds m changed q d o ≡ holds m k q d o
        by_other q d o ne = elim (cases_Bool (nat_lt q 16)) [
          | inl low ↦ ap (λ ls. touched_at ls d o) (row_low (levels_of m changed) q (below q low)
              ∙ levels_there q ne ∙ sym (row_low (levels_of m k) q (below q low)))
          | inr high ↦
              ap (λ ls. touched_at ls d o) (row_high (levels_of m changed) q (beyond q high)
              ∙ sym (row_high (levels_of m k) q (beyond q high)))
        ]

        held_by : (q d : ℕ) (o : Object) → holds m changed q d o ≡ holds m k q d o
        held_by q d o =
            elim (cases_Bool (q == p)) [
              | inl e ↦
                  subst (λ i. holds m changed i d o ≡ holds m k i d o) (sym (one q p e)) (held d o)
              | inr e ↦ by_other q d o (apart q p e)
            ]

    -- all others are blocked as they were
    pub blocker_same : (q : ℕ) → q ≢ p → blocker m changed q ≡ blocker m k q
    blocker_same q ne =
        ap (λ (g : Hindrance → Blocker). option_map g (first_hindrance (holds m changed)
        k.objects.things.lock q (lock_user q (levels_of m changed q)) (needs m changed q)))
        from_there
        ∙ ap (λ t. blocked t (levels_of m changed q) (needs m changed q)) holds_there
        ∙ ap (λ ls. blocked (holds m k) ls (needs m changed q)) (levels_there q ne)
        ∙ ap (blocked (holds m k) (levels_of m k q)) (needs_there q ne)
      where
        from_there : blocker_from changed ≡ blocker_from k
        from_there =
            fun_ext (λ h. ap (λ c. record {
              object = h.object;
              holder = h.holder;
              call = cond h.by_user None c;
            }) (numbers_there h.holder))

        blocked : LockTable → List Level → List Need → Option Blocker
        blocked t ls ns = option_map (blocker_from k) (first_hindrance t k.objects.things.lock q (lock_user q ls) ns)

-- ---- a step of a call that keeps its levels

-- of a kernel a call's history alone has changed
record OneHistory (k u : Kernel) (p : ℕ) : Type 0 where
  call : ℕ → Option Call
  is : u ≡ record k { call = call }
  same : (q : ℕ) → q ≢ p → call q ≡ k.call q
  number : number_of_call (call p) ≡ number_of_call (k.call p)

-- a call after its piece has no level
after_level : (c : Call) (a : After) → has_level (call_after c a) ≡ false
after_level c (Continues t) = refl
after_level c (EndsWith reply) = refl
after_level c (Fails refusal) = refl

module _ (m : Meaning) (r : Run) (p : ℕ) (c : Call) (there : r.kernel.call p ≡ Some c) where
  marked_history : (ks : List Mark) → OneHistory r.kernel (with_marks p c ks r).kernel p
  marked_history ks =
      let d : Call = record c { marks = Some ks } in
      record {
        call = at p (Some d) r.kernel.call;
        is = refl;
        same = λ q ne. at_other p q (Some d) r.kernel.call ne;
        number = ap number_of_call (at_here p (Some d) r.kernel.call) ∙ ap number_of_call (sym there);
      }

  -- a call that has a level after its outcome didn't end its piece
  outcome_history : (t : Trace) (ks : List Mark) (o : Outcome) (said : Micro) →
      has_level ((after_outcome m p c t ks o said r).kernel.call p) ≡ true →
      OneHistory r.kernel (after_outcome m p c t ks o said r).kernel p
  outcome_history t ks o Micro.Went level = marked_history (ks ++ Stepped ∷ [])
  outcome_history t ks o (Micro.Blocked object holder by_user) level =
      record { call = r.kernel.call; is = refl; same = λ q ne. refl; number = refl }
  outcome_history t ks o (Micro.Completed answer) level =
      let a = (m.piece r.kernel.world r.kernel.images o.config.now r.blocks p c.stage
      (Some (answer_of answer t.config.levels)) r.io).after in
      contrary (sym level ∙ ap has_level (at_here p (call_after c a) r.kernel.call) ∙ after_level c a)
  outcome_history t ks o (Micro.Dropped zero q pt cause) level =
      let a = (m.piece r.kernel.world r.kernel.images (lost_objects o.config.now r.kernel.objects)
      r.blocks p c.stage None r.io).after in
      contrary (sym level ∙ ap has_level (at_here p (call_after c a) r.kernel.call) ∙ after_level c a)
  outcome_history t ks o (Micro.Dropped (suc d) q pt cause) level =
      let h = marked_history (fallen t ks o.effects (suc d)) in
      record { call = h.call; is = h.is; same = h.same; number = h.number }

  graft_history : (ks : List Mark) (x : Option Trace) →
      has_level ((graft_step m p c ks x r).kernel.call p) ≡ true →
      OneHistory r.kernel (graft_step m p c ks x r).kernel p
  graft_history ks None level = record { call = r.kernel.call; is = refl; same = λ q ne. refl; number = refl }
  graft_history ks (Some t) level =
      let o = micro r.kernel.world r.kernel.images p t.config in
      outcome_history t ks o o.said level

  marked_step_history : (y : Option (List Mark)) → is_some y ≡ true →
      has_level ((marked_step m p c y r).kernel.call p) ≡ true →
      OneHistory r.kernel (marked_step m p c y r).kernel p
  marked_step_history None some level = absurd cc
  marked_step_history (Some ks) some level = graft_history ks (trace_of m r.kernel p (Some c)) level

-- ---- rest

level_no_piece : (x : Option Call) → has_level x ≡ true → is_at_piece x ≡ false
level_no_piece None h = absurd cc
level_no_piece (Some c) h = by_marks c.marks h
  where
    by_marks : (y : Option (List Mark)) →
        elim y as (λ _. Bool) [ None ↦ false | Some ks ↦ true ] ≡ true →
        elim y as (λ _. Bool) [ None ↦ true | Some ks ↦ false ] ≡ false
    by_marks None h = absurd cc
    by_marks (Some ks) h = refl

module _ (m : Meaning) (r u : Run) (p : ℕ) (one : OneHistory r.kernel u.kernel p)
    (level : has_level (u.kernel.call p) ≡ true) (away : in_order p r.kernel.order ≡ false) where
  -- the order stays
  order_stays : less_entry p r.kernel.order ++ cond (is_at_piece (one.call p)) (new_entry p ∷ []) [] ≡ r.kernel.order
  order_stays =
      ap (λ b. less_entry p r.kernel.order ++ cond b (new_entry p ∷ []) [])
      (level_no_piece (one.call p) (sym (ap (λ (y : Kernel). has_level (y.call p)) one.is) ∙ level))
      ∙ append-nil (less_entry p r.kernel.order) ∙ less_away p r.kernel.order (away_from p r.kernel.order away)

  left_is : (requeue p u).kernel ≡ record (r.kernel) { call = one.call }
  left_is =
      ap (λ (y : Kernel). record y {
        order =
            less_entry p y.order ++ cond (is_at_piece (y.call p)) (new_entry p ∷ []) [];
      }) one.is
      ∙ ap (λ (es : List Waiter). record (r.kernel) { call = one.call; order = es }) order_stays

  rest_stays : IsAtRest m r.kernel →
      ((d : ℕ) (o : Object) → holds m (requeue p u).kernel p d o ≡ holds m r.kernel p d o) →
      IsAtRest m (requeue p u).kernel
  rest_stays rests held =
      subst (λ (y : Kernel). IsAtRest m y) (sym left_is)
      (λ e among.
      let k = rests e among in
      let ne = All-contains (λ (x : Waiter). x.process ≢ p) r.kernel.order e (All-from_recursion
      (λ (x : Waiter). x.process ≢ p) r.kernel.order (away_from p r.kernel.order away)) among in (
        k.0,
        blocker_same m r.kernel p one.call r.kernel.order one.same one.number (λ d o.
            ap (λ (y : Kernel). holds m y p d o) (sym left_is) ∙ held d o) e.process ne ∙ k.1,
      ))

-- ---- what the levels hold after a step in place

some_there : (xs ys : List PlacedLevel) → length ys ≡ length xs → has_some xs ≡ true → has_some ys ≡ true
some_there [] ys e h = absurd cc
some_there (x ∷ xs) [] e h = absurd (no_zero (length xs) e)
  where
    no_zero : (n : ℕ) → 0 ≡ suc n → ⊥
    no_zero n h = omega arith
some_there (x ∷ xs) (y ∷ ys) e h = refl

pub laid_length : (w : Things) (bs : List PlacedLevel) → length (levels_with w bs) ≡ length bs
laid_length w [] = refl
laid_length w (b ∷ bs) = ap suc (laid_length (undo_all b.records w) bs)

-- levels over a store hold what they hold
laid_touched : (w : Things) (bs : List PlacedLevel) (ls : List Level) (d : ℕ) (o : Object) →
    bs ≡ map bare ls → touched_at (levels_with w bs) d o ≡ touched_at ls d o
laid_touched w bs ls d o e = alike_touched ls (levels_with w bs) d o (laid_alike w bs ls e)

module _ (m : Meaning) (x : PlacedRun) (p : ℕ) (c : PlacedCall) (there : x.placed.call p ≡ Some c)
    (some : has_some (x.placed.levels p) ≡ true) where
  abbrev outcome : Outcome
  outcome = micro x.placed.world x.placed.images p (placed_config x.placed p)

  step_is : placed_step m p x ≡ placed_requeue p (placed_outcome m p c outcome x)
  step_is =
      ap (λ y. placed_requeue p (placed_call_step m p y x)) there
      ∙ ap (placed_requeue p) (by_levels (x.placed.levels p) some)
    where
      by_levels : (bs : List PlacedLevel) → has_some bs ≡ true →
          placed_step_by m p c bs x ≡ placed_outcome m p c outcome x
      by_levels [] h = absurd cc
      by_levels (b ∷ bs) h = refl

  needs_are : placed_needs m x.placed p ≡ next_needs x.placed.world x.placed.images
      x.placed.objects.accounts (placed_levels x.placed p)
  needs_are = ap (placed_needs_in m x.placed p) there ∙ by_levels (x.placed.levels p) some
    where
      by_levels : (bs : List PlacedLevel) → has_some bs ≡ true →
          placed_needs_at m x.placed p c bs ≡ next_needs x.placed.world x.placed.images
          x.placed.objects.accounts (placed_levels x.placed p)
      by_levels [] h = absurd cc
      by_levels (b ∷ bs) h = refl

  module _ (d : ℕ) (o : Object) (unneeded : is_needed o (placed_needs m x.placed p) ≡ false) where
    -- the levels that an instruction leaves
    moved : (w : Things) (bs : List PlacedLevel) → bs ≡ map bare outcome.config.levels →
        length bs ≡ length (x.placed.levels p) →
        touched_at (levels_with w bs) d o ≡ touched_at (placed_levels x.placed p) d o
    moved w bs e same =
        laid_touched w bs outcome.config.levels d o e
        ∙ instruction_alike x.placed.world x.placed.images p o (placed_config x.placed p)
        (sym (ap (is_needed o) needs_are) ∙ unneeded)
        (sym (ap length e ∙ length_bare outcome.config.levels) ∙ same
        ∙ sym (laid_length x.placed.objects.things (x.placed.levels p))) d

    -- no level is left
    emptied : {A : Type 0} → has_some (at p [] x.placed.levels p) ≡ true → A
    emptied h = contrary (sym h ∙ ap has_some (at_here p [] x.placed.levels))

    held_by_said : (said : Micro) → let y = placed_requeue p (placed_after_outcome m p c outcome.config said x) in
        length (y.placed.levels p) ≡ length (x.placed.levels p) →
        has_some (y.placed.levels p) ≡ true →
        touched_at (placed_levels y.placed p) d o ≡ touched_at (placed_levels x.placed p) d o
    held_by_said Micro.Went same left =
        moved outcome.config.now.things (at p (map bare outcome.config.levels) x.placed.levels p)
        (at_here p (map bare outcome.config.levels) x.placed.levels) same
    held_by_said (Micro.Blocked object holder by_user) same left = refl
    held_by_said (Micro.Completed answer) same left = emptied left
    held_by_said (Micro.Dropped zero q pt cause) same left = emptied left
    held_by_said (Micro.Dropped (suc n) q pt cause) same left =
        moved outcome.config.now.things (at p (map bare outcome.config.levels) x.placed.levels p)
        (at_here p (map bare outcome.config.levels) x.placed.levels) same

    held_after : length ((placed_step m p x).placed.levels p) ≡ length (x.placed.levels p) →
        placed_holds (placed_step m p x).placed p d o ≡ placed_holds x.placed p d o
    held_after same = elim (cases_Bool (nat_lt p 16)) [
      | inl low ↦
          ap (λ ls. touched_at ls d o) (row_low (placed_levels (placed_step m p x).placed) p
          (below p low)) ∙ held_low (placed_step m p x) step_is same
          ∙ ap (λ ls. touched_at ls d o) (sym (row_low (placed_levels x.placed) p (below p low)))
      | inr high ↦ ap (λ ls. touched_at ls d o) (row_high (placed_levels (placed_step m p x).placed)
          p (beyond p high) ∙ sym (row_high (placed_levels x.placed) p (beyond p high)))
    ]
      where
        below : (q : ℕ) → nat_lt q 16 ≡ true → q < 16
        below q h = grind (arith, nat_tests)

        beyond : (q : ℕ) → nat_lt q 16 ≡ false → 16 ≤ q
        beyond q h = grind (arith, nat_tests)

        held_low : (y : PlacedRun) → y ≡ placed_requeue p (placed_outcome m p c outcome x) →
            length (y.placed.levels p) ≡ length (x.placed.levels p) →
            touched_at (placed_levels y.placed p) d o ≡ touched_at (placed_levels x.placed p) d o
        held_low y e same =
            subst (λ (z : PlacedRun). length (z.placed.levels p) ≡ length (x.placed.levels p) →
            has_some (z.placed.levels p) ≡ true → touched_at (placed_levels z.placed p) d o
            ≡ touched_at (placed_levels x.placed p) d o) (sym e)
            (held_by_said outcome.said) same (some_there (x.placed.levels p) (y.placed.levels p) same some)

  -- all is held as before
  pub all_held : KeepsHolds m x.placed (placed_step m p x).placed p → (d : ℕ) (o : Object) →
      placed_holds (placed_step m p x).placed p d o ≡ placed_holds x.placed p d o
  all_held keeps d o =
      elim (cases_Bool (is_needed o (placed_needs m x.placed p))) [
        | inl needed ↦ keeps.holds d o needed
        | inr unneeded ↦ held_after d o unneeded keeps.levels
      ]

-- ---- the laws

module _ (m : Meaning) (laws : Laws m) where
  still_rests : (x : PlacedRun) (r : Run) (p : ℕ) (c : PlacedCall) → RunStandsFor m x r →
      IsAtRest m r.kernel → x.placed.call p ≡ Some c →
      placed_blocker m x.placed p ≡ None → IsStill m x.placed (placed_step m p x).placed p →
      IsAtRest m (step m p r).kernel
  still_rests x r p c h rests there free still = by_call (r.kernel.call p) refl
    where
      stands : RunStandsFor m (placed_step m p x) (step m p r)
      stands = steps_stand m laws x r p c h there free

      level_before : has_level (r.kernel.call p) ≡ true
      level_before = (same_shown m laws).level x.placed r.kernel p h.kernel ∙ still.level

      level_after : has_level ((step m p r).kernel.call p) ≡ true
      level_after =
          (same_shown m laws).level (placed_step m p x).placed (step m p r).kernel p stands.kernel
          ∙ some_there (x.placed.levels p) ((placed_step m p x).placed.levels p) still.keeps.levels still.level

      held : (d : ℕ) (o : Object) → holds m (step m p r).kernel p d o ≡ holds m r.kernel p d o
      held d o =
          sym ((same_blockers m laws).held (placed_step m p x).placed (step m p r).kernel p d o stands.kernel)
          ∙ all_held m x p c there still.level still.keeps d o
          ∙ (same_blockers m laws).held x.placed r.kernel p d o h.kernel

      marks_some : (y : Option (List Mark)) →
          elim y as (λ _. Bool) [ None ↦ false | Some ks ↦ true ] ≡ true → is_some y ≡ true
      marks_some None e = absurd cc
      marks_some (Some ks) e = refl

      by_call : (y : Option Call) → r.kernel.call p ≡ y → IsAtRest m (step m p r).kernel
      by_call None e = contrary (sym level_before ∙ ap has_level e)
      by_call (Some a) e =
          let u = call_step m p (r.kernel.call p) r in
          let is : u ≡ marked_step m p a a.marks r = ap (λ y. call_step m p y r) e in
          let one = subst (λ (z : Run). OneHistory r.kernel z.kernel p) (sym is)
          (marked_step_history m r p a e a.marks
          (marks_some a.marks (sym (ap has_level e) ∙ level_before))
          (sym (ap (λ (z : Run). has_level (z.kernel.call p)) is) ∙ level_after)) in
          rest_stays m r u p one level_after (sym (ap (in_order p) h.kernel.order) ∙ still.away) rests held

pub resting : (m : Meaning) → Laws m → Resting m
resting m laws =
    record {
      settling = λ x r h. let k = settled_stands m laws x r h in (k.stands, k.rests);
      rested = rested_there m laws;
      still = still_rests m laws;
    }
