-- A kernel is sound after a change of one call that leaves the others' replays alike.
use Rattle.std.specs.Prelude.{◌≡◌, ◌≢◌, ℕ, suc, ◌+◌, ◌<◌, ◌≤◌, ◌==◌, nat_lt, Bool, true, false}
use Rattle.std.specs.Prelude.{cond, List, [], ◌∷◌, ◌++◌, length, is_some, Option, Some, None}
use Rattle.std.specs.Prelude.{Contains}
use Rattle.std.specs.List.{AllByRecursion}
use Rattle.std.proofs.Common.{arith, refl, subst, sym, ap, ◌∙◌, inl, inr}
use Rattle.std.proofs.lemmas.Bool.{cases_Bool, cases_eq}
use Rattle.std.proofs.lemmas.Bool.Decides.{nat_tests}
use Rattle.kernel_model.specs.declared.Need.{Need}
use Rattle.kernel_model.specs.declared.Object.{Object}
use Rattle.kernel_model.specs.World.{Blocks}
use Rattle.kernel_model.specs.Objects.{Objects}
use Rattle.kernel_model.specs.Meaning.{Meaning}
use Rattle.kernel_model.specs.Levels.{Level, Config, touched_at}
use Rattle.kernel_model.specs.History.{Mark}
use Rattle.kernel_model.specs.Kernel.{Call, Waiter, Kernel, new_entry, less_entry, is_at_piece}
use Rattle.kernel_model.specs.Blocking.{config_in, levels_in, trace_of, config_of, levels_of, holds, needs}
use Rattle.kernel_model.specs.Sound.{ImagesAreLoaded, IsSoundKernel, clash, count_of, in_the_order}
use Rattle.kernel_model.specs.Laws.{Laws}
use Rattle.kernel_model.specs.Claims.{IsStable}
use Rattle.kernel_laws.specs.Soundness.{HistoriesWork}
use Rattle.graft_laws.proofs.HistoryHoldLemmas.{AllOk, depth_ok}
use Rattle.graft_laws.proofs.MoveLemmas.{Stands}
use Rattle.graft_laws.proofs.InPlaceLemmas.{row_low, row_high}
use Rattle.graft_laws.proofs.SoundCallLemmas.{contains_later}
use Rattle.graft_laws.proofs.SteadyLemmas.{moved, alike_length, alike_touched, steady_levels}
use Rattle.graft_laws.proofs.SteadyLemmas.{steady_runs, steady_stands, steady_needs}
use Rattle.graft_laws.proofs.BesideLemmas.{clash_back, MayHold, may_hold}
use Rattle.graft_laws.proofs.KernelLemmas.{processes_in, count_both, count_less_own}
use Rattle.kernel_laws.proofs.SettleLemmas.{less_own, less_other, order_after}
use Rattle.kernel_laws.proofs.LevelLemmas.{each_contains}

-- ---- the order

count_less_other : (p q : ℕ) (es : List Waiter) → q ≢ p →
    count_of q (processes_in (less_entry p es)) ≡ count_of q (processes_in es)
count_less_other p q [] ne = refl
count_less_other p q (e ∷ es) ne = elim (cases_Bool (e.process == p)) [
  | inl own ↦ ap (λ (xs : List Waiter). count_of q (processes_in xs)) (less_own p e es own)
      ∙ count_less_other p q es ne
      ∙ sym (ap (λ b. cond b (suc (count_of q (processes_in es))) (count_of q (processes_in es)))
      (not_it e.process p q own ne))
  | inr other ↦ ap (λ (xs : List Waiter). count_of q (processes_in xs)) (less_other p e es other)
      ∙ ap (λ n. cond (e.process == q) (suc n) n) (count_less_other p q es ne)
]
  where
    not_it : (x p q : ℕ) → (x == p) ≡ true → q ≢ p → (x == q) ≡ false
    not_it x p q h ne = grind (arith, nat_tests)

pub count_new_own : (p : ℕ) → count_of p (processes_in (new_entry p ∷ [])) ≡ 1
count_new_own p = ap (λ b. cond b 1 0) (is_itself p)
  where
    is_itself : (p : ℕ) → (p == p) ≡ true
    is_itself p = grind (arith, nat_tests)

count_new_other : (p q : ℕ) (b : Bool) → q ≢ p → count_of q (processes_in (cond b (new_entry p ∷ []) [])) ≡ 0
count_new_other p q true ne = ap (λ b. cond b 1 0) (differs p q ne)
  where
    differs : (p q : ℕ) → q ≢ p → (p == q) ≡ false
    differs p q ne = grind (arith, nat_tests)
count_new_other p q false ne = refl

count_own : (p : ℕ) (es : List Waiter) → count_of p (processes_in (order_after p true es)) ≡ 1
count_own p es =
    count_both p (less_entry p es) (new_entry p ∷ [])
    ∙ sum_is (count_of p (processes_in (less_entry p es)))
    (count_of p (processes_in (new_entry p ∷ []))) (count_less_own p es) (count_new_own p)
  where
    sum_is : (a b : ℕ) → a ≡ 0 → b ≡ 1 → a + b ≡ 1
    sum_is a b e f = omega arith

count_other : (p q : ℕ) (b : Bool) (es : List Waiter) → q ≢ p →
    count_of q (processes_in (order_after p b es)) ≡ count_of q (processes_in es)
count_other p q b es ne =
    count_both q (less_entry p es) (cond b (new_entry p ∷ []) [])
    ∙ sum_is (count_of q (processes_in (less_entry p es)))
    (count_of q (processes_in (cond b (new_entry p ∷ []) []))) (count_of q (processes_in es))
    (count_less_other p q es ne) (count_new_other p q b ne)
  where
    sum_is : (a b n : ℕ) → a ≡ n → b ≡ 0 → a + b ≡ n
    sum_is a b n e f = omega arith

-- what holds of each entry of another process, and of p's where it has just joined, holds of each
each_after : (P : Waiter → Type 0) (p : ℕ) (b : Bool) (es : List Waiter) →
    ((e : Waiter) → Contains es e → e.process ≢ p → P e) → (b ≡ true → P (new_entry p)) →
    AllByRecursion P (order_after p b es)
each_after P p b [] h new = new_by b new
  where
    new_by : (b : Bool) → (b ≡ true → P (new_entry p)) → AllByRecursion P (cond b (new_entry p ∷ []) [])
    new_by true new = (new refl, tt)
    new_by false new = tt
each_after P p b (e ∷ es) h new = elim (cases_Bool (e.process == p)) [
  | inl own ↦ subst (λ (xs : List Waiter). AllByRecursion P (xs ++ cond b (new_entry p ∷ []) []))
      (sym (less_own p e es own)) (each_after P p b es (λ x c. h x (later x c)) new)
  | inr other ↦ subst (λ (xs : List Waiter). AllByRecursion P (xs ++ cond b (new_entry p ∷ []) []))
      (sym (less_other p e es other)) (
        h e (0, below_suc (length es), refl) (differs e.process p other),
        each_after P p b es (λ x c. h x (later x c)) new,
      )
]
  where
    below_suc : (n : ℕ) → 0 < suc n
    below_suc n = omega arith

    differs : (x p : ℕ) → (x == p) ≡ false → x ≢ p
    differs x p h e = grind (arith, nat_tests)

    later : (x : Waiter) → Contains es x → Contains (e ∷ es) x
    later x c = contains_later e x es c

-- ---- one change

module _ (m : Meaning) (laws : Laws m) (histories : HistoriesWork m) (k : Kernel)
    (sound : IsSoundKernel m k) (p : ℕ) where
  -- the call of p after it changed: where its history leads, that the grafts of its levels stand, and what they hold
  pub record OwnIsSound (l : Kernel) : Type 0 where
    pub leads : (c : Call) (ks : List Mark) → l.call p ≡ Some c → c.marks ≡ Some ks →
        is_some (trace_of m l p (Some c)) ≡ true
    pub stands : (f : Config) → config_of m l p ≡ Some f →
        AllByRecursion (λ (x : Level). is_some (f.now.accounts.graft x.owner x.point) ≡ true) f.levels
    pub ok : AllOk (MayHold m laws histories k sound p) (levels_of m l p)

  module _ (s : Objects) (call : ℕ → Option Call) (blocks : Blocks)
      (stands : Stands m k.world k.images s blocks call)
      (loaded : ImagesAreLoaded k.images s.accounts)
      (others : (q : ℕ) → q ≢ p → call q ≡ k.call q)
      (stable : (q : ℕ) → q ≢ p → IsStable m k (moved k s call (order_after p (is_at_piece (call p)) k.order)) q)
      (own : OwnIsSound (moved k s call (order_after p (is_at_piece (call p)) k.order))) where
    -- the kernel after the change
    abbrev changed : Kernel
    changed = moved k s call (order_after p (is_at_piece (call p)) k.order)

    -- what another call holds is the same
    holds_other : (q e : ℕ) (o : Object) → q ≢ p → holds m changed q e o ≡ holds m k q e o
    holds_other q e o ne = elim (cases_Bool (nat_lt q 16)) [
      | inl low ↦ ap (λ (ls : List Level). touched_at ls e o) (row_low (levels_of m changed) q (below q low))
          ∙ alike_touched (levels_of m k q) (levels_of m changed q) e o (steady_levels m laws
          histories k sound s call changed.order q (others q ne) (stable q ne))
          ∙ sym (ap (λ (ls : List Level). touched_at ls e o) (row_low (levels_of m k) q (below q low)))
      | inr high ↦ ap (λ (ls : List Level). touched_at ls e o) (row_high (levels_of m changed) q (above q high))
          ∙ sym (ap (λ (ls : List Level). touched_at ls e o) (row_high (levels_of m k) q (above q high)))
    ]
      where
        below : (q : ℕ) → nat_lt q 16 ≡ true → q < 16
        below q h = grind (arith, nat_tests)

        above : (q : ℕ) → nat_lt q 16 ≡ false → 16 ≤ q
        above q h = grind (arith, nat_tests)

    -- what p holds doesn't clash with what another call holds
    own_apart : (q d e : ℕ) (o : Object) → q ≢ p → clash (holds m changed p d o) (holds m changed q e o) ≡ false
    own_apart q d e o ne =
        ap (clash (holds m changed p d o)) (holds_other q e o ne)
        ∙ (elim (cases_Bool (nat_lt p 16)) [
          | inl low ↦ ap (λ (ls : List Level). clash (touched_at ls d o) (holds m k q e o))
              (row_low (levels_of m changed) p (below p low))
              ∙ depth_ok (MayHold m laws histories k sound p) (may_hold m laws histories k sound p)
              (levels_of m changed p) d own.ok o q e ne
          | inr high ↦ ap (λ (ls : List Level). clash (touched_at ls d o) (holds m k q e o))
              (row_high (levels_of m changed) p (above p high))
        ])
      where
        below : (q : ℕ) → nat_lt q 16 ≡ true → q < 16
        below q h = grind (arith, nat_tests)

        above : (q : ℕ) → nat_lt q 16 ≡ false → 16 ≤ q
        above q h = grind (arith, nat_tests)

    all_apart : (a b d e : ℕ) (o : Object) → a ≢ b → clash (holds m changed a d o) (holds m changed b e o) ≡ false
    all_apart a b d e o ne = elim (cases_eq a p) [
      | inl same ↦ subst (λ i. clash (holds m changed i d o) (holds m changed b e o) ≡ false)
          (sym same) (own_apart b d e o (λ x. ne (same ∙ sym x)))
      | inr other ↦ elim (cases_eq b p) [
        | inl same ↦ subst (λ i. clash (holds m changed a d o) (holds m changed i e o) ≡ false) (sym same)
            (clash_back (holds m changed p e o) (holds m changed a d o) (own_apart a e d o other))
        | inr apart ↦ ap (λ h. clash h (holds m changed b e o)) (holds_other a d o other)
            ∙ ap (clash (holds m k a d o)) (holds_other b e o apart) ∙ sound.apart a b d e o ne
      ]
    ]

    -- a call at a piece stands in the order once
    own_pieces : (q : ℕ) → is_at_piece (call q) ≡ true → count_of q (in_the_order changed) ≡ 1
    own_pieces q piece = elim (cases_eq q p) [
      | inl same ↦ subst (λ i. count_of i (processes_in (order_after p (is_at_piece (call p)) k.order)) ≡ 1) (sym same)
          (ap (λ b. count_of p (processes_in (order_after p b k.order)))
          (ap (λ i. is_at_piece (call i)) (sym same) ∙ piece) ∙ count_own p k.order)
      | inr ne ↦ count_other p q (is_at_piece (call p)) k.order ne
          ∙ sound.pieces q (ap is_at_piece (sym (others q ne)) ∙ piece)
    ]

    -- another entry is a call that waits in a graft
    abbrev WaitsInGraft : Waiter → Type 0
    WaitsInGraft e =
        is_at_piece (call e.process) ≡ false →
        (count_of e.process (in_the_order changed) ≡ 1) × (1
        ≤ length (levels_of m changed e.process)) × (1 ≤ length (needs m changed e.process))

    has_marks : (q : ℕ) (x : Option Call) → call q ≡ x →
        is_at_piece x ≡ false → 1 ≤ length (levels_of m changed q) →
        (c : Call) × (ks : List Mark) × (call q ≡ Some c) × (c.marks ≡ Some ks)
    has_marks q None e away some =
        absurd (none_some
        (subst (λ x. 1 ≤ length (levels_in (config_in (trace_of m changed q x)))) e some))
      where
        none_some : 1 ≤ 0 → ⊥
        none_some h = omega arith
    has_marks q (Some c) e away some = marks_by c.marks refl away
      where
        marks_by : (x : Option (List Mark)) → c.marks ≡ x →
            elim x as (λ _. Bool) [ None ↦ true | Some y ↦ false ] ≡ false →
            (d : Call) × (ks : List Mark) × (call q ≡ Some d) × (d.marks ≡ Some ks)
        marks_by None is h = absurd cc
        marks_by (Some ks) is h = (c, ks, e, is)

    other_waits : (e : Waiter) → Contains k.order e → e.process ≢ p → WaitsInGraft e
    other_waits e contained ne away =
        let q = e.process in
        let was = sound.others e contained (ap is_at_piece (sym (others q ne)) ∙ away) in
        let levels = steady_levels m laws histories k sound s call changed.order q (others q ne) (stable q ne) in
        let some = subst (λ n. 1 ≤ n) (sym (alike_length (levels_of m k q) (levels_of m changed q) levels)) was.1 in
        let c = has_marks q (call q) refl away some in (
          count_other p q (is_at_piece (call p)) k.order ne ∙ was.0,
          some,
          subst (λ (ns : List Need). 1 ≤ length ns) (sym (steady_needs m laws histories k sound s
              call changed.order q (others q ne) (stable q ne) c.0 c.1 c.2 c.3)) was.2,
        )

    all_wait : AllByRecursion WaitsInGraft (order_after p (is_at_piece (call p)) k.order)
    all_wait =
        each_after WaitsInGraft p (is_at_piece (call p)) k.order other_waits
        (λ piece away. absurd (contrary (sym piece ∙ away)))
      where
        contrary : true ≡ false → ⊥
        contrary h = cc

    -- the kernel is sound
    pub changed_sound : IsSoundKernel m changed
    changed_sound =
        record {
          state = record { store = stands.store; images_loaded = loaded; disk = stands.disk };
          runs = λ q c ks e marked. elim (cases_eq q p) [
            | inl same ↦ subst (λ i. is_some (trace_of m changed i (Some c)) ≡ true) (sym same)
                (own.leads c ks (ap call (sym same) ∙ e) marked)
            | inr ne ↦ steady_runs m laws histories k sound s call changed.order q (others q ne)
                (stable q ne) c ks e marked
          ];
          grafts = λ q f l is contained. elim (cases_eq q p) [
            | inl same ↦
                each_contains (λ (x : Level). is_some (f.now.accounts.graft x.owner x.point) ≡ true)
                f.levels l (own.stands f (ap (config_of m changed) (sym same) ∙ is)) contained
            | inr ne ↦ steady_stands m laws histories k sound s call changed.order q (others q ne)
                (stable q ne) f l is contained
          ];
          apart = all_apart;
          callers = stands.callers;
          granted = stands.granted;
          fit = stands.fit;
          pieces = own_pieces;
          others = λ e contained. each_contains WaitsInGraft changed.order e all_wait contained;
        }
