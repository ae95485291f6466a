-- The order of waiting and the clock: what they leave of a kernel, and which orders keep it sound.
use Rattle.std.specs.Prelude.{◌≡◌, ◌≢◌, ℕ, suc, ◌+◌, ◌<◌, ◌≤◌, ◌==◌, not, nat_lt, true, false}
use Rattle.std.specs.Prelude.{cond, List, [], ◌∷◌, ◌++◌, length, Contains, Option, Some, None}
use Rattle.std.specs.List.{AllByRecursion}
use Rattle.std.proofs.Common.{arith, refl, subst, sym, ap, ◌∙◌, inl, inr}
use Rattle.std.proofs.lemmas.Bool.{cases_Bool}
use Rattle.std.proofs.lemmas.Bool.Decides.{nat_tests}
use Rattle.kernel_model.specs.declared.Need.{Need}
use Rattle.kernel_model.specs.Meaning.{Meaning}
use Rattle.kernel_model.specs.Locks.{Touched}
use Rattle.kernel_model.specs.Levels.{Config, touched_at}
use Rattle.kernel_model.specs.History.{Mark}
use Rattle.kernel_model.specs.Kernel.{Call, Waiter, Kernel, less_entry, new_entry, is_at_piece}
use Rattle.kernel_model.specs.Blocking.{config_in, config_of, levels_in, levels_of, trace_of}
use Rattle.kernel_model.specs.Blocking.{holds, needs_at, needs_in, needs}
use Rattle.kernel_model.specs.Sound.{IsSoundKernel, clash, count_of, in_the_order}
use Rattle.kernel_laws.proofs.LevelLemmas.{each_from, each_contains}
use Rattle.graft_laws.proofs.ShapeLemmas.{contrary}
use Rattle.graft_laws.proofs.HolderLemmas.{holds_of}
use Rattle.graft_laws.proofs.KernelLemmas.{holds_beyond, processes_in, count_both, each_both}

-- ---- a kernel with another clock and order

-- the same kernel, but for these
abbrev pub with_order : Kernel → ℕ → List Waiter → Kernel
with_order k n es = record k { clock = n; order = es }

module _ (m : Meaning) (k : Kernel) (n : ℕ) (es : List Waiter) where
  trace_same : (p : ℕ) (x : Option Call) → trace_of m (with_order k n es) p x ≡ trace_of m k p x
  trace_same p None = refl
  trace_same p (Some c) = refl

  pub config_same : (p : ℕ) → config_of m (with_order k n es) p ≡ config_of m k p
  config_same p = ap config_in (trace_same p (k.call p))

  pub levels_same : (p : ℕ) → levels_of m (with_order k n es) p ≡ levels_of m k p
  levels_same p = ap levels_in (config_same p)

  pub holds_same : (p d : ℕ) → holds m (with_order k n es) p d ≡ holds m k p d
  holds_same p d = elim (cases_Bool (nat_lt p 16)) [
    | inl within ↦ holds_of m (with_order k n es) p d (below p within)
        ∙ ap (λ ls. touched_at ls d) (levels_same p) ∙ sym (holds_of m k p d (below p within))
    | inr out ↦ holds_beyond m (with_order k n es) p d (beyond p out) ∙ sym (holds_beyond m k p d (beyond p out))
  ]
    where
      below : (p : ℕ) → nat_lt p 16 ≡ true → p < 16
      below p h = grind (arith, nat_tests)

      beyond : (p : ℕ) → nat_lt p 16 ≡ false → 16 ≤ p
      beyond p h = grind (arith, nat_tests)

  pub needs_same : (p : ℕ) → needs m (with_order k n es) p ≡ needs m k p
  needs_same p = by_call (k.call p)
    where
      at_same : (x : Option Config) → needs_at m (with_order k n es) x ≡ needs_at m k x
      at_same None = refl
      at_same (Some c) = refl

      by_marks : (c : Call) (x : Option (List Mark)) →
          elim x as (λ _. List Need) [
            | None ↦ m.need k.world k.objects p c.stage
            | Some ks ↦ needs_at m (with_order k n es) (config_of m (with_order k n es) p)
          ]
          ≡ elim x as (λ _. List Need) [
            | None ↦ m.need k.world k.objects p c.stage
            | Some ks ↦ needs_at m k (config_of m k p)
          ]
      by_marks c None = refl
      by_marks c (Some ks) = ap (needs_at m (with_order k n es)) (config_same p) ∙ at_same (config_of m k p)

      by_call : (x : Option Call) → needs_in m (with_order k n es) p x ≡ needs_in m k p x
      by_call None = refl
      by_call (Some c) = by_marks c c.marks

  -- sound where the order is right
  pub order_sound : IsSoundKernel m k → ((p : ℕ) → is_at_piece (k.call p) ≡ true → count_of p (processes_in es) ≡ 1) →
      ((e : Waiter) → Contains es e → is_at_piece (k.call e.process) ≡ false →
      (count_of e.process (processes_in es) ≡ 1) × (1 ≤ length (levels_of m k e.process))
      × (1 ≤ length (needs m k e.process))) →
      IsSoundKernel m (with_order k n es)
  order_sound h pieces others =
      record {
        state = h.state;
        runs = h.runs;
        grafts = λ p f l e c. h.grafts p f l (sym (config_same p) ∙ e) c;
        apart = λ p q d e o ne.
            ap (λ (t : Touched). clash (t o) (holds m (with_order k n es) q e o)) (holds_same p d)
            ∙ ap (λ (t : Touched). clash (holds m k p d o) (t o)) (holds_same q e)
            ∙ h.apart p q d e o ne;
        callers = h.callers;
        granted = h.granted;
        fit = h.fit;
        pieces = pieces;
        others = λ e c away.
            let x = others e c away in (
              x.0,
              subst (λ ls. 1 ≤ length ls) (sym (levels_same e.process)) x.1,
              subst (λ ns. 1 ≤ length ns) (sym (needs_same e.process)) x.2,
            );
      }

-- ---- entries of the same processes

pub each_number : (Q : ℕ → Type 0) (es : List Waiter) →
    AllByRecursion (λ (e : Waiter). Q e.process) es → AllByRecursion Q (processes_in es)
each_number Q [] h = tt
each_number Q (e ∷ es) h = (h.0, each_number Q es h.1)

pub each_entry : (Q : ℕ → Type 0) (es : List Waiter) → AllByRecursion Q (processes_in es) →
    AllByRecursion (λ (e : Waiter). Q e.process) es
each_entry Q [] h = tt
each_entry Q (e ∷ es) h = (h.0, each_entry Q es h.1)

-- another clock, and other blockers and counts, keep a kernel sound
pub same_entries_sound : (m : Meaning) (k : Kernel) (n : ℕ) (es : List Waiter) → IsSoundKernel m k →
    processes_in es ≡ in_the_order k → IsSoundKernel m (with_order k n es)
same_entries_sound m k n es h same =
    let Q = λ (p : ℕ). is_at_piece (k.call p) ≡ false → (count_of p (in_the_order k) ≡ 1)
    × (1 ≤ length (levels_of m k p)) × (1 ≤ length (needs m k p)) in
    let each = each_entry Q es (subst (AllByRecursion Q) (sym same) (each_number Q k.order
    (each_from (λ (e : Waiter). Q e.process) k.order (λ e c. h.others e c)))) in
    order_sound m k n es h (λ p e. ap (count_of p) same ∙ h.pieces p e)
    (λ e c away. let x = each_contains (λ (y : Waiter). Q y.process) es e each c away in
    (ap (count_of e.process) same ∙ x.0, x.1, x.2))

-- ---- who stands in the order

-- an entry of the order is one of a call in flight
pub entry_called : (m : Meaning) (k : Kernel) (e : Waiter) → IsSoundKernel m k → Contains k.order e →
    (c : Call) × (k.call e.process ≡ Some c)
entry_called m k e h c = by_call (k.call e.process) refl
  where
    none_long : 1 ≤ 0 → ⊥
    none_long h = omega arith

    by_call : (x : Option Call) → k.call e.process ≡ x → (d : Call) × (k.call e.process ≡ Some d)
    by_call (Some d) f = (d, f)
    by_call None f =
        let some = (h.others e c (ap is_at_piece f)).1 in
        absurd (none_long (subst (λ ls. 1 ≤ length ls)
        (ap (λ x. levels_in (config_in (trace_of m k e.process x))) f) some))

-- who has no call doesn't stand there
pub uncalled_away : (m : Meaning) (k : Kernel) (p : ℕ) → IsSoundKernel m k → k.call p ≡ None →
    AllByRecursion (λ (e : Waiter). e.process ≢ p) k.order
uncalled_away m k p h none =
    each_from (λ (e : Waiter). e.process ≢ p) k.order
    (λ e c same. none_some (entry_called m k e h c) (ap k.call same ∙ none))
  where
    none_some : {x : Option Call} → (c : Call) × (x ≡ Some c) → x ≡ None → ⊥
    none_some c e = bad c.0 (sym c.1 ∙ e)
      where
        bad : (c : Call) → Some c ≡ None → ⊥
        bad c e = cc

-- the order less a process that doesn't stand there
pub less_away : (p : ℕ) (es : List Waiter) → AllByRecursion (λ (e : Waiter). e.process ≢ p) es → less_entry p es ≡ es
less_away p [] h = refl
less_away p (e ∷ es) h =
    ap (λ b. cond (not b) (e ∷ less_entry p es) (less_entry p es)) (differs e.process p h.0)
    ∙ ap (λ xs. e ∷ xs) (less_away p es h.1)
  where
    differs : (a b : ℕ) → a ≢ b → (a == b) ≡ false
    differs a b ne = elim (cases_Bool (a == b)) [ inl e ↦ absurd (ne (same a b e)) | inr e ↦ e ]
      where
        same : (a b : ℕ) → (a == b) ≡ true → a ≡ b
        same a b e = grind (arith, nat_tests)

pub count_away : (p : ℕ) (es : List Waiter) → AllByRecursion (λ (e : Waiter). e.process ≢ p) es →
    count_of p (processes_in es) ≡ 0
count_away p [] h = refl
count_away p (e ∷ es) h =
    ap (λ b. cond b (suc (count_of p (processes_in es))) (count_of p (processes_in es)))
    (differs e.process p h.0) ∙ count_away p es h.1
  where
    differs : (a b : ℕ) → a ≢ b → (a == b) ≡ false
    differs a b ne = elim (cases_Bool (a == b)) [ inl e ↦ absurd (ne (same a b e)) | inr e ↦ e ]
      where
        same : (a b : ℕ) → (a == b) ≡ true → a ≡ b
        same a b e = grind (arith, nat_tests)

module _ (m : Meaning) (k : Kernel) (p : ℕ) where
  -- an entry that isn't at a piece, before and after p has joined
  abbrev StandsBefore : Waiter → Type 0
  StandsBefore e =
      is_at_piece (k.call e.process) ≡ false → (count_of e.process (in_the_order k) ≡ 1)
      × (1 ≤ length (levels_of m k e.process)) × (1 ≤ length (needs m k e.process))

  abbrev StandsAfter : Waiter → Type 0
  StandsAfter e =
      is_at_piece (k.call e.process) ≡ false →
      (count_of e.process (processes_in (k.order ++ new_entry p ∷ [])) ≡ 1)
      × (1 ≤ length (levels_of m k e.process)) × (1 ≤ length (needs m k e.process))

  count_joined : (q : ℕ) → q ≢ p → count_of q (processes_in (k.order ++ new_entry p ∷ [])) ≡ count_of q (in_the_order k)
  count_joined q ne =
      count_both q k.order (new_entry p ∷ [])
      ∙ ap (λ b. count_of q (processes_in k.order) + cond b (suc 0) 0) (differs p q ne)
      ∙ plus_zero (count_of q (processes_in k.order))
    where
      plus_zero : (n : ℕ) → n + 0 ≡ n
      plus_zero n = omega arith

      differs : (p q : ℕ) → q ≢ p → (p == q) ≡ false
      differs p q ne = elim (cases_Bool (p == q)) [ inl e ↦ absurd (ne (same p q e)) | inr e ↦ e ]
        where
          same : (p q : ℕ) → (p == q) ≡ true → q ≡ p
          same p q e = grind (arith, nat_tests)

  count_joiner : AllByRecursion (λ (e : Waiter). e.process ≢ p) k.order →
      count_of p (processes_in (k.order ++ new_entry p ∷ [])) ≡ 1
  count_joiner none =
      count_both p k.order (new_entry p ∷ [])
      ∙ ap (λ n. n + cond (p == p) (suc 0) 0) (count_away p k.order none)
      ∙ ap (λ b. 0 + cond b (suc 0) 0) (is_itself p) ∙ one_is
    where
      is_itself : (n : ℕ) → (n == n) ≡ true
      is_itself n = grind (arith, nat_tests)

      one_is : 0 + 1 ≡ 1
      one_is = omega arith

  each_joined : (es : List Waiter) → AllByRecursion (λ (e : Waiter). e.process ≢ p) es →
      AllByRecursion StandsBefore es → AllByRecursion StandsAfter es
  each_joined [] ne each = tt
  each_joined (e ∷ es) ne each = (
    λ piece. let x = each.0 piece in
        (count_joined e.process ne.0 ∙ x.0, x.1, x.2),
    each_joined es ne.1 each.1,
  )

  -- a call in a graft, whose next instruction needs an object, joins the order
  pub joined_sound : IsSoundKernel m k → is_at_piece (k.call p) ≡ false →
      AllByRecursion (λ (e : Waiter). e.process ≢ p) k.order → 1 ≤ length (levels_of m k p) →
      1 ≤ length (needs m k p) →
      IsSoundKernel m (with_order k k.clock (k.order ++ new_entry p ∷ []))
  joined_sound h away none levels needed =
      order_sound m k k.clock (k.order ++ new_entry p ∷ []) h (λ q e. count_joined q (other_piece q e) ∙ h.pieces q e)
      (λ e c. each_contains StandsAfter (k.order ++ new_entry p ∷ []) e
      (each_both StandsAfter k.order (new_entry p ∷ [])
      (each_joined k.order none (each_from StandsBefore k.order (λ x i. h.others x i)))
      (λ piece. (count_joiner none, levels, needed), tt)) c)
    where
      other_piece : (q : ℕ) → is_at_piece (k.call q) ≡ true → q ≢ p
      other_piece q e same = contrary (sym (ap (λ i. is_at_piece (k.call i)) (sym same) ∙ e) ∙ away)
