-- What the levels of a call hold, by its rows of the lock table.
use Rattle.std.proofs.Common.{◌≡◌, ℕ, zero, suc, ◌≤◌, ◌==◌, ◌&&◌, ◌||◌, Bool, true, false, cond}
use Rattle.std.proofs.Common.{not, List, [], ◌∷◌, Some, None, length, arith, refl, sym, ◌∙◌, ap}
use Rattle.std.proofs.lemmas.Bool.Decides.{nat_tests}
use Rattle.std.specs.List.{list_any}
use Rattle.std.specs.Option.{is_some}
use Rattle.kernel_model.specs.declared.Object.{Object}
use Rattle.kernel_model.specs.declared.Object.TheVariants.{Lock}
use Rattle.kernel_model.specs.declared.Mode.{Mode}
use Rattle.kernel_model.specs.declared.Held.{Held}
use Rattle.kernel_model.specs.Objects.{Things}
use Rattle.kernel_model.specs.Locks.{LockTable, Touched, touch, with_touch, is_held, conflicts, outermost_holding}
use Rattle.kernel_model.specs.Levels.{Level}
use Rattle.kernel_model.specs.GraftStep.{is_lock_due}
use Rattle.undo_calls.specs.UndoLevels.{Logged, innermost}
use Rattle.graft_levels.specs.declared.GraftLevel.{GraftLevel}
use Rattle.graft_levels.specs.Chains.{put_back, levels_in, outer}

-- ---- a touch

pub touched_here : (p n : ℕ) (o : Object) (m : Mode) (t : LockTable) → with_touch p n o m t p n ≡ touch o m (t p n)
touched_here p n o m t =
    let yes : (p == p && n == n) ≡ true = grind (arith, nat_tests) in
    ap (λ b. cond b (touch o m (t p n)) (t p n)) yes

pub touched_apart : (p n q e : ℕ) (o : Object) (m : Mode) (t : LockTable) →
    (q == p && e == n) ≡ false → with_touch p n o m t q e ≡ t q e
touched_apart p n q e o m t apart = ap (λ b. cond b (touch o m (t p n)) (t q e)) apart

-- ---- which level holds

-- some level below a number passes a test
abbrev any_below : ℕ → (ℕ → Bool) → Bool
any_below zero f = false
any_below (suc n) f = f n || any_below n f

any_level : (p : ℕ) (ram : List ℕ) (t : LockTable) (gs : List GraftLevel) (log : List (List Logged))
    (w : Things) (o : Object) →
    list_any (λ (l : Level). is_held (l.touched o)) (levels_in p ram t gs log w)
    ≡ any_below (length gs) (λ d. is_held (t p d o))
any_level p ram t [] log w o = refl
any_level p ram t (g ∷ gs) log w o =
    ap (λ b. is_held (t p (length gs) o) || b)
    (any_level p ram t gs (outer log) (put_back (innermost log) w) o)

conflict_is : (h : Held) → conflicts h Mode.Exclusive ≡ is_held h
conflict_is Held.Free = refl
conflict_is Held.Shared = refl
conflict_is Held.Exclusive = refl

four : (a b c d : Bool) → is_some {T = ℕ} (cond a (Some 0)
    (cond b (Some 1) (cond c (Some 2) (cond d (Some 3) None)))) ≡ (a || (b || (c || d)))
four true b c d = refl
four false true c d = refl
four false false true d = refl
four false false false true = refl
four false false false false = refl

found : (o : Object) (h : ℕ → Touched) → is_some (outermost_holding o Mode.Exclusive h)
    ≡ (is_held (h 0 o) || (is_held (h 1 o) || (is_held (h 2 o) || is_held (h 3 o))))
found o h =
    four (conflicts (h 0 o) Mode.Exclusive) (conflicts (h 1 o) Mode.Exclusive)
    (conflicts (h 2 o) Mode.Exclusive) (conflicts (h 3 o) Mode.Exclusive)
    ∙ ap (λ x. x || (conflicts (h 1 o) Mode.Exclusive || (conflicts (h 2 o) Mode.Exclusive
    || conflicts (h 3 o) Mode.Exclusive))) (conflict_is (h 0 o))
    ∙ ap (λ x. is_held (h 0 o) || (x || (conflicts (h 2 o) Mode.Exclusive
    || conflicts (h 3 o) Mode.Exclusive))) (conflict_is (h 1 o))
    ∙ ap (λ x. is_held (h 0 o) || (is_held (h 1 o) || (x || conflicts (h 3 o) Mode.Exclusive))) (conflict_is (h 2 o))
    ∙ ap (λ x. is_held (h 0 o) || (is_held (h 1 o) || (is_held (h 2 o) || x))) (conflict_is (h 3 o))

of_four : (n : ℕ) (f : ℕ → Bool) → n ≤ 4 → ((d : ℕ) → n ≤ d → f d ≡ false) →
    any_below n f ≡ (f 0 || (f 1 || (f 2 || f 3)))
of_four zero f le free =
    let a = free 0 (omega arith) in
    let b = free 1 (omega arith) in
    let c = free 2 (omega arith) in
    let d = free 3 (omega arith) in
    grind (arith, a, b, c, d)
of_four (suc zero) f le free =
    let b = free 1 (omega arith) in
    let c = free 2 (omega arith) in
    let d = free 3 (omega arith) in
    grind (arith, b, c, d)
of_four (suc (suc zero)) f le free = let c = free 2 (omega arith) in let d = free 3 (omega arith) in grind (arith, c, d)
of_four (suc (suc (suc zero))) f le free = let d = free 3 (omega arith) in grind (arith, d)
of_four (suc (suc (suc (suc zero)))) f le free = grind arith
of_four (suc (suc (suc (suc (suc n))))) f le free = absurd (omega arith)

-- whether a lock is due, by the table
pub due_is : (id u p : ℕ) (ram : List ℕ) (t : LockTable) (gs : List GraftLevel)
    (log : List (List Logged)) (w : Things) → length gs ≤ 4 →
    ((d : ℕ) (o : Object) → length gs ≤ d → t p d o ≡ Held.Free) →
    (o : Object) → (id ≡ 12 → o ≡ Lock u) →
    (id == 12 && not (is_some (outermost_holding o Mode.Exclusive (t p))))
    ≡ is_lock_due id u (levels_in p ram t gs log w)
due_is id u p ram t gs log w few unheld o is = by_id (id == 12) refl
  where
    same : id ≡ 12 → is_some (outermost_holding o Mode.Exclusive (t p))
        ≡ list_any (λ (l : Level). is_held (l.touched (Lock u))) (levels_in p ram t gs log w)
    same twelve =
        ap (λ x. is_some (outermost_holding x Mode.Exclusive (t p))) (is twelve) ∙ found (Lock u) (t p)
        ∙ sym (of_four (length gs) (λ d. is_held (t p d (Lock u))) few (λ d le. ap is_held (unheld d (Lock u) le)))
        ∙ sym (any_level p ram t gs log w (Lock u))

    by_id : (b : Bool) → (id == 12) ≡ b →
        (b && not (is_some (outermost_holding o Mode.Exclusive (t p)))) ≡ (b && not
        (list_any (λ (l : Level). is_held (l.touched (Lock u))) (levels_in p ram t gs log w)))
    by_id true e = ap not (same (grind (arith, nat_tests, e)))
    by_id false e = refl
