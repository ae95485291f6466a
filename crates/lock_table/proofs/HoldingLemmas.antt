-- Lemmas on the mask of the processes that hold something.
use Rattle.std.proofs.Common.{◌≡◌, ◌≢◌, ℕ, ◌<◌, Bool, true, false, ◌==◌, ◌||◌, not, List, [], ◌∷◌, length}
use Rattle.std.proofs.Common.{set, refl, arith, ◌∙◌, ◌&&◌, cond, sym, ap, Some, None, find, is_some, nat_lt}
use Rattle.kernel_model.specs.declared.Object.{Object}
use Rattle.kernel_model.specs.World.{processes}
use Rattle.std.proofs.lemmas.Bool.Decides.{nat_tests}
use Rattle.kernel_model.specs.declared.Mode.{Mode}
use Rattle.kernel_model.specs.declared.Held.{Held}
use Rattle.kernel_model.specs.Objects.{at}
use Rattle.kernel_model.specs.Locks.{stronger, held_as, no_locks, lowest_holder, outermost_holding}
use Rattle.lock_table.specs.Numbers.{number_of, is_in_range}
use Rattle.lock_table.proofs.Hindering.{free_hinder}
use Rattle.lock_table.specs.declared.Holds.{Holds}
use Rattle.lock_table.specs.Masks.{held, held_by, holds_at, levels_at, masks_of, merged, HoldsSome}
use Rattle.lock_table.specs.Takers.{has_process, HasSome, AreHolding}
use Rattle.lock_table.proofs.ProcessMasks.{empty}
use Rattle.lock_table.proofs.Used.{merge-free, merge-used, touch-used, unused}
use Rattle.lock_table.proofs.Views.{its_own, others, holding_view}
use Rattle.lock_table.proofs.ObjectNumbers.{numbered}

-- nothing is held
pub none_holding : (calls : List (List Holds)) →
    ((p n e : ℕ) → levels_at (masks_of calls p) n e ≡ Held.Free) → AreHolding 0 calls
none_holding calls free = record { some = λ p is. let no = empty p in absurd cc; none = λ p n e is. free p n e }

-- the masks of one process change
pub one_holding : (old new : ℕ) (b : Bool) (calls : List (List Holds)) (masks : List Holds) (p : ℕ) → p < length calls →
    ((q : ℕ) → has_process new q ≡ cond (q == p) b (has_process old q)) →
    (b ≡ true → HoldsSome masks) → (b ≡ false → (n e : ℕ) → levels_at masks n e ≡ Held.Free) →
    AreHolding old calls → AreHolding new (set calls p masks)
one_holding old new b calls masks p lt marks used free are =
    record {
      some = λ q is. some q is (q == p) refl;
      none = λ q n e is. none q n e is (q == p) refl;
    }
  where
    own : (q : ℕ) → (q == p) ≡ true → has_process new q ≡ b
    own q same = marks q ∙ ap (λ (t : Bool). cond t b (has_process old q)) same

    kept : (q : ℕ) → (q == p) ≡ false → has_process new q ≡ has_process old q
    kept q other = marks q ∙ ap (λ (t : Bool). cond t b (has_process old q)) other

    some : (q : ℕ) → has_process new q ≡ true → (t : Bool) → (q == p) ≡ t → HoldsSome (masks_of (set calls p masks) q)
    some q is true same = rw (its_own calls p q masks lt same) (used (sym (own q same) ∙ is))
    some q is false other = rw (others calls p q masks other) (are.some q (sym (kept q other) ∙ is))

    none : (q n e : ℕ) → has_process new q ≡ false → (t : Bool) → (q == p) ≡ t →
        levels_at (masks_of (set calls p masks) q) n e ≡ Held.Free
    none q n e is true same = rw (its_own calls p q masks lt same) (free (sym (own q same) ∙ is) n e)
    none q n e is false other = rw (others calls p q masks other) (are.none q n e (sym (kept q other) ∙ is))

-- a merge takes nothing from a process
pub merged_holding : (holding : ℕ) (calls : List (List Holds)) (masks : List Holds) (p d : ℕ) →
    p < length calls → 0 < d → d < 4 → AreHolding holding calls →
    ((n e : ℕ) → levels_at masks n e ≡ merged d (levels_at (masks_of calls p) n) e) →
    AreHolding holding (set calls p masks)
merged_holding holding calls masks p d lt inner low are h =
    one_holding holding holding (has_process holding p) calls masks p lt
    (λ q. marks q (q == p) refl) (λ is. still (are.some p is))
    (λ is n e. h n e ∙ merge-free d (levels_at (masks_of calls p) n) (λ k. are.none p n k is) e) are
  where
    marks : (q : ℕ) (b : Bool) → (q == p) ≡ b →
        has_process holding q ≡ cond (q == p) (has_process holding p) (has_process holding q)
    marks q true same =
        let here : q ≡ p = grind (arith, nat_tests, same) in
        rw same (ap (λ (x : ℕ). has_process holding x) here)
    marks q false other = rw other refl

    still : HoldsSome (masks_of calls p) → HoldsSome masks
    still old = record {
      number = old.number;
      below = old.below;
      used =
          merge-used (holds_at (masks_of calls p) old.number) (holds_at masks old.number) d inner
          low (h old.number) ∙ old.used;
    }

-- what a touch of an object says of its levels
pub same_level : (n d e : ℕ) (f : ℕ → Held) (m : Held) →
    cond (n == n && e == d) (stronger (f e) m) (f e) ≡ at d (stronger (f d) m) f e
same_level n d e f m = by (e == d) refl
  where
    self : (n == n) ≡ true
    self = grind (arith, nat_tests)

    by : (b : Bool) → (e == d) ≡ b → cond (n == n && e == d) (stronger (f e) m) (f e) ≡ at d (stronger (f d) m) f e
    by true same =
        let here : e ≡ d = grind (arith, nat_tests, same) in
        rw (self, same) (ap (λ x. stronger (f x) m) here)
    by false other = rw (self, other) refl

-- a process that touched an object holds it
pub touched_holding : (old new number d : ℕ) (mode : Mode) (calls : List (List Holds))
    (masks : List Holds) (p : ℕ) → p < length calls → number < 421 → d < 4 →
    ((q : ℕ) → has_process new q ≡ (q == p || has_process old q)) → AreHolding old calls →
    ((n e : ℕ) → levels_at masks n e ≡ cond (n == number && e == d) (stronger
    (levels_at (masks_of calls p) n e) (held_as mode)) (levels_at (masks_of calls p) n e)) →
    AreHolding new (set calls p masks)
touched_holding old new number d mode calls masks p lt below low marks are h =
    one_holding old new true calls masks p lt (λ q. marks q ∙ either (q == p) (has_process old q))
    (λ is. some) (λ is. absurd cc) are
  where
    either : (a b : Bool) → (a || b) ≡ cond a true b
    either true b = refl
    either false b = refl

    some : HoldsSome masks
    some = record {
      number = number;
      below = below;
      used = touch-used (holds_at (masks_of calls p) number) (holds_at masks number) d mode low
          (λ e. h number e ∙ same_level number d e (held_by (holds_at (masks_of calls p) number)) (held_as mode));
    }

-- a release, by what is left
pub released_holding : (old new : ℕ) (free : Bool) (calls : List (List Holds)) (masks : List Holds)
    (p : ℕ) → p < length calls →
    ((q : ℕ) → has_process new q ≡ cond (q == p) (not free) (has_process old q)) →
    (free ≡ true → (n e : ℕ) → levels_at masks n e ≡ Held.Free) →
    (free ≡ false → HoldsSome masks) →
    AreHolding old calls → AreHolding new (set calls p masks)
released_holding old new free calls masks p lt marks none some are =
    one_holding old new (not free) calls masks p lt marks (λ is. some (turned_false free is))
    (λ is. none (turned_true free is)) are
  where
    turned_false : (b : Bool) → not b ≡ true → b ≡ false
    turned_false true is = absurd cc
    turned_false false is = refl

    turned_true : (b : Bool) → not b ≡ false → b ≡ true
    turned_true true is = refl
    turned_true false is = absurd cc

-- where nothing is held no process holds something
pub none_some : (holding : ℕ) (calls : List (List Holds)) → HasSome holding →
    AreHolding holding calls → held calls ≢ no_locks
none_some holding calls q are nothing =
    let last = are.some q.process q.is_there in
    let o = numbered last.number last.below in
    let here = masks_of calls q.process in
    let free : (e : ℕ) → held_by (holds_at here last.number) e ≡ Held.Free = λ e.
    ap (λ n. levels_at here n e) (sym o.is)
    ∙ holding_view calls q.process e o.object q.below o.range
    ∙ ap (λ t. t q.process e o.object) nothing in
    let none = unused (holds_at here last.number) free in
    let used = last.used in
    absurd cc

-- where no process but p holds something nobody hinders p
pub nobody_but : (holding left : ℕ) (calls : List (List Holds)) (p : ℕ) (o : Object) (mode : Mode) →
    ((q : ℕ) → has_process left q ≡ (not (q == p) && has_process holding q)) →
    ((q : ℕ) → has_process left q ≡ false) → AreHolding holding calls →
    lowest_holder (held calls) p o mode ≡ None
nobody_but holding left calls p o mode others none are =
    none_found (λ q. not (q == p) && is_some (outermost_holding o mode (held calls q))) processes
    (λ q. silent q (q == p) refl)
  where
    none_found : (test : ℕ → Bool) (xs : List ℕ) → ((x : ℕ) → test x ≡ false) → find test xs ≡ None
    none_found test [] h = refl
    none_found test (x ∷ xs) h = ap (λ b. cond b (Some x) (find test xs)) (h x) ∙ none_found test xs h

    either : (b : Bool) → cond b Held.Free Held.Free ≡ Held.Free
    either true = refl
    either false = refl

    silent : (q : ℕ) (b : Bool) → (q == p) ≡ b →
        (not (q == p) && is_some (outermost_holding o mode (held calls q))) ≡ false
    silent q true same = ap (λ b. not b && is_some (outermost_holding o mode (held calls q))) same
    silent q false other =
        let gone : has_process holding q ≡ false =
        sym (ap (λ b. not b && has_process holding q) other) ∙ (sym (others q) ∙ none q) in
        ap (λ b. not b && is_some (outermost_holding o mode (held calls q))) other
        ∙ free_hinder (λ d. held calls q d o) mode
        (λ d. ap (λ x. cond (nat_lt q 16 && is_in_range o) x Held.Free) (are.none q (number_of o) d gone)
        ∙ either (nat_lt q 16 && is_in_range o))
