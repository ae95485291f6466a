-- Lemmas on the masks of processes beside the masks of levels.
use Rattle.std.proofs.Common.{◌≡◌, ◌≢◌, ℕ, ◌<◌, Bool, true, false, cond, not, ◌&&◌}
use Rattle.std.proofs.Common.{◌||◌, ◌==◌, List, length, set, take, drop, ◌++◌, replicate}
use Rattle.std.proofs.Common.{find, is_some, refl, arith, ◌∙◌, sym, ap}
use mathlib.Core.Path.{fun_ext}
use Rattle.std.proofs.lemmas.Bool.Decides.{nat_tests}
use Rattle.std.proofs.lemmas.List.{get_or-set_same, get_or-set_other}
use Rattle.kernel_model.specs.declared.Held.{Held}
use Rattle.kernel_model.specs.declared.Mode.{Mode}
use Rattle.kernel_model.specs.World.{processes}
use Rattle.kernel_model.specs.Locks.{stronger, held_as, conflicts}
use Rattle.lock_table.specs.declared.Holds.{Holds}
use Rattle.lock_table.specs.declared.Takers.{Takers}
use Rattle.lock_table.specs.Masks.{held_by, no_holds, levels_at, masks_of, merged, conflicting_level}
use Rattle.lock_table.specs.Takers.{no_takers, is_against, takers_at, HasTaker, AreTakers, AreOthersSame}
use Rattle.lock_table.proofs.ProcessMasks.{empty}
use Rattle.lock_table.proofs.Hindering.{hinders, alike_hinder, free_hinder, touch_hinders, merge_hinders}
use Rattle.lock_table.proofs.Views.{its_own, others, is_other_hindering}
use Rattle.lock_table.proofs.HoldingLemmas.{same_level}
use Rattle.lock_table.proofs.Places.{written}
use Rattle.lock_table.proofs.Places.{get_or-alike}

pub alike : (n : ℕ) (xs : List Takers) → xs ≡ replicate n no_takers → (i : ℕ) → takers_at xs i ≡ no_takers
alike n xs h i = rw h (get_or-alike n i no_takers)

-- nobody is in the way
nobody_against : (mode : Mode) (q : ℕ) → is_against no_takers mode q ≡ false
nobody_against Mode.Shared q = empty q
nobody_against Mode.Exclusive q = empty q

pub none_taken : (takers : List Takers) (calls : List (List Holds)) →
    ((n : ℕ) → takers_at takers n ≡ no_takers) →
    ((p n e : ℕ) → levels_at (masks_of calls p) n e ≡ Held.Free) → AreTakers takers calls
none_taken takers calls none free =
    record {
      of_each = λ p. record {
        is_taker = λ n mode.
            ap (λ (t : Takers). is_against t mode p) (none n) ∙ nobody_against mode p
            ∙ sym (free_hinder (levels_at (masks_of calls p) n) mode (free p n));
      };
    }

-- who is asked for is who hinders
pub asked : (takers : List Takers) (calls : List (List Holds)) (p number : ℕ) (mode : Mode) → AreTakers takers calls →
    find (λ q. not (q == p) && is_against (takers_at takers number) mode q) processes
    ≡ find (is_other_hindering calls p number mode) processes
asked takers calls p number mode are =
    ap (λ (f : ℕ → Bool). find f processes)
    (fun_ext (λ q. ap (λ (b : Bool). not (q == p) && b) ((are.of_each q).is_taker number mode)))

-- the masks of one process change, and what is said of the others stays
pub one_process : (old new : List Takers) (calls : List (List Holds)) (masks : List Holds) (p : ℕ) →
    p < length calls → AreTakers old calls →
    HasTaker new p masks → AreOthersSame p old new → AreTakers new (set calls p masks)
one_process old new calls masks p lt are own rest =
    record { of_each = λ q. record { is_taker = λ n mode. by q n mode (q == p) refl } }
  where
    by : (q n : ℕ) (mode : Mode) (b : Bool) → (q == p) ≡ b → is_against (takers_at new n) mode q
        ≡ is_some (conflicting_level (masks_of (set calls p masks) q) n mode)
    by q n mode true same =
        let here : q ≡ p = grind (arith, nat_tests, same) in
        rw (its_own calls p q masks lt same) (rw here (own.is_taker n mode))
    by q n mode false other =
        rw (others calls p q masks other)
        (rest.same q n mode other ∙ (are.of_each q).is_taker n mode)

-- by a merge, which changes nothing that they say
pub merged_takers : (takers : List Takers) (calls : List (List Holds)) (masks : List Holds)
    (p d : ℕ) → p < length calls → 0 < d → d < 4 → AreTakers takers calls →
    ((n e : ℕ) → levels_at masks n e ≡ merged d (levels_at (masks_of calls p) n) e) →
    AreTakers takers (set calls p masks)
merged_takers takers calls masks p d lt inner low are h =
    one_process takers takers calls masks p lt are
    (record {
      is_taker = λ n mode. (are.of_each p).is_taker n mode ∙ sym (merge_hinders
          (levels_at masks n) (levels_at (masks_of calls p) n) d mode inner low (h n));
    })
    (record { same = λ q n mode other. refl })

-- by a touch
pub touched_takers : (old new : List Takers) (calls : List (List Holds)) (masks : List Holds)
    (p number d : ℕ) (mode : Mode) → p < length calls → d < 4 → AreTakers old calls →
    ((n e : ℕ) → levels_at masks n e ≡ cond (n == number && e == d) (stronger
    (levels_at (masks_of calls p) n e) (held_as mode)) (levels_at (masks_of calls p) n e)) →
    ((wanted : Mode) (n q : ℕ) → is_against (takers_at new n) wanted q ≡ (is_against
    (takers_at old n) wanted q || (n == number && q == p && conflicts (held_as mode) wanted))) →
    AreTakers new (set calls p masks)
touched_takers old new calls masks p number d mode lt low are h is =
    one_process old new calls masks p lt are (record { is_taker = λ n wanted. by n wanted (n == number) refl })
    (record {
      same = λ q n wanted other. is wanted n q ∙ unchanged (is_against (takers_at old n)
          wanted q) (n == number) (q == p) (conflicts (held_as mode) wanted) other;
    })
  where
    unchanged : (a b c d : Bool) → c ≡ false → (a || (b && c && d)) ≡ a
    unchanged a b c d k = grind (arith, nat_tests)

    added : (a b c d : Bool) → b ≡ true → c ≡ true → (a || (b && c && d)) ≡ (a || d)
    added a b c d k l = grind (arith, nat_tests)

    kept : (a b c d : Bool) → b ≡ false → (a || (b && c && d)) ≡ a
    kept a b c d k = grind (arith, nat_tests)

    was : ℕ → ℕ → Held
    was n = levels_at (masks_of calls p) n

    by : (n : ℕ) (wanted : Mode) (b : Bool) → (n == number) ≡ b →
        is_against (takers_at new n) wanted p ≡ is_some (conflicting_level masks n wanted)
    by n wanted true same =
        let here : n ≡ number = grind (arith, nat_tests, same) in
        let itself : (p == p) ≡ true = grind (arith, nat_tests) in
        is wanted n p ∙ added (is_against (takers_at old n) wanted p)
        (n == number) (p == p) (conflicts (held_as mode) wanted) same itself
        ∙ ap (λ (b : Bool). b || conflicts (held_as mode) wanted) ((are.of_each p).is_taker n wanted)
        ∙ sym (touch_hinders (levels_at masks n) (was n) d mode wanted low
        (λ e. h n e ∙ ap (λ (i : ℕ). cond (n == i && e == d) (stronger (was n e) (held_as mode))
        (was n e)) (sym here) ∙ same_level n d e (was n) (held_as mode)))
    by n wanted false other =
        is wanted n p ∙ kept (is_against (takers_at old n) wanted p)
        (n == number) (p == p) (conflicts (held_as mode) wanted) other
        ∙ (are.of_each p).is_taker n wanted
        ∙ sym (alike_hinder (levels_at masks n) (was n) wanted (λ e. h n e ∙ ap
        (λ (b : Bool). cond (b && e == d) (stronger (was n e) (held_as mode)) (was n e)) other))

-- ---- both kinds of masks of one object change

-- what is said of the process is what its levels hold, and of the others as before
abbrev pub SaysSo : Takers → ℕ → Holds → Takers → Type 0
SaysSo new p h old =
    (wanted : Mode) (q : ℕ) →
    is_against new wanted q ≡ cond (q == p) (hinders (held_by h) wanted) (is_against old wanted q)

pub one_kept : (takers : List Takers) (masks : List Holds) (p number : ℕ) (t : Takers) (h : Holds) →
    number < length takers → number < length masks →
    HasTaker takers p masks → SaysSo t p h (takers_at takers number) →
    HasTaker (set takers number t) p (set masks number h)
one_kept takers masks p number t h inside within has says = record { is_taker = λ n mode. by n mode (n == number) refl }
  where
    by : (n : ℕ) (mode : Mode) (b : Bool) → (n == number) ≡ b → is_against (takers_at
        (set takers number t) n) mode p ≡ is_some (conflicting_level (set masks number h) n mode)
    by n mode true same =
        let here : n ≡ number = grind (arith, nat_tests, same) in
        let itself : (p == p) ≡ true = grind (arith, nat_tests) in
        rw here (rw (get_or-set_same takers number t no_takers inside, get_or-set_same masks number h no_holds within)
        (says mode p ∙ ap (λ (b : Bool). cond b (hinders (held_by h) mode)
        (is_against (takers_at takers number) mode p)) itself))
    by n mode false other =
        let apart : n ≢ number = λ here. grind (arith, nat_tests, other, here) in
        rw (
          get_or-set_other takers number n t no_takers apart,
          get_or-set_other masks number n h no_holds apart,
        ) (has.is_taker n mode)

pub others_kept : (first takers : List Takers) (p number : ℕ) (t : Takers) (h : Holds) → number < length takers →
    AreOthersSame p first takers → SaysSo t p h (takers_at takers number) → AreOthersSame p first (set takers number t)
others_kept first takers p number t h inside rest says =
    record { same = λ q n mode other. by q n mode other (n == number) refl }
  where
    by : (q n : ℕ) (mode : Mode) → (q == p) ≡ false → (b : Bool) → (n == number) ≡ b → is_against
        (takers_at (set takers number t) n) mode q ≡ is_against (takers_at first n) mode q
    by q n mode other true same =
        let here : n ≡ number = grind (arith, nat_tests, same) in
        rw here (rw (get_or-set_same takers number t no_takers inside)
        (says mode q ∙ ap (λ (b : Bool). cond b (hinders (held_by h) mode)
        (is_against (takers_at takers number) mode q)) other ∙ rest.same q number mode other))
    by q n mode other false elsewhere =
        let apart : n ≢ number = λ here. grind (arith, nat_tests, elsewhere, here) in
        rw (get_or-set_other takers number n t no_takers apart) (rest.same q n mode other)

-- ---- what is written through the list's own slice

pub whole_takers : (new old : List Takers) (calls : List (List Holds)) (n : ℕ) → length new ≡ n →
    length new ≡ 421 → AreTakers new calls
    → (length (take n (new ++ drop (length new) old)) ≡ 421) × AreTakers (take n (new ++ drop (length new) old)) calls
whole_takers new old calls n h size are = rw (written new old n h) (size, are)

pub own_taker : (takers slice : List Takers) (calls : List (List Holds)) (masks : List Holds) (p :
    ℕ) → slice ≡ takers → masks ≡ masks_of calls p → AreTakers takers calls → HasTaker slice p masks
own_taker takers slice calls masks p is own are = rw (is, own) (are.of_each p)

-- by a release
pub released_takers : (old slice new : List Takers) (calls : List (List Holds)) (masks : List Holds)
    (p : ℕ) → p < length calls → slice ≡ old → AreTakers old calls →
    HasTaker new p masks → AreOthersSame p slice new → AreTakers new (set calls p masks)
released_takers old slice new calls masks p lt is are own rest =
    one_process old new calls masks p lt are own
    (record {
      same = λ q n mode other. rest.same q n mode other
          ∙ ap (λ (xs : List Takers). is_against (takers_at xs n) mode q) is;
    })
