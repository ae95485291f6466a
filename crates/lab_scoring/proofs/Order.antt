-- The order of a ranking is one by which a list can be sorted.
use Rattle.std.proofs.Common.{◌≡◌, ℕ, Bool, true, false, ◌&&◌, ◌||◌, not, refl, arith}
use Rattle.std.proofs.lemmas.Bool.Decides.{nat_tests}
use Rattle.std.specs.Cmp.{IsStrictWeakOrder}
use Rattle.lab_scoring.specs.declared.entries.Entry.{Entry}
use Rattle.lab_scoring.specs.Ranking.{is_passed, is_better, is_before}

-- which of two stands first, by whether they pass all tests, and their figures
abbrev before : (most passes other_passes : Bool) → (value other : ℕ) → Bool
before most passes other_passes value other =
    passes && (not other_passes || is_better most value other)

one_way : (most p q : Bool) (v w : ℕ) → before most p q v w ≡ true → before most q p w v ≡ false
one_way most false q v w h = absurd (grind (arith, nat_tests, h))
one_way most true false v w h = refl
one_way true true true v w h = grind (arith, nat_tests, h)
one_way false true true v w h = grind (arith, nat_tests, h)

chain : (most p q r : Bool) (u v w : ℕ) → before most p q u v ≡ false →
    before most q r v w ≡ false → before most p r u w ≡ false
chain most false q r u v w h k = refl
chain most true false r u v w h k = absurd (grind (arith, nat_tests, h))
chain most true true false u v w h k = absurd (grind (arith, nat_tests, k))
chain true true true true u v w h k = grind (arith, nat_tests, h, k)
chain false true true true u v w h k = grind (arith, nat_tests, h, k)

pub is_order : (most : Bool) → IsStrictWeakOrder (is_before most)
is_order most =
    record {
      one_way = λ x y h.
          one_way most (is_passed x.standing) (is_passed y.standing) x.value y.value h;
      chain = λ x y z h k.
          chain most (is_passed x.standing) (is_passed y.standing) (is_passed z.standing)
          x.value y.value z.value h k;
    }
