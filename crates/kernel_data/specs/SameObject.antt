-- Two laws of comparing objects, for proofs that don't unfold the comparison.
use Rattle.std.specs.Prelude.{◌≡◌, true, false}
use Rattle.std.proofs.Common.{arith, refl}
use Rattle.std.proofs.lemmas.Bool.Decides.{nat_tests}
use Rattle.kernel_data.specs.declared.Object.{Object}
use Rattle.kernel_data.specs.declared.Object.TheVariants.{Graft, Acct, Cell, OpenFile, Queue, Cache, Lock, Pol}
use Rattle.kernel_data.specs.Objects.{same_object}

-- an object is the same as itself
pub same_object_self : (o : Object) → same_object o o ≡ true
unfolding same_object
same_object_self (Graft q pt) = grind (arith, nat_tests)
same_object_self (Acct q) = grind (arith, nat_tests)
same_object_self (Cell q k) = grind (arith, nat_tests)
same_object_self (OpenFile q k) = grind (arith, nat_tests)
same_object_self Queue = refl
same_object_self Cache = refl
same_object_self (Lock u) = grind (arith, nat_tests)
same_object_self (Pol k) = grind (arith, nat_tests)

-- two objects that compare as the same are equal
pub same_object_is : (a b : Object) → same_object a b ≡ true → a ≡ b
unfolding same_object
same_object_is (Graft q pt) (Graft r pu) h = grind (arith, nat_tests)
same_object_is (Acct q) (Acct r) h = grind (arith, nat_tests)
same_object_is (Cell q k) (Cell r l) h = grind (arith, nat_tests)
same_object_is (OpenFile q k) (OpenFile r l) h = grind (arith, nat_tests)
same_object_is Queue Queue h = refl
same_object_is Cache Cache h = refl
same_object_is (Lock u) (Lock v) h = grind (arith, nat_tests)
same_object_is (Pol k) (Pol l) h = grind (arith, nat_tests)
same_object_is _ _ h = grind (arith)
