-- What is known of the numbers of a call that isn't refused at once.
use Rattle.std.specs.Prelude.{◌≡◌, ℕ, ◌+◌, ◌<◌, Bool, true, false, nat_lt, Option}
use Rattle.std.specs.Result.{is_ok}
use Rattle.std.proofs.Common.{arith, refl}
use Rattle.std.proofs.lemmas.Bool.Decides.{nat_tests}
use Rattle.kernel_model.specs.declared.Refusal.{Refusal}
use Rattle.kernel_model.specs.declared.SysCall.{SysCall}
use Rattle.kernel_model.specs.Early.{begins_unless, refused}

-- what would refuse a call that is granted doesn't hold
pub granted_unless : (c : SysCall) (holds : Bool) (why : Refusal) (next : Option Refusal) →
    is_ok (begins_unless c (refused holds why next)) ≡ true → holds ≡ false
granted_unless c true why next h = cc
granted_unless c false why next h = refl

-- nor does what comes after it
pub granted_next : (c : SysCall) (holds : Bool) (why : Refusal) (next : Option Refusal) →
    is_ok (begins_unless c (refused holds why next)) ≡ true → is_ok (begins_unless c next) ≡ true
granted_next c true why next h = cc
granted_next c false why next h = h

-- a number that isn't above the highest one is below the next
pub below_next : (top n : ℕ) → nat_lt top n ≡ false → n < top + 1
below_next top n h = grind (arith, nat_tests)

-- a number above which a call would be refused
pub granted_below : (c : SysCall) (top n : ℕ) (why : Refusal) (next : Option Refusal) →
    is_ok (begins_unless c (refused (nat_lt top n) why next)) ≡ true → n < top + 1
granted_below c top n why next h = below_next top n (granted_unless c (nat_lt top n) why next h)
