-- The numbers of objects.
use Rattle.std.specs.Prelude.{◌≡◌, ◌↔◌, ℕ, ◌+◌, ◌*◌, ◌<◌, Bool, true, ◌&&◌, nat_lt}
use Rattle.kernel_model.specs.declared.Object.{Object}
use Rattle.kernel_model.specs.declared.Object.TheVariants.{Graft, Acct, Cell, OpenFile, Queue, Cache, Lock, Pol}
use Rattle.kernel_model.specs.Laws.{IsInRange}

-- the number of an object: kind by kind, inside a kind by process and then by the second number
unfoldable pub number_of : Object → ℕ
number_of (Graft q pt) = 16 * q + pt
number_of (Acct q) = 256 + q
number_of (Cell q k) = 272 + 4 * q + k
number_of (OpenFile q fd) = 336 + 4 * q + fd
number_of Queue = 400
number_of Cache = 401
number_of (Lock u) = 402 + u
number_of (Pol kind) = 418 + kind

-- the numbers of an object are in their ranges, as a test
unfoldable pub is_in_range : Object → Bool
is_in_range (Graft q pt) = nat_lt q 16 && nat_lt pt 16
is_in_range (Acct q) = nat_lt q 16
is_in_range (Cell q k) = nat_lt q 16 && nat_lt k 4
is_in_range (OpenFile q fd) = nat_lt q 16 && nat_lt fd 4
is_in_range Queue = true
is_in_range Cache = true
is_in_range (Lock u) = nat_lt u 16
is_in_range (Pol kind) = nat_lt kind 3

-- equal numbers come only from equal objects
abbrev pub NumbersTellApart : Type 0
NumbersTellApart = (a b : Object) → IsInRange a → IsInRange b → number_of a ≡ number_of b → a ≡ b

-- there are 421 of them
abbrev pub NumbersAreBelow : Type 0
NumbersAreBelow = (o : Object) → IsInRange o → number_of o < 421

-- the test says what the ranges say
abbrev pub TestIsRange : Type 0
TestIsRange = (o : Object) → (is_in_range o ≡ true) ↔ IsInRange o
