-- What the limit is for: an addition that isn't refused leaves its counter at the limit or below.
use Rattle.std.specs.Prelude.{◌≡◌, ℕ, ◌+◌, ◌<◌, ◌≤◌, ◌==◌, nat_lt, Bool, true, false, ⊤}
use Rattle.std.proofs.Common.{arith, refl}
use Rattle.std.proofs.lemmas.Bool.Decides.{nat_tests}
use Rattle.kernel_model.specs.declared.SysCall.TheVariants.{Poke}
use Rattle.kernel_model.specs.Objects.{Objects}
use Rattle.kernel_model.specs.Policies.{lives}
use Rattle.quick_calls.specs.QuickTables.{Outcome, Leaves, Refused}
use Rattle.counters.specs.Table.{poked, does}

-- counter k isn't above the limit after a call that isn't refused
abbrev pub IsWithin : ℕ → Outcome → Type 0
IsWithin k (Leaves u reply) = u.things.cell 0 k ≤ u.things.cell 0 3
IsWithin k (Refused why) = ⊤

-- by the cases of a poke
poked_within : (s : Objects) (k x : ℕ) (a sets e : Bool) → k < 3 → (k == 3) ≡ sets →
    nat_lt (s.things.cell 0 3) (s.things.cell 0 k + x) ≡ e → IsWithin k (poked s k x a sets e)
poked_within s k x false sets e low h g = tt
poked_within s k x true true e low h g = grind (arith, nat_tests, low, h)
poked_within s k x true false true low h g = tt
poked_within s k x true false false low h g = grind (arith, nat_tests, g)

-- An addition leaves its counter at the limit or below it, or is refused.
pub additions_are_within : (s : Objects) (p k x : ℕ) → k < 3 → IsWithin k (does (Poke k x) s p)
additions_are_within s p k x low =
    poked_within s k x (lives s.things.queue 0) (k == 3)
    (nat_lt (s.things.cell 0 3) (s.things.cell 0 k + x)) low refl refl
