-- What a call needs that takes a user lock.
use Rattle.std.specs.Prelude.{ℕ, true}
use Rattle.kernel_model.specs.declared.Need.{Need}
use Rattle.kernel_model.specs.declared.Mode.TheVariants.{Exclusive}
use Rattle.kernel_model.specs.declared.Object.TheVariants.{Lock}

-- the user lock that a call takes: its holder is a blocker too
abbrev pub taking : ℕ → Need
taking u = record { object = Lock u; mode = Exclusive; by_user = true }
