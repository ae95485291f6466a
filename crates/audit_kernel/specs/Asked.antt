-- Points that are asked.
use Rattle.std.specs.Prelude.{Bool, false, Option, Some, None, is_some}
use Rattle.kernel_model.specs.declared.Point.{Point}
use Rattle.kernel_model.specs.Objects.{Objects}

-- a graft stands at the point that is asked, if one is
abbrev pub is_grafted : Objects → Option Point → Bool
is_grafted w None = false
is_grafted w (Some a) = is_some (w.accounts.graft a.installer a.point)
