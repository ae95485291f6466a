-- Needs that no holder of a user lock can hinder.
use Rattle.std.specs.Prelude.{Bool, true, not, ◌&&◌, List, [], ◌∷◌}
use Rattle.kernel_model.specs.declared.Need.{Need}

-- no need among these waits for the holder of a user lock
abbrev pub needs_no_user : List Need → Bool
needs_no_user [] = true
needs_no_user (n ∷ ns) = not n.by_user && needs_no_user ns
