use Rattle.std.proofs.Common.{◌≡◌, drop}
use Rattle.lab_levels.specs.Seen as spec
use Rattle.lab_levels.proofs.view.level_among.Given as goal

abbrev pub invariant-loop-level : goal.invariant-loop-level
invariant-loop-level l =
    spec.level_at l.p l.depth l.levels ≡ spec.level_at l.p l.depth (drop l.level-index l.levels)
