use Rattle.std.proofs.Common.{◌≡◌, drop}
use Rattle.lock_table.specs.Masks.{held}
use Rattle.graft_levels.specs.Calls.{needs_touched}
use Rattle.graft_levels.proofs.begin.touch_needs.Given as goal

abbrev pub invariant-loop-need : goal.invariant-loop-need
invariant-loop-need l =
    needs_touched l.by.process l.by.level (drop l.need-index l.needs) (held l.locks)
    ≡ needs_touched l.by.process l.by.level l.needs (held l.initial.locks)
