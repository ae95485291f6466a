use Rattle.std.proofs.Common.{◌≡◌, drop}
use Rattle.kernel_model.specs.Locks as model
use Rattle.audit_levels.specs.Levels.{touched_of}
use Rattle.audit_levels.proofs.touched.touch_all.Given as goal

abbrev pub invariant-loop-need : goal.invariant-loop-need
invariant-loop-need l =
    model.touch_all (drop l.need-index l.needs) (touched_of l.rows.items)
    ≡ model.touch_all l.needs (touched_of l.fn.rows.items)
