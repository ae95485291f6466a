use Rattle.std.proofs.Common.{ap, ◌∙◌}
use Rattle.kernel_model.specs.Locks as locks
use Rattle.audit_levels.specs.Levels.{levels_of}
use Rattle.audit_replay.proofs.Outer.{outermost_is}
use Rattle.audit_replay.proofs.effects.is_held_outermost.Goals as goal

pub returns : goal.returns
returns c = λ bytes.
    c.is_held.ensures
    ∙ ap (λ (t : locks.Touched). locks.is_held (t c.args.object))
    (c.outermost_in.ensures bytes ∙ outermost_is (levels_of bytes c.args.levels.now))
