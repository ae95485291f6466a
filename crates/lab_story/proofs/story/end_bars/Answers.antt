use Rattle.std.proofs.Common.{arith}
use Rattle.lab_story.specs.Bars.{ended}
use Rattle.lab_story.proofs.Lists.{map_step}
use Rattle.lab_story.proofs.story.end_bars.Goals as goal

pub loop-bar-preserved : goal.loop-bar-preserved
loop-bar-preserved c =
    map_step (ended c.args.call c.args.level c.args.event c.args.end) _ _ _ _ _ (omega arith)
    c.loop-bar.invariant c.ended.ensures
