use Rattle.std.proofs.Common.{arith}
use Rattle.lab_story.specs.Bars.{named}
use Rattle.lab_story.proofs.Lists.{map_step}
use Rattle.lab_story.proofs.marks.name_level.Goals as goal

pub loop-bar-preserved : goal.loop-bar-preserved
loop-bar-preserved c =
    map_step (named c.args.process c.args.level c.args.text) _ _ _ _ _ (omega arith) c.loop-bar.invariant
    c.named.ensures
