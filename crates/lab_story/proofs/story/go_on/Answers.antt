use Rattle.std.proofs.Common.{arith}
use Rattle.lab_story.specs.Bars.{gone_on}
use Rattle.lab_story.proofs.Lists.{map_step}
use Rattle.lab_story.proofs.story.go_on.Goals as goal

pub loop-bar-preserved : goal.loop-bar-preserved
loop-bar-preserved c =
    map_step (gone_on c.args.event) _ _ _ _ _ (omega arith) c.loop-bar.invariant c.gone_on.ensures
