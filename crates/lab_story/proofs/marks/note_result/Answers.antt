use Rattle.std.proofs.Common.{arith}
use Rattle.lab_story.specs.Bars.{noted}
use Rattle.lab_story.proofs.Lists.{map_step}
use Rattle.lab_story.proofs.marks.note_result.Goals as goal

pub loop-bar-preserved : goal.loop-bar-preserved
loop-bar-preserved c =
    map_step (noted c.args.call c.args.said) _ _ _ _ _ (omega arith) c.loop-bar.invariant c.noted.ensures
