use Rattle.std.proofs.Common.{rules}
use Rattle.lab_story.proofs.Steps.{part_more}
use Rattle.lab_story.proofs.slow.slow_script.Goals as goal

pub loop-line-preserved : goal.loop-line-preserved
loop-line-preserved c = (
  part_more _ _ _ _ _ _ _ _ _ _ c.in-Some.ensures c.in_ok-append_part.ensures c.count_by-events.ensures
      c.loop-line.invariant.0,
  search rules,
)
