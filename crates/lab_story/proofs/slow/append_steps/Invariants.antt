use Rattle.std.proofs.Common.{◌≡◌, ◌++◌}
use Rattle.lab_story.specs.Slow.{single_steps}
use Rattle.lab_story.proofs.slow.append_steps.Given as goal

abbrev pub invariant-loop : goal.invariant-loop
invariant-loop l = l.out.items ≡ l.initial.out.items ++ single_steps l.process l.counter
