use Rattle.std.proofs.Common.{◌++◌, ◌∙◌, ap, append_assoc}
use Rattle.lab_story.specs.Slow.{single_step, single_steps}
use Rattle.lab_story.proofs.Steps.{times_more}
use Rattle.lab_story.proofs.slow.append_steps.Goals as goal

pub loop-preserved : goal.loop-preserved
loop-preserved c =
    let p = c.args.process.now in
    let step = single_step p in
    let old = c.args.out.now.items in
    c.in_ok-append_step.ensures ∙ ap (λ t. t ++ step) c.loop.invariant
    ∙ append_assoc old (single_steps p c.loop.counter) step
    ∙ ap (λ t. old ++ t) (times_more step c.loop.counter)
