use Rattle.std.proofs.Common.{◌∙◌, sym}
use Rattle.kernel_steps.proofs.StillLemmas.{keeps_holds}
use Rattle.kernel_steps.proofs.settled.step_in_graft.Goals as goal

pub returns-then-level_count-count-clause-kept : goal.returns-then-level_count-count-clause-kept
returns-then-level_count-count-clause-kept g c same =
    keeps_holds g.C.Meaning.Rules.meaning c.args.running.now c.step.new.running c.args.p
    c.args.needs.now c.grip_of-before.result c.grip_of-after.result
    c.requires.at.running c.step.ensures.running c.requires.needs.value c.requires.few
    c.grip_of-before.ensures c.grip_of-after.ensures
    (c.is_same_grip.ensures same) (sym c.level_count.ensures.value ∙ c.if-level_count-count.true
    ∙ c.level_count-count.ensures.value)
