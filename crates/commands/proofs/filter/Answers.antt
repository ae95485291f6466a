use Rattle.std.proofs.Common.{subst, ap, ◌∙◌}
use Rattle.vino_base.specs.Streams.{IsUsed}
use Rattle.commands.proofs.FilterLemmas.{failed_is, gave_some, lacked_memory, answered}
use Rattle.commands.proofs.Statuses.{is_fault}
use Rattle.commands.proofs.filter.Goals as goal

pub returns-in_default-clause-filtered : goal.returns-in_default-clause-filtered
returns-in_default-clause-filtered g c = lacked_memory _ _ _ _ c.in_default.ensures.gave c.in_default.ensures.used

pub returns-in_default-answer_to-clause-filtered : goal.returns-in_default-answer_to-clause-filtered
returns-in_default-answer_to-clause-filtered g c =
    let ended = c.in_default-answer_to.ensures.memory in
    lacked_memory _ _ _ _ (gave_some _ _ _ _ c.in-Ok.ensures.took)
    (subst (IsUsed (g.S.Source.seen c.args.src.now).device (g.S.Source.seen c.read_all.new.src).device)
    (failed_is c.read_all.result c.in-Ok.ending c.in-Ok.is ∙ ap is_fault ended) c.read_all.ensures.used)

pub returns-clause-filtered : goal.returns-clause-filtered
returns-clause-filtered g c =
    answered _ _ _ _ _ _ _ _ _ c.in-Ok.ensures.took
    (subst (IsUsed (g.S.Source.seen c.args.src.now).device (g.S.Source.seen c.read_all.new.src).device)
    (failed_is c.read_all.result c.in-Ok.ending c.in-Ok.is) c.read_all.ensures.used)
    (rw c.as_slice.ensures.value at c.in-Ok-answer_to.ensures.answer) c.write_answer.ensures.whole
    c.write_answer.ensures.part
    c.write_answer.ensures.used
