-- What is told in all is what one pass finds.
use Rattle.std.proofs.Common.{sym, ◌∙◌}
use Rattle.lab_lines.proofs.OnePass.{trusted_told, silent_told}
use Rattle.lab_lines.proofs.testing.compare.Goals as goal

pub returns-clause-trusted : goal.returns-clause-trusted
returns-clause-trusted c =
    trusted_told c.loop-ahead.told c.loop-ahead.ahead c.args.sheet.now.wants c.args.sheet.now.last
    c.args.pieces.now (sym c.is_over.ensures ∙ c.loop-ahead-test.false) c.loop-ahead.invariant.0

pub returns-clause-silent : goal.returns-clause-silent
returns-clause-silent c =
    silent_told c.loop-ahead.told c.loop-ahead.ahead c.args.sheet.now.wants c.args.sheet.now.last
    c.args.pieces.now (sym c.is_over.ensures ∙ c.loop-ahead-test.false) c.loop-ahead.invariant.0
