use Rattle.std.proofs.Common.{ap, sym, ◌∙◌}
use Rattle.lab_reader.specs.Words.{joined}
use Rattle.lab_reader.proofs.Joining.{whole}
use Rattle.lab_reader.proofs.words.is_left.Goals as goal

pub returns-then-starts_with_word-clause-left : goal.returns-then-starts_with_word-clause-left
returns-then-starts_with_word-clause-left c =
    λ all. ap joined (c.has_no_sign.ensures.left all)
    ∙ whole c.args.code.now (sym c.starts_with_word.ensures ∙ c.if-starts_with_word.true)
