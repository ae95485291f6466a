use Rattle.std.proofs.Common.{ap, sym, ◌∙◌}
use Rattle.lab_reader.specs.Words.{joined}
use Rattle.lab_reader.proofs.Joining.{whole}
use Rattle.lab_reader.proofs.words.is_code.Goals as goal

pub returns-then-starts_with_word : goal.returns-then-starts_with_word
returns-then-starts_with_word c =
    λ all. ap joined (c.are_words.ensures all)
    ∙ whole c.args.line.now (sym c.starts_with_word.ensures ∙ c.if-starts_with_word.true)
