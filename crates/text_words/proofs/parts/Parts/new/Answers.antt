use Rattle.text_words.proofs.Splits.{few_parts}
use Rattle.text_words.proofs.parts.Parts.new.Goals as goal

pub returns-clause-few : goal.returns-clause-few
returns-clause-few c = few_parts _ c.args.text.now
