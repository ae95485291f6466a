use Rattle.std.proofs.Common.{arith, []}
use Rattle.std.proofs.lemmas.List.{append-nil}
use Rattle.lab_words.proofs.form.take_last.Goals as goal

pub returns-then-not-take_words : goal.returns-then-not-take_words
returns-then-not-take_words c = grind (arith, append-nil, c.take_words.ensures [])

pub returns : goal.returns
returns c = grind (arith, append-nil, c.take_words.ensures [])
