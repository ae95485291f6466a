use Rattle.graft_syntax.specs.Readings.{reading}
use Rattle.graft_syntax.proofs.Passing.{word_stopped}
use Rattle.graft_syntax.proofs.reader.Place.pass_word.Goals as goal

pub returns-in-Err-clause-err : goal.returns-in-Err-clause-err
returns-in-Err-clause-err c =
    rw c.fault_in.ensures (word_stopped c.args.text.now c.args.self.now.at c.args.self.now.line
    (reading c.args.text.now c.args.reader.now)
    c.in-Err.refusal c.requires.within c.requires.word (rw c.word_at-word.ensures at c.in-Err.ensures))
