-- No words are added.
use Rattle.vino_top.proofs.session.Session.run_line.Goals as goal

pub returns-clause-ok : goal.returns-clause-ok
returns-clause-ok g c = rw c.no_words.ensures at c.run_line_with.ensures.ok

pub returns-clause-err : goal.returns-clause-err
returns-clause-err g c = rw c.no_words.ensures at c.run_line_with.ensures.err
