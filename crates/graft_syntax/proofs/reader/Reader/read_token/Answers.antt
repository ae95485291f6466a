use Rattle.graft_syntax.proofs.reader.Reader.read_token.Goals as goal

pub returns-in-Some : goal.returns-in-Some
returns-in-Some c = rw c.in-Some.ensures c.read_for.ensures
