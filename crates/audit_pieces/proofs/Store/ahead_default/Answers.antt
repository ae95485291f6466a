use Rattle.audit_pieces.specs.Stores.{objects_of, page_of}
use Rattle.audit_pieces.proofs.Store.ahead_default.Goals as goal

pub returns : goal.returns
unfolding objects_of
returns c = c.ahead_default.ensures (page_of c.args.self.now)
