use Rattle.audit_pieces.specs.Stores.{objects_of, page_of}
use Rattle.audit_pieces.proofs.Store.frame.Goals as goal

pub returns : goal.returns
unfolding objects_of
returns c = c.frame.ensures (page_of c.args.self.now)
