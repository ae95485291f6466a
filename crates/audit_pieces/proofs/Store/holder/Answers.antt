use Rattle.audit_pieces.specs.Stores.{objects_of, page_of}
use Rattle.audit_pieces.proofs.Store.holder.Goals as goal

pub returns : goal.returns
unfolding objects_of
returns c = c.holder.ensures (page_of c.args.self.now)
