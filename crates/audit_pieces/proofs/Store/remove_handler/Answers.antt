use Rattle.std.proofs.Common.{refl}
use Rattle.audit_pieces.specs.Stores.{objects_of, blocks_of, page_of}
use Rattle.audit_pieces.proofs.Store.remove_handler.Goals as goal

pub returns : goal.returns
unfolding objects_of blocks_of
returns c =
    let new = c.remove_handler.ensures (page_of c.args.self.now) in
    record { objects = cc; blocks = refl }
