use Rattle.std.proofs.Common.{refl}
use Rattle.audit_pieces.specs.Stores.{objects_of, blocks_of, page_of}
use Rattle.audit_pieces.proofs.Store.to_back.Goals as goal

pub returns : goal.returns
unfolding objects_of blocks_of
returns c =
    let new = c.in_ok-to_back.ensures (page_of c.args.self.now) in
    record { objects = cc; blocks = refl }
