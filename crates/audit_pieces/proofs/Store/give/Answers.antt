use Rattle.std.proofs.Common.{refl}
use Rattle.audit_pieces.specs.Stores.{objects_of, blocks_of}
use Rattle.audit_pieces.proofs.Store.give.Goals as goal

pub returns : goal.returns
unfolding objects_of blocks_of
returns c =
    let new = c.in_ok-give.ensures in
    record { objects = cc; blocks = refl }
