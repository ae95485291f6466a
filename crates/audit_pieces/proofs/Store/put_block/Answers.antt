use Rattle.std.proofs.Common.{None, refl}
use Rattle.audit_table.specs.Tables.{column_of}
use Rattle.audit_pieces.specs.Stores.{objects_of, blocks_of}
use Rattle.audit_pieces.proofs.Storing.{block_changed}
use Rattle.audit_pieces.proofs.Store.put_block.Goals as goal

pub returns-clause-objects : goal.returns-clause-objects
unfolding objects_of
returns-clause-objects c = refl

pub returns-clause-blocks : goal.returns-clause-blocks
unfolding blocks_of
returns-clause-blocks c =
    block_changed (column_of None c.put_one.new.rows.items)
    (column_of None c.args.self.now.disk.items) c.args.b c.args.bytes (c.in_ok-put_one.ensures None)
