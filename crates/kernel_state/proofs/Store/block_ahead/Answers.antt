use Rattle.std.proofs.Common.{arith}
use Rattle.kernel_state.specs.Stores.{world_of_store}
use Rattle.kernel_state.proofs.Blocks.{ahead_inside}
use Rattle.kernel_state.proofs.Store.block_ahead.Goals as goal

pub overflow_add-result : goal.overflow_add-result
overflow_add-result g c =
    let s = c.args.self.now in
    let row = c.row.result.now in
    let inside = ahead_inside (world_of_store s) c.args.opened.now row c.requires.file c.row.ensures
    (c.args.self.now.fits.directory c.args.opened.now.file row c.row.ensures) c.requires.some in
    let most = c.args.self.now.fits.most in omega arith

pub returns-clause-on_disk : goal.returns-clause-on_disk
returns-clause-on_disk g c =
    let s = c.args.self.now in
    ahead_inside (world_of_store s) c.args.opened.now c.row.result.now c.requires.file c.row.ensures
    (c.args.self.now.fits.directory c.args.opened.now.file c.row.result.now c.row.ensures)
    c.requires.some
