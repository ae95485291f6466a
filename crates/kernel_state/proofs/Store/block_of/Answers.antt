use Rattle.std.proofs.Common.{◌∙◌, sym, arith}
use Rattle.kernel_state.proofs.Blocks.{block_inside}
use Rattle.kernel_state.proofs.Store.block_of.Goals as goal

pub overflow_add-result : goal.overflow_add-result
overflow_add-result g c =
    let lies = c.args.self.now.fits.directory c.in-Some.opened.file c.row-row.result.now c.row-row.ensures in
    let inside =
    block_inside c.args.self.now.size c.row-row.result.now c.args.i c.args.off c.args.len lies
    c.args.self.now.fits.most (sym c.has_bytes.ensures ∙ c.if-not-has_bytes.false) in
    let less = inside.0 in let most = c.args.self.now.fits.most in omega arith

pub returns-clause-on_disk : goal.returns-clause-on_disk
returns-clause-on_disk g c =
    let lies = c.args.self.now.fits.directory c.in-Some.opened.file c.row-row.result.now c.row-row.ensures in
    block_inside c.args.self.now.size c.row-row.result.now c.args.i c.args.off c.args.len lies
    c.args.self.now.fits.most (sym c.has_bytes.ensures ∙ c.if-not-has_bytes.false)
