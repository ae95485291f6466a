use Rattle.std.proofs.Common.{◌∙◌, sym}
use Rattle.kernel_state.proofs.Fits.{row_fits}
use Rattle.kernel_state.proofs.Store.dirty_block.Goals as goal

pub returns-then-row-clause-in_cache : goal.returns-then-row-clause-in_cache
returns-then-row-clause-in_cache g c =
    let s = c.args.self.now in (
      row_fits s.cache s.ram s.size c.args.f c.row-row.result c.args.self.now.fits.blocks c.row-row.ensures.value,
      sym c.is_used.ensures ∙ c.if-not-is_used.false,
    )
