use Rattle.std.proofs.Common.{ap, refl}
use Rattle.process_table.specs.Processes.{Processes}
use Rattle.kernel_state.specs.Stores.{world_of_store}
use Rattle.kernel_state.proofs.Fits.{fits_same}
use Rattle.kernel_state.proofs.Store.set_cell.Goals as goal

pub invariant_of-self-clause-fits : goal.invariant_of-self-clause-fits
invariant_of-self-clause-fits g c =
    let s = c.args.self.now in
    fits_same s.cache.count (world_of_store s) _ _ c.args.self.now.fits
    (ap (λ (x : Processes). x.file) c.set_cell.ensures) refl
