use Rattle.kernel_state.specs.Stores.{world_of_store, objects_of}
use Rattle.kernel_state.proofs.Fits.{fits_file, stands_by}
use Rattle.kernel_state.proofs.Store.put_file.Goals as goal

pub invariant_of-self-clause-fits : goal.invariant_of-self-clause-fits
invariant_of-self-clause-fits g c =
    let s = c.args.self.now in
    fits_file s.cache.count (world_of_store s) (objects_of s) _ c.args.p c.args.fd c.args.row
    c.args.self.now.fits c.requires.file (stands_by s c.put_file.new.self _ c.put_file.ensures)
