use Rattle.std.proofs.Common.{option_map}
use Rattle.kernel_model.specs.FilePieces.{read_on}
use Rattle.kernel_state.specs.Stores.{world_of_store, objects_of}
use Rattle.kernel_state.proofs.Fits.{fits_file, stands_by, changed_sound, read_on_sound}
use Rattle.kernel_state.proofs.Store.read_on.Goals as goal

pub invariant_of-self-clause-fits : goal.invariant_of-self-clause-fits
invariant_of-self-clause-fits g c =
    let s = c.args.self.now in
    let row = (objects_of s).things.file c.args.p c.args.fd in
    fits_file s.cache.count (world_of_store s) (objects_of s) _ c.args.p c.args.fd
    (option_map (read_on c.args.i) row) s.fits
    (changed_sound (world_of_store s) (read_on c.args.i) row (λ o found. read_on_sound
    (world_of_store s) c.args.i o (s.fits.files c.args.p c.args.fd o found)))
    (stands_by s c.read_on.new.self _ c.read_on.ensures)
