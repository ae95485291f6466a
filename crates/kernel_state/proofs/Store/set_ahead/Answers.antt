use Rattle.std.proofs.Common.{option_map}
use Rattle.kernel_model.specs.FilePieces.{with_ahead}
use Rattle.kernel_state.specs.Stores.{world_of_store, objects_of}
use Rattle.kernel_state.proofs.Fits.{fits_file, stands_by, changed_sound, ahead_sound}
use Rattle.kernel_state.proofs.Store.set_ahead.Goals as goal

pub invariant_of-self-clause-fits : goal.invariant_of-self-clause-fits
invariant_of-self-clause-fits g c =
    let s = c.args.self.now in
    let row = (objects_of s).things.file c.args.p c.args.fd in
    fits_file s.cache.count (world_of_store s) (objects_of s) _ c.args.p c.args.fd
    (option_map (with_ahead c.args.start c.args.count) row) s.fits
    (changed_sound (world_of_store s) (with_ahead c.args.start c.args.count) row
    (λ o found. ahead_sound (world_of_store s) c.args.start c.args.count _ o c.requires.few
    c.requires.within found (s.fits.files c.args.p c.args.fd o found)))
    (stands_by s c.set_ahead.new.self _ c.set_ahead.ensures)
