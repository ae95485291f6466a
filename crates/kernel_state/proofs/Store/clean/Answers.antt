use Rattle.std.proofs.Common.{false, ap, refl}
use Rattle.buffer_cache.specs.Frames.{Frames}
use Rattle.kernel_state.specs.Stores.{world_of_store}
use Rattle.kernel_state.proofs.CacheLaws.{cleaned_is, used_below}
use Rattle.kernel_state.proofs.Fits.{fits_frames, blocks_changed, stands_so}
use Rattle.kernel_state.proofs.Store.clean.Goals as goal

pub returns-clause-objects : goal.returns-clause-objects
returns-clause-objects g c =
    λ x held.
    let s = c.args.self.now in
    stands_so s c.clean.new.self s.ram _ (cleaned_is s.cache c.clean.new.self s.ram c.args.f x
    c.lru.ensures.sound c.requires.in_cache c.clean.ensures held)

pub invariant_of-self-clause-fits : goal.invariant_of-self-clause-fits
invariant_of-self-clause-fits g c =
    let s = c.args.self.now in
    fits_frames s.cache.count c.clean.new.self.count (world_of_store s) _ _ c.args.self.now.fits
    (ap (λ (w : Frames). w.count) c.clean.ensures) refl
    (blocks_changed s.cache c.clean.new.self s.ram s.ram s.size c.args.f false c.lru.ensures.sound
    (used_below s.cache c.args.f c.lru.ensures.sound c.requires.in_cache) c.clean.ensures
    c.args.self.now.fits.blocks)
