use Rattle.std.proofs.Common.{true, ap, refl, arith}
use Rattle.std.proofs.lemmas.Grind.{common_steps}
use Rattle.buffer_cache.specs.Frames.{Frames}
use Rattle.kernel_state.specs.Stores.{world_of_store}
use Rattle.kernel_state.proofs.CacheLaws.{patched_is, used_below}
use Rattle.kernel_state.proofs.Fits.{fits_frames, blocks_changed, stands_so}
use Rattle.kernel_state.proofs.Store.patch.Goals as goal

pub returns : goal.returns
returns g c =
    let s = c.args.self.now in
    record {
      objects =
          stands_so s c.patch.new.self c.patch.new.ram _
          (patched_is s.cache c.patch.new.self s.ram c.patch.new.ram c.args.bytes.now c.args.f
          c.args.off c.lru.ensures.sound c.whole.ensures c.requires.in_cache c.requires.inside
          c.patch.ensures.cache c.patch.ensures.memory);
      world = refl;
      memory = grind (arith, common_steps);
    }

pub invariant_of-self-clause-fits : goal.invariant_of-self-clause-fits
invariant_of-self-clause-fits g c =
    let s = c.args.self.now in
    fits_frames s.cache.count c.patch.new.self.count (world_of_store s) _ _ c.args.self.now.fits
    (ap (λ (w : Frames). w.count) c.patch.ensures.cache) refl
    (blocks_changed s.cache c.patch.new.self s.ram c.patch.new.ram s.size c.args.f true
    c.lru.ensures.sound (used_below s.cache c.args.f c.lru.ensures.sound c.requires.in_cache)
    c.patch.ensures.cache c.args.self.now.fits.blocks)
