use Rattle.std.proofs.Common.{ap, refl, arith}
use Rattle.kernel_data.specs.declared.FrameRow.{FrameRow}
use Rattle.buffer_cache.specs.Frames.{Frames}
use Rattle.kernel_state.specs.Stores.{world_of_store}
use Rattle.kernel_state.proofs.CacheLaws.{used_below}
use Rattle.kernel_state.proofs.Fits.{fits_frames, blocks_by}
use Rattle.kernel_state.proofs.Store.set_mark.Goals as goal

pub invariant_of-self-clause-fits : goal.invariant_of-self-clause-fits
invariant_of-self-clause-fits g c =
    let s = c.args.self.now in
    fits_frames s.cache.count c.mark.new.self.count (world_of_store s) _ _ c.args.self.now.fits
    (ap (λ (w : Frames). w.count) c.mark.ensures) refl
    (blocks_by (λ (r : FrameRow). record r { mark = c.args.v }) s.cache
    c.mark.new.self s.ram s.ram s.size _ (λ r. refl) c.lru.ensures.sound
    (omega (
      arith,
      used_below s.cache c.args.f c.lru.ensures.sound c.requires.in_cache,
      c.in-Some.ensures.number,
    )) c.mark.ensures c.args.self.now.fits.blocks)
