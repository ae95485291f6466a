use Rattle.std.proofs.Common.{◌≡◌, ◌∙◌, List, Option, length, ap, subst, refl, arith, true}
use Rattle.std.proofs.lemmas.Grind.{common_steps}
use Rattle.kernel_data.specs.declared.FrameRow.{FrameRow}
use Rattle.kernel_data.specs.Objects.{CacheValue}
use Rattle.buffer_cache.specs.Frames.{Frames, holds, row_at}
use Rattle.kernel_state.specs.CacheViews.{cache_value}
use Rattle.kernel_state.specs.Stores.{world_of_store, cache_of}
use Rattle.kernel_state.proofs.CacheLaws.{replaced_is}
use Rattle.kernel_state.proofs.Search.{none_holds}
use Rattle.kernel_state.proofs.Fits.{fits_frames, blocks_filled, stands_so}
use Rattle.kernel_state.proofs.Store.replace.Goals as goal

pub fill-requires-clause-no_other : goal.fill-requires-clause-no_other
fill-requires-clause-no_other g c =
    λ g does.
    let rows = ap (λ (w : Frames). w.rows) c.swap_places.ensures in
    none_holds c.args.self.now.cache c.args.self.now.ram c.args.block c.args.f g c.lru.ensures.sound c.requires.missing
    (subst (λ (w : List (Option FrameRow)). holds c.args.block (row_at w g) ≡ true) rows does)

pub returns-clause-changed : goal.returns-clause-changed
returns-clause-changed g c =
    let s = c.args.self.now in
    let long : length c.args.bytes.now ≡ 512 = omega arith in
    record {
      objects =
          stands_so s c.fill.new.self c.fill.new.ram _
          (replaced_is s.cache c.swap_places.new.self c.fill.new.self s.ram c.fill.new.ram
          c.args.bytes.now c.args.f c.args.candidate c.args.owner c.args.block
          c.lru.ensures.sound c.whole.ensures
          c.requires.frame long c.swap_places.ensures c.lru-2.ensures.sound c.fill.ensures.cache c.fill.ensures.memory);
      world = refl;
      memory = grind (arith, common_steps);
    }

pub invariant_of-self-clause-fits : goal.invariant_of-self-clause-fits
invariant_of-self-clause-fits g c =
    let s = c.args.self.now in
    let long : length c.args.bytes.now ≡ 512 = omega arith in
    let is = replaced_is s.cache c.swap_places.new.self c.fill.new.self s.ram c.fill.new.ram
    c.args.bytes.now c.args.f c.args.candidate c.args.owner c.args.block c.lru.ensures.sound
    c.whole.ensures
    c.requires.frame long c.swap_places.ensures c.lru-2.ensures.sound c.fill.ensures.cache c.fill.ensures.memory in
    let count = ap (λ (w : Frames). w.count) c.fill.ensures.cache
    ∙ ap (λ (w : Frames). w.count) c.swap_places.ensures in
    fits_frames s.cache.count c.fill.new.self.count (world_of_store s) _ _ c.args.self.now.fits count refl
    (blocks_filled s.size c.args.f c.args.owner c.args.block c.args.bytes.now (cache_of s)
    (cache_value c.fill.new.self c.fill.new.ram) c.args.self.now.fits.blocks c.requires.block
    (ap (λ (w : CacheValue). w.frame) is))
