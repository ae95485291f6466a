use Rattle.std.proofs.Common.{ℕ, List, ◌++◌, filter_map, sym, ap, ◌∙◌}
use Rattle.kernel_data.specs.declared.FrameRow.{FrameRow}
use Rattle.kernel_data.specs.declared.RawRow.{RawRow}
use Rattle.kernel_data.specs.Objects.{CacheValue}
use Rattle.audit_pieces.specs.Stores.{page_of}
use Rattle.audit_state.specs.Things.{things_of}
use Rattle.audit_kernel.specs.Rows.{frame_row_in}
use Rattle.audit_kernel.proofs.Run.frames_row.Goals as goal

pub returns : goal.returns
returns c =
    let bytes = page_of c.args.self.now.store in
    let cache = (things_of bytes c.things_at-cache.result.now).cache in
    ap (λ (rs : List FrameRow). RawRow.Lru rs)
    (c.in_ok-add_frames.ensures bytes
    ∙ ap (λ (rs : List FrameRow). rs ++ filter_map (frame_row_in cache) c.as_slice.result.now)
    c.new-rows.ensures
    ∙ ap (λ (fs : List ℕ). filter_map (frame_row_in cache) fs) c.as_slice.ensures.value
    ∙ ap (λ (x : CacheValue). filter_map (frame_row_in x) x.lru) (sym c.things_at-cache.ensures))
