-- Where nothing is kept, or the image keeps nothing, the bytes are the image's data.
use Rattle.std.proofs.Common.{◌≡◌, List, ℕ, Bool, true, Option, Some, None, slice_index, sym, ◌∙◌, ap}
use Rattle.std.specs.Prelude.{slice_index_or}
use Rattle.kernel_model.specs.Levels.{segment_with}
use Rattle.kernel_state.specs.Tables.{by_place}
use Rattle.graft_levels.specs.Chains.{kept_bytes}
use Rattle.graft_levels.proofs.Feeding.{byte_of}
use Rattle.graft_levels.proofs.keeping.first_bytes.Goals as goal

pub returns-then-not-keep-clause-value : goal.returns-then-not-keep-clause-value
returns-then-not-keep-clause-value c = λ i.
    let image = c.args.image.now in
    ap (λ (xs : List ℕ). slice_index xs i) c.body-data.ensures.body ∙ sym (byte_of image.body i)
    ∙ ap (λ (b : Bool). segment_with (Some image) b (by_place
    (kept_bytes c.args.kept.now c.args.at.process c.args.at.point)) i) c.if-not-keep.ensures

pub returns-in-None-clause-value : goal.returns-in-None-clause-value
returns-in-None-clause-value c = λ i.
    let image = c.args.image.now in
    let kept = c.args.kept.now in
    let none : None ≡ kept_bytes kept c.args.at.process c.args.at.point = c.in-None.ensures.value
    ∙ ap (λ n. slice_index_or kept n None) c.segment_number.ensures.value in
    ap (λ (xs : List ℕ). slice_index xs i) c.body-data.ensures.body ∙ sym (byte_of image.body i)
    ∙ ap (λ (o : Option (List ℕ)). segment_with (Some image) true (by_place o) i) none
    ∙ ap (λ (b : Bool). segment_with (Some image) b
    (by_place (kept_bytes kept c.args.at.process c.args.at.point)) i) c.if-not-keep.ensures
