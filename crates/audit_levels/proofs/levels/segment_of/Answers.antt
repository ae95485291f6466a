use Rattle.std.proofs.Common.{Bor, Bool, Option, None, ap, sym, ◌∙◌}
use Rattle.std.specs.Prelude.{option_copied, option_map}
use Rattle.kernel_model.specs.Levels as model
use Rattle.audit_table.specs.Tables.{by_place}
use Rattle.audit_state.specs.declared.Kept.{Kept}
use Rattle.audit_state.specs.Things.{kept_of}
use Rattle.audit_levels.proofs.Segments.{data_is}
use Rattle.audit_levels.proofs.levels.segment_of.Goals as goal

pub returns-then-not-keeps_in : goal.returns-then-not-keeps_in
returns-then-not-keeps_in c =
    let image = option_copied c.args.image in
    let kept = option_map kept_of (option_copied c.args.kept) in
    let off = sym c.keeps_in.ensures ∙ c.if-not-keeps_in.true in
    ap by_place c.body_in.ensures ∙ data_is (model.body_in image)
    ∙ sym (ap (λ (b : Bool). model.segment_with image b kept) off)

pub returns-in-None : goal.returns-in-None
returns-in-None c =
    let image = option_copied c.args.image in
    let on = sym c.keeps_in.ensures ∙ c.if-not-keeps_in.false in
    ap by_place c.body_in-in-None.ensures ∙ data_is (model.body_in image)
    ∙ sym (ap (λ (b : Bool). model.segment_with image b None) on)
    ∙ sym (ap (λ (k : Option (Bor Kept)). model.segment_with image (model.keeps_in image)
    (option_map kept_of (option_copied k))) c.in-None.is)
