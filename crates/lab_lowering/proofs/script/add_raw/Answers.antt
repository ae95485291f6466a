use Rattle.std.proofs.Common.{ap, ◌∙◌}
use Rattle.script_model.specs.Images.{sealed_under}
use Rattle.lab_lowering.specs.Lowering.{with_code}
use Rattle.lab_lowering.proofs.Loading.{image_loaded}
use Rattle.lab_lowering.proofs.script.add_raw.Goals as goal

pub returns : goal.returns
returns c =
    let i = c.args.image.now in
    image_loaded c.add_image.result _ _ _ c.args.keys.now c.args.slot i
    (c.as_slice.ensures.value ∙ c.in_ok-bytes.ensures
    ∙ ap (λ code. sealed_under c.args.keys.now (with_code i code)) c.code.ensures.code)
    c.add_image.ensures
