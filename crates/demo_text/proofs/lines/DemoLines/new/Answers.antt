use Rattle.std.proofs.Common.{[], List, ap, ◌∙◌, arith}
use Rattle.script_model.specs.declared.Instr.{Instr}
use Rattle.script_model.specs.Demo.{demo_keys}
use Rattle.script_model.specs.World.{plain_image}
use Rattle.script_model.specs.Images.{sealed_under}
use Rattle.demo_text.proofs.LineLemmas.{are_images}
use Rattle.demo_text.proofs.lines.DemoLines.new.Goals as goal

pub invariant_of-result : goal.invariant_of-result
invariant_of-result c = (
  omega arith,
  omega arith,
  are_images c.in_ok-three.three.items c.in_ok-newest.newest.items
      (c.in_ok-three.ensures ∙ ap (λ (code : List Instr). sealed_under demo_keys (plain_image code [])) c.three.ensures)
      (c.in_ok-newest.ensures ∙ ap (λ (code : List Instr). sealed_under demo_keys
      (plain_image code [])) c.newest_frame.ensures),
)
