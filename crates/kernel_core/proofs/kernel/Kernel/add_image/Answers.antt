use Rattle.std.proofs.Common.{ap, length, sym, ◌∙◌}
use Rattle.kernel_model.specs.Images.{load}
use Rattle.graft_loader.specs.Faults.{refusal_of}
use Rattle.running_kernel.specs.Views.{placed_of}
use Rattle.kernel_core.proofs.AddedImageLemmas.{bytes_are_refused, image_is_added, known_fault}
use Rattle.kernel_core.proofs.kernel.Kernel.add_image.Goals as goal

pub returns-in-Err-clause-added : goal.returns-in-Err-clause-added
returns-in-Err-clause-added g c = λ memory k stands rests.
    let x = placed_of c.args.self.now.running in
    bytes_are_refused g.C.Meaning.Rules.meaning x c.args.slot
    (load c.args.keys.now c.args.bytes.now) k (refusal_of c.in-Err.fault)
    (sym c.slot_refusal.ensures.value ∙ c.in_default.is) (known_fault c.in-Err.fault memory)
    c.in-Err.ensures.err stands rests

pub returns-in-Ok-clause-added : goal.returns-in-Ok-clause-added
returns-in-Ok-clause-added g c = λ memory k stands rests.
    let x = placed_of c.args.self.now.running in
    image_is_added g.C.Meaning.Rules.meaning x (placed_of c.put_image.new.self.running) c.args.slot
    (load c.args.keys.now c.args.bytes.now) c.in-Ok.image k _ _
    (sym c.slot_refusal.ensures.value ∙ c.in_default.is) c.in-Ok.ensures.ok
    (ap length (c.code-in-Ok.ensures.code ∙ c.code.ensures.code)) (ap length c.body.ensures.body)
    stands (c.put_image.ensures.stands k stands) (c.put_image.ensures.rests k stands rests)
