use Rattle.std.proofs.Common.{arith, sym, ◌∙◌}
use Rattle.running_kernel.specs.Views.{placed_of}
use Rattle.kernel_core.specs.declared.images.ImageRefusal.TheVariants.{BadSlot, Taken}
use Rattle.kernel_core.proofs.AddedImageLemmas.{slot_is_refused, high_slot, used_slot}
use Rattle.kernel_core.proofs.kernel.Kernel.slot_refusal.Goals as goal

pub returns-then-slot-gt-LAST_SLOT-clause-refused : goal.returns-then-slot-gt-LAST_SLOT-clause-refused
returns-then-slot-gt-LAST_SLOT-clause-refused g c = λ k loaded stands rests.
    let x = placed_of c.args.self.now.running in
    slot_is_refused g.C.Meaning.Rules.meaning x c.args.slot loaded k BadSlot
    (high_slot x.images c.args.slot (omega (arith, c.if-slot-gt-LAST_SLOT.true))) stands rests

pub returns-then-has_image-clause-refused : goal.returns-then-has_image-clause-refused
returns-then-has_image-clause-refused g c = λ k loaded stands rests.
    let x = placed_of c.args.self.now.running in
    slot_is_refused g.C.Meaning.Rules.meaning x c.args.slot loaded k Taken
    (used_slot x.images c.args.slot (omega (arith, c.if-slot-gt-LAST_SLOT.false))
    (sym c.has_image.ensures ∙ c.if-has_image.true))
    stands rests
