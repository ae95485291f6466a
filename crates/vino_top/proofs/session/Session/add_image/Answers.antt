use Rattle.std.proofs.Common.{◌≡◌, ℕ, List, Result, true, sym, subst, ◌∙◌}
use Rattle.script_model.specs.Images.{load}
use Rattle.running_kernel.specs.Views.{placed_of}
use Rattle.kernel_core.specs.declared.images.ImageRefusal.{ImageRefusal}
use Rattle.kernel_core.specs.AddedImages.{has_memory, image_said, ImageIsAdded}
use Rattle.vino_top.proofs.session.Session.add_image.Goals as goal

pub returns-clause-added : goal.returns-clause-added
returns-clause-added g c = λ k stands rests.
    let keys = c.args.keys.now in
    let y = placed_of c.add_image.new.self.running in
    let same : c.in-Ok.answer ≡ c.add_image.result = c.in-Ok.ensures.same.0 in
    let memory : has_memory c.add_image.result ≡ true =
    subst (λ (a : Result (ℕ × ℕ) ImageRefusal). has_memory a ≡ true) same c.in-Ok.ensures.same.1 in
    let added = c.add_image.ensures.added memory k stands rests in
    subst (λ (bytes : List ℕ). ImageIsAdded g.C.Meaning.Rules.meaning c.args.slot
    (load keys bytes) k y (image_said c.in-Ok.answer))
    (c.as_slice.ensures.value ∙ c.in_ok-sealed.ensures)
    (subst (λ (a : Result (ℕ × ℕ) ImageRefusal). ImageIsAdded g.C.Meaning.Rules.meaning c.args.slot
    (load keys c.as_slice.result.now) k y (image_said a))
    (sym same) added)
