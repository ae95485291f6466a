use Rattle.std.proofs.Common.{List, ℕ, length, refl, ap, ◌∙◌}
use Rattle.graft_points.specs.Shelf.{pol_of}
use Rattle.kernel_state.specs.Sound.{world_for}
use Rattle.kernel_state.proofs.Fits.{fits_new}
use Rattle.kernel_state.proofs.Opening.{opens_with}
use Rattle.kernel_state.proofs.Store.restart.Goals as goal

pub invariant_of-self-clause-fits : goal.invariant_of-self-clause-fits
invariant_of-self-clause-fits g c =
    fits_new (world_for c.args.setup c.args.size c.args.dir) _ c.new-self-3.result
    c.new-self.result c.args.self.now.ram c.new-self-3.ensures c.new-self.ensures refl refl
    c.requires.boot.size_least c.requires.boot.size_most c.requires.boot.files

pub returns-clause-objects : goal.returns-clause-objects
returns-clause-objects g c =
    opens_with _ _ c.new-self-3.result c.args.self.now.ram _ c.clear.new.self c.args.setup.frames
    c.args.setup.grant (length c.args.self.now.kept) c.new-self-2.ensures.value
    c.new-self.ensures c.new-self-3.ensures
    (ap (λ (choice : List ℕ). pol_of c.args.self.now.shelf choice) c.new-self-4.ensures
    ∙ c.requires.stock) c.clear.ensures
