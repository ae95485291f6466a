use Rattle.std.proofs.Common.{ℕ, List, refl, ap, ◌∙◌}
use Rattle.graft_points.specs.Shelf.{pol_of}
use Rattle.kernel_state.specs.Sound.{world_for}
use Rattle.kernel_state.proofs.Fits.{fits_new}
use Rattle.kernel_state.proofs.Opening.{opens_with}
use Rattle.kernel_state.proofs.Store.new.Goals as goal

pub invariant_of-result-clause-fits : goal.invariant_of-result-clause-fits
invariant_of-result-clause-fits g c =
    fits_new (world_for c.args.setup c.args.size c.args.dir) _ c.new-3.result c.new.result
    c.args.ram c.new-3.ensures c.new.ensures refl refl c.requires.boot.size_least
    c.requires.boot.size_most c.requires.boot.files

pub returns-clause-objects : goal.returns-clause-objects
returns-clause-objects g c =
    opens_with _ _ c.new-3.result c.args.ram _ c.args.kept c.args.setup.frames c.args.setup.grant
    256 c.new-2.ensures.value c.new.ensures c.new-3.ensures
    (ap (λ (choice : List ℕ). pol_of c.args.shelf choice) c.new-4.ensures ∙ c.requires.stock) c.requires.room
