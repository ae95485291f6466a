use Rattle.std.proofs.Common.{◌∙◌, ap, refl}
use Rattle.kernel_data.specs.Policies.{lives}
use Rattle.process_table.specs.Processes.{Processes}
use Rattle.kernel_state.specs.Stores.{world_of_store}
use Rattle.process_table.proofs.Rows.{living-to_back}
use Rattle.kernel_state.proofs.Fits.{fits_same, stands_by}
use Rattle.kernel_state.proofs.Store.to_back.Goals as goal

pub returns : goal.returns
returns g c =
    let s = c.args.self.now in
    record {
      objects = stands_by s c.to_back.new.self _ c.to_back.ensures;
      queue = ap (λ (x : Processes). x.queue) c.to_back.ensures;
      living = λ q. ap (λ (x : Processes). lives x.queue q) c.to_back.ensures ∙ living-to_back q c.args.p s.procs.queue;
      views = refl;
      world = refl;
      memory = refl;
    }

pub invariant_of-self-clause-fits : goal.invariant_of-self-clause-fits
invariant_of-self-clause-fits g c =
    let s = c.args.self.now in
    fits_same s.cache.count (world_of_store s) _ _ c.args.self.now.fits
    (ap (λ (x : Processes). x.file) c.to_back.ensures) refl
