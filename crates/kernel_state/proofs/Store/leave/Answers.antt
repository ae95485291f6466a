use Rattle.std.proofs.Common.{◌∙◌, ap}
use Rattle.kernel_data.specs.Objects.{Objects}
use Rattle.kernel_data.specs.Policies.{lives}
use Rattle.buffer_cache.specs.Frames.{Frames}
use Rattle.process_table.specs.Processes.{Processes, processes_of}
use Rattle.graft_accounts.specs.Table.{accounts_of}
use Rattle.kernel_state.specs.CacheViews.{cache_value}
use Rattle.kernel_state.specs.Stores.{world_of_store, cache_of, policies_of, objects_of}
use Rattle.kernel_state.proofs.Leaving.{cache_handed, objects_left, lives_left, fits_left}
use Rattle.kernel_state.proofs.Store.leave.Goals as goal

pub returns-clause-objects : goal.returns-clause-objects
returns-clause-objects g c =
    let s = c.args.self.now in
    objects_left c.args.p (accounts_of s.accounts) (accounts_of c.close.new.self)
    (processes_of s.procs) (processes_of c.leave.new.self) (cache_of s)
    (cache_value c.hand_over.new.self s.ram) (policies_of s) s.kept
    c.close.ensures.value c.leave.ensures
    (cache_handed s.cache c.hand_over.new.self s.ram c.args.p 0 c.hand_over.ensures.value)

pub returns-clause-living : goal.returns-clause-living
returns-clause-living g c =
    λ q. ap (λ (x : Processes). lives x.queue q) c.leave.ensures
    ∙ lives_left c.args.p q c.args.self.now.procs.queue

pub invariant_of-self-clause-fits : goal.invariant_of-self-clause-fits
invariant_of-self-clause-fits g c =
    let s = c.args.self.now in
    let left = objects_left c.args.p (accounts_of s.accounts) (accounts_of c.close.new.self)
    (processes_of s.procs) (processes_of c.leave.new.self) (cache_of s)
    (cache_value c.hand_over.new.self s.ram) (policies_of s) s.kept
    c.close.ensures.value c.leave.ensures
    (cache_handed s.cache c.hand_over.new.self s.ram c.args.p 0 c.hand_over.ensures.value) in
    fits_left s.cache.count c.hand_over.new.self.count (world_of_store s) c.args.p
    (objects_of s).things _ c.args.self.now.fits
    (ap (λ (w : Frames). w.count) c.hand_over.ensures.value) (ap (λ (o : Objects). o.things) left)
