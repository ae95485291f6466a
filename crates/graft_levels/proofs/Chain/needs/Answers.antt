use Rattle.std.proofs.Common.{refl}
use Rattle.kernel_state.specs.Table.{accounts_of}
use Rattle.graft_loader.specs.Slots.{table_of}
use Rattle.kernel_state.specs.Stores.{world_of_store}
use Rattle.graft_levels.proofs.NextNeeds.{of_first}
use Rattle.graft_levels.proofs.Chain.needs.Goals as goal

pub returns-in-Some-clause-value : goal.returns-in-Some-clause-value
returns-in-Some-clause-value g c =
    of_first (world_of_store c.args.store.now) (table_of c.args.images.now)
    (accounts_of c.args.store.now.accounts) c.in-Some.level.now c.args.self.now.levels
    c.level_needs.result c.in-Some.ensures
    (λ p d ram t is w ls. c.level_needs.ensures.value (world_of_store c.args.store.now) p d ram t is w ls refl)
