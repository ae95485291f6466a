use Rattle.kernel_state.specs.Table.{accounts_of}
use Rattle.graft_loader.specs.Slots.{table_of}
use Rattle.graft_levels.proofs.NextNeeds.{chain_needs_none, no_chain_needs_none}
use Rattle.graft_levels.proofs.Chain.may_take_lock.Goals as goal

pub returns-in-Some : goal.returns-in-Some
returns-in-Some g c = λ plain v p ram t log w.
    chain_needs_none v (table_of c.args.images.now) (accounts_of c.args.store.now.accounts)
    c.in-Some.level.now c.args.self.now.levels c.in-Some.ensures
    (λ p d ram t is w ls. c.may_take_lock.ensures plain v p d ram t is w ls) p ram t log w

pub returns-in-None : goal.returns-in-None
returns-in-None g c = λ plain v p ram t log w.
    no_chain_needs_none v (table_of c.args.images.now) (accounts_of c.args.store.now.accounts)
    c.args.self.now.levels c.in-None.ensures p ram t log w
