use Rattle.kernel_state.proofs.Search.{find_is}
use Rattle.kernel_state.proofs.Store.find.Goals as goal

pub returns-clause-value : goal.returns-clause-value
returns-clause-value g c =
    find_is c.args.self.now.cache c.args.self.now.ram c.args.block c.find.result c.lru.ensures.sound
    c.find.ensures.found c.find.ensures.missing
