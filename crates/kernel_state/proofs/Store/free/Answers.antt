use Rattle.kernel_state.proofs.Search.{free_is}
use Rattle.kernel_state.proofs.Store.free.Goals as goal

pub returns-clause-value : goal.returns-clause-value
returns-clause-value g c =
    free_is c.args.self.now.cache c.args.self.now.ram c.args.self.now.setup.frames c.free.result
    c.lru.ensures.sound c.args.self.now.fits.frames c.free.ensures.value
