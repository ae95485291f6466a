use Rattle.call_pieces.specs.Stores.{world_of_store, objects_of}
use Rattle.graft_levels.specs.Chains.{levels_in}
use Rattle.graft_levels.specs.Slots.{table_of}
use Rattle.lock_table.specs.Masks.{held}
use Rattle.kernel_model.specs.GraftStep.{lock_user, next_needs}
use Rattle.running_kernel.proofs.FreeLemmas.{nobody_hinders}
use Rattle.running_kernel.proofs.blocking.graft_hindrance.Goals as goal

pub returns-then-not-may_take_lock : goal.returns-then-not-may_take_lock
returns-then-not-may_take_lock g c = λ ram t log w.
    let s = objects_of c.args.store.now in
    let v = world_of_store c.args.store.now in
    let ls = levels_in c.args.p ram t c.args.chain.now.levels log w in
    nobody_hinders (held c.args.locks.now) s.things.lock c.args.p (lock_user c.args.p ls)
    (next_needs v (table_of c.args.images.now) s.accounts ls)
    (c.is_free_but.ensures c.if-is_free_but.true)
    (c.may_take_lock.ensures c.if-not-may_take_lock.true v c.args.p ram t log w)
