use Rattle.graft_levels.proofs.Placing.{ended_placed, ended_elsewhere}
use Rattle.graft_levels.proofs.drops.end_level.Goals as goal

pub returns-clause-placed : goal.returns-clause-placed
returns-clause-placed g c =
    ended_placed c.args.store.now c.undo_level.new.store c.args.locks.now c.release_from.new.self
    c.args.p c.count.result
    c.args.chain.now.levels c.args.chain.now.undo c.undo_level.new.undo c.requires.process
    c.requires.few c.requires.as_many c.requires.sound c.requires.undoable
    c.undo_level.ensures.store.living c.undo_level.ensures.store.kept c.undo_level.ensures.log
    c.release_from.ensures c.count.ensures.value

pub returns-clause-elsewhere : goal.returns-clause-elsewhere
returns-clause-elsewhere g c =
    ended_elsewhere c.args.store.now c.undo_level.new.store c.args.locks.now c.release_from.new.self
    c.args.p c.count.result
    c.undo_level.ensures.store.world c.undo_level.ensures.store.living
    c.undo_level.ensures.store.memory c.release_from.ensures
