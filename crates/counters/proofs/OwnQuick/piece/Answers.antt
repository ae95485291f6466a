use Rattle.quick_calls.specs.Doing.{does_as}
use Rattle.counters.specs.Table.{counters}
use Rattle.counters.proofs.OwnQuick.piece.Goals as goal

pub returns-in-Poke : goal.returns-in-Poke
returns-in-Poke g c =
    does_as counters c.args.work.now _ c.args.store.now c.poke.new.store c.poke.result
    c.in-Poke.is c.poke.ensures

pub returns-in-Peek : goal.returns-in-Peek
returns-in-Peek g c =
    does_as counters c.args.work.now _ c.args.store.now c.peek.new.store c.peek.result
    c.in-Peek.is c.peek.ensures
