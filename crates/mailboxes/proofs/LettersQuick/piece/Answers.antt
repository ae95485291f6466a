use Rattle.quick_calls.specs.Doing.{does_as}
use Rattle.mailboxes.specs.Mailboxes.{mailboxes}
use Rattle.mailboxes.proofs.LettersQuick.piece.Goals as goal

pub returns-in-Poke : goal.returns-in-Poke
returns-in-Poke g c =
    does_as mailboxes c.args.work.now _ c.args.store.now c.post.new.store c.post.result
    c.in-Poke.is c.post.ensures

pub returns-in-Peek : goal.returns-in-Peek
returns-in-Peek g c =
    does_as mailboxes c.args.work.now _ c.args.store.now c.take.new.store c.take.result
    c.in-Peek.is c.take.ensures
