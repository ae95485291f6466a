use Rattle.call_needs.specs.Works.{registers_seen}
use Rattle.call_pieces.proofs.calls.PlainCalls.piece.Goals as goal

pub returns-clause-does : goal.returns-clause-does
returns-clause-does g c =
    λ images blocks rest tells.
    rw (registers_seen c.args.store.now.ram c.args.work.now.caller c.args.answer)
    (c.piece.ensures.done.does blocks rest tells)

pub returns-clause-some : goal.returns-clause-some
returns-clause-some g c =
    λ images.
    rw (registers_seen c.args.store.now.ram c.args.work.now.caller c.args.answer)
    c.piece.ensures.done.some
