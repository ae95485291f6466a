use Rattle.std.proofs.Common.{refl, None, Some}
use Rattle.call_pieces.specs.declared.Next.{Next}
use Rattle.call_pieces.specs.Stores.{world_of_store, objects_of}
use Rattle.call_pieces.specs.Works.{answer_seen}
use Rattle.kernel_steps.specs.Composing.{adds_none}
use Rattle.kernel_steps.proofs.PieceLemmas.{flight_done}
use Rattle.kernel_steps.proofs.pieces.run_piece.Goals as goal

pub returns-in-Goes-clause-done : goal.returns-in-Goes-clause-done
returns-in-Goes-clause-done g c =
    let call = c.args.call.now in
    let a = c.args in
    let p = c.piece-next in
    flight_done g.C.Meaning.Rules.meaning (world_of_store a.store.now) (objects_of a.store.now) (objects_of p.new.store)
    call call p.new.work (Some (record { number = call.number; work = p.new.work }))
    (answer_seen a.store.now.ram call.work.caller a.answer) a.trace.now.notes
    c.push_bytes.new.self c.push_bytes.new.self (g.D.Disk.seen a.disk.now)
    (g.D.Disk.seen p.new.disk)
    p.new.log p.new.gave p.result Next.Goes refl c.in-Goes.is p.ensures.does p.ensures.some
    p.ensures.calls refl c.push_bytes.ensures (adds_none c.push_bytes.new.self) p.ensures.failed

pub returns-in-Ends-clause-done : goal.returns-in-Ends-clause-done
returns-in-Ends-clause-done g c =
    let call = c.args.call.now in
    let a = c.args in
    let p = c.piece-next in
    flight_done g.C.Meaning.Rules.meaning (world_of_store a.store.now) (objects_of a.store.now) (objects_of p.new.store)
    call call p.new.work None (answer_seen a.store.now.ram call.work.caller a.answer)
    a.trace.now.notes c.push_bytes.new.self c.push.new.self (g.D.Disk.seen a.disk.now)
    (g.D.Disk.seen p.new.disk)
    p.new.log p.new.gave p.result (Next.Ends c.in-Ends.reply) refl c.in-Ends.is p.ensures.does
    p.ensures.some p.ensures.calls refl c.push_bytes.ensures c.push.ensures p.ensures.failed

pub returns-in-Fails-clause-done : goal.returns-in-Fails-clause-done
returns-in-Fails-clause-done g c =
    let call = c.args.call.now in
    let a = c.args in
    let p = c.piece-next in
    flight_done g.C.Meaning.Rules.meaning (world_of_store a.store.now) (objects_of a.store.now) (objects_of p.new.store)
    call call p.new.work None (answer_seen a.store.now.ram call.work.caller a.answer)
    a.trace.now.notes c.push_bytes.new.self c.push-in-Fails.new.self (g.D.Disk.seen a.disk.now)
    (g.D.Disk.seen p.new.disk)
    p.new.log p.new.gave p.result (Next.Fails c.in-Fails.refusal) refl c.in-Fails.is p.ensures.does
    p.ensures.some p.ensures.calls refl c.push_bytes.ensures c.push-in-Fails.ensures
    p.ensures.failed
