use Rattle.std.proofs.Common.{rules, None, refl}
use Rattle.kernel_model.specs.declared.SysCall.TheVariants.{Yield, TakeLock, FreeLock, Poke, Peek}
use Rattle.kernel_model.specs.Meaning.{stage}
use Rattle.kernel_model.specs.Pieces.{yield_piece}
use Rattle.kernel_state.specs.Stores.{world_of_store, objects_of}
use Rattle.call_needs.specs.Fetching.{store_moment}
use Rattle.call_needs.specs.Works.{call_of}
use Rattle.call_needs.proofs.Grants.{take_granted, free_granted, poke_granted, peek_granted, named}
use Rattle.call_pieces.proofs.ServesLaws.{by_name, ends_by_name, serves_at_once}
use Rattle.call_pieces.proofs.pieces.bare_piece.Goals as goal

-- ---- what each piece asks

pub take_lock-requires : goal.take_lock-requires
take_lock-requires g c =
    record {
      lives = search rules;
      number = take_granted c.requires.can.due.top (world_of_store c.args.store.now) c.args.work.now.caller
          (call_of c.args.work.now) c.in-TakeLock.u (c.requires.can.due.due.images, c.requires.can.due.due.granted)
          (named c.args.work.now _ c.in-TakeLock.is);
    }

pub free_lock-requires : goal.free_lock-requires
free_lock-requires g c =
    record {
      granted = free_granted c.requires.can.due.top (world_of_store c.args.store.now) c.args.work.now.caller
          (call_of c.args.work.now) c.in-FreeLock.u (c.requires.can.due.due.images, c.requires.can.due.due.granted)
          (named c.args.work.now _ c.in-FreeLock.is);
    }

pub poke-requires : goal.poke-requires
poke-requires g c =
    record {
      lives = search rules;
      number = poke_granted c.requires.can.due.top (world_of_store c.args.store.now) c.args.work.now.caller
          (call_of c.args.work.now) c.in-Poke.k c.in-Poke.v
          (c.requires.can.due.due.images, c.requires.can.due.due.granted)
          (named c.args.work.now _ c.in-Poke.is);
    }

pub peek-requires : goal.peek-requires
peek-requires g c =
    record {
      lives = search rules;
      number = peek_granted c.requires.can.due.top (world_of_store c.args.store.now) c.args.work.now.caller
          (call_of c.args.work.now) c.in-Peek.k (c.requires.can.due.due.images, c.requires.can.due.due.granted)
          (named c.args.work.now _ c.in-Peek.is);
    }

-- ---- what came of each piece

pub returns-in-Yield-clause-done : goal.returns-in-Yield-clause-done
returns-in-Yield-clause-done g c =
    rw c.clear.ensures
    (let w = c.args.work.now in
    let s = c.args.store.now in
    let d = g.D.Disk.seen c.args.disk.now in
    let after = c.yield_turn.new.store in
    by_name w c.args.answer (store_moment s d c.args.log.now) (store_moment after d c.args.log.now) None
    c.yield_turn.result Yield (λ k. stage k c.yield_turn.new.piece) (named w _ c.in-Yield.is)
    (serves_at_once (λ blocks io. yield_piece w.piece (objects_of s) w.caller c.args.answer blocks)
    (yield_piece w.piece (objects_of s) w.caller c.args.answer) s after d c.args.log.now
    c.yield_turn.result (stage Yield c.yield_turn.new.piece) c.requires.can.disk.fresh
    (λ blocks io. refl) c.yield_turn.ensures.done))

pub returns-in-TakeLock-clause-done : goal.returns-in-TakeLock-clause-done
returns-in-TakeLock-clause-done g c =
    rw c.clear.ensures
    (ends_by_name c.args.work.now c.args.answer c.args.store.now c.take_lock.new.store
    (g.D.Disk.seen c.args.disk.now) c.args.log.now c.take_lock.result (TakeLock c.in-TakeLock.u) _
    (named c.args.work.now _ c.in-TakeLock.is) c.requires.can.disk.fresh (λ blocks io. refl)
    c.take_lock.ensures.done)

pub returns-in-FreeLock-clause-done : goal.returns-in-FreeLock-clause-done
returns-in-FreeLock-clause-done g c =
    rw c.clear.ensures
    (ends_by_name c.args.work.now c.args.answer c.args.store.now c.free_lock.new.store
    (g.D.Disk.seen c.args.disk.now) c.args.log.now c.free_lock.result (FreeLock c.in-FreeLock.u) _
    (named c.args.work.now _ c.in-FreeLock.is) c.requires.can.disk.fresh (λ blocks io. refl)
    c.free_lock.ensures.done)

pub returns-in-Poke-clause-done : goal.returns-in-Poke-clause-done
returns-in-Poke-clause-done g c =
    rw c.clear.ensures
    (ends_by_name c.args.work.now c.args.answer c.args.store.now c.poke.new.store
    (g.D.Disk.seen c.args.disk.now) c.args.log.now c.poke.result (Poke c.in-Poke.k c.in-Poke.v) _
    (named c.args.work.now _ c.in-Poke.is) c.requires.can.disk.fresh (λ blocks io. refl)
    c.poke.ensures.done)

pub returns-in-Peek-clause-done : goal.returns-in-Peek-clause-done
returns-in-Peek-clause-done g c =
    rw c.clear.ensures
    (ends_by_name c.args.work.now c.args.answer c.args.store.now c.args.store.now
    (g.D.Disk.seen c.args.disk.now) c.args.log.now c.peek.result (Peek c.in-Peek.k) _
    (named c.args.work.now _ c.in-Peek.is) c.requires.can.disk.fresh (λ blocks io. refl)
    c.peek.ensures.done)
