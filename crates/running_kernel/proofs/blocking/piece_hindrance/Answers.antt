use Rattle.lock_table.specs.Masks.{held}
use Rattle.call_pieces.specs.Stores.{world_of_store, objects_of}
use Rattle.call_pieces.specs.Works.{call_of, stage_of}
use Rattle.std.proofs.Common.{sym, ◌∙◌}
use Rattle.running_kernel.proofs.FreeLemmas.{none_hinders, other_free}
use Rattle.running_kernel.proofs.blocking.piece_hindrance.Goals as goal

pub returns-then-not-is_lock : goal.returns-then-not-is_lock
returns-then-not-is_lock g c =
    let work = c.args.work.now in
    let s = objects_of c.args.store.now in
    let plain = other_free s.things.lock c.args.p (call_of work)
    (sym (c.is_lock.ensures work.bytes.items) ∙ c.if-not-is_lock.true) in
    none_hinders (held c.args.locks.now) s.things.lock c.args.p c.args.p (call_of work)
    (g.C.Meaning.Rules.meaning.need (world_of_store c.args.store.now) s work.caller (stage_of work))
    (c.is_free.ensures.0 c.if-is_free.true) plain c.requires.user
