use Rattle.std.proofs.Common.{Bool, List, None, subst}
use Rattle.call_pieces.specs.Calls.{Made}
use Rattle.call_pieces.specs.Stores.{world_of_store, objects_of}
use Rattle.call_pieces.specs.Masks.{table_of_mask, mask_tells}
use Rattle.call_pieces.specs.Works.{stage_of, answer_seen}
use Rattle.call_pieces.specs.Matching.{comes_after}
use Rattle.high_marks.proofs.Pieces.{poke_begun, poke_refused, poke_left, ends_with}
use Rattle.high_marks.proofs.beside.poke_once.Goals as goal

pub returns-in-Err-clause-refused : goal.returns-in-Err-clause-refused
returns-in-Err-clause-refused g c =
    poke_refused c.args.k c.args.x c.in-Err.refusal
    (rw c.in-Err.is at c.early.ensures.value (table_of_mask 0) (mask_tells 0))

pub returns-in-Ok-clause-raised : goal.returns-in-Ok-clause-raised
returns-in-Ok-clause-raised g c =
    let w = c.early.new.work in
    let s = c.args.store.now in
    (poke_left (world_of_store s) (table_of_mask 0) (objects_of s) (objects_of c.piece.new.store)
    c.args.p w.caller c.args.k c.args.x (stage_of w) (answer_seen s.ram w.caller None)
    c.piece.new.gave (comes_after c.piece.result (stage_of c.piece.new.work)) c.piece.new.log
    (poke_begun c.args.k c.args.x (stage_of w)
    (rw c.in-Ok.is at c.early.ensures.value (table_of_mask 0) (mask_tells 0)))
    (rw c.in-Ok.is at c.early.ensures.caller) (c.piece.ensures.some (table_of_mask 0))).0

pub returns-in-Ok-clause-told : goal.returns-in-Ok-clause-told
returns-in-Ok-clause-told g c =
    let w = c.early.new.work in
    let s = c.args.store.now in
    let t = stage_of c.piece.new.work in
    ends_with c.piece.result t _
    (poke_left (world_of_store s) (table_of_mask 0) (objects_of s) (objects_of c.piece.new.store)
    c.args.p w.caller c.args.k c.args.x (stage_of w) (answer_seen s.ram w.caller None)
    c.piece.new.gave (comes_after c.piece.result t) c.piece.new.log
    (poke_begun c.args.k c.args.x (stage_of w)
    (rw c.in-Ok.is at c.early.ensures.value (table_of_mask 0) (mask_tells 0)))
    (rw c.in-Ok.is at c.early.ensures.caller) (c.piece.ensures.some (table_of_mask 0))).1

pub returns-in-Ok-clause-calls : goal.returns-in-Ok-clause-calls
returns-in-Ok-clause-calls g c =
    let w = c.early.new.work in
    let s = c.args.store.now in
    let t = stage_of c.piece.new.work in
    let none = (poke_left (world_of_store s) (table_of_mask 0) (objects_of s)
    (objects_of c.piece.new.store) c.args.p w.caller c.args.k c.args.x (stage_of w)
    (answer_seen s.ram w.caller None) c.piece.new.gave (comes_after c.piece.result t)
    c.piece.new.log (poke_begun c.args.k c.args.x (stage_of w)
    (rw c.in-Ok.is at c.early.ensures.value (table_of_mask 0) (mask_tells 0)))
    (rw c.in-Ok.is at c.early.ensures.caller) (c.piece.ensures.some (table_of_mask 0))).2 in
    subst (λ (io : List Bool). Made (g.D.Disk.seen c.args.disk.now) (g.D.Disk.seen c.piece.new.disk) io)
    none c.piece.ensures.calls
