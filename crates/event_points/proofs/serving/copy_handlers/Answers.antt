use Rattle.std.proofs.Common.{ℕ, ◌==◌, length, lit<, eq-eqb, ap, arith}
use Rattle.event_points.proofs.HandlerLists.{room_for}
use Rattle.event_points.proofs.serving.copy_handlers.Goals as goal

pub push-requires : goal.push-requires
push-requires c =
    let few = room_for (λ (h : ℕ × ℕ). h.1 == c.args.pt) c.args.handlers.now c.loop-h.h-index (0, 0)
    c.loop-h-test.true (eq-eqb _ _ c.if-h-pt.true) c.requires in
    let same = ap (λ xs. length xs) c.loop-h.invariant in
    (lit< tt, omega (arith, few, same))
