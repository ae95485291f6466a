use Rattle.std.proofs.Common.{◌∙◌, ◌==◌, not, filter, ap, refl, arith}
use Rattle.running_kernel.specs.declared.order.Waiting.{Waiting}
use Rattle.running_kernel.specs.Orders.{counts_within, joined, are_processes, are_once, numbers_of}
use Rattle.kernel_steps.proofs.OnceLemmas.{room_for, has_left, once_less, once_joined}
use Rattle.running_kernel.proofs.OrderLemmas.{counts_less, counts_joined, processes_less, processes_joined}
use Rattle.kernel_steps.proofs.RunningLemmas.{requeued, left_order, joined_order}
use Rattle.kernel_steps.proofs.calls.requeue.Goals as goal

pub to_end-requires : goal.to_end-requires
to_end-requires g c =
    let x = c.args.running.now in
    let r = c.requires.running in
    room_for c.args.p (filter (λ (w : Waiting). not (w.process == c.args.p)) x.order)
    c.requires.process (processes_less c.args.p x.order r.order)
    (once_less c.args.p x.order r.once) (has_left c.args.p x.order)

pub returns-then-waits : goal.returns-then-waits
returns-then-waits g c =
    let x = c.args.running.now in
    let p = c.args.p in
    let r = c.requires.running in
    let left = filter (λ (w : Waiting). not (w.process == p)) x.order in
    let new = c.to_end.new.self in
    let is = c.to_end.ensures in
    record {
      value = λ notes blocks io.
          requeued x p c.is_at_piece-waits.result new c.is_at_piece-waits.ensures
          (joined_order p x.order left new (joined p) c.is_at_piece-waits.result
          (grind (arith, c.if-waits.true)) refl refl is) notes blocks io;
      running =
          record {
            sixteen = r.sixteen;
            callers = r.callers;
            placed = r.placed;
            inside = r.inside;
            counts = counts_joined x.clock p left (joined p) new refl is (counts_less x.clock p x.order r.counts);
            order =
                processes_joined p left (joined p) new refl is c.requires.process
                (processes_less p x.order r.order);
            once = once_joined p left (joined p) new refl is (once_less p x.order r.once) (has_left p x.order);
            loaded = r.loaded;
            owner = r.owner;
            own = r.own;
          };
    }

pub returns : goal.returns
returns g c =
    let x = c.args.running.now in
    let r = c.requires.running in
    record {
      value = λ notes blocks io.
          requeued x c.args.p c.is_at_piece-waits.result c.leave.new.self c.is_at_piece-waits.ensures
          (left_order c.args.p x.order c.leave.new.self c.is_at_piece-waits.result
          (grind (arith, c.if-waits.false)) c.leave.ensures) notes blocks io;
      running =
          record {
            sixteen = r.sixteen;
            callers = r.callers;
            placed = r.placed;
            inside = r.inside;
            counts = ap (counts_within x.clock) c.leave.ensures ∙ counts_less x.clock c.args.p x.order r.counts;
            order = ap are_processes c.leave.ensures ∙ processes_less c.args.p x.order r.order;
            once = ap (λ ws. are_once (numbers_of ws)) c.leave.ensures ∙ once_less c.args.p x.order r.once;
            loaded = r.loaded;
            owner = r.owner;
            own = r.own;
          };
    }
