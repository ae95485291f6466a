use Rattle.std.proofs.Common.{arith, ◌∷◌, [], ◌∙◌, length-append}
use Rattle.lock_table.proofs.Places.{none_free, one_more_free}
use Rattle.lock_table.proofs.table.no_calls.Goals as goal

pub loop-alloc-init : goal.loop-alloc-init
loop-alloc-init c =
    record {
      size = rw c.in_ok-calls.ensures.items (omega arith);
      none = rw c.in_ok-calls.ensures.items none_free;
      room = c.in_ok-calls.ensures.room;
    }

pub loop-alloc-preserved : goal.loop-alloc-preserved
loop-alloc-preserved c = record {
  size = rw c.push.ensures.items (omega (arith, length-append c.loop-alloc.calls.items (c.in_ok-call.call ∷ [])));
  none =
      rw c.push.ensures.items (one_more_free c.loop-alloc.calls.items c.in_ok-call.call
      c.loop-alloc.invariant.none c.in_ok-call.ensures);
  room = c.push.ensures.room ∙ c.loop-alloc.invariant.room;
}
