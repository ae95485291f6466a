-- So many entries are later.
use Rattle.std.proofs.Common.{◌≡◌, map, take, drop, ◌++◌}
use Rattle.running_kernel.specs.Orders.{later}
use Rattle.running_kernel.proofs.order.count_all.Given as goal

abbrev pub invariant-loop-waiting : goal.invariant-loop-waiting
invariant-loop-waiting l =
    l.list ≡ map later (take l.waiting-index l.initial.list) ++ drop l.waiting-index l.initial.list
