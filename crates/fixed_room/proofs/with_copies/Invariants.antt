-- So many copies were put.
use Rattle.std.proofs.Common.{◌≡◌, ◌+◌, ◌++◌, replicate}
use Rattle.fixed_room.proofs.with_copies.Given as goal

abbrev pub invariant-loop : goal.invariant-loop
invariant-loop g l = (l.list.items ≡ l.initial.list.items ++ replicate l.counter l.item)
    × (l.list.len ≡ l.initial.list.len + l.counter) × (l.list.cap ≡ l.initial.list.cap)
