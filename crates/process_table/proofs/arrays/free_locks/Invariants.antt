use Rattle.std.proofs.Common.{◌≡◌, map, take, drop, ◌++◌}
use Rattle.kernel_model.specs.Pieces.{freed_by}
use Rattle.process_table.proofs.arrays.free_locks.Given as goal

abbrev pub invariant-loop-holder : goal.invariant-loop-holder
invariant-loop-holder l =
    l.holders ≡ map (freed_by l.p) (take l.holder-index l.initial.holders) ++ drop l.holder-index
    l.initial.holders
