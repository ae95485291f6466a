use Rattle.std.proofs.Common.{◌≡◌, take, drop, map, ◌++◌}
use Rattle.audit_state.specs.Rows.{exchanged}
use Rattle.audit_state.proofs.lists.exchange.Given as goal

abbrev pub invariant-loop-h : goal.invariant-loop-h
invariant-loop-h l =
    l.h-items ≡ map (exchanged l.f l.g) (take l.h-index l.initial.h-items) ++ drop l.h-index l.initial.h-items
