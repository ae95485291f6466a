use Rattle.std.proofs.Common.{◌≡◌, take, drop, map, ◌++◌}
use Rattle.buffer_cache.specs.Frames.{exchanged}
use Rattle.buffer_cache.proofs.frames.exchange_all.Given as goal

abbrev pub invariant-loop-h : goal.invariant-loop-h
invariant-loop-h l =
    l.order ≡ map (exchanged l.f l.g) (take l.h-index l.initial.order) ++ drop l.h-index
    l.initial.order
