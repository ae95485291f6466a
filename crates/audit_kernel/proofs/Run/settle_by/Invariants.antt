use Rattle.std.proofs.Common.{◌≡◌, ◌-◌}
use Rattle.kernel_model.specs.AllCalls.{all_calls}
use Rattle.kernel_model.specs.Settle as model
use Rattle.audit_kernel.specs.Runs.{run_of, AreKept}
use Rattle.audit_kernel.proofs.Run.settle_by.Given as goal

-- what is left of settling from here is what the whole was
abbrev pub invariant-loop-turn : goal.invariant-loop-turn
invariant-loop-turn l =
    (model.settle all_calls (l.most - l.turn) (run_of l.self)
    ≡ model.settle all_calls l.most (run_of l.fn.self))
    × AreKept l.self
