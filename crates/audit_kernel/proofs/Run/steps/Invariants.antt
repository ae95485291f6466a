use Rattle.std.proofs.Common.{◌≡◌, ◌-◌}
use Rattle.kernel_model.specs.AllCalls.{all_calls}
use Rattle.kernel_model.specs.Events as events
use Rattle.audit_kernel.specs.Runs.{run_of, AreKept}
use Rattle.audit_kernel.proofs.Run.steps.Given as goal

abbrev pub invariant-loop-taken : goal.invariant-loop-taken
invariant-loop-taken l =
    (events.steps all_calls l.p (l.most - l.taken) l.taken (run_of l.self)
    ≡ events.steps all_calls l.p l.most 0 (run_of l.fn.self)) × AreKept l.self
