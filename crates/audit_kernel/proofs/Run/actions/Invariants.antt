use Rattle.std.proofs.Common.{◌≡◌, ◌-◌}
use Rattle.kernel_model.specs.AllCalls.{all_calls}
use Rattle.kernel_model.specs.Events as events
use Rattle.audit_kernel.specs.Runs.{run_of, AreKept}
use Rattle.audit_kernel.proofs.Run.actions.Given as goal

abbrev pub invariant-loop-done : goal.invariant-loop-done
invariant-loop-done l =
    (events.actions all_calls (l.most - l.done) (run_of l.self)
    ≡ events.actions all_calls l.most (run_of l.fn.self)) × AreKept l.self
