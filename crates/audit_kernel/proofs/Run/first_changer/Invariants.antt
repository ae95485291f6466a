use Rattle.std.proofs.Common.{◌≡◌, drop}
use Rattle.kernel_model.specs.World.{processes}
use Rattle.kernel_model.specs.AllCalls.{all_calls}
use Rattle.kernel_model.specs.Blocking.{config_of}
use Rattle.audit_kernel.specs.Runs.{kernel_of}
use Rattle.audit_kernel.specs.Sights.{first_changing}
use Rattle.audit_kernel.proofs.Run.first_changer.Given as goal

-- the first among those that are left is the first of all
abbrev pub invariant-loop-p : goal.invariant-loop-p
invariant-loop-p l =
    first_changing l.object (config_of all_calls (kernel_of l.self)) (drop l.p processes)
    ≡ first_changing l.object (config_of all_calls (kernel_of l.self)) processes
