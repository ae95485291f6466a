use Rattle.std.proofs.Common.{Option, ℕ, is_some, sym, ap, arith}
use Rattle.std.proofs.lemmas.Bool.Decides.{nat_tests}
use Rattle.kernel_model.specs.AllCalls.{all_calls}
use Rattle.kernel_model.specs.Blocking as blocking
use Rattle.audit_kernel.specs.Runs.{kernel_of}
use Rattle.audit_kernel.proofs.Holding.{held_by_none}
use Rattle.audit_kernel.proofs.Run.is_in_conflict.Goals as goal

pub returns-else-q-lt16 : goal.returns-else-q-lt16
returns-else-q-lt16 c =
    sym (ap (λ (d : Option ℕ). is_some d)
    (held_by_none (blocking.levels_of all_calls (kernel_of c.args.self.now)) c.args.q
    c.args.object c.args.mode (grind (arith, nat_tests))))
