use Rattle.std.proofs.Common.{ℕ, ap, ◌∙◌}
use Rattle.kernel_data.specs.declared.Note.TheVariants.{Ran}
use Rattle.kernel_model.specs.AllCalls.{all_calls}
use Rattle.kernel_model.specs.Kernel.{Run, noted}
use Rattle.kernel_model.specs.Events.{last}
use Rattle.audit_kernel.proofs.Run.step_event.Goals as goal

pub returns-clause-run : goal.returns-clause-run
returns-clause-run c =
    c.in_ok-last.ensures.run ∙ ap (last all_calls c.args.p) c.in_ok-note.ensures.run
    ∙ ap (λ (x : ℕ × Run). last all_calls c.args.p (noted (Ran c.args.number x.0) x.1))
    c.in_ok-taken.ensures.run
