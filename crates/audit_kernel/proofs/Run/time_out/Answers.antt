use Rattle.std.proofs.Common.{ℕ, None, sym, ap, ◌∙◌}
use Rattle.kernel_data.specs.declared.Note.TheVariants.{Refused}
use Rattle.kernel_data.specs.declared.Refusal.TheVariants.{TimedOut}
use Rattle.kernel_model.specs.Kernel.{Run, noted, requeue, with_call}
use Rattle.audit_kernel.specs.Runs.{run_of}
use Rattle.audit_kernel.proofs.Run.time_out.Goals as goal

pub returns-clause-run : goal.returns-clause-run
returns-clause-run c call number =
    c.in_ok-requeue.ensures.run ∙ ap (requeue c.args.p) (c.in_ok-note.ensures.run
    ∙ ap (λ (r : Run). noted (Refused c.args.number (TimedOut c.args.b.object c.args.b.holder)) r)
    c.in_ok-end.ensures.run
    ∙ ap (λ (n : ℕ). noted (Refused n (TimedOut c.args.b.object c.args.b.holder))
    (with_call c.args.p None (run_of c.args.self.now))) (sym number))
