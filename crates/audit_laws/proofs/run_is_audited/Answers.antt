use Rattle.std.proofs.Common.{ap, ◌∙◌}
use Rattle.script_model.specs.Directory.{sample_disk}
use Rattle.script_model.specs.Outcome.{End, Outcome, written}
use Rattle.script_model.specs.Audits.{verdict, wanted}
use Rattle.audit_laws.proofs.run_is_audited.Goals as goal

pub returns : goal.returns
returns c keys script ios none =
    ap (λ (o : Outcome). verdict (written o) (wanted keys script))
    (c.no_failures_are_no_list.ensures keys script End sample_disk ios none)
    ∙ c.yes_is_equal.ensures.yes (wanted keys script)
