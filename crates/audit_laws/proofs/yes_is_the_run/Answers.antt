use Rattle.std.proofs.Common.{ap, sym, ◌∙◌}
use Rattle.script_model.specs.Directory.{sample_disk}
use Rattle.script_model.specs.Outcome.{End, Outcome, written}
use Rattle.script_model.specs.Audits.{wanted}
use Rattle.audit_laws.proofs.yes_is_the_run.Goals as goal

pub returns : goal.returns
returns c keys script claim ios none says =
    c.yes_is_equal.ensures.equal claim (wanted keys script) says
    ∙ sym (ap (λ (o : Outcome). written o)
    (c.no_failures_are_no_list.ensures keys script End sample_disk ios none))
