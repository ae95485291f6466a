use Rattle.std.proofs.Common.{Option, None, Some, ap, ◌∙◌}
use Rattle.kernel_model.specs.declared.Cause.TheVariants.{BadArgument}
use Rattle.kernel_model.specs.declared.OpenRow.{OpenRow}
use Rattle.kernel_model.specs.Access as model
use Rattle.audit_state.proofs.Accessing.{window_of}
use Rattle.audit_state.proofs.Things.access_window.Goals as goal

pub returns-in-None-clause-value : goal.returns-in-None-clause-value
returns-in-None-clause-value c = λ bytes. ap (window_of c.args.id) (c.in-None.ensures bytes)

pub returns-in-Some-clause-value : goal.returns-in-Some-clause-value
returns-in-Some-clause-value c = λ bytes.
    ap model.Gives c.from.ensures ∙ ap (window_of c.args.id) (c.in-Some.ensures bytes)
