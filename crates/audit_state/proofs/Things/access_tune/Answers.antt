use Rattle.std.proofs.Common.{ℕ, Bool, cond, ap, ◌∙◌}
use Rattle.kernel_model.specs.declared.Cause.TheVariants.{BadArgument}
use Rattle.kernel_model.specs.Access as model
use Rattle.audit_state.specs.Things.{things_of}
use Rattle.audit_state.proofs.Things.access_tune.Goals as goal

pub returns-then-in_range_of-clause-value : goal.returns-then-in_range_of-clause-value
returns-then-in_range_of-clause-value c = λ bytes.
    let pol = (things_of bytes c.args.self.now).pol c.args.kind in
    let takes = λ (n : ℕ). model.in_range (model.param_top c.args.kind n) c.args.k 0 in
    let chosen = c.chosen-chosen.ensures bytes in
    let refuses = model.Refuses (BadArgument c.args.id) in
    let gives = model.Gives (model.chosen_param pol) in
    ap model.Gives (c.param.ensures bytes ∙ ap pol.param (c.from.ensures ∙ chosen))
    ∙ ap (λ (b : Bool). cond b gives refuses) (c.if-in_range_of.ensures ∙ ap takes chosen)

pub returns-else-in_range_of-clause-value : goal.returns-else-in_range_of-clause-value
returns-else-in_range_of-clause-value c = λ bytes.
    let pol = (things_of bytes c.args.self.now).pol c.args.kind in
    let takes = λ (n : ℕ). model.in_range (model.param_top c.args.kind n) c.args.k 0 in
    let refuses = model.Refuses (BadArgument c.args.id) in
    let gives = model.Gives (model.chosen_param pol) in
    ap (λ (b : Bool). cond b gives refuses)
    (c.if-in_range_of.ensures ∙ ap takes (c.chosen-chosen.ensures bytes))
