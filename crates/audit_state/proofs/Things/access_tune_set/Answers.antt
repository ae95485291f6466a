use Rattle.std.proofs.Common.{ℕ, Bool, cond, ap, ◌∙◌}
use Rattle.kernel_model.specs.declared.Cause.TheVariants.{BadArgument}
use Rattle.kernel_model.specs.Access as model
use Rattle.audit_state.specs.Things.{things_of}
use Rattle.audit_state.proofs.Things.access_tune_set.Goals as goal

pub returns-in_ok-accessed-clause-value : goal.returns-in_ok-accessed-clause-value
returns-in_ok-accessed-clause-value c = λ bytes.
    let w = things_of bytes c.args.self.now in
    let pol = w.pol c.args.kind in
    let takes = λ (n : ℕ). model.in_range (model.param_top c.args.kind n) c.args.k c.args.v in
    let chosen = c.chosen-chosen.ensures bytes in
    let refuses = model.Refuses (BadArgument c.args.id) in
    let changes = λ (n : ℕ). model.tune_change c.args.kind c.args.k c.args.v n w in
    c.in_ok-accessed.ensures.value bytes
    ∙ ap changes (c.param-old.ensures bytes ∙ ap pol.param (c.from.ensures ∙ chosen))
    ∙ ap (λ (b : Bool). cond b (changes (model.chosen_param pol)) refuses)
    (c.if-in_range_of.ensures ∙ ap takes chosen)

pub returns-else-in_range_of-clause-value : goal.returns-else-in_range_of-clause-value
returns-else-in_range_of-clause-value c = λ bytes.
    let w = things_of bytes c.args.self.now in
    let pol = w.pol c.args.kind in
    let takes = λ (n : ℕ). model.in_range (model.param_top c.args.kind n) c.args.k c.args.v in
    let refuses = model.Refuses (BadArgument c.args.id) in
    let changes = model.tune_change c.args.kind c.args.k c.args.v (model.chosen_param pol) w in
    ap (λ (b : Bool). cond b changes refuses)
    (c.if-in_range_of.ensures ∙ ap takes (c.chosen-chosen.ensures bytes))
