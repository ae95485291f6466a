use Rattle.std.proofs.Common.{ℕ, List, ap, ◌∙◌, slice_index}
use Rattle.kernel_model.specs.Access.{early_refusal, accessed}
use Rattle.graft_levels.specs.Chains.{level_in}
use Rattle.graft_levels.proofs.NextNeeds.{one_needed}
use Rattle.graft_levels.proofs.needs.call_needs.Goals as goal

pub returns-in-Ok-Some-clause-value : goal.returns-in-Ok-Some-clause-value
returns-in-Ok-Some-clause-value c = λ v p d ram t is w callable.
    let id = c.args.id in
    let q = c.args.level.now.owner in
    let regs = c.arguments-args.ensures in
    let said = rw c.in-Ok-Some.field-0-is at c.in-Ok-Some.ensures in
    one_needed v (level_in p d ram t c.args.level.now is w) id c.one.result c.in-Ok-Some.object
    c.in-Ok-Some.mode callable c.if-id-gt-LAST_CALLABLE.false
    (said.refused ∙ ap (λ (xs : List ℕ). early_refusal 15 id (slice_index xs 0) (slice_index xs 1) q) regs)
    said.ask
    (said.object ∙ ap (λ (xs : List ℕ). (accessed id (slice_index xs 0) q).object) regs)
    (said.mode ∙ ap (λ (xs : List ℕ). (accessed id (slice_index xs 0) q).mode) regs) c.one.ensures
