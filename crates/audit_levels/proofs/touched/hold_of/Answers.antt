use Rattle.std.proofs.Common.{◌<◌, ◌≤◌, ℕ, length, subst, ap, ◌∙◌}
use Rattle.std.specs.Prelude.{slice_index_or}
use Rattle.kernel_model.specs.declared.Object.TheVariants.{Graft}
use Rattle.kernel_model.specs.declared.Held.TheVariants.{Free}
use Rattle.audit_levels.proofs.Touching.{row, held_there, held_nowhere}
use Rattle.audit_levels.proofs.touched.hold_of.Goals as goal

pub returns-then-n-rows : goal.returns-then-n-rows
returns-then-n-rows c =
    let rows = c.args.rows.now in
    ap (λ (n : ℕ). (slice_index_or rows n (row (Graft 0 0) Free)).held) c.before-n.ensures
    ∙ held_there (row (Graft 0 0) Free) rows c.args.object (subst (λ (n : ℕ). n < length rows)
    c.before-n.ensures c.if-n-rows.true)

pub returns-else-n-rows : goal.returns-else-n-rows
returns-else-n-rows c =
    let rows = c.args.rows.now in
    held_nowhere rows c.args.object (subst (λ (n : ℕ). length rows ≤ n) c.before-n.ensures c.if-n-rows.false)
