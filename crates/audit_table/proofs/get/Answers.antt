use Rattle.std.proofs.Common.{◌<◌, ◌≤◌, ℕ, length, subst, ap, ◌∙◌}
use Rattle.std.specs.Prelude.{slice_index_or}
use Rattle.audit_table.proofs.Places.{get_there, get_none}
use Rattle.audit_table.proofs.get.Goals as goal

pub returns-then-n-rows : goal.returns-then-n-rows
returns-then-n-rows g c =
    let rows = c.args.rows.now in
    ap (λ (n : ℕ). (slice_index_or rows n c.index-rows-n.result).value) c.before-n.ensures
    ∙ get_there c.args.default c.index-rows-n.result rows c.args.first c.args.second
    (subst (λ (n : ℕ). n < length rows) c.before-n.ensures c.if-n-rows.true)

pub returns-else-n-rows : goal.returns-else-n-rows
returns-else-n-rows g c =
    let rows = c.args.rows.now in
    get_none c.args.default rows c.args.first c.args.second
    (subst (λ (n : ℕ). length rows ≤ n) c.before-n.ensures c.if-n-rows.false)
