use Rattle.std.proofs.Common.{◌<◌, ◌≤◌, ℕ, length, subst, ap, ◌∙◌}
use Rattle.std.specs.Prelude.{slice_index_or}
use Rattle.audit_table.proofs.Places.{get_there, get_none}
use Rattle.audit_table.proofs.lend.Goals as goal

pub returns-then-n-rows-clause-some : goal.returns-then-n-rows-clause-some
returns-then-n-rows-clause-some g c = λ default.
    let rows = c.args.rows.now in
    ap (λ (n : ℕ). (slice_index_or rows n c.index-rows-n.result).value) c.before-n.ensures
    ∙ get_there default c.index-rows-n.result rows c.args.first c.args.second
    (subst (λ (n : ℕ). n < length rows) c.before-n.ensures c.if-n-rows.true)

pub returns-else-n-rows-clause-none : goal.returns-else-n-rows-clause-none
returns-else-n-rows-clause-none g c = λ none default.
    let rows = c.args.rows.now in
    get_none default rows c.args.first c.args.second
    (subst (λ (n : ℕ). length rows ≤ n) c.before-n.ensures c.if-n-rows.false)
