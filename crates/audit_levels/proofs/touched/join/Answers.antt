use Rattle.std.proofs.Common.{arith, List, ap, sym, ◌∙◌}
use Rattle.std.proofs.lemmas.List.{drop_all}
use Rattle.audit_levels.specs.declared.Touch.{Touch}
use Rattle.audit_levels.specs.Levels.{touched_of, joined_rows}
use Rattle.audit_levels.proofs.Joining.{joined_all, one_joined}
use Rattle.audit_levels.proofs.touched.join.Goals as goal

pub returns : goal.returns
returns c =
    let from = c.args.from.now in
    let rows = touched_of c.loop-row.rows.items in
    sym (ap (λ (rs : List Touch). joined_rows (touched_of from) rs rows)
    (drop_all c.loop-row.row-index from c.loop-row-test.false))
    ∙ c.loop-row.invariant ∙ joined_all from (touched_of c.args.rows.now.items)

pub loop-row-preserved : goal.loop-row-preserved
loop-row-preserved c =
    one_joined (touched_of c.args.from.now) c.args.from.now c.loop-row.row-index _
    (touched_of c.loop-row.rows.items)
    (touched_of c.join_object.new.rows.items) (joined_rows (touched_of c.args.from.now)
    c.args.from.now (touched_of c.args.rows.now.items))
    (omega arith) c.in_ok-join_object.ensures c.loop-row.invariant
