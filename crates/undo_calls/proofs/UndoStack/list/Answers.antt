use Rattle.std.proofs.Common.{length, map, sym, ◌∙◌, ap, arith}
use Rattle.undo_calls.specs.UndoLevels.{Logged, logged_in}
use Rattle.undo_calls.proofs.Cuts.{length-log}
use Rattle.undo_calls.proofs.Ages.{records-log, length-records}
use Rattle.undo_calls.proofs.Logs.{length-logged, inverses-logged}
use Rattle.undo_calls.proofs.UndoStack.list.Goals as goal

pub returns-clause-value : goal.returns-clause-value
returns-clause-value c =
    c.as_slice.ensures.value
    ∙ sym (inverses-logged 0 c.self.inside.records.items c.self.inside.kept)
    ∙ ap (map (λ (r : Logged). r.inverse))
    (sym (records-log c.self.inside.marks.items (logged_in c.self.inside.records.items
    c.self.inside.kept) c.args.self.now c.self.invariant.0 c.self.view_is))

pub returns-clause-count : goal.returns-clause-count
returns-clause-count c =
    ap length c.as_slice.ensures.value
    ∙ sym (length-logged 0 c.self.inside.records.items c.self.inside.kept)
    ∙ sym (length-records c.self.inside.marks.items (logged_in c.self.inside.records.items
    c.self.inside.kept) c.args.self.now c.self.invariant.0 c.self.view_is)

pub returns-clause-few : goal.returns-clause-few
returns-clause-few c =
    let size = length-logged 0 c.self.inside.records.items c.self.inside.kept in
    let same = ap length c.as_slice.ensures.value in
    let few = c.self.invariant.0.few in omega arith

pub returns-clause-levels : goal.returns-clause-levels
returns-clause-levels c =
    let size = length-log c.self.inside.marks.items
    (logged_in c.self.inside.records.items c.self.inside.kept) c.args.self.now c.self.view_is in
    let few = c.self.invariant.0.few_levels in omega arith
