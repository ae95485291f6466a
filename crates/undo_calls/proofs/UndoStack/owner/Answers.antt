use Rattle.std.proofs.Common.{◌<◌, length, reverse, sym, ◌∙◌, ap, subst}
use Rattle.undo_calls.specs.UndoLevels.{owner_by, logged_in}
use Rattle.undo_calls.proofs.Ages.{owner-log, owner-log_below}
use Rattle.undo_calls.proofs.UndoStack.owner.Goals as goal

pub returns-clause-value : goal.returns-clause-value
returns-clause-value c =
    c.owner_at.ensures
    ∙ ap (λ ms. owner_by (reverse ms) c.args.i) c.as_slice.ensures.value
    ∙ sym (owner-log c.self.inside.marks.items (logged_in c.self.inside.records.items
    c.self.inside.kept) c.args.self.now c.args.i c.self.invariant.0 c.self.view_is c.requires)

pub returns-clause-level : goal.returns-clause-level
returns-clause-level c =
    subst (λ k. k < length c.args.self.now) (sym
    (c.owner_at.ensures ∙ ap (λ ms. owner_by (reverse ms) c.args.i) c.as_slice.ensures.value))
    (owner-log_below c.self.inside.marks.items (logged_in c.self.inside.records.items
    c.self.inside.kept) c.args.self.now c.args.i c.self.invariant.0 c.self.view_is c.requires)
