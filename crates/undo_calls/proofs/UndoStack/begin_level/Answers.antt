use Rattle.std.proofs.Common.{◌∷◌, [], ◌∙◌, ap, sym, subst, arith, rules}
use Rattle.undo_calls.specs.UndoLevels.{IsStack, levels_of, logged_in}
use Rattle.undo_calls.proofs.Cuts.{length-log, stack-begun, levels-begun}
use Rattle.undo_calls.proofs.Logs.{length-logged}
use Rattle.undo_calls.proofs.UndoStack.begin_level.Goals as goal

pub push-requires : goal.push-requires
push-requires c =
    let size = length-log c.self.inside.marks.items
    (logged_in c.self.inside.records.items c.self.inside.kept) c.args.self.now c.self.view_is in
    let room = c.requires in search rules

pub invariant_of-self : goal.invariant_of-self
invariant_of-self c =
    let size = length-log c.self.inside.marks.items
    (logged_in c.self.inside.records.items c.self.inside.kept) c.args.self.now c.self.view_is in
    let room = c.requires in (
      subst (λ ms. IsStack ms (logged_in c.self.inside.records.items c.self.inside.kept)) (sym c.push.ensures.items)
          (stack-begun c.self.inside.marks.items (logged_in c.self.inside.records.items
          c.self.inside.kept) c.len-mark.result (length-logged 0 c.self.inside.records.items
          c.self.inside.kept ∙ sym c.len-mark.ensures.value) c.self.invariant.0 (omega arith)),
      c.self.invariant.1,
    )

pub returns : goal.returns
returns c =
    ap (λ ms. levels_of ms (logged_in c.self.inside.records.items c.self.inside.kept)) c.push.ensures.items
    ∙ levels-begun c.self.inside.marks.items (logged_in c.self.inside.records.items
    c.self.inside.kept) c.len-mark.result (length-logged 0 c.self.inside.records.items
    c.self.inside.kept ∙ sym c.len-mark.ensures.value)
    ∙ ap (λ log. [] ∷ log) c.self.view_is
