use Rattle.std.proofs.Common.{arith}
use Rattle.undo_calls.proofs.Cuts.{length-log, last-of, ended}
use Rattle.undo_calls.specs.UndoLevels.{logged_in}
use Rattle.undo_calls.proofs.UndoStack.end_level.Goals as goal

pub invariant_of-self : goal.invariant_of-self
invariant_of-self c =
    let size = length-log c.self.inside.marks.items
    (logged_in c.self.inside.records.items c.self.inside.kept) c.args.self.now c.self.view_is in
    let some = c.requires.level in
    let last = last-of c.self.inside.marks.items c.pop-mark.new.self.items c.pop-mark.result
    c.pop-mark.ensures.items c.pop-mark.ensures.variant (omega arith) in (
      (ended c.self.inside.marks.items c.pop-mark.new.self.items last.0
          (logged_in c.self.inside.records.items c.self.inside.kept) c.args.self.now last.2
          c.self.invariant.0 c.self.view_is c.requires.empty).1,
      c.self.invariant.1,
    )

pub returns : goal.returns
returns c =
    let size = length-log c.self.inside.marks.items
    (logged_in c.self.inside.records.items c.self.inside.kept) c.args.self.now c.self.view_is in
    let some = c.requires.level in
    let last = last-of c.self.inside.marks.items c.pop-mark.new.self.items c.pop-mark.result
    c.pop-mark.ensures.items c.pop-mark.ensures.variant (omega arith) in
    (ended c.self.inside.marks.items c.pop-mark.new.self.items last.0
    (logged_in c.self.inside.records.items c.self.inside.kept) c.args.self.now last.2
    c.self.invariant.0 c.self.view_is c.requires.empty).0
