use Rattle.std.proofs.Common.{arith}
use Rattle.undo_calls.specs.UndoLevels.{logged_in}
use Rattle.undo_calls.proofs.Cuts.{last-of, some-record}
use Rattle.undo_calls.proofs.Logs.{length-logged, logged-forgotten}
use Rattle.undo_calls.proofs.UndoStack.forget_newest.Goals as goal

pub invariant_of-self : goal.invariant_of-self
invariant_of-self c =
    let some = some-record c.self.inside.marks.items (logged_in c.self.inside.records.items
    c.self.inside.kept) c.args.self.now c.self.invariant.0 c.self.view_is c.requires in
    let size = length-logged 0 c.self.inside.records.items c.self.inside.kept in
    let last = last-of c.self.inside.records.items c.pop.new.self.items c.pop.result
    c.pop.ensures.items c.pop.ensures.variant (omega arith) in (
      (logged-forgotten c.self.inside.marks.items c.self.inside.records.items c.pop.new.self.items
          last.0 c.self.inside.kept c.args.self.now last.2 c.self.invariant.0 c.self.view_is
          c.requires).stack,
      c.self.invariant.1,
    )

pub returns : goal.returns
returns c =
    let some = some-record c.self.inside.marks.items (logged_in c.self.inside.records.items
    c.self.inside.kept) c.args.self.now c.self.invariant.0 c.self.view_is c.requires in
    let size = length-logged 0 c.self.inside.records.items c.self.inside.kept in
    let last = last-of c.self.inside.records.items c.pop.new.self.items c.pop.result
    c.pop.ensures.items c.pop.ensures.variant (omega arith) in
    (logged-forgotten c.self.inside.marks.items c.self.inside.records.items c.pop.new.self.items
    last.0 c.self.inside.kept c.args.self.now last.2 c.self.invariant.0 c.self.view_is
    c.requires).rest
