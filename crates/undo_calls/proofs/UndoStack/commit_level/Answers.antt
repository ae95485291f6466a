use Rattle.std.proofs.Common.{arith}
use Rattle.std.proofs.lemmas.Bool.Decides.{nat_tests}
use Rattle.undo_calls.proofs.Cuts.{length-log, last-of, committed}
use Rattle.undo_calls.specs.UndoLevels.{logged_in}
use Rattle.undo_calls.proofs.UndoStack.commit_level.Goals as goal

pub invariant_of-self-else-is_empty : goal.invariant_of-self-else-is_empty
invariant_of-self-else-is_empty c =
    let size = length-log c.self.inside.marks.items
    (logged_in c.self.inside.records.items c.self.inside.kept) c.args.self.now c.self.view_is in
    let some = c.requires in
    let last = last-of c.self.inside.marks.items c.pop.new.self.items c.pop.result
    c.pop.ensures.items c.pop.ensures.variant (omega arith) in
    let full = c.is_empty.ensures in
    let so = c.if-is_empty.false in (
      (committed c.self.inside.marks.items c.pop.new.self.items last.0
          (logged_in c.self.inside.records.items c.self.inside.kept) c.args.self.now last.2
          c.self.invariant.0 c.self.view_is (grind (arith, nat_tests))).1,
      c.self.invariant.1,
    )

pub returns-else-is_empty : goal.returns-else-is_empty
returns-else-is_empty c =
    let size = length-log c.self.inside.marks.items
    (logged_in c.self.inside.records.items c.self.inside.kept) c.args.self.now c.self.view_is in
    let some = c.requires in
    let last = last-of c.self.inside.marks.items c.pop.new.self.items c.pop.result
    c.pop.ensures.items c.pop.ensures.variant (omega arith) in
    let full = c.is_empty.ensures in
    let so = c.if-is_empty.false in
    (committed c.self.inside.marks.items c.pop.new.self.items last.0
    (logged_in c.self.inside.records.items c.self.inside.kept) c.args.self.now last.2
    c.self.invariant.0 c.self.view_is (grind (arith, nat_tests))).0
