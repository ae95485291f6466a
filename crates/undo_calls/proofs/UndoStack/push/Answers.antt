use Rattle.std.proofs.Common.{◌<◌, length, sym, subst, ◌∙◌, ap, arith, rules}
use Rattle.std.proofs.lemmas.Bool.Decides.{nat_tests}
use Rattle.undo_calls.specs.UndoLevels.{IsStack, bare, recorded, levels_of, logged_in}
use Rattle.undo_calls.proofs.Cuts.{length-log, stack-more, levels-more}
use Rattle.undo_calls.proofs.Ages.{length-records}
use Rattle.undo_calls.proofs.Logs.{length-logged, logged-more_bare}
use Rattle.undo_calls.proofs.UndoStack.push.Goals as goal

pub returns-then-is_full-clause-full : goal.returns-then-is_full-clause-full
returns-then-is_full-clause-full c =
    let size = length-records c.self.inside.marks.items (logged_in c.self.inside.records.items
    c.self.inside.kept) c.args.self.now c.self.invariant.0 c.self.view_is in
    let same = length-logged 0 c.self.inside.records.items c.self.inside.kept in
    let full = c.is_full.ensures.value in
    let so = c.if-is_full.true in search (rules, nat_tests)

pub invariant_of-self : goal.invariant_of-self
invariant_of-self c =
    let size = length-log c.self.inside.marks.items
    (logged_in c.self.inside.records.items c.self.inside.kept) c.args.self.now c.self.view_is in
    let same = length-logged 0 c.self.inside.records.items c.self.inside.kept in
    let some = c.requires.level in
    let few = c.self.invariant.0.few in
    let full = c.is_full.ensures.value in
    let so = c.if-is_full.false in
    let room : length (logged_in c.self.inside.records.items c.self.inside.kept) < 64 = grind (arith, nat_tests) in (
      subst (λ fs. IsStack c.self.inside.marks.items fs)
          (sym (ap (λ rs. logged_in rs c.self.inside.kept) c.push.ensures.items ∙ logged-more_bare
          c.self.inside.records.items c.args.inv c.self.inside.kept c.requires.bare))
          (stack-more c.self.inside.marks.items (logged_in c.self.inside.records.items
          c.self.inside.kept) (bare c.args.inv) c.self.invariant.0 (omega arith) room),
      c.self.invariant.1,
    )

pub returns-clause-full : goal.returns-clause-full
returns-clause-full c =
    let size = length-records c.self.inside.marks.items (logged_in c.self.inside.records.items
    c.self.inside.kept) c.args.self.now c.self.invariant.0 c.self.view_is in
    let same = length-logged 0 c.self.inside.records.items c.self.inside.kept in
    let full = c.is_full.ensures.value in
    let so = c.if-is_full.false in search (rules, nat_tests)

pub returns-clause-ok : goal.returns-clause-ok
returns-clause-ok c =
    ap (λ fs. levels_of c.self.inside.marks.items fs)
    (ap (λ rs. logged_in rs c.self.inside.kept) c.push.ensures.items ∙ logged-more_bare
    c.self.inside.records.items c.args.inv c.self.inside.kept c.requires.bare)
    ∙ levels-more c.self.inside.marks.items (logged_in c.self.inside.records.items
    c.self.inside.kept) (bare c.args.inv) c.self.invariant.0
    ∙ ap (recorded (bare c.args.inv)) c.self.view_is
