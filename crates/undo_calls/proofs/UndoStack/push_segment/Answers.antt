use Rattle.std.proofs.Common.{◌<◌, length, length-set, sym, subst, ◌∙◌, ap, arith}
use Rattle.std.proofs.lemmas.Bool.Decides.{nat_tests}
use Rattle.std.specs.Option.{option_copied}
use Rattle.kernel_model.specs.declared.Inverse.TheVariants.{Segment}
use Rattle.undo_calls.specs.UndoLevels.{IsStack, recorded, segment_logged, levels_of, logged_in}
use Rattle.undo_calls.proofs.Cuts.{length-log, stack-more, levels-more}
use Rattle.undo_calls.proofs.Ages.{length-records}
use Rattle.undo_calls.proofs.Logs.{length-logged, logged-put}
use Rattle.undo_calls.proofs.UndoStack.push_segment.Goals as goal

pub returns-then-place-eq-RECORDS-clause-room : goal.returns-then-place-eq-RECORDS-clause-room
returns-then-place-eq-RECORDS-clause-room c =
    let size = length-records c.self.inside.marks.items (logged_in c.self.inside.records.items
    c.self.inside.kept) c.args.self.now c.self.invariant.0 c.self.view_is in
    let same = length-logged 0 c.self.inside.records.items c.self.inside.kept in
    let here = c.len-place.ensures.value in
    let so = c.if-place-eq-RECORDS.true in grind (arith, nat_tests)

pub invariant_of-self : goal.invariant_of-self
invariant_of-self c =
    let size = length-log c.self.inside.marks.items
    (logged_in c.self.inside.records.items c.self.inside.kept) c.args.self.now c.self.view_is in
    let same = length-logged 0 c.self.inside.records.items c.self.inside.kept in
    let some = c.requires.level in
    let few = c.self.invariant.0.few in
    let count = c.self.invariant.1 in
    let here = c.len-place.ensures.value in
    let so = c.if-place-eq-RECORDS.false in
    let room : length c.self.inside.records.items < 64 = grind (arith, nat_tests) in (
      subst (λ rs. IsStack c.self.inside.marks.items rs) (sym
          (logged-put c.self.inside.records.items c.push.new.self.items (Segment c.args.q c.args.pt)
          c.self.inside.kept c.put.new.self c.len-place.result (option_copied c.args.bytes)
          c.len-place.ensures.value c.push.ensures.items c.put.ensures (omega arith)))
          (stack-more c.self.inside.marks.items (logged_in c.self.inside.records.items
          c.self.inside.kept) (segment_logged c.args.q c.args.pt (option_copied c.args.bytes))
          c.self.invariant.0 (omega arith) (omega arith)),
      ap length c.put.ensures ∙ length-set c.self.inside.kept c.len-place.result (option_copied c.args.bytes) ∙ count,
    )

pub returns-clause-room : goal.returns-clause-room
returns-clause-room c =
    let size = length-records c.self.inside.marks.items (logged_in c.self.inside.records.items
    c.self.inside.kept) c.args.self.now c.self.invariant.0 c.self.view_is in
    let same = length-logged 0 c.self.inside.records.items c.self.inside.kept in
    let here = c.len-place.ensures.value in
    let so = c.if-place-eq-RECORDS.false in grind (arith, nat_tests)

pub returns-clause-value : goal.returns-clause-value
returns-clause-value c =
    let size = length-log c.self.inside.marks.items
    (logged_in c.self.inside.records.items c.self.inside.kept) c.args.self.now c.self.view_is in
    let same = length-logged 0 c.self.inside.records.items c.self.inside.kept in
    let some = c.requires.level in
    let few = c.self.invariant.0.few in
    let count = c.self.invariant.1 in
    let here = c.len-place.ensures.value in
    let so = c.if-place-eq-RECORDS.false in
    let room : length c.self.inside.records.items < 64 = grind (arith, nat_tests) in
    ap (λ rs. levels_of c.self.inside.marks.items rs)
    (logged-put c.self.inside.records.items c.push.new.self.items (Segment c.args.q c.args.pt)
    c.self.inside.kept c.put.new.self c.len-place.result (option_copied c.args.bytes)
    c.len-place.ensures.value c.push.ensures.items c.put.ensures (omega arith))
    ∙ levels-more c.self.inside.marks.items (logged_in c.self.inside.records.items
    c.self.inside.kept) (segment_logged c.args.q c.args.pt (option_copied c.args.bytes))
    c.self.invariant.0
    ∙ ap (recorded (segment_logged c.args.q c.args.pt (option_copied c.args.bytes))) c.self.view_is
