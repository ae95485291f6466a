-- A row is found at the place, or the place or its section is passed.
use Rattle.std.proofs.Common.{get_or, arith, refl}
use Rattle.std.proofs.lemmas.Option.{slice_get-get_or}
use Rattle.running_kernel.specs.Views.{placed_of}
use Rattle.kernel_core.specs.declared.placed_rows.Section.TheVariants.{Clock}
use Rattle.kernel_core.specs.PlacedSections.{sections, row_found}
use Rattle.kernel_core.proofs.RowPlaceLemmas.{alike_passed, none_taken, row_taken_of, section_passed}
use Rattle.kernel_core.proofs.placed_rows.find_row.Goals as goal

pub loop-at-preserved-then-at-places_of : goal.loop-at-preserved-then-at-places_of
loop-at-preserved-then-at-places_of g c =
    let at = c.loop-at.at in
    let s = get_or sections at.section Clock in
    let here = slice_get-get_or sections at.section Clock c.loop-at-test.true in
    section_passed (placed_of c.args.running.now) c.args.at.now
    at c.pass_section.new.self s c.loop-at.invariant here
    (omega (arith, c.if-at-places_of.true, c.places_of.ensures)) c.pass_section.ensures

pub loop-at-preserved : goal.loop-at-preserved
loop-at-preserved g c =
    let at = c.loop-at.at in
    let s = get_or sections at.section Clock in
    alike_passed (placed_of c.args.running.now) c.args.at.now at c.pass_place.new.at s
    c.loop-at.invariant c.pass_place.ensures.passed

pub returns-clause-taken : goal.returns-clause-taken
returns-clause-taken g c =
    none_taken (placed_of c.args.running.now) c.args.at.now c.loop-at.at c.loop-at.invariant
    c.loop-at-test.false

pub returns-then-at-count-clause-taken : goal.returns-then-at-count-clause-taken
returns-then-at-count-clause-taken g c =
    let x = placed_of c.args.running.now in
    let at = c.loop-at.at in
    let s = get_or sections at.section Clock in
    let here = slice_get-get_or sections at.section Clock c.loop-at-test.true in
    row_taken_of x c.args.at.now at c.pass_row.new.self s c.count_at-count.result (row_found x
    (record { section = s; place = at.place; index = at.index })) c.loop-at.invariant here
    (omega (arith, c.if-at-places_of.false, c.places_of.ensures)) c.count_at-count.ensures.value
    c.if-at-count.true c.count_at-count.ensures.few refl c.pass_row.ensures
