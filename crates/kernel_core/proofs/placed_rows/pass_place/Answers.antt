-- The place is passed, and those without a file or a graft behind it.
use Rattle.std.proofs.Common.{arith, ap, subst, sym}
use Rattle.running_kernel.specs.Views.{placed_of}
use Rattle.kernel_core.specs.declared.placed_rows.RowPlace.{RowPlace}
use Rattle.kernel_core.specs.declared.placed_rows.Section.{Section}
use Rattle.kernel_core.specs.declared.placed_rows.Section.TheVariants.{Files, Grafts}
use Rattle.kernel_core.specs.PlacedSections.{IsPassed}
use Rattle.kernel_core.proofs.RowPlaceLemmas.{none_passed, nothing_passed, passed_on}
use Rattle.kernel_core.proofs.placed_rows.pass_place.Goals as goal

pub returns-in-Files-clause-passed : goal.returns-in-Files-clause-passed
returns-in-Files-clause-passed g c =
    let x = placed_of c.args.running.now in
    let at = c.args.at.now in
    let mid = c.pass_place.new.self in
    let new = c.pass_no_file.new.at in
    let one = none_passed x c.args.section at at mid
    (nothing_passed x c.args.section at (omega (arith, c.requires.place))) c.requires.section
    c.requires.place c.requires.none c.pass_place.ensures in
    subst (λ (s : Section). IsPassed x s at new) (sym c.in-Files.is)
    (passed_on x Files at mid new (subst (λ (s : Section). IsPassed x s at mid) c.in-Files.is one)
    c.pass_no_file.ensures)

pub returns-in-Grafts-clause-passed : goal.returns-in-Grafts-clause-passed
returns-in-Grafts-clause-passed g c =
    let x = placed_of c.args.running.now in
    let at = c.args.at.now in
    let mid = c.pass_place.new.self in
    let new = c.pass_no_graft.new.at in
    let one = none_passed x c.args.section at at mid
    (nothing_passed x c.args.section at (omega (arith, c.requires.place))) c.requires.section
    c.requires.place c.requires.none c.pass_place.ensures in
    subst (λ (s : Section). IsPassed x s at new) (sym c.in-Grafts.is)
    (passed_on x Grafts at mid new (subst (λ (s : Section). IsPassed x s at mid) c.in-Grafts.is one)
    c.pass_no_graft.ensures)

pub returns-in_default : goal.returns-in_default
returns-in_default g c =
    let x = placed_of c.args.running.now in
    let at = c.args.at.now in
    let mid = c.pass_place.new.self in
    record {
      passed =
          none_passed x c.args.section at at mid
          (nothing_passed x c.args.section at (omega (arith, c.requires.place))) c.requires.section
          c.requires.place c.requires.none c.pass_place.ensures;
      further = omega (arith, ap (λ (r : RowPlace). r.place) c.pass_place.ensures);
    }
