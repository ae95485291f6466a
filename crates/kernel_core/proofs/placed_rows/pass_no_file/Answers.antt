-- Nothing is passed yet, or a place without a row.
use Rattle.std.proofs.Common.{arith}
use Rattle.std.proofs.lemmas.Bool.Decides.{nat_tests}
use Rattle.running_kernel.specs.Views.{placed_of}
use Rattle.kernel_core.specs.declared.placed_rows.Section.TheVariants.{Files}
use Rattle.kernel_core.proofs.RowPlaceLemmas.{none_passed, nothing_passed}
use Rattle.kernel_core.proofs.placed_rows.pass_no_file.Goals as goal

pub loop-at-init : goal.loop-at-init
loop-at-init g c = nothing_passed (placed_of c.args.running.now) Files c.args.at.now c.requires.place

pub loop-at-preserved : goal.loop-at-preserved
loop-at-preserved g c =
    none_passed (placed_of c.args.running.now) Files c.args.at.now c.loop-at.at
    c.pass_place.new.self c.loop-at.invariant c.requires.section c.loop-at-test.true
    (grind (arith, nat_tests, c.has_file.ensures, c.if-not-has_file.true)) c.pass_place.ensures
