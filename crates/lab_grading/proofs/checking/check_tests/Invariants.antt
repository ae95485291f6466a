use Rattle.std.proofs.Common.{take}
use Rattle.lab_grading.specs.Graded.{AreChecked}
use Rattle.lab_grading.proofs.checking.check_tests.Given as goal

abbrev pub invariant-loop-test : goal.invariant-loop-test
invariant-loop-test l =
    AreChecked l.front (take l.test-index l.tests) l.all.items
