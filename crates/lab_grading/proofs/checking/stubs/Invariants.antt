use Rattle.std.proofs.Common.{◌≡◌, take}
use Rattle.lab_grading.specs.Graded as spec
use Rattle.lab_grading.proofs.checking.stubs.Given as goal

abbrev pub invariant-loop-name : goal.invariant-loop-name
invariant-loop-name l =
    l.text.items ≡ spec.stubs (take l.name-index l.gives)
