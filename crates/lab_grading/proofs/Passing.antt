-- Where each outcome is that of a test that is passed, the submission passes.
use Rattle.std.proofs.Common.{◌≡◌, ℕ, true, None, List, [], ◌∷◌, arith}
use Rattle.std.proofs.lemmas.Bool.Decides.{nat_tests}
use Rattle.std.specs.List.{list_all}
use Rattle.lab_grading.specs.declared.checking.Checked.{Checked}
use Rattle.lab_grading.specs.declared.checking.Ready.{Ready}
use Rattle.lab_grading.specs.declared.grading.Outcome.{Outcome}
use Rattle.lab_grading.specs.declared.grading.Outcome.TheVariants as outcome
use Rattle.lab_grading.specs.declared.submission.Graded.{Graded}
use Rattle.lab_grading.specs.declared.submission.Graded.TheVariants as graded
use Rattle.lab_grading.specs.Graded.{is_passed_by, are_passed, AreSaid, AllPass, SaysOfTests, SaysOf, Passes}
use Rattle.lab_task.specs.Submission.{fault_of}

all_pass : (front : List ℕ) (to : ℕ) (cs : List Checked) (os : List Outcome) →
    AreSaid front to cs os → list_all is_passed_by os ≡ true → AllPass front to cs
all_pass front to [] [] h e = tt
all_pass front to [] (o ∷ os) h e = absurd h
all_pass front to (c ∷ cs) [] h e = absurd h
all_pass front to (c ∷ cs) (outcome.Passed ∷ os) h e = (h.0, all_pass front to cs os h.1 e)
all_pass front to (c ∷ cs) (outcome.Failed other ∷ os) h e = absurd (grind (arith, nat_tests, e))
all_pass front to (c ∷ cs) (outcome.Refused fault ∷ os) h e = absurd (grind (arith, nat_tests, e))

pub passes : (g : Graded) (text : List ℕ) (ready : Ready) → SaysOf g text ready →
    are_passed g ≡ true → Passes ready text
passes (graded.Tested outcomes) text ready says e =
    record {
      asked = says.0;
      passed = all_pass text ready.to ready.checked.items outcomes.items says.1 e;
    }
passes (graded.Refused fault) text ready says e = absurd (grind (arith, nat_tests, e))
passes (graded.Unread place fault) text ready says e = absurd (grind (arith, nat_tests, e))

-- what came of the tests is what came of a submission that has the grafts that are asked for
pub says_of : (g : Graded) (text : List ℕ) (ready : Ready) →
    fault_of ready.task.gives text ≡ None → SaysOfTests g text ready.to ready.checked.items →
    SaysOf g text ready
says_of (graded.Tested outcomes) text ready asked says = (asked, says)
says_of (graded.Refused fault) text ready asked says = absurd says
says_of (graded.Unread place fault) text ready asked says = tt
