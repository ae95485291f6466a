-- Submissions that pass, one after another.
use Rattle.std.proofs.Common.{◌≡◌, ◌<◌, ◌≤◌, ℕ, suc, ◌+◌, List, [], ◌∷◌, All, refl, sym, ap, ◌∙◌, arith}
use Rattle.std.proofs.lemmas.List.Elements.{All-cons}
use Rattle.lab_grading.specs.declared.checking.Ready.{Ready}
use Rattle.lab_grading.specs.Graded.{Passes}
use Rattle.lab_judging.specs.Grading.{Opened, OnePasses, SoManyPass, AllGraded, SomeGraded}

none_pass : (ready : Ready) → All (Passes ready) []
none_pass ready k t below = absurd (omega (arith, below))

-- the first
pub first_graded : (ready : Ready) → OnePasses ready → SoManyPass ready (0 + 1)
first_graded ready one =
    record {
      texts = one.text ∷ [];
      counted = refl;
      pass = All-cons (Passes ready) one.text [] one.passes (none_pass ready);
    }

-- one more
pub one_more : (ready : Ready) (count : ℕ) → SoManyPass ready count → OnePasses ready →
    SoManyPass ready (count + 1)
one_more ready count before one =
    record {
      texts = one.text ∷ before.texts;
      counted = ap suc before.counted ∙ omega arith;
      pass = All-cons (Passes ready) one.text before.texts one.passes before.pass;
    }

-- of a task that was read
pub all_graded : (ready : Ready) (count : ℕ) → Opened ready → SoManyPass ready count →
    AllGraded count
all_graded ready count opened pass = record { ready = ready; opened = opened; pass = pass }

-- there is one at least
pub some_graded : (count : ℕ) → AllGraded (count + 1) → SomeGraded
some_graded count graded =
    record { count = count + 1; least = omega arith; graded = graded }
