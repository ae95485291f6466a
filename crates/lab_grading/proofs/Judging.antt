-- What an outcome says of a test, by what it says of the pieces of its run.
use Rattle.std.proofs.Common.{◌≡◌, ◌⊎◌, ℕ, true, false, List, map, subst}
use Rattle.script_model.specs.World.{Image}
use Rattle.lab_reader.specs.Lab.{Lab}
use Rattle.lab_lowering.specs.Lowering.{Lowers}
use Rattle.lab_lines.specs.declared.pieces.Piece.{Piece}
use Rattle.lab_lines.specs.Told.{lines_in, lines_of}
use Rattle.lab_watch.specs.declared.running.Ran.{Ran}
use Rattle.lab_matching.specs.Matching.{is_passed}
use Rattle.lab_task.specs.Task.{Test}
use Rattle.lab_grading.specs.declared.checking.Checked.{Checked}
use Rattle.lab_grading.specs.declared.grading.Outcome.{Outcome}
use Rattle.lab_grading.specs.declared.grading.Outcome.TheVariants as outcome
use Rattle.lab_grading.specs.Graded.{behind, lines_before, moved, WasRun, IsChecked, SaysOfPieces, Says}

pub says : (front : List ℕ) (to : ℕ) (checked : Checked) (lab : Lab) (images : List Image)
    (plain : List ℕ) (ran : Ran) (pieces : List Piece) (from : ℕ) (text : List ℕ) (o : Outcome) →
    text ≡ behind front checked.script.items → Lowers text lab images plain →
    WasRun lab.settings.word plain ran → (ran.status ≡ 0) ⊎ (ran.status ≡ 2) →
    lines_in pieces ≡ lines_of ran.lines.got → from ≡ lines_before front →
    SaysOfPieces o checked.lowered.lab.sheet.wants checked.lowered.lab.sheet.last
    (map (moved from to) pieces) → Says o front to checked
says front to checked lab images plain ran pieces from text outcome.Passed e lowers run ended whole same judged =
    record {
      lab = lab;
      images = images;
      plain = plain;
      lowers = subst (λ t. Lowers t lab images plain) e lowers;
      ran = ran;
      run = run;
      ended = ended;
      pieces = pieces;
      whole = whole;
      judged = subst (λ n. is_passed checked.lowered.lab.sheet.wants checked.lowered.lab.sheet.last
          (map (moved n to) pieces) ≡ true) same judged;
    }
says front to checked lab images plain ran pieces from text (outcome.Failed other) e lowers run ended whole same judged =
    record {
      lab = lab;
      images = images;
      plain = plain;
      lowers = subst (λ t. Lowers t lab images plain) e lowers;
      ran = ran;
      run = run;
      ended = ended;
      pieces = pieces;
      whole = whole;
      judged = subst (λ n. is_passed checked.lowered.lab.sheet.wants checked.lowered.lab.sheet.last
          (map (moved n to) pieces) ≡ false) same judged;
    }
says front to checked lab images plain ran pieces from text (outcome.Refused fault) e lowers run ended whole same judged =
    absurd judged

-- a test that was read
pub is_checked : (front : List ℕ) (test : Test) (c : Checked) (text : List ℕ) (images : List Image)
    (plain : List ℕ) → text ≡ behind front test.script → c.script.items ≡ test.script →
    Lowers text c.lowered.lab images plain → IsChecked front test c
is_checked front test c text images plain e same lowers =
    record {
      script = same;
      read = record {
        images = images;
        plain = plain;
        lowers = subst (λ t. Lowers t c.lowered.lab images plain) e lowers;
      };
    }
