-- How the run of a lab file is judged.
use Rattle.std.proofs.Common.{◌≡◌, ◌≢◌, ◌≤◌, ◌<◌, ◌⊎◌, inl, inr, ℕ, suc, List, [], ◌∷◌, All, refl, sym, ap, ◌∙◌, length}
use Rattle.std.proofs.Common.{arith}
use Rattle.std.proofs.lemmas.Bool.Decides.{nat_tests}
use Rattle.std.proofs.lemmas.List.Elements.{All-cons}
use Rattle.script_model.specs.World.{Image}
use Rattle.lab_reader.specs.declared.sheet.Want.{Want}
use Rattle.lab_reader.specs.Sheet.{Sheet}
use Rattle.lab_reader.specs.Lab.{Lab}
use Rattle.lab_lowering.specs.Lowering.{Lowers}
use Rattle.lab_lines.specs.declared.pieces.Piece.{Piece}
use Rattle.lab_lines.specs.Told.{lines_in, lines_of}
use Rattle.lab_lines.specs.AsWanted.{AsWanted, PiecesInOrder, WantsInOrder}
use Rattle.lab_watch.specs.declared.running.Ran.{Ran}
use Rattle.lab_judging.proofs.WantsOrder.{raise}
use Rattle.lab_files.specs.Runs.{WasRun, status_told}
use Rattle.lab_judging.specs.Tested.{Wrote, WroteWanted, WroteOther, Tested, AllPass}
use Rattle.lab_judging.specs.Tested.{OneFails, Adds}

-- the status of a run that came to its end or to a refused line
ended_by : (status told : ℕ) → told ≡ status_told status → (told ≡ 0) ⊎ (told ≡ 2) →
    (status ≡ 0) ⊎ (status ≡ 2)
ended_by status told e h =
    elim h [
      | inl z ↦ inl (grind (arith, nat_tests, e, z))
      | inr t ↦ inr (grind (arith, nat_tests, e, t))
    ]

-- what a run wrote, in pieces
pub record Divided (l : Lab) (script : List ℕ) : Type 0 where
  pub ran : Ran
  pub run : WasRun l.settings.word script ran
  pub told : ℕ
  pub status : told ≡ status_told ran.status
  pub ended : (told ≡ 0) ⊎ (told ≡ 2)
  pub first : List Piece
  pub whole : lines_in first ≡ lines_of ran.lines.got
  pub pieces : List Piece
  pub same : lines_in pieces ≡ lines_in first
  pub ordered : PiecesInOrder 1 l.sheet.last pieces

judged : (Judged : List Want → (last : ℕ) → List Piece → Type 0) (l : Lab) (script : List ℕ)
    (d : Divided l script) → Judged l.sheet.wants l.sheet.last d.pieces → Wrote Judged l script
judged Judged l script d j =
    record {
      ran = d.ran;
      run = d.run;
      ended = ended_by d.ran.status d.told d.status d.ended;
      pieces = d.pieces;
      whole = d.same ∙ d.whole;
      ordered = d.ordered;
      judged = j;
    }

-- where no difference is told, all is as wanted
pub as_wanted : (l : Lab) (script : List ℕ) (d : Divided l script) (s : Sheet) (pieces : List Piece)
    (differences : ℕ) → s ≡ l.sheet → pieces ≡ d.pieces →
    (PiecesInOrder 0 s.last pieces → differences ≡ 0 → AsWanted s.wants s.last pieces) →
    differences ≡ 0 → WroteWanted l script
as_wanted l script d s pieces differences e f trusted none =
    judged AsWanted l script d (rw (sym e, sym f)
    (trusted (rw (e, f) (raise 0 1 _ (omega arith) d.ordered)) none))

-- where one is told, something isn't
pub as_other : (l : Lab) (script : List ℕ) (d : Divided l script) (s : Sheet) (pieces : List Piece)
    (differences : ℕ) → s ≡ l.sheet → pieces ≡ d.pieces → WantsInOrder l.sheet.wants →
    (WantsInOrder s.wants → PiecesInOrder 1 s.last pieces → AsWanted s.wants s.last pieces →
    differences ≡ 0) →
    differences ≢ 0 → WroteOther l script
as_other l script d s pieces differences e f wants silent some =
    judged (λ w last p. ¬ (AsWanted w last p)) l script d
    (λ all. some (silent (rw e wants) (rw (e, f) d.ordered) (rw (e, f) all)))

-- ---- files, one after another

-- one more file, whose run wrote what is wanted
pub adds_passed : (old new : ℕ) (text : List ℕ) (l : Lab) (images : List Image) (script : List ℕ) →
    Lowers text l images script → 0 < length l.sheet.wants → WroteWanted l script → new ≡ old →
    Adds old new
adds_passed old new text l images script lowers wants wrote e =
    record {
      passed = λ zero. (
        sym e ∙ zero,
        record {
          text = text;
          passes = record {
            lab = l;
            images = images;
            script = script;
            lowers = lowers;
            wants = wants;
            wrote = wrote;
          };
        },
      );
      failed = λ one. inl (sym e ∙ one);
    }

-- one more whose run didn't, or that has no run
pub adds_failed : (old new status : ℕ) (text : List ℕ) (l : Lab) (images : List Image)
    (script : List ℕ) → Lowers text l images script → 0 < length l.sheet.wants →
    (status ≡ 1 → WroteOther l script) → 1 ≤ status → status ≤ new → (new ≡ old) ⊎ (new ≡ status) → Adds old new
adds_failed old new status text l images script lowers wants wrote some least is =
    record {
      passed = λ zero. absurd (omega (arith, zero, some, least));
      failed = λ one. elim is [
        | inl e ↦ inl (sym e ∙ one)
        | inr e ↦ inr (record {
          text = text;
          fails = record {
            lab = l;
            images = images;
            script = script;
            lowers = lowers;
            wants = wants;
            wrote = wrote (sym e ∙ one);
          };
        })
      ];
    }

-- what a status says of so many files
abbrev pub SaysOf : (status count : ℕ) → Type 0
SaysOf status count = (status ≡ 0 → AllPass count) × (status ≡ 1 → OneFails)

none_pass : All (Tested AsWanted) []
none_pass k t below = absurd (omega (arith, below))

-- before the first file
pub says_nothing : SaysOf 0 0
says_nothing =
    (λ e. record { texts = []; counted = refl; pass = none_pass }, λ one. absurd (omega (arith, one)))

-- one more file
pub says_more : (old new count next : ℕ) → next ≡ suc count → SaysOf old count → Adds old new →
    SaysOf new next
says_more old new count next e said a = (
  λ zero.
      let before = said.0 (a.passed zero).0 in
      let one = (a.passed zero).1 in
      record {
        texts = one.text ∷ before.texts;
        counted = ap suc before.counted ∙ sym e;
        pass = All-cons (Tested AsWanted) one.text before.texts one.passes before.pass;
      },
  λ one. elim (a.failed one) [ inl e ↦ said.1 e | inr fails ↦ fails ],
)
