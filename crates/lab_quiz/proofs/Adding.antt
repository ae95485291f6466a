-- Lines of a quiz, one behind the other.
use Rattle.std.proofs.Common.{◌≡◌, ◌≤◌, ◌<◌, ℕ, suc, ◌+◌, List, [], ◌∷◌, ◌++◌, None, length, drop, get_or}
use Rattle.std.proofs.Common.{flat_map, refl, sym, ap, ◌∙◌, append_assoc, add-one, arith}
use Rattle.std.proofs.Math.Seq.{drop-cons}
use Rattle.std.proofs.lemmas.Grind.{flat_map-append}
use Rattle.std.proofs.lemmas.List.{append-nil, drop_all}
use Rattle.lab_lines.specs.Told.{Told, FileLine, End, Wrote, shown, written_in}
use Rattle.lab_quiz.specs.Quiz.{Adds}

-- nothing more
pub nothing : (old : List ℕ) (lines : List (List ℕ)) → Adds old old lines lines
nothing old lines = record { parts = []; text_is = sym (append-nil old); lines_are = refl }

-- one line more
one : (old new : List ℕ) (part : Told) (rest : List (List ℕ)) → new ≡ old ++ shown part →
    Adds old new (written_in part ++ rest) rest
one old new part rest e =
    record {
      parts = part ∷ [];
      text_is = e ∙ ap (λ t. old ++ t) (sym (append-nil (shown part)));
      lines_are = ap (λ t. t ++ rest) (sym (append-nil (written_in part)));
    }

-- a line of the file more
pub file_line : (old new : List ℕ) (number : ℕ) (text : List ℕ) →
    new ≡ old ++ shown (FileLine number text) → Adds old new [] []
file_line old new number text e = one old new (FileLine number text) [] e

-- what stands above the last lines
pub ends : (old new : List ℕ) (lines : List (List ℕ)) → new ≡ old ++ shown End → Adds old new lines lines
ends old new lines e = one old new End lines e

-- lines, and those behind them
pub joined : (old text new : List ℕ) (lines rest last : List (List ℕ)) → Adds old text lines rest →
    Adds text new rest last → Adds old new lines last
joined old text new lines rest last x y =
    record {
      parts = x.parts ++ y.parts;
      text_is =
          y.text_is
          ∙ ap (λ t. t ++ flat_map shown y.parts) x.text_is
          ∙ append_assoc old (flat_map shown x.parts) (flat_map shown y.parts)
          ∙ ap (λ t. old ++ t) (sym (flat_map-append shown x.parts y.parts));
      lines_are =
          x.lines_are
          ∙ ap (λ t. flat_map written_in x.parts ++ t) y.lines_are
          ∙ sym (append_assoc (flat_map written_in x.parts) (flat_map written_in y.parts) last)
          ∙ ap (λ t. t ++ last) (sym (flat_map-append written_in x.parts y.parts));
    }

-- a line of the file, with lines that are still to come
pub beside : (old new : List ℕ) (lines : List (List ℕ)) → Adds old new [] [] → Adds old new lines lines
beside old new lines x =
    record {
      parts = x.parts;
      text_is = x.text_is;
      lines_are = ap (λ t. t ++ lines) (x.lines_are ∙ append-nil (flat_map written_in x.parts));
    }

-- a line of the quiz more
pub line_more : (lines : List (List ℕ)) (k : ℕ) (d : List ℕ) (old text new : List ℕ)
    (all : List (List ℕ)) → k < length lines → Adds old text all (drop k lines) →
    new ≡ text ++ shown (Wrote (get_or lines k d) None) → Adds old new all (drop (suc k) lines)
line_more lines k d old text new all within x e =
    joined old text new all (drop k lines) (drop (suc k) lines) x
    (rw (drop-cons lines k d within) (one text new (Wrote (get_or lines k d) None) (drop (suc k) lines) e))

-- no line is left
pub none_left : (lines : List (List ℕ)) (k : ℕ) (old new : List ℕ) (all : List (List ℕ)) →
    length lines ≤ k → Adds old new all (drop k lines) → Adds old new all []
none_left lines k old new all past x = rw (drop_all k lines past) at x
