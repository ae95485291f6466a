-- A code in words, by a row that is its own.
use Rattle.std.specs.Prelude.{◌≡◌, ℕ, List, ◌++◌, codes}
use Rattle.lab_codes.specs.declared.code.Code.{Code}
use Rattle.lab_codes.specs.Codes.{code_text}
use Rattle.lab_codes.specs.declared.words.Words.{Words}
use Rattle.lab_codes.specs.Pages.{page_of}

-- a text behind the words before it
unfoldable pub part : (before text : List ℕ) → List ℕ
part before text = before ++ text

-- a code and its meaning; below it the usual cause, the page that describes the code, and a file
-- that shows it
abbrev pub explained : Code → Words → List ℕ
explained c w =
    code_text c ++ part (codes ": ") w.meaning.now ++ part (codes "\n  ") w.cause.now
    ++ part (codes "\n  described in ") (page_of c)
    ++ part (codes "\n  shown by ") w.example.now ++ codes "\n"

-- a text explains a code by a row, which is the code's own
pub record Explains (c : Code) (text : List ℕ) : Type 0 where
  pub row : Words
  pub is_own : row.code.now ≡ code_text c
  pub lines : text ≡ explained c row
