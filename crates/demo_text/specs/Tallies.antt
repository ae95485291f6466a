-- What a tally tells of the bytes and notes so far.
use Rattle.std.specs.Prelude.{◌≡◌, ℕ, ◌+◌, ◌<◌, ◌^◌, ◌==◌, Bool, List, length, filter}
use Rattle.sha2.specs.Hashers.{Holds256}
use Rattle.script_model.specs.declared.Note.{Note}
use Rattle.script_model.specs.Demo.{is_ended, is_refused, is_dropped}
use Rattle.demo_text.specs.declared.tally.Tally.{Tally}

-- a byte that ends a line
abbrev pub is_newline : ℕ → Bool
is_newline b = b == 10

-- the tally of what was written and told so far
pub record IsTally (t : Tally) (written : List ℕ) (told : List Note) : Type 0 where
  pub lines : t.counts.lines ≡ length (filter is_newline written)
  pub ended : t.counts.ended ≡ length (filter is_ended told)
  pub refused : t.counts.refused ≡ length (filter is_refused told)
  pub drops : t.counts.drops ≡ length (filter is_dropped told)
  pub digest : Holds256 t.hash written

-- it can take these too, and so many notes: there are fewer bytes and notes than a count can tell
pub record TakesMore (t : Tally) (bytes : List ℕ) (notes : ℕ) : Type 0 where
  pub written : List ℕ
  pub told : List Note
  pub is : IsTally t written told
  pub few_bytes : length written + length bytes < 2 ^ 64
  pub few_notes : length told + notes < 2 ^ 64
