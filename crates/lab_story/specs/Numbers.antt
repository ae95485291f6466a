-- Numbers among the words of a line.
use Rattle.std.specs.Prelude.{ℕ, zero, suc, ◌+◌, length, take, drop, position, List, []}
use Rattle.std.specs.Prelude.{slice_index_or, unwrap_or, ◌==◌}
use Rattle.std.specs.List.{slice_split}
use Rattle.std.specs.Option.{option_map_or}
use Rattle.script_model.specs.Bytes.{number_of}

-- the k-th word of a line, from 0; nothing past their end
abbrev pub word_at : List ℕ → ℕ → List ℕ
word_at line k = slice_index_or (slice_split (λ b. b == 32) line) k []

-- the number that the k-th word of a line says, from 0; 0 where it says none
abbrev pub number_at : List ℕ → ℕ → ℕ
number_at line k = unwrap_or (number_of (slice_index_or (slice_split (λ b. b == 32) line) k [])) 0

-- what stands behind the first space of a text; nothing where there is none
abbrev pub behind_space : List ℕ → List ℕ
behind_space text =
    option_map_or (λ (at : ℕ). drop (at + 1) text) (position (λ b. b == 32) text) []

-- what stands in a line from its k-th word on
abbrev pub from_word : List ℕ → ℕ → List ℕ
from_word line zero = line
from_word line (suc k) = behind_space (from_word line k)

-- the first two words of a text, as they stand there; all of it where it has fewer
abbrev pub two_words : List ℕ → List ℕ
two_words text = take (length (word_at text 0) + length (word_at text 1) + 1) text
