-- Where the lines of a text, and the words and columns of a line are.
use Rattle.std.specs.Prelude.{ℕ, zero, suc, ◌+◌, ◌-◌, ◌==◌, Bool, not, ◌||◌, cond, nat_lt, min}
use Rattle.std.specs.Prelude.{List, [], length, take, slice_index, slice_index_or, slice_range}
use Rattle.std.specs.Prelude.{count_by, bit_and, Option, None, Some}
use Rattle.std.specs.List.{position_or_len, slice_split}
use Rattle.lab_places.specs.declared.spans.Span.{Span}

-- a byte between words
abbrev pub is_space : ℕ → Bool
is_space byte = byte == 32 || byte == 9 || byte == 13

-- a byte that begins a character of UTF-8: none of those that go on with one, whose two highest
-- bits are 10
abbrev pub begins_character : ℕ → Bool
begins_character byte = not (bit_and byte 192 == 128)

-- the column of a place of a line, counted from 1 in characters
abbrev pub column : (line : List ℕ) → (at : ℕ) → ℕ
column line at = count_by begins_character (take at line) + 1

-- line n of a text, from 1; line 0 is empty, and so is each past the end
abbrev pub line_at : (text : List ℕ) → (n : ℕ) → List ℕ
line_at text zero = []
line_at text (suc n) = slice_index_or (slice_split (λ b. b == 10) text) n []

-- the number of the line in which a place of a text is, from 1
abbrev pub line_number : (text : List ℕ) → (at : ℕ) → ℕ
line_number text at = count_by (λ b. b == 10) (take at text) + 1

-- where that line begins: behind the last newline before the place, if there is one
abbrev pub line_begin : (text : List ℕ) → (at : ℕ) → ℕ
line_begin text zero = 0
line_begin text (suc at) = cond (slice_index text at == 10) (at + 1) (line_begin text at)

-- the first place from one on, before another and the end of the line, where a byte passes; else
-- where the search ends
abbrev pub first_place : (passes : ℕ → Bool) → (line : List ℕ) → (from end : ℕ) → ℕ
first_place passes line from end =
    from + position_or_len passes (slice_range line from (min end (length line)))

-- the first byte of a word is no space, and behind the last one stands one, or the end
abbrev pub word_begin : (line : List ℕ) → (from end : ℕ) → ℕ
word_begin line from end = first_place (λ b. not (is_space b)) line from end

abbrev pub word_end : (line : List ℕ) → (from end : ℕ) → ℕ
word_end line from end = first_place is_space line (word_begin line from end) end

-- the next word from a place on, before another, if there is one
abbrev pub next_word : (line : List ℕ) → (from end : ℕ) → Option Span
next_word line from end =
    cond (nat_lt (word_begin line from end) (word_end line from end))
    (Some (record { from = word_begin line from end; to = word_end line from end }))
    None

-- the next word behind another, if there are both
abbrev pub word_behind : (line : List ℕ) → (end : ℕ) → Option Span → Option Span
word_behind line end None = None
word_behind line end (Some w) = next_word line w.to end

-- word k from a place on, counted from 0, if there is one
abbrev pub word_number : (line : List ℕ) → (from end k : ℕ) → Option Span
word_number line from end zero = next_word line from end
word_number line from end (suc k) = word_behind line end (word_number line from end k)

-- the part of a line up to the next `;`
abbrev pub next_part : (line : List ℕ) → (from end : ℕ) → Span
next_part line from end =
    record { from = from; to = first_place (λ b. b == 59) line from end }

-- the bytes of a span, where they are in the line
abbrev pub bytes_of : (line : List ℕ) → Span → List ℕ
bytes_of line span = slice_range line span.from span.to
