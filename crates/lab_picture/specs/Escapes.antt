-- How text stands in a picture.
use Rattle.std.specs.Prelude.{◌≡◌, ◌⊎◌, ℕ, zero, suc, ◌-◌, Bool, true, cond, ◌==◌, ◌&&◌, not, ◌||◌, nat_le}
use Rattle.std.specs.Prelude.{List, [], ◌∷◌, ◌++◌, codes, flat_map, length, take, slice_index}
use Rattle.std.specs.List.{list_all}

-- a byte of a text: `<`, `>`, `&` and `"` by their names, and `?` for what is no printable sign of
-- ASCII
abbrev pub escaped : ℕ → List ℕ
escaped byte =
    cond (byte == 60) (codes "&lt;")
    (cond (byte == 62) (codes "&gt;")
    (cond (byte == 38) (codes "&amp;")
    (cond (byte == 34) (codes "&quot;")
    (cond (nat_le 32 byte && nat_le byte 126) (byte ∷ []) (codes "?")))))

-- a printable sign of ASCII that begins or ends no tag and no value
abbrev pub is_plain : ℕ → Bool
is_plain byte =
    nat_le 32 byte && nat_le byte 126 && not (byte == 60 || byte == 62 || byte == 34)

-- each byte of an escaped text is such a sign
abbrev pub TextIsPlain : Type 0
TextIsPlain = (text : List ℕ) → list_all is_plain (flat_map escaped text) ≡ true

-- ---- texts that are too long

-- the place of the last space of a text up to a place; 0 where there is none
abbrev pub word_end : List ℕ → ℕ → ℕ
word_end text zero = 0
word_end text (suc n) = cond (slice_index text (suc n) == 32) (suc n) (word_end text n)

-- a text of at most so many signs; of a longer one the whole words that fit in front of a mark
abbrev pub fitted : (most : ℕ) → List ℕ → List ℕ
fitted most text =
    cond (nat_le (length text) most) text (take (word_end text (most - 3)) text)

-- the mark of a text that goes on
abbrev pub mark : (kept : List ℕ) → List ℕ
mark [] = codes ".."
mark (b ∷ bs) = codes " .."

-- the first words of a text, with a mark behind them, and all of it as a title
abbrev pub cut : (text kept : List ℕ) → List ℕ
cut text kept =
    codes "<title>" ++ flat_map escaped text ++ codes "</title>" ++ flat_map escaped kept
    ++ mark kept

-- a text whole where it has at most so many signs, and else cut
abbrev pub shown : (most : ℕ) → List ℕ → List ℕ
shown most text =
    cond (nat_le (length text) most) (flat_map escaped text) (cut text (fitted most text))

-- what stands of a text that is too long are whole words: none, or as many as end at a space
abbrev pub WordsAreWhole : Type 0
WordsAreWhole =
    (most : ℕ) (text : List ℕ) →
    (fitted most text ≡ text) ⊎ (fitted most text ≡ [])
    ⊎ (slice_index text (length (fitted most text)) ≡ 32)
