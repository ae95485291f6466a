-- Which lines a wanted line stands for.
use Rattle.std.specs.Prelude.{ℕ, ◌==◌, Bool, true, false, ◌||◌, List, [], ◌∷◌, codes}
use Rattle.std.specs.List.{slice_split}
use Rattle.kernel_data.specs.World.{same_bytes}

-- a wanted word stands for itself, and `*` for any
abbrev pub is_word_of : List ℕ → List ℕ → Bool
is_word_of want word = same_bytes want (codes "*") || same_bytes want word

-- as many words, each of which is wanted
abbrev pub are_wanted : List (List ℕ) → List (List ℕ) → Bool
are_wanted [] [] = true
are_wanted [] (w ∷ ws) = false
are_wanted (v ∷ vs) [] = false
are_wanted (v ∷ vs) (w ∷ ws) = elim (is_word_of v w) [ true ↦ are_wanted vs ws | false ↦ false ]

-- the line is one that is wanted
abbrev pub is_wanted : (want line : List ℕ) → Bool
is_wanted want line =
    are_wanted (slice_split (λ b. b == 32) want) (slice_split (λ b. b == 32) line)
