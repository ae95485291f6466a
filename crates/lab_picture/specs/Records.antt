-- Records of the undo log in words.
use Rattle.std.specs.Prelude.{ℕ, ◌==◌, cond, List, [], ◌++◌, codes, slice_index_or}
use Rattle.std.specs.List.{slice_split}
use Rattle.kernel_data.specs.World.{same_bytes}

-- the k-th word of a record, from 0; nothing past their end
abbrev pub word_at : List ℕ → ℕ → List ℕ
word_at r k = slice_index_or (slice_split (λ b. b == 32) r) k []

-- a text, and behind it the k-th word of a record
unfoldable pub worded : (text : List ℕ) → List ℕ → ℕ → List ℕ
worded text r k = text ++ word_at r k

-- `cell P K V`
abbrev pub cell_said : List ℕ → List ℕ
cell_said r =
    worded (codes "cell ") r 2 ++ worded (codes " of process ") r 1 ++ worded (codes " is ") r 3

-- `nice P V`
abbrev pub nice_said : List ℕ → List ℕ
nice_said r = worded (codes "the nice of process ") r 1 ++ worded (codes " is ") r 2

-- `window P FD V`
abbrev pub window_said : List ℕ → List ℕ
window_said r =
    worded (codes "the window of descriptor ") r 2 ++ worded (codes " of process ") r 1
    ++ worded (codes " is ") r 3

-- `mark F V`
abbrev pub mark_said : List ℕ → List ℕ
mark_said r = worded (codes "the mark of frame ") r 1 ++ worded (codes " is ") r 2

-- `tune KIND K V`
abbrev pub tune_said : List ℕ → List ℕ
tune_said r =
    worded (codes "parameter ") r 2 ++ worded (codes " of the policy of kind ") r 1
    ++ worded (codes " is ") r 3

-- a record in words, by its first word; another record as it is
abbrev pub said : List ℕ → List ℕ
said r =
    cond (same_bytes (word_at r 0) (codes "cell")) (cell_said r)
    (cond (same_bytes (word_at r 0) (codes "nice")) (nice_said r)
    (cond (same_bytes (word_at r 0) (codes "window")) (window_said r)
    (cond (same_bytes (word_at r 0) (codes "mark")) (mark_said r)
    (cond (same_bytes (word_at r 0) (codes "tune")) (tune_said r) r))))
