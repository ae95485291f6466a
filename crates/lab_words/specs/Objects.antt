-- Objects in words.
use Rattle.std.specs.Prelude.{ℕ, ◌==◌, cond, List, [], ◌++◌, codes, slice_index_or}
use Rattle.std.specs.List.{slice_split}
use Rattle.script_model.specs.World.{same_bytes}
use Rattle.lab_words.specs.Forms.{before_parenthesis}

-- the k-th part of a text between separators, from 0; nothing past their end
abbrev pub part_at : List ℕ → (separator k : ℕ) → List ℕ
part_at text separator k = slice_index_or (slice_split (λ b. b == separator) text) k []

-- the numbers of an object: `1,0` of `Cell(1,0)`
unfoldable pub numbers_of : List ℕ → List ℕ
numbers_of object = part_at (part_at object 40 1) 41 0

-- an object by its number
unfoldable pub single_said : (name object : List ℕ) → List ℕ
single_said name object = name ++ numbers_of object

-- a text, and behind it the k-th number of an object, from 0
unfoldable pub numbered : (text object : List ℕ) → (k : ℕ) → List ℕ
numbered text object k = text ++ part_at (numbers_of object) 44 k

-- an object by its second number, and by the process that its first number is
abbrev pub owned_said : (name object : List ℕ) → List ℕ
owned_said name object = numbered name object 1 ++ numbered (codes " of process ") object 0

-- an object of this kind
abbrev pub kind_said : (kind object : List ℕ) → List ℕ
kind_said kind object =
    cond (same_bytes kind (codes "Graft")) (owned_said (codes "point ") object)
    (cond (same_bytes kind (codes "Acct")) (single_said (codes "the account of process ") object)
    (cond (same_bytes kind (codes "Cell")) (owned_said (codes "cell ") object)
    (cond (same_bytes kind (codes "Open")) (owned_said (codes "descriptor ") object)
    (cond (same_bytes kind (codes "Queue")) (codes "the queue")
    (cond (same_bytes kind (codes "Cache")) (codes "the cache")
    (cond (same_bytes kind (codes "Lock")) (single_said (codes "user lock ") object)
    (cond (same_bytes kind (codes "Pol")) (single_said (codes "the policy of kind ") object)
    kind)))))))

-- an object in words, by its kind, which stands before the `(`; another word as its kind
abbrev pub object_said : List ℕ → List ℕ
object_said object = kind_said (before_parenthesis object) object
