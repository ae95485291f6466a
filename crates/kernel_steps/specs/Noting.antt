-- Notes kept as small rows and the bytes beside them.
use Rattle.std.specs.Prelude.{◌≡◌, ℕ, ◌≤◌, ◌*◌, List, [], ◌∷◌, length, drop}
use Rattle.kernel_model.specs.declared.BareNote.{BareNote}
use Rattle.kernel_model.specs.Bare.{given_count}

-- there are the bytes that the notes gave, at most a block for each, and no more
abbrev pub AreGiven : List BareNote → (bytes : List ℕ) → Type 0
AreGiven [] bytes = bytes ≡ []
AreGiven (note ∷ notes) bytes =
    (given_count note ≤ 512) × (given_count note ≤ length bytes)
    × AreGiven notes (drop (given_count note) bytes)

-- The bytes are those of the notes, and there is room for those of one event, and no more.
pub record NotesFit (list : List BareNote) (bytes : List ℕ) (list_room bytes_room : ℕ) :
    Type 0 where
  pub rows : list_room ≡ 530
  pub few : length list ≤ 530
  pub room : bytes_room ≡ 271360
  pub few_bytes : length bytes ≤ 512 * length list
  pub given : AreGiven list bytes
