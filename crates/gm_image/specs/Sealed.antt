-- The parts of a sealed image, and what is said of bytes before flags, key and seal are looked at.
use Rattle.std.specs.Prelude.{◌≡◌, ◌≤◌, ℕ, zero, suc, ◌+◌, ◌-◌, ◌*◌, List, [], ◌∷◌, length, take}
use Rattle.std.specs.Prelude.{drop, Option, None, Some, Result, Ok, Err}
use Rattle.graft_code.specs.Bytes.{word_at}
use Rattle.graft_code.specs.Images.{LoadFault, head_of, flags_of, number_of, head_fault}

-- What a sealed image says: its version, its flags and the number of its key, eight bytes for each
-- instruction, the data bytes, and the seal. Version 1 has no flags, and its key is number 0.
pub record Parts : Type 0 where
  pub version : ℕ
  pub flags : ℕ
  pub number : ℕ
  pub words : List (List ℕ)
  pub body : List ℕ
  pub seal : List ℕ

-- no more words and data bytes than an image may have
pub record AreFew (p : Parts) : Type 0 where
  pub words_len : length p.words ≤ 1024
  pub body_len : length p.body ≤ 4096

-- the first n words of bytes
abbrev pub words_of : ℕ → List ℕ → List (List ℕ)
words_of zero bytes = []
words_of (suc n) bytes = take 8 bytes ∷ words_of n (drop 8 bytes)

-- what a seal is over: all bytes but the last 32
abbrev pub sealed_part : List ℕ → List ℕ
sealed_part bytes = take (length bytes - 32) bytes

-- the parts of sealed bytes whose head is right
abbrev pub parts_of : List ℕ → Parts
parts_of bytes = record {
  version = word_at bytes 4;
  flags = flags_of bytes;
  number = number_of bytes;
  words = words_of (word_at bytes 8) (drop (head_of bytes) (sealed_part bytes));
  body = drop (head_of bytes + 8 * word_at bytes 8) (sealed_part bytes);
  seal = drop (length bytes - 32) bytes;
}

-- the parts of bytes, unless something is wrong with their head
abbrev pub parts_unless : List ℕ → Option LoadFault → Result Parts LoadFault
parts_unless bytes (Some fault) = Err fault
parts_unless bytes None = Ok (parts_of bytes)

-- the parts of the bytes of a sealed image, or the first refusal of their head and length
abbrev pub read_sealed : List ℕ → Result Parts LoadFault
read_sealed bytes = parts_unless bytes (head_fault bytes)

-- sizes within the limits, and as many bytes as they say
pub record IsWhole (bytes : List ℕ) : Type 0 where
  pub few : word_at bytes 8 ≤ 1024
  pub small : word_at bytes 12 ≤ 4096
  pub sized : length bytes ≡ head_of bytes + 32 + 8 * word_at bytes 8 + word_at bytes 12
