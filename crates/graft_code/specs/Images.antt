-- Raw and sealed images, the keys, the seal, and how the loader reads bytes.
use Rattle.std.specs.Prelude.{◌≡◌, ◌≤◌, ℕ, zero, suc, ◌+◌, ◌-◌, ◌*◌, ◌==◌, cond, Bool, true, false}
use Rattle.std.specs.Prelude.{◌||◌, nat_le, nat_lt, List, [], ◌∷◌, ◌++◌, length, take, drop, map}
use Rattle.std.specs.Prelude.{replicate, flat_map, bit_xor, codes, Option, None, Some, Result, Ok}
use Rattle.std.specs.Prelude.{Err}
use Rattle.std.specs.List.{list_all}
use Rattle.sha2.specs.Sha256.{sha256}
use Rattle.kernel_data.specs.declared.Instr.{Instr}
use Rattle.graft_code.specs.declared.Keys.{Keys}
use Rattle.kernel_data.specs.Bytes.{word_at, word_bytes}
use Rattle.kernel_data.specs.World.{Image, same_bytes}
use Rattle.graft_code.specs.declared.IsaFault.{IsaFault}
use Rattle.graft_code.specs.Instructions.{encode, decode, fits}
use Rattle.graft_code.specs.Boxed.{BoxFault, box_fault}

-- the key, padded with zeros to 64 bytes, each of which is xored with this byte
abbrev pub padded_key : ℕ → List ℕ → List ℕ
padded_key with_byte key = map (λ b. bit_xor b with_byte) (key ++ replicate (64 - length key) 0)

-- HMAC of a text under a key of at most 64 bytes is SHA-256 of two parts: first the padded key
-- xored with 0x5c bytes, and then the SHA-256 of the padded key xored with 0x36 bytes followed by
-- the text.
abbrev pub hmac : List ℕ → List ℕ → List ℕ
hmac key text = sha256 (padded_key 0x5c key ++ sha256 (padded_key 0x36 key ++ text))

-- the bytes of code
abbrev pub code_bytes : List Instr → List ℕ
code_bytes code = flat_map encode code

-- the bytes of a raw image
abbrev pub raw_image : List Instr → List ℕ → List ℕ
raw_image code body = codes "VGR0" ++ word_bytes (length code) ++ word_bytes (length body)
    ++ code_bytes code ++ body

-- the key with this number, if there is one
abbrev pub key_of : Keys → ℕ → Option (List ℕ)
key_of keys number = cond (number == 0) (Some keys.first) (cond (number == 1) keys.second None)

-- the number of the last key, and the key
abbrev pub last_key : Keys → ℕ × List ℕ
last_key keys = elim keys.second [ None ↦ (0, keys.first) | Some key ↦ (1, key) ]

-- the bytes before the code in a sealed image of version 1
abbrev pub first_head : List Instr → List ℕ → List ℕ
first_head code body = codes "VGR1" ++ word_bytes 1 ++ word_bytes (length code)
    ++ word_bytes (length body)

-- the bytes before the code in a sealed image of version 2, which also has flags and the number of
-- the key
abbrev pub second_head : (number flags : ℕ) → List Instr → List ℕ → List ℕ
second_head number flags code body =
    codes "VGR1" ++ word_bytes 2 ++ word_bytes (length code) ++ word_bytes (length body)
    ++ word_bytes flags ++ word_bytes number

-- bytes with their seal after them
abbrev pub with_seal : List ℕ → List ℕ → List ℕ
with_seal key text = text ++ hmac key text

-- the bytes that the seal of version 2 covers
abbrev pub sealed_text : (number flags : ℕ) → List Instr → List ℕ → List ℕ
sealed_text number flags code body = second_head number flags code body ++ code_bytes code ++ body

-- the bytes of a sealed image of version 1, which is still read but no longer written
abbrev pub first_sealed_image : List ℕ → List Instr → List ℕ → List ℕ
first_sealed_image key code body = with_seal key (first_head code body ++ code_bytes code ++ body)

-- the bytes of a sealed image
abbrev pub sealed_image : (key : List ℕ) → (number flags : ℕ) → List Instr → List ℕ → List ℕ
sealed_image key number flags code body = with_seal key (sealed_text number flags code body)

-- the flags of an image: 1 if it keeps the segments of its grafts, otherwise 0
abbrev pub flags_with : (keep : Bool) → ℕ
flags_with keep = cond keep 1 0

-- the bytes of an image sealed under the last key, with its flags
abbrev pub sealed_under : Keys → Image → List ℕ
sealed_under keys i =
    let last = last_key keys in sealed_image last.1 last.0 (flags_with i.keep) i.code i.body

-- what an image may have: at most 1,024 instructions, whose fields fit, and at most 4,096 data
-- bytes
pub record IsRawImage (i : Image) : Type 0 where
  pub code_len : length i.code ≤ 1024
  pub body_len : length i.body ≤ 4096
  pub code_fits : list_all fits i.code ≡ true

-- why bytes aren't an image that can be used
pub data LoadFault : Type 0 where
  Length : LoadFault
  Magic : LoadFault
  Version : LoadFault
  TooLarge : LoadFault
  BadFlags : LoadFault
  NoKey : LoadFault
  Seal : LoadFault
  BadOp : (pc : ℕ) → LoadFault
  Register : (pc : ℕ) → LoadFault
  Jump : (pc : ℕ) → LoadFault
  Memory : (pc : ℕ) → LoadFault
  DirectCall : (pc : ℕ) → LoadFault
  End : LoadFault

-- a fault of boxed code as a fault of an image
abbrev pub of_box : BoxFault → LoadFault
of_box (BoxFault.Register pc) = Register pc
of_box (BoxFault.Jump pc) = Jump pc
of_box (BoxFault.Memory pc) = Memory pc
of_box (BoxFault.DirectCall pc) = DirectCall pc
of_box BoxFault.End = End

-- an instruction in front of the others, or the first refusal
abbrev pub with_first : Result Instr IsaFault → ℕ → Result (List Instr) LoadFault →
    Result (List Instr) LoadFault
with_first (Err fault) pc rest = Err (BadOp pc)
with_first (Ok i) pc (Err fault) = Err fault
with_first (Ok i) pc (Ok is) = Ok (i ∷ is)

-- n instructions, of which the first has this number, or the first refusal
abbrev pub decoded : ℕ → ℕ → List ℕ → Result (List Instr) LoadFault
decoded zero pc bytes = Ok []
decoded (suc n) pc bytes = with_first (decode (take 8 bytes)) pc (decoded n (suc pc) (drop 8 bytes))

-- an image of this code and data, or the refusal
abbrev pub image_with : (keep : Bool) → List ℕ → Result (List Instr) LoadFault →
    Result Image LoadFault
image_with keep body (Err fault) = Err fault
image_with keep body (Ok code) = Ok (record { code = code; body = body; keep = keep })

-- the image of n instructions and the data after them; a raw image keeps nothing
abbrev pub parts_of : ℕ → List ℕ → Result Image LoadFault
parts_of n bytes = image_with false (drop (8 * n) bytes) (decoded n 0 (take (8 * n) bytes))

-- n instructions or d data bytes are more than an image may have
abbrev pub is_too_large : ℕ → ℕ → Bool
is_too_large n d = nat_lt 1024 n || nat_lt 4096 d

-- Reading the bytes of a raw image gives the image, or the first refusal: fewer than 12 bytes,
-- magic, sizes, length, the first instruction that doesn't decode.
abbrev pub read_raw : List ℕ → Result Image LoadFault
read_raw bytes =
    let n = word_at bytes 4 in
    let d = word_at bytes 8 in
    elim (nat_lt (length bytes) 12) [
      | true ↦ Err Length
      | false ↦ elim (same_bytes (take 4 bytes) (codes "VGR0")) [
        | false ↦ Err Magic
        | true ↦ elim (is_too_large n d) [
          | true ↦ Err TooLarge
          | false ↦ elim (length bytes == 12 + 8 * n + d) [
            | false ↦ Err Length
            | true ↦ parts_of n (drop 12 bytes)
          ]
        ]
      ]
    ]

-- an image, or the refusal if its code isn't boxed
abbrev pub boxed_image : Image → Option BoxFault → Result Image LoadFault
boxed_image i None = Ok i
boxed_image i (Some fault) = Err (of_box fault)

-- an image whose code is boxed, or the first refusal
abbrev pub verified : Result Image LoadFault → Result Image LoadFault
verified (Err fault) = Err fault
verified (Ok i) = boxed_image i (box_fault i.code)

-- ---- reading sealed images

-- a version that can be read
abbrev pub is_version : ℕ → Bool
is_version version = version == 1 || version == 2

-- how many bytes come before the code in this version
abbrev pub head_length : (version : ℕ) → ℕ
head_length version = cond (version == 2) 24 16

-- how many bytes come before the code of a sealed image
abbrev pub head_of : List ℕ → ℕ
head_of bytes = head_length (word_at bytes 4)

-- the flags of a sealed image: version 1 has none
abbrev pub flags_of : List ℕ → ℕ
flags_of bytes = cond (word_at bytes 4 == 2) (word_at bytes 16) 0

-- a sealed image says that its grafts keep their segments
abbrev pub keep_of : List ℕ → Bool
keep_of bytes = flags_of bytes == 1

-- the number of the key of a sealed image: version 1 has the first key
abbrev pub number_of : List ℕ → ℕ
number_of bytes = cond (word_at bytes 4 == 2) (word_at bytes 20) 0

-- what is wrong with the sizes of an image that has this many bytes before its code
abbrev pub size_fault : (head : ℕ) → List ℕ → Option LoadFault
size_fault head bytes =
    let n = word_at bytes 8 in
    let d = word_at bytes 12 in
    elim (nat_lt (length bytes) (head + 32)) [
      | true ↦ Some Length
      | false ↦ elim (is_too_large n d) [
        | true ↦ Some TooLarge
        | false ↦ elim (length bytes == head + 32 + 8 * n + d) [ false ↦ Some Length | true ↦ None ]
      ]
    ]

-- what is wrong with sealed bytes before their flags, their key and their seal are checked
abbrev pub head_fault : List ℕ → Option LoadFault
head_fault bytes =
    elim (nat_lt (length bytes) 48) [
      | true ↦ Some Length
      | false ↦ elim (same_bytes (take 4 bytes) (codes "VGR1")) [
        | false ↦ Some Magic
        | true ↦ elim (is_version (word_at bytes 4)) [
          | false ↦ Some Version
          | true ↦ size_fault (head_of bytes) bytes
        ]
      ]
    ]

-- the image of n instructions after a head of this many bytes, if the seal is right
abbrev pub unsealed : (keep : Bool) → (head n : ℕ) → List ℕ → Result Image LoadFault
unsealed keep head n text =
    verified (image_with keep (drop (head + 8 * n) text) (decoded n 0 (drop head text)))

-- the image of sealed bytes whose head is right, under this key
abbrev pub load_by_seal : List ℕ → List ℕ → Result Image LoadFault
load_by_seal key bytes =
    let text = take (length bytes - 32) bytes in
    elim (same_bytes (hmac key text) (drop (length bytes - 32) bytes)) [
      | false ↦ Err Seal
      | true ↦ unsealed (keep_of bytes) (head_of bytes) (word_at bytes 8) text
    ]

-- the same, if the key exists
abbrev pub load_by_key : Option (List ℕ) → List ℕ → Result Image LoadFault
load_by_key None bytes = Err NoKey
load_by_key (Some key) bytes = load_by_seal key bytes

-- the image of sealed bytes, or the refusal of their head
abbrev pub load_by_head : Keys → List ℕ → Option LoadFault → Result Image LoadFault
load_by_head keys bytes (Some fault) = Err fault
load_by_head keys bytes None =
    elim (nat_le (flags_of bytes) 1) [
      | false ↦ Err BadFlags
      | true ↦ load_by_key (key_of keys (number_of bytes)) bytes
    ]

-- Loading bytes under keys gives an image, or the first refusal: length, magic, version, sizes,
-- length again, flags, key, seal, the first instruction that doesn't decode, and then the first
-- fault of boxed code.
abbrev pub load : Keys → List ℕ → Result Image LoadFault
load keys bytes = load_by_head keys bytes (head_fault bytes)

-- the bytes of a loaded image, sealed again, or why it wasn't loaded
abbrev pub resealed : Keys → Result Image LoadFault → Result (List ℕ) LoadFault
resealed keys (Err fault) = Err fault
resealed keys (Ok i) = Ok (sealed_under keys i)

-- the bytes of a sealed image, sealed again as version 2 under the last key, or why they don't load
abbrev pub reseal : Keys → List ℕ → Result (List ℕ) LoadFault
reseal keys bytes = resealed keys (load keys bytes)
