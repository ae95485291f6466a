-- Raw images and their bytes, both ways.
use Rattle.std.proofs.Common.{◌≡◌, ℕ, zero, suc, ◌+◌, ◌*◌, ◌^◌, ◌<◌, ◌≤◌, Bool, true, false, ◌&&◌}
use Rattle.std.proofs.Common.{List, [], ◌∷◌, ◌++◌, length, take, drop, get_or, codes, Result, Ok}
use Rattle.std.proofs.Common.{Err, refl, sym, ap, ◌∙◌, arith, length-append, length-drop}
use Rattle.std.proofs.Common.{length-take, get_or-drop, eqb, ltb, lit<}
use Rattle.std.proofs.Math.Seq.{take-append_seam, drop-append_seam}
use Rattle.std.proofs.lemmas.List.{take-append-drop}
use Rattle.std.specs.List.{list_all}
use Rattle.std.proofs.lemmas.Bool.{eqb-true}
use Rattle.std.proofs.lemmas.Bool.Decides.{nat_tests}
use Rattle.std.proofs.lemmas.Slice.Eq.{bytes_eq-Decides}
use Rattle.std.proofs.lemmas.Nat.{from_le_bytes-to_le_bytes_4, le_bytes_4}
use Rattle.graft_code.specs.declared.Instr.{Instr}
use Rattle.graft_code.specs.declared.IsaFault.{IsaFault}
use Rattle.graft_code.specs.Bytes.{word_bytes, word_at}
use Rattle.graft_code.specs.World.{Image, plain_image, same_bytes}
use Rattle.graft_code.specs.Instructions.{encode, decode, fits}
use Rattle.graft_code.specs.Images.{IsRawImage, LoadFault, Length, Magic, TooLarge, with_first}
use Rattle.graft_code.specs.Images.{decoded, image_with, parts_of, is_too_large, code_bytes}
use Rattle.graft_code.specs.Images.{raw_image, read_raw}
use Rattle.gm_isa.specs.Laws.{DecodeUndoesEncode, EncodeUndoesDecode}
use Rattle.gm_image.proofs.Reading.{read_raw-parts}

-- ---- written, then read

-- code has eight bytes for each instruction
pub length-code_bytes : (code : List Instr) → length (code_bytes code) ≡ 8 * length code
length-code_bytes [] = refl
length-code_bytes (i ∷ is) = omega (arith, length-code_bytes is)

-- the first of two tests
pub first_true : (a b : Bool) → (a && b) ≡ true → a ≡ true
first_true true b h = refl
first_true false b h = cc

-- the second of two tests
pub second_true : (a b : Bool) → (a && b) ≡ true → b ≡ true
second_true true b h = h
second_true false b h = cc

-- two tests that pass, as one
pub both_true : (a b : Bool) → a ≡ true → b ≡ true → (a && b) ≡ true
both_true true b h g = g
both_true false b h g = cc

-- the bytes of code that fits decode to it
decoded-code_bytes : DecodeUndoesEncode → (code : List Instr) (pc : ℕ) → list_all fits code ≡ true
    → decoded (length code) pc (code_bytes code) ≡ Ok code
decoded-code_bytes law [] pc h = refl
decoded-code_bytes law (i ∷ is) pc h =
    rw (law i (first_true (fits i) (list_all fits is) h))
    (rw (decoded-code_bytes law is (suc pc) (second_true (fits i) (list_all fits is) h)) refl)

-- the word that stands in bytes
pub word_is : (n : ℕ) → n < 2 ^ 32 → n ≡ word_at (word_bytes n) 0
word_is n h = omega (arith, from_le_bytes-to_le_bytes_4 n h)

-- code and data behind each other are the parts of an image
parts_of-code_bytes : DecodeUndoesEncode → (code : List Instr) (body : List ℕ) → list_all fits code ≡ true
    → parts_of (length code) (code_bytes code ++ body) ≡ Ok (plain_image code body)
parts_of-code_bytes law code body h =
    let taken : take (8 * length code) (code_bytes code ++ body) ≡ code_bytes code =
    rw (← length-code_bytes code) (take-append_seam (code_bytes code) body) in
    let dropped : drop (8 * length code) (code_bytes code ++ body) ≡ body =
    rw (← length-code_bytes code) (drop-append_seam (code_bytes code) body) in
    rw taken (rw dropped (rw (decoded-code_bytes law code 0 h) refl))

-- the bytes of an image read back as the image
pub read-write : DecodeUndoesEncode → (i : Image) → IsRawImage i →
    read_raw (raw_image i.code i.body) ≡ Ok (plain_image i.code i.body)
read-write law i h =
    let size : length (code_bytes i.code ++ i.body) ≡ 8 * length i.code + length i.body =
    omega (arith, length-append (code_bytes i.code) i.body, length-code_bytes i.code) in
    read_raw-parts (raw_image i.code i.body) (codes "VGR0") (length i.code) (length i.body) (omega arith) refl refl
    (word_is (length i.code) (omega (arith, h.code_len))) (word_is (length i.body)
    (omega (arith, h.body_len))) h.code_len h.body_len (omega (arith, size))
    ∙ parts_of-code_bytes law i.code i.body h.code_fits

-- ---- read, then written

-- the bytes of the word of four bytes are these
word_bytes-word_at : (a b c d : ℕ) → a < 256 → b < 256 → c < 256 → d < 256
    → word_bytes (word_at (a ∷ b ∷ c ∷ d ∷ []) 0) ≡ a ∷ b ∷ c ∷ d ∷ []
word_bytes-word_at a b c d ha hb hc hd =
    le_bytes_4 (a ∷ b ∷ c ∷ d ∷ []) (word_at (a ∷ b ∷ c ∷ d ∷ []) 0) refl small (omega arith)
  where
    small : (i : ℕ) → get_or (a ∷ b ∷ c ∷ d ∷ []) i 0 < 256
    small zero = ha
    small (suc zero) = hb
    small (suc (suc zero)) = hc
    small (suc (suc (suc zero))) = hd
    small (suc (suc (suc (suc i)))) = lit< tt

-- twelve bytes and more are a magic, two words, and what is behind them
head_and_rest : (bytes : List ℕ) → 12 ≤ length bytes → ((k : ℕ) → get_or bytes k 0 < 256)
    → take 4 bytes ++ word_bytes (word_at bytes 4) ++ word_bytes (word_at bytes 8) ++ drop 12 bytes ≡ bytes
head_and_rest [] h g = absurd (omega (arith, h))
head_and_rest (x0 ∷ []) h g = absurd (omega (arith, h))
head_and_rest (x0 ∷ x1 ∷ []) h g = absurd (omega (arith, h))
head_and_rest (x0 ∷ x1 ∷ x2 ∷ []) h g = absurd (omega (arith, h))
head_and_rest (x0 ∷ x1 ∷ x2 ∷ x3 ∷ []) h g = absurd (omega (arith, h))
head_and_rest (x0 ∷ x1 ∷ x2 ∷ x3 ∷ x4 ∷ []) h g = absurd (omega (arith, h))
head_and_rest (x0 ∷ x1 ∷ x2 ∷ x3 ∷ x4 ∷ x5 ∷ []) h g = absurd (omega (arith, h))
head_and_rest (x0 ∷ x1 ∷ x2 ∷ x3 ∷ x4 ∷ x5 ∷ x6 ∷ []) h g = absurd (omega (arith, h))
head_and_rest (x0 ∷ x1 ∷ x2 ∷ x3 ∷ x4 ∷ x5 ∷ x6 ∷ x7 ∷ []) h g = absurd (omega (arith, h))
head_and_rest (x0 ∷ x1 ∷ x2 ∷ x3 ∷ x4 ∷ x5 ∷ x6 ∷ x7 ∷ x8 ∷ []) h g = absurd (omega (arith, h))
head_and_rest (x0 ∷ x1 ∷ x2 ∷ x3 ∷ x4 ∷ x5 ∷ x6 ∷ x7 ∷ x8 ∷ x9 ∷ []) h g = absurd (omega (arith, h))
head_and_rest (x0 ∷ x1 ∷ x2 ∷ x3 ∷ x4 ∷ x5 ∷ x6 ∷ x7 ∷ x8 ∷ x9 ∷ x10 ∷ []) h g = absurd (omega (arith, h))
head_and_rest (x0 ∷ x1 ∷ x2 ∷ x3 ∷ x4 ∷ x5 ∷ x6 ∷ x7 ∷ x8 ∷ x9 ∷ x10 ∷ x11 ∷ rest) h g =
    let n : word_bytes (word_at (x4 ∷ x5 ∷ x6 ∷ x7 ∷ []) 0) ≡ x4 ∷ x5 ∷ x6 ∷ x7 ∷ [] =
    word_bytes-word_at x4 x5 x6 x7 (g 4) (g 5) (g 6) (g 7) in
    let d : word_bytes (word_at (x8 ∷ x9 ∷ x10 ∷ x11 ∷ []) 0) ≡ x8 ∷ x9 ∷ x10 ∷ x11 ∷ [] =
    word_bytes-word_at x8 x9 x10 x11 (g 8) (g 9) (g 10) (g 11) in
    ap (λ (xs : List ℕ). (x0 ∷ x1 ∷ x2 ∷ x3 ∷ xs) ++ word_bytes (word_at (x8 ∷ x9 ∷ x10 ∷ x11 ∷ []) 0) ++ rest) n
    ∙ ap (λ (xs : List ℕ). x0 ∷ x1 ∷ x2 ∷ x3 ∷ x4 ∷ x5 ∷ x6 ∷ x7 ∷ xs ++ rest) d

-- the front of bytes is bytes
small_take : (n : ℕ) (xs : List ℕ) → ((k : ℕ) → get_or xs k 0 < 256) → (k : ℕ) → get_or (take n xs) k 0 < 256
small_take zero xs g k = lit< tt
small_take (suc n) [] g k = lit< tt
small_take (suc n) (x ∷ xs) g zero = g 0
small_take (suc n) (x ∷ xs) g (suc k) = small_take n xs (λ j. g (suc j)) k

-- what is behind some bytes is bytes
small_drop : (n : ℕ) (xs : List ℕ) → ((k : ℕ) → get_or xs k 0 < 256) → (k : ℕ) → get_or (drop n xs) k 0 < 256
small_drop n xs g k = rw (get_or-drop n xs k 0) (g (n + k))

-- a list of no length is empty
is_nil : (xs : List ℕ) → length xs ≡ 0 → [] ≡ xs
is_nil [] h = refl
is_nil (x ∷ xs) h = absurd (omega (arith, h))

-- code and the bytes that it was read from
record Wrote (n : ℕ) (bytes : List ℕ) (code : List Instr) : Type 0 where
  bytes_are : code_bytes code ≡ bytes
  count : length code ≡ n

-- one more word
wrote_first : EncodeUndoesDecode → (n pc : ℕ) (bytes : List ℕ) (code : List Instr) →
    8 ≤ length bytes → ((k : ℕ) → get_or bytes k 0 < 256)
    → (first : Result Instr IsaFault) (rest : Result (List Instr) LoadFault) → decode (take 8 bytes) ≡ first
    → ((is : List Instr) → rest ≡ Ok is → Wrote n (drop 8 bytes) is) →
    with_first first pc rest ≡ Ok code → Wrote (suc n) bytes code
wrote_first law n pc bytes code room g (Err fault) rest d later h = cc
wrote_first law n pc bytes code room g (Ok i) (Err fault) d later h = cc
wrote_first law n pc bytes code room g (Ok i) (Ok is) d later h =
    let same : i ∷ is ≡ code = cc in
    let word : encode i ≡ take 8 bytes =
    law (take 8 bytes) i (omega (arith, length-take 8 bytes, room)) (small_take 8 bytes g) d in
    let behind = later is refl in
    record {
      bytes_are =
          ap code_bytes (sym same) ∙ ap (λ (xs : List ℕ). xs ++ code_bytes is) word
          ∙ ap (λ (xs : List ℕ). take 8 bytes ++ xs) behind.bytes_are
          ∙ take-append-drop 8 bytes;
      count = ap length (sym same) ∙ ap suc behind.count;
    }

-- the bytes of the instructions that words decode to are the words
wrote : EncodeUndoesDecode → (n pc : ℕ) (bytes : List ℕ) (code : List Instr) → length bytes ≡ 8 * n
    → ((k : ℕ) → get_or bytes k 0 < 256) → decoded n pc bytes ≡ Ok code → Wrote n bytes code
wrote law zero pc bytes code e g d =
    let same : [] ≡ code = cc in
    record { bytes_are = ap code_bytes (sym same) ∙ is_nil bytes (omega (arith, e)); count = ap length (sym same) }
wrote law (suc n) pc bytes code e g d =
    wrote_first law n pc bytes code (omega (arith, e)) g (decode (take 8 bytes))
    (decoded n (suc pc) (drop 8 bytes)) refl
    (λ is h. wrote law n (suc pc) (drop 8 bytes) is (omega (arith, e, length-drop 8 bytes)) (small_drop 8 bytes g) h) d

-- the tests that bytes of an image passed
record Passed (short same large sized : Bool) (parts : Result Image LoadFault) (i : Image) : Type 0 where
  not_short : short ≡ false
  magic : same ≡ true
  small : large ≡ false
  whole : sized ≡ true
  said : parts ≡ Ok i

-- an answer of the tests that is an image
passed : (short same large sized : Bool) (parts : Result Image LoadFault) (i : Image)
    → (elim short as (λ b. Result Image LoadFault) [
      | true ↦ Err Length
      | false ↦ elim same as (λ b. Result Image LoadFault) [
        | false ↦ Err Magic
        | true ↦ elim large as (λ b. Result Image LoadFault) [
          | true ↦ Err TooLarge
          | false ↦ elim sized as (λ b. Result Image LoadFault) [ false ↦ Err Length | true ↦ parts ]
        ]
      ]
    ]) ≡ Ok i
    → Passed short same large sized parts i
passed true same large sized parts i h = cc
passed false false large sized parts i h = cc
passed false true true sized parts i h = cc
passed false true false false parts i h = cc
passed false true false true parts i h = record { not_short = refl; magic = refl; small = refl; whole = refl; said = h }

-- the code of an image, if it is one
abbrev code_of : Result Image LoadFault → List Instr
code_of (Err fault) = []
code_of (Ok i) = i.code

-- the data of an image, if it is one
abbrev body_of : Result Image LoadFault → List ℕ
body_of (Err fault) = []
body_of (Ok i) = i.body

-- the code and the data of an image that is read
with_parts : EncodeUndoesDecode →
    (n d : ℕ) (rest : List ℕ) (i : Image) (code : Result (List Instr) LoadFault) →
    length rest ≡ 8 * n + d
    → ((k : ℕ) → get_or rest k 0 < 256) → decoded n 0 (take (8 * n) rest) ≡ code →
    image_with false (drop (8 * n) rest) code ≡ Ok i
    → (code_bytes i.code ++ i.body ≡ rest) × (length i.code ≡ n) × (length i.body ≡ d)
with_parts law n d rest i (Err fault) e g c h = cc
with_parts law n d rest i (Ok code) e g c h =
    let code_is : code ≡ i.code = ap code_of h in
    let body_is : drop (8 * n) rest ≡ i.body = ap body_of h in
    let w = wrote law n 0 (take (8 * n) rest) code
    (omega (arith, length-take (8 * n) rest, e)) (small_take (8 * n) rest g) c in (
      ap (λ (xs : List Instr). code_bytes xs ++ i.body) (sym code_is) ∙ ap (λ (xs : List ℕ). xs ++ i.body) w.bytes_are
          ∙ ap (λ (xs : List ℕ). take (8 * n) rest ++ xs) (sym body_is) ∙ take-append-drop (8 * n) rest,
      ap length (sym code_is) ∙ w.count,
      omega (arith, ap length body_is, length-drop (8 * n) rest, e),
    )

-- the bytes of the image that bytes read as are these
pub write-read : EncodeUndoesDecode → (bytes : List ℕ) (i : Image) →
    ((k : ℕ) → get_or bytes k 0 < 256) → read_raw bytes ≡ Ok i
    → raw_image i.code i.body ≡ bytes
write-read law bytes i g h =
    let p = passed (ltb (length bytes) 12) (same_bytes (take 4 bytes) (codes "VGR0"))
    (is_too_large (word_at bytes 4) (word_at bytes 8))
    (eqb (length bytes) (12 + 8 * word_at bytes 4 + word_at bytes 8))
    (parts_of (word_at bytes 4) (drop 12 bytes)) i h in
    let room : 12 ≤ length bytes = grind (arith, nat_tests, p.not_short) in
    let sized : length bytes ≡ 12 + 8 * word_at bytes 4 + word_at bytes 8 = eqb-true _ _ p.whole in
    let magic : take 4 bytes ≡ codes "VGR0" = (bytes_eq-Decides (take 4 bytes) (codes "VGR0")).0 p.magic in
    let parts = with_parts law (word_at bytes 4) (word_at bytes 8) (drop 12 bytes) i
    (decoded (word_at bytes 4) 0 (take (8 * word_at bytes 4) (drop 12 bytes)))
    (omega (arith, length-drop 12 bytes, sized)) (small_drop 12 bytes g) refl p.said in
    rw (parts.1, parts.2)
    (ap (λ (xs : List ℕ). codes "VGR0" ++ word_bytes (word_at bytes 4) ++ word_bytes (word_at bytes 8) ++ xs) parts.0
    ∙ ap (λ (xs : List ℕ). xs ++ word_bytes (word_at bytes 4) ++ word_bytes (word_at bytes 8)
    ++ drop 12 bytes) (sym magic)
    ∙ head_and_rest bytes room g)
