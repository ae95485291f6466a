-- What is sealed loads.
use Rattle.std.proofs.Common.{◌≡◌, ℕ, suc, ◌+◌, ◌-◌, ◌*◌, ◌≤◌, ◌==◌, Bool, true, false, cond}
use Rattle.std.proofs.Common.{nat_le, List, [], ◌∷◌, ◌++◌, length, take, drop, Option, None, Some}
use Rattle.std.proofs.Common.{Result, Ok, Err, refl, sym, ap, ◌∙◌, append_assoc, arith}
use Rattle.std.proofs.Common.{length-append}
use Rattle.std.proofs.Math.Seq.{take-append_seam, drop-append_seam}
use Rattle.std.proofs.lemmas.List.{drop-drop}
use Rattle.std.specs.List.{list_all}
use Rattle.std.proofs.lemmas.Bool.{eq-eqb, eqb-true}
use Rattle.std.proofs.lemmas.Slice.Eq.{bytes_eq-Decides}
use Rattle.sha2.proofs.Facts256.{length-sha256}
use Rattle.graft_code.specs.declared.Instr.{Instr}
use Rattle.graft_code.specs.declared.Keys.{Keys}
use Rattle.graft_code.specs.Bytes.{word_at}
use Rattle.graft_code.specs.World.{Image, plain_image, same_bytes}
use Rattle.graft_code.specs.Instructions.{fits}
use Rattle.graft_code.specs.Images.{LoadFault, BadFlags, hmac, with_seal, code_bytes, first_head}
use Rattle.graft_code.specs.Images.{second_head, first_sealed_image, sealed_image, flags_with}
use Rattle.graft_code.specs.Images.{key_of, head_of, flags_of, keep_of, number_of, size_fault}
use Rattle.graft_code.specs.Images.{head_fault, decoded, image_with, verified, boxed_image}
use Rattle.graft_code.specs.Images.{unsealed, load_by_seal, load_by_key, load_by_head, load}
use Rattle.gm_isa.specs.Laws.{DecodeUndoesEncode}
use Rattle.gm_image.proofs.Reading.{not_below, few}
use Rattle.gm_image.proofs.RoundTrips.{length-code_bytes, first_true, second_true, word_is}
use Rattle.graft_loader.specs.Laws.{IsBoxedImage}

-- a seal has 32 bytes
length-hmac : (key text : List ℕ) → length (hmac key text) ≡ 32
length-hmac key text = length-sha256 _

-- what stands before a seal
text_is : (key text : List ℕ) → take (length (with_seal key text) - 32) (with_seal key text) ≡ text
text_is key text =
    let size : length (with_seal key text) - 32 ≡ length text =
    omega (arith, length-append text (hmac key text), length-hmac key text) in
    rw size (take-append_seam text (hmac key text))

-- the seal itself
seal_is : (key text : List ℕ) → drop (length (with_seal key text) - 32) (with_seal key text) ≡ hmac key text
seal_is key text =
    let size : length (with_seal key text) - 32 ≡ length text =
    omega (arith, length-append text (hmac key text), length-hmac key text) in
    rw size (drop-append_seam text (hmac key text))

-- bytes are the same as themselves
same_as_itself : (xs : List ℕ) → same_bytes xs xs ≡ true
same_as_itself xs = (bytes_eq-Decides xs xs).1 refl

-- what is said of bytes whose text and seal are these
by_parts : (key bytes text seal : List ℕ) → take (length bytes - 32) bytes ≡ text →
    drop (length bytes - 32) bytes ≡ seal
    → load_by_seal key bytes ≡ (elim (same_bytes (hmac key text) seal) as (λ b. Result Image LoadFault) [
      | false ↦ Err LoadFault.Seal
      | true ↦ unsealed (keep_of bytes) (head_of bytes) (word_at bytes 8) text
    ])
by_parts key bytes text seal t s =
    ap (λ (xs : List ℕ). elim (same_bytes (hmac key xs)
    (drop (length bytes - 32) bytes)) as (λ b. Result Image LoadFault) [
      | false ↦ Err LoadFault.Seal
      | true ↦ unsealed (keep_of bytes) (head_of bytes) (word_at bytes 8) xs
    ]) t
    ∙ ap (λ (xs : List ℕ). elim (same_bytes (hmac key text) xs) as (λ b. Result Image LoadFault) [
      | false ↦ Err LoadFault.Seal
      | true ↦ unsealed (keep_of bytes) (head_of bytes) (word_at bytes 8) text
    ]) s

-- under its own key a seal is right
seal_passes : (key text : List ℕ)
    → load_by_seal key (with_seal key text)
    ≡ unsealed (keep_of (with_seal key text)) (head_of (with_seal key text)) (word_at (with_seal key text) 8) text
seal_passes key text =
    by_parts key (with_seal key text) text (hmac key text) (text_is key text) (seal_is key text)
    ∙ ap (λ (b : Bool). elim b as (λ b. Result Image LoadFault) [
      | false ↦ Err LoadFault.Seal
      | true ↦ unsealed (keep_of (with_seal key text)) (head_of (with_seal key text))
          (word_at (with_seal key text) 8) text
    ]) (same_as_itself (hmac key text))

-- the bytes of code that fits decode to it, whatever stands behind them
decoded-code : DecodeUndoesEncode → (code : List Instr) (pc : ℕ) (rest : List ℕ) → list_all fits code ≡ true
    → decoded (length code) pc (code_bytes code ++ rest) ≡ Ok code
decoded-code law [] pc rest h = refl
decoded-code law (i ∷ is) pc rest h =
    rw (law i (first_true (fits i) (list_all fits is) h))
    (rw (decoded-code law is (suc pc) rest (second_true (fits i) (list_all fits is) h)) refl)

-- what is said of a text whose data and code are these
by_code : (keep : Bool) (head n : ℕ) (text rest body : List ℕ)
    (code : Result (List Instr) LoadFault) → drop (head + 8 * n) text ≡ body
    → drop head text ≡ rest → decoded n 0 rest ≡ code → unsealed keep head n text ≡ verified (image_with keep body code)
by_code keep head n text rest body code b r d = rw (← d, ← r, ← b) refl

-- behind the head stand the image's code and data
unsealed_is : DecodeUndoesEncode → (head : List ℕ) (i : Image) → IsBoxedImage i
    → unsealed i.keep (length head) (length i.code) (head ++ code_bytes i.code ++ i.body) ≡ Ok i
unsealed_is law head i h =
    let rest = code_bytes i.code ++ i.body in
    let order : head ++ code_bytes i.code ++ i.body ≡ head ++ rest = append_assoc head (code_bytes i.code) i.body in
    let behind : drop (length head) (head ++ code_bytes i.code ++ i.body) ≡ rest =
    ap (drop (length head)) order ∙ drop-append_seam head rest in
    let data_behind : drop (8 * length i.code) rest ≡ i.body =
    rw (← length-code_bytes i.code) (drop-append_seam (code_bytes i.code) i.body) in
    let data_is : drop (length head + 8 * length i.code) (head ++ code_bytes i.code ++ i.body) ≡ i.body =
    sym (drop-drop (8 * length i.code) (length head) (head ++ code_bytes i.code ++ i.body))
    ∙ ap (drop (8 * length i.code)) behind ∙ data_behind in
    by_code i.keep (length head) (length i.code) (head ++ code_bytes i.code ++ i.body) rest i.body
    (Ok i.code) data_is behind
    (decoded-code law i.code 0 i.body h.raw.code_fits)
    ∙ ap (boxed_image i) h.boxed

-- sizes that are right
sizes_pass : (head : ℕ) (bytes : List ℕ) (n d : ℕ) → n ≡ word_at bytes 8 → d ≡ word_at bytes 12 → n ≤ 1024 → d ≤ 4096
    → length bytes ≡ head + 32 + 8 * n + d → size_fault head bytes ≡ None
sizes_pass head bytes n d n_is d_is h g len =
    let small = few (word_at bytes 8) (word_at bytes 12) (omega (arith, h, n_is)) (omega (arith, g, d_is)) in
    let sized : length bytes ≡ head + 32 + 8 * word_at bytes 8 + word_at bytes 12 = omega (arith, len, n_is, d_is) in
    rw (not_below (length bytes) (head + 32) (omega (arith, len)), size_fault)
    (rw small (rw (eq-eqb (length bytes) (head + 32 + 8 * word_at bytes 8 + word_at bytes 12) sized) refl))

-- the length of what is sealed with a head
sealed_length : (key head : List ℕ) (i : Image)
    → length (with_seal key (head ++ code_bytes i.code ++ i.body))
    ≡ length head + 32 + 8 * length i.code + length i.body
sealed_length key head i =
    let text = head ++ code_bytes i.code ++ i.body in
    let whole : length (with_seal key text) ≡ length text + length (hmac key text) =
    length-append text (hmac key text) in
    let front : length text ≡ length (head ++ code_bytes i.code) + length i.body =
    length-append (head ++ code_bytes i.code) i.body in
    let first : length (head ++ code_bytes i.code) ≡ length head + length (code_bytes i.code) =
    length-append head (code_bytes i.code) in
    omega (arith, whole, front, first, length-code_bytes i.code, length-hmac key text)

-- a head of version 2 is right
second_passes : (key : List ℕ) (number flags : ℕ) (i : Image) → IsBoxedImage i
    → head_fault (sealed_image key number flags i.code i.body) ≡ None
second_passes key number flags i h =
    let bytes = sealed_image key number flags i.code i.body in
    let size : length bytes ≡ 24 + 32 + 8 * length i.code + length i.body =
    sealed_length key (second_head number flags i.code i.body) i in
    rw (not_below (length bytes) 48 (omega (arith, size)), head_fault)
    (sizes_pass 24 bytes (length i.code) (length i.body) (word_is (length i.code) (omega (arith, h.raw.code_len)))
    (word_is (length i.body) (omega (arith, h.raw.body_len))) h.raw.code_len h.raw.body_len size)

-- so is one of version 1
first_passes : (key : List ℕ) (i : Image) → IsBoxedImage i → head_fault (first_sealed_image key i.code i.body) ≡ None
first_passes key i h =
    let bytes = first_sealed_image key i.code i.body in
    let size : length bytes ≡ 16 + 32 + 8 * length i.code + length i.body =
    sealed_length key (first_head i.code i.body) i in
    rw (not_below (length bytes) 48 (omega (arith, size)), head_fault)
    (sizes_pass 16 bytes (length i.code) (length i.body) (word_is (length i.code) (omega (arith, h.raw.code_len)))
    (word_is (length i.body) (omega (arith, h.raw.body_len))) h.raw.code_len h.raw.body_len size)

-- what is sealed with a head of this length and count loads, if there is the key
loads_by_key : DecodeUndoesEncode → (key head : List ℕ) (i : Image) → IsBoxedImage i
    → let bytes = with_seal key (head ++ code_bytes i.code ++ i.body) in
    keep_of bytes ≡ i.keep → head_of bytes ≡ length head → length i.code ≡ word_at bytes 8 →
    load_by_seal key bytes ≡ Ok i
loads_by_key law key head i h keep_is head_is count =
    seal_passes key (head ++ code_bytes i.code ++ i.body)
    ∙ rw keep_is (rw head_is (rw (← count) (unsealed_is law head i h)))

-- the flags that an image of version 2 says are those of its head
flags_said : (key : List ℕ) (number : ℕ) (keep : Bool) (code : List Instr) (body : List ℕ)
    → flags_of (sealed_image key number (flags_with keep) code body) ≡ flags_with keep
flags_said key number true code body = refl
flags_said key number false code body = refl

-- they are none but known ones
flags_known : (keep : Bool) → nat_le (flags_with keep) 1 ≡ true
flags_known true = refl
flags_known false = refl

-- and tell whether the image keeps
flags_tell : (keep : Bool) → (flags_with keep == 1) ≡ keep
flags_tell true = refl
flags_tell false = refl

-- the key of a number that has one is 0 or 1
small_by : (keys : Keys) (number : ℕ) (key : List ℕ) (first second : Bool) → (number == 0) ≡ first →
    (number == 1) ≡ second
    → cond first (Some keys.first) (cond second keys.second None) ≡ Some key → number ≤ 1
small_by keys number key true second f s h = omega (arith, eqb-true number 0 f)
small_by keys number key false true f s h = omega (arith, eqb-true number 1 s)
small_by keys number key false false f s h = absurd cc

small_number : (keys : Keys) (number : ℕ) (key : List ℕ) → key_of keys number ≡ Some key → number ≤ 1
small_number keys number key h = small_by keys number key (number == 0) (number == 1) refl refl h

-- an image of version 2 loads
pub sealed_loads : DecodeUndoesEncode → (keys : Keys) (number : ℕ) (key : List ℕ) (i : Image) →
    key_of keys number ≡ Some key
    → IsBoxedImage i → load keys (sealed_image key number (flags_with i.keep) i.code i.body) ≡ Ok i
sealed_loads law keys number key i found h =
    let flags = flags_with i.keep in
    let bytes = sealed_image key number flags i.code i.body in
    let small = small_number keys number key found in
    let said : flags_of bytes ≡ flags = flags_said key number i.keep i.code i.body in
    let known : nat_le (flags_of bytes) 1 ≡ true = ap (λ (n : ℕ). nat_le n 1) said ∙ flags_known i.keep in
    let keeps : keep_of bytes ≡ i.keep = ap (λ (n : ℕ). n == 1) said ∙ flags_tell i.keep in
    let numbered : number_of bytes ≡ number = sym (word_is number (omega (arith, small))) in
    ap (load_by_head keys bytes) (second_passes key number flags i h)
    ∙ ap (λ (b : Bool). elim b as (λ b. Result Image LoadFault) [
      | false ↦ Err BadFlags
      | true ↦ load_by_key (key_of keys (number_of bytes)) bytes
    ]) known
    ∙ ap (λ (n : ℕ). load_by_key (key_of keys n) bytes) numbered
    ∙ ap (λ (k : Option (List ℕ)). load_by_key k bytes) found
    ∙ loads_by_key law key (second_head number flags i.code i.body) i h keeps refl
    (word_is (length i.code) (omega (arith, h.raw.code_len)))

-- an image of version 1 loads, and keeps nothing
pub first_sealed_loads : DecodeUndoesEncode → (keys : Keys) (i : Image) → IsBoxedImage i
    → load keys (first_sealed_image keys.first i.code i.body) ≡ Ok (plain_image i.code i.body)
first_sealed_loads law keys i h =
    rw (first_passes keys.first i h)
    (loads_by_key law keys.first (first_head i.code i.body) (plain_image i.code i.body)
    (record {
      raw = record {
        code_len = h.raw.code_len;
        body_len = h.raw.body_len;
        code_fits = h.raw.code_fits;
      };
      boxed = h.boxed;
    })
    refl refl (word_is (length i.code) (omega (arith, h.raw.code_len))))
