-- What loads is within the limits of images, and boxed.
use Rattle.std.proofs.Common.{◌≡◌, ℕ, zero, suc, ◌+◌, ◌-◌, ◌*◌, ◌≤◌, ◌==◌, Bool, true, false, cond}
use Rattle.std.proofs.Common.{List, [], ◌∷◌, length, take, drop, codes, Option, None, Some, Result}
use Rattle.std.proofs.Common.{Ok, Err, refl, sym, ap, ◌∙◌, arith, length-drop, length-take, nat_le}
use Rattle.std.proofs.Common.{nat_lt}
use Rattle.std.specs.List.{list_all}
use Rattle.std.specs.Prelude.{slice_index}
use Rattle.std.proofs.lemmas.Bool.{eqb-true}
use Rattle.std.proofs.lemmas.Bool.Decides.{nat_tests}
use Rattle.graft_code.specs.declared.Instr.{Instr}
use Rattle.graft_code.specs.declared.Op.{Op}
use Rattle.graft_code.specs.declared.Keys.{Keys}
use Rattle.graft_code.specs.declared.IsaFault.{IsaFault}
use Rattle.graft_code.specs.Bytes.{word_at}
use Rattle.graft_code.specs.World.{Image, same_bytes}
use Rattle.graft_code.specs.Instructions.{decode, decode_by, fits, instr_of, op_numbered}
use Rattle.graft_code.specs.Boxed.{BoxFault, box_fault}
use Rattle.graft_code.specs.Images.{LoadFault, Length, TooLarge, Magic, Version, BadFlags, Seal}
use Rattle.graft_code.specs.Images.{hmac, key_of, last_key, head_of, flags_of, keep_of, number_of}
use Rattle.graft_code.specs.Images.{is_version, size_fault, head_fault, is_too_large, with_first}
use Rattle.graft_code.specs.Images.{decoded, image_with, verified, boxed_image, unsealed}
use Rattle.graft_code.specs.Images.{load_by_key, load_by_head, load, sealed_under, reseal}
use Rattle.gm_isa.specs.Laws.{DecodeUndoesEncode}
use Rattle.graft_loader.specs.Laws.{IsBoxedImage}
use Rattle.graft_loader.proofs.Sealed.{sealed_loads}

-- ---- instructions

-- an instruction that passes the test
checked_fits : (i j : Instr) (b : Bool) → fits i ≡ b →
    ◌≡◌ {A = Result Instr IsaFault} (cond b (Ok i) (Err IsaFault.BadField)) (Ok j) → fits j ≡ true
checked_fits i j true f h = let same : i ≡ j = cc in rw (← same) f
checked_fits i j false f h = cc

decoded_fits : (op : Option Op) (bytes : List ℕ) (j : Instr) → decode_by op bytes ≡ Ok j → fits j ≡ true
decoded_fits None bytes j h = cc
decoded_fits (Some op) bytes j h = checked_fits (instr_of op bytes) j (fits (instr_of op bytes)) refl h

-- so many instructions, all of which can be encoded
record AreSound (n : ℕ) (code : List Instr) : Type 0 where
  count : length code ≡ n
  fit : list_all fits code ≡ true

one_more : (n pc : ℕ) (bytes : List ℕ) (code : List Instr) (first : Result Instr IsaFault)
    (rest : Result (List Instr) LoadFault)
    → decode bytes ≡ first → ((is : List Instr) → rest ≡ Ok is → AreSound n is) → with_first first pc rest ≡ Ok code
    → AreSound (suc n) code
one_more n pc bytes code (Err fault) rest d later h = cc
one_more n pc bytes code (Ok i) (Err fault) d later h = cc
one_more n pc bytes code (Ok i) (Ok is) d later h =
    let same : i ∷ is ≡ code = cc in
    let behind = later is refl in
    let first : fits i ≡ true = decoded_fits (op_numbered (slice_index bytes 0)) bytes i d in
    record { count = ap length (sym same) ∙ ap suc behind.count; fit = rw (← same) (rw first behind.fit) }

decoded_sound : (n pc : ℕ) (bytes : List ℕ) (code : List Instr) → decoded n pc bytes ≡ Ok code → AreSound n code
decoded_sound zero pc bytes code h =
    let same : [] ≡ code = cc in record { count = ap length (sym same); fit = rw (← same) refl }
decoded_sound (suc n) pc bytes code h =
    one_more n pc (take 8 bytes) code (decode (take 8 bytes)) (decoded n (suc pc) (drop 8 bytes)) refl
    (λ is d. decoded_sound n (suc pc) (drop 8 bytes) is d) h

-- ---- the tests in their order

-- an image that the verifier passes
boxed_is : (j i : Image) (fault : Option BoxFault) → box_fault j.code ≡ fault →
    boxed_image j fault ≡ Ok i → (j ≡ i) × (box_fault i.code ≡ None)
boxed_is j i None f h = let same : j ≡ i = cc in (same, rw (← same) f)
boxed_is j i (Some fault) f h = cc

-- so many instructions and so many data bytes, all in order
record IsSound (n d : ℕ) (i : Image) : Type 0 where
  code_count : length i.code ≡ n
  code_fits : list_all fits i.code ≡ true
  body_count : length i.body ≡ d
  boxed : box_fault i.code ≡ None

verified_sound : (n d : ℕ) (keep : Bool) (body xs : List ℕ) (i : Image)
    (code : Result (List Instr) LoadFault) → decoded n 0 xs ≡ code
    → length body ≡ d → verified (image_with keep body code) ≡ Ok i → IsSound n d i
verified_sound n d keep body xs i (Err fault) c size h = cc
verified_sound n d keep body xs i (Ok code) c size h =
    let r = boxed_is (record { code = code; body = body; keep = keep }) i (box_fault code) refl h in
    let s = decoded_sound n 0 xs code c in
    let code_is : code ≡ i.code = ap (λ (x : Image). x.code) r.0 in
    let body_is : body ≡ i.body = ap (λ (x : Image). x.body) r.0 in
    record {
      code_count = ap length (sym code_is) ∙ s.count;
      code_fits = rw (← code_is) s.fit;
      body_count = ap length (sym body_is) ∙ size;
      boxed = r.1;
    }

-- a right seal
seal_sound : (bytes : List ℕ) (i : Image) (same : Bool) →
    length bytes ≡ head_of bytes + 32 + 8 * word_at bytes 8 + word_at bytes 12
    → (elim same as (λ b. Result Image LoadFault) [
      | false ↦ Err Seal
      | true ↦ unsealed (keep_of bytes) (head_of bytes) (word_at bytes 8) (take (length bytes - 32) bytes)
    ]) ≡ Ok i
    → IsSound (word_at bytes 8) (word_at bytes 12) i
seal_sound bytes i false sized h = cc
seal_sound bytes i true sized h =
    let text = take (length bytes - 32) bytes in
    let n = word_at bytes 8 in
    let size : length (drop (head_of bytes + 8 * n) text) ≡ word_at bytes 12 =
    omega (arith, length-drop (head_of bytes + 8 * n) text, length-take (length bytes - 32) bytes, sized) in
    verified_sound n (word_at bytes 12) (keep_of bytes) (drop (head_of bytes + 8 * n) text)
    (drop (head_of bytes) text) i
    (decoded n 0 (drop (head_of bytes) text)) refl size h

key_sound : (found : Option (List ℕ)) (bytes : List ℕ) (i : Image)
    → length bytes ≡ head_of bytes + 32 + 8 * word_at bytes 8 + word_at bytes 12 → load_by_key found bytes ≡ Ok i
    → IsSound (word_at bytes 8) (word_at bytes 12) i
key_sound None bytes i sized h = cc
key_sound (Some key) bytes i sized h =
    seal_sound bytes i (same_bytes (hmac key (take (length bytes - 32) bytes)) (drop (length bytes - 32) bytes)) sized h

flags_sound : (keys : Keys) (bytes : List ℕ) (i : Image) (none : Bool)
    → length bytes ≡ head_of bytes + 32 + 8 * word_at bytes 8 + word_at bytes 12
    → (elim none as (λ b. Result Image LoadFault) [
      | false ↦ Err BadFlags
      | true ↦ load_by_key (key_of keys (number_of bytes)) bytes
    ]) ≡ Ok i
    → IsSound (word_at bytes 8) (word_at bytes 12) i
flags_sound keys bytes i false sized h = cc
flags_sound keys bytes i true sized h = key_sound (key_of keys (number_of bytes)) bytes i sized h

-- sizes that pass their tests
record ArePassed (bytes : List ℕ) : Type 0 where
  few : word_at bytes 8 ≤ 1024
  small : word_at bytes 12 ≤ 4096
  sized : length bytes ≡ head_of bytes + 32 + 8 * word_at bytes 8 + word_at bytes 12

sizes_passed : (bytes : List ℕ) (short large sized : Bool) → is_too_large (word_at bytes 8) (word_at bytes 12) ≡ large
    → (length bytes == head_of bytes + 32 + 8 * word_at bytes 8 + word_at bytes 12) ≡ sized
    → (elim short as (λ b. Option LoadFault) [
      | true ↦ Some Length
      | false ↦ elim large as (λ b. Option LoadFault) [
        | true ↦ Some TooLarge
        | false ↦ elim sized as (λ b. Option LoadFault) [ false ↦ Some Length | true ↦ None ]
      ]
    ]) ≡ None
    → ArePassed bytes
sizes_passed bytes true large sized l s h = cc
sizes_passed bytes false true sized l s h = cc
sizes_passed bytes false false false l s h = cc
sizes_passed bytes false false true l s h = record {
  few = grind (arith, nat_tests, l);
  small = grind (arith, nat_tests, l);
  sized = eqb-true _ _ s;
}

head_passed : (bytes : List ℕ) (short same version : Bool)
    → (elim short as (λ b. Option LoadFault) [
      | true ↦ Some Length
      | false ↦ elim same as (λ b. Option LoadFault) [
        | false ↦ Some Magic
        | true ↦ elim version as (λ b. Option LoadFault) [
          | false ↦ Some Version
          | true ↦ size_fault (head_of bytes) bytes
        ]
      ]
    ]) ≡ None
    → ArePassed bytes
head_passed bytes true same version h = cc
head_passed bytes false false version h = cc
head_passed bytes false true false h = cc
head_passed bytes false true true h =
    sizes_passed bytes (nat_lt (length bytes) (head_of bytes + 32)) (is_too_large (word_at bytes 8) (word_at bytes 12))
    (length bytes == head_of bytes + 32 + 8 * word_at bytes 8 + word_at bytes 12) refl refl h

-- what loads is within the limits and boxed
loaded_is : (keys : Keys) (bytes : List ℕ) (i : Image) (fault : Option LoadFault) → head_fault bytes ≡ fault
    → load_by_head keys bytes fault ≡ Ok i → IsBoxedImage i
loaded_is keys bytes i (Some fault) f h = cc
loaded_is keys bytes i None f h =
    let p = head_passed bytes (nat_lt (length bytes) 48) (same_bytes (take 4 bytes) (codes "VGR1"))
    (is_version (word_at bytes 4)) f in
    let s = flags_sound keys bytes i (nat_le (flags_of bytes) 1) p.sized h in
    record {
      raw = record {
        code_len = omega (arith, s.code_count, p.few);
        body_len = omega (arith, s.body_count, p.small);
        code_fits = s.code_fits;
      };
      boxed = s.boxed;
    }

-- the last key is that of its number
last_is_key : (keys : Keys) (second : Option (List ℕ)) → keys.second ≡ second
    → let last = elim second as (λ s. ℕ × List ℕ) [ None ↦ (0, keys.first) | Some key ↦ (1, key) ] in
    key_of keys last.0 ≡ Some last.1
last_is_key keys None h = refl
last_is_key keys (Some key) h = h

-- what loads is sealed anew, and loads again as the same image
pub resealed_loads : DecodeUndoesEncode → (keys : Keys) (bytes : List ℕ) (i : Image) → load keys bytes ≡ Ok i
    → (sealed : List ℕ) × (reseal keys bytes ≡ Ok sealed) × (load keys sealed ≡ Ok i)
resealed_loads law keys bytes i h =
    let last = last_key keys in (
      sealed_under keys i,
      rw h refl,
      sealed_loads law keys last.0 last.1 i (last_is_key keys keys.second refl)
          (loaded_is keys bytes i (head_fault bytes) refl h),
    )
