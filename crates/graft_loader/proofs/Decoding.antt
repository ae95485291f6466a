-- Decoding words one by one, and what is said of the parts of sealed bytes.
use Rattle.std.proofs.Common.{◌≡◌, ℕ, zero, suc, ◌+◌, ◌-◌, ◌*◌, true, false, List, [], ◌∷◌, ◌++◌}
use Rattle.std.proofs.Common.{length, take, drop, Option, None, Some, Result, Ok, Err, refl, sym}
use Rattle.std.proofs.Common.{ap, ◌∙◌, add-one, nat_le, arith, length-append, get_or}
use Rattle.std.proofs.Common.{◌<◌}
use Rattle.std.proofs.Math.Seq.{drop-cons}
use Rattle.std.proofs.lemmas.List.Folds.{list_all-append}
use Rattle.std.specs.List.{list_all}
use Rattle.graft_code.specs.declared.Instr.{Instr}
use Rattle.graft_code.specs.Bytes.{word_at}
use Rattle.graft_code.specs.World.{Image, same_bytes}
use Rattle.graft_code.specs.Instructions.{decode, fits}
use Rattle.graft_code.specs.declared.Keys.{Keys}
use Rattle.graft_code.specs.Images.{LoadFault, Length, Magic, Version, TooLarge, BadFlags, BadOp}
use Rattle.graft_code.specs.Images.{Seal, with_first, hmac, key_of, head_of, flags_of, keep_of}
use Rattle.graft_code.specs.Images.{number_of, head_fault, decoded, image_with, verified}
use Rattle.graft_code.specs.Images.{load_by_seal, load_by_key, load_by_head, load}
use Rattle.gm_image.specs.Sealed.{Parts, words_of, sealed_part, parts_of, parts_unless, read_sealed}
use Rattle.gm_image.specs.declared.ImageFault.{ImageFault}
use Rattle.gm_image.specs.Faults as image
use Rattle.graft_loader.specs.Faults.{Refuses, of_image}
use Rattle.graft_loader.specs.Loading.{decoded_words, sealed_by, loaded}
use Rattle.gm_image.proofs.Reading.{behind-with_first}

-- instructions before the others, unless one of these is refused
abbrev pub behind : List Instr → Result (List Instr) LoadFault → Result (List Instr) LoadFault
behind front (Err fault) = Err fault
behind front (Ok rest) = Ok (front ++ rest)

-- so many words are these instructions, and the rest are still to be decoded
pub record Decodes (words : List (List ℕ)) (pc : ℕ) (code : List Instr) : Type 0 where
  pub said : decoded_words 0 words ≡ behind code (decoded_words pc (drop pc words))
  pub count : length code ≡ pc
  pub fit : list_all fits code ≡ true

-- the words of bytes decode as the bytes do
decoded-words : (n pc : ℕ) (bytes : List ℕ) → decoded n pc bytes ≡ decoded_words pc (words_of n bytes)
decoded-words zero pc bytes = refl
decoded-words (suc n) pc bytes =
    ap (λ (r : Result (List Instr) LoadFault). with_first (decode (take 8 bytes)) pc r)
    (decoded-words n (suc pc) (drop 8 bytes))

-- what is said of sealed bytes by their seal
by_seal : (key bytes : List ℕ) → load_by_seal key bytes ≡ sealed_by (Some key) (sealed_part bytes) (parts_of bytes)
by_seal key bytes =
    ap (λ (code : Result (List Instr) LoadFault).
    elim (same_bytes (hmac key (sealed_part bytes)) (drop (length bytes - 32) bytes)) as (λ b. Result Image LoadFault) [
      | false ↦ Err Seal
      | true ↦ verified (image_with (keep_of bytes)
          (drop (head_of bytes + 8 * word_at bytes 8) (sealed_part bytes)) code)
    ])
    (decoded-words (word_at bytes 8) 0 (drop (head_of bytes) (sealed_part bytes)))

-- the same, if there is the key
by_key : (found : Option (List ℕ)) (bytes : List ℕ)
    → load_by_key found bytes ≡ sealed_by found (sealed_part bytes) (parts_of bytes)
by_key None bytes = refl
by_key (Some key) bytes = by_seal key bytes

-- what is said of sealed bytes by their head
by_head : (keys : Keys) (bytes : List ℕ) (fault : Option LoadFault)
    → load_by_head keys bytes fault ≡ loaded keys (sealed_part bytes) (parts_unless bytes fault)
by_head keys bytes (Some fault) = refl
by_head keys bytes None =
    ap (λ (image : Result Image LoadFault).
    elim (nat_le (flags_of bytes) 1) as (λ b. Result Image LoadFault) [ false ↦ Err BadFlags | true ↦ image ])
    (by_key (key_of keys (number_of bytes)) bytes)

-- what the loader says is what is said of the parts
load-loaded : (keys : Keys) (bytes : List ℕ) → load keys bytes ≡ loaded keys (sealed_part bytes) (read_sealed bytes)
load-loaded keys bytes = by_head keys bytes (head_fault bytes)

-- bytes that have parts
pub load-parts : (keys : Keys) (bytes text : List ℕ) (p : Parts) → text ≡ sealed_part bytes → read_sealed bytes ≡ Ok p
    → load keys bytes ≡ loaded keys text (Ok p)
load-parts keys bytes text p t h =
    load-loaded keys bytes ∙ ap (λ (r : Result Parts LoadFault). loaded keys (sealed_part bytes) r) h
    ∙ ap (λ (xs : List ℕ). loaded keys xs (Ok p)) (sym t)

-- bytes that have none
load-refused : (keys : Keys) (bytes : List ℕ) (fault : LoadFault) → read_sealed bytes ≡ Err fault →
    load keys bytes ≡ Err fault
load-refused keys bytes fault h =
    load-loaded keys bytes
    ∙ ap (λ (r : Result Parts LoadFault). loaded keys (sealed_part bytes) r) h

-- what the head is refused for, the loader refuses the image for
pub refused : (fault : ImageFault) (keys : Keys) (bytes : List ℕ) →
    image.Refuses fault (read_sealed bytes) → Refuses (of_image fault) (load keys bytes)
refused ImageFault.Length keys bytes h = load-refused keys bytes Length h
refused ImageFault.Magic keys bytes h = load-refused keys bytes Magic h
refused ImageFault.Version keys bytes h = load-refused keys bytes Version h
refused ImageFault.TooLarge keys bytes h = load-refused keys bytes TooLarge h
refused (ImageFault.BadOp pc) keys bytes h = load-refused keys bytes (BadOp pc) h
refused ImageFault.NoMemory keys bytes h = tt

-- one more word is an instruction
pub Decodes-more : (words : List (List ℕ)) (pc : ℕ) (code : List Instr) (i : Instr) →
    Decodes words pc code → pc < length words
    → decode (get_or words pc []) ≡ Ok i → fits i ≡ true → Decodes words (pc + 1) (code ++ i ∷ [])
Decodes-more words pc code i h room d f =
    record {
      said =
          rw add-one (h.said ∙ rw (drop-cons words pc [] room)
          (rw d (behind-with_first code i pc (decoded_words (suc pc) (drop (suc pc) words)))));
      count = omega (arith, h.count, length-append code (i ∷ []));
      fit = rw list_all-append (rw h.fit (rw f refl));
    }
