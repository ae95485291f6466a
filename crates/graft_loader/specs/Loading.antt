-- Words of the loader's parts, and what a loaded image keeps.
use Rattle.std.specs.Prelude.{◌≡◌, ◌≤◌, ℕ, suc, ◌==◌, nat_le, true, false, List, [], ◌∷◌, length}
use Rattle.std.specs.Prelude.{Option, None, Some, Result, Ok, Err}
use Rattle.std.specs.List.{list_all}
use Rattle.graft_code.specs.declared.Instr.{Instr}
use Rattle.graft_code.specs.Instructions.{decode, fits}
use Rattle.graft_code.specs.World.{Image, same_bytes}
use Rattle.graft_code.specs.Boxed.{IsBoxed}
use Rattle.graft_code.specs.declared.Keys.{Keys}
use Rattle.graft_code.specs.Images.{LoadFault, BadFlags, NoKey, Seal, hmac, key_of, with_first, image_with, verified}
use Rattle.gm_image.specs.Sealed.{Parts}

-- boxed code of at most 1,024 instructions, each of which can be encoded, and at most 4,096 data
-- bytes
pub record IsLoaded (i : Image) : Type 0 where
  pub code_len : length i.code ≤ 1024
  pub code_fits : list_all fits i.code ≡ true
  pub boxed : IsBoxed i.code
  pub body_len : length i.body ≤ 4096

-- the instructions of words, the first of which has this number
abbrev pub decoded_words : ℕ → List (List ℕ) → Result (List Instr) LoadFault
decoded_words pc [] = Ok []
decoded_words pc (word ∷ words) = with_first (decode word) pc (decoded_words (suc pc) words)

-- the image of parts whose seal is right, or the first refusal
abbrev pub unsealed : Parts → Result Image LoadFault
unsealed p = verified (image_with (p.flags == 1) p.body (decoded_words 0 p.words))

-- the image of parts, whose seal is over this text under this key, or the first refusal
abbrev pub sealed_by : Option (List ℕ) → List ℕ → Parts → Result Image LoadFault
sealed_by None text p = Err NoKey
sealed_by (Some key) text p =
    elim (same_bytes (hmac key text) p.seal) [ false ↦ Err Seal | true ↦ unsealed p ]

-- the image of parts, whose seal is over this text under one of these keys, or the first refusal
abbrev pub loaded : Keys → List ℕ → Result Parts LoadFault → Result Image LoadFault
loaded keys text (Err fault) = Err fault
loaded keys text (Ok p) =
    elim (nat_le p.flags 1) [
      | false ↦ Err BadFlags
      | true ↦ sealed_by (key_of keys p.number) text p
    ]
