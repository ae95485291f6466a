-- The laws of instructions and their bytes.
use Rattle.std.specs.Prelude.{◌≡◌, ℕ, ◌<◌, List, length, slice_index, Ok, IsTrue}
use Rattle.graft_code.specs.declared.Instr.{Instr}
use Rattle.graft_code.specs.Instructions.{fits, encode, decode}

-- the bytes of an instruction decode to it
abbrev pub DecodeUndoesEncode : Type 0
DecodeUndoesEncode = (i : Instr) → IsTrue (fits i) → decode (encode i) ≡ Ok i

-- eight bytes that decode are those of the instruction that they decode to
abbrev pub EncodeUndoesDecode : Type 0
EncodeUndoesDecode =
    (bytes : List ℕ) (i : Instr) → length bytes ≡ 8 → ((k : ℕ) → slice_index bytes k < 256) →
    decode bytes ≡ Ok i → encode i ≡ bytes
