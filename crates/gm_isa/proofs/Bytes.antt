-- Instructions and their bytes, both ways.
use Rattle.std.proofs.Common.{◌≡◌, ℕ, suc, ◌^◌, ◌<◌, Bool, true, false, ◌&&◌, cond, eqb, List, []}
use Rattle.std.proofs.Common.{◌∷◌, length, get_or, Option, None, Some, Result, Ok, Err, refl, sym}
use Rattle.std.proofs.Common.{ap, ◌∙◌, arith}
use Rattle.std.specs.Prelude.{find}
use Rattle.std.proofs.lemmas.Bool.{eqb-true, ltb-true}
use Rattle.std.proofs.lemmas.Nat.{from_le_bytes-to_le_bytes_4, le_bytes_4}
use Rattle.graft_code.specs.declared.Instr.{Instr}
use Rattle.graft_code.specs.declared.IsaFault.{IsaFault}
use Rattle.graft_code.specs.declared.IsaFault.TheVariants.{BadField}
use Rattle.graft_code.specs.declared.Op.{Op}
use Rattle.graft_code.specs.declared.Op.TheVariants.{Li, Mov, Add, Sub, Mul, And, Or, Xor, Shl}
use Rattle.graft_code.specs.declared.Op.TheVariants.{Shr, Divu, Remu, Sltu, Addi, Andi, Ldw, Stw}
use Rattle.graft_code.specs.declared.Op.TheVariants.{Ldb, Stb, Jmp, Jz, Jnz, Call, Callr, Trap}
use Rattle.graft_code.specs.declared.Op.TheVariants.{Ret}
use Rattle.graft_code.specs.Bytes.{word_bytes, word_at}
use Rattle.graft_code.specs.Instructions.{row_of, operations, op_numbered, is_register_field}
use Rattle.graft_code.specs.Instructions.{is_imm_field, fits, instr_of, decode_by, encode, decode}

-- the number of an operation stands for it
pub op_numbered-number : (op : Op) → op_numbered (row_of op).number ≡ Some op
op_numbered-number Li = refl
op_numbered-number Mov = refl
op_numbered-number Add = refl
op_numbered-number Sub = refl
op_numbered-number Mul = refl
op_numbered-number And = refl
op_numbered-number Or = refl
op_numbered-number Xor = refl
op_numbered-number Shl = refl
op_numbered-number Shr = refl
op_numbered-number Divu = refl
op_numbered-number Remu = refl
op_numbered-number Sltu = refl
op_numbered-number Addi = refl
op_numbered-number Andi = refl
op_numbered-number Ldw = refl
op_numbered-number Stw = refl
op_numbered-number Ldb = refl
op_numbered-number Stb = refl
op_numbered-number Jmp = refl
op_numbered-number Jz = refl
op_numbered-number Jnz = refl
op_numbered-number Call = refl
op_numbered-number Callr = refl
op_numbered-number Trap = refl
op_numbered-number Ret = refl

-- what a search finds passes
find_passes : {A : Type 0} (p : A → Bool) (xs : List A) (y : A) → find p xs ≡ Some y → p y ≡ true
find_passes p [] y h = cc
find_passes p (x ∷ xs) y h = at_first (p x) refl h (find_passes p xs y)
  where
    at_first : (b : Bool) → p x ≡ b → cond b (Some x) (find p xs) ≡ Some y →
        (find p xs ≡ Some y → p y ≡ true) → p y ≡ true
    at_first true e g later = let same : x ≡ y = cc in sym (ap p same) ∙ e
    at_first false e g later = later g

-- the operation of a number has this number
number-op_numbered : (n : ℕ) (op : Op) → op_numbered n ≡ Some op → (row_of op).number ≡ n
number-op_numbered n op h = eqb-true _ _ (find_passes (λ o. eqb (row_of o).number n) operations op h)

-- the word of four bytes of a word is the word
word_at-word_bytes : (x a b c n : ℕ) → n < 2 ^ 32 → word_at (x ∷ a ∷ b ∷ c ∷ word_bytes n) 4 ≡ n
word_at-word_bytes x a b c n h = omega (arith, from_le_bytes-to_le_bytes_4 n h)

-- an imm that may stand in an instruction is a word
word_from_is_imm_field : (named : Bool) (n : ℕ) → is_imm_field named n ≡ true → n < 2 ^ 32
word_from_is_imm_field true n h = ltb-true n (2 ^ 32) h
word_from_is_imm_field false n h = omega (arith, eqb-true n 0 h)

-- the imm of an instruction that fits is a word
word_from_fits : (i : Instr) → fits i ≡ true → i.imm < 2 ^ 32
word_from_fits i h =
    let f = (row_of i.op).form in
    word_from_is_imm_field f.imm i.imm
    (second (is_register_field f.a i.a && is_register_field f.b i.b && is_register_field f.c i.c)
    (is_imm_field f.imm i.imm) h)
  where
    second : (a b : Bool) → (a && b) ≡ true → b ≡ true
    second true b g = g
    second false b g = cc

-- an instruction that fits is what its bytes decode to
pub decode-encode : (i : Instr) → fits i ≡ true → decode (encode i) ≡ Ok i
decode-encode i h =
    rw (op_numbered-number i.op)
    (rw (word_at-word_bytes (row_of i.op).number i.a i.b i.c i.imm (word_from_fits i h)) (rw h refl))

-- eight bytes are a first one, three fields and a word
eight : (bytes : List ℕ) → length bytes ≡ 8 → ((k : ℕ) → get_or bytes k 0 < 256)
    → get_or bytes 0 0 ∷ get_or bytes 1 0 ∷ get_or bytes 2 0 ∷ get_or bytes 3 0 ∷ word_bytes (word_at bytes 4) ≡ bytes
eight [] h g = cc
eight (x ∷ []) h g = cc
eight (x ∷ a ∷ []) h g = cc
eight (x ∷ a ∷ b ∷ []) h g = cc
eight (x ∷ a ∷ b ∷ c ∷ rest) h g =
    ap (λ (word : List ℕ). x ∷ a ∷ b ∷ c ∷ word)
    (le_bytes_4 rest (word_at (x ∷ a ∷ b ∷ c ∷ rest) 4) (omega arith) (λ k. g (suc (suc (suc (suc k))))) (omega arith))

-- an instruction that is checked is the one that comes out
checked_is : (x i : Instr) (b : Bool) → cond {A = Result Instr IsaFault} b (Ok x) (Err BadField) ≡ Ok i → x ≡ i
checked_is x i true h = cc
checked_is x i false h = cc

-- the bytes of what they decode to, by the operation
encode_by : (bytes : List ℕ) (i : Instr) (o : Option Op) → length bytes ≡ 8 → ((k : ℕ) → get_or bytes k 0 < 256)
    → op_numbered (get_or bytes 0 0) ≡ o → decode_by o bytes ≡ Ok i → encode i ≡ bytes
encode_by bytes i None h g e d = cc
encode_by bytes i (Some op) h g e d =
    let same : instr_of op bytes ≡ i = checked_is _ _ (fits (instr_of op bytes)) d in
    sym (ap encode same) ∙ rw (number-op_numbered (get_or bytes 0 0) op e) (eight bytes h g)

-- eight bytes that decode are those of what they decode to
pub encode-decode : (bytes : List ℕ) (i : Instr) → length bytes ≡ 8 → ((k : ℕ) → get_or bytes k 0 < 256)
    → decode bytes ≡ Ok i → encode i ≡ bytes
encode-decode bytes i h g d = encode_by bytes i _ h g refl d
