-- Instructions of an image as a plug-in's bytes hold them.
use Rattle.std.proofs.Common.{◌≡◌, ℕ, ◌+◌, ◌*◌, ◌<◌, ◌%◌, ◌/◌, ◌^◌, Bool, true, false, List, [], ◌∷◌}
use Rattle.std.proofs.Common.{refl, ap, ◌∙◌, arith}
use Rattle.std.specs.Prelude.{◌&&◌}
use Rattle.std.specs.List.{list_all}
use Rattle.std.proofs.lemmas.Nat.{from_le_bytes-to_le_bytes_4}
use Rattle.graft_code.specs.Images.{code_bytes}
use Rattle.std.proofs.lemmas.Bool.{and_parts, eqb-true, ltb-true}
use Rattle.graft_code.specs.declared.Instr.{Instr}
use Rattle.graft_code.specs.declared.Op.{Op}
use Rattle.graft_code.specs.declared.Op.TheVariants.{Li, Mov, Add, Sub, Mul, And, Or, Xor, Shl}
use Rattle.graft_code.specs.declared.Op.TheVariants.{Shr, Divu, Remu, Sltu, Addi, Andi, Ldw, Stw}
use Rattle.graft_code.specs.declared.Op.TheVariants.{Ldb, Stb, Jmp, Jz, Jnz, Call, Callr, Trap}
use Rattle.graft_code.specs.declared.Op.TheVariants.{Ret}
use Rattle.graft_code.specs.Boxed.{instr}
use Rattle.graft_code.specs.Instructions.{row_of, fits, is_register_field, is_imm_field}
use Rattle.vino_host.specs.HostMachine.{operation, instr_by, code_in}

-- the number of an operation stands for it
pub operation_back : (op : Op) → operation (row_of op).number ≡ op
operation_back Li = refl
operation_back Mov = refl
operation_back Add = refl
operation_back Sub = refl
operation_back Mul = refl
operation_back And = refl
operation_back Or = refl
operation_back Xor = refl
operation_back Shl = refl
operation_back Shr = refl
operation_back Divu = refl
operation_back Remu = refl
operation_back Sltu = refl
operation_back Addi = refl
operation_back Andi = refl
operation_back Ldw = refl
operation_back Stw = refl
operation_back Ldb = refl
operation_back Stb = refl
operation_back Jmp = refl
operation_back Jz = refl
operation_back Jnz = refl
operation_back Call = refl
operation_back Callr = refl
operation_back Trap = refl
operation_back Ret = refl

-- a register that an instruction may have is below 16
small_register : (named : Bool) (n : ℕ) → is_register_field named n ≡ true → n % 16 ≡ n
small_register true n h = let small : n < 16 = ltb-true n 16 h in omega (arith, small)
small_register false n h = let none : n ≡ 0 = eqb-true n 0 h in rw none refl

-- the word of the four bytes of a word
pub word_back : (n : ℕ) → n < 2 ^ 32 →
    n % 256 + 256 * (n / 256 % 256) + 65536 * (n / 65536 % 256) + 16777216 * (n / 16777216 % 256) ≡ n
word_back n h = omega (arith, from_le_bytes-to_le_bytes_4 n h)

-- a number that an instruction may have is a word
small_imm : (named : Bool) (n : ℕ) → is_imm_field named n ≡ true → n < 2 ^ 32
small_imm true n h = ltb-true n (2 ^ 32) h
small_imm false n h = omega (arith, eqb-true n 0 h)

-- an instruction that can be encoded is what its eight bytes stand for
held_instr : (i : Instr) → fits i ≡ true →
    instr_by (row_of i.op).number i.a i.b i.c (i.imm % 256) (i.imm / 256 % 256) (i.imm / 65536 % 256)
    (i.imm / 16777216 % 256) ≡ i
held_instr i h =
    let f = (row_of i.op).form in
    let one = and_parts (is_register_field f.a i.a && is_register_field f.b i.b && is_register_field f.c i.c)
    (is_imm_field f.imm i.imm) h in
    let two = and_parts (is_register_field f.a i.a && is_register_field f.b i.b) (is_register_field f.c i.c) one.0 in
    let three = and_parts (is_register_field f.a i.a) (is_register_field f.b i.b) two.0 in
    by_fields _ _ _ _ _ (operation_back i.op) (small_register f.a i.a three.0) (small_register f.b i.b three.1)
    (small_register f.c i.c two.1) (word_back i.imm (small_imm f.imm i.imm one.1))
  where
    by_fields : (o : Op) (x y z w : ℕ) → o ≡ i.op → x ≡ i.a → y ≡ i.b → z ≡ i.c → w ≡ i.imm → instr o x y z w ≡ i
    by_fields o x y z w p q r s t =
        ap (λ (k : Op). instr k x y z w) p ∙ ap (λ (k : ℕ). instr i.op k y z w) q
        ∙ ap (λ (k : ℕ). instr i.op i.a k z w) r ∙ ap (λ (k : ℕ). instr i.op i.a i.b k w) s
        ∙ ap (λ (k : ℕ). instr i.op i.a i.b i.c k) t

-- code that can be encoded is what its bytes stand for
pub code_back : (code : List Instr) → list_all fits code ≡ true → code_in (code_bytes code) ≡ code
unfolding code_in
code_back [] h = refl
code_back (i ∷ is) h =
    let both = and_parts (fits i) (list_all fits is) h in
    ap (λ (x : Instr). x ∷ code_in (code_bytes is)) (held_instr i both.0)
    ∙ ap (λ (xs : List Instr). i ∷ xs) (code_back is both.1)
