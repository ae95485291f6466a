-- One instruction of raw code, with its address masked, and what stands for it.
use Rattle.std.proofs.Common.{◌≡◌, ◌≢◌, ℕ, ◌+◌, ◌-◌, ◌*◌, ◌/◌, ◌%◌, ◌^◌, ◌<◌, Bool, true, false}
use Rattle.std.proofs.Common.{cond, ◌&&◌, List, length, sym, ap, subst, ◌∙◌, refl, arith}
use Rattle.std.specs.Prelude.{◌==◌, nat_lt, bit_and, bit_or, bit_xor, Option, None, Some}
use Rattle.std.proofs.lemmas.Bool.{eqb-false}
use Rattle.std.proofs.lemmas.Bool.Decides.{nat_tests}
use Rattle.graft_code.specs.declared.Instr.{Instr}
use Rattle.graft_code.specs.declared.Op.{Op}
use Rattle.graft_code.specs.declared.Op.TheVariants.{Li, Mov, Add, Sub, Mul, And, Or, Xor, Shl}
use Rattle.graft_code.specs.declared.Op.TheVariants.{Shr, Divu, Remu, Sltu, Addi, Andi, Ldw, Stw}
use Rattle.graft_code.specs.declared.Op.TheVariants.{Ldb, Stb, Jmp, Jz, Jnz, Call, Callr, Trap}
use Rattle.graft_code.specs.declared.Op.TheVariants.{Ret}
use Rattle.graft_code.specs.Instructions.{row_of}
use Rattle.graft_code.specs.Objects.{at}
use Rattle.graft_code.specs.Machine.{Machine, Done, Went, Called, Returned, DividedByZero, Trapped}
use Rattle.graft_code.specs.Machine.{Outside, PastEnd, Width, Word, Byte, word, mask, load, store}
use Rattle.graft_code.specs.Machine.{sets, jumps, calls, reads, writes, exec, segment_place}
use Rattle.graft_code.specs.Machine.{masked_place, segment_base}
use Rattle.graft_code.specs.Boxed.{access_width, is_jump, is_end, boxed_place}
use Rattle.box_rewriter.proofs.Offsets.{IsOffset, masked_offset, place_found}

-- two machines have the same registers, r14 apart, and the same segment; r15 is the base
pub record AreSame (base : ℕ) (m n : Machine) : Type 0 where
  pub regs : (r : ℕ) → r ≢ 14 → n.regs r ≡ m.regs r
  pub base_is : m.regs 15 ≡ base
  pub segment : (k : ℕ) → k < 4096 → n.memory k ≡ m.memory k

-- a raw machine and a boxed one that stands where the raw place has moved
pub record IsAlike (code : List Instr) (base : ℕ) (m n : Machine) : Type 0 where
  pub same : AreSame base m n
  pub place : n.pc ≡ boxed_place code m.pc

-- a machine that has gone on, and the other that has done so too
pub record GoneOn (code : List Instr) (base : ℕ) (m : Machine) : Type 0 where
  pub n : Machine
  pub alike : IsAlike code base m n
  pub inside : m.pc < length code

-- what was done is the same
abbrev pub DoneAlike : (code : List Instr) (base : ℕ) → Done → Done → Type 0
DoneAlike code base (Went m) d = (w : GoneOn code base m) × (d ≡ Went w.n)
DoneAlike code base (Called id m) d = (w : GoneOn code base m) × (d ≡ Called id w.n)
DoneAlike code base Returned d = d ≡ Returned
DoneAlike code base DividedByZero d = d ≡ DividedByZero
DoneAlike code base (Trapped c) d = d ≡ Trapped c
DoneAlike code base Outside d = ⊥
DoneAlike code base PastEnd d = ⊥

-- where both stand before an instruction, and behind it
pub record Stand (code : List Instr) (base : ℕ) (m n : Machine) (ends : Bool) : Type 0 where
  pub same : AreSame base m n
  pub more : ends ≡ false → m.pc + 1 < length code
  pub next : n.pc + 1 ≡ boxed_place code (m.pc + 1)

-- the registers that an operation names aren't the sandbox's own
pub record Fields (op : Op) (a b c : ℕ) : Type 0 where
  pub a14 : ((row_of op).form.a && a == 14) ≡ false
  pub a15 : ((row_of op).form.a && a == 15) ≡ false
  pub b14 : ((row_of op).form.b && b == 14) ≡ false
  pub c14 : ((row_of op).form.c && c == 14) ≡ false

pub either : (t : Bool) (v x y : ℕ) → x ≡ y → cond t v x ≡ cond t v y
either true v x y h = refl
either false v x y h = h

other_kept : (a r v : ℕ) (regs : ℕ → ℕ) → (a == r) ≡ false → at a v regs r ≡ regs r
other_kept a r v regs h = let turned : (r == a) ≡ false = grind (arith, nat_tests) in rw turned refl

-- a register that is set
pub set_same : (base a v : ℕ) (m n : Machine) (p q : ℕ) → AreSame base m n → (a == 15) ≡ false
    → AreSame base (record { regs = at a v m.regs; pc = p; memory = m.memory })
    (record { regs = at a v n.regs; pc = q; memory = n.memory })
set_same base a v m n p q s h = record {
  regs = λ r e. either (r == a) v (n.regs r) (m.regs r) (s.regs r e);
  base_is = other_kept a 15 v m.regs h ∙ s.base_is;
  segment = s.segment;
}

sets_alike : (code : List Instr) (base a v w : ℕ) (m n : Machine) → Stand code base m n false →
    (a == 15) ≡ false → w ≡ v
    → DoneAlike code base (sets m a v) (sets n a w)
sets_alike code base a v w m n s h e = (
  record {
    n = record { regs = at a (word v) n.regs; pc = n.pc + 1; memory = n.memory };
    alike = record { same = set_same base a (word v) m n (m.pc + 1) (n.pc + 1) s.same h; place = s.next };
    inside = s.more refl;
  },
  ap (λ (x : ℕ). sets n a x) e,
)

division_alike : (code : List Instr) (base a v w : ℕ) (t u : Bool) (m n : Machine) →
    Stand code base m n false → (a == 15) ≡ false → w ≡ v → u ≡ t
    → DoneAlike code base (elim t [ true ↦ DividedByZero | false ↦ sets m a v ])
    (elim u [ true ↦ DividedByZero | false ↦ sets n a w ])
division_alike code base a v w true true m n s h e f = refl
division_alike code base a v w false false m n s h e f = sets_alike code base a v w m n s h e
division_alike code base a v w true false m n s h e f = cc
division_alike code base a v w false true m n s h e f = cc

calls_alike : (code : List Instr) (base v w : ℕ) (m n : Machine) → Stand code base m n false →
    w ≡ v → DoneAlike code base (calls m v) (calls n w)
calls_alike code base v w m n s e = (
  record {
    n = record { regs = n.regs; pc = n.pc + 1; memory = n.memory };
    alike =
        record {
          same = record { regs = s.same.regs; base_is = s.same.base_is; segment = s.same.segment };
          place = s.next;
        };
    inside = s.more refl;
  },
  ap (λ (x : ℕ). calls n x) e,
)

both : (f : ℕ → ℕ → ℕ) (x y z w : ℕ) → x ≡ y → z ≡ w → f x z ≡ f y w
both f x y z w e g = rw (e, g) refl

-- a register that is named is the same in both
named : (base r : ℕ) (m n : Machine) → AreSame base m n → (r == 14) ≡ false → n.regs r ≡ m.regs r
named base r m n s h = s.regs r (eqb-false r 14 h)

-- an instruction that is no access and no jump
pub exec_alike : (code : List Instr) (base : ℕ) (op : Op) (a b c imm : ℕ) (m n : Machine) →
    access_width op ≡ None → is_jump op ≡ false → Fields op a b c
    → Stand code base m n (is_end op) →
    DoneAlike code base (exec masked_place op a b c imm m) (exec segment_place op a b c imm n)
exec_alike code base Li a b c imm m n w j f s = sets_alike code base a imm imm m n s f.a15 refl
exec_alike code base Mov a b c imm m n w j f s =
    sets_alike code base a (m.regs b) (n.regs b) m n s f.a15 (named base b m n s.same f.b14)
exec_alike code base Add a b c imm m n w j f s =
    sets_alike code base a _ _ m n s f.a15 (both (λ x y. x + y) (n.regs b) (m.regs b) (n.regs c)
    (m.regs c) (named base b m n s.same f.b14) (named base c m n s.same f.c14))
exec_alike code base Sub a b c imm m n w j f s =
    sets_alike code base a _ _ m n s f.a15 (both (λ x y. x + 2 ^ 32 - y) (n.regs b) (m.regs b)
    (n.regs c) (m.regs c) (named base b m n s.same f.b14) (named base c m n s.same f.c14))
exec_alike code base Mul a b c imm m n w j f s =
    sets_alike code base a _ _ m n s f.a15 (both (λ x y. x * y) (n.regs b) (m.regs b) (n.regs c)
    (m.regs c) (named base b m n s.same f.b14) (named base c m n s.same f.c14))
exec_alike code base And a b c imm m n w j f s =
    sets_alike code base a _ _ m n s f.a15 (both (λ x y. bit_and x y) (n.regs b) (m.regs b)
    (n.regs c) (m.regs c) (named base b m n s.same f.b14) (named base c m n s.same f.c14))
exec_alike code base Or a b c imm m n w j f s =
    sets_alike code base a _ _ m n s f.a15 (both (λ x y. bit_or x y) (n.regs b) (m.regs b)
    (n.regs c) (m.regs c) (named base b m n s.same f.b14) (named base c m n s.same f.c14))
exec_alike code base Xor a b c imm m n w j f s =
    sets_alike code base a _ _ m n s f.a15 (both (λ x y. bit_xor x y) (n.regs b) (m.regs b)
    (n.regs c) (m.regs c) (named base b m n s.same f.b14) (named base c m n s.same f.c14))
exec_alike code base Shl a b c imm m n w j f s =
    sets_alike code base a _ _ m n s f.a15 (both (λ x y. x * 2 ^ (y % 32)) (n.regs b) (m.regs b)
    (n.regs c) (m.regs c) (named base b m n s.same f.b14) (named base c m n s.same f.c14))
exec_alike code base Shr a b c imm m n w j f s =
    sets_alike code base a _ _ m n s f.a15 (both (λ x y. x / 2 ^ (y % 32)) (n.regs b) (m.regs b)
    (n.regs c) (m.regs c) (named base b m n s.same f.b14) (named base c m n s.same f.c14))
exec_alike code base Divu a b c imm m n w j f s =
    division_alike code base a (m.regs b / m.regs c) (n.regs b / n.regs c) (m.regs c == 0) (n.regs c == 0) m n s f.a15
    (both (λ x y. x / y) (n.regs b) (m.regs b) (n.regs c) (m.regs c) (named base b m n s.same f.b14)
    (named base c m n s.same f.c14))
    (ap (λ (x : ℕ). x == 0) (named base c m n s.same f.c14))
exec_alike code base Remu a b c imm m n w j f s =
    division_alike code base a (m.regs b % m.regs c) (n.regs b % n.regs c) (m.regs c == 0) (n.regs c == 0) m n s f.a15
    (both (λ x y. x % y) (n.regs b) (m.regs b) (n.regs c) (m.regs c) (named base b m n s.same f.b14)
    (named base c m n s.same f.c14))
    (ap (λ (x : ℕ). x == 0) (named base c m n s.same f.c14))
exec_alike code base Sltu a b c imm m n w j f s =
    sets_alike code base a _ _ m n s f.a15
    (both (λ x y. cond (nat_lt x y) 1 0) (n.regs b) (m.regs b) (n.regs c) (m.regs c)
    (named base b m n s.same f.b14) (named base c m n s.same f.c14))
exec_alike code base Addi a b c imm m n w j f s =
    sets_alike code base a _ _ m n s f.a15 (ap (λ (x : ℕ). x + imm) (named base b m n s.same f.b14))
exec_alike code base Andi a b c imm m n w j f s =
    sets_alike code base a _ _ m n s f.a15
    (ap (λ (x : ℕ). bit_and x imm) (named base b m n s.same f.b14))
exec_alike code base Call a b c imm m n w j f s = calls_alike code base imm imm m n s refl
exec_alike code base Callr a b c imm m n w j f s =
    calls_alike code base (m.regs a) (n.regs a) m n s (named base a m n s.same f.a14)
exec_alike code base Trap a b c imm m n w j f s = refl
exec_alike code base Ret a b c imm m n w j f s = refl
exec_alike code base Jmp a b c imm m n w j f s = cc
exec_alike code base Jz a b c imm m n w j f s = cc
exec_alike code base Jnz a b c imm m n w j f s = cc
exec_alike code base Ldw a b c imm m n w j f s = cc
exec_alike code base Stw a b c imm m n w j f s = cc
exec_alike code base Ldb a b c imm m n w j f s = cc
exec_alike code base Stb a b c imm m n w j f s = cc

-- ---- jumps

jumps_alike : (code : List Instr) (base to moved : ℕ) (m n : Machine) → AreSame base m n →
    moved ≡ boxed_place code to → to < length code
    → DoneAlike code base (jumps m to) (jumps n moved)
jumps_alike code base to moved m n s e h = (
  record {
    n = record { regs = n.regs; pc = moved; memory = n.memory };
    alike = record { same = record { regs = s.regs; base_is = s.base_is; segment = s.segment }; place = e };
    inside = h;
  },
  refl,
)

branch_alike : (code : List Instr) (base to moved on behind : ℕ) (t u : Bool) (m n : Machine) →
    AreSame base m n → moved ≡ boxed_place code to → to < length code
    → behind ≡ boxed_place code on → on < length code → u ≡ t
    → DoneAlike code base (elim t [ true ↦ jumps m to | false ↦ jumps m on ])
    (elim u [ true ↦ jumps n moved | false ↦ jumps n behind ])
branch_alike code base to moved on behind true true m n s e h g k f = jumps_alike code base to moved m n s e h
branch_alike code base to moved on behind false false m n s e h g k f = jumps_alike code base on behind m n s g k
branch_alike code base to moved on behind true false m n s e h g k f = cc
branch_alike code base to moved on behind false true m n s e h g k f = cc

-- a jump whose target has moved
pub jump_alike : (code : List Instr) (base : ℕ) (op : Op) (a b c imm : ℕ) (m n : Machine) →
    is_jump op ≡ true → Fields op a b c
    → Stand code base m n (is_end op) → imm < length code
    → DoneAlike code base (exec masked_place op a b c imm m) (exec segment_place op a b c (boxed_place code imm) n)
jump_alike code base Jmp a b c imm m n j f s h = jumps_alike code base imm (boxed_place code imm) m n s.same refl h
jump_alike code base Jz a b c imm m n j f s h =
    branch_alike code base imm (boxed_place code imm)
    (m.pc + 1) (n.pc + 1) (m.regs a == 0) (n.regs a == 0) m n s.same refl h s.next (s.more refl)
    (ap (λ (x : ℕ). x == 0) (named base a m n s.same f.a14))
jump_alike code base Jnz a b c imm m n j f s h =
    branch_alike code base (m.pc + 1) (n.pc + 1) imm (boxed_place code imm)
    (m.regs a == 0) (n.regs a == 0) m n s.same s.next (s.more refl) refl h
    (ap (λ (x : ℕ). x == 0) (named base a m n s.same f.a14))
jump_alike code base _ a b c imm m n j f s h = cc

-- ---- accesses

abbrev Agree : (ℕ → ℕ) → (ℕ → ℕ) → Type 0
Agree f g = (k : ℕ) → k < 4096 → f k ≡ g k

load_same : (w : Width) (q : ℕ) (f g : ℕ → ℕ) → Agree f g → IsOffset w q → load w f q ≡ load w g q
load_same Byte q f g h o = h q o.within
load_same Word q f g h o =
    let room : q + 3 < 4096 = o.room refl in
    let e0 : f q ≡ g q = h q o.within in
    let e1 : f (q + 1) ≡ g (q + 1) = h (q + 1) (omega arith) in
    let e2 : f (q + 2) ≡ g (q + 2) = h (q + 2) (omega arith) in
    let e3 : f (q + 3) ≡ g (q + 3) = h (q + 3) room in
    rw (e0, e1, e2, e3) refl

at_agree : (q v : ℕ) (f g : ℕ → ℕ) → Agree f g → Agree (at q v f) (at q v g)
at_agree q v f g h k l = either (k == q) v (f k) (g k) (h k l)

store_agree : (w : Width) (q v : ℕ) (f g : ℕ → ℕ) → Agree f g → Agree (store w f q v) (store w g q v)
store_agree Byte q v f g h = at_agree q (v % 256) f g h
store_agree Word q v f g h =
    let f1 : ℕ → ℕ = at q (v % 256) f in
    let g1 : ℕ → ℕ = at q (v % 256) g in
    let f2 : ℕ → ℕ = at (q + 1) (v / 256 % 256) f1 in
    let g2 : ℕ → ℕ = at (q + 1) (v / 256 % 256) g1 in
    let f3 : ℕ → ℕ = at (q + 2) (v / 65536 % 256) f2 in
    let g3 : ℕ → ℕ = at (q + 2) (v / 65536 % 256) g2 in
    let h1 : Agree f1 g1 = at_agree q (v % 256) f g h in
    let h2 : Agree f2 g2 = at_agree (q + 1) (v / 256 % 256) f1 g1 h1 in
    let h3 : Agree f3 g3 = at_agree (q + 2) (v / 65536 % 256) f2 g2 h2 in
    at_agree (q + 3) (v / 16777216) f3 g3 h3

reads_alike : (code : List Instr) (base a q : ℕ) (w : Width) (m n : Machine) →
    Stand code base m n false → (a == 15) ≡ false → IsOffset w q
    → DoneAlike code base (reads m w a (Some q)) (reads n w a (Some q))
reads_alike code base a q w m n s h o =
    sets_alike code base a (load w m.memory q) (load w n.memory q) m n s h
    (load_same w q n.memory m.memory s.same.segment o)

writes_alike : (code : List Instr) (base q v u : ℕ) (w : Width) (m n : Machine) → Stand code base m n false → u ≡ v
    → DoneAlike code base (writes m w v (Some q)) (writes n w u (Some q))
writes_alike code base q v u w m n s e = (
  record {
    n = record { regs = n.regs; pc = n.pc + 1; memory = store w n.memory q v };
    alike = record {
      same =
          record {
            regs = s.same.regs;
            base_is = s.same.base_is;
            segment = store_agree w q v n.memory m.memory s.same.segment;
          };
      place = s.next;
    };
    inside = s.more refl;
  },
  ap (λ (x : ℕ). writes n w x (Some q)) e,
)

-- the address in r14 of the other machine, for an access of either width
abbrev pub HasAddress : (slot : ℕ) → Op → (b : ℕ) → (m n : Machine) → Type 0
HasAddress slot op b m n =
    (u : Width) → access_width op ≡ Some u →
    n.regs 14 ≡ segment_base slot + bit_and (m.regs b) (mask u)

-- an access whose address stands in r14 of the other machine
pub access_alike : (code : List Instr) (slot : ℕ) (op : Op) (a b c imm : ℕ) (w : Width)
    (m n : Machine) → access_width op ≡ Some w → Fields op a b c
    → (a == 14) ≡ false → Stand code (segment_base slot) m n (is_end op) →
    n.regs 15 ≡ segment_base slot → HasAddress slot op b m n
    → DoneAlike code (segment_base slot) (exec masked_place op a b c imm m) (exec segment_place op a 14 0 0 n)
access_alike code slot Ldw a b c imm w m n e f g s base address =
    let q = bit_and (m.regs b) (mask Word) in
    let o = masked_offset Word (m.regs b) in
    subst (λ (x : Option ℕ). DoneAlike code (segment_base slot)
    (reads m Word a (Some (bit_and (m.regs b) (mask Word)))) (reads n Word a x))
    (sym (place_found Word n slot (bit_and (m.regs b) (mask Word)) base (address Word refl) o))
    (reads_alike code (segment_base slot) a (bit_and (m.regs b) (mask Word)) Word m n s f.a15 o)
access_alike code slot Ldb a b c imm w m n e f g s base address =
    let o = masked_offset Byte (m.regs b) in
    subst (λ (x : Option ℕ). DoneAlike code (segment_base slot)
    (reads m Byte a (Some (bit_and (m.regs b) (mask Byte)))) (reads n Byte a x))
    (sym (place_found Byte n slot (bit_and (m.regs b) (mask Byte)) base (address Byte refl) o))
    (reads_alike code (segment_base slot) a (bit_and (m.regs b) (mask Byte)) Byte m n s f.a15 o)
access_alike code slot Stw a b c imm w m n e f g s base address =
    subst (λ (x : Option ℕ). DoneAlike code (segment_base slot) (writes m Word (m.regs a)
    (Some (bit_and (m.regs b) (mask Word)))) (writes n Word (n.regs a) x))
    (sym (place_found Word n slot (bit_and (m.regs b) (mask Word)) base (address Word refl)
    (masked_offset Word (m.regs b))))
    (writes_alike code (segment_base slot) (bit_and (m.regs b) (mask Word)) (m.regs a) (n.regs a)
    Word m n s (named (segment_base slot) a m n s.same g))
access_alike code slot Stb a b c imm w m n e f g s base address =
    subst (λ (x : Option ℕ). DoneAlike code (segment_base slot) (writes m Byte (m.regs a)
    (Some (bit_and (m.regs b) (mask Byte)))) (writes n Byte (n.regs a) x))
    (sym (place_found Byte n slot (bit_and (m.regs b) (mask Byte)) base (address Byte refl)
    (masked_offset Byte (m.regs b))))
    (writes_alike code (segment_base slot) (bit_and (m.regs b) (mask Byte)) (m.regs a) (n.regs a)
    Byte m n s (named (segment_base slot) a m n s.same g))
access_alike code slot _ a b c imm w m n e f g s base address = cc
