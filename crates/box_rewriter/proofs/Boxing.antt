-- What the rewriter makes is boxed code that can be encoded.
use Rattle.std.proofs.Common.{◌≡◌, ℕ, zero, suc, ◌+◌, ◌-◌, ◌<◌, ◌≤◌, Bool, true, false, not, cond}
use Rattle.std.proofs.Common.{◌&&◌, ◌||◌, List, [], ◌∷◌, length, sym, ap, subst, ◌∙◌, refl, arith}
use Rattle.std.specs.Prelude.{◌==◌, slice_get, nat_lt, nat_le, Option, None, Some}
use Rattle.std.proofs.lemmas.Bool.{and_from, or_left, or_right, or_from, eq-eqb, lt-ltb, le-leb, not_from_false}
use Rattle.std.proofs.lemmas.Option.{slice_get_within}
use Rattle.graft_code.specs.declared.Instr.{Instr}
use Rattle.graft_code.specs.declared.Op.{Op}
use Rattle.graft_code.specs.declared.Op.TheVariants.{Or, Andi, Ldw, Stw, Ldb, Stb, Jmp, Jz, Jnz, Call}
use Rattle.graft_code.specs.Instructions.{names_register}
use Rattle.graft_code.specs.Machine.{Width, mask}
use Rattle.graft_code.specs.Boxed.{IsBoxed, access_width, is_some_width, is_jump, is_direct_call}
use Rattle.graft_code.specs.Boxed.{is_reserved, is_first, is_second, is_triple_of, is_triple_in}
use Rattle.graft_code.specs.Boxed.{is_triple, is_second_place, is_third_place, is_in_triple}
use Rattle.graft_code.specs.Boxed.{access_is_boxed, registers_are_boxed, jump_is_boxed}
use Rattle.graft_code.specs.Boxed.{call_is_boxed, ends_well, boxed_length, boxed_place}
use Rattle.graft_code.specs.Boxed.{boxed_access, boxed_instr, boxed_code, instr}
use Rattle.box_rewriter.proofs.Blocks.{IsUnreserved, AreFree, boxed_size, block_at, Origin}
use Rattle.box_rewriter.proofs.Blocks.{origin_of, ends_boxed, IsBlockEnd, before_target}
use Rattle.box_rewriter.proofs.Blocks.{place_below}

-- raw code that can be boxed
pub record IsRewritable (code : List Instr) : Type 0 where
  pub free : AreFree code
  pub targets : (n : ℕ) (i : Instr) → slice_get code n ≡ Some i → is_jump i.op ≡ true → i.imm < length code
  pub calls : (n : ℕ) (i : Instr) → slice_get code n ≡ Some i → is_direct_call i.op ≡ true → i.imm ≤ 15
  pub ends : ends_well code ≡ true
  pub few : boxed_place code (length code) ≤ 1024

-- ---- the places of triples

no_triple_by : (j : Instr) (b c : Option Instr) → ((w : Width) → is_first w j ≡ false) →
    is_triple_in (Some j) b c ≡ false
no_triple_by j None c h = refl
no_triple_by j (Some y) None h = refl
no_triple_by j (Some y) (Some z) h = by_width (access_width z.op)
  where
    by_width : (o : Option Width) → is_triple_of o j y z ≡ false
    by_width None = refl
    by_width (Some w) = rw (h w) refl

no_triple_from : (code : List Instr) (q : ℕ) → IsBlockEnd code q → is_triple code q ≡ false
no_triple_from code q b =
    ap (λ (o : Option Instr). is_triple_in o (slice_get code (q + 1)) (slice_get code (q + 2)))
    b.here ∙ no_triple_by b.j (slice_get code (q + 1)) (slice_get code (q + 2)) b.no_first

no_third_by : (a c : Option Instr) (j : Instr) → is_second j ≡ false → is_triple_in a (Some j) c ≡ false
no_third_by None c j h = refl
no_third_by (Some x) None j h = refl
no_third_by (Some x) (Some z) j h = by_width (access_width z.op)
  where
    by_first : (b : Bool) → (b && false && z.b == 14 && not (is_reserved z.a)) ≡ false
    by_first true = refl
    by_first false = refl

    by_width : (o : Option Width) → is_triple_of o x j z ≡ false
    by_width None = refl
    by_width (Some w) = rw h (by_first (is_first w x))

-- a target isn't the second or third of a triple
pub target_second : (code : List Instr) (p : ℕ) → ((q : ℕ) → p ≡ suc q → IsBlockEnd code q) →
    is_second_place code p ≡ false
target_second code zero before = refl
target_second code (suc q) before =
    let e : suc q - 1 ≡ q = omega arith in
    rw e (let h = no_triple_from code q (before q refl) in and_right_false (nat_le 1 (suc q)) (is_triple code q) h)
  where
    and_right_false : (a b : Bool) → b ≡ false → (a && b) ≡ false
    and_right_false true b h = h
    and_right_false false b h = refl

pub target_third : (code : List Instr) (p : ℕ) → ((q : ℕ) → p ≡ suc q → IsBlockEnd code q) →
    is_third_place code p ≡ false
target_third code zero before = refl
target_third code (suc zero) before = refl
target_third code (suc (suc r)) before =
    let b = before (suc r) refl in
    let e : suc (suc r) - 2 ≡ r = omega arith in
    let place : r + 1 ≡ suc r = omega arith in
    let h : is_triple code r ≡ false =
    ap (λ (o : Option Instr). is_triple_in (slice_get code r) o (slice_get code (r + 2)))
    (ap (λ (k : ℕ). slice_get code k) place ∙ b.here)
    ∙ no_third_by (slice_get code r) (slice_get code (r + 2)) b.j b.no_second in
    rw e (and_right_false (nat_le 2 (suc (suc r))) (is_triple code r) h)
  where
    and_right_false : (a b : Bool) → b ≡ false → (a && b) ≡ false
    and_right_false true b h = h
    and_right_false false b h = refl

-- ---- each place

-- the four conditions of a place
record IsAllowed (code : List Instr) (pc : ℕ) (j : Instr) : Type 0 where
  access : access_is_boxed code pc j ≡ true
  registers : registers_are_boxed code pc j ≡ true
  jump : jump_is_boxed code pc j ≡ true
  call : call_is_boxed code pc j ≡ true

-- the registers of an access
access_free_b : (op : Op) (w : Width) (a b c imm : ℕ) → access_width op ≡ Some w →
    IsUnreserved (instr op a b c imm) → (is_reserved a ≡ false) × (is_reserved b ≡ false)
access_free_b Ldw w a b c imm e h = grind arith
access_free_b Stw w a b c imm e h = grind arith
access_free_b Ldb w a b c imm e h = grind arith
access_free_b Stb w a b c imm e h = grind arith
access_free_b _ w a b c imm e h = cc

access_no_jump : (op : Op) (w : Width) → access_width op ≡ Some w → is_jump op ≡ false
access_no_jump Jmp w h = cc
access_no_jump Jz w h = cc
access_no_jump Jnz w h = cc
access_no_jump _ w h = refl

access_no_call : (op : Op) (w : Width) → access_width op ≡ Some w → is_direct_call op ≡ false
access_no_call Call w h = cc
access_no_call _ w h = refl

jump_no_call : (op : Op) → is_jump op ≡ true → is_direct_call op ≡ false
jump_no_call Call h = cc
jump_no_call _ h = refl

-- the block of an access
pub block_is : (code : List Instr) (i : Instr) (w : Width) → access_width i.op ≡ Some w →
    boxed_instr code i ≡ boxed_access i w
block_is code i w e = rw (e, boxed_instr) refl

pub length_of_access : (i : Instr) (w : Width) → access_width i.op ≡ Some w → boxed_length i ≡ 3
length_of_access i w e = rw (e, boxed_length) refl

-- an instruction of the block of an access
pub in_access : (code : List Instr) (n k : ℕ) (i : Instr) (w : Width) → slice_get code n ≡ Some i →
    access_width i.op ≡ Some w → k < 3
    → slice_get (boxed_code code) (boxed_place code n + k) ≡ slice_get (boxed_access i w) k
in_access code n k i w h e l =
    block_at code code n k i h (omega (arith, length_of_access i w e))
    ∙ ap (λ (b : List Instr). slice_get b k) (block_is code i w e)

triple_here : (code : List Instr) (n : ℕ) (i : Instr) (w : Width) → IsUnreserved i →
    slice_get code n ≡ Some i → access_width i.op ≡ Some w
    → is_triple (boxed_code code) (boxed_place code n) ≡ true
triple_here code n i w free h e =
    let parts = access_free_b i.op w i.a i.b i.c i.imm e free in
    let zero_more : boxed_place code n + 0 ≡ boxed_place code n = omega arith in
    let first = ap (λ (k : ℕ). slice_get (boxed_code code) k) (sym zero_more)
    ∙ in_access code n 0 i w h e (omega arith) in
    let second = in_access code n 1 i w h e (omega arith) in
    let third = in_access code n 2 i w h e (omega arith) in
    ap (λ (o : Option Instr). is_triple_in o (slice_get (boxed_code code) (boxed_place code n + 1))
    (slice_get (boxed_code code) (boxed_place code n + 2))) first
    ∙ ap (λ (o : Option Instr). is_triple_in (slice_get (boxed_access i w) 0) o
    (slice_get (boxed_code code) (boxed_place code n + 2))) second
    ∙ ap (λ (o : Option Instr). is_triple_in (slice_get (boxed_access i w) 0) (slice_get (boxed_access i w) 1) o) third
    ∙ passes w parts.0 parts.1
  where
    passes : (u : Width) → is_reserved i.a ≡ false → is_reserved i.b ≡ false
        → is_triple_of (access_width i.op) (instr Andi 14 i.b 0 (mask w)) (instr Or 14 14 15 0)
        (instr i.op i.a 14 0 0) ≡ true
    passes u a b = rw e (rw (a, b) (rw (eq-eqb (mask w) (mask w) refl) refl))

second_of : (code : List Instr) (p : ℕ) → is_triple code p ≡ true → is_second_place code (p + 1) ≡ true
second_of code p h =
    let place : p + 1 - 1 ≡ p = omega arith in
    let some : nat_le 1 (p + 1) ≡ true = grind arith in
    rw (place, some, h) refl

third_of : (code : List Instr) (p : ℕ) → is_triple code p ≡ true → is_third_place code (p + 2) ≡ true
third_of code p h =
    let place : p + 2 - 2 ≡ p = omega arith in
    let some : nat_le 2 (p + 2) ≡ true = grind arith in
    rw (place, some, h) refl

in_second : (code : List Instr) (p : ℕ) → is_second_place code p ≡ true → is_in_triple code p ≡ true
in_second code p h =
    or_left (is_triple code p || is_second_place code p) (is_third_place code p)
    (or_right (is_triple code p) (is_second_place code p) h)

in_third : (code : List Instr) (p : ℕ) → is_third_place code p ≡ true → is_in_triple code p ≡ true
in_third code p h = or_right (is_triple code p || is_second_place code p) (is_third_place code p) h

in_first : (code : List Instr) (p : ℕ) → is_triple code p ≡ true → is_in_triple code p ≡ true
in_first code p h =
    or_left (is_triple code p || is_second_place code p) (is_third_place code p)
    (or_left (is_triple code p) (is_second_place code p) h)

named_in_triple : (code : List Instr) (p : ℕ) (j : Instr) → is_in_triple code p ≡ true →
    registers_are_boxed code p j ≡ true
named_in_triple code p j h = or_left (is_in_triple code p) (not (names_register 14 j || names_register 15 j)) h

-- the three places of an access
allowed_access : (code : List Instr) (n k : ℕ) (i j : Instr) (w : Width) → IsUnreserved i →
    slice_get code n ≡ Some i → access_width i.op ≡ Some w
    → k < 3 → slice_get (boxed_access i w) k ≡ Some j → IsAllowed (boxed_code code) (boxed_place code n + k) j
allowed_access code n zero i j w free h e l same =
    let t = triple_here code n i w free h e in
    let zero_more : boxed_place code n + 0 ≡ boxed_place code n = omega arith in
    let j_is : instr Andi 14 i.b 0 (mask w) ≡ j = cc in
    rw (zero_more, ← j_is) (record {
      access = refl;
      registers =
          named_in_triple (boxed_code code) (boxed_place code n) (instr Andi 14 i.b 0 (mask w))
          (in_first (boxed_code code) (boxed_place code n) t);
      jump = refl;
      call = refl;
    })
allowed_access code n (suc zero) i j w free h e l same =
    let t = triple_here code n i w free h e in
    let j_is : instr Or 14 14 15 0 ≡ j = cc in
    rw (← j_is) (record {
      access = refl;
      registers =
          named_in_triple (boxed_code code)
          (boxed_place code n + 1) (instr Or 14 14 15 0) (in_second (boxed_code code)
          (boxed_place code n + 1) (second_of (boxed_code code) (boxed_place code n) t));
      jump = refl;
      call = refl;
    })
allowed_access code n (suc (suc zero)) i j w free h e l same =
    let t = triple_here code n i w free h e in
    let third = third_of (boxed_code code) (boxed_place code n) t in
    let j_is : instr i.op i.a 14 0 0 ≡ j = cc in
    rw (← j_is) (record {
      access =
          or_right (not (is_some_width (access_width i.op)))
          (is_third_place (boxed_code code) (boxed_place code n + 2)) third;
      registers =
          named_in_triple (boxed_code code) (boxed_place code n + 2) (instr i.op i.a 14 0 0)
          (in_third (boxed_code code) (boxed_place code n + 2) third);
      jump = or_left (not (is_jump i.op)) _ (not_from_false (is_jump i.op) (access_no_jump i.op w e));
      call = or_left (not (is_direct_call i.op)) _ (not_from_false (is_direct_call i.op) (access_no_call i.op w e));
    })
allowed_access code n (suc (suc (suc k))) i j w free h e l same = absurd (omega arith)

-- the place of an instruction that isn't an access
allowed_other : (code : List Instr) (n : ℕ) (i : Instr) (p : ℕ) (jump : Bool) → IsRewritable code →
    slice_get code n ≡ Some i → access_width i.op ≡ None → is_jump i.op ≡ jump
    → (j : Instr) → cond jump (record i { imm = boxed_place code i.imm } ∷ []) (i ∷ []) ≡ j ∷ [] →
    IsAllowed (boxed_code code) p j
allowed_other code n i p true r h e g j same =
    let j_is : record i { imm = boxed_place code i.imm } ≡ j = cc in
    let inside : i.imm < length code = r.targets n i h g in
    let size : length (boxed_code code) ≡ boxed_place code (length code) = boxed_size code code in
    let low : nat_lt (boxed_place code i.imm) (length (boxed_code code)) ≡ true =
    lt-ltb (boxed_place code i.imm) (length (boxed_code code))
    (omega (arith, size, place_below code i.imm inside)) in
    let before : (q : ℕ) → boxed_place code i.imm ≡ suc q → IsBlockEnd (boxed_code code) q =
    λ q e. before_target code code i.imm q r.free (omega arith) e in
    let second = target_second (boxed_code code) (boxed_place code i.imm) before in
    let third = target_third (boxed_code code) (boxed_place code i.imm) before in
    rw (← j_is) (record {
      access = or_left (not (is_some_width (access_width i.op))) _ (rw e refl);
      registers =
          or_right (is_in_triple (boxed_code code) p) _
          (not_from_false (names_register 14 i || names_register 15 i) (r.free.each n i h));
      jump =
          or_right (not (is_jump i.op)) _
          (and_from (nat_lt (boxed_place code i.imm) (length (boxed_code code))) _ low
          (not_from_false _ (or_from (is_second_place (boxed_code code) (boxed_place code i.imm))
          (is_third_place (boxed_code code) (boxed_place code i.imm)) second third)));
      call = or_left (not (is_direct_call i.op)) _ (not_from_false (is_direct_call i.op) (jump_no_call i.op g));
    })
allowed_other code n i p false r h e g j same =
    let j_is : i ≡ j = cc in
    rw (← j_is) (record {
      access = or_left (not (is_some_width (access_width i.op))) _ (rw e refl);
      registers =
          or_right (is_in_triple (boxed_code code) p) _
          (not_from_false (names_register 14 i || names_register 15 i) (r.free.each n i h));
      jump = or_left (not (is_jump i.op)) _ (not_from_false (is_jump i.op) g);
      call = by_call (is_direct_call i.op) refl;
    })
  where
    by_call : (b : Bool) → is_direct_call i.op ≡ b → call_is_boxed (boxed_code code) p i ≡ true
    by_call false c = or_left (not (is_direct_call i.op)) (nat_le i.imm 15) (not_from_false (is_direct_call i.op) c)
    by_call true c = or_right (not (is_direct_call i.op)) (nat_le i.imm 15) (le-leb i.imm 15 (r.calls n i h c))

-- the place of an instruction of a block
allowed_by : (code : List Instr) (q : ℕ) (j : Instr) (o : Origin code code q) (w : Option Width) →
    IsRewritable code → access_width o.i.op ≡ w
    → slice_get (boxed_code code) q ≡ Some j → IsAllowed (boxed_code code) q j
allowed_by code q j o (Some w) r e h =
    let l : o.k < 3 = omega (arith, o.within, length_of_access o.i w e) in
    let there : slice_get (boxed_access o.i w) o.k ≡ Some j =
    sym (in_access code o.n o.k o.i w o.raw e l) ∙ ap (λ (k : ℕ). slice_get (boxed_code code) k) (sym o.place) ∙ h in
    subst (λ (k : ℕ). IsAllowed (boxed_code code) k j) (sym o.place)
    (allowed_access code o.n o.k o.i j w (r.free.each o.n o.i o.raw) o.raw e l there)
allowed_by code q j o None r e h =
    let one : boxed_length o.i ≡ 1 = rw (e, boxed_length) refl in
    let first : o.k ≡ 0 = omega (arith, o.within, one) in
    let block : boxed_instr code o.i ≡ cond (is_jump o.i.op)
    (record (o.i) { imm = boxed_place code o.i.imm } ∷ []) (o.i ∷ []) =
    rw (e, boxed_instr) refl in
    let there : slice_get (boxed_instr code o.i) 0 ≡ Some j =
    ap (λ (k : ℕ). slice_get (boxed_instr code o.i) k) (sym first) ∙ sym (block_at code code o.n o.k o.i o.raw o.within)
    ∙ ap (λ (k : ℕ). slice_get (boxed_code code) k) (sym o.place) ∙ h in
    allowed_other code o.n o.i q (is_jump o.i.op) r o.raw e refl j
    (only (is_jump o.i.op) (record (o.i) { imm = boxed_place code o.i.imm }) o.i
    (sym (ap (λ (b : List Instr). slice_get b 0) block) ∙ there))
  where
    only : (b : Bool) (x y : Instr) → slice_get (cond b (x ∷ []) (y ∷ [])) 0 ≡ Some j →
        cond b (x ∷ []) (y ∷ []) ≡ j ∷ []
    only true x y h = let e : x ≡ j = cc in ap (λ (k : Instr). k ∷ []) e
    only false x y h = let e : y ≡ j = cc in ap (λ (k : Instr). k ∷ []) e

allowed_at : (code : List Instr) (q : ℕ) (j : Instr) → IsRewritable code →
    slice_get (boxed_code code) q ≡ Some j → IsAllowed (boxed_code code) q j
allowed_at code q j r h =
    let inside : q < boxed_place code (length code) =
    omega (arith, slice_get_within (boxed_code code) q j h, boxed_size code code) in
    let o = origin_of code code q inside in
    allowed_by code q j o (access_width o.i.op) r refl h

-- boxed code is boxed
pub boxed_is_boxed : (code : List Instr) → IsRewritable code → IsBoxed (boxed_code code)
boxed_is_boxed code r = record {
  accesses = λ pc i h. (allowed_at code pc i r h).access;
  registers = λ pc i h. (allowed_at code pc i r h).registers;
  jumps = λ pc i h. (allowed_at code pc i r h).jump;
  calls = λ pc i h. (allowed_at code pc i r h).call;
  last = ends_boxed code code r.free ∙ r.ends;
}
