-- Boxed code of code that can be encoded can be encoded.
use Rattle.std.proofs.Common.{◌≡◌, ℕ, suc, ◌^◌, ◌<◌, ◌≤◌, Bool, true, false, cond, ◌&&◌, List, []}
use Rattle.std.proofs.Common.{◌∷◌, length, sym, ap, subst, ◌∙◌, refl, arith}
use Rattle.std.specs.Prelude.{◌==◌, slice_get, nat_lt, flat_map, Option, None, Some, Ok}
use Rattle.std.specs.List.{list_all}
use Rattle.std.proofs.lemmas.Bool.{and_parts, and_from, lt-ltb}
use Rattle.std.proofs.lemmas.List.Folds.{list_all-append}
use Rattle.graft_code.specs.declared.Instr.{Instr}
use Rattle.graft_code.specs.declared.Op.{Op}
use Rattle.graft_code.specs.declared.Op.TheVariants.{Andi, Or, Ldw, Stw, Ldb, Stb, Jmp, Jz, Jnz}
use Rattle.graft_code.specs.World.{plain_image}
use Rattle.graft_code.specs.Instructions.{fits}
use Rattle.graft_code.specs.Machine.{Width, Word, Byte, mask}
use Rattle.graft_code.specs.Boxed.{IsBoxed, access_width, is_jump, boxed_place, boxed_access}
use Rattle.graft_code.specs.Boxed.{boxed_instr, instr, rewrite}
use Rattle.box_rewriter.specs.Words.{IsBoxedImage}
use Rattle.box_rewriter.proofs.Blocks.{boxed_size, place_below}
use Rattle.box_rewriter.proofs.Boxing.{boxed_is_boxed}
use Rattle.box_rewriter.proofs.Faults.{rewritten}

triple_fits : (op : Op) (a b : ℕ) (w : Width) → nat_lt a 16 ≡ true → nat_lt b 16 ≡ true →
    fits (instr op a 14 0 0) ≡ true
    → list_all fits (instr Andi 14 b 0 (mask w) ∷ instr Or 14 14 15 0 ∷ instr op a 14 0 0 ∷ []) ≡ true
triple_fits op a b Word ha hb h = rw (hb, h) refl
triple_fits op a b Byte ha hb h = rw (hb, h) refl

two_registers : (a b c imm : ℕ) → (nat_lt a 16 && nat_lt b 16 && c == 0 && imm == 0) ≡ true →
    (nat_lt a 16 ≡ true) × (nat_lt b 16 ≡ true)
two_registers a b c imm h =
    let front = and_parts (nat_lt a 16 && nat_lt b 16 && c == 0) (imm == 0) h in
    let two = and_parts (nat_lt a 16 && nat_lt b 16) (c == 0) front.0 in
    and_parts (nat_lt a 16) (nat_lt b 16) two.0

access_fits : (op : Op) (a b c imm : ℕ) (w : Width) → access_width op ≡ Some w → fits (instr op a b c imm) ≡ true
    → list_all fits (boxed_access (instr op a b c imm) w) ≡ true
access_fits Ldw a b c imm w e h =
    let p = two_registers a b c imm h in
    triple_fits Ldw a b w p.0 p.1 (let g = p.0 in rw g refl)
access_fits Stw a b c imm w e h =
    let p = two_registers a b c imm h in
    triple_fits Stw a b w p.0 p.1 (let g = p.0 in rw g refl)
access_fits Ldb a b c imm w e h =
    let p = two_registers a b c imm h in
    triple_fits Ldb a b w p.0 p.1 (let g = p.0 in rw g refl)
access_fits Stb a b c imm w e h =
    let p = two_registers a b c imm h in
    triple_fits Stb a b w p.0 p.1 (let g = p.0 in rw g refl)
access_fits _ a b c imm w e h = cc

jump_fits : (op : Op) (a b c imm to : ℕ) → is_jump op ≡ true → fits (instr op a b c imm) ≡ true →
    nat_lt to (2 ^ 32) ≡ true → fits (instr op a b c to) ≡ true
jump_fits Jmp a b c imm to j h g =
    and_from (a == 0 && b == 0 && c == 0) (nat_lt to (2 ^ 32))
    (and_parts (a == 0 && b == 0 && c == 0) (nat_lt imm (2 ^ 32)) h).0 g
jump_fits Jz a b c imm to j h g =
    and_from (nat_lt a 16 && b == 0 && c == 0) (nat_lt to (2 ^ 32))
    (and_parts (nat_lt a 16 && b == 0 && c == 0) (nat_lt imm (2 ^ 32)) h).0 g
jump_fits Jnz a b c imm to j h g =
    and_from (nat_lt a 16 && b == 0 && c == 0) (nat_lt to (2 ^ 32))
    (and_parts (nat_lt a 16 && b == 0 && c == 0) (nat_lt imm (2 ^ 32)) h).0 g
jump_fits _ a b c imm to j h g = cc

alone : (b : Bool) → b ≡ true → (b && true) ≡ true
alone true h = refl
alone false h = h

block_fits_by : (code : List Instr) (i : Instr) (o : Option Width) (jump : Bool) →
    access_width i.op ≡ o → is_jump i.op ≡ jump → fits i ≡ true
    → (is_jump i.op ≡ true → boxed_place code i.imm < 2 ^ 32)
    → list_all fits (elim o [
      | Some width ↦ boxed_access i width
      | None ↦ cond jump (record i { imm = boxed_place code i.imm } ∷ []) (i ∷ [])
    ]) ≡ true
block_fits_by code i (Some w) jump e j h small = access_fits i.op i.a i.b i.c i.imm w e h
block_fits_by code i None true e j h small =
    alone (fits (record i { imm = boxed_place code i.imm })) (jump_fits i.op i.a i.b i.c i.imm
    (boxed_place code i.imm) j h (lt-ltb (boxed_place code i.imm) (2 ^ 32) (small j)))
block_fits_by code i None false e j h small = alone (fits i) h

-- the targets that have moved are words
record AreWords (code is : List Instr) : Type 0 where
  each : (n : ℕ) (i : Instr) → slice_get is n ≡ Some i → is_jump i.op ≡ true → boxed_place code i.imm < 2 ^ 32

rest_words : (code : List Instr) (x : Instr) (is : List Instr) → AreWords code (x ∷ is) → AreWords code is
rest_words code x is w = record { each = λ n i h. w.each (suc n) i h }

boxed_fits : (code is : List Instr) → AreWords code is → list_all fits is ≡ true →
    list_all fits (flat_map (boxed_instr code) is) ≡ true
boxed_fits code [] w h = refl
boxed_fits code (x ∷ is) w h =
    let parts = and_parts (fits x) (list_all fits is) h in
    list_all-append fits (boxed_instr code x) (flat_map (boxed_instr code) is)
    ∙ and_from (list_all fits (boxed_instr code x)) (list_all fits (flat_map (boxed_instr code) is))
    (block_fits_by code x (access_width x.op) (is_jump x.op) refl refl parts.0 (w.each 0 x refl))
    (boxed_fits code is (rest_words code x is w) parts.1)

-- what the rewriter gives, with data within the limits, is a boxed image
pub boxed_image : (code boxed : List Instr) (body : List ℕ) → rewrite code ≡ Ok boxed →
    list_all fits code ≡ true → length body ≤ 4096
    → IsBoxedImage (plain_image boxed body)
boxed_image code boxed body h fit few =
    let w = rewritten code boxed h in
    let words : AreWords code code = record {
      each = λ n i e j. let target = w.can.targets n i e j in omega (arith, place_below code i.imm target, w.can.few);
    } in
    record {
      few = omega (arith, ap length w.is, boxed_size code code, w.can.few);
      fit = ap (λ (c : List Instr). list_all fits c) w.is ∙ boxed_fits code code words fit;
      boxed = subst (λ (c : List Instr). IsBoxed c) (sym w.is) (boxed_is_boxed code w.can);
      body = few;
    }
