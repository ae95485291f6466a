-- The table of places, built from the first instruction on.
use Rattle.std.proofs.Common.{◌≡◌, ℕ, ◌+◌, ◌*◌, ◌<◌, ◌≤◌, Bool, true, false, cond, List, [], ◌∷◌}
use Rattle.std.proofs.Common.{◌++◌, length, length-append, get_or, take, sym, ap, ◌∙◌, refl, arith}
use Rattle.std.proofs.Common.{inl, inr}
use Rattle.std.specs.Prelude.{◌⊎◌, flat_map, Option, None, Some}
use Rattle.std.proofs.lemmas.Bool.{cases_lt}
use Rattle.std.proofs.lemmas.List.{get_or_append_left, get_or_push, flat_map_more, take_more}
use Rattle.std.proofs.lemmas.Option.{slice_get-get_or}
use Rattle.graft_code.specs.declared.Instr.{Instr}
use Rattle.graft_code.specs.Machine.{Width}
use Rattle.graft_code.specs.Boxed.{access_width, is_jump, boxed_length, boxed_place, boxed_access, boxed_instr}
use Rattle.box_rewriter.specs.Words.{ArePlaces, boxed_by}
use Rattle.box_rewriter.proofs.Blocks.{place_next}

-- the places of the first n instructions stand, and this is the next one
pub record Passed (code : List Instr) (n place : ℕ) (places : List ℕ) : Type 0 where
  pub count : length places ≡ n
  pub next : place ≡ boxed_place code n
  pub few : place ≤ 3 * n
  pub each : (k : ℕ) → k < n → get_or places k 0 ≡ boxed_place code k

pub place_zero : (code : List Instr) → 0 ≡ boxed_place code 0
place_zero [] = refl
place_zero (i ∷ is) = refl

pub Passed-none : (code : List Instr) (places : List ℕ) → places ≡ [] → Passed code 0 0 places
Passed-none code places e =
    record {
      count = ap length e;
      next = place_zero code;
      few = omega arith;
      each = λ k h. absurd (omega arith);
    }

each_more : (code : List Instr) (n place : ℕ) (places : List ℕ) → Passed code n place places → (k : ℕ) → k < n + 1
    → get_or (places ++ place ∷ []) k 0 ≡ boxed_place code k
each_more code n place places p k h = by_order (cases_lt k n)
  where
    by_order : ((k < n) ⊎ (n ≤ k)) → get_or (places ++ place ∷ []) k 0 ≡ boxed_place code k
    by_order (inl low) = get_or_append_left places (place ∷ []) 0 k (omega (arith, p.count)) ∙ p.each k low
    by_order (inr high) =
        let e : n ≡ k = omega arith in
        get_or_push places place 0 k (p.count ∙ e) ∙ p.next ∙ ap (λ (j : ℕ). boxed_place code j) e

pub Passed-more : (code : List Instr) (n place more : ℕ) (places : List ℕ) (d : Instr) →
    Passed code n place places → n < length code
    → more ≡ boxed_length (get_or code n d) → more ≤ 3 → Passed code (n + 1) (place + more) (places ++ place ∷ [])
Passed-more code n place more places d p l len few = record {
  count = omega (arith, length-append places (place ∷ []), p.count);
  next = omega (arith, place_next code n (get_or code n d) (slice_get-get_or code n d l), p.next, len);
  few = omega (arith, p.few, few);
  each = each_more code n place places p;
}

-- what stands for an instruction, by the table
by_table : (code : List Instr) (places : List ℕ) (i : Instr) (o : Option Width) (jump : Bool) →
    ArePlaces code places → (jump ≡ true → i.imm < length code)
    → ◌≡◌ {A = List Instr} (elim o [
      | Some width ↦ boxed_access i width
      | None ↦ cond jump (record i { imm = get_or places i.imm 0 } ∷ []) (i ∷ [])
    ])
    (elim o [
      | Some width ↦ boxed_access i width
      | None ↦ cond jump (record i { imm = boxed_place code i.imm } ∷ []) (i ∷ [])
    ])
by_table code places i (Some w) jump p h = refl
by_table code places i None false p h = refl
by_table code places i None true p h = ap (λ (n : ℕ). record i { imm = n } ∷ []) (p.each i.imm (omega (arith, h refl)))

pub boxed_by-table : (code : List Instr) (places : List ℕ) (i : Instr) → ArePlaces code places →
    (is_jump i.op ≡ true → i.imm < length code)
    → boxed_by places i ≡ boxed_instr code i
boxed_by-table code places i p h = by_table code places i (access_width i.op) (is_jump i.op) p h

-- one more instruction is boxed
pub blocks_more : (code : List Instr) (places : List ℕ) (n : ℕ) (d : Instr) (out new : List Instr) →
    ArePlaces code places
    → (is_jump (get_or code n d).op ≡ true → (get_or code n d).imm < length code) → n < length code
    → out ≡ flat_map (boxed_instr code) (take n code) →
    new ≡ out ++ boxed_by places (get_or code n d) →
    new ≡ flat_map (boxed_instr code) (take (n + 1) code)
blocks_more code places n d out new p targets l e f =
    f ∙ ap (λ (xs : List Instr). xs ++ boxed_by places (get_or code n d)) e
    ∙ ap (λ (xs : List Instr). flat_map (boxed_instr code) (take n code) ++ xs)
    (boxed_by-table code places (get_or code n d) p targets)
    ∙ flat_map_more (boxed_instr code) [] (take n code) (get_or code n d)
    ∙ ap (λ (xs : List Instr). flat_map (boxed_instr code) xs) (sym (take_more code n d l))
