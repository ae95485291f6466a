-- The faults of raw code, and what code without a fault is like.
use Rattle.std.proofs.Common.{◌≡◌, ℕ, zero, suc, ◌<◌, ◌≤◌, Bool, true, false, not, cond, ◌&&◌}
use Rattle.std.proofs.Common.{◌||◌, List, [], ◌∷◌, length, sym, ap, ◌∙◌, refl}
use Rattle.std.specs.Prelude.{slice_get, nat_lt, nat_le, Option, None, Some, Result, Ok, Err}
use Rattle.std.proofs.lemmas.Bool.{leb-false, ltb-false, lt-ltb, le-ltb}
use Rattle.graft_code.specs.declared.Instr.{Instr}
use Rattle.graft_code.specs.Instructions.{names_register}
use Rattle.graft_code.specs.Boxed.{RewriteFault, NamesReserved, JumpsOut, CallsUnknown, NoEnd}
use Rattle.graft_code.specs.Boxed.{TooLong, is_jump, is_direct_call, ends_well, boxed_place}
use Rattle.graft_code.specs.Boxed.{boxed_code, rewrite_fault_at, rewrite_fault_from, rewrite}
use Rattle.box_rewriter.specs.declared.RewriteFault as Declared
use Rattle.box_rewriter.specs.declared.RewriteFault.TheVariants as Said
use Rattle.box_rewriter.specs.Faults.{IsFound, Refuses}
use Rattle.box_rewriter.specs.Words.{first_from}
use Rattle.box_rewriter.proofs.Blocks.{IsUnreserved}
use Rattle.box_rewriter.proofs.Boxing.{IsRewritable}

-- the faults of the whole
abbrev pub whole_fault : List Instr → Option RewriteFault
whole_fault code =
    cond (not (ends_well code)) (Some NoEnd)
    (cond (nat_lt 1024 (boxed_place code (length code))) (Some TooLong) None)

-- a fault that is found first, or the next one
abbrev pub or_else : Option RewriteFault → Option RewriteFault → Option RewriteFault
or_else (Some fault) later = Some fault
or_else None later = later

step_from : (a b c : Option RewriteFault)
    → ◌≡◌ {A = Option RewriteFault} (elim a [ Some fault ↦ Some fault | None ↦ or_else b c ])
    (or_else (elim a [ Some fault ↦ Some fault | None ↦ b ]) c)
step_from (Some fault) b c = refl
step_from None b c = refl

later_from : (a b c : Option RewriteFault) → b ≡ c
    → ◌≡◌ {A = Option RewriteFault} (elim a [ Some fault ↦ Some fault | None ↦ b ])
    (elim a [ Some fault ↦ Some fault | None ↦ c ])
later_from (Some fault) b c h = refl
later_from None b c h = h

-- the faults of the instructions come first, and then those of the whole
pub faults_apart : (code : List Instr) (pc : ℕ) (is : List Instr) →
    rewrite_fault_from code pc is ≡ or_else (first_from code pc is) (whole_fault code)
faults_apart code pc [] = refl
faults_apart code pc (i ∷ is) =
    later_from (rewrite_fault_at code pc i) (rewrite_fault_from code (suc pc) is)
    (or_else (first_from code (suc pc) is) (whole_fault code)) (faults_apart code (suc pc) is)
    ∙ step_from (rewrite_fault_at code pc i) (first_from code (suc pc) is) (whole_fault code)

-- an instruction without a fault
record IsFine (code : List Instr) (i : Instr) : Type 0 where
  free : IsUnreserved i
  target : is_jump i.op ≡ true → i.imm < length code
  call : is_direct_call i.op ≡ true → i.imm ≤ 15

tests_fail : (pc : ℕ) (a b c : Bool) → cond a (Some (NamesReserved pc))
    (cond b (Some (JumpsOut pc)) (cond c (Some (CallsUnknown pc)) None)) ≡ None
    → (a ≡ false) × (b ≡ false) × (c ≡ false)
tests_fail pc false false false h = (refl, refl, refl)
tests_fail pc false false true h = cc
tests_fail pc false true c h = cc
tests_fail pc true b c h = cc

fine_from : (code : List Instr) (pc : ℕ) (i : Instr) → rewrite_fault_at code pc i ≡ None → IsFine code i
fine_from code pc i h =
    let t = tests_fail pc (names_register 14 i || names_register 15 i)
    (is_jump i.op && nat_le (length code) i.imm) (is_direct_call i.op && nat_lt 15 i.imm) h in
    record {
      free = t.0;
      target = λ j. let g : nat_le (length code) i.imm ≡ false = rw j at t.1 in leb-false (length code) i.imm g;
      call = λ d. let g : nat_lt 15 i.imm ≡ false = rw d at t.2 in ltb-false 15 i.imm g;
    }

record AllFine (code is : List Instr) : Type 0 where
  each : (n : ℕ) (i : Instr) → slice_get is n ≡ Some i → IsFine code i

fine_more : (code : List Instr) (x : Instr) (is : List Instr) → IsFine code x → AllFine code is →
    (n : ℕ) (i : Instr) → slice_get (x ∷ is) n ≡ Some i → IsFine code i
fine_more code x is f rest zero i h = let same : x ≡ i = cc in rw (← same) f
fine_more code x is f rest (suc n) i h = rest.each n i h

all_by : (code : List Instr) (pc : ℕ) (x : Instr) (is : List Instr) (o : Option RewriteFault) →
    rewrite_fault_at code pc x ≡ o
    → ◌≡◌ {A = Option RewriteFault} (elim o [ Some fault ↦ Some fault | None ↦ first_from code (suc pc) is ]) None
    → (first_from code (suc pc) is ≡ None → AllFine code is) → AllFine code (x ∷ is)
all_by code pc x is (Some fault) e g later = cc
all_by code pc x is None e g later =
    let f = fine_from code pc x e in
    let rest = later g in
    record { each = fine_more code x is f rest }

all_fine : (code : List Instr) (pc : ℕ) (is : List Instr) → first_from code pc is ≡ None → AllFine code is
all_fine code pc [] h = record { each = λ n i e. cc }
all_fine code pc (x ∷ is) h = all_by code pc x is (rewrite_fault_at code pc x) refl h (all_fine code (suc pc) is)

whole_from : (code : List Instr) (ends long : Bool) →
    cond (not ends) (Some NoEnd) (cond long (Some TooLong) None) ≡ None →
    (ends ≡ true) × (long ≡ false)
whole_from code true false h = (refl, refl)
whole_from code true true h = cc
whole_from code false long h = cc

-- code without a fault can be boxed
pub rewritable_from : (code : List Instr) → first_from code 0 code ≡ None → whole_fault code ≡ None → IsRewritable code
rewritable_from code h g =
    let f = all_fine code 0 code h in
    let w = whole_from code (ends_well code) (nat_lt 1024 (boxed_place code (length code))) g in
    record {
      free = record { each = λ n i e. (f.each n i e).free };
      targets = λ n i e. (f.each n i e).target;
      calls = λ n i e. (f.each n i e).call;
      ends = w.0;
      few = ltb-false 1024 (boxed_place code (length code)) w.1;
    }

-- the targets of code whose instructions have no fault
pub targets_from : (code : List Instr) → first_from code 0 code ≡ None → (n : ℕ) (i : Instr) →
    slice_get code n ≡ Some i → is_jump i.op ≡ true → i.imm < length code
targets_from code h n i e = ((all_fine code 0 code h).each n i e).target

none_of_both : (a b : Option RewriteFault) → or_else a b ≡ None → (a ≡ None) × (b ≡ None)
none_of_both None b h = (refl, h)
none_of_both (Some fault) b h = cc

-- what is known where the rewriter gives boxed code
pub record IsRewritten (code boxed : List Instr) : Type 0 where
  pub can : IsRewritable code
  pub is : boxed ≡ boxed_code code

rewritten_by : (code boxed : List Instr) (o : Option RewriteFault) → rewrite_fault_from code 0 code ≡ o
    → ◌≡◌ {A = Result (List Instr) RewriteFault} (elim o [
      | Some fault ↦ Err fault
      | None ↦ Ok (boxed_code code)
    ]) (Ok boxed) → IsRewritten code boxed
rewritten_by code boxed (Some fault) e h = cc
rewritten_by code boxed None e h =
    let parts = none_of_both (first_from code 0 code) (whole_fault code) (sym (faults_apart code 0 code) ∙ e) in
    record { can = rewritable_from code parts.0 parts.1; is = cc }

pub rewritten : (code boxed : List Instr) → rewrite code ≡ Ok boxed → IsRewritten code boxed
rewritten code boxed h = rewritten_by code boxed (rewrite_fault_from code 0 code) refl h

-- ---- what the rewriter says

said_by : (code : List Instr) (a b : Option RewriteFault) → first_from code 0 code ≡ a → whole_fault code ≡ b
    → rewrite code ≡ elim (or_else a b) [ Some fault ↦ Err fault | None ↦ Ok (boxed_code code) ]
said_by code a b e f =
    let both : rewrite_fault_from code 0 code ≡ or_else a b = faults_apart code 0 code ∙ rw (e, f) refl in
    let say : Option RewriteFault → Result (List Instr) RewriteFault =
    λ o. elim o [ Some fault ↦ Err fault | None ↦ Ok (boxed_code code) ] in
    ap say both

-- the first fault of an instruction is said
pub found_is_said : (code : List Instr) (e : Declared.RewriteFault) →
    IsFound e (first_from code 0 code) → Refuses e (rewrite code)
found_is_said code (Said.Register pc) h = said_by code (Some (NamesReserved pc)) (whole_fault code) h refl
found_is_said code (Said.Jump pc) h = said_by code (Some (JumpsOut pc)) (whole_fault code) h refl
found_is_said code (Said.Call pc) h = said_by code (Some (CallsUnknown pc)) (whole_fault code) h refl
found_is_said code Said.End h = said_by code (Some NoEnd) (whole_fault code) h refl
found_is_said code Said.TooLarge h = said_by code (Some TooLong) (whole_fault code) h refl
found_is_said code Said.NoMemory h = absurd h

pub end_is_said : (code : List Instr) → first_from code 0 code ≡ None → ends_well code ≡ false →
    rewrite code ≡ Err NoEnd
end_is_said code h e = said_by code None (Some NoEnd) h (rw e refl)

pub length_is_said : (code : List Instr) → first_from code 0 code ≡ None → ends_well code ≡ true →
    1024 < boxed_place code (length code) → rewrite code ≡ Err TooLong
length_is_said code h e l =
    said_by code None (Some TooLong) h (rw (e, lt-ltb 1024 (boxed_place code (length code)) l) refl)

pub code_is_said : (code : List Instr) → first_from code 0 code ≡ None → ends_well code ≡ true →
    boxed_place code (length code) ≤ 1024 → rewrite code ≡ Ok (boxed_code code)
code_is_said code h e l = said_by code None None h (rw (e, le-ltb 1024 (boxed_place code (length code)) l) refl)
