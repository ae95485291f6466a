-- The last instruction of code.
use Rattle.std.proofs.Common.{◌≡◌, ℕ, zero, suc, ◌-◌, ◌<◌, List, [], ◌∷◌, length, Some, sym, arith}
use Rattle.std.specs.Prelude.{slice_get}
use Rattle.graft_code.specs.declared.Instr.{Instr}
use Rattle.graft_code.specs.Boxed.{is_end, ends_well}

-- code ends well where its last instruction, the one of number n, is an end
ends_well-at : (code : List Instr) (n : ℕ) (i : Instr) → suc n ≡ length code →
    slice_get code n ≡ Some i → ends_well code ≡ is_end i.op
ends_well-at [] n i e h = cc
ends_well-at (k ∷ []) zero i e h = cc
ends_well-at (k ∷ []) (suc n) i e h = cc
ends_well-at (k ∷ l ∷ is) zero i e h = absurd (omega arith)
ends_well-at (k ∷ l ∷ is) (suc n) i e h = ends_well-at (l ∷ is) n i (omega (arith, e)) h

-- the same where that instruction is found from the length
pub ends_well-last : (code : List Instr) (i : Instr) → Some i ≡ slice_get code (length code - 1) →
    0 < length code → ends_well code ≡ is_end i.op
ends_well-last code i h some = ends_well-at code (length code - 1) i (omega arith) (sym h)
