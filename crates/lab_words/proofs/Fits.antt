-- Words and slots, from a place on.
use Rattle.std.proofs.Common.{◌≡◌, ◌<◌, ℕ, zero, suc, false, List, [], ◌∷◌, ◌++◌, length, drop}
use Rattle.std.proofs.Common.{slice_index_or, refl, arith}
use Rattle.lab_words.specs.declared.slot.Slot.{Slot}
use Rattle.lab_words.specs.Forms.{words_fit, second_fits}

-- where a slot is left and no word, they don't fit
pub fit-none : (slots more : List Slot) (i : ℕ) → i < length slots → words_fit (drop i slots ++ more) [] ≡ false
fit-none [] more i h = grind (arith)
fit-none (s ∷ ss) more zero h = refl
fit-none (s ∷ ss) more (suc i) h = fit-none ss more i (omega arith)

-- where the second word doesn't fit, the words don't
pub unfit : (slots : List Slot) (words : List (List ℕ)) →
    second_fits slots (slice_index_or words 1 []) ≡ false → words_fit slots words ≡ false
unfit [] words miss = absurd (grind (arith, miss))
unfit (s ∷ []) words miss = absurd (grind (arith, miss))
unfit (s ∷ t ∷ ss) [] miss = refl
unfit (s ∷ t ∷ ss) (w ∷ []) miss = grind (arith)
unfit (s ∷ t ∷ ss) (w ∷ v ∷ vs) miss = grind (arith, miss)
