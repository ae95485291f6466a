-- Instructions in the bytes of code.
use Rattle.std.proofs.Common.{◌≡◌, ℕ, zero, suc, ◌+◌, ◌*◌, ◌<◌, ◌≤◌, List, [], ◌∷◌, ◌++◌, length, drop}
use Rattle.std.proofs.Common.{refl, sym, ap, ◌∙◌, arith}
use Rattle.std.specs.Prelude.{slice_get, slice_index, Some, None}
use Rattle.std.specs.List.{slice_range}
use Rattle.std.proofs.lemmas.List.{length-drop}
use Rattle.std.proofs.Math.ListN.{drop_of_length-le}
use Rattle.std.proofs.lemmas.List.Folds.{drop_split}
use Rattle.vino_host.specs.HostMachine.{instr_by, code_in}

-- fewer bytes than an instruction's, behind which there is nothing
none : (k : ℕ) (bytes : List ℕ) → length bytes < 8 → slice_get (code_in (drop (8 * suc k) bytes)) 0 ≡ None
unfolding code_in
none k bytes few =
    let past : length bytes ≤ 8 * suc k = omega (arith, few) in
    ap (λ (xs : List ℕ). slice_get (code_in xs) 0) (drop_of_length-le bytes past)

-- the instruction at a place is the first one of the bytes from there on
pub skipped : (pc : ℕ) (code : List ℕ) → slice_get (code_in code) pc ≡ slice_get (code_in (drop (8 * pc) code)) 0
unfolding code_in
skipped zero code = refl
skipped (suc k) [] = sym (none k [] (omega arith))
skipped (suc k) (o ∷ []) = sym (none k (o ∷ []) (omega arith))
skipped (suc k) (o ∷ a ∷ []) = sym (none k (o ∷ a ∷ []) (omega arith))
skipped (suc k) (o ∷ a ∷ b ∷ []) = sym (none k (o ∷ a ∷ b ∷ []) (omega arith))
skipped (suc k) (o ∷ a ∷ b ∷ c ∷ []) = sym (none k (o ∷ a ∷ b ∷ c ∷ []) (omega arith))
skipped (suc k) (o ∷ a ∷ b ∷ c ∷ w ∷ []) = sym (none k (o ∷ a ∷ b ∷ c ∷ w ∷ []) (omega arith))
skipped (suc k) (o ∷ a ∷ b ∷ c ∷ w ∷ x ∷ []) = sym (none k (o ∷ a ∷ b ∷ c ∷ w ∷ x ∷ []) (omega arith))
skipped (suc k) (o ∷ a ∷ b ∷ c ∷ w ∷ x ∷ y ∷ []) = sym (none k (o ∷ a ∷ b ∷ c ∷ w ∷ x ∷ y ∷ []) (omega arith))
skipped (suc k) (o ∷ a ∷ b ∷ c ∷ w ∷ x ∷ y ∷ z ∷ rest) =
    let all : List ℕ = o ∷ a ∷ b ∷ c ∷ w ∷ x ∷ y ∷ z ∷ rest in
    let further : suc (suc (suc (suc (suc (suc (suc (suc (8 * k)))))))) ≡ 8 * suc k = omega arith in
    skipped k rest ∙ ap (λ (n : ℕ). slice_get (code_in (drop n all)) 0) further

-- eight bytes before others
eight : (bytes rest : List ℕ) → length bytes ≡ 8 → slice_get (code_in (bytes ++ rest)) 0
    ≡ Some (instr_by (slice_index bytes 0) (slice_index bytes 1) (slice_index bytes 2) (slice_index bytes 3)
    (slice_index bytes 4) (slice_index bytes 5) (slice_index bytes 6) (slice_index bytes 7))
unfolding code_in
eight [] rest h = absurd (omega (arith, h))
eight (o ∷ []) rest h = absurd (omega (arith, h))
eight (o ∷ a ∷ []) rest h = absurd (omega (arith, h))
eight (o ∷ a ∷ b ∷ []) rest h = absurd (omega (arith, h))
eight (o ∷ a ∷ b ∷ c ∷ []) rest h = absurd (omega (arith, h))
eight (o ∷ a ∷ b ∷ c ∷ w ∷ []) rest h = absurd (omega (arith, h))
eight (o ∷ a ∷ b ∷ c ∷ w ∷ x ∷ []) rest h = absurd (omega (arith, h))
eight (o ∷ a ∷ b ∷ c ∷ w ∷ x ∷ y ∷ []) rest h = absurd (omega (arith, h))
eight (o ∷ a ∷ b ∷ c ∷ w ∷ x ∷ y ∷ z ∷ []) rest h = refl
eight (o ∷ a ∷ b ∷ c ∷ w ∷ x ∷ y ∷ z ∷ more ∷ bytes) rest h = absurd (omega (arith, h))

-- the instruction of the eight bytes at a place
pub fetched : (pc : ℕ) (code bytes : List ℕ) → 8 * pc + 8 ≤ length code → length bytes + 8 * pc ≡ 8 * pc + 8 →
    bytes ≡ slice_range code (8 * pc) (8 * pc + 8) → slice_get (code_in code) pc
    ≡ Some (instr_by (slice_index bytes 0) (slice_index bytes 1) (slice_index bytes 2) (slice_index bytes 3)
    (slice_index bytes 4) (slice_index bytes 5) (slice_index bytes 6) (slice_index bytes 7))
fetched pc code bytes room size part =
    let at : 8 * pc ≤ 8 * pc + 8 = omega arith in
    let long : length bytes ≡ 8 = omega (arith, size) in
    skipped pc code
    ∙ ap (λ (xs : List ℕ). slice_get (code_in xs) 0)
    (drop_split code (8 * pc) (8 * pc + 8) at ∙ ap (λ (xs : List ℕ). xs ++ drop (8 * pc + 8) code) (sym part))
    ∙ eight bytes (drop (8 * pc + 8) code) long

-- fewer bytes than an instruction's hold none
fewer : (bytes : List ℕ) → length bytes < 8 → slice_get (code_in bytes) 0 ≡ None
unfolding code_in
fewer [] h = refl
fewer (o ∷ []) h = refl
fewer (o ∷ a ∷ []) h = refl
fewer (o ∷ a ∷ b ∷ []) h = refl
fewer (o ∷ a ∷ b ∷ c ∷ []) h = refl
fewer (o ∷ a ∷ b ∷ c ∷ w ∷ []) h = refl
fewer (o ∷ a ∷ b ∷ c ∷ w ∷ x ∷ []) h = refl
fewer (o ∷ a ∷ b ∷ c ∷ w ∷ x ∷ y ∷ []) h = refl
fewer (o ∷ a ∷ b ∷ c ∷ w ∷ x ∷ y ∷ z ∷ rest) h = absurd (omega (arith, h))

-- past the last instruction there is none
pub past : (pc : ℕ) (code : List ℕ) → length code < 8 * pc + 8 → slice_get (code_in code) pc ≡ None
past pc code few = skipped pc code ∙ fewer (drop (8 * pc) code) (omega (arith, few, length-drop (8 * pc) code))
