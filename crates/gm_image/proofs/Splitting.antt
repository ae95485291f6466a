-- Reading words of eight bytes, and what refuses a sealed image.
use Rattle.std.proofs.Common.{◌≡◌, ℕ, zero, suc, ◌+◌, ◌-◌, ◌*◌, ◌≤◌, List, [], ◌∷◌, ◌++◌}
use Rattle.std.proofs.Common.{length, take, drop, Some, refl, sym, ap, ◌∙◌, append_assoc, arith}
use Rattle.std.proofs.Common.{length-append, length-drop}
use Rattle.std.proofs.lemmas.List.{drop-take}
use Rattle.graft_code.specs.Images.{head_fault}
use Rattle.gm_image.specs.declared.ImageFault.{ImageFault}
use Rattle.gm_image.specs.Faults.{Refuses, refusal_of}
use Rattle.gm_image.specs.Sealed.{words_of, read_sealed}

-- the first bytes of the first bytes
take_fewer : (n k : ℕ) (xs : List ℕ) → n ≤ k → take n (take k xs) ≡ take n xs
take_fewer zero k xs h = refl
take_fewer (suc n) zero xs h = absurd (omega (arith, h))
take_fewer (suc n) (suc k) [] h = refl
take_fewer (suc n) (suc k) (x ∷ xs) h = ap (λ (ys : List ℕ). x ∷ ys) (take_fewer n k xs (omega (arith, h)))

-- n words are read from the first 8n bytes
pub words_of-take : (n : ℕ) (xs : List ℕ) → words_of n (take (8 * n) xs) ≡ words_of n xs
words_of-take zero xs = refl
words_of-take (suc n) xs =
    let size : 8 * suc n ≡ 8 + 8 * n = omega arith in
    let first : take 8 (take (8 * suc n) xs) ≡ take 8 xs = take_fewer 8 (8 * suc n) xs (omega arith) in
    let rest : drop 8 (take (8 * suc n) xs) ≡ take (8 * n) (drop 8 xs) = rw size (drop-take 8 (8 * n) xs) in
    rw (first, rest, words_of-take n (drop 8 xs)) refl

-- the first of n words are these, and the rest are still to be read
pub record Splits (n : ℕ) (bytes : List ℕ) (words : List (List ℕ)) (rest : List ℕ) : Type 0 where
  pub said : words ++ words_of (n - length words) rest ≡ words_of n bytes
  pub left : length rest + 8 * length words ≡ 8 * n

-- the words that are left begin with one more
one_more : (words : List (List ℕ)) (k m : ℕ) (rest : List ℕ) → k ≡ suc m
    → (words ++ take 8 rest ∷ []) ++ words_of m (drop 8 rest) ≡ words ++ words_of k rest
one_more words k m rest e = rw e (append_assoc words (take 8 rest ∷ []) (words_of m (drop 8 rest)))

-- one more word is read
pub Splits-more : (n : ℕ) (bytes : List ℕ) (words : List (List ℕ)) (rest : List ℕ) →
    Splits n bytes words rest → 8 ≤ length rest
    → Splits n bytes (words ++ take 8 rest ∷ []) (drop 8 rest)
Splits-more n bytes words rest h room =
    let count : length (words ++ take 8 rest ∷ []) ≡ length words + 1 = length-append words (take 8 rest ∷ []) in
    record {
      said =
          rw count (one_more words (n - length words) (n - (length words + 1)) rest
          (omega (arith, h.left)) ∙ h.said);
      left = omega (arith, h.left, length-drop 8 rest, count);
    }

-- a fault that is the refusal of the head is that of the bytes
pub refused : (fault : ImageFault) (bytes : List ℕ) → refusal_of (Some fault) ≡ head_fault bytes
    → Refuses fault (read_sealed bytes)
refused ImageFault.Length bytes h = rw (sym h) refl
refused ImageFault.Magic bytes h = rw (sym h) refl
refused ImageFault.Version bytes h = rw (sym h) refl
refused ImageFault.TooLarge bytes h = rw (sym h) refl
refused (ImageFault.BadOp pc) bytes h = rw (sym h) refl
refused ImageFault.NoMemory bytes h = tt
