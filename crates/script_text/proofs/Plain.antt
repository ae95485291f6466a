-- Bytes without a newline go on with a line.
use Rattle.std.proofs.Common.{◌≡◌, ℕ, zero, suc, ◌+◌, ◌≤◌, ◌==◌, ◌||◌, not, Bool, true, false}
use Rattle.std.proofs.Common.{Some, cond, List, [], ◌∷◌, ◌++◌, length, take, refl, arith, sym, ap}
use Rattle.std.proofs.Common.{◌∙◌, append-nil, append_assoc, length-append}
use Rattle.std.specs.List.{position, position_or_len}
use Rattle.std.proofs.lemmas.List.Quantifiers.{position-Some}
use Rattle.std.proofs.lemmas.List.Sums.{position_or_len_is}
use Rattle.std.proofs.lemmas.Bool.Decides.{nat_tests}
use Rattle.script_text.specs.Words.{IsWholeLine}
use Rattle.script_model.specs.Outcome.{ends_line, ended_line, lines_after, rest_after}

pub plain_lines : (l xs : List ℕ) (n : ℕ) → n ≤ position_or_len (λ b. b == 10) xs → length l + n ≤ 65536 →
    (lines_after l (take n xs) ≡ []) × (rest_after l (take n xs) ≡ l ++ take n xs)
plain_lines l xs zero h few = (refl, sym (append-nil l))
plain_lines l [] (suc n) h few = (refl, sym (append-nil l))
plain_lines l (b ∷ bs) (suc n) h few =
    by_newline (b == 10) refl h (λ later. plain_lines (l ++ b ∷ []) bs n later
    (omega (arith, few, length-append l (b ∷ []))))
  where
    by_newline : (t : Bool) → (b == 10) ≡ t → suc n ≤ cond (not t) (1 + position_or_len (λ x. x == 10) bs) 0 →
        (n ≤ position_or_len (λ x. x == 10) bs → (lines_after (l ++ b ∷ []) (take n bs) ≡ [])
        × (rest_after (l ++ b ∷ []) (take n bs) ≡ (l ++ b ∷ []) ++ take n bs)) →
        (lines_after l (take (suc n) (b ∷ bs)) ≡ [])
        × (rest_after l (take (suc n) (b ∷ bs)) ≡ l ++ take (suc n) (b ∷ bs))
    by_newline true is h rest = absurd (omega (arith, h))
    by_newline false is h rest =
        let short : (length l == 65536) ≡ false = grind (arith, nat_tests, few) in
        let goes : ends_line l b ≡ false = ap (λ t. t || (length l == 65536)) is ∙ short in
        let more = rest (omega (arith, h)) in (
          ap (λ t. elim t as (λ _. List (List ℕ)) [
            | true ↦ ended_line l b ∷ lines_after [] (take n bs)
            | false ↦ lines_after (l ++ b ∷ []) (take n bs)
          ]) goes ∙ more.0,
          ap (λ t. elim t as (λ _. List ℕ) [
            | true ↦ rest_after [] (take n bs)
            | false ↦ rest_after (l ++ b ∷ []) (take n bs)
          ]) goes ∙ more.1 ∙ append_assoc l (b ∷ []) (take n bs),
        )

-- a text up to its first newline, as the next line
pub whole_line : (line bytes : List ℕ) (n : ℕ) → length line ≡ 0 →
    position (λ b. b == 10) bytes ≡ Some n → n ≤ 65536 → IsWholeLine line bytes n
whole_line (x ∷ xs) bytes n fresh found short = absurd (omega arith)
whole_line [] bytes n fresh found short =
    let at = position-Some (λ b. b == 10) bytes n 0 found in
    let is = position_or_len_is (λ b. b == 10) bytes n 0 (omega (arith, at.0)) at.2 (λ below. at.1) in
    let plain = plain_lines [] bytes n (omega (arith, is)) (omega (arith, short)) in
    record {
      fresh = refl;
      before = at.0;
      short = short;
      ends = grind (arith, nat_tests, at.1);
      none = plain.0;
      rest = plain.1;
    }
