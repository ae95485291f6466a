-- Digits at the front of a text are its first word.
use Rattle.std.proofs.Common.{◌≡◌, ◌≤◌, ◌<◌, ◌^◌, ◌==◌, ◌∙◌, ℕ, suc, Bool, true, false, List, ◌∷◌}
use Rattle.std.proofs.Common.{length, take, drop, get_or, refl, arith, ap, sym}
use Rattle.std.specs.List.{list_all}
use Rattle.std.proofs.Math.Seq.{drop-cons}
use Rattle.std.proofs.lemmas.Bool.{true≢false, true_from_ne_false}
use Rattle.std.proofs.lemmas.Bool.Decides.{nat_tests}
use Rattle.std.proofs.lemmas.Grind.{common_steps}
use Rattle.std.proofs.lemmas.List.{get_or-take}
use Rattle.std.proofs.lemmas.List.Folds.{list_all_at}
use Rattle.std.proofs.lemmas.List.Sums.{position_or_len_is}
use Rattle.script_model.specs.Bytes.{is_digit, digits_value}
use Rattle.script_text.specs.Words.{word_length, IsFirstNumber}

-- a digit is no space
not_space : (byte : ℕ) → is_digit byte ≡ true → (byte == 32) ≡ false
not_space byte digit = grind (arith, nat_tests)

-- no space stands among digits
digit_at : (text : List ℕ) (size k : ℕ) → k < size → size ≤ length text →
    list_all is_digit (take size text) ≡ true → (get_or text k 0 == 32) ≡ false
digit_at text size k below within digits =
    let inside : k < length (take size text) = grind (arith, common_steps) in
    let is = get_or-take size text k 0 below in
    not_space (get_or text k 0) (true_from_ne_false (is_digit (get_or text k 0))
    (λ no. true≢false (sym digits ∙ list_all_at is_digit (take size text) k 0 inside (ap is_digit is ∙ no))))

-- where a word ends before its text does, there is a space
space_at : (text : List ℕ) (at : ℕ) → at < length text → word_length (drop at text) ≡ 0 →
    (get_or text at 0 == 32) ≡ true
space_at text at within ends =
    let is = drop-cons text at 0 within in
    by (get_or text at 0 == 32) refl (ap word_length (sym is) ∙ ends)
  where
    by : (t : Bool) → (get_or text at 0 == 32) ≡ t →
        word_length (get_or text at 0 ∷ drop (suc at) text) ≡ 0 → (get_or text at 0 == 32) ≡ true
    by true here size = here
    by false here size = absurd (grind (arith, nat_tests, here, size))

-- digits that end where the word does
pub first_number-is : (text : List ℕ) (size n : ℕ) → 1 ≤ size → size ≤ 10 → size ≤ length text
    → n ≡ digits_value (take size text) → n < 2 ^ 32 → list_all is_digit (take size text) ≡ true
    → word_length (drop size text) ≡ 0 → IsFirstNumber text n size
first_number-is text size n some few within value below digits ends = record {
  some = some;
  within = within;
  word = sym (position_or_len_is (λ byte. byte == 32) text size 0 within (λ k at. digit_at text size k at within digits)
      (λ more. space_at text size more ends));
  says = let long : length (take size text) ≡ size = grind (arith, common_steps) in grind (arith, nat_tests);
}
