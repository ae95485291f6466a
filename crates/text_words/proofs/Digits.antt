-- Decimal digits and the numbers that they write.
use Rattle.std.proofs.Common.{◌≡◌, ℕ, ◌+◌, ◌-◌, ◌*◌, ◌^◌, ◌<◌, ◌≤◌, true, List, length, take, refl, arith}
use Rattle.std.proofs.Common.{length-take}
use Rattle.std.specs.List.{list_all, fold}
use Rattle.std.proofs.lemmas.Bool.Decides.{nat_tests}
use Rattle.std.proofs.lemmas.Str.Parse.{IsDigitsTest, IsNumeralModel, numerals_by_fold, digits_value_short}
use Rattle.kernel_data.specs.Bytes.{is_digit, digits_value}

-- a text of digits, one digit at a time
is_digits : IsDigitsTest (λ ds. list_all is_digit ds ≡ true)
is_digits = record {
  empty = refl;
  parts = λ c cs h. grind (arith, nat_tests);
  more = λ c cs h g. grind (arith, nat_tests);
}

-- digits and their value, in std's words
pub own : IsNumeralModel (λ ds. list_all is_digit ds ≡ true) digits_value
own =
    numerals_by_fold (λ ds. list_all is_digit ds ≡ true) is_digits (λ n ds. fold (λ a d. a * 10 + (d - 48)) n ds)
    (record { empty = λ n. refl; more = λ n c cs r. refl })

-- the digits so far, and their value
pub record Digits (word : List ℕ) (i value : ℕ) : Type 0 where
  pub digits : list_all is_digit (take i word) ≡ true
  pub value_is : value ≡ digits_value (take i word)

-- the value of at most ten digits
pub Digits-small : (word : List ℕ) (i value : ℕ) → Digits word i value → length word ≤ 10 → value < 10 ^ 10
Digits-small word i value h short =
    rw h.value_is
    (digits_value_short own (take i word) 10 h.digits (omega (arith, length-take i word)))
