-- The crate `memchr` finds newlines where the definitions do.
use Rattle.std.proofs.Common.{◌≡◌, ◌≤◌, ◌==◌, ◌∙◌, ℕ, Option, None, Some, List, length, ap, arith, refl, sym}
use Rattle.std.specs.List.{position, position_or_len}
use Rattle.std.proofs.lemmas.Bool.{true≢false}
use Rattle.std.proofs.lemmas.Bool.Decides.{nat_tests}
use Rattle.std.proofs.lemmas.List.Quantifiers.{position-Some}
use Rattle.std.proofs.lemmas.List.Sums.{fails_before_first}
use Rattle.memchr.specs.Find.{IsFirstByte, TakesFirst, first_of, is_byte, places}
use Rattle.memchr.proofs.lemmas.ValueLemmas.{IsFirstByte-value}

-- the first place at which a byte is a newline, in the words of that crate
position-is : (bytes : List ℕ) (found : Option ℕ) → position (λ b. b == 10) bytes ≡ found →
    IsFirstByte (is_byte 10) bytes found
position-is bytes None is =
    let past : length bytes ≤ position_or_len (λ b. b == 10) bytes = grind (arith, nat_tests, is) in
    λ k low high passes. true≢false
    (sym passes ∙ fails_before_first (λ b. b == 10) bytes k 0 (omega (arith, high, past)))
position-is bytes (Some n) is =
    let at = position-Some (λ b. b == 10) bytes n 0 is in (
      record {
        low = omega arith;
        high = at.0;
        before = λ k low high passes. true≢false (sym passes ∙ at.2 k high);
      },
      at.1,
    )

-- what is taken from a list is its first
taken-first : (all rest : List ℕ) (found : Option ℕ) → TakesFirst all found rest → found ≡ first_of all
unfolding first_of
taken-first all rest None taken = sym (ap first_of taken.0)
taken-first all rest (Some n) taken = sym (ap first_of taken)

-- the first of all places with a newline
pub first_newline-is : (bytes rest : List ℕ) (found : Option ℕ) →
    TakesFirst (places (is_byte 10) bytes) found rest → found ≡ position (λ b. b == 10) bytes
first_newline-is bytes rest found taken =
    taken-first (places (is_byte 10) bytes) rest found taken
    ∙ sym (IsFirstByte-value (is_byte 10) bytes (position (λ b. b == 10) bytes)
    (position-is bytes (position (λ b. b == 10) bytes) refl))
