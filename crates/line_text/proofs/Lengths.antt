-- How long a number's text is.
use Rattle.std.proofs.Common.{◌≡◌, ◌<◌, ◌≤◌, ◌+◌, ◌/◌, ◌%◌, ◌^◌, ◌∷◌, [], ℕ, List, length, arith}
use Rattle.std.proofs.Common.{ap, ◌∙◌, length-append}
use Rattle.std.specs.Fmt.{decimal}
use Rattle.std.proofs.lemmas.Fmt.{decimal_digit, decimal_step}

-- a digit
pub one_digit : (n : ℕ) → n < 10 → length (decimal n) ≡ 1
one_digit n below = ap (λ (x : List ℕ). length x) (decimal_digit n below)

-- one digit more than without the last one
digit_more : (n : ℕ) → 10 ≤ n → n < 2 ^ 64 → length (decimal n) ≡ length (decimal (n / 10)) + 1
digit_more n least most =
    ap (λ (x : List ℕ). length x) (decimal_step n least most) ∙ length-append (decimal (n / 10)) ((48 + n % 10) ∷ [])

-- two digits
pub two_digits : (n : ℕ) → 10 ≤ n → n < 100 → length (decimal n) ≡ 2
two_digits n least below =
    let more = digit_more n least (omega (arith, below)) in
    let one = one_digit (n / 10) (omega (arith, below)) in
    omega (arith, more, one)

-- three digits
pub three_digits : (n : ℕ) → 100 ≤ n → n < 1000 → length (decimal n) ≡ 3
three_digits n least below =
    let more = digit_more n (omega (arith, least)) (omega (arith, below)) in
    let two = two_digits (n / 10) (omega (arith, least)) (omega (arith, below)) in
    omega (arith, more, two)

-- four digits
pub four_digits : (n : ℕ) → 1000 ≤ n → n < 10000 → length (decimal n) ≡ 4
four_digits n least below =
    let more = digit_more n (omega (arith, least)) (omega (arith, below)) in
    let three = three_digits (n / 10) (omega (arith, least)) (omega (arith, below)) in
    omega (arith, more, three)

-- five digits
pub five_digits : (n : ℕ) → 10000 ≤ n → n < 100000 → length (decimal n) ≡ 5
five_digits n least below =
    let more = digit_more n (omega (arith, least)) (omega (arith, below)) in
    let four = four_digits (n / 10) (omega (arith, least)) (omega (arith, below)) in
    omega (arith, more, four)

-- six digits
pub six_digits : (n : ℕ) → 100000 ≤ n → n < 1000000 → length (decimal n) ≡ 6
six_digits n least below =
    let more = digit_more n (omega (arith, least)) (omega (arith, below)) in
    let five = five_digits (n / 10) (omega (arith, least)) (omega (arith, below)) in
    omega (arith, more, five)

-- four digits more than without the last four
pub four_more : (n : ℕ) → 10000 ≤ n → n < 2 ^ 64 → length (decimal n) ≡ 4 + length (decimal (n / 10000))
four_more n least most =
    let a = n / 10 in
    let b = a / 10 in
    let c = b / 10 in
    let is : c / 10 ≡ n / 10000 = omega arith in
    let first = digit_more n (omega (arith, least)) most in
    let second = digit_more a (omega (arith, least)) (omega (arith, most)) in
    let third = digit_more b (omega (arith, least)) (omega (arith, most)) in
    let fourth = digit_more c (omega (arith, least)) (omega (arith, most)) in
    let same = ap (λ (k : ℕ). length (decimal k)) is in
    omega (arith, first, second, third, fourth, same)
