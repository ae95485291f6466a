-- The lines of a script, byte by byte.
use Rattle.std.proofs.Common.{cond, nat_lt, ◌==◌, take-take, length-take, ◌-◌, min, take, ◌<◌, ◌≡◌}
use Rattle.std.proofs.Common.{ℕ, ◌+◌, ◌≤◌, Bool, true, false, List, [], ◌∷◌, ◌++◌, arith, length}
use Rattle.std.proofs.Common.{refl, sym, ap, ◌∙◌, length-append, inl, inr, ◌⊎◌}
use Rattle.std.proofs.lemmas.List.{take_all, take-append-le}
use Rattle.std.proofs.Math.Seq.{take-append-add}
use Rattle.std.proofs.lemmas.Bool.Decides.{nat_tests}
use Rattle.std.proofs.lemmas.Bool.{cases_lt}
use Rattle.script_model.specs.Script.{LINE_BYTES}
use Rattle.script_model.specs.Outcome.{SCRIPT_BYTES, lines_after, rest_after, ends_line, ended_line}
use Rattle.script_text.specs.declared.line_buf.Fed.{Fed}
use Rattle.script_text.specs.declared.line_buf.Fed.TheVariants as fed_is
use Rattle.script_text.specs.Words.{fed, line_with}

-- the lines of bytes that come in two parts
pub lines-append : (l xs ys : List ℕ) → lines_after l (xs ++ ys) ≡ lines_after l xs ++ lines_after (rest_after l xs) ys
lines-append l [] ys = refl
lines-append l (x ∷ xs) ys =
    elim (ends_line l x)
    as (λ ends.
    elim ends as (λ _. List (List ℕ)) [
      | true ↦ ended_line l x ∷ lines_after [] (xs ++ ys)
      | false ↦ lines_after (l ++ x ∷ []) (xs ++ ys)
    ]
    ≡ elim ends as (λ _. List (List ℕ)) [
      | true ↦ ended_line l x ∷ lines_after [] xs
      | false ↦ lines_after (l ++ x ∷ []) xs
    ]
    ++ lines_after (elim ends as (λ _. List ℕ) [ true ↦ rest_after [] xs | false ↦ rest_after (l ++ x ∷ []) xs ]) ys)
    [ true ↦ ap (λ ls. ended_line l x ∷ ls) (lines-append [] xs ys) | false ↦ lines-append (l ++ x ∷ []) xs ys ]

-- and what stands behind them
pub rest-append : (l xs ys : List ℕ) → rest_after l (xs ++ ys) ≡ rest_after (rest_after l xs) ys
rest-append l [] ys = refl
rest-append l (x ∷ xs) ys =
    elim (ends_line l x)
    as (λ ends.
    elim ends as (λ _. List ℕ) [ true ↦ rest_after [] (xs ++ ys) | false ↦ rest_after (l ++ x ∷ []) (xs ++ ys) ]
    ≡ rest_after (elim ends as (λ _. List ℕ) [ true ↦ rest_after [] xs | false ↦ rest_after (l ++ x ∷ []) xs ]) ys)
    [ true ↦ rest-append [] xs ys | false ↦ rest-append (l ++ x ∷ []) xs ys ]

-- a line ends at this byte, or goes on
pub lines_ended : (l : List ℕ) (x : ℕ) (xs : List ℕ) → ends_line l x ≡ true →
    lines_after l (x ∷ xs) ≡ ended_line l x ∷ lines_after [] xs
lines_ended l x xs h =
    ap (λ ends. elim ends as (λ _. List (List ℕ)) [
      | true ↦ ended_line l x ∷ lines_after [] xs
      | false ↦ lines_after (l ++ x ∷ []) xs
    ]) h

pub lines_gone : (l : List ℕ) (x : ℕ) (xs : List ℕ) → ends_line l x ≡ false →
    lines_after l (x ∷ xs) ≡ lines_after (l ++ x ∷ []) xs
lines_gone l x xs h =
    ap (λ ends. elim ends as (λ _. List (List ℕ)) [
      | true ↦ ended_line l x ∷ lines_after [] xs
      | false ↦ lines_after (l ++ x ∷ []) xs
    ]) h

pub rest_ended : (l : List ℕ) (x : ℕ) (xs : List ℕ) → ends_line l x ≡ true → rest_after l (x ∷ xs) ≡ rest_after [] xs
rest_ended l x xs h =
    ap (λ ends. elim ends as (λ _. List ℕ) [ true ↦ rest_after [] xs | false ↦ rest_after (l ++ x ∷ []) xs ]) h

pub rest_gone : (l : List ℕ) (x : ℕ) (xs : List ℕ) → ends_line l x ≡ false →
    rest_after l (x ∷ xs) ≡ rest_after (l ++ x ∷ []) xs
rest_gone l x xs h =
    ap (λ ends. elim ends as (λ _. List ℕ) [ true ↦ rest_after [] xs | false ↦ rest_after (l ++ x ∷ []) xs ]) h

-- either way
pub ends_or_goes : (b : Bool) → (b ≡ true) ⊎ (b ≡ false)
ends_or_goes true = inl refl
ends_or_goes false = inr refl

-- a line that goes on isn't as long as a line may be
pub gone_short : (l : List ℕ) (x : ℕ) → ends_line l x ≡ false → length l ≤ LINE_BYTES →
    length (l ++ x ∷ []) ≤ LINE_BYTES
gone_short l x goes h = grind (arith, nat_tests, length-append l (x ∷ []))

-- a line so far is never longer than a line may be
pub rest_short : (l xs : List ℕ) → length l ≤ LINE_BYTES → length (rest_after l xs) ≤ LINE_BYTES
rest_short l [] h = h
rest_short l (x ∷ xs) h =
    elim (ends_or_goes (ends_line l x)) [
      | inl ends ↦ rw (rest_ended l x xs ends) (rest_short [] xs (omega arith))
      | inr goes ↦ rw (rest_gone l x xs goes) (rest_short (l ++ x ∷ []) xs (gone_short l x goes h))
    ]

-- a number for what a byte made of a line
abbrev fed_number : Fed → ℕ
fed_number fed_is.More = 0
fed_number fed_is.Line = 1
fed_number fed_is.TooLong = 2

-- what two tests say by what a byte made of a line
pub fed_more_by : (newline room : Bool) →
    cond newline fed_is.Line (cond room fed_is.More fed_is.TooLong) ≡ fed_is.More →
    (newline ≡ false) × (room ≡ true)
fed_more_by true room h = absurd (let n : 1 ≡ fed_number fed_is.More = ap fed_number h in omega (arith, n))
fed_more_by false true h = (refl, refl)
fed_more_by false false h = absurd (let n : 2 ≡ fed_number fed_is.More = ap fed_number h in omega (arith, n))

pub fed_line_by : (newline room : Bool) →
    cond newline fed_is.Line (cond room fed_is.More fed_is.TooLong) ≡ fed_is.Line → newline ≡ true
fed_line_by true room h = refl
fed_line_by false true h = absurd (let n : 0 ≡ fed_number fed_is.Line = ap fed_number h in omega (arith, n))
fed_line_by false false h = absurd (let n : 2 ≡ fed_number fed_is.Line = ap fed_number h in omega (arith, n))

pub fed_long_by : (newline room : Bool) →
    cond newline fed_is.Line (cond room fed_is.More fed_is.TooLong) ≡ fed_is.TooLong →
    (newline ≡ false) × (room ≡ false)
fed_long_by true room h = absurd (let n : 1 ≡ fed_number fed_is.TooLong = ap fed_number h in omega (arith, n))
fed_long_by false true h = absurd (let n : 0 ≡ fed_number fed_is.TooLong = ap fed_number h in omega (arith, n))
fed_long_by false false h = (refl, refl)

-- a byte that goes on with the line
pub byte_goes : (l m : List ℕ) (byte : ℕ) → fed byte l ≡ fed_is.More → m ≡ line_with byte l →
    (ends_line l byte ≡ false) × (m ≡ l ++ byte ∷ [])
byte_goes l m byte is line =
    let by = fed_more_by (byte == 10) (nat_lt (length l) LINE_BYTES) is in
    (rw by.0 (grind (arith, nat_tests, by.1)), rw (by.0, by.1) at line)

-- a newline ends the line before it
pub newline_ends : (l m : List ℕ) (byte : ℕ) → fed byte l ≡ fed_is.Line → m ≡ line_with byte l →
    (ends_line l byte ≡ true) × (ended_line l byte ≡ m)
newline_ends l m byte is line =
    let by = fed_line_by (byte == 10) (nat_lt (length l) LINE_BYTES) is in
    (rw by refl, rw by (sym (rw by at line)))

-- and it is no longer than it was
pub newline_short : (l m : List ℕ) (byte : ℕ) → fed byte l ≡ fed_is.Line → m ≡ line_with byte l →
    length l ≤ LINE_BYTES → length m ≤ LINE_BYTES
newline_short l m byte is line short =
    let by = fed_line_by (byte == 10) (nat_lt (length l) LINE_BYTES) is in
    let same : m ≡ l = rw by at line in
    rw same short

-- a byte behind the longest line ends a line with that byte
pub longest_ends : (l m : List ℕ) (byte : ℕ) → fed byte l ≡ fed_is.TooLong → length l ≤ LINE_BYTES →
    m ≡ line_with byte l →
    (ends_line l byte ≡ true) × (ended_line l byte ≡ m ++ byte ∷ [])
longest_ends l m byte is short line =
    let by = fed_long_by (byte == 10) (nat_lt (length l) LINE_BYTES) is in
    let same = rw (by.0, by.1) at line in
    (rw by.0 (grind (arith, nat_tests, by.1)), rw (by.0, same) refl)

-- the script's bytes among those taken, where more come
pub script_more : (taken given : List ℕ) (left : ℕ) → length taken + left ≡ SCRIPT_BYTES + 1 → 0 < left →
    take SCRIPT_BYTES (taken ++ given) ≡ take SCRIPT_BYTES taken ++ take (left - 1) given
script_more taken given left count some =
    let size : length taken + (left - 1) ≡ SCRIPT_BYTES = omega arith in
    let short : length taken ≤ SCRIPT_BYTES = omega arith in
    rw (take_all SCRIPT_BYTES taken short, ← size) (take-append-add taken given (left - 1))

-- the part of what a read gave that belongs to the script, as it stands in the buffer
pub piece_is : (n left script : ℕ) (buf tail : List ℕ) → script ≡ min n (left - 1) →
    n ≤ length buf → take script (buf ++ tail) ≡ take (left - 1) (take n buf)
piece_is n left script buf tail is within =
    let below : script ≤ length buf = omega arith in
    take-append-le script buf tail below
    ∙ elim (cases_lt n (left - 1)) [
      | inr some ↦ let front : script ≡ left - 1 = omega arith in rw (take-take (left - 1) n buf some, front) refl
      | inl whole ↦
          let all : script ≡ n = omega arith in
          let short : length (take n buf) ≤ left - 1 = omega (arith, length-take n buf) in
          rw (take_all (left - 1) (take n buf) short, all) refl
    ]
