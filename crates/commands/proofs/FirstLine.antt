-- Where the first line of an input ends, and what it says.
use Rattle.std.proofs.Common.{◌≡◌, ℕ, ◌+◌, ◌<◌, ◌≤◌, ◌==◌, Bool, true, false, not, cond, List, []}
use Rattle.std.proofs.Common.{◌∷◌, Option, None, Some, Ok, Err, take, drop, length, refl, arith}
use Rattle.std.specs.Prelude.{codes}
use Rattle.std.proofs.Math.Numerals.{one-add}
use Rattle.std.specs.List.{position_or_len}
use Rattle.script_model.specs.Bytes.{hex_word}
use Rattle.script_model.specs.Filters.{first_line, hex_by, hex_line}

-- what stands behind a newline, if there is one
abbrev pub behind : List ℕ → Option (List ℕ)
behind [] = None
behind (b ∷ bytes) = Some bytes

-- the first line, and what stands behind it
first_line-is : (input : List ℕ) →
    first_line input ≡ (
      take (position_or_len (λ b. b == 10) input) input,
      behind (drop (position_or_len (λ b. b == 10) input) input),
    )
first_line-is [] = refl
first_line-is (b ∷ bytes) = by (b == 10) (first_line-is bytes)
  where
    by : (ends : Bool) →
        first_line bytes ≡ (
          take (position_or_len (λ b. b == 10) bytes) bytes,
          behind (drop (position_or_len (λ b. b == 10) bytes) bytes),
        ) →
        elim ends as (λ _. List ℕ × Option (List ℕ)) [
          | true ↦ ([], Some bytes)
          | false ↦ let r = first_line bytes in (b ∷ r.0, r.1)
        ]
        ≡ (
          take (cond (not ends) (1 + position_or_len (λ b. b == 10) bytes) 0) (b ∷ bytes),
          behind
              (drop (cond (not ends) (1 + position_or_len (λ b. b == 10) bytes) 0) (b ∷ bytes)),
        )
    by true h = refl
    by false h = rw (one-add (position_or_len (λ b. b == 10) bytes), h) refl

-- what an input says, by its first line and what stands behind it
pub said : (input digits rest : List ℕ) (end : ℕ) (bytes : Option (List ℕ)) →
    end ≡ position_or_len (λ b. b == 10) input →
    digits ≡ take end input → rest ≡ drop end input → bytes ≡ hex_word 16777214 digits →
    hex_by bytes (behind rest) ≡ hex_line input
said input digits rest end bytes at front back word = rw (word, front, back, at, first_line-is input) refl

-- no newline
pub unfinished : (bytes rest : List ℕ) → length rest ≡ 0 → Err (codes "input S6") ≡ hex_by (Some bytes) (behind rest)
unfinished bytes [] h = refl
unfinished bytes (b ∷ rest) h = absurd (omega (arith, h))

-- a newline, and nothing behind it
pub whole : (bytes rest : List ℕ) → (length rest ≡ 0 → ⊥) → length rest ≤ 1 →
    Ok bytes ≡ hex_by (Some bytes) (behind rest)
whole bytes [] h g = absurd (h refl)
whole bytes (b ∷ []) h g = refl
whole bytes (b ∷ c ∷ rest) h g = absurd (omega (arith, g))

-- a newline, and something behind it
pub more_behind : (bytes rest : List ℕ) → 1 < length rest → Err (codes "input S1") ≡ hex_by (Some bytes) (behind rest)
more_behind bytes [] h = absurd (omega (arith, h))
more_behind bytes (b ∷ []) h = absurd (omega (arith, h))
more_behind bytes (b ∷ c ∷ rest) h = refl
