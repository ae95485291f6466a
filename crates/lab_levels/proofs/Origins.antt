-- Boxed code and instructions as they were written, place by place.
use Rattle.std.proofs.Common.{◌≡◌, ◌≢◌, ◌==◌, ℕ, suc, ◌++◌, ap, ◌+◌, ◌-◌, ◌*◌, ◌≤◌, ◌<◌, true}
use Rattle.std.proofs.Common.{false, List, [], ◌∷◌, drop, get_or, length, Option, None, Some}
use Rattle.std.proofs.Common.{arith, sym, ◌∙◌}
use Rattle.std.proofs.lemmas.Grind.{common_steps}
use Rattle.std.proofs.Math.Seq.{drop-cons}
use Rattle.std.specs.Prelude.{filter, slice_get}
use Rattle.std.specs.List.{zip, slice_split}
use Rattle.std.proofs.lemmas.List.{append-nil}
use Rattle.script_model.specs.declared.Instr.{Instr}
use Rattle.lab_levels.specs.Written.{written_place, is_instruction, numbered_line, written_said}

-- the place is not a part of the first so many instructions, which became so many
pub record IsBehind (code : List Instr) (boxed i behind : ℕ) : Type 0 where
  pub not_before : behind ≤ boxed
  pub few : behind ≤ 3 * i
  pub rest : i + written_place (drop i code) (boxed - behind) ≡ written_place code boxed

-- the k-th of some lines that are instructions, behind its number
unfoldable pub line_at : (numbers : List ℕ) → (lines : List (List ℕ)) → ℕ → Option (ℕ × List ℕ)
line_at numbers lines k =
    slice_get (filter (λ (l : ℕ × List ℕ). is_instruction l.1) (zip numbers lines)) k

-- the numbers from a place on
drop_one : (numbers : List ℕ) (i : ℕ) → i < length numbers
    → drop i numbers ≡ get_or numbers i 0 ∷ drop (i + 1) numbers
drop_one numbers i inside = let e : i + 1 ≡ suc i = omega arith in rw e (drop-cons numbers i 0 inside)

-- no line is left
none_left : (numbers : List ℕ) (k : ℕ) → line_at numbers [] k ≡ None
unfolding line_at
none_left [] k = grind (arith, common_steps)
none_left (n ∷ numbers) k = grind (arith, common_steps)

-- the first line is the one
first_is : (n : ℕ) (numbers : List ℕ) (line : List ℕ) (lines : List (List ℕ))
    → is_instruction line ≡ true → line_at (n ∷ numbers) (line ∷ lines) 0 ≡ Some (n, line)
unfolding line_at
first_is n numbers line lines is = grind (arith, common_steps, is)

-- the first line is one
one_is : (n : ℕ) (numbers : List ℕ) (line : List ℕ) (lines : List (List ℕ)) (k : ℕ)
    → is_instruction line ≡ true
    → line_at (n ∷ numbers) (line ∷ lines) (k + 1) ≡ line_at numbers lines k
unfolding line_at
one_is n numbers line lines k is = grind (arith, common_steps, is)

-- the first line is none
none_is : (n : ℕ) (numbers : List ℕ) (line : List ℕ) (lines : List (List ℕ)) (k : ℕ)
    → is_instruction line ≡ false → line_at (n ∷ numbers) (line ∷ lines) k ≡ line_at numbers lines k
unfolding line_at
none_is n numbers line lines k is = grind (arith, common_steps, is)

-- the k-th one stands in the rest of the lines, behind so many of them
pub record IsAhead (numbers : List ℕ) (all : List (List ℕ)) (k i count : ℕ) (lines : List (List ℕ)) : Type 0 where
  pub few : count ≤ k
  pub rest : line_at (drop i numbers) lines (k - count) ≡ line_at numbers all k

-- what is said where no line is left
pub none_said : (numbers items text : List ℕ) (lines : List (List ℕ)) (k i count : ℕ) (old new : List ℕ)
    → items ≡ numbers → lines ≡ []
    → IsAhead items (slice_split (λ b. b == 10) text) k i count lines → new ≡ old
    → new ≡ old ++ written_said numbers text k
unfolding line_at
none_said numbers items text lines k i count old new same empty s kept =
    let left : IsAhead items (slice_split (λ b. b == 10) text) k i count [] = rw empty at s in
    let none : line_at items (slice_split (λ b. b == 10) text) k ≡ None =
    sym left.rest ∙ none_left (drop i items) (k - count) in
    rw (← same, none) (kept ∙ sym (append-nil old))

-- what is said where no number is left
pub past_said : (numbers items text : List ℕ) (lines : List (List ℕ)) (k i count : ℕ) (old new : List ℕ)
    → items ≡ numbers → length items ≤ i
    → IsAhead items (slice_split (λ b. b == 10) text) k i count lines → new ≡ old
    → new ≡ old ++ written_said numbers text k
unfolding line_at
past_said numbers items text lines k i count old new same past s kept =
    let none : line_at items (slice_split (λ b. b == 10) text) k ≡ None =
    grind (arith, common_steps, s.rest, past) in
    rw (← same, none) (kept ∙ sym (append-nil old))

-- what is said of the line that is the one
pub found_said : (numbers items text : List ℕ) (lines rest : List (List ℕ)) (k i count : ℕ) (line old mid new : List ℕ)
    → items ≡ numbers → lines ≡ line ∷ rest
    → IsAhead items (slice_split (λ b. b == 10) text) k i count lines → i < length items
    → is_instruction line ≡ true → count ≡ k
    → mid ≡ old → new ≡ mid ++ numbered_line (get_or items i 0) line
    → new ≡ old ++ written_said numbers text k
unfolding line_at
found_said numbers items text lines rest k i count line old mid new same at s inside is reached kept said =
    let none : k - count ≡ 0 = omega (arith, reached) in
    let all = slice_split (λ b. b == 10) text in
    let here : IsAhead items all k i count (line ∷ rest) = rw at at s in
    let one = first_is (get_or items i 0) (drop (i + 1) items) line rest is in
    let found : line_at items all k ≡ Some (get_or items i 0, line) =
    sym here.rest ∙ rw (drop_one items i inside, none) one in
    rw (← same, found) (said ∙ ap (λ t. t ++ numbered_line (get_or items i 0) line) kept)

-- the line is one, and not yet the one
pub ahead_more : (items : List ℕ) (all lines : List (List ℕ)) (k i count counted : ℕ)
    (line : List ℕ) (rest : List (List ℕ))
    → lines ≡ line ∷ rest → i < length items
    → is_instruction line ≡ true → count ≢ k → counted ≡ count + 1
    → IsAhead items all k i count lines → IsAhead items all k (i + 1) counted rest
ahead_more items all lines k i count counted line rest at inside is other more s =
    let here : IsAhead items all k i count (line ∷ rest) = rw at at s in
    let next : k - count ≡ (k - counted) + 1 = omega (arith, s.few, other, more) in
    let one = one_is (get_or items i 0) (drop (i + 1) items) line rest (k - counted) is in
    record {
      few = omega (arith, s.few, other, more);
      rest = sym one ∙ (rw (drop_one items i inside, next) at here.rest);
    }

-- the line is none
pub ahead_next : (items : List ℕ) (all lines : List (List ℕ)) (k i count counted : ℕ)
    (line : List ℕ) (rest : List (List ℕ))
    → lines ≡ line ∷ rest → i < length items
    → is_instruction line ≡ false → counted ≡ count → IsAhead items all k i count lines
    → IsAhead items all k (i + 1) counted rest
ahead_next items all lines k i count counted line rest at inside is same s =
    let here : IsAhead items all k i count (line ∷ rest) = rw at at s in
    let one = none_is (get_or items i 0) (drop (i + 1) items) line rest (k - count) is in
    rw same record {
      few = s.few;
      rest = sym one ∙ (rw (drop_one items i inside) at here.rest);
    }
