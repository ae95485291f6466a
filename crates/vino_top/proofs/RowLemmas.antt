-- The lines of rows, and of calls that are left, one after another.
use Rattle.std.proofs.Common.{◌≡◌, ◌≤◌, ◌<◌, ℕ, zero, suc, ◌+◌, ◌*◌, List, [], ◌∷◌, ◌++◌, Option}
use Rattle.std.proofs.Common.{Some, None, drop, length, codes, decimal, arith, refl, sym, ap, ◌∙◌}
use Rattle.std.proofs.Common.{append-nil, append_assoc}
use Rattle.std.specs.Prelude.{IfSome, slice_get, map, option_map}
use Rattle.std.specs.List.{concat, range_with_len}
use Rattle.std.proofs.lemmas.List.Folds.{concat-append}
use Rattle.std.proofs.lemmas.List.FromFn.{map-range_with_len_more}
use Rattle.kernel_data.specs.declared.RawRow.{RawRow}
use Rattle.script_model.specs.Text.{line, left_text, row_lines, row_text}
use Rattle.placed_laws.specs.Placed.{Placed, PlacedCall}
use Rattle.vino_top.specs.Standing.{placed_left_line, placed_left_lines}

-- before the first row
pub row_first : (n : ℕ) (rows all : List RawRow) (old : List ℕ) → old ≡ [] → rows ≡ all →
    old ++ row_lines n rows ≡ row_lines n all
row_first n rows all old none same = ap (λ ys. ys ++ row_lines n rows) none ∙ ap (row_lines n) same

pub no_bytes : (old : List ℕ) → old ≡ [] → (most : ℕ) → most ≡ 1478 → length old + 2048 * most ≤ 3026944
no_bytes old none most all = omega (arith, ap length none)

-- a row more, and the lines of the rest
pub row_more : (n : ℕ) (rows rest : List RawRow) (r : RawRow) (old new text all : List ℕ) →
    old ++ row_lines n rows ≡ all → Some r ≡ slice_get rows 0 → rest ≡ drop 1 rows →
    text ≡ line (decimal n ++ codes " raw " ++ row_text r) → new ≡ old ++ text → new ++ row_lines n rest ≡ all
row_more n [] rest r old new text all before is behind said more = absurd cc
row_more n (x ∷ rows) rest r old new text all before is behind said more =
    let same : r ≡ x = cc in
    ap (λ t. t ++ row_lines n rest) (more ∙ ap (λ t. old ++ t) (said
    ∙ ap (λ y. line (decimal n ++ codes " raw " ++ row_text y)) same))
    ∙ append_assoc old (line (decimal n ++ codes " raw " ++ row_text x)) (row_lines n rest)
    ∙ ap (λ ys. old ++ (line (decimal n ++ codes " raw " ++ row_text x) ++ row_lines n ys)) behind
    ∙ before

-- a list has what lies before its end
pub some_row : {T : Type 0} (xs : List T) (i : ℕ) → i < length xs → slice_get xs i ≡ None → ⊥
some_row [] i below h = omega (arith, below)
some_row (x ∷ xs) zero below h = differ h
  where
    differ : Some x ≡ None → ⊥
    differ e = cc
some_row (x ∷ xs) (suc i) below h = some_row xs i (omega (arith, below)) h

-- a row more, where one was found
pub found_more : (n : ℕ) (rows rest : List RawRow) (found : Option RawRow)
    (old new text all : List ℕ) → (found ≡ None → ⊥) → old ++ row_lines n rows ≡ all →
    found ≡ slice_get rows 0 → rest ≡ drop 1 rows →
    IfSome found (λ (r : RawRow). text ≡ line (decimal n ++ codes " raw " ++ row_text r)) →
    new ≡ old ++ text → new ++ row_lines n rest ≡ all
found_more n rows rest None old new text all some before is behind said more = absurd (some refl)
found_more n rows rest (Some r) old new text all some before is behind said more =
    row_more n rows rest r old new text all before is behind said more

-- and then fewer are left
pub found_fewer : (found : Option RawRow) (a b : ℕ) → (found ≡ None → ⊥) → IfSome found (λ (r : RawRow). a < b) → a < b
found_fewer None a b some less = absurd (some refl)
found_fewer (Some r) a b some less = less

-- no row is left
pub row_end : (n : ℕ) (rows : List RawRow) (found : Option RawRow) (old all : List ℕ) →
    old ++ row_lines n rows ≡ all → found ≡ slice_get rows 0 → found ≡ None → old ≡ all
row_end n [] found old all before is none = sym (append-nil old) ∙ before
row_end n (x ∷ rows) found old all before is none = absurd (differ (sym is ∙ none))
  where
    differ : Some x ≡ None → ⊥
    differ h = cc

-- ---- calls that are left

-- one process more: its call is left, or it has none
pub left_more : (x : Placed) (p : ℕ) (old new : List ℕ) →
    old ≡ concat (map (λ q. placed_left_line q (x.call q)) (range_with_len 0 p)) →
    new ≡ old ++ placed_left_line p (x.call p) →
    new ≡ concat (map (λ q. placed_left_line q (x.call q)) (range_with_len 0 (p + 1)))
left_more x p old new before more =
    let f : ℕ → List ℕ = λ q. placed_left_line q (x.call q) in
    let next : 0 + p ≡ p = omega arith in
    more ∙ ap (λ ys. ys ++ f p) before ∙ ap (λ ys. concat (map f (range_with_len 0 p)) ++ ys) (sym (append-nil (f p)))
    ∙ sym (concat-append (map f (range_with_len 0 p)) (f p ∷ []))
    ∙ ap concat (sym (map-range_with_len_more f 0 p p next))

-- what is written of one process
pub left_some : (p : ℕ) (o : Option PlacedCall) (number : ℕ) →
    Some number ≡ option_map (λ (c : PlacedCall). c.number) o →
    placed_left_line p o ≡ line (left_text p number)
left_some p None number h = absurd cc
left_some p (Some c) number h = let same : number ≡ c.number = cc in ap (λ n. line (left_text p n)) (sym same)

pub left_none : (p : ℕ) (o : Option PlacedCall) →
    None ≡ option_map (λ (c : PlacedCall). c.number) o → placed_left_line p o ≡ []
left_none p None h = refl
left_none p (Some c) h = absurd cc

-- all processes
pub left_all : (x : Placed) (p : ℕ) (old : List ℕ) → 16 ≤ p → p ≤ 16 →
    old ≡ concat (map (λ q. placed_left_line q (x.call q)) (range_with_len 0 p)) →
    old ≡ placed_left_lines x
left_all x p old least most before =
    let all : p ≡ 16 = omega (arith, least, most) in
    before
    ∙ ap (λ n. concat (map (λ q. placed_left_line q (x.call q)) (range_with_len 0 n))) all
