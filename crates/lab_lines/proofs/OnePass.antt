-- One pass over wanted and written lines finds what each line of the script is to write and wrote.
use Rattle.std.proofs.Common.{◌≡◌, ◌≤◌, ◌<◌, ◌+◌, ℕ, zero, suc, ◌==◌, Bool, true, false, cond}
use Rattle.std.proofs.Common.{List, [], ◌∷◌, ◌++◌, length, map, filter, nat_lt, refl, sym, ap, ◌∙◌}
use Rattle.std.proofs.Common.{arith}
use Rattle.std.proofs.lemmas.Bool.Decides.{nat_tests}
use Rattle.std.specs.Cmp.Lexicographic.{pointwise}
use Rattle.lab_reader.specs.declared.sheet.Want.{Want}
use Rattle.lab_lines.specs.declared.pieces.Piece.{Piece}
use Rattle.lab_lines.specs.declared.testing.Ahead.{Ahead}
use Rattle.lab_lines.specs.declared.testing.Compared.{Compared}
use Rattle.lab_lines.specs.Differences.{is_clean, count_ahead}
use Rattle.lab_lines.specs.Told.{lines_of}
use Rattle.lab_lines.specs.Wanted.{is_wanted}
use Rattle.lab_lines.specs.Written.{Line, line_by, writer, all_lines, written_by}
use Rattle.lab_lines.specs.AsWanted.{AsWanted, AreInOrder, WantsInOrder, PiecesInOrder, is_refusal}
use Rattle.lab_lines.specs.AsWanted.{is_as_wanted, wanted_of, is_extra, rest_as_wanted}

-- the owners of lines
abbrev owners : List Line → List ℕ
owners lines = map (λ (l : Line). l.owner) lines

-- the owners of wanted lines
abbrev owners_of : List Want → List ℕ
owners_of wants = map (λ (w : Want). w.owner) wants

-- the lines of this owner
abbrev texts_by : (owner : ℕ) → List Line → List (List ℕ)
texts_by owner lines = map (λ (l : Line). l.text) (filter (λ (l : Line). l.owner == owner) lines)

-- ---- pieces and their lines

texts_same : (owner n : ℕ) (texts : List (List ℕ)) →
    texts_by n (map (line_by owner) texts) ≡ cond (owner == n) texts []
texts_same owner n [] = grind (arith, nat_tests)
texts_same owner n (t ∷ ts) = grind (arith, nat_tests, texts_same owner n ts)

texts_append : (n : ℕ) (xs ys : List Line) → texts_by n (xs ++ ys) ≡ texts_by n xs ++ texts_by n ys
texts_append n [] ys = refl
texts_append n (x ∷ xs) ys = grind (arith, nat_tests, texts_append n xs ys)

written_as_texts : (owner last : ℕ) (pieces : List Piece) →
    texts_by owner (all_lines last pieces) ≡ written_by owner last pieces
written_as_texts owner last [] = refl
written_as_texts owner last (p ∷ ps) =
    let first = texts_same (writer last p) owner (lines_of p.bytes.now) in
    let line = map (line_by (writer last p)) (lines_of p.bytes.now) in
    let both = texts_append owner line (all_lines last ps) in
    let rest = written_as_texts owner last ps in
    grind (arith, nat_tests, first, both, rest)

-- ---- their order

pub raise : (from to : ℕ) (ns : List ℕ) → from ≤ to → AreInOrder to ns → AreInOrder from ns
raise from to [] le h = tt
raise from to (n ∷ ns) le h = (omega arith, h.1)

order_same : (from owner : ℕ) (texts : List (List ℕ)) (rest : List Line) → from ≤ owner →
    AreInOrder owner (owners rest) → AreInOrder from (owners (map (line_by owner) texts ++ rest))
order_same from owner [] rest le h = raise from owner (owners rest) le h
order_same from owner (t ∷ ts) rest le h = (le, order_same owner owner ts rest (omega arith) h)

lines_in_order : (from last : ℕ) (pieces : List Piece) → PiecesInOrder from last pieces →
    AreInOrder from (owners (all_lines last pieces))
lines_in_order from last [] h = tt
lines_in_order from last (p ∷ ps) h =
    order_same from (writer last p) (lines_of p.bytes.now) (all_lines last ps) h.0
    (lines_in_order (writer last p) last ps h.1)

-- nothing belongs to a number below all
none_below : {X : Type 0} (f : X → ℕ) (n from : ℕ) (xs : List X) → n < from →
    AreInOrder from (map f xs) → filter (λ x. f x == n) xs ≡ []
none_below f n from [] lt h = refl
none_below f n from (x ∷ xs) lt h =
    let le = h.0 in
    let rest = none_below f n (f x) xs (omega arith) h.1 in
    grind (arith, nat_tests, rest)

-- ---- one pass

-- what one line of the script wrote, where `same` says that lines of it were wanted before
abbrev row : (same : Bool) → (wants lines : List (List ℕ)) → Bool
row true wants lines = pointwise is_wanted wants lines
row false wants lines = is_as_wanted wants lines

-- what each line of the script wrote
abbrev Rows : (owner : ℕ) → List Want → List Line → Type 0
Rows owner wants lines = (n : ℕ) → row (n == owner) (wanted_of n wants) (texts_by n lines) ≡ true

-- a line for which nothing is wanted
row_more : (same : Bool) (text : List ℕ) (texts : List (List ℕ)) →
    row same [] (text ∷ texts) ≡ true →
    (same ≡ false) × (is_refusal text ≡ false) × (row same [] texts ≡ true)
row_more true text texts h = absurd (cc)
row_more false text texts h = (refl, grind (arith, nat_tests), grind (arith, nat_tests))

row_less : (text : List ℕ) (texts : List (List ℕ)) → is_refusal text ≡ false →
    is_as_wanted [] texts ≡ true → is_as_wanted [] (text ∷ texts) ≡ true
row_less text texts r h = grind (arith, nat_tests)

-- a wanted line that is late
late : (owner : ℕ) (w : Want) (ws : List Want) (l : Line) (ls : List Line) → w.owner < l.owner →
    rest_as_wanted owner (w ∷ ws) (l ∷ ls) ≡ false
late owner w ws l ls lt = grind (arith, nat_tests)

-- a line before it
passes : (owner : ℕ) (w : Want) (ws : List Want) (l : Line) (ls : List Line) → l.owner < w.owner →
    is_extra owner l ≡ false → rest_as_wanted owner (w ∷ ws) (l ∷ ls) ≡ rest_as_wanted owner (w ∷ ws) ls
passes owner w ws l ls lt e = grind (arith, nat_tests)

-- a pair
comes : (owner : ℕ) (w : Want) (ws : List Want) (l : Line) (ls : List Line) → l.owner ≡ w.owner →
    is_wanted w.text l.text ≡ true → rest_as_wanted owner (w ∷ ws) (l ∷ ls) ≡ rest_as_wanted w.owner ws ls
comes owner w ws l ls lt e = grind (arith, nat_tests)

-- ---- what belongs to a line of the script

data Order (m n : ℕ) : Type 0 where
  Less : m < n → Order m n
  Same : m ≡ n → Order m n
  More : n < m → Order m n

order_of : (m n : ℕ) → Order m n
order_of m n =
    elim (nat_lt m n) as (λ b. nat_lt m n ≡ b → Order m n) [
      | true ↦ λ h. Less (grind (arith, nat_tests))
      | false ↦ λ h. elim (nat_lt n m) as (λ b. nat_lt n m ≡ b → Order m n) [
        | true ↦ λ k. More (grind (arith, nat_tests))
        | false ↦ λ k. Same (grind (arith, nat_tests))
      ] refl
    ] refl

wanted_here : (n : ℕ) (w : Want) (ws : List Want) → w.owner ≡ n →
    wanted_of n (w ∷ ws) ≡ w.text ∷ wanted_of n ws
wanted_here n w ws e = grind (arith, nat_tests)

wanted_else : (n : ℕ) (w : Want) (ws : List Want) → ¬ (w.owner ≡ n) →
    wanted_of n (w ∷ ws) ≡ wanted_of n ws
wanted_else n w ws e = grind (arith, nat_tests)

texts_here : (n : ℕ) (l : Line) (ls : List Line) → l.owner ≡ n →
    texts_by n (l ∷ ls) ≡ l.text ∷ texts_by n ls
texts_here n l ls e = grind (arith, nat_tests)

texts_else : (n : ℕ) (l : Line) (ls : List Line) → ¬ (l.owner ≡ n) →
    texts_by n (l ∷ ls) ≡ texts_by n ls
texts_else n l ls e = grind (arith, nat_tests)

none_wanted : (n from : ℕ) (ws : List Want) → n < from → AreInOrder from (owners_of ws) →
    wanted_of n ws ≡ []
none_wanted n from ws lt h =
    ap (λ xs. map (λ (w : Want). w.text) xs) (none_below (λ (w : Want). w.owner) n from ws lt h)

none_written : (n from : ℕ) (ls : List Line) → n < from → AreInOrder from (owners ls) →
    texts_by n ls ≡ []
none_written n from ls lt h =
    ap (λ xs. map (λ (l : Line). l.text) xs) (none_below (λ (l : Line). l.owner) n from ls lt h)

-- ---- no difference is told: all is as wanted

passed : (owner : ℕ) (w : Want) (ws : List Want) (l : Line) (ls : List Line) → l.owner < w.owner →
    rest_as_wanted owner (w ∷ ws) (l ∷ ls) ≡ true →
    (is_extra owner l ≡ false) × (rest_as_wanted owner (w ∷ ws) ls ≡ true)
passed owner w ws l ls lt h = (grind (arith, nat_tests), grind (arith, nat_tests))

came : (owner : ℕ) (w : Want) (ws : List Want) (l : Line) (ls : List Line) → l.owner ≡ w.owner →
    rest_as_wanted owner (w ∷ ws) (l ∷ ls) ≡ true →
    (is_wanted w.text l.text ≡ true) × (rest_as_wanted w.owner ws ls ≡ true)
came owner w ws l ls lt h = (grind (arith, nat_tests), grind (arith, nat_tests))

-- wanted lines that came are in order
wants_in_order : (owner from : ℕ) (wants : List Want) (lines : List Line) →
    rest_as_wanted owner wants lines ≡ true → AreInOrder from (owners lines) → AreInOrder from (owners_of wants)
wants_in_order owner from [] lines h order = tt
wants_in_order owner from (w ∷ ws) [] h order = absurd (grind (arith, nat_tests))
wants_in_order owner from (w ∷ ws) (l ∷ ls) h order =
    elim (order_of l.owner w.owner) [
      | Less lt ↦ raise from l.owner (owners_of (w ∷ ws)) order.0
          (wants_in_order owner l.owner (w ∷ ws) ls (passed owner w ws l ls lt h).1 order.1)
      | Same e ↦ (
        omega (arith, order.0),
        wants_in_order w.owner w.owner ws ls (came owner w ws l ls e h).1 (rw e at order.1),
      )
      | More lt ↦ absurd (cc (late owner w ws l ls lt))
    ]

-- nothing is wanted, and nothing was written
row_none : (same : Bool) → row same [] [] ≡ true
row_none true = refl
row_none false = refl

-- one written line more for which nothing is wanted
one_more : (same : Bool) (text : List ℕ) (texts : List (List ℕ)) → same ≡ false →
    is_refusal text ≡ false → row same [] texts ≡ true → row same [] (text ∷ texts) ≡ true
one_more true text texts e r h = absurd (cc)
one_more false text texts e r h = row_less text texts r h

-- one that is wanted
pair_more : (same : Bool) (want text : List ℕ) (wants texts : List (List ℕ)) →
    is_wanted want text ≡ true → pointwise is_wanted wants texts ≡ true →
    row same (want ∷ wants) (text ∷ texts) ≡ true
pair_more true want text wants texts e h = rw (e, h) refl
pair_more false want text wants texts e h = rw (e, h) refl

unequal : (m n : ℕ) → ¬ (m ≡ n) → (m == n) ≡ false
unequal m n e = grind (arith, nat_tests)

equal : (m n : ℕ) → m ≡ n → (m == n) ≡ true
equal m n e = grind (arith, nat_tests)

-- a line for which nothing is wanted, before wanted lines of later ones
row_passes : (owner n : ℕ) (ws : List Want) (l : Line) (ls : List Line) →
    AreInOrder (suc l.owner) (owners_of ws) → is_extra owner l ≡ false →
    row (n == owner) (wanted_of n ws) (texts_by n ls) ≡ true →
    row (n == owner) (wanted_of n ws) (texts_by n (l ∷ ls)) ≡ true
row_passes owner n ws l ls order e h =
    elim (order_of l.owner n) [
      | Same k ↦
          let none = none_wanted n (suc l.owner) ws (omega arith) order in
          let before : row (n == owner) [] (texts_by n ls) ≡ true = rw none at h in
          let other : (n == owner) ≡ false = grind (arith, nat_tests) in
          let refused : is_refusal l.text ≡ false = grind (arith, nat_tests) in
          rw (none, texts_here n l ls k) (one_more (n == owner) l.text (texts_by n ls) other refused before)
      | Less k ↦ rw (texts_else n l ls (λ q. omega arith)) h
      | More k ↦ rw (texts_else n l ls (λ q. omega arith)) h
    ]

-- a pair, of a line of the script that isn't before those that were wanted
row_comes : (owner n : ℕ) (w : Want) (ws : List Want) (l : Line) (ls : List Line) →
    l.owner ≡ w.owner → owner ≤ w.owner → is_wanted w.text l.text ≡ true →
    AreInOrder w.owner (owners_of ws) → AreInOrder w.owner (owners ls) →
    row (n == w.owner) (wanted_of n ws) (texts_by n ls) ≡ true →
    row (n == owner) (wanted_of n (w ∷ ws)) (texts_by n (l ∷ ls)) ≡ true
row_comes owner n w ws l ls e le is wants lines h =
    elim (order_of w.owner n) [
      | Same k ↦
          let same : (n == w.owner) ≡ true = equal n w.owner (sym k) in
          let before : pointwise is_wanted (wanted_of n ws) (texts_by n ls) ≡ true = rw same at h in
          rw (wanted_here n w ws k, texts_here n l ls (e ∙ k))
          (pair_more (n == owner) w.text l.text (wanted_of n ws) (texts_by n ls) is before)
      | Less k ↦
          let other : (n == w.owner) ≡ (n == owner) =
          unequal n w.owner (λ q. omega arith) ∙ sym (unequal n owner (λ q. omega arith)) in
          rw (wanted_else n w ws (λ q. omega arith), texts_else n l ls (λ q. omega arith), ← other) h
      | More k ↦
          let a = none_wanted n w.owner ws k wants in
          let b = none_written n w.owner ls k lines in
          rw (wanted_else n w ws (λ q. omega arith), texts_else n l ls (λ q. omega arith), a, b)
          (row_none (n == owner))
    ]

-- where one pass finds no difference, each line of the script wrote what is wanted of it
rows : (owner n : ℕ) (wants : List Want) (lines : List Line) → rest_as_wanted owner wants lines ≡ true →
    AreInOrder owner (owners lines) →
    row (n == owner) (wanted_of n wants) (texts_by n lines) ≡ true
rows owner n [] [] h order = row_none (n == owner)
rows owner n (w ∷ ws) [] h order = absurd (grind (arith, nat_tests))
rows owner n [] (l ∷ ls) h order =
    row_passes owner n [] l ls tt (grind (arith, nat_tests))
    (rows owner n [] ls (grind (arith, nat_tests)) (raise owner l.owner (owners ls) order.0 order.1))
rows owner n (w ∷ ws) (l ∷ ls) h order =
    let rest = raise owner l.owner (owners ls) order.0 order.1 in
    elim (order_of l.owner w.owner) [
      | Less lt ↦
          let both = passed owner w ws l ls lt h in
          let wants = wants_in_order owner l.owner (w ∷ ws) ls both.1 order.1 in
          row_passes owner n (w ∷ ws) l ls (omega arith, wants.1) both.0
          (rows owner n (w ∷ ws) ls both.1 rest)
      | Same e ↦
          let both = came owner w ws l ls e h in
          let lines : AreInOrder w.owner (owners ls) = rw e at order.1 in
          let wants = wants_in_order w.owner w.owner ws ls both.1 lines in
          row_comes owner n w ws l ls e (omega (arith, order.0)) both.0 wants lines
          (rows w.owner n ws ls both.1 lines)
      | More lt ↦ absurd (cc (late owner w ws l ls lt))
    ]

-- the same of pieces
as_row : (same : Bool) (wants lines : List (List ℕ)) → row same wants lines ≡ true →
    is_as_wanted wants lines ≡ true
as_row false wants lines h = h
as_row true [] [] h = refl
as_row true [] (l ∷ ls) h = absurd (cc)
as_row true (w ∷ ws) lines h = h

trusted : (wants : List Want) (last : ℕ) (pieces : List Piece) →
    rest_as_wanted 0 wants (all_lines last pieces) ≡ true → PiecesInOrder 0 last pieces →
    AsWanted wants last pieces
trusted wants last pieces h order owner =
    rw (← written_as_texts owner last pieces)
    (as_row (owner == 0) (wanted_of owner wants) (texts_by owner (all_lines last pieces))
    (rows 0 owner wants (all_lines last pieces) h (lines_in_order 0 last pieces order)))

-- ---- all is as wanted: no difference is told

-- a wanted line for which nothing was written
row_short : (same : Bool) (want : List ℕ) (wants : List (List ℕ)) →
    row same (want ∷ wants) [] ≡ true → ⊥
row_short true want wants h = cc
row_short false want wants h = cc

-- a pair
row_pair : (same : Bool) (want text : List ℕ) (wants texts : List (List ℕ)) →
    row same (want ∷ wants) (text ∷ texts) ≡ true →
    (is_wanted want text ≡ true) × (pointwise is_wanted wants texts ≡ true)
row_pair true want text wants texts h = (grind (arith, nat_tests), grind (arith, nat_tests))
row_pair false want text wants texts h = (grind (arith, nat_tests), grind (arith, nat_tests))

-- what a line says for which nothing is wanted
passing : (owner : ℕ) (ws : List Want) (l : Line) (ls : List Line) → wanted_of l.owner ws ≡ [] →
    row (l.owner == owner) (wanted_of l.owner ws) (texts_by l.owner (l ∷ ls)) ≡ true →
    (is_extra owner l ≡ false) × (row (l.owner == owner) [] (texts_by l.owner ls) ≡ true)
passing owner ws l ls none h =
    let said = row_more (l.owner == owner) l.text (texts_by l.owner ls)
    (rw (none, texts_here l.owner l ls refl) at h) in
    (grind (arith, nat_tests), said.2)

-- the others are as wanted without it
passing_rest : (owner n : ℕ) (ws : List Want) (l : Line) (ls : List Line) →
    wanted_of l.owner ws ≡ [] → row (l.owner == owner) [] (texts_by l.owner ls) ≡ true →
    row (n == owner) (wanted_of n ws) (texts_by n (l ∷ ls)) ≡ true →
    row (n == owner) (wanted_of n ws) (texts_by n ls) ≡ true
passing_rest owner n ws l ls none less h =
    elim (order_of l.owner n) [
      | Same k ↦ rw (← k, none) less
      | Less k ↦ rw (texts_else n l ls (λ q. omega arith)) at h
      | More k ↦ rw (texts_else n l ls (λ q. omega arith)) at h
    ]

coming_other : (owner n : ℕ) (w : Want) (ws : List Want) (l : Line) (ls : List Line) →
    ¬ (w.owner ≡ n) → ¬ (l.owner ≡ n) →
    row (n == owner) (wanted_of n (w ∷ ws)) (texts_by n (l ∷ ls)) ≡ true →
    row (n == w.owner) (wanted_of n ws) (texts_by n ls) ≡ true
coming_other owner n w ws l ls j k h =
    let before : row (n == owner) (wanted_of n ws) (texts_by n ls) ≡ true =
    rw (wanted_else n w ws j, texts_else n l ls k) at h in
    rw (unequal n w.owner (λ q. j (sym q)))
    (as_row (n == owner) (wanted_of n ws) (texts_by n ls) before)

-- the others are as wanted without a pair
coming_rest : (owner n : ℕ) (w : Want) (ws : List Want) (l : Line) (ls : List Line) →
    l.owner ≡ w.owner → pointwise is_wanted (wanted_of w.owner ws) (texts_by w.owner ls) ≡ true →
    row (n == owner) (wanted_of n (w ∷ ws)) (texts_by n (l ∷ ls)) ≡ true →
    row (n == w.owner) (wanted_of n ws) (texts_by n ls) ≡ true
coming_rest owner n w ws l ls e pairs h =
    elim (order_of w.owner n) [
      | Same k ↦ rw (← k, equal w.owner w.owner refl) pairs
      | Less k ↦ coming_other owner n w ws l ls (λ q. omega arith) (λ q. omega arith) h
      | More k ↦ coming_other owner n w ws l ls (λ q. omega arith) (λ q. omega arith) h
    ]

left_out : (owner : ℕ) (l : Line) (ls : List Line) → is_extra owner l ≡ false →
    rest_as_wanted owner [] (l ∷ ls) ≡ rest_as_wanted owner [] ls
left_out owner l ls e = grind (arith, nat_tests)

-- where one pass finds a difference, a line of the script didn't write what is wanted of it
rows_back : (owner : ℕ) (wants : List Want) (lines : List Line) →
    AreInOrder owner (owners_of wants) → AreInOrder owner (owners lines) →
    Rows owner wants lines → rest_as_wanted owner wants lines ≡ true
rows_back owner [] [] order behind h = refl
rows_back owner (w ∷ ws) [] order behind h =
    absurd (row_short (w.owner == owner) w.text (wanted_of w.owner ws)
    (rw (wanted_here w.owner w ws refl) at (h w.owner)))
rows_back owner [] (l ∷ ls) order behind h =
    let said = passing owner [] l ls refl (h l.owner) in
    let rest = rows_back owner [] ls tt (raise owner l.owner (owners ls) behind.0 behind.1)
    (λ n. passing_rest owner n [] l ls refl said.1 (h n)) in
    left_out owner l ls said.0 ∙ rest
rows_back owner (w ∷ ws) (l ∷ ls) order behind h =
    let lower = raise owner l.owner (owners ls) behind.0 behind.1 in
    elim (order_of l.owner w.owner) [
      | Less lt ↦
          let none = none_wanted l.owner w.owner (w ∷ ws) lt (omega arith, order.1) in
          let said = passing owner (w ∷ ws) l ls none (h l.owner) in
          passes owner w ws l ls lt said.0
          ∙ rows_back owner (w ∷ ws) ls order lower
          (λ n. passing_rest owner n (w ∷ ws) l ls none said.1 (h n))
      | Same e ↦
          let both = row_pair (w.owner == owner) w.text l.text (wanted_of w.owner ws) (texts_by w.owner ls)
          (rw (wanted_here w.owner w ws refl, texts_here w.owner l ls e) at (h w.owner)) in
          comes owner w ws l ls e both.0
          ∙ rows_back w.owner ws ls order.1 (rw e at behind.1)
          (λ n. coming_rest owner n w ws l ls e both.1 (h n))
      | More lt ↦
          let none = none_written w.owner l.owner (l ∷ ls) lt (omega arith, behind.1) in
          absurd (row_short (w.owner == owner) w.text (wanted_of w.owner ws)
          (rw (wanted_here w.owner w ws refl, none) at (h w.owner)))
    ]

-- what is as wanted, at the beginning, where no line is numbered 0
from_one : (n : ℕ) (wants : List Want) (lines : List Line) → AreInOrder 1 (owners_of wants) →
    AreInOrder 1 (owners lines) → is_as_wanted (wanted_of n wants) (texts_by n lines) ≡ true →
    row (n == 0) (wanted_of n wants) (texts_by n lines) ≡ true
from_one zero wants lines order behind h =
    rw (none_wanted 0 1 wants (omega arith) order, none_written 0 1 lines (omega arith) behind) refl
from_one (suc n) wants lines order behind h = rw (unequal (suc n) 0 (λ q. omega arith)) h

silent : (wants : List Want) (last : ℕ) (pieces : List Piece) → WantsInOrder wants →
    PiecesInOrder 1 last pieces → AsWanted wants last pieces →
    rest_as_wanted 0 wants (all_lines last pieces) ≡ true
silent wants last pieces order behind h =
    let lines = lines_in_order 1 last pieces behind in
    rows_back 0 wants (all_lines last pieces) (raise 0 1 (owners_of wants) (omega arith) order)
    (raise 0 1 (owners (all_lines last pieces)) (omega arith) lines)
    (λ n. from_one n wants (all_lines last pieces) order lines
    (rw (written_as_texts n last pieces) (h n)))

-- ---- the end

-- nothing is ahead
over : (owner : ℕ) (wants : List Want) (lines : List Line) →
    (length wants + length lines == 0) ≡ true → rest_as_wanted owner wants lines ≡ true
over owner [] [] h = refl
over owner (w ∷ ws) [] h = absurd (grind (arith, nat_tests))
over owner [] (l ∷ ls) h = absurd (grind (arith, nat_tests))
over owner (w ∷ ws) (l ∷ ls) h = absurd (grind (arith, nat_tests))

-- what is counted in all is what one pass finds
counted_as : (told : Compared) (ahead : Ahead) (all : Bool) →
    (count_ahead ahead == 0) ≡ true → is_clean told ahead ≡ all → (told.differences == 0) ≡ all
counted_as told ahead all done same =
    let e = over ahead.owner ahead.wants.now ahead.lines.now done in
    grind (arith, nat_tests, e)

-- no difference is told only where all is as wanted
pub trusted_told : (told : Compared) (ahead : Ahead) (wants : List Want) (last : ℕ)
    (pieces : List Piece) → (count_ahead ahead == 0) ≡ true →
    is_clean told ahead ≡ rest_as_wanted 0 wants (all_lines last pieces) →
    PiecesInOrder 0 last pieces → told.differences ≡ 0 → AsWanted wants last pieces
trusted_told told ahead wants last pieces done same order none =
    trusted wants last pieces
    (sym (counted_as told ahead (rest_as_wanted 0 wants (all_lines last pieces)) done same)
    ∙ equal told.differences 0 none) order

-- where all is as wanted none is told
pub silent_told : (told : Compared) (ahead : Ahead) (wants : List Want) (last : ℕ)
    (pieces : List Piece) → (count_ahead ahead == 0) ≡ true →
    is_clean told ahead ≡ rest_as_wanted 0 wants (all_lines last pieces) → WantsInOrder wants →
    PiecesInOrder 1 last pieces → AsWanted wants last pieces → told.differences ≡ 0
silent_told told ahead wants last pieces done same order behind all =
    let e = counted_as told ahead (rest_as_wanted 0 wants (all_lines last pieces)) done same
    ∙ silent wants last pieces order behind all in
    grind (arith, nat_tests, e)
