-- Rows found, changed and added.
use Rattle.std.proofs.Common.{◌≡◌, ◌<◌, ◌≤◌, ◌+◌, ℕ, suc, Bool, true, false, cond, not, ◌&&◌, ◌==◌}
use Rattle.std.proofs.Common.{List, [], ◌∷◌, ◌++◌, length, filter, Some, arith, refl, sym, ap, ◌∙◌}
use Rattle.std.proofs.Common.{subst}
use Rattle.std.specs.Prelude.{find, slice_set, slice_index_or}
use Rattle.std.proofs.Math.Path.{fun_ext}
use Rattle.std.proofs.lemmas.Bool.Decides.{nat_tests}
use Rattle.std.proofs.lemmas.Bool.{true≢false}
use Rattle.kernel_data.specs.Objects.{at, at2}
use Rattle.audit_table.specs.declared.Row.{Row}
use Rattle.audit_table.specs.Tables.{is_at, value_in, table_of, rows_before, row_cleared}

abbrev pub new_row : {A : Type 0} → ℕ → ℕ → A → Row A
new_row i k v = record { first = i; second = k; value = v }

-- ---- looking for a row

-- the row at hand is of the place
pub found : {A : Type 0} (i k n : ℕ) (r : Row A) (rs : List (Row A)) → rs ≡ rs → is_at i k r ≡ true →
    n + rows_before i k (r ∷ rs) ≡ n
found i k n r rs e h =
    ap (λ (b : Bool). n + cond b 0 (suc (rows_before i k rs))) h ∙ (let e : n + 0 ≡ n = omega arith in e)

-- it isn't
pub not_found : {A : Type 0} (i k n : ℕ) (r : Row A) (rs : List (Row A)) → is_at i k r ≡ false →
    n + rows_before i k (r ∷ rs) ≡ n + 1 + rows_before i k rs
not_found i k n r rs h =
    let m = rows_before i k rs in
    ap (λ (b : Bool). n + cond b 0 (suc m)) h ∙ (let e : n + suc m ≡ n + 1 + m = omega arith in e)

-- ---- a changed row

-- both places are these
both_are : (i k x y : ℕ) → (i == x && k == y) ≡ (x == i && y == k)
both_are i k x y = grind (arith, nat_tests)

-- a row of two places is a row where they are one
one_place : (i k x y f s : ℕ) → (f == i && s == k) ≡ true → (f == x && s == y) ≡ true →
    (x == i && y == k) ≡ true
one_place i k x y f s h e = grind (arith, nat_tests, h, e)

-- a row of another place is none where this is the place
other_place : (i k x y f s : ℕ) → (f == i && s == k) ≡ false → (f == x && s == y) ≡ true →
    (x == i && y == k) ≡ false
other_place i k x y f s h e = grind (arith, nat_tests, h, e)

-- a row of one place is none of another
no_place : (i k x y f s : ℕ) → (f == i && s == k) ≡ true → (f == x && s == y) ≡ false →
    (x == i && y == k) ≡ false
no_place i k x y f s h e = grind (arith, nat_tests, h, e)

-- the value of the first row, or what the others give
abbrev pub ahead : {A : Type 0} → A → (b : Bool) → Row A → List (Row A) → (x y : ℕ) → A
ahead d b r rs x y = value_in d (cond b (Some r) (find (is_at x y) rs))

-- ---- what a place has

-- the first row of a place
pub get_there : {A : Type 0} (d : A) (e : Row A) (rs : List (Row A)) (i k : ℕ) →
    rows_before i k rs < length rs →
    (slice_index_or rs (rows_before i k rs) e).value ≡ table_of d rs i k
get_there d e [] i k h = absurd (omega (arith, h))
get_there {A} d e (r ∷ rs) i k h = by (is_at i k r) refl (λ less. get_there d e rs i k less)
  where
    by : (b : Bool) → is_at i k r ≡ b →
        (rows_before i k rs < length rs →
        (slice_index_or rs (rows_before i k rs) e).value ≡ table_of d rs i k) →
        (slice_index_or (r ∷ rs) (rows_before i k (r ∷ rs)) e).value ≡ table_of d (r ∷ rs) i k
    by true is rest =
        ap (λ (b : Bool). (slice_index_or (r ∷ rs) (cond b 0 (suc (rows_before i k rs))) e).value) is
        ∙ sym (ap (λ (b : Bool). ahead d b r rs i k) is)
    by false is rest =
        ap (λ (b : Bool). (slice_index_or (r ∷ rs) (cond b 0 (suc (rows_before i k rs))) e).value) is
        ∙ rest (let less : suc (rows_before i k rs) < suc (length rs) = subst
        (λ (b : Bool). cond b 0 (suc (rows_before i k rs)) < suc (length rs)) is h in omega (arith, less))
        ∙ sym (ap (λ (b : Bool). ahead d b r rs i k) is)

-- no row is of the place
pub get_none : {A : Type 0} (d : A) (rs : List (Row A)) (i k : ℕ) → length rs ≤ rows_before i k rs →
    d ≡ table_of d rs i k
get_none d [] i k h = refl
get_none {A} d (r ∷ rs) i k h = by (is_at i k r) refl (λ less. get_none d rs i k less)
  where
    by : (b : Bool) → is_at i k r ≡ b → (length rs ≤ rows_before i k rs → d ≡ table_of d rs i k) →
        d ≡ table_of d (r ∷ rs) i k
    by true is rest =
        let none : suc (length rs) ≤ 0 =
        subst (λ (b : Bool). suc (length rs) ≤ cond b 0 (suc (rows_before i k rs))) is h in
        absurd (omega (arith, none))
    by false is rest =
        let less : suc (length rs) ≤ suc (rows_before i k rs) =
        subst (λ (b : Bool). suc (length rs) ≤ cond b 0 (suc (rows_before i k rs))) is h in
        rest (omega (arith, less)) ∙ sym (ap (λ (b : Bool). ahead d b r rs i k) is)

-- ---- a place gets a value

-- a value before another
abbrev pub chosen : {A : Type 0} → (b : Bool) → A → A → A
chosen b v w = cond b v w

-- the new row alone decides of its place
new_first : {A : Type 0} (d v : A) (rs : List (Row A)) (i k x y : ℕ) →
    ahead d (is_at x y (new_row i k v)) (new_row i k v) rs x y ≡ cond (x == i && y == k) v (table_of d rs x y)
new_first d v rs i k x y = by (x == i && y == k) (both_are i k x y)
  where
    by : (b : Bool) → (i == x && k == y) ≡ b →
        ahead d (i == x && k == y) (new_row i k v) rs x y ≡ cond b v (table_of d rs x y)
    by true e = ap (λ (b : Bool). ahead d b (new_row i k v) rs x y) e
    by false e = ap (λ (b : Bool). ahead d b (new_row i k v) rs x y) e

-- a row of this place gave nothing to other places
replaced : {A : Type 0} (d v : A) (r : Row A) (rs : List (Row A)) (i k x y : ℕ) → is_at i k r ≡ true →
    cond (x == i && y == k) v (table_of d rs x y) ≡ cond (x == i && y == k) v (table_of d (r ∷ rs) x y)
replaced d v r rs i k x y is = by (is_at x y r) refl (x == i && y == k) refl
  where
    by : (a : Bool) → is_at x y r ≡ a → (b : Bool) → (x == i && y == k) ≡ b →
        cond b v (table_of d rs x y) ≡ cond b v (table_of d (r ∷ rs) x y)
    by a at true here = refl
    by true at false here = absurd (true≢false (sym (one_place i k x y r.first r.second is at) ∙ here))
    by false at false here = sym (ap (λ (b : Bool). ahead d b r rs x y) at)

-- a row of another place stays
kept : {A : Type 0} (d v : A) (r : Row A) (rs ss : List (Row A)) (i k x y : ℕ) → is_at i k r ≡ false →
    table_of d ss x y ≡ cond (x == i && y == k) v (table_of d rs x y) →
    table_of d (r ∷ ss) x y ≡ cond (x == i && y == k) v (table_of d (r ∷ rs) x y)
kept d v r rs ss i k x y is rest = by (is_at x y r) refl
  where
    by : (a : Bool) → is_at x y r ≡ a →
        table_of d (r ∷ ss) x y ≡ cond (x == i && y == k) v (table_of d (r ∷ rs) x y)
    by true at =
        ap (λ (b : Bool). ahead d b r ss x y) at
        ∙ sym (ap (λ (b : Bool). cond b v r.value) (other_place i k x y r.first r.second is at))
        ∙ sym (ap (λ (b : Bool). cond (x == i && y == k) v (ahead d b r rs x y)) at)
    by false at =
        ap (λ (b : Bool). ahead d b r ss x y) at ∙ rest
        ∙ sym (ap (λ (b : Bool). cond (x == i && y == k) v (ahead d b r rs x y)) at)

-- at each place, where a row of the place is changed
there_at : {A : Type 0} (d v : A) (rs : List (Row A)) (i k x y : ℕ) → rows_before i k rs < length rs →
    table_of d (slice_set rs (rows_before i k rs) (new_row i k v)) x y
    ≡ cond (x == i && y == k) v (table_of d rs x y)
there_at d v [] i k x y h = absurd (omega (arith, h))
there_at {A} d v (r ∷ rs) i k x y h = by (is_at i k r) refl (λ less. there_at d v rs i k x y less)
  where
    by : (b : Bool) → is_at i k r ≡ b →
        (rows_before i k rs < length rs →
        table_of d (slice_set rs (rows_before i k rs) (new_row i k v)) x y
        ≡ cond (x == i && y == k) v (table_of d rs x y)) →
        table_of d (slice_set (r ∷ rs) (rows_before i k (r ∷ rs)) (new_row i k v)) x y
        ≡ cond (x == i && y == k) v (table_of d (r ∷ rs) x y)
    by true is rest =
        ap (λ (b : Bool). table_of d
        (slice_set (r ∷ rs) (cond b 0 (suc (rows_before i k rs))) (new_row i k v)) x y) is
        ∙ new_first d v rs i k x y ∙ replaced d v r rs i k x y is
    by false is rest =
        let less : suc (rows_before i k rs) < suc (length rs) =
        subst (λ (b : Bool). cond b 0 (suc (rows_before i k rs)) < suc (length rs)) is h in
        ap (λ (b : Bool). table_of d
        (slice_set (r ∷ rs) (cond b 0 (suc (rows_before i k rs))) (new_row i k v)) x y) is
        ∙ kept d v r rs (slice_set rs (rows_before i k rs) (new_row i k v)) i k x y is
        (rest (omega (arith, less)))

-- at each place, where a row is added behind
new_at : {A : Type 0} (d v : A) (rs : List (Row A)) (i k x y : ℕ) → length rs ≤ rows_before i k rs →
    table_of d (rs ++ new_row i k v ∷ []) x y ≡ cond (x == i && y == k) v (table_of d rs x y)
new_at d v [] i k x y h = new_first d v [] i k x y
new_at {A} d v (r ∷ rs) i k x y h = by (is_at i k r) refl (λ less. new_at d v rs i k x y less)
  where
    by : (b : Bool) → is_at i k r ≡ b →
        (length rs ≤ rows_before i k rs →
        table_of d (rs ++ new_row i k v ∷ []) x y ≡ cond (x == i && y == k) v (table_of d rs x y)) →
        table_of d ((r ∷ rs) ++ new_row i k v ∷ []) x y ≡ cond (x == i && y == k) v (table_of d (r ∷ rs) x y)
    by true is rest =
        let none : suc (length rs) ≤ 0 =
        subst (λ (b : Bool). suc (length rs) ≤ cond b 0 (suc (rows_before i k rs))) is h in
        absurd (omega (arith, none))
    by false is rest =
        let less : suc (length rs) ≤ suc (rows_before i k rs) =
        subst (λ (b : Bool). suc (length rs) ≤ cond b 0 (suc (rows_before i k rs))) is h in
        kept d v r rs (rs ++ new_row i k v ∷ []) i k x y is (rest (omega (arith, less)))

-- a row of the place is changed
pub put_there : {A : Type 0} (d v : A) (rs : List (Row A)) (i k : ℕ) → rows_before i k rs < length rs →
    table_of d (slice_set rs (rows_before i k rs) (new_row i k v)) ≡ at2 i k v (table_of d rs)
put_there d v rs i k h = fun_ext (λ x. fun_ext (λ y. there_at d v rs i k x y h))

-- a row is added behind
pub put_new : {A : Type 0} (d v : A) (rs : List (Row A)) (i k : ℕ) → length rs ≤ rows_before i k rs →
    table_of d (rs ++ new_row i k v ∷ []) ≡ at2 i k v (table_of d rs)
put_new d v rs i k h = fun_ext (λ x. fun_ext (λ y. new_at d v rs i k x y h))

-- the second number is 0
zero_behind : {A : Type 0} (b : Bool) (v w : A) → cond (b && (0 == 0)) v w ≡ cond b v w
zero_behind true v w = refl
zero_behind false v w = refl

-- one column of a table
pub column_is : {A : Type 0} (t u : ℕ → ℕ → A) (i : ℕ) (v : A) → t ≡ at2 i 0 v u →
    (λ (j : ℕ). t j 0) ≡ at i v (λ (j : ℕ). u j 0)
column_is t u i v e = fun_ext (λ j. ap (λ (f : ℕ → ℕ → _). f j 0) e ∙ zero_behind (j == i) v (u j 0))

-- ---- the places of one first number have no row any more

-- a row of another first number is of no place with this one
no_row : (i x y f s : ℕ) → (f == i) ≡ false → (f == x && s == y) ≡ true → (x == i) ≡ false
no_row i x y f s h e = grind (arith, nat_tests, h, e)

-- a row of this first number is of places with this one alone
own_row : (i x y f s : ℕ) → (f == i) ≡ true → (f == x && s == y) ≡ true → (x == i) ≡ true
own_row i x y f s h e = grind (arith, nat_tests, h, e)

-- the rows that stay
abbrev pub others : {A : Type 0} → ℕ → List (Row A) → List (Row A)
others {A} i rs = filter (λ (r : Row A). not (r.first == i)) rs

-- the default is what it is chosen from twice
same_twice : {A : Type 0} (b : Bool) (d : A) → d ≡ cond b d d
same_twice true d = refl
same_twice false d = refl

cleared_at : {A : Type 0} (d : A) (rs : List (Row A)) (i x y : ℕ) →
    table_of d (others i rs) x y ≡ cond (x == i) d (table_of d rs x y)
cleared_at d [] i x y = same_twice (x == i) d
cleared_at {A} d (r ∷ rs) i x y = by (r.first == i) refl (is_at x y r) refl (cleared_at d rs i x y)
  where
    by : (a : Bool) → (r.first == i) ≡ a → (b : Bool) → is_at x y r ≡ b →
        table_of d (others i rs) x y ≡ cond (x == i) d (table_of d rs x y) →
        table_of d (cond (not a) (r ∷ others i rs) (others i rs)) x y
        ≡ cond (x == i) d (ahead d b r rs x y)
    by true own true at rest =
        rest ∙ ap (λ (c : Bool). cond c d (table_of d rs x y)) (own_row i x y r.first r.second own at)
        ∙ sym (ap (λ (c : Bool). cond c d r.value) (own_row i x y r.first r.second own at))
    by true own false at rest = rest
    by false own true at rest =
        ap (λ (c : Bool). ahead d c r (others i rs) x y) at
        ∙ sym (ap (λ (c : Bool). cond c d r.value) (no_row i x y r.first r.second own at))
    by false own false at rest = ap (λ (c : Bool). ahead d c r (others i rs) x y) at ∙ rest

pub cleared : {A : Type 0} (d : A) (rs : List (Row A)) (i : ℕ) →
    table_of d (others i rs) ≡ row_cleared i d (table_of d rs)
cleared d rs i = fun_ext (λ x. fun_ext (λ y. cleared_at d rs i x y))
