-- The rows from a place on: a row at the place is the first of them, and where there is none they
-- are those from the next place on.
use Rattle.std.proofs.Common.{◌≡◌, ◌<◌, ◌≤◌, ℕ, zero, suc, ◌+◌, ◌-◌, ◌*◌, List, [], ◌∷◌, ◌++◌}
use Rattle.std.proofs.Common.{Option, Some, None, add-one, arith, refl, sym, subst, ap, ◌∙◌, drop}
use Rattle.std.proofs.Common.{length}
use Rattle.std.specs.Prelude.{IfSome, Bool, true, false, cond, nat_lt, flat_map, slice_get}
use Rattle.std.specs.List.{range_with_len}
use Rattle.std.proofs.lemmas.List.FromFn.{length-range_with_len, get_or-range_with_len}
use Rattle.std.proofs.lemmas.Bool.Decides.{nat_tests}
use Rattle.std.proofs.lemmas.Option.{slice_get-get_or, slice_get_past}
use Rattle.std.proofs.Math.ListN.{drop_of_length-le}
use Rattle.kernel_model.specs.declared.RawRow.{RawRow}
use Rattle.placed_laws.specs.Placed.{Placed}
use Rattle.placed_laws.specs.PlacedRows.{placed_rows}
use Rattle.kernel_core.specs.declared.placed_rows.RowPlace.{RowPlace}
use Rattle.kernel_core.specs.declared.placed_rows.Section.{Section}
use Rattle.kernel_core.specs.PlacedSections.{sections, places, places_from, most_at, most_past}
use Rattle.kernel_core.specs.PlacedSections.{most_of, most_left, rows_at, rows_of, rows_past}
use Rattle.kernel_core.specs.PlacedSections.{rows_left, row_passed, IsPassed, TakesRow}
use Rattle.kernel_core.proofs.PlacedSectionLemmas.{rows_are}

-- ---- lists

-- the elements from the k-th on
pub drop_first : {T : Type 0} (xs : List T) (k : ℕ) (x : T) → slice_get xs k ≡ Some x → drop k xs ≡ x ∷ drop (suc k) xs
drop_first [] k x h = absurd (cc)
drop_first (y ∷ xs) zero x h = let same : y ≡ x = cc in ap (λ z. z ∷ xs) same
drop_first (y ∷ xs) (suc k) x h = drop_first xs k x h

pub drop_here : {T : Type 0} (xs : List T) (k : ℕ) (x : T) → slice_get xs k ≡ Some x → drop k xs ≡ x ∷ drop (k + 1) xs
drop_here xs k x h = rw add-one (drop_first xs k x h)

-- past the last there is none
pub none_from : {T : Type 0} (xs : List T) (k : ℕ) → slice_get xs k ≡ None → drop k xs ≡ []
none_from [] k h = drop_of_length-le [] (omega arith)
none_from (x ∷ xs) zero h = absurd (cc)
none_from (x ∷ xs) (suc k) h = none_from xs k h

-- a place by its number
place_is : (count n : ℕ) → n < count → slice_get (range_with_len 0 count) n ≡ Some n
place_is count n below =
    let plain : 0 + n ≡ n = omega arith in
    slice_get-get_or (range_with_len 0 count) n 0
    (omega (arith, below, length-range_with_len 0 count))
    ∙ ap (λ k. Some k) (get_or-range_with_len 0 count n 0 below ∙ plain)

-- ---- places

-- a place of a section, and those behind it
places_here : (s : Section) (n : ℕ) → n < places s → places_from s n ≡ n ∷ places_from s (n + 1)
places_here s n below = drop_here (range_with_len 0 (places s)) n n (place_is (places s) n below)

-- none is past the last
places_past : (s : Section) (n : ℕ) → places s ≤ n → places_from s n ≡ []
places_past s n past =
    drop_of_length-le (range_with_len 0 (places s))
    (omega (arith, past, length-range_with_len 0 (places s)))

-- all rows at these places
all_at : (rows : ℕ → List RawRow) (ns : List ℕ) → rows_past rows 0 ns ≡ flat_map rows ns
all_at rows [] = refl
all_at rows (n ∷ ns) = refl

most_all : (m : ℕ) (ns : List ℕ) → most_past m 0 ns ≡ length ns * m
most_all m [] = omega arith
most_all m (n ∷ ns) = once (length ns)
  where
    once : (count : ℕ) → (m - 0) + count * m ≡ suc count * m
    once count = omega arith

-- the rows from a place of this section on
left_in : (x : Placed) (at : RowPlace) (s : Section) → slice_get sections at.section ≡ Some s →
    rows_left x at ≡ rows_past (rows_at x s) at.index (places_from s at.place) ++ rows_of x
    (drop (at.section + 1) sections)
unfolding rows_left
left_in x at s here = rw here refl

most_in_left : (at : RowPlace) (s : Section) → slice_get sections at.section ≡ Some s →
    most_left at ≡ most_past (most_at s) at.index (places_from s at.place) + most_of (drop (at.section + 1) sections)
unfolding most_left
most_in_left at s here = rw here refl

left_end : (x : Placed) (at : RowPlace) → slice_get sections at.section ≡ None → rows_left x at ≡ []
unfolding rows_left
left_end x at h = rw h refl

most_end : (at : RowPlace) → slice_get sections at.section ≡ None → most_left at ≡ 0
unfolding most_left
most_end at h = rw h refl

-- a row at a place is the first of those from it on
pub row_here : (x : Placed) (at new : RowPlace) (s : Section) (row : RawRow) →
    slice_get sections at.section ≡ Some s → at.place < places s →
    Some row ≡ slice_get (rows_at x s at.place) at.index →
    new ≡ record at { index = at.index + 1 } → rows_left x at ≡ row ∷ rows_left x new
row_here x at new s row here below is next =
    let ns = places_from s (at.place + 1) in
    let behind = rows_of x (drop (at.section + 1) sections) in
    left_in x at s here
    ∙ ap (λ xs. rows_past (rows_at x s) at.index xs ++ behind) (places_here s at.place below)
    ∙ ap (λ xs. (xs ++ flat_map (rows_at x s) ns) ++ behind) (drop_here (rows_at x s at.place) at.index row (sym is))
    ∙ sym (ap (λ p. row ∷ rows_left x p) next
    ∙ ap (λ xs. row ∷ xs) (left_in x (record at { index = at.index + 1 }) s here)
    ∙ ap (λ xs. row ∷ (rows_past (rows_at x s) (at.index + 1) xs ++ behind)) (places_here s at.place below))

pub most_here : (at new : RowPlace) (s : Section) → slice_get sections at.section ≡ Some s →
    at.place < places s → at.index < most_at s →
    new ≡ record at { index = at.index + 1 } → most_left new < most_left at
most_here at new s here below few next =
    let ns = places_from s (at.place + 1) in
    let behind = most_of (drop (at.section + 1) sections) in
    let before = most_in_left at s here
    ∙ ap (λ xs. most_past (most_at s) at.index xs + behind) (places_here s at.place below) in
    let after = ap most_left next ∙ most_in_left (record at { index = at.index + 1 }) s here ∙ ap
    (λ xs. most_past (most_at s) (at.index + 1) xs + behind) (places_here s at.place below) in
    less (most_left at) (most_left new) (most_at s) at.index (length ns * most_at s) behind before after few
  where
    less : (a b m i r t : ℕ) → a ≡ (m - i) + r + t → b ≡ (m - (i + 1)) + r + t → i < m → b < a
    less a b m i r t before after few = omega arith

-- Rows are the same from two places on, and no more at the second.
pub record IsAlike (x : Placed) (from at : RowPlace) : Type 0 where
  pub same : rows_left x at ≡ rows_left x from
  pub most : most_left at ≤ most_left from

-- a place is like itself
pub alike_self : (x : Placed) (at : RowPlace) → IsAlike x at at
alike_self x at = record { same = refl; most = omega arith }

-- what is passed is like what is passed from
pub alike_passed : (x : Placed) (from at new : RowPlace) (s : Section) → IsAlike x from at →
    IsPassed x s at new → IsAlike x from new
alike_passed x from at new s h p = record { same = p.same ∙ h.same; most = omega (arith, p.most, h.most) }

-- on to the next place
pub place_passed : (x : Placed) (from at new : RowPlace) (s : Section) → IsAlike x from at →
    slice_get sections at.section ≡ Some s → at.place < places s →
    length (rows_at x s at.place) ≤ at.index →
    new ≡ record { section = at.section; place = at.place + 1; index = 0 } → IsAlike x from new
place_passed x from at new s h here below none next =
    let to : RowPlace = record { section = at.section; place = at.place + 1; index = 0 } in
    let ns = places_from s (at.place + 1) in
    let behind = rows_of x (drop (at.section + 1) sections) in
    let many = most_of (drop (at.section + 1) sections) in
    let before = most_in_left at s here
    ∙ ap (λ xs. most_past (most_at s) at.index xs + many) (places_here s at.place below) in
    let after = ap most_left next ∙ most_in_left to s here ∙ ap (λ c. c + many) (most_all (most_at s) ns) in
    record {
      same = ap (rows_left x) next ∙ left_in x to s here ∙ ap (λ xs. xs ++ behind) (all_at (rows_at x s) ns)
          ∙ sym (left_in x at s here ∙ ap (λ xs. rows_past (rows_at x s) at.index xs ++ behind)
          (places_here s at.place below) ∙ ap (λ xs. (xs ++ flat_map (rows_at x s) ns)
          ++ behind) (drop_of_length-le (rows_at x s at.place) none))
          ∙ h.same;
      most =
          less (most_left at) (most_left new) (most_left from) (most_at s) at.index
          (length ns * most_at s) many before after h.most;
    }
  where
    less : (a b c m i r t : ℕ) → a ≡ (m - i) + r + t → b ≡ r + t → a ≤ c → b ≤ c
    less a b c m i r t before after most = omega arith

-- the rows of the sections from one on
from_section : (x : Placed) (at : RowPlace) → at.place ≡ 0 → at.index ≡ 0 →
    rows_left x at ≡ rows_of x (drop at.section sections)
from_section x at place index = by (slice_get sections at.section) refl
  where
    by : (o : Option Section) → slice_get sections at.section ≡ o →
        rows_left x at ≡ rows_of x (drop at.section sections)
    by None h = left_end x at h ∙ ap (rows_of x) (sym (none_from sections at.section h))
    by (Some s) h =
        left_in x at s h
        ∙ ap (λ i. rows_past (rows_at x s) i (places_from s at.place) ++ rows_of x
        (drop (at.section + 1) sections)) index
        ∙ ap (λ n. rows_past (rows_at x s) 0 (places_from s n) ++ rows_of x (drop (at.section + 1) sections)) place
        ∙ ap (λ xs. xs ++ rows_of x (drop (at.section + 1) sections))
        (all_at (rows_at x s) (range_with_len 0 (places s)))
        ∙ ap (rows_of x) (sym (drop_here sections at.section s h))

most_section : (at : RowPlace) → at.place ≡ 0 → at.index ≡ 0 → most_left at ≡ most_of (drop at.section sections)
most_section at place index = by (slice_get sections at.section) refl
  where
    by : (o : Option Section) → slice_get sections at.section ≡ o → most_left at ≡ most_of (drop at.section sections)
    by None h = most_end at h ∙ ap most_of (sym (none_from sections at.section h))
    by (Some s) h =
        most_in_left at s h
        ∙ ap (λ i. most_past (most_at s) i (places_from s at.place) + most_of (drop (at.section + 1) sections)) index
        ∙ ap (λ n. most_past (most_at s) 0 (places_from s n) + most_of (drop (at.section + 1) sections)) place
        ∙ ap (λ c. c + most_of (drop (at.section + 1) sections))
        (most_all (most_at s) (range_with_len 0 (places s))
        ∙ ap (λ c. c * most_at s) (length-range_with_len 0 (places s)))
        ∙ ap most_of (sym (drop_here sections at.section s h))

-- on to the next section
pub section_passed : (x : Placed) (from at new : RowPlace) (s : Section) → IsAlike x from at →
    slice_get sections at.section ≡ Some s → places s ≤ at.place →
    new ≡ record { section = at.section + 1; place = 0; index = 0 } → IsAlike x from new
section_passed x from at new s h here past next =
    let to : RowPlace = record { section = at.section + 1; place = 0; index = 0 } in
    let behind = rows_of x (drop (at.section + 1) sections) in
    let many = most_of (drop (at.section + 1) sections) in
    let before = most_in_left at s here
    ∙ ap (λ xs. most_past (most_at s) at.index xs + many) (places_past s at.place past) in
    let after = ap most_left next ∙ most_section to refl refl in
    record {
      same = ap (rows_left x) next ∙ from_section x to refl refl
          ∙ sym (left_in x at s here ∙ ap (λ xs. rows_past (rows_at x s) at.index xs ++ behind)
          (places_past s at.place past))
          ∙ h.same;
      most = omega (arith, before, after, h.most);
    }

-- past the last section no row is left
pub none_taken : (x : Placed) (from at : RowPlace) → IsAlike x from at →
    length sections ≤ at.section → TakesRow x from at None
none_taken x from at h past =
    let none = left_end x at (slice_get_past sections at.section past) in
    let before = sym h.same ∙ none in
    record {
      first = ap (λ (ys : List RawRow). slice_get ys 0) (sym before);
      rest = none ∙ sym (ap (λ (ys : List RawRow). drop 1 ys) before);
      fewer = tt;
    }

-- before the first row
pub from_first : (x : Placed) → rows_left x (record { section = 0; place = 0; index = 0 }) ≡ placed_rows x
from_first x = from_section x (record { section = 0; place = 0; index = 0 }) refl refl ∙ rows_are x

pub most_first : most_left (record { section = 0; place = 0; index = 0 }) ≡ 1478
most_first = most_section (record { section = 0; place = 0; index = 0 }) refl refl

-- ---- a pass over the rows

-- a row at a place like the first one is the first of those left
first_row : (x : Placed) (from at new : RowPlace) (s : Section) (row : RawRow) → IsAlike x from at →
    slice_get sections at.section ≡ Some s → at.place < places s →
    Some row ≡ slice_get (rows_at x s at.place) at.index →
    new ≡ record at { index = at.index + 1 } → rows_left x from ≡ row ∷ rows_left x new
first_row x from at new s row h here below is next = sym h.same ∙ row_here x at new s row here below is next

-- it is there where there are so many
some_within : {T : Type 0} (xs : List T) (i : ℕ) (found : Option T) → found ≡ slice_get xs i →
    i < length xs → (x : T) × (found ≡ Some x)
some_within xs i (Some x) is within = (x, refl)
some_within xs i None is within = absurd (omega (arith, far xs i (sym is), within))
  where
    far : {T : Type 0} (ys : List T) (k : ℕ) → slice_get ys k ≡ None → length ys ≤ k
    far [] k h = omega arith
    far (y ∷ ys) zero h = absurd (cc)
    far (y ∷ ys) (suc k) h = omega (arith, far ys k h)

pub row_taken : (x : Placed) (from at new : RowPlace) (s : Section) (found : Option RawRow) →
    IsAlike x from at → slice_get sections at.section ≡ Some s → at.place < places s →
    at.index < length (rows_at x s at.place) → at.index < most_at s →
    found ≡ slice_get (rows_at x s at.place) at.index →
    new ≡ record at { index = at.index + 1 } → TakesRow x from new found
row_taken x from at new s found h here below within few is next =
    let (row, some) = some_within (rows_at x s at.place) at.index found is within in
    let all = first_row x from at new s row h here below (sym some ∙ is) next in
    record {
      first = some ∙ ap (λ (ys : List RawRow). slice_get ys 0) (sym all);
      rest = sym (ap (λ (ys : List RawRow). drop 1 ys) all);
      fewer = whichever found (omega (arith, h.most, most_here at new s here below few next));
    }
  where
    whichever : (o : Option RawRow) → most_left new < most_left from → IfSome o (λ _. most_left new < most_left from)
    whichever None less = tt
    whichever (Some row) less = less

-- and the place behind it may be one like that
taken_alike : (x : Placed) (from at new : RowPlace) (found : Option RawRow) →
    TakesRow x from at found → IsAlike x at new → TakesRow x from new found
taken_alike x from at new found t h =
    record { first = t.first; rest = h.same ∙ t.rest; fewer = whichever found t.fewer }
  where
    whichever : (o : Option RawRow) → IfSome o (λ _. most_left at < most_left from) →
        IfSome o (λ _. most_left new < most_left from)
    whichever None less = tt
    whichever (Some row) less = omega (arith, less, h.most)

-- a row is taken, and its place is passed if it was the last one there
pub row_taken_of : (x : Placed) (from at new : RowPlace) (s : Section) (count : ℕ) (found : Option
    RawRow) → IsAlike x from at → slice_get sections at.section ≡ Some s → at.place < places s →
    count ≡ length (rows_at x s at.place) → at.index < count → count ≤ most_at s →
    found ≡ slice_get (rows_at x s at.place) at.index → new ≡ row_passed count at →
    TakesRow x from new found
row_taken_of x from at new s count found h here below all within few is next = by (nat_lt (at.index + 1) count) refl
  where
    mid : RowPlace
    mid = record at { index = at.index + 1 }

    taken : TakesRow x from mid found
    taken =
        row_taken x from at mid s found h here below
        (omega (arith, all, within)) (omega (arith, within, few)) is refl

    by : (more : Bool) → nat_lt (at.index + 1) count ≡ more → TakesRow x from new found
    by true more =
        let same : new ≡ mid = next ∙ ap (λ b. cond b mid
        (record { section = at.section; place = at.place + 1; index = 0 })) more in
        taken_alike x from mid new found taken (subst (λ (r : RowPlace). IsAlike x mid r) (sym same) (alike_self x mid))
    by false more =
        let far : count ≤ at.index + 1 = grind (arith, nat_tests, more) in
        taken_alike x from mid new found taken
        (place_passed x mid mid new s (alike_self x mid) here below
        (omega (arith, all, far)) (next ∙ ap (λ b. cond b mid
        (record { section = at.section; place = at.place + 1; index = 0 })) more))

-- ---- places without a row

-- a place without a row is passed
pub none_passed : (x : Placed) (s : Section) (from at new : RowPlace) → IsPassed x s from at →
    slice_get sections from.section ≡ Some s → at.place < places s →
    length (rows_at x s at.place) ≤ at.index →
    new ≡ record { section = at.section; place = at.place + 1; index = 0 } →
    IsPassed x s from new
none_passed x s from at new p here below none next =
    let there = ap (λ n. slice_get sections n) p.section ∙ here in
    let alike = place_passed x from at new s (record { same = p.same; most = p.most }) there below none next in
    record {
      section = ap (λ (r : RowPlace). r.section) next ∙ p.section;
      forward = omega (arith, p.forward, ap (λ (r : RowPlace). r.place) next);
      within = omega (arith, below, ap (λ (r : RowPlace). r.place) next);
      same = alike.same;
      most = alike.most;
    }

-- nothing is passed yet
pub nothing_passed : (x : Placed) (s : Section) (at : RowPlace) → at.place ≤ places s → IsPassed x s at at
nothing_passed x s at within =
    record {
      section = refl;
      forward = omega arith;
      within = within;
      same = refl;
      most = omega arith;
    }

-- one stretch of them after another
pub passed_on : (x : Placed) (s : Section) (from at new : RowPlace) → IsPassed x s from at →
    IsPassed x s at new → IsPassed x s from new
passed_on x s from at new p q =
    record {
      section = q.section ∙ p.section;
      forward = omega (arith, p.forward, q.forward);
      within = q.within;
      same = q.same ∙ p.same;
      most = omega (arith, p.most, q.most);
    }

-- The rows behind n of them are left, among so many.
pub record IsBehind (x : Placed) (n : ℕ) (at : RowPlace) : Type 0 where
  pub rows : rows_left x at ≡ drop n (placed_rows x)
  pub most : n + most_left at ≤ 1478

-- the first of those behind n is the n-th
first_behind : {T : Type 0} (xs : List T) (n : ℕ) → slice_get (drop n xs) 0 ≡ slice_get xs n
first_behind xs zero = refl
first_behind [] (suc n) = refl
first_behind (x ∷ xs) (suc n) = first_behind xs n

-- and behind it is one more
behind_first : {T : Type 0} (xs : List T) (n : ℕ) → drop 1 (drop n xs) ≡ drop (suc n) xs
behind_first xs zero = refl
behind_first [] (suc n) = refl
behind_first (x ∷ xs) (suc n) = behind_first xs n

-- on by one row
pub behind_more : (x : Placed) (n : ℕ) (at new : RowPlace) → IsBehind x n at →
    rows_left x new ≡ drop 1 (rows_left x at) → most_left new < most_left at →
    IsBehind x (n + 1) new
behind_more x n at new h rest fewer =
    record {
      rows = rest ∙ ap (λ ys. drop 1 ys) h.rows ∙ behind_first (placed_rows x) n
          ∙ ap (λ k. drop k (placed_rows x)) (sym (add-one n));
      most = omega (arith, h.most, fewer);
    }

-- where no row is left behind n, there is none from the n-th on
none_behind : {T : Type 0} (xs : List T) (n i : ℕ) → None ≡ slice_get (drop n xs) 0 → n ≤ i → None ≡ slice_get xs i
none_behind [] n i h far = sym (slice_get_past [] i (omega arith))
none_behind (x ∷ xs) zero i h far = absurd (cc)
none_behind (x ∷ xs) (suc n) zero h far = absurd (omega (arith, far))
none_behind (x ∷ xs) (suc n) (suc i) h far = none_behind xs n i h (omega (arith, far))

-- the i-th row is the one that comes behind i of them
pub row_behind : (x : Placed) (n i : ℕ) (at : RowPlace) (found : Option RawRow) → IsBehind x n at →
    found ≡ slice_get (rows_left x at) 0 → n ≡ i → found ≡ slice_get (placed_rows x) i
row_behind x n i at found h is all =
    is ∙ ap (λ (ys : List RawRow). slice_get ys 0) h.rows ∙ first_behind (placed_rows x) n
    ∙ ap (λ k. slice_get (placed_rows x) k) all

-- and there is none where none comes behind fewer
pub row_past : (x : Placed) (n i : ℕ) (at : RowPlace) (found : Option RawRow) → IsBehind x n at →
    found ≡ slice_get (rows_left x at) 0 → found ≡ None → n ≤ i → None ≡ slice_get (placed_rows x) i
row_past x n i at found h is none far =
    none_behind (placed_rows x) n i
    (sym none ∙ is ∙ ap (λ (ys : List RawRow). slice_get ys 0) h.rows) far
