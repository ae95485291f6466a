-- Records are put back, or their words released, one after the other from the newest on.
use Rattle.std.proofs.Common.{◌≡◌, ℕ, zero, suc, ◌-◌, ◌<◌, List, [], ◌∷◌, ◌++◌, length, take, refl, ◌≤◌, get_or}
use Rattle.std.proofs.Common.{sym, ap, ◌∙◌, ◌+◌, arith, Option, None, Some, Bool, true, false, cond}
use Rattle.std.specs.Prelude.{◌==◌}
use Rattle.std.specs.Prelude.{slice_get, slice_set}
use Rattle.std.proofs.lemmas.List.{set-set, set-get_or}
use Rattle.std.proofs.lemmas.Option.{get_or_from_slice_get, slice_get-get_or}
use Rattle.vino_host.specs.declared.Word.{Word}
use Rattle.vino_host.specs.declared.Record.{Record}
use Rattle.vino_host.specs.Tables.{as_before, taken, record_of, readings, put_back, undone, released_at, released}

-- a word with other readers
abbrev with_readers : Word → ℕ → Word
with_readers w n = record { value = w.value; owner = w.owner; readers = n }

-- the newest of some records is put back first
pub undone_at : (rs : List Record) (k : ℕ) (r : Record) (table : List Word) → slice_get rs k ≡ Some r →
    undone (take (suc k) rs) table ≡ undone (take k rs) (put_back r table)
undone_at [] k r table h = cc
undone_at (x ∷ rs) zero r table h =
    let same : x ≡ r = cc in ap (λ (y : Record). put_back y table) same
undone_at (x ∷ rs) (suc k) r table h = ap (λ (t : List Word). put_back x t) (undone_at rs k r table h)

-- the newest of some records is released first
pub released_in : (rs : List Record) (k : ℕ) (r : Record) (table : List Word) → slice_get rs k ≡ Some r →
    released (take (suc k) rs) table ≡ released (take k rs) (released_at r table)
released_in [] k r table h = cc
released_in (x ∷ rs) zero r table h =
    let same : x ≡ r = cc in ap (λ (y : Record). released_at y table) same
released_in (x ∷ rs) (suc k) r table h = ap (λ (t : List Word). released_at x t) (released_in rs k r table h)

-- a record behind others is put back before them
pub undone_behind : (rs : List Record) (r : Record) (table : List Word) →
    undone (rs ++ r ∷ []) table ≡ undone rs (put_back r table)
undone_behind [] r table = refl
undone_behind (x ∷ rs) r table = ap (λ (t : List Word). put_back x t) (undone_behind rs r table)

before_again : (b : Bool) (number v : ℕ) (w : Word) →
    ◌≡◌ {A = Word} (record {
      value = w.value;
      owner = w.owner;
      readers = (w.readers + cond b 0 1) - cond b 0 1;
    }) w
before_again true number v w = ap (λ (n : ℕ). with_readers w n) (omega arith)
before_again false number v w = ap (λ (n : ℕ). with_readers w n) (omega arith)

get_same : (xs : List Word) (i : ℕ) (w v : Word) → slice_get xs i ≡ Some w → slice_get (slice_set xs i v) i ≡ Some v
get_same [] i w v h = cc
get_same (x ∷ xs) zero w v h = refl
get_same (x ∷ xs) (suc i) w v h = get_same xs i w v h

-- a word that is put back after it was read or changed
pub set_back : (table : List Word) (number id k v : ℕ) (w : Word) → slice_get table k ≡ Some w →
    put_back (record_of id k w) (slice_set table k (taken number id v w)) ≡ table
set_back table number id k v w h =
    let new : Word = taken number id v w in
    let old : Word = as_before (record_of id k w) new in
    ap (λ (o : Option Word). elim o as (λ _. List Word) [
      | None ↦ slice_set table k new
      | Some y ↦ slice_set (slice_set table k new) k (as_before (record_of id k w) y)
    ]) (get_same table k w new h)
    ∙ set-set table k new old ∙ ap (λ (x : Word). slice_set table k x) (before_again (id == 1) number v w)
    ∙ ap (λ (x : Word). slice_set table k x) (sym (get_or_from_slice_get table k w w h)) ∙ set-get_or table k w

-- the same, where so many are left
pub undone_by_place : (rs : List Record) (n : ℕ) (d : Record) (table : List Word) → 0 < n → n ≤ length rs →
    undone (take n rs) table ≡ undone (take (n - 1) rs) (put_back (get_or rs (n - 1) d) table)
undone_by_place rs zero d table some room = absurd (omega (arith, some))
undone_by_place rs (suc k) d table some room =
    let a : suc k - 1 ≡ k = omega arith in
    rw a (undone_at rs k (get_or rs k d) table (slice_get-get_or rs k d (omega (arith, room))))

-- the same, where so many are left
pub released_by_place : (rs : List Record) (n : ℕ) (d : Record) (table : List Word) → 0 < n → n ≤ length rs →
    released (take n rs) table ≡ released (take (n - 1) rs) (released_at (get_or rs (n - 1) d) table)
released_by_place rs zero d table some room = absurd (omega (arith, some))
released_by_place rs (suc k) d table some room =
    let a : suc k - 1 ≡ k = omega arith in
    rw a (released_in rs k (get_or rs k d) table (slice_get-get_or rs k d (omega (arith, room))))

-- the readings of some records, the newest by itself
pub readings_at : (k : ℕ) (rs : List Record) (n : ℕ) (r : Record) → slice_get rs n ≡ Some r →
    readings k (take (suc n) rs) ≡ readings k (take n rs) + readings k (r ∷ [])
readings_at k [] n r h = cc
readings_at k (x ∷ rs) zero r h =
    let same : x ≡ r = cc in
    let e : readings k (x ∷ []) ≡ readings k (r ∷ []) = ap (λ (y : Record). readings k (y ∷ [])) same in
    omega (arith, e)
readings_at k (x ∷ rs) (suc n) r h =
    let rest = readings_at k rs n r h in omega (arith, rest)

-- one record more is counted
pub readings_step : (k : ℕ) (rs : List Record) (n : ℕ) (d : Record) (found one total : ℕ) → 0 < n → n ≤ length rs →
    one ≡ readings k (get_or rs (n - 1) d ∷ []) → found + readings k (take n rs) ≡ total →
    found + one + readings k (take (n - 1) rs) ≡ total
readings_step k rs zero d found one total some room here sum = absurd (omega (arith, some))
readings_step k rs (suc n) d found one total some room here sum =
    let a : suc n - 1 ≡ n = omega arith in
    let last = readings_at k rs n (get_or rs n d) (slice_get-get_or rs n d (omega (arith, room))) in
    let is : one ≡ readings k (get_or rs n d ∷ []) = here ∙ ap (λ (i : ℕ). readings k (get_or rs i d ∷ [])) a in
    ap (λ (i : ℕ). found + one + readings k (take i rs)) a ∙ omega (arith, last, is, sum)
