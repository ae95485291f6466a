-- Words that records touched, and what undoing and releasing do at a place.
use Rattle.std.proofs.Common.{◌≡◌, ◌+◌, ◌-◌, arith, ℕ, zero, suc, Bool, true, false, cond, List, []}
use Rattle.std.proofs.Common.{◌∷◌, Option, None, Some, refl, sym, ap, ◌∙◌, ◌⊎◌, inl, inr}
use Rattle.std.specs.Prelude.{◌==◌, ◌||◌, slice_get, slice_set}
use Rattle.std.proofs.lemmas.Bool.{or_cases, or_parts, or_left, or_right, eqb-true, eqb-false, eq-eqb}
use Rattle.vino_host.specs.declared.Record.{Record}
use Rattle.vino_host.specs.declared.Word.{Word}
use Rattle.vino_host.specs.Tables.{as_before, reading_of, readings, put_back, undone, given_back, released_at, released}
use Rattle.host_laws.specs.Alone.{HasRecord, seen}
use Rattle.host_laws.specs.Histories.{touches}
use Rattle.host_laws.proofs.Others.{get_other}

-- ---- places with a record

pub touched_has : (rs : List Record) (k : ℕ) → touches rs k ≡ true → HasRecord k rs
touched_has [] k h = cc
touched_has (r ∷ rs) k h = by_test (λ g. touched_has rs k g) (or_cases (r.place == k) (touches rs k) h)
  where
    by_test : (touches rs k ≡ true → HasRecord k rs) → ((r.place == k) ≡ true) ⊎ (touches rs k ≡ true) →
        (r.place ≡ k) ⊎ HasRecord k rs
    by_test more (inl e) = inl (eqb-true r.place k e)
    by_test more (inr e) = inr (more e)

pub has_touched : (rs : List Record) (k : ℕ) → HasRecord k rs → touches rs k ≡ true
has_touched [] k h = absurd h
has_touched (r ∷ rs) k (inl e) = or_left (r.place == k) (touches rs k) (eq-eqb r.place k e)
has_touched (r ∷ rs) k (inr h) = or_right (r.place == k) (touches rs k) (has_touched rs k h)

-- ---- parts of a word, if there is one

abbrev pub readers_at : Option Word → ℕ
readers_at o = elim o as (λ _. ℕ) [ None ↦ 0 | Some w ↦ w.readers ]

abbrev pub owner_at : Option Word → ℕ
owner_at o = elim o as (λ _. ℕ) [ None ↦ 0 | Some w ↦ w.owner ]

pub seen_seen : (m n : ℕ) (o : Option Word) → seen m (seen n o) ≡ seen m o
seen_seen m n None = refl
seen_seen m n (Some w) = refl

pub owner_seen : (n : ℕ) (o : Option Word) → owner_at (seen n o) ≡ owner_at o
owner_seen n None = refl
owner_seen n (Some w) = refl

pub same_owner : (o p : Option Word) → seen 0 o ≡ seen 0 p → owner_at o ≡ owner_at p
same_owner o p h = sym (owner_seen 0 o) ∙ ap (λ (x : Option Word). owner_at x) h ∙ owner_seen 0 p

pub same_seen : (n : ℕ) (o p : Option Word) → seen 0 o ≡ seen 0 p → seen n o ≡ seen n p
same_seen n o p h = sym (seen_seen n 0 o) ∙ ap (λ (x : Option Word). seen n x) h ∙ seen_seen n 0 p

-- a word without readers is as it is seen
pub seen_alone : (o : Option Word) → readers_at o ≡ 0 → seen 0 o ≡ o
seen_alone None h = refl
seen_alone (Some w) h = ap (λ (n : ℕ). Some (record { value = w.value; owner = w.owner; readers = n })) (sym h)

-- ---- one word put back, or released

abbrev pub put_word : Record → (same : Bool) → Option Word → Option Word
put_word r same o = cond same (elim o as (λ _. Option Word) [ None ↦ None | Some w ↦ Some (as_before r w) ]) o

abbrev pub free_word : Record → (same : Bool) → Option Word → Option Word
free_word r same o = cond same (elim o as (λ _. Option Word) [ None ↦ None | Some w ↦ Some (given_back r w) ]) o

same_place : (xs : List Word) (i : ℕ) (v : Word) →
    slice_get (slice_set xs i v) i ≡ elim (slice_get xs i) as (λ _. Option Word) [ None ↦ None | Some w ↦ Some v ]
same_place [] i v = refl
same_place (x ∷ xs) zero v = refl
same_place (x ∷ xs) (suc i) v = same_place xs i v

get_set : (xs : List Word) (i j : ℕ) (v : Word) →
    slice_get (slice_set xs i v) j
    ≡ cond (i == j) (elim (slice_get xs j) as (λ _. Option Word) [ None ↦ None | Some w ↦ Some v ]) (slice_get xs j)
get_set xs i j v = by_test (i == j) refl
  where
    by_test : (b : Bool) → (i == j) ≡ b →
        slice_get (slice_set xs i v) j
        ≡ cond b (elim (slice_get xs j) as (λ _. Option Word) [ None ↦ None | Some w ↦ Some v ]) (slice_get xs j)
    by_test true e =
        let same : i ≡ j = eqb-true i j e in
        ap (λ (k : ℕ). slice_get (slice_set xs i v) k) (sym same) ∙ same_place xs i v
        ∙ ap (λ (k : ℕ). elim (slice_get xs k) as (λ _. Option Word) [ None ↦ None | Some w ↦ Some v ]) same
    by_test false e = get_other xs i j v (λ h. eqb-false i j e (sym h))

pub get_put_back : (r : Record) (table : List Word) (k : ℕ) →
    slice_get (put_back r table) k ≡ put_word r (r.place == k) (slice_get table k)
get_put_back r table k = by_word (slice_get table r.place) refl (r.place == k) refl
  where
    by_word : (o : Option Word) → slice_get table r.place ≡ o → (b : Bool) → (r.place == k) ≡ b →
        slice_get (elim o as (λ _. List Word) [ None ↦ table | Some w ↦ slice_set table r.place (as_before r w) ]) k
        ≡ put_word r b (slice_get table k)
    by_word None e true same =
        let none : slice_get table k ≡ None =
        ap (λ (i : ℕ). slice_get table i) (sym (eqb-true r.place k same)) ∙ e in rw none refl
    by_word None e false same = refl
    by_word (Some w) e true same =
        let word : slice_get table k ≡ Some w =
        ap (λ (i : ℕ). slice_get table i) (sym (eqb-true r.place k same)) ∙ e in
        get_set table r.place k (as_before r w)
        ∙ ap (λ (b : Bool). cond b (elim (slice_get table k) as (λ _. Option Word) [
          | None ↦ None
          | Some y ↦ Some (as_before r w)
        ]) (slice_get table k)) same
        ∙ ap (λ (o : Option Word). elim o as (λ _. Option Word) [ None ↦ None | Some y ↦ Some (as_before r w) ]) word
        ∙ ap (λ (o : Option Word). elim o as (λ _. Option Word) [
          | None ↦ None
          | Some y ↦
              Some (as_before r y)
        ]) (sym word)
    by_word (Some w) e false same =
        get_set table r.place k (as_before r w)
        ∙ ap (λ (b : Bool). cond b (elim (slice_get table k) as (λ _. Option Word) [
          | None ↦ None
          | Some y ↦ Some (as_before r w)
        ]) (slice_get table k)) same

pub get_released_at : (r : Record) (table : List Word) (k : ℕ) →
    slice_get (released_at r table) k ≡ free_word r (r.place == k) (slice_get table k)
get_released_at r table k = by_word (slice_get table r.place) refl (r.place == k) refl
  where
    by_word : (o : Option Word) → slice_get table r.place ≡ o → (b : Bool) → (r.place == k) ≡ b →
        slice_get (elim o as (λ _. List Word) [ None ↦ table | Some w ↦ slice_set table r.place (given_back r w) ]) k
        ≡ free_word r b (slice_get table k)
    by_word None e true same =
        let none : slice_get table k ≡ None =
        ap (λ (i : ℕ). slice_get table i) (sym (eqb-true r.place k same)) ∙ e in rw none refl
    by_word None e false same = refl
    by_word (Some w) e true same =
        let word : slice_get table k ≡ Some w =
        ap (λ (i : ℕ). slice_get table i) (sym (eqb-true r.place k same)) ∙ e in
        get_set table r.place k (given_back r w)
        ∙ ap (λ (b : Bool). cond b (elim (slice_get table k) as (λ _. Option Word) [
          | None ↦ None
          | Some y ↦ Some (given_back r w)
        ]) (slice_get table k)) same
        ∙ ap (λ (o : Option Word). elim o as (λ _. Option Word) [ None ↦ None | Some y ↦ Some (given_back r w) ]) word
        ∙ ap (λ (o : Option Word). elim o as (λ _. Option Word) [
          | None ↦ None
          | Some y ↦
              Some (given_back r y)
        ]) (sym word)
    by_word (Some w) e false same =
        get_set table r.place k (given_back r w)
        ∙ ap (λ (b : Bool). cond b (elim (slice_get table k) as (λ _. Option Word) [
          | None ↦ None
          | Some y ↦ Some (given_back r w)
        ]) (slice_get table k)) same

-- ---- all records

pub undone_off : (rs : List Record) (table : List Word) (k : ℕ) → touches rs k ≡ false →
    slice_get (undone rs table) k ≡ slice_get table k
undone_off [] table k h = refl
undone_off (r ∷ rs) table k h =
    let parts = or_parts (r.place == k) (touches rs k) h in
    get_put_back r (undone rs table) k
    ∙ ap (λ (b : Bool). put_word r b (slice_get (undone rs table) k)) parts.0 ∙ undone_off rs table k parts.1

put_same : (r : Record) (b : Bool) (o p : Option Word) → seen 0 o ≡ seen 0 p →
    seen 0 (put_word r b o) ≡ seen 0 (put_word r b p)
put_same r true None None h = refl
put_same r true None (Some w) h = cc
put_same r true (Some w) None h = cc
put_same r true (Some w) (Some v) h = refl
put_same r false o p h = h

pub undone_same : (rs : List Record) (table other : List Word) (k : ℕ) → seen 0 (slice_get table k)
    ≡ seen 0 (slice_get other k) →
    seen 0 (slice_get (undone rs table) k) ≡ seen 0 (slice_get (undone rs other) k)
undone_same [] table other k h = h
undone_same (r ∷ rs) table other k h =
    ap (λ (o : Option Word). seen 0 o) (get_put_back r (undone rs table) k)
    ∙ put_same r (r.place == k) (slice_get (undone rs table) k) (slice_get (undone rs other) k)
    (undone_same rs table other k h)
    ∙ ap (λ (o : Option Word). seen 0 o) (sym (get_put_back r (undone rs other) k))

put_readers : (r : Record) (b : Bool) (o : Option Word) (n more : ℕ) → readers_at o ≡ n - more →
    readers_at (put_word r b o) ≡ n - (cond b (reading_of r) 0 + more)
put_readers r true None n more h = omega (arith, h)
put_readers r true (Some w) n more h = omega (arith, h)
put_readers r false o n more h = omega (arith, h)

free_readers : (r : Record) (b : Bool) (o : Option Word) (n more : ℕ) → readers_at o ≡ n - more →
    readers_at (free_word r b o) ≡ n - (cond b (reading_of r) 0 + more)
free_readers r true None n more h = omega (arith, h)
free_readers r true (Some w) n more h = omega (arith, h)
free_readers r false o n more h = omega (arith, h)

pub undone_readers : (rs : List Record) (table : List Word) (k : ℕ) →
    readers_at (slice_get (undone rs table) k) ≡ readers_at (slice_get table k) - readings k rs
undone_readers [] table k = omega arith
undone_readers (r ∷ rs) table k =
    ap (λ (o : Option Word). readers_at o) (get_put_back r (undone rs table) k)
    ∙ put_readers r (r.place == k) (slice_get (undone rs table) k) (readers_at (slice_get table k)) (readings k rs)
    (undone_readers rs table k)

pub released_readers : (rs : List Record) (table : List Word) (k : ℕ) →
    readers_at (slice_get (released rs table) k) ≡ readers_at (slice_get table k) - readings k rs
released_readers [] table k = omega arith
released_readers (r ∷ rs) table k =
    ap (λ (o : Option Word). readers_at o) (get_released_at r (released rs table) k)
    ∙ free_readers r (r.place == k) (slice_get (released rs table) k) (readers_at (slice_get table k)) (readings k rs)
    (released_readers rs table k)

pub released_off : (rs : List Record) (table : List Word) (k : ℕ) → touches rs k ≡ false →
    slice_get (released rs table) k ≡ slice_get table k
released_off [] table k h = refl
released_off (r ∷ rs) table k h =
    let parts = or_parts (r.place == k) (touches rs k) h in
    get_released_at r (released rs table) k
    ∙ ap (λ (b : Bool). free_word r b (slice_get (released rs table) k)) parts.0 ∙ released_off rs table k parts.1

free_same : (r : Record) (b : Bool) (o p : Option Word) → seen 0 o ≡ seen 0 p →
    seen 0 (free_word r b o) ≡ seen 0 (free_word r b p)
free_same r true None None h = refl
free_same r true None (Some w) h = cc
free_same r true (Some w) None h = cc
free_same r true (Some w) (Some v) h =
    ap (λ (o : Option Word). elim o as (λ _. Option Word) [
      | None ↦ None
      | Some y ↦ Some (record { value = y.value; owner = r.owner; readers = 0 })
    ]) h
free_same r false o p h = h

pub released_same : (rs : List Record) (table other : List Word) (k : ℕ) →
    seen 0 (slice_get table k) ≡ seen 0 (slice_get other k) →
    seen 0 (slice_get (released rs table) k) ≡ seen 0 (slice_get (released rs other) k)
released_same [] table other k h = h
released_same (r ∷ rs) table other k h =
    ap (λ (o : Option Word). seen 0 o) (get_released_at r (released rs table) k)
    ∙ free_same r (r.place == k) (slice_get (released rs table) k) (slice_get (released rs other) k)
    (released_same rs table other k h)
    ∙ ap (λ (o : Option Word). seen 0 o) (sym (get_released_at r (released rs other) k))

-- ---- owners

-- a word with another owner
abbrev pub owned_by : ℕ → Option Word → Option Word
owned_by n o =
    elim o as (λ _. Option Word) [
      | None ↦ None
      | Some w ↦ Some (record { value = w.value; owner = n; readers = 0 })
    ]

owned_same : (o : Option Word) → owned_by (owner_at o) o ≡ seen 0 o
owned_same None = refl
owned_same (Some w) = refl

free_owned : (r : Record) (b : Bool) (n : ℕ) (o p : Option Word) → owned_by n o ≡ owned_by n p →
    owned_by n (free_word r b o) ≡ owned_by n p
free_owned r true n None p h = h
free_owned r true n (Some w) p h = h
free_owned r false n o p h = h

-- releasing changes no value
released_owned : (rs : List Record) (table : List Word) (k n : ℕ) →
    owned_by n (slice_get (released rs table) k) ≡ owned_by n (slice_get table k)
released_owned [] table k n = refl
released_owned (r ∷ rs) table k n =
    ap (λ (o : Option Word). owned_by n o) (get_released_at r (released rs table) k)
    ∙ free_owned r (r.place == k) n (slice_get (released rs table) k) (slice_get table k) (released_owned rs table k n)

-- a released word whose owner is the same is the same
pub released_kept : (rs : List Record) (table : List Word) (k : ℕ) →
    owner_at (slice_get (released rs table) k) ≡ owner_at (slice_get table k) →
    seen 0 (slice_get (released rs table) k) ≡ seen 0 (slice_get table k)
released_kept rs table k h =
    sym (owned_same (slice_get (released rs table) k))
    ∙ ap (λ (n : ℕ). owned_by n (slice_get (released rs table) k)) h
    ∙ released_owned rs table k (owner_at (slice_get table k)) ∙ owned_same (slice_get table k)

-- there is a word
abbrev is_there : Option Word → Bool
is_there o = elim o as (λ _. Bool) [ None ↦ false | Some w ↦ true ]

put_there : (r : Record) (b : Bool) (o : Option Word) → is_there (put_word r b o) ≡ is_there o
put_there r true None = refl
put_there r true (Some w) = refl
put_there r false o = refl

free_there : (r : Record) (b : Bool) (o : Option Word) → is_there (free_word r b o) ≡ is_there o
free_there r true None = refl
free_there r true (Some w) = refl
free_there r false o = refl

both_there : (rs : List Record) (table : List Word) (k : ℕ) →
    is_there (slice_get (released rs table) k) ≡ is_there (slice_get (undone rs table) k)
both_there [] table k = refl
both_there (r ∷ rs) table k =
    ap (λ (o : Option Word). is_there o) (get_released_at r (released rs table) k)
    ∙ free_there r (r.place == k) (slice_get (released rs table) k) ∙ both_there rs table k
    ∙ sym (put_there r (r.place == k) (slice_get (undone rs table) k))
    ∙ ap (λ (o : Option Word). is_there o) (sym (get_put_back r (undone rs table) k))

step_owner : (r : Record) (rest b : Bool) (p q : Option Word) → is_there p ≡ is_there q → b || rest ≡ true →
    (rest ≡ true → owner_at p ≡ owner_at q) → owner_at (free_word r b p) ≡ owner_at (put_word r b q)
step_owner r rest true None None e t h = refl
step_owner r rest true None (Some w) e t h = cc
step_owner r rest true (Some w) None e t h = cc
step_owner r rest true (Some w) (Some v) e t h = refl
step_owner r rest false p q e t h = h t

-- a released word belongs to whom it belonged before
pub released_owner : (rs : List Record) (table : List Word) (k : ℕ) → touches rs k ≡ true →
    owner_at (slice_get (released rs table) k) ≡ owner_at (slice_get (undone rs table) k)
released_owner [] table k h = cc
released_owner (r ∷ rs) table k h =
    ap (λ (o : Option Word). owner_at o) (get_released_at r (released rs table) k)
    ∙ step_owner r (touches rs k) (r.place == k) (slice_get (released rs table) k) (slice_get (undone rs table) k)
    (both_there rs table k) h (λ g. released_owner rs table k g)
    ∙ ap (λ (o : Option Word). owner_at o) (sym (get_put_back r (undone rs table) k))
