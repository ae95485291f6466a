-- A memory in pages: what is read of it, and what is put.
use Rattle.std.proofs.Common.{◌≡◌, ℕ, zero, suc, ◌+◌, ◌-◌, ◌*◌, ◌/◌, ◌%◌, ◌<◌, ◌≤◌, ◌==◌, ◌⊎◌}
use Rattle.std.proofs.Common.{Bool, true, false, List, [], ◌∷◌, ◌++◌, length, drop, replicate}
use Rattle.std.proofs.Common.{refl, arith, sym, subst, ◌∙◌, ap, inl, inr}
use Rattle.std.proofs.lemmas.Bool.Decides.{nat_tests}
use Rattle.std.specs.Prelude.{nat_lt, slice_index, slice_range, slice_set}
use Rattle.std.proofs.lemmas.List.{length-append, length-replicate, length-set, get_or-append-add}
use Rattle.std.proofs.lemmas.List.{get_or-take, get_or-drop, get_or_append_left, get_or-set_same}
use Rattle.std.proofs.lemmas.List.{get_or-set_other}
use Rattle.ram_space.specs.Pages.{put, cleared, page_at, memory_of, given, ArePages, IsSpace, IsPart}
use Rattle.ram_space.proofs.Lists.{alike_length, cleared_none, cleared_put, cleared_twice}
use Rattle.ram_space.proofs.Lists.{has_parts, put_behind, put_length, put_none}
use Rattle.ram_space.proofs.Lists.{put_one, put_same, put_twice, put_within, range_around_put}
use Rattle.ram_space.proofs.Lists.{range_before_put, range_behind, range_behind_put, range_length}
use Rattle.ram_space.proofs.Lists.{range_of_alike, range_of_range}
use Rattle.ram_space.proofs.Padded.{more_alike}
use Rattle.ram_space.proofs.Padded.{range_within}

-- each page has its bytes
abbrev AreThere : List ℕ → List ℕ → Type 0
AreThere ks bytes = (i : ℕ) → 4096 * slice_index ks i + 4096 ≤ length bytes

page_length : (bytes : List ℕ) (k : ℕ) → 4096 * k + 4096 ≤ length bytes → length (page_at bytes k) ≡ 4096
page_length bytes k there = range_length bytes (4096 * k) 4096 there

next_place : (i o : ℕ) → 4096 * suc i + o ≡ 4096 + (4096 * i + o)
next_place i o = omega arith

length_of_pages : (ks bytes : List ℕ) → AreThere ks bytes → length (memory_of ks bytes) ≡ 4096 * length ks
length_of_pages [] bytes there = refl
length_of_pages (k ∷ ks) bytes there =
    length-append (page_at bytes k) (memory_of ks bytes)
    ∙ ap (λ n. n + length (memory_of ks bytes)) (page_length bytes k (there 0))
    ∙ ap (λ n. 4096 + n) (length_of_pages ks bytes (λ i. there (suc i)))
    ∙ (let e : 4096 + 4096 * length ks ≡ 4096 * suc (length ks) = omega arith in e)

-- a range within a page
range_at : (ks bytes : List ℕ) (i o n : ℕ) → AreThere ks bytes → i < length ks → o + n ≤ 4096 →
    slice_range (memory_of ks bytes) (4096 * i + o) (4096 * i + o + n)
    ≡ slice_range bytes (4096 * slice_index ks i + o) (4096 * slice_index ks i + o + n)
range_at [] bytes i o n there one room = absurd (let never : ⊥ = omega arith in never)
range_at (k ∷ ks) bytes zero o n there one room =
    ap (λ j. slice_range (page_at bytes k ++ memory_of ks bytes) j (j + n))
    (let e : 4096 * zero + o ≡ o = omega arith in e)
    ∙ range_within (page_at bytes k) (memory_of ks bytes) o (o + n) (omega arith)
    (let e = page_length bytes k (there 0) in omega (arith, e))
    ∙ range_of_range bytes (4096 * k) 4096 o n room
range_at (k ∷ ks) bytes (suc i) o n there one room =
    ap (λ j. slice_range (page_at bytes k ++ memory_of ks bytes) j (j + n)) (next_place i o)
    ∙ ap (slice_range (page_at bytes k ++ memory_of ks bytes) (4096 + (4096 * i + o)))
    (let e : 4096 + (4096 * i + o) + n ≡ 4096 + (4096 * i + o + n) = omega arith in e)
    ∙ range_behind (page_at bytes k) (memory_of ks bytes) 4096
    (4096 * i + o) (4096 * i + o + n) (page_length bytes k (there 0))
    ∙ range_at ks bytes i o n (λ j. there (suc j)) (omega arith) room

-- a byte
index_at : (ks bytes : List ℕ) (i o : ℕ) → AreThere ks bytes → i < length ks → o < 4096 →
    slice_index (memory_of ks bytes) (4096 * i + o) ≡ slice_index bytes (4096 * slice_index ks i + o)
index_at [] bytes i o there one room = absurd (let never : ⊥ = omega arith in never)
index_at (k ∷ ks) bytes zero o there one room =
    ap (slice_index (page_at bytes k ++ memory_of ks bytes)) (let e : 4096 * zero + o ≡ o = omega arith in e)
    ∙ get_or_append_left (page_at bytes k) (memory_of ks bytes) 0 o
    (let e = page_length bytes k (there 0) in omega (arith, e))
    ∙ get_or-take (4096 * k + 4096 - 4096 * k) (drop (4096 * k) bytes) o 0 (omega arith)
    ∙ get_or-drop (4096 * k) bytes o 0
index_at (k ∷ ks) bytes (suc i) o there one room =
    ap (slice_index (page_at bytes k ++ memory_of ks bytes))
    (next_place i o ∙ ap (λ n. n + (4096 * i + o)) (sym (page_length bytes k (there 0))))
    ∙ get_or-append-add (page_at bytes k) (memory_of ks bytes) (4096 * i + o) 0
    ∙ index_at ks bytes i o (λ j. there (suc j)) (omega arith) room

-- ---- what is written

-- a write leaves the other pages
other_page_by : (before : Bool) (bytes : List ℕ) (k o : ℕ) (from : List ℕ) (j : ℕ) →
    nat_lt j k ≡ before → (j ≡ k → ⊥) → o + length from ≤ 4096 →
    4096 * k + 4096 ≤ length bytes → page_at (put (4096 * k + o) from bytes) j ≡ page_at bytes j
other_page_by true bytes k o from j test other room there =
    range_before_put (4096 * k + o) from bytes (4096 * j) (4096 * j + 4096) (omega arith)
    (let e : j < k = grind (arith, nat_tests, test) in omega (arith, e)) (omega arith)
other_page_by false bytes k o from j test other room there =
    range_behind_put (4096 * k + o) from bytes (4096 * j) (4096 * j + 4096)
    (let e : k < j = grind (arith, nat_tests, test, other) in omega (arith, e)) (omega arith)

other_page : (bytes : List ℕ) (k o : ℕ) (from : List ℕ) (j : ℕ) → (j ≡ k → ⊥) →
    o + length from ≤ 4096 → 4096 * k + 4096 ≤ length bytes →
    page_at (put (4096 * k + o) from bytes) j ≡ page_at bytes j
other_page bytes k o from j other room there = other_page_by (nat_lt j k) bytes k o from j refl other room there

-- pages that aren't at a place stay where it is written
others_stay : (ks bytes : List ℕ) (k o : ℕ) (from : List ℕ) → ((j : ℕ) → slice_index ks j ≡ k → ⊥) →
    o + length from ≤ 4096 → 4096 * k + 4096 ≤ length bytes →
    memory_of ks (put (4096 * k + o) from bytes) ≡ memory_of ks bytes
others_stay [] bytes k o from others room there = refl
others_stay (h ∷ ks) bytes k o from others room there =
    ap (λ p. p ++ memory_of ks (put (4096 * k + o) from bytes)) (other_page bytes k o from h (others 0) room there)
    ∙ ap (λ m. page_at bytes h ++ m) (others_stay ks bytes k o from (λ j. others (suc j)) room there)

-- a write at a page's place is one in the memory
written : (ks bytes : List ℕ) (i o : ℕ) (from : List ℕ) → AreThere ks bytes → i < length ks →
    ((j : ℕ) → slice_index ks j ≡ slice_index ks i → j ≡ i) → o + length from ≤ 4096 →
    memory_of ks (put (4096 * slice_index ks i + o) from bytes) ≡ put (4096 * i + o) from (memory_of ks bytes)
written [] bytes i o from there one alone room = absurd (let never : ⊥ = omega arith in never)
written (k ∷ ks) bytes zero o from there one alone room =
    ap (λ p. p ++ memory_of ks (put (4096 * k + o) from bytes))
    (range_around_put (4096 * k) 4096 o from bytes room (there 0))
    ∙ ap (λ m. put o from (page_at bytes k) ++ m)
    (others_stay ks bytes k o from (λ j same. let e = alone (suc j) same in omega (arith, e)) room (there 0))
    ∙ sym (put_within o from (page_at bytes k) (memory_of ks bytes)
    (let e = page_length bytes k (there 0) in omega (arith, e)))
    ∙ ap (λ j. put j from (page_at bytes k ++ memory_of ks bytes)) (let e : o ≡ 4096 * zero + o = omega arith in e)
written (k ∷ ks) bytes (suc i) o from there one alone room =
    let h = slice_index ks i in
    ap (λ p. p ++ memory_of ks (put (4096 * h + o) from bytes))
    (other_page bytes h o from k (λ same. let e = alone 0 same in omega (arith, e)) room (there (suc i)))
    ∙ ap (λ m. page_at bytes k ++ m)
    (written ks bytes i o from (λ j. there (suc j)) (omega arith)
    (λ j same. let e = alone (suc j) same in omega (arith, e)) room)
    ∙ sym (put_behind 4096 (4096 * i + o) from (page_at bytes k) (memory_of ks bytes) (page_length bytes k (there 0)))
    ∙ ap (λ j. put j from (page_at bytes k ++ memory_of ks bytes)) (sym (next_place i o))

-- ---- a page gets a place

-- more bytes behind leave the memory
more_bytes : (ks bytes more : List ℕ) → AreThere ks bytes → memory_of ks (bytes ++ more) ≡ memory_of ks bytes
more_bytes [] bytes more there = refl
more_bytes (k ∷ ks) bytes more there =
    ap (λ p. p ++ memory_of ks (bytes ++ more))
    (range_within bytes more (4096 * k) (4096 * k + 4096) (omega arith) (there 0))
    ∙ ap (λ m. page_at bytes k ++ m) (more_bytes ks bytes more (λ i. there (suc i)))

-- a page may stand at another place where the same bytes stand
moved : (ks bytes : List ℕ) (i k : ℕ) → page_at bytes k ≡ page_at bytes (slice_index ks i) →
    memory_of (slice_set ks i k) bytes ≡ memory_of ks bytes
moved [] bytes i k same = refl
moved (h ∷ ks) bytes zero k same = ap (λ p. p ++ memory_of ks bytes) same
moved (h ∷ ks) bytes (suc i) k same = ap (λ m. page_at bytes h ++ m) (moved ks bytes i k same)

-- one more page has a place
one_more_given : (ks : List ℕ) (i k : ℕ) → i < length ks → slice_index ks i ≡ 0 →
    given (slice_set ks i (suc k)) ≡ suc (given ks)
one_more_given [] i k one none = absurd (let never : ⊥ = omega arith in never)
one_more_given (zero ∷ ks) zero k one none = refl
one_more_given (suc h ∷ ks) zero k one none = absurd (let never : ⊥ = omega (arith, none) in never)
one_more_given (zero ∷ ks) (suc i) k one none = one_more_given ks i k (omega arith) none
one_more_given (suc h ∷ ks) (suc i) k one none = ap suc (one_more_given ks i k (omega arith) none)

-- no more pages have one than there are
few_given : (ks : List ℕ) → given ks ≤ length ks
few_given [] = omega arith
few_given (zero ∷ ks) = let e = few_given ks in omega (arith, e)
few_given (suc k ∷ ks) = let e = few_given ks in omega (arith, e)

fewer_given : (ks : List ℕ) (i : ℕ) → i < length ks → slice_index ks i ≡ 0 → given ks < length ks
fewer_given [] i one none = absurd (let never : ⊥ = omega arith in never)
fewer_given (zero ∷ ks) zero one none = let e = few_given ks in omega (arith, e)
fewer_given (suc h ∷ ks) zero one none = absurd (let never : ⊥ = omega (arith, none) in never)
fewer_given (zero ∷ ks) (suc i) one none = let e = few_given ks in omega (arith, e)
fewer_given (suc h ∷ ks) (suc i) one none = let e = fewer_given ks i (omega arith) none in omega (arith, e)

-- ---- by address

-- where the byte of an address stands
abbrev place_of : List ℕ → ℕ → ℕ
place_of places a = 4096 * slice_index places (a / 4096) + a % 4096

address : (a : ℕ) → 4096 * (a / 4096) + a % 4096 ≡ a
address a = omega arith

offset_below : (a : ℕ) → a % 4096 < 4096
offset_below a = omega arith

page_below : (places bytes : List ℕ) (a : ℕ) → ArePages places bytes → a < 524288 → a / 4096 < length places
page_below places bytes a sound inside = let many = sound.many in omega (arith, many)

pub memory_length : (places bytes : List ℕ) → ArePages places bytes → length (memory_of places bytes) ≡ 524288
memory_length places bytes sound =
    length_of_pages places bytes sound.inside ∙ (let many = sound.many in
    let e : 4096 * length places ≡ 524288 = omega (arith, many) in e)

-- what stands at a place is there
pub place_inside : (places bytes : List ℕ) (a n : ℕ) → ArePages places bytes → a % 4096 + n ≤ 4096 →
    place_of places a + n ≤ length bytes
place_inside places bytes a n sound room = let there = sound.inside (a / 4096) in omega (arith, there)

pub byte_at : (places bytes : List ℕ) (a : ℕ) → ArePages places bytes → a < 524288 →
    slice_index (memory_of places bytes) a ≡ slice_index bytes (place_of places a)
byte_at places bytes a sound inside =
    ap (slice_index (memory_of places bytes)) (sym (address a))
    ∙ index_at places bytes (a / 4096) (a % 4096) sound.inside (page_below places bytes a sound inside) (offset_below a)

pub range_in_page : (places bytes : List ℕ) (a n : ℕ) → ArePages places bytes → a < 524288 → a % 4096 + n ≤ 4096 →
    slice_range (memory_of places bytes) a (a + n) ≡ slice_range bytes (place_of places a) (place_of places a + n)
range_in_page places bytes a n sound inside room =
    ap (λ j. slice_range (memory_of places bytes) j (j + n)) (sym (address a))
    ∙ range_at places bytes (a / 4096) (a % 4096) n sound.inside (page_below places bytes a sound inside) room

-- a page that has a place shares it with no other
alone : (places bytes : List ℕ) (i j : ℕ) → ArePages places bytes → 0 < slice_index places i →
    slice_index places j ≡ slice_index places i → j ≡ i
alone places bytes i j sound own same = by_case (sound.apart j i same)
  where
    by_case : (slice_index places j ≡ 0) ⊎ (j ≡ i) → j ≡ i
    by_case (inl none) = absurd (let never : ⊥ = omega (arith, own, none, same) in never)
    by_case (inr one) = one

pub put_in_page : (places bytes : List ℕ) (a : ℕ) (from : List ℕ) → ArePages places bytes →
    a < 524288 → 0 < slice_index places (a / 4096) →
    a % 4096 + length from ≤ 4096 →
    memory_of places (put (place_of places a) from bytes) ≡ put a from (memory_of places bytes)
put_in_page places bytes a from sound inside own room =
    written places bytes (a / 4096) (a % 4096) from sound.inside (page_below places bytes a sound inside)
    (λ j same. alone places bytes (a / 4096) j sound own same) room
    ∙ ap (λ j. put j from (memory_of places bytes)) (address a)

pub put_sound : (places bytes : List ℕ) (a : ℕ) (from : List ℕ) → ArePages places bytes →
    0 < slice_index places (a / 4096) →
    a % 4096 + length from ≤ 4096 → ArePages places (put (place_of places a) from bytes)
put_sound places bytes a from sound own room =
    let there = place_inside places bytes a (length from) sound room in
    let as_long = put_length (place_of places a) from bytes there in
    let k = slice_index places (a / 4096) in
    record {
      many = sound.many;
      size = as_long ∙ sound.size;
      zeros =
          range_before_put (place_of places a) from bytes 0 4096 (omega arith)
          (omega (arith, own)) (omega (arith, there)) ∙ sound.zeros;
      inside = λ i. let e = sound.inside i in omega (arith, e, as_long);
      apart = sound.apart;
    }

-- zeros that are put into a page of zeros change nothing
pub zeros_in_page : (places bytes : List ℕ) (a n : ℕ) → ArePages places bytes → a < 524288 →
    slice_index places (a / 4096) ≡ 0 →
    a % 4096 + n ≤ 4096 → put a (replicate n 0) (memory_of places bytes) ≡ memory_of places bytes
zeros_in_page places bytes a n sound inside none room =
    let s = place_of places a in
    let o = a % 4096 in
    put_same a n (replicate n 0) (memory_of places bytes) (length-replicate n 0)
    (range_in_page places bytes a n sound inside room
    ∙ ap (λ j. slice_range bytes j (j + n)) (let e : s ≡ 0 + o = omega (arith, none) in e)
    ∙ sym (range_of_range bytes 0 4096 o n room)
    ∙ ap (λ zs. slice_range zs o (o + n)) sound.zeros
    ∙ range_of_alike o n 4096 0 room)

-- zeros that are put into another
zeros_sound_by : (places bytes : List ℕ) (a n : ℕ) → ArePages places bytes →
    0 < slice_index places (a / 4096) → a % 4096 + n ≤ 4096 →
    ArePages places (put (place_of places a) (replicate n 0) bytes)
zeros_sound_by places bytes a n sound own room =
    let e = alike_length n 0 in
    put_sound places bytes a (replicate n 0) sound own (omega (arith, e, room))

-- the range of a page, by its ends
range_there : (places : List ℕ) (from to : ℕ) → from ≤ to →
    place_of places from + (to - from) - place_of places from ≡ to - from
range_there places from to order = omega arith

pub cleared_in_page : (places bytes : List ℕ) (from to : ℕ) → ArePages places bytes →
    from < 524288 → from ≤ to → 0 < slice_index places (from / 4096) →
    from % 4096 + (to - from) ≤ 4096 →
    memory_of places (cleared (place_of places from) (place_of places from + (to - from)) bytes)
    ≡ cleared from to (memory_of places bytes)
cleared_in_page places bytes from to sound inside order own room =
    let s = place_of places from in
    let n = to - from in
    let e = alike_length n 0 in
    ap (memory_of places) (sym (cleared_put s (s + n) bytes (omega arith)))
    ∙ ap (λ j. memory_of places (put s (replicate j 0) bytes)) (range_there places from to order)
    ∙ put_in_page places bytes from (replicate n 0) sound inside own (omega (arith, e, room))
    ∙ cleared_put from to (memory_of places bytes) order

pub cleared_sound : (places bytes : List ℕ) (from to : ℕ) → ArePages places bytes → from ≤ to →
    0 < slice_index places (from / 4096) →
    from % 4096 + (to - from) ≤ 4096 →
    ArePages places (cleared (place_of places from) (place_of places from + (to - from)) bytes)
cleared_sound places bytes from to sound order own room =
    let s = place_of places from in
    let n = to - from in
    subst (ArePages places) (ap (λ j. put s (replicate j 0) bytes)
    (sym (range_there places from to order)) ∙ cleared_put s (s + n) bytes (omega arith))
    (zeros_sound_by places bytes from n sound own room)

-- a page of zeros is clear
pub cleared_blank : (places bytes : List ℕ) (from to : ℕ) → ArePages places bytes → from < 524288 →
    from ≤ to → slice_index places (from / 4096) ≡ 0 →
    from % 4096 + (to - from) ≤ 4096 → memory_of places bytes ≡ cleared from to (memory_of places bytes)
cleared_blank places bytes from to sound inside order none room =
    sym (zeros_in_page places bytes from (to - from) sound inside none room)
    ∙ cleared_put from to (memory_of places bytes) order

-- ---- a page gets a place of its own

-- the place of the next page
next_of : (places bytes : List ℕ) → ArePages places bytes → length bytes / 4096 ≡ suc (given places)
next_of places bytes sound = let size = sound.size in omega (arith, size)

pub next_below : (places bytes : List ℕ) (i : ℕ) → ArePages places bytes → i < 128 →
    slice_index places i ≡ 0 → length bytes / 4096 < 256
next_below places bytes i sound one none =
    let few = fewer_given places i (let many = sound.many in omega (arith, many)) none in
    let many = sound.many in
    let next = next_of places bytes sound in
    omega (arith, few, many, next)

pub next_room : (places bytes : List ℕ) (i n room : ℕ) → n ≡ length bytes →
    IsSpace places bytes room → slice_index places i ≡ 0 → i < 128 → n + 4096 ≤ room
next_room places bytes i n room long space none one =
    let sound = space.sound in
    let few = fewer_given places i (let many = sound.many in omega (arith, many)) none in
    let size = sound.size in
    let many = sound.many in
    let taken = space.taken in
    omega (arith, few, many, size, taken, long)

new_zeros : (bytes : List ℕ) (k : ℕ) → length bytes ≡ 4096 * k →
    page_at (bytes ++ replicate 4096 0) k ≡ replicate 4096 0
new_zeros bytes k e =
    ap (λ j. slice_range (bytes ++ replicate 4096 0) j (4096 * k + 4096))
    (let d : 4096 * k ≡ 4096 * k + 0 = omega arith in d)
    ∙ range_behind bytes (replicate 4096 0) (4096 * k) 0 4096 e
    ∙ range_of_alike 0 4096 4096 0 (omega arith)

owned_same : (places bytes : List ℕ) (i : ℕ) → ArePages places bytes → slice_index places i ≡ 0 →
    memory_of (slice_set places i (length bytes / 4096)) (bytes ++ replicate 4096 0) ≡ memory_of places bytes
owned_same places bytes i sound none =
    let k = length bytes / 4096 in
    let next = next_of places bytes sound in
    let size = sound.size in
    let first = sound.inside i in
    let whole : length bytes ≡ 4096 * k = omega (arith, next, size) in
    moved places (bytes ++ replicate 4096 0) i k
    (new_zeros bytes k whole ∙ sym sound.zeros
    ∙ sym (range_within bytes (replicate 4096 0) 0 4096 (omega arith) (omega (arith, first)))
    ∙ ap (page_at (bytes ++ replicate 4096 0)) (sym none))
    ∙ more_bytes places bytes (replicate 4096 0) sound.inside

-- the places once page i got place k
at_it : (places : List ℕ) (i k x : ℕ) → i < length places → (x == i) ≡ true → slice_index (slice_set places i k) x ≡ k
at_it places i k x one test =
    ap (slice_index (slice_set places i k)) (let e : x ≡ i = grind (arith, nat_tests, test) in e)
    ∙ get_or-set_same places i k 0 one

at_other : (places : List ℕ) (i k x : ℕ) → (x == i) ≡ false →
    slice_index (slice_set places i k) x ≡ slice_index places x
at_other places i k x test = get_or-set_other places i x k 0 (λ e. grind (arith, nat_tests, test, e))

-- it is the last
inside_next : (places bytes : List ℕ) (i k x : ℕ) (same : Bool) → (x == i) ≡ same →
    ArePages places bytes → i < length places → length bytes ≡ 4096 * k →
    4096 * slice_index (slice_set places i k) x + 4096 ≤ length bytes + 4096
inside_next places bytes i k x true test sound one whole =
    let e = at_it places i k x one test in
    omega (arith, e, whole)
inside_next places bytes i k x false test sound one whole =
    let e = at_other places i k x test in
    let there = sound.inside x in
    omega (arith, e, there)

-- no other page has it
apart_next : (places bytes : List ℕ) (i k x y : ℕ) (first second : Bool) → (x == i) ≡ first →
    (y == i) ≡ second → ArePages places bytes → i < length places →
    length bytes ≡ 4096 * k → slice_index (slice_set places i k) x ≡ slice_index (slice_set places i k) y →
    (slice_index (slice_set places i k) x ≡ 0) ⊎ (x ≡ y)
apart_next places bytes i k x y true true s t sound one whole same = inr (grind (arith, nat_tests, s, t))
apart_next places bytes i k x y true false s t sound one whole same =
    absurd (let e = at_it places i k x one s in let f = at_other places i k y t in let there = sound.inside y in
    let never : ⊥ = omega (arith, e, f, there, whole, same) in never)
apart_next places bytes i k x y false true s t sound one whole same =
    absurd (let e = at_other places i k x s in let f = at_it places i k y one t in let there = sound.inside x in
    let never : ⊥ = omega (arith, e, f, there, whole, same) in never)
apart_next places bytes i k x y false false s t sound one whole same =
    by_case (sound.apart x y (sym (at_other places i k x s) ∙ same ∙ at_other places i k y t))
  where
    by_case : (slice_index places x ≡ 0) ⊎ (x ≡ y) → (slice_index (slice_set places i k) x ≡ 0) ⊎ (x ≡ y)
    by_case (inl none) = inl (at_other places i k x s ∙ none)
    by_case (inr both) = inr both

with_more : (bytes : List ℕ) (n x : ℕ) → length (bytes ++ replicate n x) ≡ length bytes + n
with_more bytes n x = length-append bytes (replicate n x) ∙ ap (λ m. length bytes + m) (length-replicate n x)

owned_sound : (places bytes : List ℕ) (i : ℕ) → ArePages places bytes → i < 128 → slice_index places i ≡ 0 →
    ArePages (slice_set places i (length bytes / 4096)) (bytes ++ replicate 4096 0)
owned_sound places bytes i sound low none =
    let k = length bytes / 4096 in
    let next = next_of places bytes sound in
    let size = sound.size in
    let many = sound.many in
    let one : i < length places = omega (arith, low, many) in
    let whole : length bytes ≡ 4096 * k = omega (arith, next, size) in
    let longer = with_more bytes 4096 0 in
    let more : given (slice_set places i k) ≡ suc (given places) =
    ap (λ n. given (slice_set places i n)) next ∙ one_more_given places i (given places) one none in
    record {
      many = length-set places i k ∙ many;
      size = omega (arith, longer, more, size);
      zeros =
          range_within bytes (replicate 4096 0) 0 4096 (omega arith) (let e = sound.inside i in
          omega (arith, e)) ∙ sound.zeros;
      inside = λ x. let e = inside_next places bytes i k x (x == i) refl sound one whole in omega (arith, e, longer);
      apart = λ x y same. apart_next places bytes i k x y (x == i) (y == i) refl refl sound one whole same;
    }

pub owned_own : (places bytes : List ℕ) (i : ℕ) → ArePages places bytes → i < 128 →
    slice_index (slice_set places i (length bytes / 4096)) i ≡ suc (given places)
owned_own places bytes i sound low =
    let many = sound.many in
    get_or-set_same places i (length bytes / 4096) 0 (omega (arith, low, many)) ∙ next_of places bytes sound

-- ---- at first

none_given : (n i : ℕ) → slice_index (replicate n 0) i ≡ 0
none_given zero i = refl
none_given (suc n) zero = refl
none_given (suc n) (suc i) = none_given n i

-- pages without a place are zeros
blank_sound : ArePages (replicate 128 0) (replicate 4096 0)
blank_sound =
    let long = alike_length 4096 0 in
    record {
      many = refl;
      size = refl;
      zeros = range_of_alike 0 4096 4096 0 (omega arith);
      inside = λ i. let e = none_given 128 i in omega (arith, e, long);
      apart = λ i j same. inl (none_given 128 i);
    }

blank_memory : (n : ℕ) → memory_of (replicate n 0) (replicate 4096 0) ≡ replicate (4096 * n) 0
blank_memory zero = refl
blank_memory (suc n) =
    ap (λ p. p ++ memory_of (replicate n 0) (replicate 4096 0)) (range_of_alike 0 4096 4096 0 (omega arith))
    ∙ ap (λ m. replicate 4096 0 ++ m) (blank_memory n)
    ∙ more_alike 4096 (4096 * n) 0
    ∙ ap (λ k. replicate k 0) (let e : 4096 + 4096 * n ≡ 4096 * suc n = omega arith in e)

blank_at : (a : ℕ) → slice_index (memory_of (replicate 128 0) (replicate 4096 0)) a ≡ 0
blank_at a = ap (λ m. slice_index m a) (blank_memory 128) ∙ none_given (4096 * 128) a

-- ---- in the words of the calls

-- a page of zeros behind the bytes
zeros_behind : (bytes : List ℕ) (n : ℕ) → n ≡ length bytes →
    bytes ++ replicate (n + 4096 - length bytes) 0 ≡ bytes ++ replicate 4096 0
zeros_behind bytes n long =
    ap (λ k. bytes ++ replicate k 0)
    (let e : n + 4096 - length bytes ≡ 4096 = omega (arith, long) in e)

pub gets_same : (places bytes new : List ℕ) (i n : ℕ) →
    new ≡ bytes ++ replicate (n + 4096 - length bytes) 0 → n ≡ length bytes →
    ArePages places bytes → slice_index places i ≡ 0 →
    memory_of (slice_set places i (n / 4096)) new ≡ memory_of places bytes
gets_same places bytes new i n more long sound none =
    ap (memory_of (slice_set places i (n / 4096))) (more ∙ zeros_behind bytes n long)
    ∙ ap (λ k. memory_of (slice_set places i (k / 4096)) (bytes ++ replicate 4096 0)) long
    ∙ owned_same places bytes i sound none

pub gets_space : (places bytes new : List ℕ) (i n old room : ℕ) →
    new ≡ bytes ++ replicate (n + 4096 - length bytes) 0 → n ≡ length bytes →
    IsSpace places bytes old → room ≡ old →
    slice_index places i ≡ 0 → i < 128 → IsSpace (slice_set places i (n / 4096)) new room
gets_space places bytes new i n old room more long space same none low = record {
  sound = subst (ArePages (slice_set places i (n / 4096))) (sym (more ∙ zeros_behind bytes n long))
      (subst (λ k. ArePages (slice_set places i (k / 4096)) (bytes ++ replicate 4096 0)) (sym long)
      (owned_sound places bytes i space.sound low none));
  taken = same ∙ space.taken;
}

-- a page of zeros behind no byte
pub first_page : (bytes new : List ℕ) → new ≡ bytes ++ replicate (4096 - length bytes) 0 →
    bytes ≡ [] → new ≡ replicate 4096 0
first_page bytes new more none = more ∙ ap (λ zs. zs ++ replicate (4096 - length zs) 0) none

pub blank_space : (places bytes : List ℕ) (room : ℕ) → places ≡ replicate 128 0 →
    bytes ≡ replicate 4096 0 → room ≡ 528384 → IsSpace places bytes room
blank_space places bytes room e f taken = record {
  sound = subst (λ ps. ArePages ps bytes) (sym e) (subst (ArePages (replicate 128 0)) (sym f) blank_sound);
  taken = taken;
}

pub blank_byte : (places bytes : List ℕ) (a : ℕ) → places ≡ replicate 128 0 →
    bytes ≡ replicate 4096 0 → slice_index (memory_of places bytes) a ≡ 0
blank_byte places bytes a e f =
    ap (λ ps. slice_index (memory_of ps bytes) a) e
    ∙ ap (λ bs. slice_index (memory_of (replicate 128 0) bs) a) f ∙ blank_at a

pub blank_length : (places bytes : List ℕ) → places ≡ replicate 128 0 → bytes ≡ replicate 4096 0 →
    length (memory_of places bytes) ≡ 524288
blank_length places bytes e f =
    let space = blank_space places bytes 528384 e f refl in
    memory_length places bytes space.sound

pub clear_here : (places bytes : List ℕ) (from to : ℕ) → ArePages places bytes → IsPart from to →
    0 < slice_index places (from / 4096) →
    memory_of places (cleared (place_of places from) (place_of places from + (to - from)) bytes)
    ≡ cleared from to (memory_of places bytes)
clear_here places bytes from to sound part own =
    let piece = part.piece in
    cleared_in_page places bytes from to sound piece.inside part.order own piece.page

pub clear_none : (places bytes : List ℕ) (from to : ℕ) → ArePages places bytes →
    IsPart from to → slice_index places (from / 4096) ≡ 0 →
    memory_of places bytes ≡ cleared from to (memory_of places bytes)
clear_none places bytes from to sound part none =
    let piece = part.piece in
    cleared_blank places bytes from to sound piece.inside part.order none piece.page

-- ---- what each kind of call goes by

pub ruleset reads = (byte_at, range_in_page, place_inside, memory_length)

pub ruleset begins = (blank_space, blank_byte, blank_length)

pub ruleset gives = (next_below, next_room, gets_same, gets_space, owned_own)

pub ruleset puts = (place_inside, put_in_page, put_sound, memory_length)

pub ruleset copies = (put_twice, put_none, memory_length)

pub ruleset clears = (place_inside, clear_here, cleared_sound, clear_none, memory_length)

pub ruleset clears_pages = (cleared_twice, cleared_none, memory_length)
