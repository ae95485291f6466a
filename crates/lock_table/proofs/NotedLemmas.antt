-- Lemmas on the numbers that are noted beside the masks.
use Rattle.std.proofs.Common.{◌≡◌, ◌≢◌, ℕ, zero, suc, ◌+◌, ◌<◌, ◌≤◌, Bool, true, false, cond, ◌==◌}
use Rattle.std.proofs.Common.{nat_eq, nat_lt, List, [], ◌∷◌, ◌++◌, length, get_or, set, take, drop}
use Rattle.std.proofs.Common.{filter, refl, arith, ◌∙◌, sym, ap, ⊎_elim}
use Rattle.std.specs.List.{AllByRecursion, IsDistinct, list_any}
use Rattle.std.proofs.lemmas.Bool.{or_cases, eqb-true}
use Rattle.std.proofs.lemmas.Bool.Decides.{nat_tests}
use Rattle.std.proofs.lemmas.List.{get_or-set_same, get_or-set_other}
use Rattle.std.proofs.lemmas.Map.Keys.{IsDistinct-cons}
use Rattle.std.proofs.lemmas.Map.Steps.{length-le_from_distinct_below}
use Rattle.kernel_model.specs.declared.Held.{Held}
use Rattle.lock_table.specs.declared.Holds.{Holds}
use Rattle.lock_table.specs.Masks.{no_holds, held_by, holds_at, levels_at, is_used, merged, released, HoldsSome}
use Rattle.lock_table.specs.Noted.{times, IsNoted}
use Rattle.lock_table.proofs.Places.{written}
use Rattle.lock_table.proofs.Used.{free_levels, no_holds-unused, merge-used, release-unused}

-- ---- how often a number stands in a list

times-append : (n : ℕ) (xs ys : List ℕ) → times n (xs ++ ys) ≡ times n xs + times n ys
times-append n [] ys = grind arith
times-append n (x ∷ xs) ys = grind (arith, nat_tests, times-append n xs ys)

times-filter : (p : ℕ → Bool) (n : ℕ) (xs : List ℕ) → times n (filter p xs) ≡ cond (p n) (times n xs) 0
times-filter p n [] = grind (arith, nat_tests)
times-filter p n (x ∷ xs) = grind (arith, nat_tests, times-filter p n xs)

-- one more number of a list
times-more : (n : ℕ) (xs : List ℕ) (k : ℕ) → k < length xs →
    times n (take (k + 1) xs) ≡ times n (take k xs) + cond (get_or xs k 0 == n) 1 0
times-more n [] k lt = absurd (omega (arith, lt))
times-more n (x ∷ xs) zero lt = grind (arith, nat_tests)
times-more n (x ∷ xs) (suc k) lt = grind (arith, nat_tests, times-more n xs k)

-- a number stands in the list where it stands
times-take : (n : ℕ) (xs : List ℕ) (k : ℕ) → times n (take k xs) ≤ times n xs
times-take n [] zero = omega arith
times-take n [] (suc k) = omega arith
times-take n (x ∷ xs) zero = grind (arith, nat_tests)
times-take n (x ∷ xs) (suc k) = grind (arith, nat_tests, times-take n xs k)

times_cons : (x f : ℕ) (xs : List ℕ) → times f xs ≤ times f (x ∷ xs)
times_cons x f xs = grind (arith, nat_tests)

times_first : (x : ℕ) (xs : List ℕ) → times x (x ∷ xs) ≡ suc (times x xs)
times_first x xs = grind (arith, nat_tests)

times_other : (x y : ℕ) (ys : List ℕ) → times x (y ∷ ys) ≡ 0 → (nat_eq x y ≡ false) × (times x ys ≡ 0)
times_other x y ys h = grind (arith, nat_tests)

absent : (x : ℕ) (ys : List ℕ) → times x ys ≡ 0 → AllByRecursion (λ y. nat_eq x y ≡ false) ys
absent x [] h = tt
absent x (y ∷ ys) h = let k = times_other x y ys h in (k.0, absent x ys k.1)

distinct : (xs : List ℕ) → ((f : ℕ) → times f xs ≤ 1) → IsDistinct nat_eq xs
unfolding IsDistinct
distinct [] h = tt
distinct (x ∷ xs) h =
    let first = times_first x xs in let once = h x in
    IsDistinct-cons nat_eq x xs (absent x xs (omega (arith, first, once)))
    (distinct xs (λ f. let l = h f in let m = times_cons x f xs in omega (arith, l, m)))

counted : (xs : List ℕ) (q : ℕ) → list_any (nat_eq q) xs ≡ true → 1 ≤ times q xs
counted [] q h = absurd cc
counted (x ∷ xs) q h =
    ⊎_elim (λ e. let same = eqb-true q x e in let first = times_first q xs in rw (sym same) (omega (arith, first)))
    (λ r. let more = times_cons x q xs in let rest = counted xs q r in omega (arith, more, rest))
    (or_cases (nat_eq q x) (list_any (nat_eq q) xs) h)

-- numbers below n of which each stands at most once are at most n
few : (xs : List ℕ) (n : ℕ) → ((f : ℕ) → times f xs ≤ 1) → ((q : ℕ) → 1 ≤ times q xs → q < n) → length xs ≤ n
few xs n h below = length-le_from_distinct_below xs n (distinct xs h) (λ q l. below q (counted xs q l))

-- ---- what is noted

pub beyond : (masks : List Holds) (n : ℕ) → length masks ≤ n → holds_at masks n ≡ no_holds
beyond [] n le = refl
beyond (h ∷ masks) zero le = absurd (omega (arith, le))
beyond (h ∷ masks) (suc n) le = beyond masks n (omega (arith, le))

-- what is used has its place
used_inside : (masks : List Holds) (n : ℕ) → is_used (holds_at masks n) ≡ true → n < length masks
used_inside masks n is = go (nat_lt n (length masks)) refl
  where
    go : (b : Bool) → nat_lt n (length masks) ≡ b → n < length masks
    go true h = grind (arith, nat_tests, h)
    go false h =
        let none = beyond masks n (grind (arith, nat_tests, h)) in
        let not : true ≡ false = sym is ∙ ap is_used none ∙ no_holds-unused in
        absurd cc

-- a number that stands in the list is of an object that is used
listed_used : (masks : List Holds) (numbers : List ℕ) (n : ℕ) → IsNoted masks numbers →
    1 ≤ times n numbers → is_used (holds_at masks n) ≡ true
listed_used masks numbers n noted le = go (is_used (holds_at masks n)) refl
  where
    go : (b : Bool) → is_used (holds_at masks n) ≡ b → is_used (holds_at masks n) ≡ true
    go true h = h
    go false h =
        let none : times n numbers ≡ 0 = noted.once n ∙ ap (λ (b : Bool). cond b 1 0) h in
        absurd (omega (arith, none, le))

at_most_once : (masks : List Holds) (numbers : List ℕ) (n : ℕ) → IsNoted masks numbers → times n numbers ≤ 1
at_most_once masks numbers n noted = rw (noted.once n) (go (is_used (holds_at masks n)))
  where
    go : (b : Bool) → cond b 1 0 ≤ 1
    go true = omega arith
    go false = omega arith

-- the number at a place of the list stands in it, and not before
pub stands_there : (numbers : List ℕ) (k : ℕ) → k < length numbers → times (get_or numbers k 0)
    (take (k + 1) numbers) ≡ times (get_or numbers k 0) (take k numbers) + 1
stands_there numbers k lt = times-more (get_or numbers k 0) numbers k lt ∙ grind (arith, nat_tests)

pub noted_inside : (masks : List Holds) (numbers : List ℕ) (k : ℕ) → IsNoted masks numbers →
    k < length numbers → get_or numbers k 0 < length masks
noted_inside masks numbers k noted lt =
    let there = stands_there numbers k lt in
    let within = times-take (get_or numbers k 0) numbers (k + 1) in
    used_inside masks (get_or numbers k 0)
    (listed_used masks numbers (get_or numbers k 0) noted (omega (arith, there, within)))

pub first_time : (masks : List Holds) (numbers : List ℕ) (k : ℕ) → IsNoted masks numbers →
    k < length numbers → times (get_or numbers k 0) (take k numbers) ≡ 0
first_time masks numbers k noted lt =
    let there = stands_there numbers k lt in
    let within = times-take (get_or numbers k 0) numbers (k + 1) in
    let once = at_most_once masks numbers (get_or numbers k 0) noted in
    omega (arith, there, within, once)

-- an object that isn't used has room in the list
pub room : (masks : List Holds) (numbers : List ℕ) (n size : ℕ) → IsNoted masks numbers →
    length masks ≡ size → n < size → is_used (holds_at masks n) ≡ false → length numbers < size
room masks numbers n size noted is lt free = rw (sym is) (fits (few (n ∷ numbers) (length masks) once below))
  where
    fits : length (n ∷ numbers) ≤ length masks → length numbers < length masks
    fits h = omega (arith, h)

    missing : times n numbers ≡ 0
    missing = noted.once n ∙ ap (λ (b : Bool). cond b 1 0) free

    once : (f : ℕ) → times f (n ∷ numbers) ≤ 1
    once f = let most = at_most_once masks numbers f noted in let none = missing in grind (arith, nat_tests, most, none)

    below : (q : ℕ) → 1 ≤ times q (n ∷ numbers) → q < length masks
    below q le = by_case (n == q) refl
      where
        by_case : (b : Bool) → (n == q) ≡ b → q < length masks
        by_case true h = grind (arith, nat_tests, h, is, lt)
        by_case false h = used_inside masks q (listed_used masks numbers q noted (grind (arith, nat_tests, h, le)))

-- nothing is held, nothing is noted
pub noted_none : (masks : List Holds) → ((n : ℕ) → holds_at masks n ≡ no_holds) → IsNoted masks []
noted_none masks none =
    record {
      once = λ n. sym (ap (λ (h : Holds). cond (is_used h) 1 0) (none n)
          ∙ ap (λ (b : Bool). cond b 1 0) no_holds-unused);
    }

-- what is written through the list's own slice is the whole list
pub whole : (new old : List Holds) (numbers : List ℕ) (n : ℕ) → length new ≡ n → length new ≡ 421 → IsNoted new numbers
    → (length (take n (new ++ drop (length new) old)) ≡ 421) × IsNoted (take n (new ++ drop (length new) old)) numbers
whole new old numbers n h size noted = rw (written new old n h) (size, noted)

-- a touch, after which the object is noted
pub noted_touch : (old new : List Holds) (before after : List ℕ) (n : ℕ) → IsNoted old before
    → ((i : ℕ) → is_used (holds_at new i) ≡ cond (i == n) true (is_used (holds_at old i)))
    → after ≡ cond (is_used (holds_at old n)) before (before ++ n ∷ []) → IsNoted new after
noted_touch old new before after n noted used is =
    record { once = λ i. rw (used i) (go i (is_used (holds_at old n)) refl) }
  where
    go : (i : ℕ) (b : Bool) → is_used (holds_at old n) ≡ b →
        times i after ≡ cond (cond (i == n) true (is_used (holds_at old i))) 1 0
    go i true h =
        let same : after ≡ before = is ∙ ap (λ (b : Bool). cond b before (before ++ n ∷ [])) h in
        rw same (noted.once i ∙ kept (i == n) refl)
      where
        kept : (b : Bool) → (i == n) ≡ b → ◌≡◌ {A = ℕ} (cond (is_used (holds_at old i)) 1 0)
            (cond (cond (i == n) true (is_used (holds_at old i))) 1 0)
        kept true e = let there : i ≡ n = grind (arith, nat_tests, e) in rw (e, there, h) refl
        kept false e = rw e refl
    go i false h =
        let same : after ≡ before ++ n ∷ [] = is ∙ ap (λ (b : Bool). cond b before (before ++ n ∷ [])) h in
        rw same (times-append i before (n ∷ [])
        ∙ ap (λ (t : ℕ). t + times i (n ∷ [])) (noted.once i) ∙ more (i == n) refl)
      where
        more : (b : Bool) → (i == n) ≡ b → ◌≡◌ {A = ℕ} (cond (is_used (holds_at old i)) 1
            0 + times i (n ∷ [])) (cond (cond (i == n) true (is_used (holds_at old i))) 1 0)
        more true e = let there : i ≡ n = grind (arith, nat_tests, e) in rw (there, h) (grind (arith, nat_tests))
        more false e = let apart : (n == i) ≡ false = grind (arith, nat_tests, e) in rw (e, apart) (grind arith)

-- a merge
pub noted_merge : (old new : List Holds) (numbers : List ℕ) (d : ℕ) → 0 < d → d < 4 → IsNoted old numbers
    → ((n e : ℕ) → levels_at new n e ≡ merged d (levels_at old n) e) → IsNoted new numbers
noted_merge old new numbers d inner lt noted h =
    record {
      once = λ n. noted.once n ∙ ap (λ (b : Bool). cond b 1 0)
          (sym (merge-used (holds_at old n) (holds_at new n) d inner lt (h n)));
    }

-- a release, after which what isn't used any more is taken out
pub noted_release : (old new : List Holds) (before after : List ℕ) (d : ℕ) → IsNoted old before
    → ((n e : ℕ) → levels_at new n e ≡ released d (levels_at old n) e)
    → after ≡ filter (λ n. is_used (holds_at new n)) before → IsNoted new after
noted_release old new before after d noted h is =
    record {
      once = λ n. rw is (times-filter (λ (m : ℕ). is_used (holds_at new m)) n before
          ∙ go n (is_used (holds_at old n)) refl);
    }
  where
    go : (n : ℕ) (b : Bool) → is_used (holds_at old n) ≡ b →
        cond (is_used (holds_at new n)) (times n before) 0 ≡ cond (is_used (holds_at new n)) 1 0
    go n true e = ap (λ (t : ℕ). cond (is_used (holds_at new n)) t 0) (noted.once n ∙ ap (λ (b : Bool). cond b 1 0) e)
    go n false e = rw (release-unused (holds_at old n) (holds_at new n) d (h n) e) refl

-- ---- a change of all that is noted

-- the levels of the objects with these numbers are changed, and those of the others are the same
pub record Changed (f : (ℕ → Held) → ℕ → Held) (old new : List Holds) (numbers : List ℕ) : Type 0 where
  pub done : (n e : ℕ) → 1 ≤ times n numbers → levels_at new n e ≡ f (levels_at old n) e
  pub rest : (n : ℕ) → times n numbers ≡ 0 → holds_at new n ≡ holds_at old n

pub begins : (f : (ℕ → Held) → ℕ → Held) (xs : List Holds) → Changed f xs xs []
begins f xs = record { done = λ n e le. absurd (omega (arith, le)); rest = λ n h. refl }

-- one more number
pub goes_on : (f : (ℕ → Held) → ℕ → Held) (old new : List Holds) (numbers : List ℕ) (k n : ℕ)
    (h : Holds) → IsNoted old numbers → length new ≡ length old
    → k < length numbers → n ≡ get_or numbers k 0 → ((e : ℕ) → held_by h e ≡ f (levels_at new n) e)
    → Changed f old new (take k numbers) → Changed f old (set new n h) (take (k + 1) numbers)
goes_on f old new numbers k n h noted size lt is given c =
    record { done = λ i e le. at_number i e (i == n) refl le; rest = λ i none. elsewhere i none }
  where
    inside : n < length new
    inside = rw (is, size) (noted_inside old numbers k noted lt)

    untouched_yet : holds_at new n ≡ holds_at old n
    untouched_yet = c.rest n (rw is (first_time old numbers k noted lt))

    more : (i : ℕ) → times i (take (k + 1) numbers) ≡ times i (take k numbers) + cond (n == i) 1 0
    more i = times-more i numbers k lt ∙ ap (λ (m : ℕ). times i (take k numbers) + cond (m == i) 1 0) (sym is)

    at_number : (i e : ℕ) (b : Bool) → (i == n) ≡ b → 1 ≤ times i (take (k + 1) numbers) →
        levels_at (set new n h) i e ≡ f (levels_at old i) e
    at_number i e true same le =
        let here : i ≡ n = grind (arith, nat_tests, same) in
        rw here (rw (get_or-set_same new n h no_holds inside)
        (given e ∙ ap (λ (x : Holds). f (held_by x) e) untouched_yet))
    at_number i e false same le =
        let other : i ≢ n = λ here. grind (arith, nat_tests, same, here) in
        let before : 1 ≤ times i (take k numbers) = let m = more i in grind (arith, nat_tests, m, le, same) in
        rw (get_or-set_other new n i h no_holds other) (c.done i e before)

    elsewhere : (i : ℕ) → times i (take (k + 1) numbers) ≡ 0 → holds_at (set new n h) i ≡ holds_at old i
    elsewhere i none =
        let other : i ≢ n = λ here. let m = more i in grind (arith, nat_tests, m, none, here) in
        let before : times i (take k numbers) ≡ 0 = let m = more i in omega (arith, m, none) in
        get_or-set_other new n i h no_holds other ∙ c.rest i before

all_taken : (xs : List ℕ) (k : ℕ) → length xs ≤ k → take k xs ≡ xs
all_taken [] zero le = refl
all_taken [] (suc k) le = refl
all_taken (x ∷ xs) zero le = absurd (omega (arith, le))
all_taken (x ∷ xs) (suc k) le = ap (λ (ys : List ℕ). x ∷ ys) (all_taken xs k (omega (arith, le)))

-- all numbers are done: what no level holds stays free
pub ends : (f : (ℕ → Held) → ℕ → Held) (old new : List Holds) (numbers : List ℕ) (k : ℕ) →
    length numbers ≤ k →
    ((h : ℕ → Held) → ((e : ℕ) → h e ≡ Held.Free) → (e : ℕ) → f h e ≡ Held.Free)
    → IsNoted old numbers → Changed f old new (take k numbers) → (n e : ℕ) → levels_at new n e ≡ f (levels_at old n) e
ends f old new numbers k le free noted c n e = go (is_used (holds_at old n)) refl
  where
    all : take k numbers ≡ numbers
    all = all_taken numbers k le

    go : (b : Bool) → is_used (holds_at old n) ≡ b → levels_at new n e ≡ f (levels_at old n) e
    go true h =
        let one : times n numbers ≡ 1 = noted.once n ∙ ap (λ (b : Bool). cond b 1 0) h in
        c.done n e (rw all (omega (arith, one)))
    go false h =
        let none : times n numbers ≡ 0 = noted.once n ∙ ap (λ (b : Bool). cond b 1 0) h in
        let nothing = free_levels (holds_at old n) h in
        ap (λ (x : Holds). held_by x e) (c.rest n (rw all none)) ∙ nothing e ∙ sym (free (levels_at old n) nothing e)

-- where nothing is noted nothing is held
pub none_noted : (masks : List Holds) (numbers : List ℕ) → IsNoted masks numbers →
    length numbers ≡ 0 → (n e : ℕ) → levels_at masks n e ≡ Held.Free
none_noted masks [] noted empty n e =
    free_levels (holds_at masks n) (free (is_used (holds_at masks n)) (noted.once n)) e
  where
    free : (b : Bool) → ◌≡◌ {A = ℕ} 0 (cond b 1 0) → b ≡ false
    free true h = absurd (omega (arith, h))
    free false h = refl
none_noted masks (x ∷ xs) noted empty n e = absurd (omega (arith, empty))

-- where something is noted it is held
pub some_noted : (masks : List Holds) (numbers : List ℕ) → IsNoted masks numbers →
    length masks ≡ 421 → 0 < length numbers → HoldsSome masks
some_noted masks numbers noted size some =
    record {
      number = get_or numbers 0 0;
      below = rw (sym size) (noted_inside masks numbers 0 noted some);
      used =
          let there = stands_there numbers 0 some in
          let within = times-take (get_or numbers 0 0) numbers 1 in
          listed_used masks numbers (get_or numbers 0 0) noted (omega (arith, there, within));
    }
