-- Sums over pairs of numbers below 16.
use Rattle.std.specs.Prelude.{◌≡◌, ◌≢◌, ℕ, zero, suc, ◌+◌, ◌*◌, ◌<◌, ◌≤◌, ◌==◌, ◌&&◌, Bool}
use Rattle.std.proofs.Common.{arith, refl, subst, sym}
use Rattle.std.proofs.lemmas.Bool.Decides.{nat_tests}
use Rattle.kernel_model.specs.Sound.{sum_below, once_if}
use Rattle.call_laws.specs.Ledgers.{sum_one, sum_zero}
use Rattle.graft_laws.proofs.NoteLemmas.{sum_ones}

-- a sum over pairs
abbrev pub sum_pairs : (ℕ → ℕ → ℕ) → ℕ
sum_pairs f = sum_below 16 (λ q. sum_below 16 (f q))

-- ---- sums of one kind

sum_plus : (n : ℕ) (f g : ℕ → ℕ) → sum_below n (λ i. f i + g i) ≡ sum_below n f + sum_below n g
unfolding sum_below
sum_plus zero f g = omega arith
sum_plus (suc n) f g = let k = sum_plus n f g in omega arith

sum_at_most : (n : ℕ) (f g : ℕ → ℕ) → ((i : ℕ) → i < n → f i ≤ g i) → sum_below n f ≤ sum_below n g
unfolding sum_below
sum_at_most zero f g h = omega arith
sum_at_most (suc n) f g h =
    let k = sum_at_most n f g (λ i low. h i (omega arith)) in
    let e = h n (omega arith) in
    omega arith

-- a sum in which one number is one and the others are none
sum_is_one : (n j : ℕ) (f : ℕ → ℕ) → j < n → f j ≡ 1 → ((i : ℕ) → i < n → i ≢ j → f i ≡ 0) → sum_below n f ≡ 1
sum_is_one n j f low one none =
    sum_is (sum_below n f) (sum_below n (λ i. 0)) (f j) (sum_one n j f (λ i. 0) low none)
    (sum_zero n (λ i. 0) (λ i low. refl)) one
  where
    sum_is : (x y a : ℕ) → x + 0 ≡ y + a → y ≡ 0 → a ≡ 1 → x ≡ 1
    sum_is x y a e f g = omega arith

-- a sum of which at most one number is one and the others are none
sum_few : (n : ℕ) (f : ℕ → ℕ) → ((i : ℕ) → i < n → f i ≤ 1) →
    ((i j : ℕ) → i < n → j < n → 1 ≤ f i → 1 ≤ f j → i ≡ j) → sum_below n f ≤ 1
unfolding sum_below
sum_few zero f small one = omega arith
sum_few (suc n) f small one =
    few_by (f n) refl (sum_few n f (λ i low. small i (further i low))
    (λ i j l k. one i j (further i l) (further j k)))
  where
    further : (i : ℕ) → i < n → i < suc n
    further i low = omega arith

    below_next : n < suc n
    below_next = omega arith

    none_of : (x : ℕ) → (1 ≤ x → ⊥) → x ≡ 0
    none_of zero h = refl
    none_of (suc x) h = absurd (h (some x))
      where
        some : (x : ℕ) → 1 ≤ suc x
        some x = omega arith

    not_below : (i : ℕ) → i < n → i ≡ n → ⊥
    not_below i low e = omega arith

    one_more : (x y : ℕ) → x ≡ 0 → y ≤ 1 → x + y ≤ 1
    one_more x y e h = omega arith

    no_more : (x : ℕ) → x ≤ 1 → x + 0 ≤ 1
    no_more x h = omega arith

    is_some_one : (x y : ℕ) → y ≡ suc x → 1 ≤ y
    is_some_one x y e = omega arith

    few_by : (x : ℕ) → f n ≡ x → sum_below n f ≤ 1 → sum_below n f + f n ≤ 1
    few_by zero e h = subst (λ y. sum_below n f + y ≤ 1) (sym e) (no_more (sum_below n f) h)
    few_by (suc x) e h =
        one_more (sum_below n f) (f n) (sum_zero n f (λ i low. none_of (f i) (λ some. not_below i
        low (one i n (further i low) below_next some (is_some_one x (f n) e)))))
        (small n below_next)

-- a sum that is some has a number that is
sum_has : (n : ℕ) (f : ℕ → ℕ) → 1 ≤ sum_below n f → (i : ℕ) × (i < n) × (1 ≤ f i)
unfolding sum_below
sum_has zero f h = absurd (none_some h)
  where
    none_some : 1 ≤ 0 → ⊥
    none_some h = omega arith
sum_has (suc n) f h = has_by (f n) refl (sum_has n f)
  where
    further : (i : ℕ) → i < n → i < suc n
    further i low = omega arith

    below_next : n < suc n
    below_next = omega arith

    less : (x y : ℕ) → y ≡ 0 → 1 ≤ x + y → 1 ≤ x
    less x y e h = omega arith

    some : (x y : ℕ) → y ≡ suc x → 1 ≤ y
    some x y e = omega arith

    has_by : (x : ℕ) → f n ≡ x → (1 ≤ sum_below n f → (i : ℕ) × (i < n) × (1 ≤ f i)) → (i : ℕ) × (i < suc n) × (1 ≤ f i)
    has_by zero e more = let k = more (less (sum_below n f) (f n) e h) in (k.0, further k.0 k.1, k.2)
    has_by (suc x) e more = (n, below_next, some x (f n) e)

-- ---- sums over pairs

-- numbers that fall here and rise there
pub pairs_fall : (f g d n : ℕ → ℕ → ℕ) →
    ((q pt : ℕ) → q < 16 → pt < 16 → f q pt + d q pt ≤ g q pt + n q pt) →
    sum_pairs f + sum_pairs d ≤ sum_pairs g + sum_pairs n
pairs_fall f g d n h =
    joined (sum_below 16 (λ q. sum_below 16 (f q) + sum_below 16 (d q)))
    (sum_below 16 (λ q. sum_below 16 (g q) + sum_below 16 (n q))) (sum_pairs f) (sum_pairs d)
    (sum_pairs g) (sum_pairs n)
    (sum_plus 16 (λ q. sum_below 16 (f q)) (λ q. sum_below 16 (d q)))
    (sum_plus 16 (λ q. sum_below 16 (g q)) (λ q. sum_below 16 (n q)))
    (sum_at_most 16 (λ q. sum_below 16 (f q) + sum_below 16 (d q))
    (λ q. sum_below 16 (g q) + sum_below 16 (n q)) (λ q low.
    inner (sum_below 16 (λ pt. f q pt + d q pt)) (sum_below 16 (λ pt. g q pt + n q pt))
    (sum_below 16 (f q)) (sum_below 16 (d q)) (sum_below 16 (g q)) (sum_below 16 (n q))
    (sum_plus 16 (f q) (d q)) (sum_plus 16 (g q) (n q)) (sum_at_most 16 (λ pt. f q pt + d q pt)
    (λ pt. g q pt + n q pt) (λ pt low_pt. h q pt low low_pt))))
  where
    joined : (x y a b c e : ℕ) → x ≡ a + b → y ≡ c + e → x ≤ y → a + b ≤ c + e
    joined x y a b c e f g h = omega arith

    inner : (x y a b c e : ℕ) → x ≡ a + b → y ≡ c + e → x ≤ y → a + b ≤ c + e
    inner x y a b c e f g h = omega arith

-- one pair
pub pairs_one : (r pu : ℕ) → r < 16 → pu < 16 → sum_pairs (λ q pt. once_if (q == r && pt == pu)) ≡ 1
pairs_one r pu low low_pu =
    sum_is_one 16 r (λ q. sum_below 16 (λ pt. once_if (q == r && pt == pu))) low
    (sum_is_one 16 pu (λ pt. once_if (r == r && pt == pu)) low_pu (one_here r pu)
    (λ pt low_pt ne. none_here r pt pu ne))
    (λ q low_q ne. sum_zero 16 (λ pt. once_if (q == r && pt == pu)) (λ pt low_pt. none_there q r (pt == pu) ne))
  where
    one_here : (r pu : ℕ) → once_if (r == r && pu == pu) ≡ 1
    one_here r pu = grind (arith, nat_tests)

    none_here : (r pt pu : ℕ) → pt ≢ pu → once_if (r == r && pt == pu) ≡ 0
    none_here r pt pu ne = grind (arith, nat_tests)

    none_there : (q r : ℕ) (b : Bool) → q ≢ r → once_if (q == r && b) ≡ 0
    none_there q r b ne = grind (arith, nat_tests)

pub pairs_none : (f : ℕ → ℕ → ℕ) → ((q pt : ℕ) → f q pt ≡ 0) → sum_pairs f ≡ 0
pairs_none f h = sum_zero 16 (λ q. sum_below 16 (f q)) (λ q low. sum_zero 16 (f q) (λ pt low_pt. h q pt))

-- at most one pair
pub pairs_few : (f : ℕ → ℕ → ℕ) → ((q pt : ℕ) → f q pt ≤ 1) →
    ((q pt r pu : ℕ) → 1 ≤ f q pt → 1 ≤ f r pu → (q ≡ r) × (pt ≡ pu)) → sum_pairs f ≤ 1
pairs_few f small one =
    sum_few 16 (λ q. sum_below 16 (f q)) (λ q low. sum_few 16 (f q) (λ pt low_pt. small q pt)
    (λ i j li lj hi hj. (one q i q j hi hj).1))
    (λ q r low low_r hq hr. let a = sum_has 16 (f q) hq in let b = sum_has 16 (f r) hr in (one q a.0 r b.0 a.2 b.2).0)

-- as many as there are
sum_sixteen : (n : ℕ) (f : ℕ → ℕ) → ((i : ℕ) → f i ≤ 16) → sum_below n f ≤ 16 * n
unfolding sum_below
sum_sixteen zero f h = omega arith
sum_sixteen (suc n) f h = let k = sum_sixteen n f h in let e = h n in omega arith

pub pairs_most : (f : ℕ → ℕ → ℕ) → ((q pt : ℕ) → f q pt ≤ 1) → sum_pairs f ≤ 256
pairs_most f small = sum_sixteen 16 (λ q. sum_below 16 (f q)) (λ q. sum_ones 16 (f q) (small q))
