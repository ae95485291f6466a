-- What each move of amounts is seen as.
use Rattle.std.proofs.Common.{◌≡◌, ◌≢◌, ℕ, ◌+◌, ◌-◌, ◌*◌, ◌<◌, ◌≤◌, ◌==◌, nat_lt, Bool, true}
use Rattle.std.proofs.Common.{false, cond, List, length, slice_index, slice_index_or, Option, Some}
use Rattle.std.proofs.Common.{None, is_some, refl, sym, ◌∙◌, ap, arith}
use Rattle.std.proofs.Math.Path.{fun_ext}
use Rattle.std.proofs.lemmas.Bool.Decides.{nat_tests}
use Rattle.std.proofs.lemmas.List.{get_or-set_same, get_or-set_other, length-set}
use Rattle.kernel_model.specs.declared.Kind.{Kind}
use Rattle.kernel_model.specs.declared.Kind.TheVariants.{Steps, Records, Locks}
use Rattle.kernel_model.specs.Objects.{Accounts, GraftValue, AcctValue, at, at2, at_kind}
use Rattle.kernel_model.specs.Charges.{spend, pay, taken_from, charge_account, charge_graft}
use Rattle.kernel_model.specs.Charges.{charge_by, charge, returned, removed_by, removed}
use Rattle.kernel_model.specs.Pieces.{less, more, funded, accounts_after, accounts_funded}
use Rattle.kernel_model.specs.Pieces.{with_graft, new_graft, empty_account, joint_account}
use Rattle.kernel_model.specs.Pieces.{account_closed}
use Rattle.graft_accounts.specs.declared.rows.Standing.{Standing}
use Rattle.graft_accounts.specs.Sums.{Sums, less_at, more_at, given, funded_at, paid, paid_at, given_back, closed}
use Rattle.graft_accounts.specs.Table.{Table, IsTable, sums_of, with_sums, standing_at, put_at}
use Rattle.graft_accounts.specs.Table.{taken_out, closed_all, account_at, graft_at, accounts_of}
use Rattle.graft_accounts.specs.Table.{total, after_give, after_fund, after_bill}
use Rattle.graft_accounts.proofs.Places.{set_here, set_other, each_place, at_by}
use Rattle.graft_accounts.proofs.Seen.{field_of, with_fields, same_fields, sums_with, grafts_with}
use Rattle.graft_accounts.proofs.Seen.{with_twice, account_same, account_balance, account_spent}
use Rattle.graft_accounts.proofs.Seen.{account_both, graft_by, graft_alike, accounts_by}
use Rattle.graft_accounts.proofs.Seen.{graft_point, grafts_same, grafts_but}
use Rattle.graft_accounts.proofs.Totals.{kept_of, totals_stay}

-- ---- grafts that stay

standing_with : (k : Kind) (s : Sums) (t : Table) (i : ℕ) → standing_at (with_sums k s t) i ≡ standing_at t i
standing_with k s t i = ap (λ gs. slice_index_or gs i None) (grafts_with k s t)

graft_untouched : (k : Kind) (s : Sums) (t : Table) (i : ℕ) →
    slice_index s.funds i ≡ slice_index (sums_of t k).funds i →
    graft_at (with_sums k s t) i (standing_at (with_sums k s t) i) ≡ graft_at t i (standing_at t i)
graft_untouched k s t i e =
    ap (graft_at (with_sums k s t) i) (standing_with k s t i)
    ∙ graft_alike (with_sums k s t) t i (standing_at t i) (same_fields (λ a. slice_index a.funds i) k s t e)

grafts_untouched : (k : Kind) (s : Sums) (t : Table) → s.funds ≡ (sums_of t k).funds →
    (accounts_of (with_sums k s t)).graft ≡ (accounts_of t).graft
grafts_untouched k s t e =
    grafts_same (with_sums k s t) t (λ i. graft_untouched k s t i (ap (λ fs. slice_index fs i) e))

-- a graft that stands, with another amount of the kind
graft_touched : (k : Kind) (s : Sums) (t : Table) (i n : ℕ) (g : Standing) →
    standing_at t i ≡ Some g → slice_index s.funds i ≡ n →
    graft_at (with_sums k s t) i (standing_at (with_sums k s t) i)
    ≡ graft_by g (at_kind k n (field_of (λ a. slice_index a.funds i) t))
graft_touched k s t i n g e h =
    ap (graft_at (with_sums k s t) i) (standing_with k s t i ∙ e)
    ∙ ap (graft_by g) (with_fields (λ a. slice_index a.funds i) k s t
    ∙ ap (λ m. at_kind k m (field_of (λ a. slice_index a.funds i) t)) h)

-- ---- from one process to another

less_account : (t : Table) (k : Kind) (p n : ℕ) → p < length (sums_of t k).balances →
    account_at (with_sums k (record (sums_of t k) { balances = less_at p n (sums_of t k).balances })
    t) ≡ at p (less k n (account_at t p)) (account_at t)
less_account t k p n h =
    let a = sums_of t k in
    let s : Sums = record a { balances = less_at p n a.balances } in
    at_by (account_at (with_sums k s t)) (account_at t) p (less k n (account_at t p))
    (account_balance k s t p (slice_index a.balances p - n)
    (set_here a.balances p (slice_index a.balances p - n) h) refl)
    (λ j apart. account_same k s t j (set_other a.balances p j (slice_index a.balances p - n) apart) refl)

more_account : (t : Table) (k : Kind) (a : Sums) (q n : ℕ) → sums_of t k ≡ a → q < length a.balances →
    account_at (with_sums k (record a { balances = more_at q n a.balances }) t)
    ≡ at q (more k n (account_at t q)) (account_at t)
more_account t k a q n e h =
    let s : Sums = record a { balances = more_at q n a.balances } in
    at_by (account_at (with_sums k s t)) (account_at t) q (more k n (account_at t q))
    (account_balance k s t q (slice_index (sums_of t k).balances q + n)
    (set_here a.balances q (slice_index a.balances q + n) h ∙ ap (λ (b : Sums). slice_index b.balances q + n) (sym e))
    (ap (λ (b : Sums). slice_index b.spent q) (sym e)))
    (λ j apart. account_same k s t j
    (set_other a.balances q j (slice_index a.balances q + n) apart
    ∙ ap (λ (b : Sums). slice_index b.balances j) (sym e))
    (ap (λ (b : Sums). slice_index b.spent j) (sym e)))

length_less : (i n : ℕ) (xs : List ℕ) → length (less_at i n xs) ≡ length xs
length_less i n xs = length-set xs i (slice_index xs i - n)

give_accounts : (t : Table) (k : Kind) (p q n : ℕ) → p < length (sums_of t k).balances →
    q < length (sums_of t k).balances →
    account_at (with_sums k (given p q n (sums_of t k)) t) ≡ accounts_after (account_at t) p q k n
give_accounts t k p q n h i =
    let a = sums_of t k in
    let s : Sums = record a { balances = less_at p n a.balances } in
    let r = length_less p n a.balances in
    let long : q < length s.balances = omega arith in
    ap account_at (sym (with_twice k s (given p q n a) t))
    ∙ more_account (with_sums k s t) k s q n (sums_with k s t) long
    ∙ ap (λ u. at q (more k n (u q)) u) (less_account t k p n h)

enough_given : (p q : ℕ) (k : Kind) (n : ℕ) (a : Accounts) → n ≤ (a.acct p).balance k →
    after_give p q k n a ≡ record a { acct = accounts_after a.acct p q k n }
enough_given p q k n a h =
    let no : nat_lt ((a.acct p).balance k) n ≡ false = grind (arith, nat_tests) in
    rw (no, after_give) refl

pub give_seen : (t u : Table) (k : Kind) (p q n : ℕ) → IsTable t → p < 16 → q < 16 →
    n ≤ slice_index (sums_of t k).balances p →
    u ≡ with_sums k (given p q n (sums_of t k)) t → accounts_of u ≡ after_give p q k n (accounts_of t)
give_seen t u k p q n table h i enough e =
    let long = (kept_of t k table).sums.balances in
    ap accounts_of e
    ∙ accounts_by (with_sums k (given p q n (sums_of t k)) t) (accounts_of t).graft
    (accounts_after (account_at t) p q k n)
    (grafts_untouched k (given p q n (sums_of t k)) t refl)
    (give_accounts t k p q n (omega arith) (omega arith))
    ∙ sym (enough_given p q k n (accounts_of t) enough)

-- ---- from a process to a graft

-- the graft that is seen at a place
abbrev pub graft_seen : Table → ℕ → Standing → GraftValue
graft_seen t i g =
    record {
      image = g.image;
      limit = g.limit;
      billed = g.billed;
      balance = field_of (λ a. slice_index a.funds i) t;
    }

fund_grafts : (t : Table) (k : Kind) (p pt n : ℕ) (g : Standing) → IsTable t → p < 16 → pt < 16 →
    standing_at t (16 * p + pt) ≡ Some g →
    (accounts_of (with_sums k (funded_at p (16 * p + pt) n (sums_of t k)) t)).graft
    ≡ at2 p pt (Some (funded k n (graft_seen t (16 * p + pt) g))) (accounts_of t).graft
fund_grafts t k p pt n g table h low e =
    let a = sums_of t k in
    let i = 16 * p + pt in
    let long = (kept_of t k table).sums.funds in
    let s = funded_at p i n a in
    let inside : i < length a.funds = omega arith in
    grafts_but (with_sums k s t) t p pt (Some (funded k n (graft_seen t i g))) low
    (graft_touched k s t i (slice_index a.funds i + n) g e (set_here a.funds i (slice_index a.funds i + n) inside))
    (λ j apart. graft_untouched k s t j (set_other a.funds i j (slice_index a.funds i + n) apart))

fund_accounts : (t : Table) (k : Kind) (p i n : ℕ) → p < length (sums_of t k).balances →
    account_at (with_sums k (funded_at p i n (sums_of t k)) t) ≡ at p (less k n (account_at t p)) (account_at t)
fund_accounts t k p i n h =
    let a = sums_of t k in
    let s = funded_at p i n a in
    at_by (account_at (with_sums k s t)) (account_at t) p (less k n (account_at t p))
    (account_balance k s t p (slice_index a.balances p - n)
    (set_here a.balances p (slice_index a.balances p - n) h) refl)
    (λ j apart. account_same k s t j (set_other a.balances p j (slice_index a.balances p - n) apart) refl)

-- the graft at a point where this one stands
pub graft_standing : (t : Table) (p pt : ℕ) (g : Standing) → pt < 16 → standing_at t (16 * p + pt) ≡ Some g →
    (accounts_of t).graft p pt ≡ Some (graft_seen t (16 * p + pt) g)
graft_standing t p pt g low e = graft_point t p pt low ∙ ap (graft_at t (16 * p + pt)) e

enough_funded : (p pt : ℕ) (k : Kind) (n : ℕ) (g : GraftValue) (a : Accounts) → n ≤ (a.acct p).balance k →
    after_fund p pt k n (Some g) a ≡ accounts_funded p pt k n g a
enough_funded p pt k n g a h =
    let no : nat_lt ((a.acct p).balance k) n ≡ false = grind (arith, nat_tests) in
    rw (no, after_fund) refl

pub fund_seen : (t u : Table) (k : Kind) (p pt n : ℕ) (g : Standing) → IsTable t → p < 16 →
    pt < 16 → standing_at t (16 * p + pt) ≡ Some g →
    n ≤ slice_index (sums_of t k).balances p → u ≡ with_sums k (funded_at p (16 * p + pt) n (sums_of t k)) t →
    accounts_of u ≡ after_fund p pt k n ((accounts_of t).graft p pt) (accounts_of t)
fund_seen t u k p pt n g table h low stands enough e =
    let long = (kept_of t k table).sums.balances in
    let i = 16 * p + pt in
    ap accounts_of e
    ∙ accounts_by (with_sums k (funded_at p i n (sums_of t k)) t)
    (at2 p pt (Some (funded k n (graft_seen t i g))) (accounts_of t).graft)
    (at p (less k n (account_at t p)) (account_at t))
    (fund_grafts t k p pt n g table h low stands)
    (fund_accounts t k p i n (omega arith))
    ∙ sym (enough_funded p pt k n (graft_seen t i g) (accounts_of t) enough)
    ∙ ap (λ o. after_fund p pt k n o (accounts_of t)) (sym (graft_standing t p pt g low stands))

-- ---- charges

-- as many places as there are processes, and points
pub record IsLong (s : Sums) : Type 0 where
  pub balances : length s.balances ≡ 16
  pub spent : length s.spent ≡ 16
  pub funds : length s.funds ≡ 256

pub long_of : (t : Table) (k : Kind) → IsTable t → IsLong (sums_of t k)
long_of t k table =
    let sums = (kept_of t k table).sums in record { balances = sums.balances; spent = sums.spent; funds = sums.funds }

pay_accounts : (t : Table) (k : Kind) (p : ℕ) → p < length (sums_of t k).balances → p < length (sums_of t k).spent →
    account_at (with_sums k (paid p 1 (sums_of t k)) t) ≡ at p (pay k (account_at t p)) (account_at t)
pay_accounts t k p h i =
    let a = sums_of t k in
    let s = paid p 1 a in
    at_by (account_at (with_sums k s t)) (account_at t) p (pay k (account_at t p))
    (account_both k s t p (slice_index a.balances p - 1) (slice_index a.spent p + 1)
    (set_here a.balances p (slice_index a.balances p - 1) h) (set_here a.spent p (slice_index a.spent p + 1) i))
    (λ j apart. account_same k s t j (set_other a.balances p j (slice_index a.balances p - 1) apart)
    (set_other a.spent p j (slice_index a.spent p + 1) apart))

spend_accounts : (t : Table) (k : Kind) (p i : ℕ) → p < length (sums_of t k).spent →
    account_at (with_sums k (paid_at p i 1 (sums_of t k)) t) ≡ at p (spend k (account_at t p)) (account_at t)
spend_accounts t k p i h =
    let a = sums_of t k in
    let s = paid_at p i 1 a in
    at_by (account_at (with_sums k s t)) (account_at t) p (spend k (account_at t p))
    (account_spent k s t p (slice_index a.spent p + 1) refl (set_here a.spent p (slice_index a.spent p + 1) h))
    (λ j apart. account_same k s t j refl (set_other a.spent p j (slice_index a.spent p + 1) apart))

spend_grafts : (t : Table) (k : Kind) (p pt : ℕ) (g : Standing) → IsLong (sums_of t k) → p < 16 →
    pt < 16 → standing_at t (16 * p + pt) ≡ Some g →
    (accounts_of (with_sums k (paid_at p (16 * p + pt) 1 (sums_of t k)) t)).graft
    ≡ at2 p pt (Some (taken_from k (graft_seen t (16 * p + pt) g))) (accounts_of t).graft
spend_grafts t k p pt g long_sums h low e =
    let a = sums_of t k in
    let i = 16 * p + pt in
    let long = long_sums.funds in
    let s = paid_at p i 1 a in
    let inside : i < length a.funds = omega arith in
    grafts_but (with_sums k s t) t p pt (Some (taken_from k (graft_seen t i g))) low
    (graft_touched k s t i (slice_index a.funds i - 1) g e (set_here a.funds i (slice_index a.funds i - 1) inside))
    (λ j apart. graft_untouched k s t j (set_other a.funds i j (slice_index a.funds i - 1) apart))

unbilled : (b : Bool) (x y : Accounts) → b ≡ false → (elim b as (λ _. Accounts) [ true ↦ x | false ↦ y ]) ≡ y
unbilled true x y e = cc
unbilled false x y e = refl

billed_pays : (k : Kind) (q pt : ℕ) (g : GraftValue) (w : Accounts) → g.billed ≡ true →
    charge_by k q pt (Some g) w ≡ charge_account k q w
billed_pays k q pt g w e = rw (e, charge_by) refl

graft_pays : (k : Kind) (q pt : ℕ) (g : GraftValue) (w : Accounts) → g.billed ≡ false →
    charge_by k q pt (Some g) w ≡ charge_graft k q pt g w
graft_pays k q pt g w e = unbilled g.billed (charge_account k q w) (charge_graft k q pt g w) e

-- what the account paid
pub account_charged : (t : Table) (k : Kind) (p pt : ℕ) (g : Standing) → IsLong (sums_of t k) →
    p < 16 → pt < 16 → standing_at t (16 * p + pt) ≡ Some g →
    g.billed ≡ true → accounts_of (with_sums k (paid p 1 (sums_of t k)) t) ≡ charge k p pt (accounts_of t)
account_charged t k p pt g long_sums h low stands billed =
    let b = long_sums.balances in
    let s = long_sums.spent in
    accounts_by (with_sums k (paid p 1 (sums_of t k)) t) (accounts_of t).graft
    (at p (pay k (account_at t p)) (account_at t))
    (grafts_untouched k (paid p 1 (sums_of t k)) t refl)
    (pay_accounts t k p (omega arith) (omega arith))
    ∙ sym (billed_pays k p pt (graft_seen t (16 * p + pt) g) (accounts_of t) billed)
    ∙ ap (λ o. charge_by k p pt o (accounts_of t)) (sym (graft_standing t p pt g low stands))

-- what the graft paid
pub graft_charged : (t : Table) (k : Kind) (p pt : ℕ) (g : Standing) → IsLong (sums_of t k) →
    p < 16 → pt < 16 → standing_at t (16 * p + pt) ≡ Some g →
    g.billed ≡ false → accounts_of (with_sums k (paid_at p (16 * p + pt) 1 (sums_of t k)) t)
    ≡ charge k p pt (accounts_of t)
graft_charged t k p pt g long_sums h low stands billed =
    let s = long_sums.spent in
    let i = 16 * p + pt in
    accounts_by (with_sums k (paid_at p i 1 (sums_of t k)) t)
    (at2 p pt (Some (taken_from k (graft_seen t i g))) (accounts_of t).graft)
    (at p (spend k (account_at t p)) (account_at t))
    (spend_grafts t k p pt g long_sums h low stands)
    (spend_accounts t k p i (omega arith))
    ∙ sym (graft_pays k p pt (graft_seen t i g) (accounts_of t) billed)
    ∙ ap (λ o. charge_by k p pt o (accounts_of t)) (sym (graft_standing t p pt g low stands))

pub account_charge_seen : (t u : Table) (k : Kind) (p pt : ℕ) (g : Standing) (b : Bool) → IsTable t → p < 16 → pt < 16 →
    standing_at t (16 * p + pt) ≡ Some g → g.billed ≡ true → u ≡ cond b (with_sums k (paid p 1 (sums_of t k)) t) t →
    accounts_of u ≡ cond b (charge k p pt (accounts_of t)) (accounts_of t)
account_charge_seen t u k p pt g true table h low stands billed e =
    ap accounts_of e ∙ account_charged t k p pt g (long_of t k table) h low stands billed
account_charge_seen t u k p pt g false table h low stands billed e = ap accounts_of e

pub graft_charge_seen : (t u : Table) (k : Kind) (p pt : ℕ) (g : Standing) (b : Bool) → IsTable t → p < 16 → pt < 16 →
    standing_at t (16 * p + pt) ≡ Some g → g.billed ≡ false →
    u ≡ cond b (with_sums k (paid_at p (16 * p + pt) 1 (sums_of t k)) t) t →
    accounts_of u ≡ cond b (charge k p pt (accounts_of t)) (accounts_of t)
graft_charge_seen t u k p pt g true table h low stands billed e =
    ap accounts_of e ∙ graft_charged t k p pt g (long_of t k table) h low stands billed
graft_charge_seen t u k p pt g false table h low stands billed e = ap accounts_of e

-- ---- grafts put in place and taken out

same_sums : (i : ℕ) (g : Standing) (t : Table) (j : Kind) → sums_of (put_at i g t) j ≡ sums_of t j
same_sums i g t Steps = refl
same_sums i g t Records = refl
same_sums i g t Locks = refl

-- amounts of another table that are the same
same_accounts : (t u : Table) (r : ℕ) → ((j : Kind) → sums_of u j ≡ sums_of t j) → account_at u r ≡ account_at t r
same_accounts t u r e =
    let amounts : (λ (j : Kind). sums_of u j) ≡ (λ (j : Kind). sums_of t j) = fun_ext e in
    let value : (Kind → Sums) → AcctValue = λ f. record {
      balance = λ k. slice_index (f k).balances r;
      spent = λ k. slice_index (f k).spent r;
    } in
    ap value amounts

placed : (t : Table) (p pt : ℕ) (g : Standing) (x : GraftValue) → IsTable t → p < 16 → pt < 16 →
    graft_by g (field_of (λ a. slice_index a.funds (16 * p + pt)) t) ≡ Some x →
    accounts_of (put_at (16 * p + pt) g t) ≡ with_graft p pt x (accounts_of t)
placed t p pt g x table h low same =
    let i = 16 * p + pt in
    let u = put_at i g t in
    let long = table.grafts in
    let inside : i < length t.grafts = omega arith in
    let amounts : (j : ℕ) → field_of (λ a. slice_index a.funds j) u ≡ field_of (λ a. slice_index a.funds j) t =
    λ j. fun_ext (λ k. ap (λ (a : Sums). slice_index a.funds j) (same_sums i g t k)) in
    accounts_by u (at2 p pt (Some x) (accounts_of t).graft) (account_at t)
    (grafts_but u t p pt (Some x) low
    (ap (graft_at u i) (get_or-set_same t.grafts i (Some g) None inside) ∙ ap (graft_by g) (amounts i) ∙ same)
    (λ j apart. ap (graft_at u j) (get_or-set_other t.grafts i j (Some g) None apart)
    ∙ graft_alike u t j (standing_at t j) (amounts j)))
    (fun_ext (λ r. same_accounts t u r (same_sums i g t)))

-- nothing stands at a point exactly where nothing stands at its place
none_standing : (t : Table) (i : ℕ) (g : Option Standing) → graft_at t i g ≡ None → g ≡ None
none_standing t i None e = refl
none_standing t i (Some g) e = cc

no_funds : (t : Table) (i : ℕ) → IsTable t → standing_at t i ≡ None →
    field_of (λ a. slice_index a.funds i) t ≡ (λ (k : Kind). 0)
no_funds t i table e = fun_ext (λ k. (kept_of t k table).none i e)

pub install_seen : (t u : Table) (p pt image limit : ℕ) (g : Standing) → IsTable t → p < 16 →
    pt < 16 → (accounts_of t).graft p pt ≡ None →
    g ≡ record { image = image; limit = limit; billed = false } → u ≡ put_at (16 * p + pt) g t →
    accounts_of u ≡ with_graft p pt (new_graft image limit) (accounts_of t)
install_seen t u p pt image limit g table h low free is e =
    let i = 16 * p + pt in
    let none : standing_at t i ≡ None = none_standing t i (standing_at t i) (sym (graft_point t p pt low) ∙ free) in
    ap accounts_of e
    ∙ placed t p pt g (new_graft image limit) table h low
    (ap (λ s. graft_by s (field_of (λ a. slice_index a.funds i) t)) is ∙ ap (graft_by
    (record { image = image; limit = limit; billed = false })) (no_funds t i table none))

pub bill_seen : (t u : Table) (p pt : ℕ) (g : Standing) → IsTable t → p < 16 → pt < 16 →
    standing_at t (16 * p + pt) ≡ Some g →
    u ≡ put_at (16 * p + pt) (record g { billed = true }) t →
    accounts_of u ≡ after_bill p pt ((accounts_of t).graft p pt) (accounts_of t)
bill_seen t u p pt g table h low stands e =
    let i = 16 * p + pt in
    ap accounts_of e
    ∙ placed t p pt (record g { billed = true }) (record (graft_seen t i g) { billed = true }) table h low refl
    ∙ ap (λ o. after_bill p pt o (accounts_of t)) (sym (graft_standing t p pt g low stands))

-- ---- a graft taken out

the_inside : (t : Table) (k : Kind) (p : ℕ) → IsTable t → p < 16 → p < length (sums_of t k).balances
the_inside t k p table h = let long = (kept_of t k table).sums.balances in omega arith

the_inside_spent : (t : Table) (k : Kind) (p : ℕ) → IsTable t → p < 16 → p < length (sums_of t k).spent
the_inside_spent t k p table h = let long = (kept_of t k table).sums.spent in omega arith

back_of : (t : Table) (p i : ℕ) (k : Kind) → sums_of (taken_out p i t) k ≡ given_back p i (sums_of t k)
back_of t p i Steps = refl
back_of t p i Records = refl
back_of t p i Locks = refl

-- a number of each kind, once a graft was taken out
back_field : (f : Sums → ℕ) (h : Kind → ℕ) (t : Table) (p i : ℕ) →
    ((k : Kind) → f (given_back p i (sums_of t k)) ≡ h k) →
    field_of f (taken_out p i t) ≡ h
back_field f h t p i e = fun_ext (λ k. ap f (back_of t p i k) ∙ e k)

abbrev account_with : (balance spent : Kind → ℕ) → AcctValue
account_with b s = record { balance = b; spent = s }

accounts_alike : (b c s r : Kind → ℕ) → b ≡ c → s ≡ r → account_with b s ≡ account_with c r
accounts_alike b c s r e h = ap (λ x. account_with x s) e ∙ ap (account_with c) h

back_accounts : (t : Table) (p i : ℕ) (g : Standing) → IsTable t → p < 16 →
    account_at (taken_out p i t) ≡ at p (returned (graft_seen t i g) (account_at t p)) (account_at t)
back_accounts t p i g table h =
    let a = λ (k : Kind). sums_of t k in
    let n = λ (k : Kind). slice_index (sums_of t k).funds i in
    let inside = λ (k : Kind). the_inside t k p table h in
    at_by (account_at (taken_out p i t)) (account_at t) p (returned (graft_seen t i g) (account_at t p))
    (accounts_alike _ _ _ _
    (back_field (λ s. slice_index s.balances p) (λ k. (account_at t p).balance k + n k) t p i
    (λ k. set_here (a k).balances p (slice_index (a k).balances p + n k) (inside k)))
    (back_field (λ s. slice_index s.spent p) (account_at t p).spent t p i (λ k. refl)))
    (λ j apart. accounts_alike _ _ _ _
    (back_field (λ s. slice_index s.balances j) (account_at t j).balance t p i
    (λ k. set_other (a k).balances p j (slice_index (a k).balances p + n k) apart))
    (back_field (λ s. slice_index s.spent j) (account_at t j).spent t p i (λ k. refl)))

back_grafts : (t : Table) (p pt : ℕ) → IsTable t → p < 16 → pt < 16 →
    (accounts_of (taken_out p (16 * p + pt) t)).graft ≡ at2 p pt None (accounts_of t).graft
back_grafts t p pt table h low =
    let i = 16 * p + pt in
    let u = taken_out p i t in
    let long = table.grafts in
    let inside : i < length t.grafts = omega arith in
    grafts_but u t p pt None low
    (ap (graft_at u i) (get_or-set_same t.grafts i None None inside))
    (λ j apart. ap (graft_at u j) (get_or-set_other t.grafts i j None None apart)
    ∙ graft_alike u t j (standing_at t j)
    (back_field (λ s. slice_index s.funds j) (field_of (λ s. slice_index s.funds j) t) t p i
    (λ k. set_other (sums_of t k).funds i j
    (slice_index (sums_of t k).funds i - slice_index (sums_of t k).funds i) apart)))

pub remove_seen : (t u : Table) (p pt : ℕ) (g : Standing) → IsTable t → p < 16 → pt < 16 →
    standing_at t (16 * p + pt) ≡ Some g →
    u ≡ taken_out p (16 * p + pt) t → accounts_of u ≡ removed p pt (accounts_of t)
remove_seen t u p pt g table h low stands e =
    let i = 16 * p + pt in
    ap accounts_of e
    ∙ accounts_by (taken_out p i t) (at2 p pt None (accounts_of t).graft)
    (at p (returned (graft_seen t i g) (account_at t p)) (account_at t))
    (back_grafts t p pt table h low) (back_accounts t p i g table h)
    ∙ ap (λ o. removed_by p pt o (accounts_of t)) (sym (graft_standing t p pt g low stands))

pub remove_totals : (t u : Table) (p i : ℕ) → u ≡ taken_out p i t → IsTable t → IsTable u →
    (j : Kind) → total (accounts_of u) j ≡ total (accounts_of t) j
remove_totals t u p i e h k j =
    totals_stay t u h k (λ j. ap (λ v. (sums_of v j).grant) e ∙ ap (λ a. a.grant) (back_of t p i j)) j

-- ---- an account closed

closed_of : (t : Table) (p : ℕ) (k : Kind) → sums_of (closed_all p t) k ≡ closed p (sums_of t k)
closed_of t p Steps = refl
closed_of t p Records = refl
closed_of t p Locks = refl

closed_field : (f : Sums → ℕ) (h : Kind → ℕ) (t : Table) (p : ℕ) →
    ((k : Kind) → f (closed p (sums_of t k)) ≡ h k) → field_of f (closed_all p t) ≡ h
closed_field f h t p e = fun_ext (λ k. ap f (closed_of t p k) ∙ e k)

moved_from : (p : ℕ) (xs : List ℕ) → 0 < p → p < length xs →
    slice_index (more_at 0 (slice_index xs p) (less_at p (slice_index xs p) xs)) p ≡ 0
moved_from p xs some h =
    let n = slice_index xs p in
    let ys = less_at p n xs in
    let apart : p ≢ 0 = λ e. absurd (omega arith) in
    set_other ys 0 p (slice_index ys 0 + n) apart ∙ set_here xs p (n - n) h ∙ (let z : n - n ≡ 0 = omega arith in z)

moved_first : (p : ℕ) (xs : List ℕ) → 0 < p → p < length xs →
    slice_index (more_at 0 (slice_index xs p) (less_at p (slice_index xs p) xs)) 0 ≡ slice_index xs p + slice_index xs 0
moved_first p xs some h =
    let n = slice_index xs p in
    let ys = less_at p n xs in
    let apart : 0 ≢ p = λ e. absurd (omega arith) in
    let same = length_less p n xs in
    let inside : 0 < length ys = omega arith in
    let left = set_other xs p 0 (n - n) apart in
    let sum = set_here ys 0 (slice_index ys 0 + n) inside in
    omega arith

moved_else : (p : ℕ) (xs : List ℕ) (j : ℕ) → j ≢ p → j ≢ 0 →
    slice_index (more_at 0 (slice_index xs p) (less_at p (slice_index xs p) xs)) j ≡ slice_index xs j
moved_else p xs j apart some =
    let n = slice_index xs p in
    let ys = less_at p n xs in
    set_other ys 0 j (slice_index ys 0 + n) some ∙ set_other xs p j (n - n) apart

at_else : {A : Type 0} (i j : ℕ) (v : A) (f : ℕ → A) → j ≢ i → at i v f j ≡ f j
at_else i j v f h = let no : (j == i) ≡ false = grind (arith, nat_tests) in rw no refl

close_accounts : (t : Table) (p : ℕ) → IsTable t → p < 16 → 0 < p →
    account_at (closed_all p t) ≡ at p empty_account
    (at 0 (joint_account (account_at t p) (account_at t 0)) (account_at t))
close_accounts t p table h some =
    let joint = joint_account (account_at t p) (account_at t 0) in
    let u = closed_all p t in
    let b = λ (k : Kind). (sums_of t k).balances in
    let s = λ (k : Kind). (sums_of t k).spent in
    let P : ℕ → Type 0 = λ j. j ≢ p → account_at u j ≡ at 0 joint (account_at t) j in
    at_by (account_at u) (at 0 joint (account_at t)) p empty_account
    (accounts_alike _ _ _ _
    (closed_field (λ a. slice_index a.balances p) (λ k. 0) t p
    (λ k. moved_from p (b k) some (the_inside t k p table h)))
    (closed_field (λ a. slice_index a.spent p) (λ k. 0) t p
    (λ k. moved_from p (s k) some (the_inside_spent t k p table h))))
    (each_place P 0
    (λ _. accounts_alike _ _ _ _
    (closed_field (λ a. slice_index a.balances 0) joint.balance t p
    (λ k. moved_first p (b k) some (the_inside t k p table h)))
    (closed_field (λ a. slice_index a.spent 0) joint.spent t p
    (λ k. moved_first p (s k) some (the_inside_spent t k p table h))))
    (λ j apart other. accounts_alike _ _ _ _
    (closed_field (λ a. slice_index a.balances j) (account_at t j).balance t p (λ k. moved_else p (b k) j other apart))
    (closed_field (λ a. slice_index a.spent j) (account_at t j).spent t p (λ k. moved_else p (s k) j other apart))
    ∙ sym (at_else 0 j joint (account_at t) apart)))

close_grafts : (t : Table) (p : ℕ) → (accounts_of (closed_all p t)).graft ≡ (accounts_of t).graft
close_grafts t p =
    grafts_same (closed_all p t) t (λ i. graft_alike (closed_all p t) t i (standing_at t i)
    (closed_field (λ a. slice_index a.funds i) (field_of (λ a. slice_index a.funds i) t) t p (λ k. refl)))

pub close_seen : (t u : Table) (p : ℕ) → IsTable t → p < 16 → 0 < p → u ≡ closed_all p t →
    accounts_of u ≡ account_closed p (accounts_of t)
close_seen t u p table h some e =
    ap accounts_of e
    ∙ accounts_by (closed_all p t) (accounts_of t).graft
    (at p empty_account (at 0 (joint_account (account_at t p) (account_at t 0)) (account_at t)))
    (close_grafts t p) (close_accounts t p table h some)

pub close_totals : (t u : Table) (p : ℕ) → u ≡ closed_all p t → IsTable t → IsTable u → (j : Kind) →
    total (accounts_of u) j ≡ total (accounts_of t) j
close_totals t u p e h k j =
    totals_stay t u h k (λ j. ap (λ v. (sums_of v j).grant) e ∙ ap (λ a. a.grant) (closed_of t p j)) j

pub put_totals : (t u : Table) (i : ℕ) (g : Standing) → u ≡ put_at i g t → IsTable t → IsTable u →
    (j : Kind) → total (accounts_of u) j ≡ total (accounts_of t) j
put_totals t u i g e h k j =
    totals_stay t u h k (λ j. ap (λ v. (sums_of v j).grant) e ∙ ap (λ a. a.grant) (same_sums i g t j)) j

-- ---- where it is only known that a graft stands

-- the graft that stands
record Stands (o : Option Standing) : Type 0 where
  standing : Standing
  is : o ≡ Some standing

stands_by : (o : Option Standing) → is_some o ≡ true → Stands o
stands_by None e = absurd cc
stands_by (Some g) e = record { standing = g; is = refl }

seen_stands : (t : Table) (i : ℕ) (o : Option Standing) → is_some (graft_at t i o) ≡ is_some o
seen_stands t i None = refl
seen_stands t i (Some g) = refl

pub fund_stands : (t u : Table) (k : Kind) (p pt n : ℕ) → IsTable t → p < 16 → pt < 16 →
    is_some ((accounts_of t).graft p pt) ≡ true →
    n ≤ slice_index (sums_of t k).balances p → u ≡ with_sums k (funded_at p (16 * p + pt) n (sums_of t k)) t →
    accounts_of u ≡ after_fund p pt k n ((accounts_of t).graft p pt) (accounts_of t)
fund_stands t u k p pt n table h low stands enough e =
    let i = 16 * p + pt in
    let found = stands_by (standing_at t i)
    (sym (ap is_some (graft_point t p pt low) ∙ seen_stands t i (standing_at t i)) ∙ stands) in
    fund_seen t u k p pt n found.standing table h low found.is enough e

pub remove_stands : (t u : Table) (p pt : ℕ) → IsTable t → p < 16 → pt < 16 →
    is_some (standing_at t (16 * p + pt)) ≡ true →
    u ≡ taken_out p (16 * p + pt) t → accounts_of u ≡ removed p pt (accounts_of t)
remove_stands t u p pt table h low stands e =
    let found = stands_by (standing_at t (16 * p + pt)) stands in
    remove_seen t u p pt found.standing table h low found.is e
