-- Steps that are charged one after another.
use Rattle.std.proofs.Common.{◌≡◌, ℕ, zero, suc, ◌-◌, ◌==◌, ◌&&◌, Bool, true, false, cond, Option}
use Rattle.std.proofs.Common.{Some, None, arith, refl, ◌∙◌, ap}
use Rattle.std.proofs.lemmas.Bool.Decides.{nat_tests}
use Rattle.kernel_model.specs.declared.Kind.TheVariants.{Steps}
use Rattle.kernel_model.specs.Objects.{Accounts, GraftValue}
use Rattle.kernel_model.specs.World.{ImageTable}
use Rattle.kernel_model.specs.Charges.{payer_balance, funds, pay, taken_from, charge_account}
use Rattle.kernel_model.specs.Charges.{charge_graft, charge_by, charge}
use Rattle.kernel_model.specs.Levels.{image_of, code_in, code_of, limit_in}
use Rattle.call_laws.specs.Ledgers.{at_here}
use Rattle.kernel_model.specs.Charges.{charged_steps}

-- a graft that has paid one step, or whose installer has
abbrev paid : Option GraftValue → Option GraftValue
paid None = None
paid (Some g) = Some (cond g.billed g (taken_from Steps g))

self : (q pt : ℕ) → (q == q && pt == pt) ≡ true
self q pt = grind (arith, nat_tests)

graft_billed : (q pt : ℕ) (g : GraftValue) (a : Accounts) (b : Bool) → a.graft q pt ≡ Some g
    → (elim b as (λ _. Accounts) [
      | true ↦ charge_account Steps q a
      | false ↦ charge_graft Steps q pt g a
    ]).graft q pt ≡ Some (cond b g (taken_from Steps g))
graft_billed q pt g a true h = h
graft_billed q pt g a false h = ap (λ b. cond b (Some (taken_from Steps g)) (a.graft q pt)) (self q pt)

graft_paid : (q pt : ℕ) (a : Accounts) (x : Option GraftValue) → a.graft q pt ≡ x →
    (charge_by Steps q pt x a).graft q pt ≡ paid x
graft_paid q pt a None h = h
graft_paid q pt a (Some g) h = graft_billed q pt g a g.billed h

same_image : (images : ImageTable) (x : Option GraftValue) → image_of images (paid x) ≡ image_of images x
same_image images None = refl
same_image images (Some g) = by_bill g.billed
  where
    by_bill : (b : Bool) → images (cond b g (taken_from Steps g)).image ≡ images g.image
    by_bill true = refl
    by_bill false = refl

same_limit : (x : Option GraftValue) → limit_in (paid x) ≡ limit_in x
same_limit None = refl
same_limit (Some g) = by_bill g.billed
  where
    by_bill : (b : Bool) → (cond b g (taken_from Steps g)).limit ≡ g.limit
    by_bill true = refl
    by_bill false = refl

funds_billed : (q pt : ℕ) (g : GraftValue) (a : Accounts) (b : Bool) → g.billed ≡ b
    → payer_balance Steps ((elim b as (λ _. Accounts) [
      | true ↦ charge_account Steps q a
      | false ↦ charge_graft Steps q pt g a
    ]).acct q) (Some (cond b g (taken_from Steps g)))
    ≡ payer_balance Steps (a.acct q) (Some g) - 1
funds_billed q pt g a true is = rw (is, at_here q (pay Steps (a.acct q)) a.acct) refl
funds_billed q pt g a false is = rw is refl

funds_paid : (q pt : ℕ) (a : Accounts) (x : Option GraftValue) → payer_balance Steps
    ((charge_by Steps q pt x a).acct q) (paid x) ≡ payer_balance Steps (a.acct q) x - 1
funds_paid q pt a None = refl
funds_paid q pt a (Some g) = funds_billed q pt g a g.billed refl

-- after one charge
code_after : (images : ImageTable) (q pt : ℕ) (a : Accounts) →
    code_of images (charge Steps q pt a) q pt ≡ code_of images a q pt
code_after images q pt a =
    ap (λ x. code_in (image_of images x)) (graft_paid q pt a (a.graft q pt) refl)
    ∙ ap code_in (same_image images (a.graft q pt))

limit_after : (q pt : ℕ) (a : Accounts) → limit_in ((charge Steps q pt a).graft q pt) ≡ limit_in (a.graft q pt)
limit_after q pt a = ap limit_in (graft_paid q pt a (a.graft q pt) refl) ∙ same_limit (a.graft q pt)

funds_after : (q pt : ℕ) (a : Accounts) → funds (charge Steps q pt a) q pt Steps ≡ funds a q pt Steps - 1
funds_after q pt a =
    ap (payer_balance Steps ((charge Steps q pt a).acct q)) (graft_paid q pt a (a.graft q pt) refl)
    ∙ funds_paid q pt a (a.graft q pt)

-- after so many
pub code_same : (n : ℕ) (images : ImageTable) (q pt : ℕ) (a : Accounts) →
    code_of images (charged_steps n q pt a) q pt ≡ code_of images a q pt
code_same zero images q pt a = refl
code_same (suc n) images q pt a = code_after images q pt (charged_steps n q pt a) ∙ code_same n images q pt a

pub limit_same : (n q pt : ℕ) (a : Accounts) → limit_in ((charged_steps n q pt a).graft q pt) ≡ limit_in (a.graft q pt)
limit_same zero q pt a = refl
limit_same (suc n) q pt a = limit_after q pt (charged_steps n q pt a) ∙ limit_same n q pt a

pub funds_less : (n q pt : ℕ) (a : Accounts) → funds (charged_steps n q pt a) q pt Steps ≡ funds a q pt Steps - n
funds_less zero q pt a = minus (funds a q pt Steps)
  where
    minus : (x : ℕ) → x ≡ x - 0
    minus x = omega arith
funds_less (suc n) q pt a =
    funds_after q pt (charged_steps n q pt a)
    ∙ less (funds (charged_steps n q pt a) q pt Steps) (funds a q pt Steps) (funds_less n q pt a)
  where
    less : (x y : ℕ) → x ≡ y - n → x - 1 ≡ y - suc n
    less x y h = omega (arith, h)
