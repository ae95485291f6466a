-- Levels stay sound and inside, whatever is charged, undone, or taken out.
use Rattle.std.proofs.Common.{◌≡◌, ℕ, ◌+◌, ◌*◌, ◌≤◌, ◌==◌, ◌&&◌, Bool, true, false, cond, List, []}
use Rattle.std.proofs.Common.{◌∷◌, Option, Some, None, length, arith, refl, sym, ◌∙◌, ap, subst}
use Rattle.std.proofs.lemmas.Bool.Decides.{nat_tests}
use Rattle.kernel_model.specs.declared.Kind.{Kind}
use Rattle.kernel_model.specs.declared.QueueRow.{QueueRow}
use Rattle.kernel_model.specs.Objects.{Accounts, GraftValue}
use Rattle.kernel_model.specs.World.{ImageTable}
use Rattle.kernel_model.specs.Policies.{lives}
use Rattle.std.specs.Option.{is_some}
use Rattle.kernel_model.specs.Sound.{ImagesAreLoaded}
use Rattle.kernel_model.specs.Boxed.{IsInside}
use Rattle.kernel_model.specs.Charges.{charge, charge_by, charge_account, charge_graft, taken_from, removed, removed_by}
use Rattle.kernel_model.specs.Levels.{image_of, code_in, code_of, limit_in}
use Rattle.graft_machine.specs.Cpu.{machine_of}
use Rattle.graft_levels.specs.declared.GraftLevel.{GraftLevel}
use Rattle.graft_levels.specs.Chains.{is_running_in}
use Rattle.graft_levels.specs.Calls.{AreSound, RunsInside, AreInside}

-- ---- soundness goes by who lives

pub still_sound : (queue rows : List QueueRow) (gs : List GraftLevel) →
    ((q : ℕ) → lives rows q ≡ lives queue q) → AreSound queue gs → AreSound rows gs
still_sound queue rows [] living h = tt
still_sound queue rows (g ∷ gs) living h =
    (record { lives = living g.owner ∙ h.0.lives }, h.1, still_sound queue rows gs living h.2)

-- ---- the image and the limit of a graft stay

-- two grafts, or none, have the same image and limit
record IsSameGraft (images : ImageTable) (x y : Option GraftValue) : Type 0 where
  image : image_of images x ≡ image_of images y
  limit : limit_in x ≡ limit_in y

itself : (images : ImageTable) (x : Option GraftValue) → IsSameGraft images x x
itself images x = record { image = refl; limit = refl }

paid_at : (images : ImageTable) (k : Kind) (g : GraftValue) (x : Option GraftValue) (b : Bool) →
    (b ≡ true → x ≡ Some g) → IsSameGraft images (cond b (Some (taken_from k g)) x) x
paid_at images k g x true is =
    subst (λ y. IsSameGraft images (Some (taken_from k g)) y) (sym (is refl))
    (record { image = refl; limit = refl })
paid_at images k g x false is = itself images x

here : (a : Accounts) (g : GraftValue) (q pt r pu : ℕ) → a.graft q pt ≡ Some g →
    (r == q && pu == pt) ≡ true → a.graft r pu ≡ Some g
here a g q pt r pu is same =
    let row : r ≡ q = grind (arith, nat_tests, same) in
    let place : pu ≡ pt = grind (arith, nat_tests, same) in
    ap (λ n. a.graft n pu) row ∙ ap (λ n. a.graft q n) place ∙ is

charged_by : (images : ImageTable) (k : Kind) (g : GraftValue) (q pt r pu : ℕ) (a : Accounts)
    (billed : Bool) → a.graft q pt ≡ Some g →
    IsSameGraft images ((elim billed as (λ _. Accounts) [
      | true ↦ charge_account k q a
      | false ↦ charge_graft k q pt g a
    ]).graft r pu) (a.graft r pu)
charged_by images k g q pt r pu a true is = itself images (a.graft r pu)
charged_by images k g q pt r pu a false is =
    paid_at images k g (a.graft r pu) (r == q && pu == pt) (here a g q pt r pu is)

charged_graft :
    (images : ImageTable) (k : Kind) (q pt r pu : ℕ) (a : Accounts) (x : Option GraftValue) →
    a.graft q pt ≡ x → IsSameGraft images ((charge_by k q pt x a).graft r pu) (a.graft r pu)
charged_graft images k q pt r pu a None is = itself images (a.graft r pu)
charged_graft images k q pt r pu a (Some g) is = charged_by images k g q pt r pu a g.billed is

-- a charge leaves the code of each graft
pub charged_code : (images : ImageTable) (k : Kind) (q pt r pu : ℕ) (a : Accounts) →
    code_of images (charge k q pt a) r pu ≡ code_of images a r pu
charged_code images k q pt r pu a = ap code_in ((charged_graft images k q pt r pu a (a.graft q pt) refl).image)

pub charged_limit : (images : ImageTable) (k : Kind) (q pt r pu : ℕ) (a : Accounts) →
    limit_in ((charge k q pt a).graft r pu) ≡ limit_in (a.graft r pu)
charged_limit images k q pt r pu a = (charged_graft images k q pt r pu a (a.graft q pt) refl).limit

level_same : (images : ImageTable) (a b : Accounts) (p d : ℕ) (g : GraftLevel) →
    IsSameGraft images (b.graft g.owner g.point) (a.graft g.owner g.point) →
    RunsInside images a p d g → RunsInside images b p d g
level_same images a b p d g same h =
    record {
      count = subst (λ n. g.count ≤ n) (sym same.limit) h.count;
      inside =
          λ ram. subst (λ code. IsInside code (4 * p + d) (machine_of g.machine ram))
          (sym (ap code_in same.image)) (h.inside ram);
    }

-- levels still run once something was charged
pub inside_charged : (images : ImageTable) (k : Kind) (q pt p : ℕ) (a : Accounts)
    (gs : List GraftLevel) → AreInside images a p gs → AreInside images (charge k q pt a) p gs
inside_charged images k q pt p a [] h = tt
inside_charged images k q pt p a (g ∷ gs) h = (
  level_same images a (charge k q pt a) p (length gs) g (charged_graft images k q pt g.owner
      g.point a (a.graft q pt) refl) h.0,
  inside_charged images k q pt p a gs h.1,
)

other_graft : (q pt r pu : ℕ) (a : Accounts) (x : Option GraftValue) →
    (r == q && pu == pt) ≡ false → (removed_by q pt x a).graft r pu ≡ a.graft r pu
other_graft q pt r pu a None apart = refl
other_graft q pt r pu a (Some g) apart = ap (λ b. cond b None (a.graft r pu)) apart

-- levels still run once another graft was taken out
pub inside_removed : (images : ImageTable) (q pt p : ℕ) (a : Accounts) (gs : List GraftLevel) →
    is_running_in gs q pt ≡ false → AreInside images a p gs → AreInside images (removed q pt a) p gs
inside_removed images q pt p a [] apart h = tt
inside_removed images q pt p a (g ∷ gs) apart h =
    let first : (g.owner == q && g.point == pt) ≡ false = grind (arith, apart) in
    let rest : is_running_in gs q pt ≡ false = grind (arith, apart) in
    let graft = other_graft q pt g.owner g.point a (a.graft q pt) first in (
      level_same images a (removed q pt a) p (length gs) g
          (record { image = ap (image_of images) graft; limit = ap limit_in graft }) h.0,
      inside_removed images q pt p a gs rest h.1,
    )

-- the same where something was charged, or not
pub inside_if : (b : Bool) (images : ImageTable) (k : Kind) (q pt p : ℕ) (a c : Accounts) (gs : List
    GraftLevel) → c ≡ cond b (charge k q pt a) a → AreInside images a p gs → AreInside images c p gs
inside_if true images k q pt p a c gs is h =
    subst (λ x. AreInside images x p gs) (sym is) (inside_charged images k q pt p a gs h)
inside_if false images k q pt p a c gs is h = subst (λ x. AreInside images x p gs) (sym is) h

-- ---- images stay loaded

loaded_on : (images : ImageTable) (x y : Option GraftValue) (g : GraftValue) →
    IsSameGraft images x y → is_some x ≡ is_some y →
    ((h : GraftValue) → y ≡ Some h → is_some (images h.image) ≡ true) → x ≡ Some g →
    is_some (images g.image) ≡ true
loaded_on images x None g same stands all is = absurd (grind (arith, stands, is))
loaded_on images x (Some h) g same stands all is = ap is_some (sym (ap (image_of images) is) ∙ same.image) ∙ all h refl

paid_stands : (k : Kind) (g : GraftValue) (x : Option GraftValue) (b : Bool) →
    (b ≡ true → x ≡ Some g) → is_some (cond b (Some (taken_from k g)) x) ≡ is_some x
paid_stands k g x true is = ap is_some (sym (is refl))
paid_stands k g x false is = refl

by_stands : (k : Kind) (g : GraftValue) (q pt r pu : ℕ) (a : Accounts) (billed : Bool) → a.graft q pt ≡ Some g →
    is_some ((elim billed as (λ _. Accounts) [
      | true ↦ charge_account k q a
      | false ↦ charge_graft k q pt g a
    ]).graft r pu) ≡ is_some (a.graft r pu)
by_stands k g q pt r pu a true is = refl
by_stands k g q pt r pu a false is = paid_stands k g (a.graft r pu) (r == q && pu == pt) (here a g q pt r pu is)

charged_stands : (k : Kind) (q pt r pu : ℕ) (a : Accounts) (x : Option GraftValue) →
    a.graft q pt ≡ x → is_some ((charge_by k q pt x a).graft r pu) ≡ is_some (a.graft r pu)
charged_stands k q pt r pu a None is = refl
charged_stands k q pt r pu a (Some g) is = by_stands k g q pt r pu a g.billed is

pub loaded_charged : (images : ImageTable) (k : Kind) (q pt : ℕ) (a : Accounts) →
    ImagesAreLoaded images a → ImagesAreLoaded images (charge k q pt a)
loaded_charged images k q pt a h = λ r pu g is.
    loaded_on images ((charge k q pt a).graft r pu) (a.graft r pu) g (charged_graft images k q pt r
    pu a (a.graft q pt) refl) (charged_stands k q pt r pu a (a.graft q pt) refl) (h r pu) is

pub loaded_if : (b : Bool) (images : ImageTable) (k : Kind) (q pt : ℕ) (a c : Accounts) →
    c ≡ cond b (charge k q pt a) a → ImagesAreLoaded images a → ImagesAreLoaded images c
loaded_if true images k q pt a c is h = subst (ImagesAreLoaded images) (sym is) (loaded_charged images k q pt a h)
loaded_if false images k q pt a c is h = subst (ImagesAreLoaded images) (sym is) h

removed_left : (q pt r pu : ℕ) (a : Accounts) (x : Option GraftValue) (g : GraftValue) →
    (removed_by q pt x a).graft r pu ≡ Some g → a.graft r pu ≡ Some g
removed_left q pt r pu a None g is = is
removed_left q pt r pu a (Some h) g is = by_place (r == q && pu == pt) is
  where
    by_place : (b : Bool) → cond b None (a.graft r pu) ≡ Some g → a.graft r pu ≡ Some g
    by_place true e = absurd (cc)
    by_place false e = e

pub loaded_removed : (images : ImageTable) (q pt : ℕ) (a : Accounts) → ImagesAreLoaded images a →
    ImagesAreLoaded images (removed q pt a)
loaded_removed images q pt a h = λ r pu g is. h r pu g (removed_left q pt r pu a (a.graft q pt) g is)

-- the image of a graft that stands
pub stands_loaded : (images : ImageTable) (a : Accounts) (q pt : ℕ) (x : Option GraftValue) →
    a.graft q pt ≡ x → is_some x ≡ true → ImagesAreLoaded images a →
    is_some (image_of images x) ≡ true
stands_loaded images a q pt None is some h = absurd (cc)
stands_loaded images a q pt (Some g) is some h = h q pt g is
