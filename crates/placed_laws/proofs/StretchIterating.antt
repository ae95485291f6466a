-- A stretch is so many instructions.
use Rattle.std.proofs.Common.{◌≡◌, ℕ, zero, suc, ◌+◌, ◌-◌, ◌<◌, ◌≤◌, ◌==◌, ◌&&◌, ◌||◌, not, Bool}
use Rattle.std.proofs.Common.{true, false, cond, List, ◌∷◌, Option, Some, None, arith, refl, sym}
use Rattle.std.proofs.Common.{◌∙◌, ap, subst}
use Rattle.std.proofs.lemmas.Bool.Decides.{nat_tests}
use mathlib.Core.Path.{fun_ext}
use Rattle.kernel_model.specs.declared.Kind.TheVariants.{Steps}
use Rattle.kernel_model.specs.Objects.{at, with_accounts}
use Rattle.kernel_model.specs.declared.Instr.{Instr}
use Rattle.kernel_model.specs.Machine.{Machine}
use Rattle.kernel_model.specs.Charges.{charged_steps, funds}
use Rattle.kernel_model.specs.Levels.{limit_in}
use Rattle.kernel_model.specs.Laws.{Laws}
use Rattle.kernel_model.specs.Meaning.{Meaning}
use Rattle.kernel_model.specs.Kernel.{Run, Blocker}
use Rattle.kernel_model.specs.Settle.{step}
use Rattle.kernel_model.specs.Events.{in_order}
use Rattle.kernel_model.specs.Sound.{IsAtRest}
use Rattle.call_laws.specs.Ledgers.{at_here}
use Rattle.placed_laws.specs.Placed.{has_some, PlacedCall, PlacedLevel, Placed, PlacedRun, placed_blocker}
use Rattle.placed_laws.specs.PlacedSteps.{placed_joins, placed_step}
use Rattle.placed_laws.specs.PlacedEvents.{placed_settled, placed_steps}
use Rattle.placed_laws.specs.Stands.{RunStandsFor}
use Rattle.placed_laws.specs.Resting.{KeepsHolds, IsStill}
use Rattle.placed_laws.proofs.RestingLemmas.{resting}
use Rattle.placed_laws.proofs.StandLemmas.{steps_stand}
use Rattle.placed_laws.specs.Stretch.{Setting, setting, quiet, quiet_on, stretched_level}
use Rattle.placed_laws.specs.Stretch.{stretched, IsStretched, Stretched}
use Rattle.placed_laws.proofs.StretchCharging.{code_same, limit_same, funds_less}
use Rattle.placed_laws.proofs.StretchInstructions.{OneMore, one_more}
use Rattle.placed_laws.proofs.StretchQuiet.{last}

-- ---- functions changed at a place

at_twice : {A : Type 0} (i : ℕ) (v u : A) (f : ℕ → A) → at i v (at i u f) ≡ at i v f
at_twice {A} i v u f = fun_ext (λ j. by_test (j == i) (f j))
  where
    by_test : (b : Bool) (y : A) → cond b v (cond b u y) ≡ cond b v y
    by_test true y = refl
    by_test false y = refl

at_itself : {A : Type 0} (i : ℕ) (v : A) (f : ℕ → A) → f i ≡ v → at i v f ≡ f
at_itself {A} i v f h = fun_ext (λ j. by_test j (j == i) refl)
  where
    by_test : (j : ℕ) (b : Bool) → (j == i) ≡ b → cond (j == i) v (f j) ≡ f j
    by_test j true e = ap (λ b. cond b v (f j)) e ∙ sym h ∙ ap f (sym (same j e))
      where
        same : (j : ℕ) → (j == i) ≡ true → j ≡ i
        same j e = grind (arith, nat_tests, e)
    by_test j false e = ap (λ b. cond b v (f j)) e

-- ---- one more instruction

more_left : (count limit payer n : ℕ) → count + suc n ≤ limit → suc n ≤ payer →
    (count + n == limit || payer - n == 0) ≡ false
more_left count limit payer n a b = grind (arith, nat_tests, a, b)

module _ (m : Meaning) (laws : Laws m) (x : PlacedRun) (y : Placed) (r : Run) (c : PlacedCall)
    (p : ℕ) (l : PlacedLevel) (ls : List PlacedLevel)
    (stands : RunStandsFor m x r) (here : x.placed.levels p ≡ l ∷ ls)
    (call : x.placed.call p ≡ Some c) (away : in_order p x.placed.order ≡ false)
    (more : OneMore m x p y) where
  still : IsStill m x.placed (placed_step m p x).placed p
  still =
      record {
        level = ap has_some here;
        away = away;
        keeps = subst (λ (z : PlacedRun). KeepsHolds m x.placed z.placed p) (sym more.goes) more.keeps;
      }

  next_stands : RunStandsFor m (record x { placed = y }) (step m p r)
  next_stands =
      subst (λ (z : PlacedRun). RunStandsFor m z (step m p r)) more.goes
      (steps_stand m laws x r p c stands call more.free)

  next_rests : IsAtRest m r.kernel → IsAtRest m (step m p r).kernel
  next_rests rests = (resting m laws).still x r p c stands rests call more.free still

  next_steps : IsAtRest m r.kernel → (left taken : ℕ) → placed_steps m p (suc left) taken x
      ≡ placed_steps m p left (suc taken) (record x { placed = y })
  next_steps rests left taken =
      ap (λ b. elim b as (λ _. ℕ × PlacedRun) [ false ↦ (taken, x) | true ↦ on (placed_blocker m x.placed p) ]) both
      ∙ ap on more.free
      ∙ ap (λ z. placed_steps m p left (suc taken) (placed_settled m z)) more.goes
      ∙ ap (placed_steps m p left (suc taken)) ((resting m laws).rested (record x { placed = y })
      (step m p r) next_stands (next_rests rests))
    where
      on : Option Blocker → ℕ × PlacedRun
      on None = placed_steps m p left (suc taken) (placed_settled m (placed_step m p x))
      on (Some b) = (taken, placed_settled m (placed_joins p x))

      both : (has_some (x.placed.levels p) && not (in_order p x.placed.order)) ≡ true
      both = ap (λ bs. has_some bs && not (in_order p x.placed.order)) here ∙ ap not away

-- ---- all of them

module _ (m : Meaning) (laws : Laws m) (x : PlacedRun) (r : Run) (c : PlacedCall) (p : ℕ)
    (l : PlacedLevel) (ls : List PlacedLevel)
    (stands : RunStandsFor m x r) (small : p < 16) (here : x.placed.levels p ≡ l ∷ ls)
    (call : x.placed.call p ≡ Some c) (away : in_order p x.placed.order ≡ false) where
  abbrev around : Setting
  around = setting x.placed.world x.placed.images x.placed.objects l.owner l.point l.touched

  abbrev far : ℕ → Machine → PlacedRun
  far n k = record x { placed = stretched p n k l ls x.placed }

  none_yet : (k : Machine) → k ≡ l.machine → stretched p 0 k l ls x.placed ≡ x.placed
  none_yet k same =
      ap (λ (q : Machine). stretched p 0 q l ls x.placed) same
      ∙ ap (λ f. record (x.placed) { levels = f }) (ap (λ n. at p (record l { count = n } ∷ ls)
      x.placed.levels) zero_more ∙ at_itself p (l ∷ ls) x.placed.levels here)
    where
      zero_more : l.count + 0 ≡ l.count
      zero_more = omega arith

  all : (n : ℕ) (k : Machine) → quiet_on around n l.machine ≡ Some k →
      l.count + n ≤ limit_in (x.placed.objects.accounts.graft l.owner l.point)
      → n ≤ funds x.placed.objects.accounts l.owner l.point Steps → Stretched m x (stretched p n k l ls x.placed) r p n
  all zero k went limit paid =
      subst (λ (z : Placed). Stretched m x z r p 0) (sym (none_yet k (sym (some_is l.machine k went))))
      (record {
        steps = λ rests left taken. ap (λ j. placed_steps m p j taken x) (none left)
            ∙ ap (λ n. placed_steps m p left n x) (plus taken);
        run = r;
        stands = stands;
        rests = λ rests. rests;
      })
    where
      some_is : (a b : Machine) → Some a ≡ Some b → a ≡ b
      some_is a b e = cc

      plus : (n : ℕ) → n ≡ n + 0
      plus n = omega arith

      none : (left : ℕ) → 0 + left ≡ left
      none left = omega arith
  all (suc n) k went limit paid =
      let b = last around n l.machine k went in
      let before = all n b.k b.before (omega (arith, limit)) (omega (arith, paid)) in
      let z = far n b.k in
      let g = stretched_level n b.k l in
      let a = x.placed.objects.accounts in
      let levels : z.placed.levels p ≡ g ∷ ls = at_here p (g ∷ ls) x.placed.levels in
      let quietly = ap (λ (f : List Instr). quiet (record around { code = f }) b.k)
      (code_same n x.placed.images l.owner l.point a) ∙ b.step in
      let unspent = unspent_after n limit paid in
      let is : record (z.placed) {
        objects = with_accounts (charged_steps (suc n) l.owner l.point a) x.placed.objects;
        levels = at p (record g { machine = k; count = g.count + 1 } ∷ ls) z.placed.levels;
      } ≡ stretched p (suc n) k l ls x.placed = far_is n b.k k in
      let one = one_more m laws z before.run c p g ls k before.stands small levels call away unspent quietly in
      let more = subst (OneMore m z p) is one in
      record {
        steps = λ rests left taken.
            ap (λ j. placed_steps m p j taken x) (shift n left)
            ∙ before.steps rests (suc left) taken
            ∙ next_steps m laws z (stretched p (suc n) k l ls x.placed) before.run c p g ls
            before.stands levels call away more (before.rests rests) left (taken + n)
            ∙ ap (λ j. placed_steps m p left j (far (suc n) k)) (shift_taken taken n);
        run = step m p before.run;
        stands =
            next_stands m laws z (stretched p (suc n) k l ls x.placed) before.run c p g ls
            before.stands levels call away more;
        rests =
            λ rests. next_rests m laws z (stretched p (suc n) k l ls x.placed) before.run c p g ls
            before.stands levels call away more (before.rests rests);
      }
    where
      shift : (n left : ℕ) → suc n + left ≡ n + suc left
      shift n left = omega arith

      shift_taken : (taken n : ℕ) → suc (taken + n) ≡ taken + suc n
      shift_taken taken n = omega arith

      unspent_after : (n : ℕ) →
          l.count + suc n ≤ limit_in (x.placed.objects.accounts.graft l.owner l.point) →
          suc n ≤ funds x.placed.objects.accounts l.owner l.point Steps
          → (l.count + n == limit_in ((charged_steps n l.owner l.point
          x.placed.objects.accounts).graft l.owner l.point) || funds (charged_steps n l.owner
          l.point x.placed.objects.accounts) l.owner l.point Steps == 0) ≡ false
      unspent_after n limit paid =
          ap (λ j. l.count + n == j || funds (charged_steps n l.owner
          l.point x.placed.objects.accounts) l.owner l.point Steps == 0)
          (limit_same n l.owner l.point x.placed.objects.accounts)
          ∙ ap (λ j. l.count + n == limit_in (x.placed.objects.accounts.graft l.owner l.point)
          || j == 0) (funds_less n l.owner l.point x.placed.objects.accounts)
          ∙ more_left l.count (limit_in (x.placed.objects.accounts.graft l.owner l.point))
          (funds x.placed.objects.accounts l.owner l.point Steps) n limit paid

      far_is : (n : ℕ) (a k : Machine) → record ((far n a).placed) {
        objects = with_accounts (charged_steps (suc n) l.owner l.point x.placed.objects.accounts) x.placed.objects;
        levels = at p (record l { machine = k; count = l.count + n + 1 } ∷ ls) (far n a).placed.levels;
      } ≡ stretched p (suc n) k l ls x.placed
      far_is n a k =
          ap (λ f. record (x.placed) {
            objects = with_accounts
                (charged_steps (suc n) l.owner l.point x.placed.objects.accounts) x.placed.objects;
            levels = f;
          })
          (at_twice p (record l { machine = k; count = l.count + n + 1 } ∷ ls)
          (stretched_level n a l ∷ ls) x.placed.levels
          ∙ ap (λ j. at p (record l { machine = k; count = j } ∷ ls) x.placed.levels) (plus_one l.count n))
        where
          plus_one : (a n : ℕ) → a + n + 1 ≡ a + suc n
          plus_one a n = omega arith

pub stretches : (m : Meaning) (laws : Laws m) (x : PlacedRun) (y : Placed) (r : Run)
    (c : PlacedCall) (p n : ℕ) → RunStandsFor m x r → x.placed.call p ≡ Some c
    → in_order p x.placed.order ≡ false → IsStretched x.placed y p n → Stretched m x y r p n
stretches m laws x y r c p n stands call away h =
    subst (λ (z : Placed). Stretched m x z r p n) (sym h.is) (all m laws x r c p h.level h.outer
    stands h.process h.levels call away n h.machine h.went h.limit h.paid)
