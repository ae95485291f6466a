-- Where the grips on what an instruction needed are the same, that is held as before.
use Rattle.std.proofs.Common.{◌≡◌, ℕ, suc, ◌≤◌, ◌||◌, Bool, true, false, List, [], ◌∷◌, length}
use Rattle.std.proofs.Common.{Option, Some, None, ap, sym, subst, ◌∙◌, arith, inl, inr}
use Rattle.std.proofs.lemmas.Bool.{cases_Bool}
use Rattle.kernel_model.specs.declared.Need.{Need}
use Rattle.kernel_model.specs.declared.Object.{Object}
use Rattle.kernel_model.specs.Objects.{same_object}
use Rattle.kernel_model.specs.SameObject.{same_object_is}
use Rattle.kernel_model.specs.Alike.{is_needed}
use Rattle.kernel_model.specs.Locks.{Touched}
use Rattle.kernel_model.specs.Meaning.{Meaning}
use Rattle.graft_levels.specs.declared.Holds.{Holds}
use Rattle.graft_levels.specs.Masks.{held}
use Rattle.placed_laws.specs.Placed.{placed_needs}
use Rattle.placed_laws.specs.Resting.{KeepsHolds}
use Rattle.running_kernel.specs.declared.running.Running.{Running}
use Rattle.kernel_steps.specs.declared.settled.HoldSnapshot.{HoldSnapshot}
use Rattle.kernel_steps.specs.Grips.{IsHold, IsGrip}
use Rattle.running_kernel.specs.Views.{placed_of, IsRunning}
use Rattle.running_kernel.proofs.ViewLemmas.{holds_in_place}

module _ (t u : ℕ → Touched) (d : ℕ) (o : Object) where
  -- one hold is a hold before and after
  hold_same : (n : Need) (x : Option Holds) → IsHold t (Some n) x → IsHold u (Some n) x →
      same_object o n.object ≡ true → u d o ≡ t d o
  hold_same n None before after same = absurd before
  hold_same n (Some h) before after same =
      subst (λ a. u d a ≡ t d a) (sym (same_object_is o n.object same)) (sym (after d) ∙ before d)

  -- the first of needs, or one of the others
  first_or : (n : Need) (x : Option Holds) (rest : Bool) → IsHold t (Some n) x →
      IsHold u (Some n) x → (same_object o n.object || rest) ≡ true →
      (rest ≡ true → u d o ≡ t d o) → u d o ≡ t d o
  first_or n x rest before after needed others =
      elim (cases_Bool (same_object o n.object)) [
        | inl here ↦ hold_same n x before after here
        | inr away ↦ others (sym (ap (λ b. b || rest) away) ∙ needed)
      ]

  contrary : false ≡ true → u d o ≡ t d o
  contrary h = cc

  same_grip : (ns : List Need) (g : HoldSnapshot) → length ns ≤ 3 → IsGrip t ns g → IsGrip u ns g →
      is_needed o ns ≡ true → u d o ≡ t d o
  same_grip [] g few before after needed = contrary needed
  same_grip (a ∷ []) g few before after needed = first_or a g.first false before.first after.first needed contrary
  same_grip (a ∷ b ∷ []) g few before after needed =
      first_or a g.first (same_object o b.object || false) before.first after.first needed
      (λ later. first_or b g.second false before.second after.second later contrary)
  same_grip (a ∷ b ∷ c ∷ []) g few before after needed =
      first_or a g.first (same_object o b.object || (same_object o c.object || false)) before.first
      after.first needed (λ later.
      first_or b g.second (same_object o c.object || false) before.second after.second later
      (λ last. first_or c g.third false before.third after.third last contrary))
  same_grip (a ∷ b ∷ c ∷ e ∷ ns) g few before after needed = absurd (too_many (length ns) few)
    where
      too_many : (n : ℕ) → suc (suc (suc (suc n))) ≤ 3 → ⊥
      too_many n h = omega (arith, h)

-- a running kernel after a step of which the grips before and after are one
pub keeps_holds : {C B M : Type 0} {P : _} (m : Meaning) (x y : Running C B M P) (p : ℕ)
    (ns : List Need) (before after : HoldSnapshot) →
    IsRunning x → IsRunning y → ns ≡ placed_needs m (placed_of x) p → length ns ≤ 3 →
    IsGrip (held x.locks p) ns before → IsGrip (held y.locks p) ns after → before ≡ after →
    length ((placed_of y).levels p) ≡ length ((placed_of x).levels p) → KeepsHolds m (placed_of x) (placed_of y) p
keeps_holds m x y p ns before after rx ry is few gx gy same many =
    record {
      levels = many;
      holds = λ d o needed.
          ap (λ t. t p d o) (holds_in_place y ry)
          ∙ same_grip (held x.locks p) (held y.locks p) d o ns before few gx
          (subst (IsGrip (held y.locks p) ns) (sym same) gy) (ap (is_needed o) is ∙ needed)
          ∙ sym (ap (λ t. t p d o) (holds_in_place x rx));
    }
