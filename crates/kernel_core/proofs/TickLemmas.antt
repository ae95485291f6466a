-- The time-outs of a tick.
use Rattle.std.proofs.Common.{◌≡◌, ℕ, zero, suc, ◌<◌, Bool, true, false, List, [], ◌∷◌, length}
use Rattle.std.proofs.Common.{Option, Some, None, arith, refl, ap, sym, ◌∙◌}
use Rattle.std.specs.Prelude.{Contains, option_map}
use Rattle.kernel_model.specs.declared.Cause.TheVariants.{TimeOut}
use Rattle.kernel_model.specs.declared.Note.{Note}
use Rattle.kernel_model.specs.declared.Note.TheVariants.{Refused}
use Rattle.kernel_model.specs.declared.Refusal.TheVariants.{TimedOut}
use Rattle.kernel_model.specs.World.{World, Blocks}
use Rattle.kernel_model.specs.Meaning.{Meaning}
use Rattle.kernel_model.specs.Kernel.{Blocker, Waiter}
use Rattle.placed_laws.specs.Agreeing.{SameShown}
use Rattle.placed_laws.specs.Placed.{Placed, PlacedCall, PlacedLevel, PlacedRun}
use Rattle.placed_laws.specs.PlacedSteps.{placed_drop, placed_noted, placed_requeue, with_placed_call}
use Rattle.placed_laws.specs.PlacedEvents.{expired_by, is_over_by, placed_actions}
use Rattle.placed_laws.specs.PlacedEvents.{placed_entry_action, placed_settled, placed_waiter}
use Rattle.placed_laws.specs.PlacedEvents.{placed_waiter_by}
use Rattle.running_kernel.specs.Views.{run_of, HasAbstraction}
use Rattle.kernel_core.proofs.WentLemmas.{called_small, ordered_called}

-- ---- who has waited too long

-- the entry that has is one of the order
pub expired_among : (v : World) (es : List Waiter) (e : Waiter) → expired_by v es ≡ Some e → Contains es e
expired_among v [] e h = grind (arith, h)
expired_among v (d ∷ es) e h = by_test (is_over_by v d d.blocker) refl (expired_among v es e)
  where
    same : (a b : Waiter) → Some a ≡ Some b → a ≡ b
    same a b k = cc

    by_test : (b : Bool) → is_over_by v d d.blocker ≡ b →
        (expired_by v es ≡ Some e → Contains es e) → Contains (d ∷ es) e
    by_test true is further = (
      0,
      omega arith,
      same d e (sym (ap
          (λ t. elim t as (λ _. Option Waiter) [ true ↦ Some d | false ↦ expired_by v es ]) is) ∙ h),
    )
    by_test false is further =
        let c = further (sym (ap (λ t. elim t as (λ _. Option Waiter) [
          | true ↦ Some d
          | false ↦ expired_by v es
        ]) is) ∙ h) in
        (suc c.0, omega (arith, c.1), c.2)

-- its process is one of sixteen
pub expired_small : (m : Meaning) → SameShown m → (x : Placed) (e : Waiter) → HasAbstraction m x →
    expired_by x.world x.order ≡ Some e → e.process < 16
expired_small m shown x e s h =
    called_small m x e.process s (ordered_called m shown x e s (expired_among x.world x.order e h))

-- ---- the actions

pub actions_none : (m : Meaning) (n : ℕ) (x : Placed) → expired_by x.world x.order ≡ None →
    (blocks : Blocks) (notes : List Note) (io : List Bool) →
    placed_actions m n (run_of x blocks notes io) ≡ run_of x blocks notes io
actions_none m zero x h blocks notes io = refl
actions_none m (suc n) x h blocks notes io =
    ap (λ o. elim o as (λ _. PlacedRun) [
      | None ↦ run_of x blocks notes io
      | Some e ↦ placed_actions m n
          (placed_settled m (placed_entry_action m e e.blocker (run_of x blocks notes io)))
    ]) h

pub actions_zero : (m : Meaning) (n : ℕ) (r : PlacedRun) → n ≡ 0 → placed_actions m n r ≡ r
actions_zero m n r h = ap (λ k. placed_actions m k r) h

pub actions_some : (m : Meaning) (n k : ℕ) (x : Placed) (e : Waiter) → n ≡ suc k →
    expired_by x.world x.order ≡ Some e → (blocks : Blocks) (notes : List Note) (io : List Bool) →
    placed_actions m n (run_of x blocks notes io) ≡ placed_actions m k
    (placed_settled m (placed_entry_action m e e.blocker (run_of x blocks notes io)))
actions_some m n k x e is h blocks notes io =
    ap (λ j. placed_actions m j (run_of x blocks notes io)) is
    ∙ ap (λ o. elim o as (λ _. PlacedRun) [
      | None ↦ run_of x blocks notes io
      | Some d ↦ placed_actions m k
          (placed_settled m (placed_entry_action m d d.blocker (run_of x blocks notes io)))
    ]) h

-- ---- a waiter

pub same_number : (a b : ℕ) → Some a ≡ Some b → a ≡ b
same_number a b h = cc

-- it has no call
pub waiter_none : (m : Meaning) (x : Placed) (p : ℕ) (b : Blocker) →
    None ≡ option_map (λ (c : PlacedCall). c.number) (x.call p) →
    (blocks : Blocks) (notes : List Note) (io : List Bool) →
    placed_waiter m p b (x.call p) (run_of x blocks notes io) ≡ run_of x blocks notes io
waiter_none m x p b h blocks notes io = by_call (x.call p) h
  where
    by_call : (o : Option PlacedCall) → None ≡ option_map (λ (c : PlacedCall). c.number) o →
        placed_waiter m p b o (run_of x blocks notes io) ≡ run_of x blocks notes io
    by_call None h = refl
    by_call (Some c) h = grind (arith, h)

-- its call is in no graft
pub waiter_ends : (m : Meaning) (x : Placed) (p n : ℕ) (b : Blocker) →
    Some n ≡ option_map (λ (c : PlacedCall). c.number) (x.call p) → x.levels p ≡ [] →
    (blocks : Blocks) (notes : List Note) (io : List Bool) →
    placed_waiter m p b (x.call p) (run_of x blocks notes io)
    ≡ placed_requeue p (placed_noted (Refused n (TimedOut b.object b.holder))
    (with_placed_call p None (run_of x blocks notes io)))
waiter_ends m x p n b h none blocks notes io = by_call (x.call p) h
  where
    by_call : (o : Option PlacedCall) → Some n ≡ option_map (λ (c : PlacedCall). c.number) o →
        placed_waiter m p b o (run_of x blocks notes io) ≡ placed_requeue p (placed_noted (Refused n
        (TimedOut b.object b.holder)) (with_placed_call p None (run_of x blocks notes io)))
    by_call None h = grind (arith, h)
    by_call (Some c) h =
        ap (λ ls. placed_waiter_by m p b c ls (run_of x blocks notes io)) none
        ∙ ap (λ k. placed_requeue p (placed_noted (Refused k (TimedOut b.object b.holder))
        (with_placed_call p None (run_of x blocks notes io)))) (sym (same_number n c.number h))

-- or it is in one
pub waiter_drops : (m : Meaning) (x : Placed) (p n k : ℕ) (b : Blocker) →
    Some n ≡ option_map (λ (c : PlacedCall). c.number) (x.call p) → length (x.levels p) ≡ suc k →
    (blocks : Blocks) (notes : List Note) (io : List Bool) →
    placed_waiter m p b (x.call p) (run_of x blocks notes io)
    ≡ placed_drop m p k (TimeOut b.object b.holder) (run_of x blocks notes io)
waiter_drops m x p n k b h many blocks notes io = by_call (x.call p) h
  where
    by_levels : (c : PlacedCall) (ls : List PlacedLevel) → length ls ≡ suc k →
        placed_waiter_by m p b c ls (run_of x blocks notes io)
        ≡ placed_drop m p k (TimeOut b.object b.holder) (run_of x blocks notes io)
    by_levels c [] e = absurd (omega (arith, e))
    by_levels c (l ∷ ls) e =
        ap (λ d. placed_drop m p d (TimeOut b.object b.holder) (run_of x blocks notes io))
        (omega (arith, e))

    by_call : (o : Option PlacedCall) → Some n ≡ option_map (λ (c : PlacedCall). c.number) o →
        placed_waiter m p b o (run_of x blocks notes io)
        ≡ placed_drop m p k (TimeOut b.object b.holder) (run_of x blocks notes io)
    by_call None h = grind (arith, h)
    by_call (Some c) h = by_levels c (x.levels p) many

-- ---- a holder

-- a call of this number is there
pub number_call : (o : Option PlacedCall) (n : ℕ) →
    Some n ≡ option_map (λ (c : PlacedCall). c.number) o → (c : PlacedCall) × (o ≡ Some c)
number_call None n h = grind (arith, h)
number_call (Some c) n h = (c, refl)
