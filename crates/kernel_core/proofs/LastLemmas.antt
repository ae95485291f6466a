-- Where a call stands at the end of an event.
use Rattle.std.proofs.Common.{◌≡◌, ℕ, Bool, true, false, List, [], ◌∷◌, Option, Some, None, arith}
use Rattle.std.proofs.Common.{refl, ap, sym, subst, ◌∙◌}
use Rattle.std.specs.Prelude.{option_map}
use Rattle.kernel_model.specs.declared.Note.{Note}
use Rattle.kernel_model.specs.declared.Note.TheVariants.{Waits}
use Rattle.kernel_model.specs.World.{Blocks}
use Rattle.kernel_model.specs.Meaning.{Meaning}
use Rattle.kernel_model.specs.Kernel.{Blocker}
use Rattle.kernel_model.specs.Events.{in_order}
use Rattle.call_pieces.specs.Disks.{DiskSeen}
use Rattle.placed_laws.specs.Placed.{Placed, PlacedCall, PlacedLevel, PlacedRun, placed_blocker}
use Rattle.placed_laws.specs.PlacedSteps.{placed_noted}
use Rattle.placed_laws.specs.PlacedEvents.{placed_graft_note, placed_last, placed_last_note, placed_waits_note}
use Rattle.kernel_steps.specs.Composing.{did_as, did_nothing, did_purely}
use Rattle.running_kernel.specs.Queries.{note_in_graft}
use Rattle.running_kernel.specs.Orders.{blocker_of}
use Rattle.running_kernel.specs.declared.order.Blocking.{Blocking}
use Rattle.kernel_steps.specs.Moments.{kernel_moment}
use Rattle.kernel_steps.specs.Faults.{fault_notes}
use Rattle.kernel_steps.specs.Refines.{Adds, Refines}
use Rattle.running_kernel.specs.Views.{run_of}
use Rattle.kernel_core.proofs.TickLemmas.{same_number}

-- a note was said
pub did_note : (x : Placed) (note : Note) (kept kept_new : List Note) (d : DiskSeen) →
    Adds (note ∷ []) kept kept_new → fault_notes (note ∷ []) ≡ 0 →
    Refines (placed_noted note) (kernel_moment x kept d) (kernel_moment x kept_new d)
did_note x note kept kept_new d adds none =
    did_purely (placed_noted note) x x kept kept_new (note ∷ []) d
    (λ blocks notes io. refl) adds none

-- what blocks, or nothing
pub waits_said : (x : Placed) (number : ℕ) (o : Option Blocker) (b : Blocking)
    (kept kept_new : List Note) (d : DiskSeen) → option_map blocker_of (Some b) ≡ o →
    Adds (Waits number b.object b.holder ∷ []) kept kept_new →
    Refines (placed_waits_note number o) (kernel_moment x kept d) (kernel_moment x kept_new d)
waits_said x number o b kept kept_new d is adds =
    subst (λ o. Refines (placed_waits_note number o) (kernel_moment x kept d) (kernel_moment x
    kept_new d)) is (did_note x (Waits number b.object b.holder) kept kept_new d adds refl)

pub waits_unsaid :
    (x : Placed) (number : ℕ) (o : Option Blocker) (kept : List Note) (d : DiskSeen) → None ≡ o →
    Refines (placed_waits_note number o) (kernel_moment x kept d) (kernel_moment x kept d)
waits_unsaid x number o kept d is =
    subst (λ o. Refines (placed_waits_note number o) (kernel_moment x kept d)
    (kernel_moment x kept d)) is (did_nothing x kept d)

-- ---- by the call

-- there is none
pub last_none : (m : Meaning) (x : Placed) (p : ℕ) (kept : List Note) (d : DiskSeen) →
    None ≡ option_map (λ (c : PlacedCall). c.number) (x.call p) →
    Refines (placed_last m p) (kernel_moment x kept d) (kernel_moment x kept d)
last_none m x p kept d h = by_call (x.call p) refl h
  where
    by_call : (o : Option PlacedCall) → x.call p ≡ o →
        None ≡ option_map (λ (c : PlacedCall). c.number) o →
        Refines (placed_last m p) (kernel_moment x kept d) (kernel_moment x kept d)
    by_call None is h =
        did_as (placed_last m p) (λ r. r) x x kept kept d d
        (λ blocks notes io. ap (λ c. placed_last_note m p c (run_of x blocks notes io)) is)
        (did_nothing x kept d)
    by_call (Some c) is h = grind (arith, h)

-- there is one of this number, and it waits or not
last_by : (m : Meaning) (x : Placed) (p n : ℕ) →
    Some n ≡ option_map (λ (c : PlacedCall). c.number) (x.call p) → (b : Bool) →
    in_order p x.order ≡ b → (blocks : Blocks) (notes : List Note) (io : List Bool) →
    placed_last m p (run_of x blocks notes io) ≡ elim b as (λ _. PlacedRun) [
      | true ↦ placed_waits_note n (placed_blocker m x p) (run_of x blocks notes io)
      | false ↦ placed_graft_note n (x.levels p) (run_of x blocks notes io)
    ]
last_by m x p n h b stands blocks notes io = by_call (x.call p) refl h
  where
    by_call : (o : Option PlacedCall) → x.call p ≡ o → Some n ≡ option_map (λ (c : PlacedCall). c.number) o →
        placed_last m p (run_of x blocks notes io) ≡ elim b as (λ _. PlacedRun) [
          | true ↦ placed_waits_note n (placed_blocker m x p) (run_of x blocks notes io)
          | false ↦ placed_graft_note n (x.levels p) (run_of x blocks notes io)
        ]
    by_call None is h = grind (arith, h)
    by_call (Some c) is h =
        ap (λ o. placed_last_note m p o (run_of x blocks notes io)) is
        ∙ ap (λ t. elim t as (λ _. PlacedRun) [
          | true ↦ placed_waits_note c.number (placed_blocker m x p) (run_of x blocks notes io)
          | false ↦ placed_graft_note c.number (x.levels p) (run_of x blocks notes io)
        ]) stands
        ∙ ap (λ k. elim b as (λ _. PlacedRun) [
          | true ↦ placed_waits_note k (placed_blocker m x p) (run_of x blocks notes io)
          | false ↦ placed_graft_note k (x.levels p) (run_of x blocks notes io)
        ]) (sym (same_number n c.number h))

pub last_waits : (m : Meaning) (x : Placed) (p n : ℕ) (kept kept_new : List Note) (d : DiskSeen) →
    Some n ≡ option_map (λ (c : PlacedCall). c.number) (x.call p) → in_order p x.order ≡ true →
    Refines (placed_waits_note n (placed_blocker m x p))
    (kernel_moment x kept d) (kernel_moment x kept_new d) →
    Refines (placed_last m p) (kernel_moment x kept d) (kernel_moment x kept_new d)
last_waits m x p n kept kept_new d h stands refines =
    did_as (placed_last m p) (placed_waits_note n (placed_blocker m x p)) x x kept kept_new d d
    (last_by m x p n h true stands) refines

pub last_graft : (m : Meaning) (x : Placed) (p n : ℕ) (kept kept_new : List Note) (d : DiskSeen) →
    Some n ≡ option_map (λ (c : PlacedCall). c.number) (x.call p) → in_order p x.order ≡ false →
    Refines (placed_graft_note n (x.levels p)) (kernel_moment x kept d) (kernel_moment x kept_new
    d) → Refines (placed_last m p) (kernel_moment x kept d) (kernel_moment x kept_new d)
last_graft m x p n kept kept_new d h stands refines =
    did_as (placed_last m p) (placed_graft_note n (x.levels p)) x x kept kept_new d d
    (last_by m x p n h false stands) refines

-- a call in a graft, or in none
pub graft_said : (x : Placed) (n : ℕ) (ls : List PlacedLevel) (note : Note)
    (kept kept_new : List Note) (d : DiskSeen) → Some note ≡ note_in_graft n ls →
    Adds (note ∷ []) kept kept_new →
    Refines (placed_graft_note n ls) (kernel_moment x kept d) (kernel_moment x kept_new d)
graft_said x n [] note kept kept_new d is adds = grind (arith, is)
graft_said x n (l ∷ ls) note kept kept_new d is adds =
    subst (λ k. Refines (placed_noted k) (kernel_moment x kept d) (kernel_moment x kept_new d))
    (same_note note _ is)
    (did_note x note kept kept_new d adds (ap (λ k. fault_notes (k ∷ [])) (same_note note _ is)))
  where
    same_note : (a b : Note) → Some a ≡ Some b → a ≡ b
    same_note a b h = cc

pub graft_unsaid : (x : Placed) (n : ℕ) (ls : List PlacedLevel) (kept : List Note) (d : DiskSeen) →
    None ≡ note_in_graft n ls →
    Refines (placed_graft_note n ls) (kernel_moment x kept d) (kernel_moment x kept d)
graft_unsaid x n [] kept d is = did_nothing x kept d
graft_unsaid x n (l ∷ ls) kept d is = grind (arith, is)
