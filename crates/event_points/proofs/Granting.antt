-- Calls that are refused at once, and calls that are granted.
use Rattle.std.proofs.Common.{◌≡◌, ℕ, ◌≤◌, Bool, true, false, cond, List, Option, None, Some, refl, sym, ap, arith}
use Rattle.std.specs.Option.{is_some}
use Rattle.std.specs.Result.{is_ok}
use Rattle.kernel_model.specs.declared.BareCall.{BareCall}
use Rattle.kernel_model.specs.declared.BareCall.TheVariants as bare
use Rattle.kernel_model.specs.declared.SysCall.{SysCall}
use Rattle.kernel_model.specs.declared.SysCall.TheVariants.{Serve}
use Rattle.kernel_model.specs.Bare.{call_with}
use Rattle.kernel_model.specs.World.{World, ImageTable}
use Rattle.kernel_model.specs.Objects.{Objects}
use Rattle.kernel_model.specs.ImageMask.{TellsImages}
use Rattle.kernel_model.specs.Policies.{lives}
use Rattle.kernel_model.specs.Meaning.{stage}
use Rattle.kernel_model.specs.Early.{call_refusal, begins_unless}
use Rattle.kernel_model.specs.EventPoints.{is_event_call, event_refusal, event_left, event_points}
use Rattle.call_pieces.specs.EventLaws.{laws_of_event_points}
use Rattle.call_pieces.specs.Masks.{table_of_mask, mask_tells}
use Rattle.call_pieces.specs.Works.{IsDue}

-- ---- refusals

-- the first of two where the test holds
first_of : {X : Type 0} (test : Bool) (x y : X) → test ≡ true → x ≡ cond test x y
first_of true x y e = refl
first_of false x y e = cc

-- a call of this table on grafts is refused as the plain table does it up to point 13
pub refused_as_plain : (v : World) (images : ImageTable) (p : ℕ) (c : BareCall) (bytes : List ℕ) →
    is_event_call (call_with c bytes) ≡ true → ((port : ℕ) → c ≡ bare.Serve port → ⊥) →
    call_refusal 13 v images p (call_with c bytes) ≡ event_refusal v images p (call_with c bytes)
refused_as_plain v images p (bare.Serve port) bytes own other = absurd (other port refl)
refused_as_plain v images p c bytes own other =
    first_of (is_event_call (call_with c bytes)) _ _ own

-- ---- calls that are granted

-- a call has a piece left before its first
first_left : (c : SysCall) → 1 ≤ event_left c (stage c 0)
first_left (Serve port bytes) = omega arith
first_left c = omega arith

-- a call that isn't refused may take its first piece
pub may_come : (v : World) (s : Objects) (bits p : ℕ) (c : SysCall) →
    lives s.things.queue p ≡ true →
    ((table : ImageTable) → TellsImages bits table → None ≡ event_refusal v table p c) →
    IsDue event_points v s p (stage c 0)
may_come v s bits p c alive granted =
    let table = table_of_mask bits in
    let none = granted table (mask_tells bits) in
    let begins : event_points.early v table p c ≡ begins_unless c None =
    ap (λ (x : _). begins_unless c x) (sym none) in
    record {
      images = table;
      alive = alive;
      granted = ap (λ (x : _). is_ok x) begins;
      fits = laws_of_event_points.stages.first v table s p c (stage c 0) begins;
      left = first_left c;
    }

-- ---- grafts

-- no graft stands
pub nothing_there : {X : Type 0} (g : Option X) → false ≡ is_some g → g ≡ None
nothing_there None e = refl
nothing_there (Some g) e = cc
