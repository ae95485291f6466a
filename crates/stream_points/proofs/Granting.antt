-- Calls that are refused at once, and calls that are granted.
use Rattle.std.proofs.Common.{◌≡◌, ℕ, ◌≤◌, Bool, true, false, cond, List, None, refl, sym, ap, arith}
use Rattle.std.specs.Result.{is_ok}
use Rattle.kernel_model.specs.declared.BareCall.{BareCall}
use Rattle.kernel_model.specs.declared.BareCall.TheVariants as bare
use Rattle.kernel_model.specs.declared.SysCall.{SysCall}
use Rattle.kernel_model.specs.declared.SysCall.TheVariants.{StreamRead, StreamWrite}
use Rattle.kernel_model.specs.Bare.{call_with}
use Rattle.kernel_model.specs.World.{World, ImageTable}
use Rattle.kernel_model.specs.Objects.{Objects}
use Rattle.kernel_model.specs.ImageMask.{TellsImages}
use Rattle.kernel_model.specs.Policies.{lives}
use Rattle.kernel_model.specs.Meaning.{stage}
use Rattle.kernel_model.specs.Early.{call_refusal, begins_unless}
use Rattle.kernel_model.specs.StreamPoints.{is_stream_call, stream_refusal, stream_left, stream_points}
use Rattle.call_pieces.specs.StreamLaws.{laws_of_stream_points}
use Rattle.call_pieces.specs.Masks.{table_of_mask, mask_tells}
use Rattle.call_pieces.specs.Works.{IsDue}

-- ---- refusals

-- the first of two where the test holds
first_of : {X : Type 0} (test : Bool) (x y : X) → test ≡ true → x ≡ cond test x y
first_of true x y e = refl
first_of false x y e = cc

-- a call of this table on grafts is refused as the plain table does it up to point 15
pub refused_as_plain : (v : World) (images : ImageTable) (p : ℕ) (c : BareCall) (bytes : List ℕ) →
    is_stream_call (call_with c bytes) ≡ true →
    ((fd i off len : ℕ) → c ≡ bare.StreamRead fd i off len → ⊥) →
    ((fd i off : ℕ) → c ≡ bare.StreamWrite fd i off → ⊥) →
    call_refusal 15 v images p (call_with c bytes) ≡ stream_refusal v images p (call_with c bytes)
refused_as_plain v images p (bare.StreamRead fd i off len) bytes own read write =
    absurd (read fd i off len refl)
refused_as_plain v images p (bare.StreamWrite fd i off) bytes own read write =
    absurd (write fd i off refl)
refused_as_plain v images p c bytes own read write =
    first_of (is_stream_call (call_with c bytes)) _ _ own

-- ---- calls that are granted

-- a call has a piece left before its first
first_left : (c : SysCall) → 1 ≤ stream_left c 0
first_left (StreamRead fd i off len) = omega arith
first_left (StreamWrite fd i off bytes) = omega arith
first_left c = omega arith

-- a call that isn't refused may take its first piece
pub may_come : (v : World) (s : Objects) (bits p : ℕ) (c : SysCall) →
    lives s.things.queue p ≡ true →
    ((table : ImageTable) → TellsImages bits table → None ≡ stream_refusal v table p c) →
    IsDue stream_points v s p (stage c 0)
may_come v s bits p c alive granted =
    let table = table_of_mask bits in
    let none = granted table (mask_tells bits) in
    let begins : stream_points.early v table p c ≡ begins_unless c None =
    ap (λ (x : _). begins_unless c x) (sym none) in
    record {
      images = table;
      alive = alive;
      granted = ap (λ (x : _). is_ok x) begins;
      fits = laws_of_stream_points.stages.first v table s p c (stage c 0) begins;
      left = first_left c;
    }
