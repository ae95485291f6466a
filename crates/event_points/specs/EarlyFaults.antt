-- No call of event points is refused at once because the disk failed.
use Rattle.std.specs.Prelude.{◌≡◌, ℕ, ◌||◌, Bool, true, false, cond, nat_le, nat_lt, length, Option, Some, None}
use Rattle.std.proofs.Common.{refl}
use Rattle.kernel_model.specs.declared.Refusal.{Refusal}
use Rattle.kernel_model.specs.declared.Refusal.TheVariants.{BadIndex, BadPoint}
use Rattle.kernel_model.specs.declared.SysCall.{SysCall}
use Rattle.kernel_model.specs.declared.SysCall.TheVariants.{Serve}
use Rattle.kernel_model.specs.World.{World, ImageTable}
use Rattle.kernel_model.specs.Early.{begins_unless, call_refusal}
use Rattle.kernel_model.specs.EventPoints.{PORTS, LAST_EVENT_POINT, event_refusal, is_event_call}
use Rattle.call_pieces.specs.EarlyFaults.{begins_not_for_disk, is_early_fault, is_for_disk}
use Rattle.call_pieces.specs.EarlyFaults.{refusal_not_for_disk, refused_not_for_disk}

-- a call of this table, or of another
owned_not_for_disk : (own : Bool) (o : Option Refusal) → is_for_disk o ≡ false →
    is_for_disk (cond own o (Some BadPoint)) ≡ false
owned_not_for_disk true o h = h
owned_not_for_disk false o h = refl

-- the refusals at once
event_not_for_disk : (v : World) (images : ImageTable) (p : ℕ) (c : SysCall) →
    is_for_disk (event_refusal v images p c) ≡ false
event_not_for_disk v images p (Serve port bytes) =
    refused_not_for_disk (nat_le PORTS port || nat_lt 512 (length bytes)) BadIndex None refl refl
event_not_for_disk v images p c =
    owned_not_for_disk (is_event_call c) (call_refusal LAST_EVENT_POINT v images p c)
    (refusal_not_for_disk LAST_EVENT_POINT v images p c)

-- the table refuses no call at once because the disk failed
pub events_have_no_early_fault : (v : World) (images : ImageTable) (p : ℕ) (c : SysCall) →
    is_early_fault (begins_unless c (event_refusal v images p c)) ≡ false
events_have_no_early_fault v images p c =
    begins_not_for_disk c (event_refusal v images p c) (event_not_for_disk v images p c)
