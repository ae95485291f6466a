-- No call of stream points is refused at once because the disk failed.
use Rattle.std.specs.Prelude.{◌≡◌, ℕ, Bool, true, false, cond, Option, Some}
use Rattle.std.proofs.Common.{refl}
use Rattle.kernel_model.specs.declared.Refusal.{Refusal}
use Rattle.kernel_model.specs.declared.Refusal.TheVariants.{BadPoint}
use Rattle.kernel_model.specs.declared.SysCall.{SysCall}
use Rattle.kernel_model.specs.declared.SysCall.TheVariants.{Read, Write, StreamRead, StreamWrite}
use Rattle.kernel_model.specs.World.{World, ImageTable}
use Rattle.kernel_model.specs.Early.{begins_unless, call_refusal}
use Rattle.kernel_model.specs.StreamPoints.{WRITE_POINT, is_stream_call, stream_refusal}
use Rattle.call_pieces.specs.EarlyFaults.{begins_not_for_disk, is_early_fault, is_for_disk, refusal_not_for_disk}

-- a call of this table, or of another
owned_not_for_disk : (own : Bool) (o : Option Refusal) → is_for_disk o ≡ false →
    is_for_disk (cond own o (Some BadPoint)) ≡ false
owned_not_for_disk true o h = h
owned_not_for_disk false o h = refl

-- the refusals at once
stream_not_for_disk : (v : World) (images : ImageTable) (p : ℕ) (c : SysCall) →
    is_for_disk (stream_refusal v images p c) ≡ false
stream_not_for_disk v images p (StreamRead fd i off len) =
    refusal_not_for_disk WRITE_POINT v images p (Read fd i off len)
stream_not_for_disk v images p (StreamWrite fd i off bytes) =
    refusal_not_for_disk WRITE_POINT v images p (Write fd i off bytes)
stream_not_for_disk v images p c =
    owned_not_for_disk (is_stream_call c) (call_refusal WRITE_POINT v images p c)
    (refusal_not_for_disk WRITE_POINT v images p c)

-- the table refuses no call at once because the disk failed
pub streams_have_no_early_fault : (v : World) (images : ImageTable) (p : ℕ) (c : SysCall) →
    is_early_fault (begins_unless c (stream_refusal v images p c)) ≡ false
streams_have_no_early_fault v images p c =
    begins_not_for_disk c (stream_refusal v images p c) (stream_not_for_disk v images p c)
