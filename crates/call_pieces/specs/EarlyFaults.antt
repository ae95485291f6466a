-- No call is refused at once because the disk failed: it makes no call of the disk before its first
-- piece.
use Rattle.std.specs.Prelude.{◌≡◌, ℕ, ◌+◌, ◌==◌, ◌||◌, Bool, true, false, cond, not, nat_le, nat_lt}
use Rattle.std.specs.Prelude.{is_some, length, Option, Some, None, Result, Ok, Err}
use Rattle.std.proofs.Common.{refl}
use Rattle.kernel_model.specs.declared.Refusal.{Refusal}
use Rattle.kernel_model.specs.declared.Refusal.TheVariants.{NoProcess, Denied, BadPoint, BadFd}
use Rattle.kernel_model.specs.declared.Refusal.TheVariants.{NoFile, BadIndex, NoImage}
use Rattle.kernel_model.specs.declared.SysCall.{SysCall}
use Rattle.kernel_model.specs.declared.SysCall.TheVariants.{Exit, OpenName, CloseFd, Read, Write}
use Rattle.kernel_model.specs.declared.SysCall.TheVariants.{TakeLock, FreeLock, Poke, Peek, Tune}
use Rattle.kernel_model.specs.declared.SysCall.TheVariants.{Choose, Give, Install, Remove, Fund}
use Rattle.kernel_model.specs.declared.SysCall.TheVariants.{Bill, Serve, StreamRead, StreamWrite}
use Rattle.kernel_model.specs.World.{World, ImageTable, file_named}
use Rattle.kernel_model.specs.Meaning.{Meaning, Stage}
use Rattle.kernel_model.specs.Early.{begins_unless, call_refusal, plain_early, policy_count, refused}
use Rattle.call_laws.specs.QuickPieces.{is_disk_fault}

-- a call is refused, if it is, because the disk failed
abbrev pub is_for_disk : Option Refusal → Bool
is_for_disk None = false
is_for_disk (Some why) = is_disk_fault why

-- a call is refused at once because the disk failed
abbrev pub is_early_fault : Result Stage Refusal → Bool
is_early_fault (Ok t) = false
is_early_fault (Err why) = is_disk_fault why

-- a table refuses no call at once because the disk failed
abbrev pub HasNoEarlyFault : Meaning → Type 0
HasNoEarlyFault m =
    (v : World) (images : ImageTable) (p : ℕ) (c : SysCall) →
    is_early_fault (m.early v images p c) ≡ false

-- ---- the plain table

-- a call that is refused where something holds, or else as it is
pub refused_not_for_disk : (holds : Bool) (why : Refusal) (next : Option Refusal) →
    is_disk_fault why ≡ false → is_for_disk next ≡ false →
    is_for_disk (refused holds why next) ≡ false
refused_not_for_disk true why next first rest = first
refused_not_for_disk false why next first rest = rest

-- a call that begins unless it is refused
pub begins_not_for_disk : (c : SysCall) (o : Option Refusal) → is_for_disk o ≡ false →
    is_early_fault (begins_unless c o) ≡ false
begins_not_for_disk c None h = refl
begins_not_for_disk c (Some why) h = h

-- the refusals of the plain calls
pub refusal_not_for_disk : (top : ℕ) (v : World) (images : ImageTable) (p : ℕ) (c : SysCall) →
    is_for_disk (call_refusal top v images p c) ≡ false
refusal_not_for_disk top v images p Exit = refused_not_for_disk (p == 0) Denied None refl refl
refusal_not_for_disk top v images p (OpenName name) =
    refused_not_for_disk (not (is_some (file_named v name))) NoFile None refl refl
refusal_not_for_disk top v images p (CloseFd fd) =
    refused_not_for_disk (nat_lt 3 fd) BadFd None refl refl
refusal_not_for_disk top v images p (Read fd i off len) =
    refused_not_for_disk (nat_lt 3 fd) BadFd (refused (nat_lt 512 (off + len)) BadIndex None) refl
    (refused_not_for_disk (nat_lt 512 (off + len)) BadIndex None refl refl)
refusal_not_for_disk top v images p (Write fd i off bytes) =
    refused_not_for_disk (nat_lt 3 fd) BadFd (refused (nat_lt 512 (off + length bytes)) BadIndex
    None) refl (refused_not_for_disk (nat_lt 512 (off + length bytes)) BadIndex None refl refl)
refusal_not_for_disk top v images p (TakeLock u) =
    refused_not_for_disk (nat_lt 15 u) BadIndex None refl refl
refusal_not_for_disk top v images p (FreeLock u) =
    refused_not_for_disk (nat_lt 15 u) BadIndex None refl refl
refusal_not_for_disk top v images p (Poke k x) =
    refused_not_for_disk (nat_lt 3 k) BadIndex None refl refl
refusal_not_for_disk top v images p (Peek k) =
    refused_not_for_disk (nat_lt 3 k) BadIndex None refl refl
refusal_not_for_disk top v images p (Tune kind k x) =
    refused_not_for_disk (not (p == 0)) Denied (refused (nat_lt 2 kind) BadPoint None) refl
    (refused_not_for_disk (nat_lt 2 kind) BadPoint None refl refl)
refusal_not_for_disk top v images p (Choose kind j) =
    refused_not_for_disk (not (p == 0)) Denied
    (refused (nat_lt 2 kind || nat_le (policy_count kind) j) BadPoint None) refl
    (refused_not_for_disk (nat_lt 2 kind || nat_le (policy_count kind) j) BadPoint None refl refl)
refusal_not_for_disk top v images p (Give q kind n) =
    refused_not_for_disk (nat_lt 15 q) NoProcess None refl refl
refusal_not_for_disk top v images p (Install pt i limit) =
    let no_image = refused (nat_lt 31 i || not (is_some (images i))) NoImage None in
    let wrong_limit = limit == 0 || nat_lt 65536 limit in
    refused_not_for_disk (nat_lt top pt) BadPoint (refused wrong_limit BadIndex no_image) refl
    (refused_not_for_disk wrong_limit BadIndex no_image refl
    (refused_not_for_disk (nat_lt 31 i || not (is_some (images i))) NoImage None refl refl))
refusal_not_for_disk top v images p (Remove pt) =
    refused_not_for_disk (nat_lt top pt) BadPoint None refl refl
refusal_not_for_disk top v images p (Fund pt kind n) =
    refused_not_for_disk (nat_lt top pt) BadPoint None refl refl
refusal_not_for_disk top v images p (Bill pt) =
    refused_not_for_disk (nat_lt top pt) BadPoint None refl refl
refusal_not_for_disk top v images p (Serve port bytes) = refl
refusal_not_for_disk top v images p (StreamRead fd i off len) = refl
refusal_not_for_disk top v images p (StreamWrite fd i off bytes) = refl
refusal_not_for_disk top v images p c = refl

-- the plain table refuses no call at once because the disk failed
pub plain_has_no_early_fault : (top : ℕ) (v : World) (images : ImageTable) (p : ℕ) (c : SysCall) →
    is_early_fault (plain_early top v images p c) ≡ false
plain_has_no_early_fault top v images p c =
    begins_not_for_disk c (call_refusal top v images p c) (refusal_not_for_disk top v images p c)

-- ---- one of two tables

-- a call that one of two tables begins
pub one_has_no_early_fault : (first : Bool) (a b : Result Stage Refusal) →
    is_early_fault a ≡ false → is_early_fault b ≡ false →
    is_early_fault (cond first a b) ≡ false
one_has_no_early_fault true a b left right = left
one_has_no_early_fault false a b left right = right
