-- Which system calls are refused at once, before they join the order: the refusals that need no
-- object, the lowest number first.
use Rattle.std.specs.Prelude.{ℕ, ◌+◌, ◌==◌, Bool, cond, not, ◌||◌, nat_le, nat_lt, length, is_some}
use Rattle.std.specs.Prelude.{Option, Some, None, Result, Ok, Err}
use Rattle.kernel_data.specs.declared.SysCall.{SysCall}
use Rattle.kernel_data.specs.declared.SysCall.TheVariants.{Exit, OpenName, CloseFd, Read, Write}
use Rattle.kernel_data.specs.declared.SysCall.TheVariants.{TakeLock, FreeLock, Poke, Peek, Tune}
use Rattle.kernel_data.specs.declared.SysCall.TheVariants.{Choose, Give, Install, Remove, Fund}
use Rattle.kernel_data.specs.declared.SysCall.TheVariants.{Bill, Serve, StreamRead, StreamWrite}
use Rattle.kernel_data.specs.declared.Refusal.{Refusal}
use Rattle.kernel_data.specs.declared.Refusal.TheVariants.{NoProcess, Denied, BadPoint, BadFd}
use Rattle.kernel_data.specs.declared.Refusal.TheVariants.{NoFile, BadIndex, NoImage}
use Rattle.kernel_data.specs.World.{World, ImageTable, file_named}
use Rattle.kernel_model.specs.Meaning.{Stage, stage}

-- the highest point for which the plain calls install grafts; above it are events and streams
abbrev pub TOP_POINT : ℕ
TOP_POINT = 5

-- how many policies a kind has: 3, 2 and 2
abbrev pub policy_count : ℕ → ℕ
policy_count kind = cond (kind == 0) 3 2

-- a refusal if it holds, otherwise the next one
abbrev pub refused : Bool → Refusal → Option Refusal → Option Refusal
refused holds refusal next = cond holds (Some refusal) next

-- the refusal with the lowest number, among those that need no object, of a call of process p, if
-- points go up to this one; docs/CALLS.md lists them, call by call. Calls of event points and of
-- streams belong to other tables, and are refused here.
abbrev pub call_refusal : (top : ℕ) → World → ImageTable → ℕ → SysCall → Option Refusal
call_refusal top v images p Exit = refused (p == 0) Denied None
call_refusal top v images p (OpenName name) =
    refused (not (is_some (file_named v name))) NoFile None
call_refusal top v images p (CloseFd fd) = refused (nat_lt 3 fd) BadFd None
call_refusal top v images p (Read fd i off len) =
    refused (nat_lt 3 fd) BadFd (refused (nat_lt 512 (off + len)) BadIndex None)
call_refusal top v images p (Write fd i off bytes) =
    refused (nat_lt 3 fd) BadFd (refused (nat_lt 512 (off + length bytes)) BadIndex None)
call_refusal top v images p (TakeLock u) = refused (nat_lt 15 u) BadIndex None
call_refusal top v images p (FreeLock u) = refused (nat_lt 15 u) BadIndex None
call_refusal top v images p (Poke k x) = refused (nat_lt 3 k) BadIndex None
call_refusal top v images p (Peek k) = refused (nat_lt 3 k) BadIndex None
call_refusal top v images p (Tune kind k x) =
    refused (not (p == 0)) Denied (refused (nat_lt 2 kind) BadPoint None)
call_refusal top v images p (Choose kind j) =
    refused (not (p == 0)) Denied
    (refused (nat_lt 2 kind || nat_le (policy_count kind) j) BadPoint None)
call_refusal top v images p (Give q kind n) = refused (nat_lt 15 q) NoProcess None
call_refusal top v images p (Install pt i limit) =
    refused (nat_lt top pt) BadPoint
    (refused (limit == 0 || nat_lt 65536 limit) BadIndex
    (refused (nat_lt 31 i || not (is_some (images i))) NoImage None))
call_refusal top v images p (Remove pt) = refused (nat_lt top pt) BadPoint None
call_refusal top v images p (Fund pt kind n) = refused (nat_lt top pt) BadPoint None
call_refusal top v images p (Bill pt) = refused (nat_lt top pt) BadPoint None
call_refusal top v images p (Serve port bytes) = Some BadPoint
call_refusal top v images p (StreamRead fd i off len) = Some BadPoint
call_refusal top v images p (StreamWrite fd i off bytes) = Some BadPoint
call_refusal top v images p c = None

-- a call begins before its first piece, or is refused
abbrev pub begins_unless : SysCall → Option Refusal → Result Stage Refusal
begins_unless c None = Ok (stage c 0)
begins_unless c (Some refusal) = Err refusal

-- the stage at which a call of process p begins, or its refusal
abbrev pub plain_early : (top : ℕ) → World → ImageTable → ℕ → SysCall → Result Stage Refusal
plain_early top v images p c = begins_unless c (call_refusal top v images p c)
