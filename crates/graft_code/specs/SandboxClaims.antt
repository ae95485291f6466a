-- What is claimed about boxed code, in the words of the field.
use Rattle.std.specs.Prelude.{◌≡◌, ◌≢◌, ℕ, ◌+◌, ◌*◌, ◌<◌, List, Ok, ⊤}
use Rattle.kernel_data.specs.declared.Instr.{Instr}
use Rattle.graft_code.specs.Machine.{Machine, Done, Went, Called, Outside, PastEnd}
use Rattle.graft_code.specs.Machine.{segment_base, seg_step, flat_step}
use Rattle.graft_code.specs.Boxed.{IsBoxed, IsInside, boxed_place, rewrite}
use Rattle.graft_code.specs.Runs.{CodeRun, first_run, raw_run, boxed_run, on_segment, done_on_segment}

-- after one instruction of a machine that was inside: it is still inside, and it neither reached
-- out of its segment nor ran past its code
abbrev pub IsInsideAfter : List Instr → (slot : ℕ) → Done → Type 0
IsInsideAfter code slot (Went m) = IsInside code slot m
IsInsideAfter code slot (Called id m) = IsInside code slot m
IsInsideAfter code slot Outside = ⊥
IsInsideAfter code slot PastEnd = ⊥
IsInsideAfter code slot done = ⊤

-- An inside machine on boxed code stays inside, and one instruction over flat memory does the same
-- as on its segment alone.
pub record StaysInside (code : List Instr) (slot : ℕ) (m : Machine) : Type 0 where
  pub inside : IsInsideAfter code slot (flat_step code m)
  pub alone : seg_step code (on_segment (segment_base slot) m)
      ≡ done_on_segment (segment_base slot) (flat_step code m)

-- An inside machine on boxed code stays inside, never reaches out of its segment or past its code,
-- and does over flat memory what it does on its segment alone.
abbrev pub Sandbox : Type 0
Sandbox = (code : List Instr) (slot : ℕ) (m : Machine) → IsBoxed code → IsInside code slot m →
    StaysInside code slot m

-- a run of boxed code has come as far as the raw run: it has the same registers except r14, the
-- matching place, and the same segment, calls, answers and end
pub record HasComeAsFar (code : List Instr) (raw boxed : CodeRun) : Type 0 where
  pub registers : (i : ℕ) → i ≢ 14 → boxed.machine.regs i ≡ raw.machine.regs i
  pub place : boxed.machine.pc ≡ boxed_place code raw.machine.pc
  pub segment : (i : ℕ) → i < 4096 → boxed.machine.memory i ≡ raw.machine.memory i
  pub calls : boxed.calls ≡ raw.calls
  pub answers : boxed.answers ≡ raw.answers
  pub ended : boxed.ended ≡ raw.ended

-- If raw code runs n instructions, k of which are accesses, then its boxed code has after n + 2k
-- instructions the same registers except r14, the same segment, the matching place, and the same
-- calls, answers and end.
abbrev pub Rewriting : Type 0
Rewriting =
    (code boxed : List Instr) (slot n : ℕ) (segment : ℕ →
    ℕ) (args : List ℕ) (answers : List (ℕ × ℕ)) →
    rewrite code ≡ Ok boxed → slot < 64 →
    let first = first_run (segment_base slot) segment args answers in
    let raw = raw_run code n first in
    HasComeAsFar code raw (boxed_run boxed (n + 2 * raw.accesses) first)
