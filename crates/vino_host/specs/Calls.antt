-- Calls of a plug-in: how one begins, what it leaves when it stops, and how it goes on.
use Rattle.std.specs.Prelude.{ℕ, ◌+◌, ◌-◌, ◌==◌, Bool, true, false, cond, not, ◌&&◌, ◌||◌, nat_le}
use Rattle.std.specs.Prelude.{List, [], ◌∷◌, ◌++◌, length, take, drop, replicate, Option, Some, None}
use Rattle.graft_code.specs.Machine.{Machine, first_machine, segment_base, FED_AT}
use Rattle.vino_host.specs.declared.Answer.{Answer}
use Rattle.vino_host.specs.declared.Call.{Call}
use Rattle.vino_host.specs.declared.Record.{Record}
use Rattle.vino_host.specs.declared.Request.{Request}
use Rattle.vino_host.specs.declared.Stop.{Stop}
use Rattle.vino_host.specs.declared.Stop.TheVariants.{Returns, Waits, Drops}
use Rattle.vino_host.specs.declared.Word.{Word}
use Rattle.vino_host.specs.Codes.{RETURNED, BAD_ANSWER, WAITING, MISUSED, is_taken, given_bytes, is_refusal}
use Rattle.vino_host.specs.HostMachine.{by_place, machine_of}
use Rattle.vino_host.specs.Plugins.{code_of, body_of}
use Rattle.vino_host.specs.HostRuns.{State, state, Ended, ended, host_run, with_r0}
use Rattle.vino_host.specs.Tables.{records_of, undone, released}

-- what a call keeps from its beginning to its end
pub record Frame : Type 0 where
  pub number : ℕ
  pub point : ℕ
  pub fed : ℕ
  pub limit : ℕ
  -- the segment from before the call
  pub segment : List ℕ

-- a call that waits for an answer
pub record Pause : Type 0 where
  pub frame : Frame
  pub id : ℕ
  pub left : ℕ
  pub machine : Machine
  pub records : List Record

-- what a caller finds when a call stops
pub record Found : Type 0 where
  pub answer : Answer
  pub segment : ℕ → ℕ
  pub table : List Word
  pub pause : Option Pause

-- ---- what stands in the caller's struct

-- what a call keeps, with the segment from before it, which may stand elsewhere
abbrev pub frame_with : List ℕ → Call → Frame
frame_with segment call =
    record {
      number = call.number;
      point = call.point;
      fed = call.fed;
      limit = call.limit;
      segment = segment;
    }

-- the same, where the struct keeps the segment
abbrev pub frame_of : Call → Frame
frame_of call = frame_with call.segment call

-- the pause that stands in a call's struct
abbrev pub pause_in : Call → List ℕ → Pause
pause_in call segment =
    record {
      frame = frame_of call;
      id = call.id;
      left = call.left;
      machine = machine_of call.machine segment;
      records = records_of call.log;
    }

-- the same, where the call waits
abbrev pub pause_of : Call → List ℕ → Option Pause
pause_of call segment = cond (call.state == 1) (Some (pause_in call segment)) None

-- ---- answers

-- an answer without registers
abbrev pub plain_answer : (kind detail steps : ℕ) → Answer
plain_answer kind detail steps =
    record {
      kind = kind;
      detail = detail;
      steps = steps;
      given = 0;
      r0 = 0;
      r1 = 0;
      r2 = 0;
      r3 = 0;
    }

-- an answer with r0 to r3
abbrev pub full_answer : (kind detail steps given : ℕ) → Machine → Answer
full_answer kind detail steps given m =
    record {
      kind = kind;
      detail = detail;
      steps = steps;
      given = given;
      r0 = m.regs 0;
      r1 = m.regs 1;
      r2 = m.regs 2;
      r3 = m.regs 3;
    }

-- ---- what a call leaves

-- how a call stops: an answer that its point doesn't take drops it
abbrev pub judged : Frame → Stop → ℕ → Stop
judged f Returns r0 = cond (is_taken f.point f.fed r0) Returns (Drops BAD_ANSWER r0)
judged f stop r0 = stop

-- Where a call completes, segment and words are as it left them, and its words belong to nobody
-- again. Where it waits they are as it left them, and its words are its own. Where it is dropped,
-- segment and words are as they were before it.
abbrev pub found_by : Frame → ℕ → State → Stop → Found
found_by f left s Returns =
    record {
      answer = full_answer RETURNED 0 (f.limit - left) (given_bytes f.point (s.machine.regs 0))
          s.machine;
      segment = s.machine.memory;
      table = released s.records s.table;
      pause = None;
    }
found_by f left s (Waits id) =
    record {
      answer = full_answer WAITING id (f.limit - left) 0 s.machine;
      segment = s.machine.memory;
      table = s.table;
      pause = Some (record {
        frame = f;
        id = id;
        left = left;
        machine = s.machine;
        records = s.records;
      });
    }
found_by f left s (Drops cause detail) =
    record {
      answer = plain_answer cause detail (f.limit - left);
      segment = by_place f.segment;
      table = undone s.records s.table;
      pause = None;
    }

-- the same of a run that stopped
abbrev pub found : Frame → Ended → Found
found f e = found_by f e.left e.state (judged f e.stop (e.state.machine.regs 0))

-- ---- how a call begins

-- data with zeros behind, as many as a segment has room for
abbrev pub filled : (size : ℕ) → List ℕ → List ℕ
filled size body = body ++ replicate (size - length body) 0

-- bytes in place of those from a place on
abbrev pub put_at : (place : ℕ) → List ℕ → List ℕ → List ℕ
put_at place bytes segment =
    take place segment ++ bytes ++ drop (place + length bytes) segment

-- the segment with which a call begins: fresh with the plug-in's data, or as it is; then the bytes
-- that it is fed
abbrev pub first_segment : (plugin : List ℕ) → Request → (fed : List ℕ) → List ℕ → List ℕ
first_segment plugin request bytes segment =
    put_at FED_AT bytes (cond (request.fresh == 0) segment (filled 4096 (body_of plugin)))

-- what a call keeps
abbrev pub first_frame : Request → (fed : List ℕ) → List ℕ → Frame
first_frame request bytes segment =
    record {
      number = request.number;
      point = request.point;
      fed = length bytes;
      limit = request.limit;
      segment = segment;
    }

-- the machine with which a call begins
abbrev pub begun : (plugin : List ℕ) → Request → (fed : List ℕ) → List ℕ → Machine
begun plugin request bytes segment =
    first_machine (segment_base 0) (request.r0 ∷ request.r1 ∷ request.r2 ∷ request.r3 ∷ [])
    (by_place (first_segment plugin request bytes segment))

-- a call is asked for as it must be: its number isn't 0, its point at most 15, and at most 512
-- bytes are fed
abbrev pub is_call : Request → (fed : List ℕ) → Bool
is_call request bytes =
    not (request.number == 0) && nat_le request.point 15 && nat_le (length bytes) 512

-- what a caller finds where nothing was done
abbrev pub MISUSED_ANSWER : Answer
MISUSED_ANSWER = plain_answer MISUSED 0 0

-- what a caller finds after a call
abbrev pub call_says : (plugin : List ℕ) → Request → (fed : List ℕ) → (segment : List ℕ) → List Word → Found
call_says plugin request bytes segment table =
    found (first_frame request bytes segment)
    (host_run request.number (code_of plugin) request.limit
    (state (begun plugin request bytes segment) table []))

-- what a caller finds in its struct, segment and table after a call
abbrev pub found_in : Answer → Call → List ℕ → List Word → Found
found_in answer call segment table =
    record {
      answer = answer;
      segment = by_place segment;
      table = table;
      pause = pause_of call segment;
    }

-- ---- how a call goes on

-- the call waits, and the answer is one that there is: a word (0), or a refusal
abbrev pub is_resumable : Call → ℕ → Bool
is_resumable call how = call.state == 1 && (how == 0 || is_refusal how)

-- what a caller finds after its answer to a call that waits
abbrev pub resumed : (plugin : List ℕ) → Pause → (how x : ℕ) → List Word → Found
resumed plugin p how x table =
    elim (how == 0) [
      | true ↦ found p.frame
          (host_run p.frame.number (code_of plugin) p.left
          (state (with_r0 x p.machine) table p.records))
      | false ↦ found p.frame (ended (Drops how p.id) p.left (state p.machine table p.records))
    ]
