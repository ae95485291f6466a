-- One event of the abstract kernel: a tick, some instructions, or a system call; and its notes in
-- order.
use Rattle.std.specs.Prelude.{ℕ, zero, suc, Bool, true, false, not, ◌&&◌, ◌==◌, nat_le, List, []}
use Rattle.std.specs.Prelude.{◌∷◌, Option, Some, None, map, length, Result, Ok, Err}
use Rattle.std.specs.List.{list_any}
use Rattle.kernel_data.specs.declared.Need.{Need}
use Rattle.kernel_data.specs.declared.Object.{Object}
use Rattle.kernel_data.specs.declared.Object.TheVariants.{Graft, Acct, Cell, OpenFile, Queue, Cache, Lock, Pol}
use Rattle.kernel_data.specs.declared.Mode.{Mode}
use Rattle.kernel_data.specs.declared.Event.{Event}
use Rattle.kernel_data.specs.declared.Event.TheVariants.{Tick, Step, Sys}
use Rattle.kernel_data.specs.declared.SysCall.{SysCall}
use Rattle.kernel_data.specs.declared.Note.TheVariants.{Ticked, Refused, Ran, Waits, InGraft}
use Rattle.kernel_data.specs.declared.Refusal.{Refusal}
use Rattle.kernel_data.specs.declared.Refusal.TheVariants.{NoProcess, Busy, BadIndex, TimedOut}
use Rattle.kernel_data.specs.declared.Cause.{Cause}
use Rattle.kernel_data.specs.declared.Cause.TheVariants.{TimeOut}
use Rattle.kernel_data.specs.World.{Blocks}
use Rattle.kernel_data.specs.Objects.{same_object}
use Rattle.kernel_data.specs.Policies.{lives}
use Rattle.kernel_model.specs.Meaning.{Meaning, Stage}
use Rattle.kernel_model.specs.Locks.{outermost_holding}
use Rattle.kernel_model.specs.Levels.{Level, drop_level}
use Rattle.kernel_model.specs.History.{Mark, Trace}
use Rattle.kernel_model.specs.Kernel.{Call, Blocker, Waiter, Kernel, Run, noted, joins, requeue, with_call, has_level}
use Rattle.kernel_model.specs.Blocking.{needs, levels_of, holds, blocker, trace_of}
use Rattle.kernel_model.specs.Settle.{outcome_step, settled, step}

-- the number of an object's kind
abbrev pub object_kind : Object → ℕ
object_kind (Graft q pt) = 0
object_kind (Acct q) = 1
object_kind (Cell q k) = 2
object_kind (OpenFile q k) = 3
object_kind Queue = 4
object_kind Cache = 5
object_kind (Lock u) = 6
object_kind (Pol k) = 7

-- the most instructions of one `step`
abbrev pub MOST_STEPS : ℕ
MOST_STEPS = 65536

-- a process is in the order of waiting
abbrev pub in_order : ℕ → List Waiter → Bool
in_order p es = list_any (λ (e : Waiter). e.process == p) es

-- ---- where a call is at the end of an event

-- the note of a call that waits
abbrev pub waits_note : ℕ → Option Blocker → Run → Run
waits_note n None r = r
waits_note n (Some b) r = noted (Waits n b.object b.holder) r

-- the note of a call in a graft
abbrev pub graft_note : ℕ → List Level → Run → Run
graft_note n [] r = r
graft_note n (l ∷ ls) r = noted (InGraft n l.owner l.point (suc (length ls))) r

-- ---- counts

-- an entry's count has reached the patience of its blocker's kind
abbrev pub is_over : Kernel → Waiter → Option Blocker → Bool
is_over k e None = false
is_over k e (Some b) = nat_le (k.world.patience (object_kind b.object)) e.count

-- the first entry whose count has reached the patience
abbrev pub expired : Kernel → List Waiter → Option Waiter
expired k [] = None
expired k (e ∷ es) = elim (is_over k e e.blocker) [ true ↦ Some e | false ↦ expired k es ]

-- each count rises by one
abbrev pub counted : List Waiter → List Waiter
counted es = map (λ (e : Waiter). record e { count = suc e.count }) es

-- the clock and all counts rise by one
abbrev pub ticked : ℕ → Run → Run
ticked number r =
    noted (Ticked number (suc r.kernel.clock))
    (record r {
      kernel = record (r.kernel) {
        clock = suc r.kernel.clock;
        order = counted r.kernel.order;
      };
    })

-- the mode in which an object is needed
abbrev pub wanted : Object → List Need → Mode
wanted o [] = Mode.Shared
wanted o (n ∷ ns) = elim (same_object n.object o) [ true ↦ n.mode | false ↦ wanted o ns ]

-- the number of the innermost level
abbrev pub innermost : List Level → Option ℕ
innermost [] = None
innermost (l ∷ ls) = Some (length ls)

module _ (m : Meaning) where
  -- where the call of a process is, if it is still in flight: it waits, or it is in a graft
  abbrev pub last_note : ℕ → Option Call → Run → Run
  last_note p None r = r
  last_note p (Some c) r =
      elim (in_order p r.kernel.order) [
        | true ↦ waits_note c.number (blocker m r.kernel p) r
        | false ↦ graft_note c.number (levels_of m r.kernel p) r
      ]

  -- the last line of an event that began or stepped a call of p
  abbrev pub last : ℕ → Run → Run
  last p r = last_note p (r.kernel.call p) r

  -- ---- a system call

  -- a call begins, or is refused at once
  abbrev pub begun : ℕ → ℕ → Result Stage Refusal → Run → Run
  begun number p (Err refusal) r = noted (Refused number refusal) r
  begun number p (Ok t) r =
      settled m (joins p
      (with_call p (Some (record { number = number; stage = t; marks = None })) r))

  -- a system call: busy, refused at once, or begun
  abbrev pub sys_event : ℕ → ℕ → SysCall → Option Call → Run → Run
  sys_event number p call (Some c) r = noted (Refused number (Busy c.number)) r
  sys_event number p call None r =
      last p (begun number p (m.early r.kernel.world r.kernel.images p call) r)

  -- ---- steps

  -- The call of p takes up to n instructions while it has a level and isn't in the order; when one
  -- is blocked, the call joins the order and takes no more. The number says how many it took.
  abbrev pub steps : ℕ → ℕ → ℕ → Run → ℕ × Run
  steps p zero taken r = (taken, r)
  steps p (suc n) taken r =
      elim (has_level (r.kernel.call p) && not (in_order p r.kernel.order)) [
        | false ↦ (taken, r)
        | true ↦ elim (blocker m r.kernel p) [
          | Some b ↦ (taken, settled m (joins p r))
          | None ↦ steps p n (suc taken) (settled m (step m p r))
        ]
      ]

  -- instructions of the call of p
  abbrev pub step_event : ℕ → ℕ → ℕ → Run → Run
  step_event number p n r = let s = steps p n 0 r in last p (noted (Ran number s.0) s.1)

  -- ---- time-outs

  -- level d of a call is dropped, and the call takes its place in the order
  abbrev pub drop_at : ℕ → Call → List Mark → Trace → Option ℕ → Cause → Run → Run
  drop_at p c ks t None cause r = r
  drop_at p c ks t (Some d) cause r =
      requeue p (outcome_step m p c t ks
      (drop_level r.kernel.world t.config.now t.config.levels d cause) r)

  -- a level of a call that has a history is dropped
  abbrev pub drop_marked : ℕ → Call → Option (List Mark) → Option Trace → Option ℕ → Cause → Run →
      Run
  drop_marked p c (Some ks) (Some t) d cause r = drop_at p c ks t d cause r
  drop_marked p c _ _ d cause r = r

  -- level d of the call of p is dropped, if there is one
  abbrev pub drop_call : ℕ → Option Call → Option ℕ → Cause → Run → Run
  drop_call p None d cause r = r
  drop_call p (Some c) d cause r =
      drop_marked p c c.marks (trace_of m r.kernel p (Some c)) d cause r

  -- a call that waits for a user lock and has no level ends
  abbrev pub times_out : ℕ → Blocker → Call → Run → Run
  times_out p b c r =
      requeue p (noted (Refused c.number (TimedOut b.object b.holder)) (with_call p None r))

  -- a call that waits too long for a user lock loses its innermost level or, without a level, is
  -- refused
  abbrev pub waiter_action : ℕ → Blocker → Option Call → Run → Run
  waiter_action p b None r = r
  waiter_action p b (Some c) r =
      elim c.marks [
        | None ↦ times_out p b c r
        | Some ks ↦ drop_call p (Some c) (innermost (levels_of m r.kernel p))
            (TimeOut b.object b.holder) r
      ]

  -- a call that blocks another for too long loses the outermost of its levels whose hold conflicts,
  -- and those inside
  abbrev pub holder_action : ℕ → Blocker → Run → Run
  holder_action p b r =
      drop_call b.holder (r.kernel.call b.holder)
      (outermost_holding b.object (wanted b.object (needs m r.kernel p))
      (holds m r.kernel b.holder)) (TimeOut b.object p) r

  -- one action of a tick, for a waiter and its blocker
  abbrev pub action : ℕ → Blocker → Option ℕ → Run → Run
  action p b None r = waiter_action p b (r.kernel.call p) r
  action p b (Some n) r = holder_action p b r

  -- the action for an entry that has waited too long
  abbrev pub entry_action : Waiter → Option Blocker → Run → Run
  entry_action e None r = r
  entry_action e (Some b) r = action e.process b b.call r

  -- at most the given number of actions, as long as a count has reached its patience
  abbrev pub actions : ℕ → Run → Run
  actions zero r = r
  actions (suc n) r =
      elim (expired r.kernel r.kernel.order)
      [ None ↦ r | Some e ↦ actions n (settled m (entry_action e e.blocker r)) ]

  -- A tick raises the clock and all counts by one; then, while an entry has waited as long as its
  -- blocker's kind of object allows, the first such entry decides one action, and the kernel
  -- settles. 288 actions are always enough.
  abbrev pub tick_event : ℕ → Run → Run
  tick_event number r = actions 288 (ticked number r)

  -- ---- any event

  -- what an event does
  abbrev pub event_on : ℕ → Event → Run → Run
  event_on number Tick r = tick_event number r
  event_on number (Step p n) r =
      elim (lives r.kernel.objects.things.queue p) [
        | false ↦ noted (Refused number NoProcess) r
        | true ↦ elim (nat_le 1 n && nat_le n MOST_STEPS)
            [ true ↦ step_event number p n r | false ↦ noted (Refused number BadIndex) r ]
      ]
  event_on number (Sys p call) r =
      elim (lives r.kernel.objects.things.queue p) [
        | false ↦ noted (Refused number NoProcess) r
        | true ↦ sys_event number p call (r.kernel.call p) r
      ]

  -- An event changes the kernel and the disk's blocks, and leaves notes in order; io says for each
  -- of its disk calls whether it fails.
  abbrev pub event : Kernel → Blocks → ℕ → Event → List Bool → Run
  event k blocks number e io =
      event_on number e (record { kernel = k; blocks = blocks; notes = []; io = io })
