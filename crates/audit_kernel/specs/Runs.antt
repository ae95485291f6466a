-- Runs of the code as those of the definitions.
use Rattle.std.specs.Prelude.{◌≡◌, ℕ, List, [], Option, Some, None, map, option_map, slice_index_or}
use Rattle.kernel_model.specs.World.{World, ImageTable}
use Rattle.kernel_model.specs.Objects.{Objects}
use Rattle.kernel_model.specs.AllCalls.{all_calls}
use Rattle.kernel_model.specs.History as history
use Rattle.kernel_model.specs.Kernel as model
use Rattle.kernel_model.specs.Locks as locks
use Rattle.kernel_model.specs.Blocking as blocking
use Rattle.graft_loader.specs.Slots.{table_of}
use Rattle.audit_state.specs.Worlds.{world_of}
use Rattle.audit_needs.specs.Stages.{stage_of}
use Rattle.audit_pieces.specs.declared.Store.{Store}
use Rattle.audit_pieces.specs.Stores.{objects_of, blocks_of, page_of}
use Rattle.audit_replay.specs.Traces.{mark_of, trace_of}
use Rattle.audit_kernel.specs.declared.History.{History}
use Rattle.audit_kernel.specs.declared.Flight.{Flight}
use Rattle.audit_kernel.specs.declared.Blocker.{Blocker}
use Rattle.audit_kernel.specs.declared.Hindrance.{Hindrance}
use Rattle.audit_kernel.specs.declared.Waiter.{Waiter}
use Rattle.audit_kernel.specs.declared.Setting.{Setting}
use Rattle.audit_kernel.specs.declared.Run.{Run}

-- ---- calls in flight

-- the marks of a history, if there is one
abbrev pub marks_of : Option History → Option (List history.Mark)
marks_of None = None
marks_of (Some h) = Some (map mark_of h.marks.items)

-- a call in flight
abbrev pub call_of : Flight → model.Call
call_of f = record { number = f.number; stage = stage_of f.stage; marks = marks_of f.graft }

-- the call of a process, if one is in flight
abbrev pub call_at : List (Option Flight) → ℕ → Option model.Call
call_at flights p = option_map call_of (slice_index_or flights p None)

-- ---- the order of waiting

-- what hinders a step
abbrev pub hindrance_of : Hindrance → locks.Hindrance
hindrance_of h = record { object = h.object; holder = h.holder; by_user = h.by_user }

-- what blocks a call
abbrev pub blocker_of : Blocker → model.Blocker
blocker_of b = record { object = b.object; holder = b.holder; call = b.call }

-- an entry of the order of waiting
abbrev pub waiter_of : Waiter → model.Waiter
waiter_of e =
    record { process = e.process; blocker = option_map blocker_of e.blocker; count = e.count }

-- ---- runs

-- the kernel of a run
abbrev pub kernel_of : Run → model.Kernel
kernel_of r =
    record {
      world = world_of r.setting.world;
      images = table_of r.setting.images;
      objects = objects_of r.store;
      clock = r.clock;
      call = call_at r.flights.items;
      order = map waiter_of r.order.items;
    }

-- a run, none of whose calls of the disk fails
abbrev pub run_of : Run → model.Run
run_of r =
    record {
      kernel = kernel_of r;
      blocks = blocks_of r.store;
      notes = r.notes.items;
      io = [];
    }

-- ---- traces kept beside histories

-- the trace that is kept beside a history, if there is one
abbrev pub trace_in : (ℕ → List ℕ) → Option History → Option history.Trace
trace_in bytes None = None
trace_in bytes (Some h) = option_map (trace_of bytes) h.trace

-- the trace that is kept with a call, if one is in flight
abbrev pub kept_trace : (ℕ → List ℕ) → Option Flight → Option history.Trace
kept_trace bytes None = None
kept_trace bytes (Some f) = trace_in bytes f.graft

-- where the history of a call leads: the world, the images and what is committed tell that alone
abbrev pub leads : World → ImageTable → Objects → ℕ → Option model.Call → Option history.Trace
leads v images s p c =
    blocking.trace_of all_calls (record {
      world = v;
      images = images;
      objects = s;
      clock = 0;
      call = λ q. None;
      order = [];
    }) p c

-- the trace that is kept with a call of a process is where its history leads
abbrev pub IsKept : Setting → Store → ℕ → Option Flight → Type 0
IsKept s t p f =
    kept_trace (page_of t) f
    ≡ leads (world_of s.world) (table_of s.images) (objects_of t) p (option_map call_of f)

-- the same of all calls
abbrev pub AreAllKept : Setting → Store → List (Option Flight) → Type 0
AreAllKept s t flights = (p : ℕ) → IsKept s t p (slice_index_or flights p None)

-- The trace that is kept beside each history is where that leads.
abbrev pub AreKept : Run → Type 0
AreKept r = AreAllKept r.setting r.store r.flights.items
