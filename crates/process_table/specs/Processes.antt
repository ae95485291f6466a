-- The living processes with their cells, files, user locks and handlers: as arrays, and as the
-- kernel's state sees them.
use Rattle.std.specs.Prelude.{◌≡◌, ℕ, ◌+◌, ◌*◌, ◌<◌, ◌≤◌, Bool, true, false, cond, ◌&&◌, ◌==◌}
use Rattle.std.specs.Prelude.{nat_lt, nat_le, List, [], ◌∷◌, ◌++◌, length, filter, slice_index}
use Rattle.std.specs.Prelude.{slice_index_or, Option, Some, None}
use Rattle.std.specs.List.{list_all}
use Rattle.kernel_model.specs.declared.QueueRow.{QueueRow}
use Rattle.kernel_model.specs.declared.OpenRow.{OpenRow}
use Rattle.kernel_model.specs.Queue.{new_row, queue_without}
use Rattle.kernel_model.specs.Policies.{lives}
use Rattle.kernel_model.specs.Pieces.{freed_by}
use Rattle.kernel_model.specs.Handlers.{AreHandlers, handlers_without_process}

-- the arrays
pub record Table : Type 0 where
  -- the living processes, front first
  pub queue : List QueueRow
  -- cell k of process p stands at 4 * p + k
  pub cells : List ℕ
  -- descriptor fd of process p stands at 4 * p + fd
  pub files : List (Option OpenRow)
  -- the holder of each user lock
  pub holders : List (Option ℕ)
  -- the handlers, each a process and a point, in the order in which they were put last
  pub handlers : List (ℕ × ℕ)

-- a place is one of the four of a process
abbrev pub is_of : ℕ → ℕ → Bool
is_of p i = nat_le (4 * p) i && nat_lt i (4 * p + 4)

-- the cells by process and number
abbrev pub cells_in : List ℕ → ℕ → ℕ → ℕ
cells_in cells p k = cond (nat_lt k 4) (slice_index cells (4 * p + k)) 0

-- the open files by process and descriptor
abbrev pub files_in : List (Option OpenRow) → ℕ → ℕ → Option OpenRow
files_in files p fd = cond (nat_lt fd 4) (slice_index_or files (4 * p + fd) None) None

-- the holders by lock
abbrev pub locks_in : List (Option ℕ) → ℕ → Option ℕ
locks_in holders u = slice_index_or holders u None

-- what the kernel's state has of its processes
pub record Processes : Type 0 where
  -- the living processes, front first
  pub queue : List QueueRow
  -- cell k of process p
  pub cell : ℕ → ℕ → ℕ
  -- the open file at a descriptor of a process
  pub file : ℕ → ℕ → Option OpenRow
  -- the process that holds a user lock
  pub lock : ℕ → Option ℕ
  -- the handlers, each a process and a point, in the order in which they were put last
  pub handlers : List (ℕ × ℕ)

-- what the arrays hold
abbrev pub processes_of : Table → Processes
processes_of t =
    record {
      queue = t.queue;
      cell = cells_in t.cells;
      file = files_in t.files;
      lock = locks_in t.holders;
      handlers = t.handlers;
    }

-- ---- what each call makes of them

-- process 0 lives alone
abbrev pub opening : Processes
opening =
    record {
      queue = new_row 0 ∷ [];
      cell = λ p k. 0;
      file = λ p fd. None;
      lock = λ u. None;
      handlers = [];
    }

-- a process joins at the back, if a number is free
abbrev pub spawned : Option ℕ → Processes → Processes
spawned free s =
    record s { queue = elim free [ None ↦ s.queue | Some c ↦ s.queue ++ new_row c ∷ [] ] }

-- a process leaves: its cells become 0, its files close, its locks and its handlers go
abbrev pub without : ℕ → Processes → Processes
without p s =
    record {
      queue = queue_without p s.queue;
      cell = λ q k. cond (q == p) 0 (s.cell q k);
      file = λ q fd. cond (q == p) None (s.file q fd);
      lock = λ u. freed_by p (s.lock u);
      handlers = handlers_without_process p s.handlers;
    }

-- ---- what always holds

-- the rows of the queue: each process once, below 16, with a nice of at most 39; process 0 among
-- them
pub record IsQueue (rows : List QueueRow) : Type 0 where
  pub once : (p : ℕ) → length (filter (λ (r : QueueRow). r.process == p) rows) ≤ 1
  pub below : (p : ℕ) → lives rows p ≡ true → p < 16
  pub nices : list_all (λ (r : QueueRow). nat_le r.nice 39) rows ≡ true
  pub root : lives rows 0 ≡ true

-- a flag for each number says whether the process lives
pub record AreFlags (flags : List Bool) (rows : List QueueRow) : Type 0 where
  pub count : length flags ≡ 16
  pub say : (p : ℕ) → slice_index_or flags p false ≡ lives rows p

-- what always holds of the processes: what isn't living has nothing, and handlers are of numbers
-- that processes have
pub record IsSound (s : Processes) : Type 0 where
  pub queue : IsQueue s.queue
  pub cells : (p k : ℕ) → lives s.queue p ≡ false → s.cell p k ≡ 0
  pub files : (p fd : ℕ) → lives s.queue p ≡ false → s.file p fd ≡ None
  pub locks : (u p : ℕ) → s.lock u ≡ Some p → lives s.queue p ≡ true
  pub handlers : AreHandlers s.handlers
  pub processes : list_all (λ (h : ℕ × ℕ). nat_lt h.0 16) s.handlers ≡ true

-- what always holds of the arrays
pub record IsTable (t : Table) : Type 0 where
  pub cells : length t.cells ≡ 64
  pub files : length t.files ≡ 64
  pub holders : length t.holders ≡ 16
  pub sound : IsSound (processes_of t)
