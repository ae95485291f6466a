-- The rows that `raw` writes: they show a kernel's whole state, including changes in flight.
use Rattle.std.specs.Prelude.{ℕ, suc, ◌==◌, List, [], ◌∷◌, ◌++◌, Option, None, Some, map, filter}
use Rattle.std.specs.Prelude.{filter_map, flat_map, length, reverse, find, option_map}
use Rattle.std.specs.List.{range_with_len}
use Rattle.kernel_data.specs.declared.RawRow.{RawRow}
use Rattle.kernel_data.specs.declared.WaitRow.{WaitRow}
use Rattle.kernel_data.specs.declared.TopRow.{TopRow}
use Rattle.kernel_data.specs.declared.FrameRow.{FrameRow}
use Rattle.kernel_data.specs.declared.OpenRow.{OpenRow}
use Rattle.kernel_data.specs.declared.FileRow.{FileRow}
use Rattle.kernel_model.specs.Access.{Found}
use Rattle.kernel_data.specs.declared.Kind.TheVariants.{Steps, Records, Locks}
use Rattle.kernel_data.specs.World.{World, processes, file_row}
use Rattle.kernel_data.specs.Objects.{Objects, GraftValue, FrameValue, PolValue}
use Rattle.kernel_data.specs.Policies.{lives}
use Rattle.kernel_model.specs.Access.{param_top}
use Rattle.kernel_model.specs.Meaning.{Meaning}
use Rattle.kernel_model.specs.Levels.{Level}
use Rattle.kernel_model.specs.UndoLog.{undo_log, numbered_log}
use Rattle.kernel_model.specs.Kernel.{Kernel, Call, Waiter, Blocker}
use Rattle.kernel_model.specs.Blocking.{levels_of}
use Rattle.kernel_model.specs.InPlace.{in_place}

-- the living processes, by number
abbrev pub living : Objects → List ℕ
living w = filter (lives w.things.queue) processes

-- the numbers of points, and of user locks
abbrev pub points : List ℕ
points = range_with_len 0 16

-- balances and spent amounts of a process
abbrev pub acct_row : Objects → ℕ → RawRow
acct_row w p =
    let a = w.accounts.acct p in
    RawRow.Acct p (a.balance Steps ∷ a.balance Records ∷ a.balance Locks ∷ a.spent Steps
    ∷ a.spent Records ∷ a.spent Locks ∷ [])

-- the cells of a process
abbrev pub cells_row : Objects → ℕ → RawRow
cells_row w p =
    RawRow.Cells p (w.things.cell p 0 ∷ w.things.cell p 1 ∷ w.things.cell p 2 ∷ w.things.cell p 3
    ∷ [])

-- the name of a file
abbrev pub name_of_file : Option FileRow → List ℕ
name_of_file None = []
name_of_file (Some r) = r.name

-- an open file
abbrev pub open_row : World → Objects → ℕ → ℕ → Option RawRow
open_row v w p fd =
    option_map (λ (o : OpenRow). RawRow.OpenFile p fd (name_of_file (file_row v o.file)) o)
    (w.things.file p fd)

-- the open files of a process
abbrev pub open_rows : World → Objects → ℕ → List RawRow
open_rows v w p = filter_map (open_row v w p) (range_with_len 0 4)

-- a graft at a point
abbrev pub graft_row : Objects → ℕ → ℕ → Option RawRow
graft_row w q pt =
    option_map (λ (g : GraftValue). RawRow.Graft q pt g.image g.limit g.billed
    (g.balance Steps ∷ g.balance Records ∷ g.balance Locks ∷ []))
    (w.accounts.graft q pt)

-- the grafts of a process
abbrev pub graft_rows : Objects → ℕ → List RawRow
graft_rows w q = filter_map (graft_row w q) points

-- the parameter of the chosen policy, if it has one
abbrev pub shown_param : ℕ → PolValue → Option ℕ
shown_param kind p = option_map (λ top. p.param p.chosen) (param_top kind p.chosen)

-- the chosen policy of a kind
abbrev pub pol_row : Objects → ℕ → RawRow
pol_row w kind = RawRow.Pol kind (w.things.pol kind).chosen (shown_param kind (w.things.pol kind))

-- a frame in use
abbrev pub frame_row_of : Objects → ℕ → Option FrameRow
frame_row_of w f =
    option_map (λ (x : FrameValue). record {
      frame = f;
      owner = x.owner;
      block = x.block;
      dirty = x.dirty;
      mark = x.mark;
    }) (w.things.cache.frame f)

-- a held user lock
abbrev pub lock_row : Objects → ℕ → Option RawRow
lock_row w u = option_map (λ p. RawRow.Lock u p) (w.things.lock u)

-- ---- calls in flight

-- an entry and its blocker
abbrev pub wait_of : Waiter → Blocker → WaitRow
wait_of e b = record { object = b.object; holder = b.holder; count = e.count }

-- what an entry waits for
abbrev pub wait_by : Option Waiter → Option WaitRow
wait_by None = None
wait_by (Some e) = option_map (wait_of e) e.blocker

-- what a process waits for
abbrev pub wait_row : Kernel → ℕ → Option WaitRow
wait_row k p = wait_by (find (λ (e : Waiter). e.process == p) k.order)

-- the innermost of these levels
abbrev pub top_of : List Level → Option TopRow
top_of [] = None
top_of (l ∷ ls) = Some (record { installer = l.owner; point = l.point; depth = suc (length ls) })

-- the rows of levels, innermost first
abbrev pub rows_of_levels : ℕ → List Level → List RawRow
rows_of_levels p [] = []
rows_of_levels p (l ∷ ls) = RawRow.Level p (length ls) l.owner l.point l.count ∷ rows_of_levels p ls

-- a record, with the level that owns it
abbrev pub undo_row : ℕ → ℕ × Found → RawRow
undo_row p r = RawRow.Undo p r.0 r.1.inverse

module _ (m : Meaning) where
  -- a call in flight
  abbrev pub call_row : Kernel → ℕ → Option RawRow
  call_row k p =
      option_map (λ (c : Call). RawRow.Call p c.number (wait_row k p) (top_of (levels_of m k p)))
      (k.call p)

  -- the levels of a call, outermost first
  abbrev pub level_rows : Kernel → ℕ → List RawRow
  level_rows k p = reverse (rows_of_levels p (levels_of m k p))

  -- the records of a call, newest first
  abbrev pub undo_rows : Kernel → ℕ → List RawRow
  undo_rows k p = map (undo_row p) (numbered_log (undo_log (levels_of m k p)))

  -- the rows of these objects, and of the calls of a kernel
  abbrev pub rows_on : Kernel → Objects → List RawRow
  rows_on k w =
      RawRow.Clock k.clock ∷ RawRow.Queue w.things.queue ∷ map (acct_row w) (living w)
      ++ map (cells_row w) (living w)
      ++ flat_map (open_rows k.world w) processes ++ flat_map (graft_rows w) processes
      ++ map (pol_row w) (0 ∷ 1 ∷ 2 ∷ [])
      ++ RawRow.Lru (filter_map (frame_row_of w) w.things.cache.lru)
      ∷ filter_map (lock_row w) points
      ++ filter_map (call_row k) processes ++ flat_map (level_rows k) processes
      ++ flat_map (undo_rows k) processes

  -- the rows of a kernel, in order
  abbrev pub raw_rows : Kernel → List RawRow
  raw_rows k = rows_on k (in_place m k)
