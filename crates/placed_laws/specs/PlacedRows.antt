-- The rows that show a kernel in place.
use Rattle.std.specs.Prelude.{ℕ, ◌==◌, List, [], ◌∷◌, ◌++◌, Option, map, filter_map, flat_map, find}
use Rattle.std.specs.Prelude.{option_map, reverse}
use Rattle.kernel_model.specs.declared.RawRow.{RawRow}
use Rattle.kernel_model.specs.declared.WaitRow.{WaitRow}
use Rattle.kernel_model.specs.World.{processes}
use Rattle.kernel_model.specs.UndoLog.{undo_log, numbered_log}
use Rattle.kernel_model.specs.Kernel.{Waiter}
use Rattle.kernel_model.specs.RawRows.{living, points, acct_row, cells_row, open_rows, graft_rows}
use Rattle.kernel_model.specs.RawRows.{pol_row, frame_row_of, lock_row, wait_by, top_of}
use Rattle.kernel_model.specs.RawRows.{rows_of_levels, undo_row}
use Rattle.placed_laws.specs.Placed.{PlacedCall, Placed, placed_levels}

-- what a process waits for
abbrev pub placed_wait_row : Placed → ℕ → Option WaitRow
placed_wait_row x p = wait_by (find (λ (e : Waiter). e.process == p) x.order)

-- a call in flight
abbrev pub placed_call_row : Placed → ℕ → Option RawRow
placed_call_row x p =
    option_map (λ (c : PlacedCall). RawRow.Call p c.number (placed_wait_row x p)
    (top_of (placed_levels x p))) (x.call p)

-- the levels of a call, outermost first
abbrev pub placed_level_rows : Placed → ℕ → List RawRow
placed_level_rows x p = reverse (rows_of_levels p (placed_levels x p))

-- the records of a call, newest first
abbrev pub placed_undo_rows : Placed → ℕ → List RawRow
placed_undo_rows x p = map (undo_row p) (numbered_log (undo_log (placed_levels x p)))

-- the rows of a kernel in place, in order
abbrev pub placed_rows : Placed → List RawRow
placed_rows x =
    let w = x.objects in
    RawRow.Clock x.clock ∷ RawRow.Queue w.things.queue ∷ map (acct_row w) (living w)
    ++ map (cells_row w) (living w)
    ++ flat_map (open_rows x.world w) processes ++ flat_map (graft_rows w) processes
    ++ map (pol_row w) (0 ∷ 1 ∷ 2 ∷ [])
    ++ RawRow.Lru (filter_map (frame_row_of w) w.things.cache.lru)
    ∷ filter_map (lock_row w) points
    ++ filter_map (placed_call_row x) processes ++ flat_map (placed_level_rows x) processes
    ++ flat_map (placed_undo_rows x) processes
