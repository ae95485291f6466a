-- The rows that show a state, part by part.
use Rattle.std.specs.Prelude.{ℕ, List, [], ◌∷◌, ◌++◌, Option, filter_map, flat_map, map, option_map}
use Rattle.kernel_data.specs.declared.FrameRow.{FrameRow}
use Rattle.kernel_data.specs.declared.RawRow.{RawRow}
use Rattle.kernel_data.specs.Objects.{CacheValue, FrameValue, Objects}
use Rattle.kernel_data.specs.World.{World, processes}
use Rattle.kernel_model.specs.AllCalls.{all_calls}
use Rattle.kernel_model.specs.Kernel.{Kernel}
use Rattle.kernel_model.specs.RawRows as rows
use Rattle.audit_levels.specs.declared.Record.{Record}

-- a frame of a cache, if it is in use
abbrev pub frame_row_in : CacheValue → ℕ → Option FrameRow
frame_row_in cache f =
    option_map (λ (x : FrameValue). record {
      frame = f;
      owner = x.owner;
      block = x.block;
      dirty = x.dirty;
      mark = x.mark;
    }) (cache.frame f)

-- a record of level d of a process
abbrev pub record_row : (p d : ℕ) → Record → RawRow
record_row p d r = RawRow.Undo p d r.inverse

-- clock, queue, accounts and cells, with other rows behind them
abbrev pub process_rows : Kernel → Objects → List RawRow → List RawRow
process_rows k w others =
    RawRow.Clock k.clock ∷ RawRow.Queue w.things.queue ∷ map (rows.acct_row w) (rows.living w)
    ++ map (rows.cells_row w) (rows.living w) ++ others

-- open files, grafts and policies, with other rows behind them
abbrev pub place_rows : World → Objects → List RawRow → List RawRow
place_rows v w others =
    flat_map (rows.open_rows v w) processes ++ flat_map (rows.graft_rows w) processes
    ++ map (rows.pol_row w) (0 ∷ 1 ∷ 2 ∷ []) ++ others

-- frames and user locks, with other rows behind them
abbrev pub frame_rows : Objects → List RawRow → List RawRow
frame_rows w others =
    RawRow.Lru (filter_map (rows.frame_row_of w) w.things.cache.lru)
    ∷ filter_map (rows.lock_row w) rows.points ++ others

-- the calls in flight
abbrev pub flight_rows : Kernel → List RawRow
flight_rows k =
    filter_map (rows.call_row all_calls k) processes ++ flat_map (rows.level_rows all_calls k) processes
    ++ flat_map (rows.undo_rows all_calls k) processes
