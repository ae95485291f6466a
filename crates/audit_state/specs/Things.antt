-- The other objects of the code as those of the definitions. The bytes of frames stand apart: no
-- graft changes them.
use Rattle.std.specs.Prelude.{ℕ, List, Option, Some, None, option_map}
use Rattle.kernel_model.specs.Objects.{FrameValue, PolValue}
use Rattle.kernel_model.specs.Objects as model
use Rattle.audit_table.specs.declared.Row.{Row}
use Rattle.audit_table.specs.Tables.{table_of, column_of, by_place}
use Rattle.audit_state.specs.declared.Frame.{Frame}
use Rattle.audit_state.specs.declared.Kept.{Kept}
use Rattle.audit_state.specs.declared.Things.{Things}

-- what a frame holds, where these are its bytes
abbrev pub value_of : List ℕ → Frame → FrameValue
value_of bytes f =
    record { owner = f.owner; block = f.block; dirty = f.dirty; mark = f.mark; bytes = bytes }

-- what a frame holds, if it is in use
abbrev pub frame_of : List ℕ → Option Frame → Option FrameValue
frame_of bytes None = None
frame_of bytes (Some f) = Some (value_of bytes f)

-- a kept segment by place
abbrev pub kept_of : Kept → ℕ → ℕ
kept_of k = by_place k.bytes.value.items

-- the kept segments, by process and point
abbrev pub segments_of : List (Row (Option Kept)) → ℕ → ℕ → Option (ℕ → ℕ)
segments_of rows q pt = option_map kept_of (table_of None rows q pt)

-- a policy: which one is chosen, and the parameter of each
abbrev pub policy_of : ℕ → (ℕ → ℕ) → PolValue
policy_of chosen param = record { chosen = chosen; param = param }

-- all objects but accounts and grafts, where the frames hold these bytes
abbrev pub things_of : (ℕ → List ℕ) → Things → model.Things
things_of bytes w =
    record {
      cell = table_of 0 w.cells.items;
      file = table_of None w.files.items;
      queue = w.queue.items;
      cache = record {
        frame = λ f. frame_of (bytes f) (column_of None w.frames.items f);
        lru = w.lru.items;
      };
      lock = column_of None w.locks.items;
      pol = λ kind. policy_of (column_of 0 w.chosen.items kind) (table_of 0 w.params.items kind);
      segment = segments_of w.segments.items;
      handlers = w.handlers.items;
    }
