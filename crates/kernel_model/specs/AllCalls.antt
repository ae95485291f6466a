-- All calls of the program: those of processes, files, policies and grafts, together with those of
-- event points and of stream points.
use Rattle.kernel_model.specs.Meaning.{Meaning}
use Rattle.kernel_model.specs.Pieces.{plain_calls}
use Rattle.kernel_model.specs.Beside.{beside}
use Rattle.kernel_model.specs.EventPoints.{is_event_call, event_points}
use Rattle.kernel_model.specs.StreamPoints.{is_stream_call, stream_points}

-- the meaning of all calls
abbrev pub all_calls : Meaning
all_calls = beside is_stream_call stream_points (beside is_event_call event_points plain_calls)
