-- All laws of a table of calls hold of the calls of stream points.
use Rattle.kernel_model.specs.StreamPoints.{stream_points}
use Rattle.kernel_model.specs.Laws.{Laws}
use Rattle.call_laws.specs.StreamNeeds.{needs_of_streams}
use Rattle.call_laws.specs.StreamAsks.{asks_of_streams}
use Rattle.call_laws.specs.StreamFootprint.{footprint_of_streams}
use Rattle.call_laws.specs.StreamKeeping.{pieces_of_streams}
use Rattle.call_laws.specs.StreamDiskCalls.{disk_calls_of_streams}
use Rattle.call_laws.specs.StreamStages.{stages_of_streams}

-- the laws of needs, of asking, of what a piece looks at, changes and keeps, of disk calls and of
-- stages
pub laws_of_stream_points : Laws stream_points
laws_of_stream_points =
    record {
      need = needs_of_streams;
      ask = asks_of_streams;
      footprint = footprint_of_streams;
      piece = pieces_of_streams;
      disk_calls = disk_calls_of_streams;
      stages = stages_of_streams;
    }
