-- All laws of a table of calls hold of event points.
use Rattle.kernel_model.specs.Laws.{Laws}
use Rattle.kernel_model.specs.EventPoints.{event_points}
use Rattle.call_laws.specs.EventAsks.{asks_of_events}
use Rattle.call_laws.specs.EventDiskCalls.{disk_calls_of_events}
use Rattle.call_laws.specs.EventFootprint.{footprint_of_events}
use Rattle.call_laws.specs.EventKeeping.{pieces_of_events}
use Rattle.call_laws.specs.EventNeeds.{needs_of_events}
use Rattle.call_laws.specs.EventStages.{stages_of_events}

-- the laws of needs, of asking, of what a piece looks at, changes and keeps, of disk calls and of
-- stages
pub laws_of_event_points : Laws event_points
laws_of_event_points =
    record {
      need = needs_of_events;
      ask = asks_of_events;
      footprint = footprint_of_events;
      piece = pieces_of_events;
      disk_calls = disk_calls_of_events;
      stages = stages_of_events;
    }
