-- The devices in memory, as what they hold.
use Rattle.std.specs.Prelude.{ℕ, Bool, cond, not, min, List, Some, ◌++◌, length, take, drop}
use Rattle.vino_base.specs.declared.health.Health.{Health}
use Rattle.vino_base.specs.Faults.{counted}
use Rattle.vino_base.specs.Calls.{Plan, after_call, call_fails}
use Rattle.vino_base.specs.Streams.{SourceSeen, SinkSeen, health_after}

-- a source: the bytes that are left, its calls, its count of faults, and whether it has failed
pub record SourceState : Type 0 where
  pub rest : List ℕ
  pub plan : Plan
  pub faults : ℕ
  pub health : Health

-- a sink: the bytes that it took, its calls, its count of faults, and whether it has failed
pub record SinkState : Type 0 where
  pub got : List ℕ
  pub plan : Plan
  pub faults : ℕ
  pub health : Health

-- what is seen of a source in memory, which tells all
abbrev pub source_seen : SourceState → SourceSeen
source_seen s = record {
  rest = Some s.rest;
  device = record { faults = s.faults; health = Some s.health };
}

-- what is seen of a sink in memory, which tells all
abbrev pub sink_seen : SinkState → SinkSeen
sink_seen s = record {
  got = Some s.got;
  device = record { faults = s.faults; health = Some s.health };
}

-- how many bytes a read into so much room gives
abbrev pub given : ℕ → SourceState → ℕ
given room s = min room (length s.rest)

-- a source after a read into so much room: a failed one takes nothing
abbrev pub source_after : ℕ → SourceState → SourceState
source_after room s =
    record {
      rest = cond (call_fails s.plan) s.rest (drop (given room s) s.rest);
      plan = after_call s.plan;
      faults = cond (call_fails s.plan) (counted s.faults) s.faults;
      health = health_after (call_fails s.plan) s.health;
    }

-- a buffer after a read
abbrev pub buffer_after : List ℕ → SourceState → List ℕ
buffer_after buf s =
    cond (call_fails s.plan) buf (take (given (length buf) s) s.rest
    ++ drop (given (length buf) s) buf)

-- a sink after a write of these bytes, which it took whole or not at all
abbrev pub sink_after : Bool → List ℕ → SinkState → SinkState
sink_after took bytes s =
    record {
      got = cond took (s.got ++ bytes) s.got;
      plan = after_call s.plan;
      faults = cond took s.faults (counted s.faults);
      health = health_after (not took) s.health;
    }
