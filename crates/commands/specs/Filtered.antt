-- What a filter does to its source and its sink.
use Rattle.std.specs.Prelude.{◌≡◌, ◌≢◌, ◌==◌, ℕ, ◌+◌, ◌≤◌, List, length, Option}
use Rattle.std.specs.Io.KnownBytes.{Appends, Consumes, IsAtEnd, Keeps}
use Rattle.vino_base.specs.Faults.{Rose}
use Rattle.vino_base.specs.Streams.{SourceSeen, SinkSeen, IsUsed, AppendsPart}
use Rattle.script_model.specs.Outcome.{Ending, End, Fault, Over, SCRIPT_BYTES}
use Rattle.script_model.specs.Filters.{Filter, Answer, IsFilterAnswer}

-- what the source did where reading ended so
abbrev pub HasEnded : Ending → List ℕ → (s t : SourceSeen) → Type 0
HasEnded End taken s t = (length taken ≤ SCRIPT_BYTES) × IsAtEnd t.rest
HasEnded Fault taken s t = (length taken ≤ SCRIPT_BYTES) × Rose s.device.faults t.device.faults
HasEnded Over taken s t = length taken ≡ SCRIPT_BYTES + 1

-- the source gave these bytes, and reading ended so
pub record Took (s t : SourceSeen) (taken : List ℕ) (ending : Ending) : Type 0 where
  pub consumed : Consumes s.rest t.rest taken
  pub ended : HasEnded ending taken s t

-- the source gave some bytes, at most one more than an input may have
pub record Gave (s t : SourceSeen) : Type 0 where
  pub taken : List ℕ
  pub within : length taken ≤ SCRIPT_BYTES + 1
  pub consumed : Consumes s.rest t.rest taken

-- The source gave some bytes, at most one more than an input may have, and reading ended somehow.
-- The status is that of an answer of the filter, and the sink took its bytes. Each filter but
-- `lang` has one answer to an input.
pub record Ran (f : Filter) (s t : SourceSeen) (k m : SinkSeen) (status : ℕ) : Type 0 where
  pub taken : List ℕ
  pub ending : Ending
  pub within : length taken ≤ SCRIPT_BYTES + 1
  pub consumed : Consumes s.rest t.rest taken
  pub ended : HasEnded ending taken s t
  pub answer : Answer
  pub answers : IsFilterAnswer f taken ending answer
  pub status_is : status ≡ answer.status
  pub appended : Appends k.got m.got answer.written

-- The same, but the sink took a part of the answer's bytes, not whole.
pub record Broke (f : Filter) (s t : SourceSeen) (k m : SinkSeen) : Type 0 where
  pub taken : List ℕ
  pub ending : Ending
  pub within : length taken ≤ SCRIPT_BYTES + 1
  pub consumed : Consumes s.rest t.rest taken
  pub ended : HasEnded ending taken s t
  pub answer : Answer
  pub answers : IsFilterAnswer f taken ending answer
  pub short : AppendsPart k.got m.got answer.written

-- A filter read its input and answered with this status.
pub record Filtered (f : Filter) (s t : SourceSeen) (k m : SinkSeen) (status : ℕ) : Type 0 where
  -- the status and the bytes written are those of an answer to the bytes that were taken
  pub ran : status ≢ 4 → status ≢ 5 → Ran f s t k m status
  -- where the sink fails it took a part of those bytes, not whole
  pub broke : status ≡ 4 → Broke f s t k m
  -- with no memory nothing is written
  pub memory : status ≡ 5 → Gave s t × Keeps k.got m.got
  -- the source fails only with 3 and the sink only with 4; none is called again behind that
  pub source : IsUsed s.device t.device (status == 3)
  pub sink : IsUsed k.device m.device (status == 4)
