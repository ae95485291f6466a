-- That each line is answered before more is read: what a source whose read fails finds written.
use Rattle.std.specs.Prelude.{◌≡◌, ◌==◌, ℕ, ◌≤◌, Bool, List, length, Some}
use Rattle.std.specs.List.{concat}
use Rattle.std.specs.Io.KnownBytes.{Appends, Consumes}
use Rattle.vino_base.specs.declared.health.Health.TheVariants.{Sound, Broken}
use Rattle.vino_base.specs.Streams.{IsUsed}
use Rattle.script_model.specs.declared.Keys.{Keys}
use Rattle.script_model.specs.Outcome.{SCRIPT_BYTES}
use Rattle.commands.specs.declared.command_line.Asked.TheVariants.{Run}
use Rattle.vino_top.specs.Does.{Does}
use Rattle.vino_top.specs.Run.{Place, place, Devices, MadeAll, ForEachSession, IsFirst, UsesAll}
use Rattle.vino_top.specs.Run.{script_lines, pieces_run}

-- The source gave some bytes, and then a read of it failed. By then all lines among these bytes had
-- been run, and the sink had taken what they write, and no more. No write had failed; so none came
-- behind the read that failed, since that one might have.
pub record AnsweredBeforeFault (c : Place) (x y : Devices) (status : ℕ) : Type 0 where
  pub status_is : status ≡ 3
  pub taken : List ℕ
  pub within : length taken ≤ SCRIPT_BYTES
  pub consumed : Consumes x.source.rest y.source.rest taken
  -- which calls of the disk failed, with one list for each line
  pub ios : List (List Bool)
  pub one_each : length ios ≡ length (script_lines taken)
  pub calls : MadeAll x.disk y.disk ios
  pub used : ForEachSession c (IsFirst c.size x.disk.known)
      (λ c a. UsesAll c a (script_lines taken) ios)
  pub answered : ForEachSession c (IsFirst c.size x.disk.known)
      (λ c a. Appends x.sink.got y.sink.got (concat (pieces_run c a (script_lines taken) ios)))
  pub sink : x.sink.device.health ≡ Some Sound → y.sink.device.health ≡ Some Sound

-- So it is of each run of which these clauses of the top call hold, whose source told that no read
-- had failed before, and tells that one has failed since.
abbrev pub AnswersBeforeReads : Type 0
AnswersBeforeReads =
    (keys : Keys) (x y : Devices) (status : ℕ) →
    Does (Run keys) x y status →
    IsUsed x.source.device y.source.device (status == 3) →
    IsUsed x.sink.device y.sink.device (status == 4) →
    x.source.device.health ≡ Some Sound → y.source.device.health ≡ Some Broken →
    AnsweredBeforeFault (place keys x.disk.size) x y status
