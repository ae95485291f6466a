-- What the run of a lab file's script was, and the status that `lab` has for it.
use Rattle.std.specs.Prelude.{◌==◌, ℕ, cond, List}
use Rattle.vino_base.specs.Disks.{DiskSeen}
use Rattle.lab_watch.specs.declared.running.Ran.{Ran}
use Rattle.lab_watch.specs.Running.{RunsScript}

-- a run of this script under the keys of this word, over some disk
pub record WasRun (word script : List ℕ) (ran : Ran) : Type 0 where
  pub before : DiskSeen
  pub after : DiskSeen
  pub runs : RunsScript word script ran.source ran.lines before after ran.status

-- the status that is told of a run: a sink in memory fails for want of memory
abbrev pub status_told : ℕ → ℕ
status_told status = cond (status == 4) 5 status
