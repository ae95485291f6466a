-- What a run writes is one function of the key, the script, the disk's blocks and which of its
-- calls fail.
use Rattle.std.specs.Prelude.{◌≡◌, ℕ, Bool, List, length, flat_map, Option, Some}
use Rattle.std.specs.Io.KnownBytes.{Appends}
use Rattle.vino_base.specs.Calls.{Plan}
use Rattle.vino_base.specs.Streams.{SourceSeen, SinkSeen}
use Rattle.call_pieces.specs.Calls.{Knows, planned}
use Rattle.vino_base.specs.Disks.{DiskSeen}
use Rattle.kernel_data.specs.World.{Blocks}
use Rattle.script_model.specs.Session.{Session}
use Rattle.vino_top.specs.Run.{Place, devices, Ran, UsesAll}

-- the calls of lines, one line after another
abbrev pub all_calls : List (List Bool) → List Bool
all_calls ios = flat_map (λ (io : List Bool). io) ios

-- calls are what a plan gives from its beginning on
abbrev pub ArePlanned : Plan → List Bool → Type 0
ArePlanned p io = io ≡ planned (length io) p

-- Lists of calls, one for each line, of which each line makes its own, no fewer and no more: where
-- they are what a plan gives, they are the only ones.
abbrev pub CallsAreOne : Type 0
CallsAreOne =
    (c : Place) (p : Plan) (a : Session) (lines : List (List ℕ)) (ios jos : List (List Bool))
    → length ios ≡ length lines → length jos ≡ length lines → UsesAll c a lines ios →
    UsesAll c a lines jos
    → ArePlanned p (all_calls ios) → ArePlanned p (all_calls jos) → ios ≡ jos

-- what is seen of a run: its source, its sink and its disk, before and after it, and the status
pub record RunSeen : Type 0 where
  pub source : SourceSeen
  pub source_new : SourceSeen
  pub sink : SinkSeen
  pub sink_new : SinkSeen
  pub disk : DiskSeen
  pub disk_new : DiskSeen
  pub status : ℕ

-- it is what the contract of the top call says of a run that neither lacked memory nor had a sink
-- that failed
abbrev pub IsRun : Place → RunSeen → Type 0
IsRun c x =
    Ran c (devices x.source x.sink x.disk) (devices x.source_new x.sink_new x.disk_new) x.status

-- it began over a disk that tells these blocks and this plan
pub record BeginsOver (blocks : List (List ℕ)) (p : Plan) (x : RunSeen) : Type 0 where
  pub known : x.disk.known ≡ Some blocks
  pub plan : x.disk.plan ≡ Some p

-- two runs came to the same
pub record EndAlike (x y : RunSeen) : Type 0 where
  pub status : x.status ≡ y.status
  -- the bytes that each wrote
  pub bytes : List ℕ
  pub first : Appends x.sink.got x.sink_new.got bytes
  pub second : Appends y.sink.got y.sink_new.got bytes
  -- the blocks that each left
  pub blocks : Blocks
  pub first_blocks : Knows x.disk_new.known blocks
  pub second_blocks : Knows y.disk_new.known blocks
  pub plan : x.disk_new.plan ≡ y.disk_new.plan

-- Runs that took the same bytes and ended reading alike, under one key, come to the same over disks
-- that tell the same.
abbrev pub RunsAreOne : Type 0
RunsAreOne =
    (c : Place) (blocks : List (List ℕ)) (p : Plan) (x y : RunSeen) (one : IsRun c x)
    (other : IsRun c y)
    → BeginsOver blocks p x → BeginsOver blocks p y → one.taken ≡ other.taken →
    one.ending ≡ other.ending → EndAlike x y
