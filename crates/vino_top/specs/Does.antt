-- What a call of `vino` does, by what the words of the command line ask.
use Rattle.std.specs.Prelude.{◌≡◌, ◌≢◌, ◌==◌, ℕ, ◌⊎◌}
use Rattle.std.specs.Io.KnownBytes.{Appends, Keeps}
use Rattle.vino_base.specs.Streams.{SinkSeen, IsUsed, AppendsPart}
use Rattle.vino_base.specs.Disks.{DiskSeen}
use Rattle.script_model.specs.Text.{line, usage_text}
use Rattle.script_model.specs.Filters.{Filter}
use Rattle.script_model.specs.Filters as filter
use Rattle.commands.specs.Filtered.{Filtered}
use Rattle.commands.specs.declared.command_line.Asked.{Asked}
use Rattle.commands.specs.declared.command_line.Asked.TheVariants.{Run, Box, Check, Reseal, Asm}
use Rattle.commands.specs.declared.command_line.Asked.TheVariants.{Dis, Lang, Audit, Demo, Nothing}
use Rattle.vino_top.specs.Run.{Place, place, Devices, Ran, Broke, Lacked}
use Rattle.vino_top.specs.Demos.{DemoRan, DemoLacked}

-- a script was run under these keys, over a disk of this size
pub record RunDoes (c : Place) (x y : Devices) (status : ℕ) : Type 0 where
  pub known : status ≢ 1
  -- the status, the lines and the disk's blocks are those of the outcome
  pub ran : status ≢ 4 → status ≢ 5 → Ran c x y status
  -- the sink failed: it took what some lines write, and of what comes next a part, not whole
  pub broke : status ≡ 4 → Broke c x y
  -- want of memory stopped the run before its first byte, or at an `image` line: the lines before
  -- it are written
  pub memory : status ≡ 5 → Keeps x.source.rest y.source.rest × Keeps x.sink.got y.sink.got
      × (y.disk ≡ x.disk)
      ⊎ Lacked c x y

-- a script was run so, ended with a status of runs, and blamed its source or its sink only where
-- that failed
pub record RunAnswers (c : Place) (x y : Devices) (status : ℕ) : Type 0 where
  pub does : RunDoes c x y status
  pub statuses : (status ≡ 0) ⊎ (status ≡ 2) ⊎ (status ≡ 3) ⊎ (status ≡ 4) ⊎ (status ≡ 5)
      ⊎ (status ≡ 7)
  pub source : IsUsed x.source.device y.source.device (status == 3)
  pub sink : IsUsed x.sink.device y.sink.device (status == 4)

-- a filter read its input, and answered under its keys; the disk stays
pub record FilterDoes (f : Filter) (x y : Devices) (status : ℕ) : Type 0 where
  pub known : status ≢ 1
  pub answered : Filtered f x.source y.source x.sink y.sink status
  pub disk : y.disk ≡ x.disk

-- the usage line was written, nothing was read, and the disk stays
abbrev pub UsageDoes : (x y : Devices) → (status : ℕ) → Type 0
UsageDoes x y status =
    (y.source ≡ x.source) × (y.disk ≡ x.disk)
    × ((status ≡ 1) × Appends x.sink.got y.sink.got (line usage_text)
    ⊎ (status ≡ 4) × AppendsPart x.sink.got y.sink.got (line usage_text))

-- the generated script was run to its end, and the line that tells of it was written
abbrev pub DemoTold : (n : ℕ) → (k m : SinkSeen) → (d e : DiskSeen) → Type 0
DemoTold n k m d e = DemoRan n d.size d e (λ told. Appends k.got m.got told)

-- it was run to its end, and of that line a part was written, not whole
abbrev pub DemoCut : (n : ℕ) → (k m : SinkSeen) → (d e : DiskSeen) → Type 0
DemoCut n k m d e = DemoRan n d.size d e (λ told. AppendsPart k.got m.got told)

-- want of memory stopped it before its first line, or at an `image` line, and nothing was written
abbrev pub DemoUntold : (n : ℕ) → (k m : SinkSeen) → (d e : DiskSeen) → Type 0
DemoUntold n k m d e = Keeps k.got m.got × ((e ≡ d) ⊎ DemoLacked n d.size d e)

-- the generated script was run, and nothing was read
abbrev pub DemoDoes : (n : ℕ) → (x y : Devices) → (status : ℕ) → Type 0
DemoDoes n x y status =
    (y.source ≡ x.source)
    × ((status ≡ 0) × DemoTold n x.sink y.sink x.disk y.disk
    ⊎ (status ≡ 4) × DemoCut n x.sink y.sink x.disk y.disk
    ⊎ (status ≡ 5) × DemoUntold n x.sink y.sink x.disk y.disk)

-- the same, with a status of `demo`, where the sink is blamed only where it failed
pub record DemoAnswers (n : ℕ) (k m : SinkSeen) (d e : DiskSeen) (status : ℕ) : Type 0 where
  pub ran : status ≡ 0 → DemoTold n k m d e
  pub broke : status ≡ 4 → DemoCut n k m d e
  pub memory : status ≡ 5 → DemoUntold n k m d e
  pub statuses : (status ≡ 0) ⊎ (status ≡ 4) ⊎ (status ≡ 5)
  pub sink : IsUsed k.device m.device (status == 4)

-- what is done for what the words ask
abbrev pub Does : Asked → (x y : Devices) → (status : ℕ) → Type 0
Does (Run keys) x y status = RunDoes (place keys x.disk.size) x y status
Does (Box keys keep) x y status = FilterDoes (filter.Box keys keep) x y status
Does (Check keys) x y status = FilterDoes (filter.Check keys) x y status
Does (Reseal keys) x y status = FilterDoes (filter.Reseal keys) x y status
Does Asm x y status = FilterDoes filter.Asm x y status
Does Dis x y status = FilterDoes filter.Dis x y status
Does Lang x y status = FilterDoes filter.Lang x y status
Does (Audit keys) x y status = FilterDoes (filter.Audit keys) x y status
Does (Demo n) x y status = DemoDoes n x y status
Does Nothing x y status = UsageDoes x y status
