-- Where a block came from that a call asked for.
use Rattle.std.specs.Prelude.{◌==◌, ◌&&◌, cond}
use Rattle.lab_measure.specs.declared.origins.Asked.{Asked}
use Rattle.lab_measure.specs.declared.origins.Origin.{Origin}
use Rattle.lab_measure.specs.declared.origins.Origin.TheVariants as origin

-- A call that goes on alone finds the block exactly where a frame held it before. Where others go on
-- too, it finds a block that nobody read; one that was read once and is still held was read by the
-- owner of its frame; of any other it can't be told.
abbrev pub origin_of : Asked → Origin
origin_of asked =
    cond asked.alone
    (cond asked.was_held origin.Cache origin.Disk)
    (cond (asked.loads == 0) origin.Cache
    (cond ((asked.loads == 1) && asked.is_held)
    (cond asked.is_own origin.Disk origin.Cache)
    origin.Untold))
