use Rattle.std.proofs.Common.{◌-◌, length}
use Rattle.lab_watch.proofs.watch.written_by.Given as goal

abbrev pub decreases-loop-next : goal.decreases-loop-next
decreases-loop-next l = length l.pieces - l.next
