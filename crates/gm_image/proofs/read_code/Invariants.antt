use Rattle.std.proofs.Common.{length}
use Rattle.gm_image.proofs.Reading.{Reads}
use Rattle.gm_image.proofs.read_code.Given as goal

abbrev pub invariant-loop-word : goal.invariant-loop-word
invariant-loop-word l = Reads l.n l.bytes l.code.items l.pc l.rest

abbrev pub decreases-loop-word : goal.decreases-loop-word
decreases-loop-word l = length l.rest
