use Rattle.std.proofs.Common.{◌≡◌, length}
use Rattle.lab_lines.specs.Wanted.{are_wanted, is_wanted}
use Rattle.lab_lines.proofs.testing.is_wanted.Given as goal

abbrev pub invariant-loop-want : goal.invariant-loop-want
invariant-loop-want l = is_wanted l.fn.want l.fn.line ≡ are_wanted l.wants l.words

abbrev pub decreases-loop-want : goal.decreases-loop-want
decreases-loop-want l = length l.wants
