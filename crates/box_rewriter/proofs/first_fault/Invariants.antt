use Rattle.std.proofs.Common.{◌≡◌, drop}
use Rattle.box_rewriter.specs.Words.{first_from}
use Rattle.box_rewriter.proofs.first_fault.Given as goal

abbrev pub invariant-loop-pc : goal.invariant-loop-pc
invariant-loop-pc l = first_from l.code l.pc (drop l.pc l.code) ≡ first_from l.code 0 l.code
