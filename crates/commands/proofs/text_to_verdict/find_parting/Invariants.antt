use Rattle.commands.proofs.Parting.{IsPassed}
use Rattle.commands.proofs.text_to_verdict.find_parting.Given as goal

abbrev pub invariant-loop-at : goal.invariant-loop-at
invariant-loop-at l = IsPassed l.input l.at l.fresh
