use Rattle.graft_syntax.proofs.names.is_in_chain.Given as goal

abbrev pub decreases-loop-entry : goal.decreases-loop-entry
decreases-loop-entry l = l.number
