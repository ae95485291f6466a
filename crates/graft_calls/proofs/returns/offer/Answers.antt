use Rattle.graft_levels.proofs.Completing.{unanswered}
use Rattle.graft_calls.proofs.returns.offer.Goals as goal

pub returns-then-not-is_valid-clause-answer : goal.returns-then-not-is_valid-clause-answer
returns-then-not-is_valid-clause-answer g c =
    λ registers is. absurd (unanswered _ _ _ _ registers tt c.drop_innermost.ensures.step is)
