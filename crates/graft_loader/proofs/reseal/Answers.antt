use Rattle.graft_loader.proofs.reseal.Goals as goal

pub returns-clause-ok : goal.returns-clause-ok
returns-clause-ok c = rw c.in_ok-image.ensures.ok c.sealed_again.ensures.ok
