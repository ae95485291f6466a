use Rattle.lab_lowering.proofs.script.sealed.Goals as goal

pub returns : goal.returns
returns c = rw (← c.keep.ensures, ← c.body.ensures.body) c.seal_under.ensures
