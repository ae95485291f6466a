use Rattle.commands.proofs.raw_to_sealed.boxed_line.Goals as goal

pub returns : goal.returns
returns c = rw (← c.code.ensures.code, ← c.body.ensures.body) c.sealed_line.ensures
