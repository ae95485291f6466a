use Rattle.commands.proofs.raw_to_sealed.image_answer.Goals as goal

pub returns-in-Ok : goal.returns-in-Ok
returns-in-Ok c = rw (c.in-Ok.ensures.code, ← c.in-Ok.ensures.body) c.boxed_line.ensures
