use Rattle.graft_accessors.proofs.answer.Goals as goal

pub returns-in-5 : goal.returns-in-5
returns-in-5 g c = rw c.in-5.is (c.window_set.ensures _)

pub returns-in-9 : goal.returns-in-9
returns-in-9 g c = rw c.in-9.is (c.frame_mark.ensures _)
