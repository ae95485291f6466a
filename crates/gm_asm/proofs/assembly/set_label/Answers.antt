use Rattle.gm_asm.proofs.LabelLemmas.{with_place-insert}
use Rattle.gm_asm.proofs.assembly.set_label.Goals as goal

pub returns-in-Ok : goal.returns-in-Ok
returns-in-Ok c = rw c.in-Ok.ensures.entries (with_place-insert c.args.name c.args.place c.args.labels.now.entries)
