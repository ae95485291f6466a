use Rattle.std.proofs.Common.{sym, ap, ◌∙◌}
use Rattle.gm_asm.proofs.LabelLemmas.{joined, label_place-lookup}
use Rattle.gm_asm.proofs.assembly.place_of.Goals as goal

pub returns-in-Some : goal.returns-in-Some
returns-in-Some c =
    sym (label_place-lookup c.args.name.now c.args.labels.now.entries
    ∙ ap joined (sym c.in-Some.ensures.value))

pub returns-in-None : goal.returns-in-None
returns-in-None c =
    sym (label_place-lookup c.args.name.now c.args.labels.now.entries
    ∙ ap joined (sym c.in-None.ensures.value))
