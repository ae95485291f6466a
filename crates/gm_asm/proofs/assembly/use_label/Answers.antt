use Rattle.std.proofs.Common.{sym, ◌∙◌}
use Rattle.gm_asm.proofs.LabelLemmas.{with_use-there, with_use-insert}
use Rattle.gm_asm.proofs.assembly.use_label.Goals as goal

pub returns-then-contains_key : goal.returns-then-contains_key
returns-then-contains_key c =
    sym (with_use-there c.args.name.now c.args.labels.now.entries
    (sym c.contains_key.ensures ∙ c.if-contains_key.true))

pub returns-in-Ok : goal.returns-in-Ok
returns-in-Ok c =
    rw c.in-Ok.ensures.entries
    (with_use-insert c.args.name c.args.labels.now.entries (sym c.contains_key.ensures ∙ c.if-contains_key.false))
