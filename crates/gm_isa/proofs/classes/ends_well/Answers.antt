use Rattle.std.proofs.Common.{sym, ◌∙◌, arith}
use Rattle.gm_isa.proofs.Ends.{ends_well-last}
use Rattle.gm_isa.proofs.classes.ends_well.Goals as goal

pub returns-in-Some : goal.returns-in-Some
returns-in-Some c =
    c.is_end.ensures ∙ sym (ends_well-last c.args.code.now c.in-Some.i.now c.in-Some.ensures.value
    (omega (arith, c.in-Some.ensures.item.3.0)))
