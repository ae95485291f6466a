use Rattle.std.proofs.Common.{arith}
use Rattle.std.proofs.lemmas.Bool.Decides.{nat_tests}
use Rattle.audit_state.proofs.Things.victim_key.Goals as goal

pub returns-then-chosen-eq0 : goal.returns-then-chosen-eq0
returns-then-chosen-eq0 c = λ bytes.
    let same = c.chosen.ensures bytes in
    let none = c.if-chosen-eq0.true in
    grind (arith, nat_tests)

pub returns-else-chosen-eq0 : goal.returns-else-chosen-eq0
returns-else-chosen-eq0 c = λ bytes.
    let same = c.chosen.ensures bytes in
    let mark = c.mark_of.ensures bytes in
    let param = c.param.ensures bytes in
    let some = c.if-chosen-eq0.false in
    grind (arith, nat_tests, c.max.ensures, c.from.ensures)
