use Rattle.std.proofs.Common.{arith}
use Rattle.std.proofs.lemmas.Bool.Decides.{nat_tests}
use Rattle.audit_state.proofs.Things.ahead_count.Goals as goal

pub returns-then-chosen-eq0 : goal.returns-then-chosen-eq0
returns-then-chosen-eq0 c = λ bytes.
    let same = c.chosen-chosen.ensures bytes in
    let none = c.if-chosen-eq0.true in
    grind (arith, nat_tests)

pub returns-then-sequential : goal.returns-then-sequential
returns-then-sequential c = λ bytes.
    let same = c.chosen-chosen.ensures bytes in
    let param = c.param.ensures bytes in
    let some = c.if-chosen-eq0.false in
    let one = c.if-chosen-eq1.true in
    let yes = c.if-sequential.true in
    grind (arith, nat_tests, c.min.ensures, c.min-then-sequential.ensures, c.from.ensures)

pub returns-else-sequential : goal.returns-else-sequential
returns-else-sequential c = λ bytes.
    let same = c.chosen-chosen.ensures bytes in
    let some = c.if-chosen-eq0.false in
    let one = c.if-chosen-eq1.true in
    let no = c.if-sequential.false in
    grind (arith, nat_tests)

pub returns-else-chosen-eq1 : goal.returns-else-chosen-eq1
returns-else-chosen-eq1 c = λ bytes.
    let same = c.chosen-chosen.ensures bytes in
    let param = c.param-else-chosen-eq1.ensures bytes in
    let some = c.if-chosen-eq0.false in
    let more = c.if-chosen-eq1.false in
    grind (
      arith,
      nat_tests,
      c.min-else-chosen-eq1.ensures,
      c.min-else-chosen-eq1-2.ensures,
      c.from-else-chosen-eq1.ensures,
    )
