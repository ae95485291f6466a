use Rattle.std.proofs.Common.{arith, ◌<◌, ◌^◌}
use Rattle.std.proofs.lemmas.Bool.Decides.{nat_tests}
use Rattle.script_text.proofs.Numbers.{first_number-is}
use Rattle.script_text.proofs.digits.longer_number.Goals as goal

pub returns-in-Ok : goal.returns-in-Ok
returns-in-Ok c =
    let loop = c.loop-size in
    let i = c.loop-size.invariant in
    let small : loop.n < 2 ^ 32 = grind (arith, c.in-Ok.ensures, c.try_from.ensures) in
    first_number-is c.args.text.now loop.size c.in-Ok.n i.some
    (omega (arith, i.within, c.min-most.ensures)) (omega (arith, i.within, c.min-most.ensures))
    (grind (arith, i.value, c.in-Ok.ensures)) (grind (arith, small, c.in-Ok.ensures)) i.digits
    (grind (arith, nat_tests))
