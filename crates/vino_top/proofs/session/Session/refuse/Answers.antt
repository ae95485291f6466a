-- The line that tells of the refusal is all that is left behind.
use Rattle.std.proofs.Common.{◌≡◌, [], length, ◌∙◌, ap, arith}
use Rattle.vino_top.proofs.session.Session.refuse.Goals as goal

pub add-requires : goal.add-requires
add-requires g c =
    let none : c.args.out.now.lines ≡ [] = c.requires.bytes_are in
    let count : length c.args.out.now.lines ≡ 0 = ap length none in
    omega (arith, count)

pub returns-clause-text : goal.returns-clause-text
returns-clause-text g c =
    let none : c.args.out.now.lines ≡ [] = c.requires.bytes_are in
    record { bytes_are = c.add.ensures.value ∙ rw none c.print_fault.ensures; no_notes = c.requires.no_notes }
