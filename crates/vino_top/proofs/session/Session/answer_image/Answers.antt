-- The answer is all that is left behind.
use Rattle.std.proofs.Common.{◌≡◌, [], length, ◌∙◌, ap, refl, arith}
use Rattle.vino_top.proofs.session.Session.answer_image.Goals as goal

pub add-requires : goal.add-requires
add-requires g c =
    let none : c.args.out.now.lines ≡ [] = c.requires.empty.bytes_are in
    let count : length c.args.out.now.lines ≡ 0 = ap length none in
    omega (arith, count)

pub returns-clause-text : goal.returns-clause-text
returns-clause-text g c =
    let none : c.args.out.now.lines ≡ [] = c.requires.empty.bytes_are in
    record { bytes_are = c.add.ensures.value ∙ rw none refl; no_notes = c.requires.empty.no_notes }
