use Rattle.std.proofs.Common.{arith, ◌≡◌, ◌∙◌, length, sym}
use Rattle.std.proofs.lemmas.Bool.Decides.{nat_tests}
use Rattle.script_text.proofs.Plain.{whole_line}
use Rattle.script_text.proofs.line_buf.LineBuf.next_whole.Goals as goal

pub returns-in-Some : goal.returns-in-Some
returns-in-Some c =
    let empty : length c.self.inside.bytes.items ≡ 0 =
    grind (arith, nat_tests, c.is_empty.ensures, c.if-not-is_empty.false) in
    rw (← c.self.view_is) (whole_line c.self.inside.bytes.items c.args.bytes.now c.in-Some.end empty
    (sym c.first_newline.ensures ∙ c.in-Some.is) c.if-end-le-LINE_BYTES.true)
