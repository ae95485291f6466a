-- The line is what the definitions say of where it ends.
use Rattle.std.proofs.Common.{sym, ap, ◌∙◌, ◌≡◌, ◌≤◌, None, Some, length, arith}
use Rattle.std.proofs.lemmas.Bool.Decides.{nat_tests}
use Rattle.commands.specs.Lines.{bytes_view}
use Rattle.commands.proofs.FirstLine.{said, unfinished, whole, more_behind}
use Rattle.commands.proofs.hex_line.read_hex_line.Goals as goal

pub returns-in_default : goal.returns-in_default
returns-in_default c =
    said c.args.input.now _ c.split_at.result.1.now c.line_end.result None c.line_end.ensures.value
    c.split_at.ensures.front c.split_at.ensures.back
    (sym (ap bytes_view c.in_default.is) ∙ c.in_ok-bytes.ensures)

pub returns-then-is_empty : goal.returns-then-is_empty
returns-then-is_empty c =
    let empty : length c.split_at.result.1.now ≡ 0 = grind (arith, nat_tests, c.if-is_empty.ensures) in
    unfinished c.in-Some.bytes.items c.split_at.result.1.now empty
    ∙ said c.args.input.now _ c.split_at.result.1.now c.line_end.result (Some c.in-Some.bytes.items)
    c.line_end.ensures.value c.split_at.ensures.front c.split_at.ensures.back
    (sym (ap bytes_view c.in-Some.is) ∙ c.in_ok-bytes.ensures)

pub returns-then-rest-gt1 : goal.returns-then-rest-gt1
returns-then-rest-gt1 c =
    more_behind c.in-Some.bytes.items c.split_at.result.1.now c.if-rest-gt1.true
    ∙ said c.args.input.now _ c.split_at.result.1.now c.line_end.result (Some c.in-Some.bytes.items)
    c.line_end.ensures.value c.split_at.ensures.front c.split_at.ensures.back
    (sym (ap bytes_view c.in-Some.is) ∙ c.in_ok-bytes.ensures)

pub returns : goal.returns
returns c =
    let newline : length c.split_at.result.1.now ≡ 0 → ⊥ = grind (arith, nat_tests, c.if-is_empty.ensures) in
    let alone : length c.split_at.result.1.now ≤ 1 = omega (arith, c.if-rest-gt1.false) in
    whole c.in-Some.bytes.items c.split_at.result.1.now newline alone
    ∙ said c.args.input.now _ c.split_at.result.1.now c.line_end.result (Some c.in-Some.bytes.items)
    c.line_end.ensures.value c.split_at.ensures.front c.split_at.ensures.back
    (sym (ap bytes_view c.in-Some.is) ∙ c.in_ok-bytes.ensures)
