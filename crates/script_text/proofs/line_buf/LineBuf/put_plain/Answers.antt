use Rattle.std.proofs.Common.{rules, ◌≡◌, ◌+◌, ◌≤◌, ◌++◌, ◌∙◌, ◌==◌, length, take, arith, sym}
use Rattle.std.specs.List.{position_or_len}
use Rattle.script_text.proofs.Plain.{plain_lines}
use Rattle.script_text.proofs.line_buf.LineBuf.put_plain.Goals as goal

pub returns-clause-no_line : goal.returns-clause-no_line
returns-clause-no_line c =
    let bytes = c.args.bytes.now in
    let l = c.self.inside.bytes.items in
    let n = c.min-n.result in
    let within : n ≤ position_or_len (λ b. b == 10) bytes =
    omega (arith, c.min-n.ensures, c.plain_length.ensures.value) in
    let room : length l + n ≤ 65536 = omega (arith, c.min-n.ensures, c.len-room.ensures, c.self.invariant) in
    rw (← c.self.view_is) ((plain_lines l bytes n within room).0)

pub returns-clause-line : goal.returns-clause-line
returns-clause-line c =
    let bytes = c.args.bytes.now in
    let l = c.self.inside.bytes.items in
    let n = c.min-n.result in
    let within : n ≤ position_or_len (λ b. b == 10) bytes =
    omega (arith, c.min-n.ensures, c.plain_length.ensures.value) in
    let room : length l + n ≤ 65536 = omega (arith, c.min-n.ensures, c.len-room.ensures, c.self.invariant) in
    let new : c.extend_from_slice.new.self.items ≡ l ++ take n bytes = search rules in
    rw (← c.self.view_is) ((plain_lines l bytes n within room).1 ∙ sym new)
