-- A number below a power of ten has so many digits.
use Rattle.std.proofs.Common.{arith, sym}
use Rattle.line_text.proofs.Lengths.{one_digit, two_digits, three_digits, four_digits, five_digits, six_digits}
use Rattle.line_text.proofs.cells.number.Goals as goal

pub put_digits-requires-clause-count : goal.put_digits-requires-clause-count
put_digits-requires-clause-count c = sym (one_digit c.args.n c.if-n-lt10.true)

pub put_digits-requires-clause-room : goal.put_digits-requires-clause-room
put_digits-requires-clause-room c = omega (arith, c.requires, one_digit c.args.n c.if-n-lt10.true)

pub put_digits-requires-then-n-lt100-clause-count : goal.put_digits-requires-then-n-lt100-clause-count
put_digits-requires-then-n-lt100-clause-count c = sym (two_digits c.args.n c.if-n-lt10.false c.if-n-lt100.true)

pub put_digits-requires-then-n-lt100-clause-room : goal.put_digits-requires-then-n-lt100-clause-room
put_digits-requires-then-n-lt100-clause-room c =
    omega (arith, c.requires, two_digits c.args.n c.if-n-lt10.false c.if-n-lt100.true)

pub put_digits-requires-then-n-lt1000-clause-count : goal.put_digits-requires-then-n-lt1000-clause-count
put_digits-requires-then-n-lt1000-clause-count c = sym (three_digits c.args.n c.if-n-lt100.false c.if-n-lt1000.true)

pub put_digits-requires-then-n-lt1000-clause-room : goal.put_digits-requires-then-n-lt1000-clause-room
put_digits-requires-then-n-lt1000-clause-room c =
    omega (arith, c.requires, three_digits c.args.n c.if-n-lt100.false c.if-n-lt1000.true)

pub put_digits-requires-then-n-lt10000-clause-count : goal.put_digits-requires-then-n-lt10000-clause-count
put_digits-requires-then-n-lt10000-clause-count c = sym (four_digits c.args.n c.if-n-lt1000.false c.if-n-lt10000.true)

pub put_digits-requires-then-n-lt10000-clause-room : goal.put_digits-requires-then-n-lt10000-clause-room
put_digits-requires-then-n-lt10000-clause-room c =
    omega (arith, c.requires, four_digits c.args.n c.if-n-lt1000.false c.if-n-lt10000.true)

pub put_digits-requires-then-n-lt100000-clause-count : goal.put_digits-requires-then-n-lt100000-clause-count
put_digits-requires-then-n-lt100000-clause-count c =
    sym (five_digits c.args.n c.if-n-lt10000.false c.if-n-lt100000.true)

pub put_digits-requires-then-n-lt100000-clause-room : goal.put_digits-requires-then-n-lt100000-clause-room
put_digits-requires-then-n-lt100000-clause-room c =
    omega (arith, c.requires, five_digits c.args.n c.if-n-lt10000.false c.if-n-lt100000.true)

pub put_digits-requires-then-n-lt1000000-clause-count : goal.put_digits-requires-then-n-lt1000000-clause-count
put_digits-requires-then-n-lt1000000-clause-count c =
    sym (six_digits c.args.n c.if-n-lt100000.false c.if-n-lt1000000.true)

pub put_digits-requires-then-n-lt1000000-clause-room : goal.put_digits-requires-then-n-lt1000000-clause-room
put_digits-requires-then-n-lt1000000-clause-room c =
    omega (arith, c.requires, six_digits c.args.n c.if-n-lt100000.false c.if-n-lt1000000.true)
