use Rattle.std.proofs.Common.{sym}
use Rattle.line_text.proofs.Lengths.{one_digit, two_digits, three_digits, four_digits}
use Rattle.line_text.proofs.digits.count_few.Goals as goal

pub returns-then-n-lt10 : goal.returns-then-n-lt10
returns-then-n-lt10 c = sym (one_digit c.args.n c.if-n-lt10.true)

pub returns-then-n-lt100 : goal.returns-then-n-lt100
returns-then-n-lt100 c = sym (two_digits c.args.n c.if-n-lt10.false c.if-n-lt100.true)

pub returns-then-n-lt1000 : goal.returns-then-n-lt1000
returns-then-n-lt1000 c = sym (three_digits c.args.n c.if-n-lt100.false c.if-n-lt1000.true)

pub returns-else-n-lt1000 : goal.returns-else-n-lt1000
returns-else-n-lt1000 c = sym (four_digits c.args.n c.if-n-lt1000.false c.requires)
