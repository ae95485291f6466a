-- How many digits there are at most.
use Rattle.std.proofs.Common.{arith}
use Rattle.std.proofs.lemmas.Fmt.{length-decimal-le}
use Rattle.line_text.proofs.append.number_u32.Goals as goal

pub number-requires : goal.number-requires
number-requires c =
    omega (
      arith,
      c.requires,
      length-decimal-le 10 c.from.result (omega arith) (omega
          (arith, c.from.ensures, c.ranges.n.fits)) (omega (arith, c.from.ensures, c.ranges.n.fits)),
    )

pub returns-clause-end : goal.returns-clause-end
returns-clause-end c =
    omega (
      arith,
      c.number.ensures.end,
      length-decimal-le 10 c.from.result (omega arith) (omega
          (arith, c.from.ensures, c.ranges.n.fits)) (omega (arith, c.from.ensures, c.ranges.n.fits)),
    )
