-- The library decodes digits as the definitions do.
use Rattle.std.proofs.Common.{arith}
use Rattle.std.proofs.lemmas.Bool.Decides.{nat_tests}
use Rattle.commands.proofs.hex_line.decoded.Goals as goal
use Rattle.script_text.proofs.Decoding.{decode_of-ok}

pub returns-in-Ok : goal.returns-in-Ok
returns-in-Ok c = grind (arith, nat_tests, c.in-Ok.ensures.ok, decode_of-ok c.args.digits.now)

pub returns-in_default : goal.returns-in_default
returns-in_default c =
    grind (
      arith,
      nat_tests,
      c.in-Err.ensures.err,
      c.in_default.not-OutOfMemory,
      decode_of-ok c.args.digits.now,
    )
