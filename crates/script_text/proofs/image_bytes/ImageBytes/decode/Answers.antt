-- The crate `hex` decodes digits as the definitions do.
use Rattle.std.proofs.Common.{arith}
use Rattle.std.proofs.lemmas.Bool.Decides.{nat_tests}
use Rattle.script_text.proofs.Decoding.{decode_of-ok}
use Rattle.script_text.proofs.image_bytes.ImageBytes.decode.Goals as goal

pub returns-in-Ok : goal.returns-in-Ok
returns-in-Ok c = grind (arith, nat_tests, c.in-Ok.ensures.ok, decode_of-ok c.self.inside.digits.now, c.self.view_is)

pub returns-in-Err : goal.returns-in-Err
returns-in-Err c =
    grind (
      arith,
      nat_tests,
      c.in-Err.ensures.err,
      c.no_bytes.ensures,
      decode_of-ok c.self.inside.digits.now,
      c.self.view_is,
    )
