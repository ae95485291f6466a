-- The library encodes bytes as the definitions do.
use Rattle.std.proofs.Common.{◌∙◌}
use Rattle.lab_lowering.proofs.Digits.{encode_with-lower}
use Rattle.lab_lowering.proofs.script.hex_of.Goals as goal

pub returns-in-Ok : goal.returns-in-Ok
returns-in-Ok c = rw c.into_bytes.ensures.value (c.in-Ok.ensures ∙ encode_with-lower c.args.bytes.now)
