-- The library encodes bytes as the definitions do.
use Rattle.std.proofs.Common.{◌∙◌}
use Rattle.commands.proofs.text.hex_of.Goals as goal
use Rattle.gm_asm.proofs.Hex.{encode_with-lower}

pub returns-in-Ok : goal.returns-in-Ok
returns-in-Ok c = rw c.into_bytes.ensures.value (c.in-Ok.ensures ∙ encode_with-lower c.args.bytes.now)
