use Rattle.std.proofs.Common.{sym, ap, ◌∙◌}
use Rattle.gm_asm.proofs.Hex.{said, hex_bytes-said, hex_bytes-err}
use Rattle.gm_asm.proofs.data.bytes_of.Goals as goal

pub returns-in-Ok : goal.returns-in-Ok
returns-in-Ok c = sym (hex_bytes-said c.args.digits.now ∙ ap said c.in-Ok.ensures.ok)

pub returns-in_default : goal.returns-in_default
returns-in_default c =
    sym (hex_bytes-err c.args.digits.now c.in-Err.fault c.in_default.not-OutOfMemory
    c.in-Err.ensures.err)
