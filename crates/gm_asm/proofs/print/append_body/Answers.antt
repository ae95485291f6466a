use Rattle.std.proofs.Common.{sym}
use Rattle.gm_asm.proofs.Hex.{body_text-some}
use Rattle.gm_asm.proofs.print.append_body.Goals as goal

pub returns : goal.returns
returns c = rw (sym (body_text-some c.args.body.now c.type_inv.body c.if-is_empty.ensures)) c.append_data.ensures
