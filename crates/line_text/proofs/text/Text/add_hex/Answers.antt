use Rattle.std.proofs.Common.{arith}
use Rattle.std.proofs.lemmas.Grind.{common_steps}
use Rattle.line_text.proofs.Encoding.{length-hex_text}
use Rattle.line_text.proofs.text.Text.add_hex.Goals as goal

pub returns-clause-len : goal.returns-clause-len
returns-clause-len c = grind (arith, common_steps, length-hex_text c.args.bytes.now)
