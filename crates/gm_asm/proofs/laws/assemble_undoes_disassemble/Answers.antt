use Rattle.gm_asm.proofs.Lines.{assemble-disassemble}
use Rattle.gm_asm.proofs.laws.assemble_undoes_disassemble.Goals as goal

pub returns : goal.returns
returns c = assemble-disassemble
