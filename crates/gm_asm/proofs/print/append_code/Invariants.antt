use Rattle.std.proofs.Common.{◌≡◌, ◌++◌, take, flat_map}
use Rattle.graft_texts.specs.Assembler.{instr_text}
use Rattle.gm_asm.proofs.print.append_code.Given as goal

abbrev pub invariant-loop-i : goal.invariant-loop-i
invariant-loop-i l = l.out.items ≡ l.initial.out.items ++ flat_map instr_text (take l.i-index l.code)
