use Rattle.std.proofs.Common.{◌≡◌, ◌++◌, take}
use Rattle.graft_code.specs.Images.{code_bytes}
use Rattle.gm_image.proofs.write_code.Given as goal

abbrev pub invariant-loop-instr : goal.invariant-loop-instr
invariant-loop-instr l = l.out.items ≡ l.initial.out.items ++ code_bytes (take l.instr-index l.code)
