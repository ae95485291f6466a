use Rattle.std.proofs.Common.{◌≡◌, take}
use Rattle.std.specs.Prelude.{flat_map}
use Rattle.graft_code.specs.Boxed.{boxed_instr}
use Rattle.box_rewriter.proofs.boxed_code.Given as goal

abbrev pub invariant-loop-i : goal.invariant-loop-i
invariant-loop-i l = l.out.items ≡ flat_map (boxed_instr l.code) (take l.i-index l.code)
