use Rattle.std.proofs.Common.{◌≡◌, ◌+◌, [], drop}
use Rattle.lab_lowering.specs.Lowering.{script_after}
use Rattle.lab_lowering.proofs.script.script_under.Given as goal

abbrev pub invariant-loop-i : goal.invariant-loop-i
invariant-loop-i l =
    script_after 1 l.fn.keys l.fn.images [] l.fn.items
    ≡ script_after (l.i + 1) l.fn.keys l.fn.images l.script.items (drop l.i l.fn.items)
