use Rattle.std.proofs.Common.{◌≡◌, ◌-◌}
use Rattle.graft_lang.specs.Writing.{appended}
use Rattle.graft_lang.specs.Code.{zeros_code}
use Rattle.graft_lang.proofs.writer.Writer.zeros.Given as goal

abbrev pub invariant-loop-i : goal.invariant-loop-i
invariant-loop-i l =
    appended (zeros_code l.i (l.variables - l.i)) l.self
    ≡ appended (zeros_code 4 (l.variables - 4)) l.initial.self
