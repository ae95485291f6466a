-- The law of boxed code.
use Rattle.std.specs.Prelude.{◌≡◌, List, Ok}
use Rattle.graft_code.specs.declared.Instr.{Instr}
use Rattle.graft_code.specs.Boxed.{IsBoxed, rewrite}

-- what the rewriter makes is boxed
abbrev pub RewrittenIsBoxed : Type 0
RewrittenIsBoxed = (code boxed : List Instr) → rewrite code ≡ Ok boxed → IsBoxed boxed
