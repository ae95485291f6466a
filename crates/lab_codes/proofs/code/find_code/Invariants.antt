use Rattle.std.proofs.Common.{◌≡◌, drop, find}
use Rattle.script_model.specs.World.{same_bytes}
use Rattle.lab_codes.specs.Codes.{code_text}
use Rattle.lab_codes.proofs.code.find_code.Given as goal

abbrev pub invariant-loop-code : goal.invariant-loop-code
invariant-loop-code l =
    find (λ c. same_bytes (code_text c) l.text) (drop l.code-index l.codes)
    ≡ find (λ c. same_bytes (code_text c) l.text) l.codes
