use Rattle.std.proofs.Common.{◌≡◌, drop, find}
use Rattle.lab_words.specs.declared.form.Form.TheVariants.{Coded}
use Rattle.lab_words.specs.Forms.{line_fits}
use Rattle.lab_words.proofs.form.find_coded.Given as goal

abbrev pub invariant-loop-code : goal.invariant-loop-code
invariant-loop-code l =
    find (λ c. line_fits l.line (Coded c)) (drop l.code-index l.codes)
    ≡ find (λ c. line_fits l.line (Coded c)) l.codes
