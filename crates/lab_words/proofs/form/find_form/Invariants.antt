use Rattle.std.proofs.Common.{◌≡◌, drop, find}
use Rattle.lab_words.specs.Forms.{line_fits}
use Rattle.lab_words.proofs.form.find_form.Given as goal

abbrev pub invariant-loop-form : goal.invariant-loop-form
invariant-loop-form l =
    find (line_fits l.line) (drop l.form-index l.forms) ≡ find (line_fits l.line) l.forms
