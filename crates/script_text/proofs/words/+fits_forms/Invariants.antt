use Rattle.std.proofs.Common.{length}
use Rattle.script_text.proofs.words.+fits_forms.Given as goal

abbrev pub decreases-fits_forms : goal.decreases-fits_forms
decreases-fits_forms l = length l.forms.now
