-- Each turn has four digits less.
use Rattle.line_text.proofs.digits.+count_digits.Given as goal

abbrev pub decreases-count_digits : goal.decreases-count_digits
decreases-count_digits l = l.n
