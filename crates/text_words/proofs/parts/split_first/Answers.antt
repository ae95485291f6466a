use Rattle.std.proofs.Common.{◌==◌, sym, add-one}
use Rattle.text_words.proofs.Splits.{slice_split-none, slice_split-some}
use Rattle.text_words.proofs.parts.split_first.Goals as goal

pub returns-in-None : goal.returns-in-None
returns-in-None c = slice_split-none (λ b. b == c.args.separator) c.args.text.now (sym c.in-None.ensures.place)

pub returns-in-Some : goal.returns-in-Some
returns-in-Some c =
    rw (c.split_at.ensures.front, c.split_at-in-Some.ensures.back, add-one)
    (slice_split-some (λ b. b == c.args.separator) c.args.text.now c.in-Some.at (sym c.in-Some.ensures.place))
