use Rattle.lab_picture.proofs.Joined.{joined}
use Rattle.lab_picture.proofs.records.append_mark.Goals as goal

pub returns : goal.returns
returns c = joined _ _ _ _ _ c.in_ok-append_word.ensures c.in_ok-append_word-2.ensures
