use Rattle.lab_picture.proofs.Joined.{joined_three}
use Rattle.lab_picture.proofs.records.append_tune.Goals as goal

pub returns : goal.returns
returns c =
    joined_three _ _ _ _ _ _ _ c.in_ok-append_word.ensures c.in_ok-append_word-2.ensures
    c.in_ok-append_word-3.ensures
