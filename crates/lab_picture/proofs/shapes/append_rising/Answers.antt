use Rattle.lab_picture.proofs.Rising.{risen}
use Rattle.lab_picture.proofs.shapes.append_rising.Goals as goal

pub returns : goal.returns
returns c =
    risen _ _ _ _ c.args.at c.in_ok-append.ensures c.in_ok-append_rotation.ensures
    c.in_ok-append-2.ensures
