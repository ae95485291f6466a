use Rattle.lab_picture.proofs.Rising.{rotated}
use Rattle.lab_picture.proofs.shapes.append_rotation.Goals as goal

pub returns : goal.returns
returns c =
    rotated _ _ _ _ c.args.at c.in_ok-append_counted.ensures c.in_ok-append_counted-2.ensures
    c.in_ok-append.ensures
