use Rattle.lab_picture.proofs.Plain.{text-plain}
use Rattle.lab_picture.proofs.laws.text_is_plain.Goals as goal

pub returns : goal.returns
returns c = text-plain
