use Rattle.gm_image.proofs.RoundTrips.{write-read}
use Rattle.gm_image.proofs.laws.write_undoes_read.Goals as goal

pub returns : goal.returns
returns c = write-read c.encode_undoes_decode.ensures
