use Rattle.gm_image.proofs.RoundTrips.{read-write}
use Rattle.gm_image.proofs.laws.read_undoes_write.Goals as goal

pub returns : goal.returns
returns c = read-write c.decode_undoes_encode.ensures
