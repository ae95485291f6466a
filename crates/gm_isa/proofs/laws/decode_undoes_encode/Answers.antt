use Rattle.gm_isa.proofs.Bytes.{decode-encode}
use Rattle.gm_isa.proofs.laws.decode_undoes_encode.Goals as goal

pub returns : goal.returns
returns c = decode-encode
