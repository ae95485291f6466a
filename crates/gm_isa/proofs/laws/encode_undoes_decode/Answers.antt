use Rattle.gm_isa.proofs.Bytes.{encode-decode}
use Rattle.gm_isa.proofs.laws.encode_undoes_decode.Goals as goal

pub returns : goal.returns
returns c = encode-decode
