use Rattle.graft_loader.proofs.Sealed.{first_sealed_loads}
use Rattle.graft_loader.proofs.laws.first_sealed_images_load.Goals as goal

pub returns : goal.returns
returns c = first_sealed_loads c.decode_undoes_encode.ensures
