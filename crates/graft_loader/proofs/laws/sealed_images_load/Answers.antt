use Rattle.graft_loader.proofs.Sealed.{sealed_loads}
use Rattle.graft_loader.proofs.laws.sealed_images_load.Goals as goal

pub returns : goal.returns
returns c = sealed_loads c.decode_undoes_encode.ensures
