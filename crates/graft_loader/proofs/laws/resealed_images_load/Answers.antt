use Rattle.graft_loader.proofs.Loadable.{resealed_loads}
use Rattle.graft_loader.proofs.laws.resealed_images_load.Goals as goal

pub returns : goal.returns
returns c = resealed_loads c.decode_undoes_encode.ensures
