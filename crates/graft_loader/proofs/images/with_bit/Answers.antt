use Rattle.graft_loader.proofs.Slots.{has_with}
use Rattle.graft_loader.proofs.images.with_bit.Goals as goal

pub returns : goal.returns
returns c = λ j near. has_with c.args.mask c.args.k j c.requires
