use Rattle.lock_table.proofs.MaskLemmas.{has_outside}
use Rattle.lock_table.proofs.masks.outside.Goals as goal

pub returns : goal.returns
returns c = λ e. has_outside c.args.mask c.args.depth.level e c.args.depth.below
