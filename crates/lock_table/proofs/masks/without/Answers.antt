use Rattle.lock_table.proofs.MaskLemmas.{has_without}
use Rattle.lock_table.proofs.masks.without.Goals as goal

pub returns : goal.returns
returns c = λ e. has_without c.args.mask c.args.depth.level e c.args.depth.below
