use Rattle.lock_table.proofs.MaskLemmas.{has_with}
use Rattle.lock_table.proofs.masks.with.Goals as goal

pub returns : goal.returns
returns c = λ e. has_with c.args.mask c.args.depth.level e c.args.depth.below
