use Rattle.lock_table.proofs.MaskLemmas.{has_union}
use Rattle.lock_table.proofs.masks.union.Goals as goal

pub returns : goal.returns
returns c = λ e. has_union c.args.a c.args.b e
