use Rattle.std.proofs.Common.{◌-◌, replicate, refl, arith}
use Rattle.graft_levels.proofs.Memory.{cleared}
use Rattle.graft_levels.proofs.filling.clear.Goals as goal

pub returns-clause-value : goal.returns-clause-value
returns-clause-value c =
    cleared c.args.ram.now c.clear.new.self (replicate (c.args.to - c.args.from) 0) c.args.from
    c.args.to c.requires.order (omega (arith, c.requires.whole, c.requires.inside)) refl
    c.clear.ensures.value
