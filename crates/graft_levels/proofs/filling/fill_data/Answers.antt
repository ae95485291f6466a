use Rattle.std.proofs.Common.{arith}
use Rattle.graft_levels.proofs.Memory.{filled_within, filled_apart}
use Rattle.graft_levels.proofs.filling.fill_data.Goals as goal

pub returns-clause-segment : goal.returns-clause-segment
returns-clause-segment c =
    λ i lt. filled_within c.args.ram.now c.copy_in.new.self c.clear.new.ram c.args.body.now
    c.args.base i (omega (arith, c.requires.whole, c.requires.inside)) c.requires.few lt
    c.copy_in.ensures.value c.clear.ensures.value

pub returns-clause-outside : goal.returns-clause-outside
returns-clause-outside c =
    λ a beyond. filled_apart c.args.ram.now c.copy_in.new.self c.clear.new.ram c.args.body.now
    c.args.base a (omega (arith, c.requires.whole, c.requires.inside)) c.requires.few beyond
    c.copy_in.ensures.value c.clear.ensures.value
