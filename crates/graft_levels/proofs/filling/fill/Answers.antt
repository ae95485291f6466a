use Rattle.std.proofs.Common.{arith, ◌∙◌}
use Rattle.graft_levels.proofs.Feeding.{fed_within, fed_apart}
use Rattle.graft_levels.proofs.filling.fill.Goals as goal

pub returns-clause-segment : goal.returns-clause-segment
returns-clause-segment c = λ i lt.
    fed_within c.fill_data.new.ram c.copy_in.new.self c.args.body.now c.args.feed.now c.args.base i
    (omega (arith, c.fill_data.ensures.size, c.requires.inside)) c.requires.short lt
    c.fill_data.ensures.segment c.copy_in.ensures.value

pub returns-clause-outside : goal.returns-clause-outside
returns-clause-outside c = λ a beyond.
    fed_apart c.fill_data.new.ram c.copy_in.new.self c.args.feed.now c.args.base a
    (omega (arith, c.fill_data.ensures.size, c.requires.inside)) c.requires.short beyond
    c.copy_in.ensures.value
    ∙ c.fill_data.ensures.outside a beyond
