use Rattle.running_kernel.specs.Views.{placed_of}
use Rattle.running_kernel.proofs.RestLemmas.{order_stays, still_running}
use Rattle.running_kernel.proofs.running.Running.next_or_rest.Goals as goal

pub returns-clause-running : goal.returns-clause-running
returns-clause-running g c =
    let x = c.args.self.now in
    let y = c.next_from.new.self in
    still_running x y c.requires.running c.next_from.ensures.same
    (order_stays g.C.Meaning.Rules.meaning (placed_of x) c.next_from.result x.clock x.order
    y.order c.requires.running.counts c.requires.running.order c.requires.running.once
    c.next_from.ensures.kept c.next_from.ensures.rested)
