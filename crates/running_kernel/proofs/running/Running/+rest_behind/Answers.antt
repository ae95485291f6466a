use Rattle.std.proofs.Common.{rules, ◌≡◌, ◌∷◌, ◌∙◌, ap, sym, true}
use Rattle.running_kernel.specs.Orders.{counts_within, are_processes}
use Rattle.running_kernel.proofs.OrderLemmas.{counts_rested, counts_tail, processes_rested}
use Rattle.running_kernel.proofs.running.Running.+rest_behind.Goals as goal

pub returns-clause-counts : goal.returns-clause-counts
returns-clause-counts g t c = λ h k.
    let n = c.args.self.now.clock in
    let whole : c.args.entries.now ≡ c.in-Some.first.now ∷ c.in-Some.rest.now = search rules in
    let all : counts_within n (c.in-Some.first.now ∷ c.in-Some.rest.now) ≡ true =
    sym (ap (counts_within n) whole) ∙ k in
    c.rest_behind.ensures.counts
    (counts_rested n c.args.done.now c.push.new.self c.in-Some.rest.now c.in-Some.first.now
    c.with_blocker.result c.push.ensures c.with_blocker.ensures.count h all)
    (counts_tail n c.in-Some.first.now c.in-Some.rest.now all)

pub returns-clause-processes : goal.returns-clause-processes
returns-clause-processes g t c = λ h.
    let whole : c.args.entries.now ≡ c.in-Some.first.now ∷ c.in-Some.rest.now = search rules in
    c.rest_behind.ensures.processes
    (processes_rested c.args.done.now c.push.new.self c.in-Some.rest.now c.in-Some.first.now
    c.with_blocker.result c.push.ensures c.with_blocker.ensures.process h
    (sym (ap are_processes whole) ∙ c.requires.processes))
