use Rattle.std.proofs.Common.{◌∙◌, sym}
use Rattle.running_kernel.specs.Views.{placed_of}
use Rattle.placed_laws.proofs.Laws.{same_shown, stretches}
use Rattle.kernel_core.proofs.StepLemmas.{leads_far, leads_none}
use Rattle.kernel_core.proofs.stretch.stretch.Goals as goal
use Rattle.kernel_steps.proofs.WholeLemmas.{call_is}
use Rattle.kernel_steps.proofs.WholeLemmas.{has_call}

pub returns-then-not-in_graft-clause-leads : goal.returns-then-not-in_graft-clause-leads
returns-then-not-in_graft-clause-leads g c =
    leads_none g.C.Meaning.Rules.meaning c.args.p (placed_of c.args.running.now)

pub returns-then-waits-clause-leads : goal.returns-then-waits-clause-leads
returns-then-waits-clause-leads g c = leads_none g.C.Meaning.Rules.meaning c.args.p (placed_of c.args.running.now)

pub returns-clause-leads : goal.returns-clause-leads
returns-clause-leads g c =
    let m = g.C.Meaning.Rules.meaning in
    let x = placed_of c.args.running.now in
    let call = call_is (x.call c.args.p) (has_call m (same_shown m g.C.Meaning.Rules.laws) x
    c.args.p c.requires.abstraction (sym c.in_graft.ensures ∙ c.if-not-in_graft.false)) in
    leads_far m (stretches m g.C.Meaning.Rules.laws) x
    (placed_of c.stretch.new.running) call.0 c.args.p c.stretch.result call.1
    (sym c.waits.ensures ∙ c.if-waits.false) c.stretch.ensures.is
