use Rattle.std.proofs.Common.{Option, sym, subst, refl, ◌∙◌}
use Rattle.kernel_model.specs.AllCalls.{all_calls}
use Rattle.kernel_model.specs.Settle.{call_step}
use Rattle.audit_kernel.specs.declared.Flight.{Flight}
use Rattle.audit_kernel.specs.Runs.{run_of, IsKept}
use Rattle.audit_kernel.proofs.Taking.{kept_taken, none_taken, taken}
use Rattle.audit_kernel.proofs.Run.call_step.Goals as goal

pub returns-in-None-clause-run : goal.returns-in-None-clause-run
returns-in-None-clause-run c =
    let r = c.args.self.now in
    none_taken (call_step all_calls c.args.p) (run_of r) r.flights.items c.take.new.flights.items c.args.p
    (λ z. refl) (sym c.in-None.is ∙ c.take.ensures.took) c.take.ensures.left

pub returns-in-None-clause-kept : goal.returns-in-None-clause-kept
returns-in-None-clause-kept c =
    let r = c.args.self.now in
    kept_taken r.setting r.store r.flights.items c.take.new.flights.items c.args.p
    c.requires.kept c.take.ensures.left

pub flight_step-requires-clause-kept : goal.flight_step-requires-clause-kept
flight_step-requires-clause-kept c =
    let r = c.args.self.now in
    kept_taken r.setting r.store r.flights.items c.take.new.flights.items c.args.p
    c.requires.kept c.take.ensures.left

pub flight_step-requires-clause-here : goal.flight_step-requires-clause-here
flight_step-requires-clause-here c =
    let r = c.args.self.now in
    subst (λ (f : Option Flight). IsKept r.setting r.store c.args.p f)
    (sym c.take.ensures.took ∙ c.in-Some.is) (c.requires.kept c.args.p)

pub returns-in_ok-flight_step-in-Some-clause-run : goal.returns-in_ok-flight_step-in-Some-clause-run
returns-in_ok-flight_step-in-Some-clause-run c =
    let r = c.args.self.now in
    taken (call_step all_calls c.args.p) (run_of r) (run_of c.flight_step.new.self) r.flights.items
    c.take.new.flights.items c.args.p c.in-Some.flight (sym c.in-Some.is ∙ c.take.ensures.took)
    c.take.ensures.left c.in_ok-flight_step-in-Some.ensures.run
