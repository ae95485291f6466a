use Rattle.std.proofs.Common.{◌≡◌, ◌<◌, ◌∙◌, length, ap, sym, arith}
use Rattle.std.proofs.lemmas.Bool.Decides.{nat_tests}
use Rattle.running_kernel.specs.declared.running.Flight.{Flight}
use Rattle.running_kernel.specs.Views.{flight_of, call_at}
use Rattle.kernel_steps.proofs.PartLemmas.{at_call, at_graft}
use Rattle.kernel_steps.proofs.WholeLemmas.{call_is}
use Rattle.kernel_steps.proofs.steps.step_call.Goals as goal
use Rattle.running_kernel.proofs.PlainLemmas.{no_level}

pub piece_step-requires-clause-none : goal.piece_step-requires-clause-none
piece_step-requires-clause-none g c =
    let fl : c.flight.result.now ≡ flight_of c.args.running.now.calls.items c.args.p =
    c.flight.ensures ∙ ap (λ fs. flight_of fs c.args.p) c.deref.ensures.value in
    no_level (flight_of c.args.running.now.calls.items c.args.p).chain.levels
    (sym (ap (λ (f : Flight). length f.chain.levels) fl) ∙ sym c.count.ensures.value
    ∙ c.if-count-eq0.true)

pub graft_step-requires : goal.graft_step-requires
graft_step-requires g c =
    let at = c.requires.at in
    let fl : c.flight.result.now ≡ flight_of c.args.running.now.calls.items c.args.p =
    c.flight.ensures ∙ ap (λ fs. flight_of fs c.args.p) c.deref.ensures.value in
    let many = ap (λ (f : Flight). length f.chain.levels) fl in
    record {
      process = at.process;
      running = at.running;
      abstraction = at.abstraction;
      disk = at.disk;
      level = grind (arith, nat_tests, many, c.count.ensures.value, c.if-count-eq0.false);
    }

pub returns-then-count-eq0 : goal.returns-then-count-eq0
returns-then-count-eq0 g c =
    let a = c.args in
    let t = call_is (call_at a.running.now a.p) c.requires.call in
    at_call g.C.Meaning.Rules.meaning a.running.now c.piece_step.new.running a.p t.0
    a.trace.now.notes c.piece_step.new.trace.notes (g.D.Disk.seen a.disk.now)
    (g.D.Disk.seen c.piece_step.new.disk) t.1 (c.piece_step.ensures t.0 t.1)

pub returns : goal.returns
returns g c =
    let m = g.C.Meaning.Rules.meaning in
    let a = c.args in
    let t = call_is (call_at a.running.now a.p) c.requires.call in
    let fl : c.flight.result.now ≡ flight_of a.running.now.calls.items a.p = c.flight.ensures
    ∙ ap (λ fs. flight_of fs a.p) c.deref.ensures.value in
    let many = ap (λ (f : Flight). length f.chain.levels) fl in
    let some : 0 < length (flight_of a.running.now.calls.items a.p).chain.levels =
    grind (arith, nat_tests, many, c.count.ensures.value, c.if-count-eq0.false) in
    at_call m a.running.now c.graft_step.new.running a.p t.0 a.trace.now.notes
    c.graft_step.new.trace.notes (g.D.Disk.seen a.disk.now)
    (g.D.Disk.seen c.graft_step.new.disk) t.1
    (at_graft m a.running.now c.graft_step.new.running a.p t.0 a.trace.now.notes
    c.graft_step.new.trace.notes (g.D.Disk.seen a.disk.now)
    (g.D.Disk.seen c.graft_step.new.disk) some (c.graft_step.ensures t.0 t.1))
