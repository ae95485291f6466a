use Rattle.std.proofs.Common.{◌≡◌, ◌-◌, false, List, ℕ, sym, ap, ◌∙◌, arith}
use Rattle.graft_code.specs.Machine as model
use Rattle.graft_code.specs.Machine.{Done}
use Rattle.vino_host.specs.declared.Machine.{Machine}
use Rattle.vino_host.specs.declared.Outcome.{Outcome}
use Rattle.vino_host.specs.declared.Reply.{Reply}
use Rattle.vino_host.specs.declared.Stop.TheVariants as stop
use Rattle.vino_host.specs.declared.Stopped.{Stopped}
use Rattle.vino_host.specs.Codes.{DIVIDED, TRAPPED, BROKEN}
use Rattle.vino_host.specs.HostMachine.{code_in, machine_of, done_of, goes_on}
use Rattle.vino_host.specs.HostRuns.{state, ended, host_run, replied, Answered, with_r0}
use Rattle.vino_host.specs.Tables.{records_of}
use Rattle.vino_host.proofs.Turns.{turn, turn_called, no_turn}
use Rattle.vino_host.proofs.running.run.Goals as goal

pub turns-preserved-in-Went : goal.turns-preserved-in-Went
turns-preserved-in-Went c =
    let k = machine_of c.step.new.self c.step.new.segment in
    turn c.args.number (code_in c.args.code.now) c.turns.left
    (state (machine_of c.turns.machine c.turns.segment) c.turns.table (records_of c.turns.log))
    (Done.Went k) _ c.turns-test.true
    (c.step.ensures.done ∙ ap (λ (o : Outcome). done_of o k) c.in-Went.is) c.turns.invariant

pub turns-preserved : goal.turns-preserved
turns-preserved c =
    let k = machine_of c.step.new.self c.step.new.segment in
    let table = c.answer.new.table in
    let records = records_of c.answer.new.log in
    ap (λ (m : model.Machine). host_run c.args.number (code_in c.args.code.now) (c.turns.left - 1)
    (state m table records))
    (c.set_r0.ensures c.step.new.segment)
    ∙ turn_called c.args.number (code_in c.args.code.now) c.turns.left c.in-Called.id
    (state (machine_of c.turns.machine c.turns.segment) c.turns.table (records_of c.turns.log)) k
    (Answered.Goes (state (with_r0 c.in-Gave.x k) table records)) _ c.turns-test.true
    (c.step.ensures.done ∙ ap (λ (o : Outcome). done_of o k) c.in-Called.is)
    (c.answer.ensures k (sym c.reg-r0.ensures) (sym c.reg-r1.ensures)
    ∙ ap (λ (r : Reply). replied r k table records) c.in-Gave.is) c.turns.invariant

pub returns-in-Stopped : goal.returns-in-Stopped
returns-in-Stopped c =
    let k = machine_of c.step.new.self c.step.new.segment in
    let table = c.answer.new.table in
    let records = records_of c.answer.new.log in
    ap (λ (s : Stopped). ended s.stop s.left (state (machine_of s.machine c.step.new.segment) table records))
    c.stopped.ensures
    ∙ turn_called c.args.number (code_in c.args.code.now) c.turns.left c.in-Called.id
    (state (machine_of c.turns.machine c.turns.segment) c.turns.table (records_of c.turns.log)) k
    (Answered.Stops c.in-Stopped.stop (state k table records)) _ c.turns-test.true
    (c.step.ensures.done ∙ ap (λ (o : Outcome). done_of o k) c.in-Called.is)
    (c.answer.ensures k (sym c.reg-r0.ensures) (sym c.reg-r1.ensures)
    ∙ ap (λ (r : Reply). replied r k table records) c.in-Stopped.is) c.turns.invariant

pub returns-in-Returned : goal.returns-in-Returned
returns-in-Returned c =
    let k = machine_of c.step.new.self c.step.new.segment in
    let table = c.turns.table in
    let records = records_of c.turns.log in
    let stops : goes_on c.step.result ≡ false = ap (λ (o : Outcome). goes_on o) c.in-Returned.is in
    ap (λ (s : Stopped). ended s.stop s.left (state (machine_of s.machine c.step.new.segment) table records))
    c.stopped-in-Returned.ensures
    ∙ ap (λ (x : Machine). ended (stop.Returns) (c.turns.left - 1)
    (state (machine_of x c.step.new.segment) table records))
    (c.step.ensures.ended stops)
    ∙ ap (λ (x : List ℕ). ended (stop.Returns) (c.turns.left - 1) (state (machine_of c.turns.machine x) table records))
    (c.step.ensures.memory stops)
    ∙ turn c.args.number (code_in c.args.code.now) c.turns.left
    (state (machine_of c.turns.machine c.turns.segment) table records) (Done.Returned) _ c.turns-test.true
    (c.step.ensures.done ∙ ap (λ (o : Outcome). done_of o k) c.in-Returned.is) c.turns.invariant

pub returns-in-DividedByZero : goal.returns-in-DividedByZero
returns-in-DividedByZero c =
    let k = machine_of c.step.new.self c.step.new.segment in
    let table = c.turns.table in
    let records = records_of c.turns.log in
    let stops : goes_on c.step.result ≡ false = ap (λ (o : Outcome). goes_on o) c.in-DividedByZero.is in
    ap (λ (s : Stopped). ended s.stop s.left (state (machine_of s.machine c.step.new.segment) table records))
    c.stopped-in-DividedByZero.ensures
    ∙ ap (λ (x : Machine). ended (stop.Drops DIVIDED 0) (c.turns.left - 1)
    (state (machine_of x c.step.new.segment) table records))
    (c.step.ensures.ended stops)
    ∙ ap (λ (x : List ℕ). ended (stop.Drops DIVIDED 0) (c.turns.left - 1)
    (state (machine_of c.turns.machine x) table records))
    (c.step.ensures.memory stops)
    ∙ turn c.args.number (code_in c.args.code.now) c.turns.left
    (state (machine_of c.turns.machine c.turns.segment) table records) (Done.DividedByZero) _ c.turns-test.true
    (c.step.ensures.done ∙ ap (λ (o : Outcome). done_of o k) c.in-DividedByZero.is) c.turns.invariant

pub returns-in-Trapped : goal.returns-in-Trapped
returns-in-Trapped c =
    let k = machine_of c.step.new.self c.step.new.segment in
    let table = c.turns.table in
    let records = records_of c.turns.log in
    let stops : goes_on c.step.result ≡ false = ap (λ (o : Outcome). goes_on o) c.in-Trapped.is in
    ap (λ (s : Stopped). ended s.stop s.left (state (machine_of s.machine c.step.new.segment) table records))
    c.stopped-in-Trapped.ensures
    ∙ ap (λ (x : Machine). ended (stop.Drops TRAPPED c.in-Trapped.code) (c.turns.left - 1)
    (state (machine_of x c.step.new.segment) table records))
    (c.step.ensures.ended stops)
    ∙ ap (λ (x : List ℕ). ended (stop.Drops TRAPPED c.in-Trapped.code) (c.turns.left - 1)
    (state (machine_of c.turns.machine x) table records))
    (c.step.ensures.memory stops)
    ∙ turn c.args.number (code_in c.args.code.now) c.turns.left
    (state (machine_of c.turns.machine c.turns.segment) table records)
    (Done.Trapped c.in-Trapped.code) _ c.turns-test.true
    (c.step.ensures.done ∙ ap (λ (o : Outcome). done_of o k) c.in-Trapped.is) c.turns.invariant

pub returns-in-PastEnd : goal.returns-in-PastEnd
returns-in-PastEnd c =
    let k = machine_of c.step.new.self c.step.new.segment in
    let table = c.turns.table in
    let records = records_of c.turns.log in
    let stops : goes_on c.step.result ≡ false = ap (λ (o : Outcome). goes_on o) c.in-PastEnd.is in
    ap (λ (s : Stopped). ended s.stop s.left (state (machine_of s.machine c.step.new.segment) table records))
    c.stopped-in-PastEnd.ensures
    ∙ ap (λ (x : Machine). ended (stop.Drops BROKEN 0) (c.turns.left - 1)
    (state (machine_of x c.step.new.segment) table records))
    (c.step.ensures.ended stops)
    ∙ ap (λ (x : List ℕ). ended (stop.Drops BROKEN 0) (c.turns.left - 1)
    (state (machine_of c.turns.machine x) table records))
    (c.step.ensures.memory stops)
    ∙ turn c.args.number (code_in c.args.code.now) c.turns.left
    (state (machine_of c.turns.machine c.turns.segment) table records) (Done.PastEnd) _ c.turns-test.true
    (c.step.ensures.done ∙ ap (λ (o : Outcome). done_of o k) c.in-PastEnd.is) c.turns.invariant

pub returns : goal.returns
returns c =
    ap (λ (s : Stopped). ended s.stop s.left
    (state (machine_of s.machine c.turns.segment) c.turns.table (records_of c.turns.log)))
    c.stopped-2.ensures
    ∙ no_turn c.args.number (code_in c.args.code.now) c.turns.left
    (state (machine_of c.turns.machine c.turns.segment) c.turns.table (records_of c.turns.log)) _
    (omega (arith, c.turns-test.false)) c.turns.invariant
