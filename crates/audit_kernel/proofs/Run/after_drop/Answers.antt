use Rattle.std.proofs.Common.{map}
use Rattle.audit_levels.specs.Levels.{config_of, effect_of}
use Rattle.audit_pieces.specs.Stores.{page_of}
use Rattle.audit_replay.specs.Traces.{mark_of, trace_of}
use Rattle.audit_kernel.specs.Runs.{run_of}
use Rattle.audit_kernel.specs.Steps.{graft_call}
use Rattle.audit_kernel.proofs.Stepping.{lost, back}
use Rattle.audit_kernel.proofs.Run.after_drop.Goals as goal

pub returns-in_ok-lose-clause-run : goal.returns-in_ok-lose-clause-run
returns-in_ok-lose-clause-run c = λ t o pasts config effects.
    let r = c.args.self.now in
    let call = graft_call c.args.number c.args.stage c.args.marks.items in
    lost c.args.p call t (map mark_of c.args.marks.items) o c.args.d (run_of r) (run_of c.lose.new.self)
    (config_of (page_of r.store) c.args.trace.config) c.if-d-eq0.true config
    (c.in_ok-lose.ensures.run call.marks)

pub returns-in_ok-put_marks-clause-run : goal.returns-in_ok-put_marks-clause-run
returns-in_ok-put_marks-clause-run c = λ t o pasts config effects.
    let r = c.args.self.now in
    let call = graft_call c.args.number c.args.stage c.args.marks.items in
    back c.args.p call t (trace_of (page_of r.store) c.args.trace) (map mark_of c.args.marks.items)
    (map mark_of c.fall_back.new.history.items) o (map effect_of c.args.effects.now) c.args.d (run_of r)
    (run_of c.put_marks.new.self) c.if-d-eq0.false pasts effects (c.in_ok-fall_back.ensures (page_of r.store))
    c.in_ok-put_marks.ensures.run
