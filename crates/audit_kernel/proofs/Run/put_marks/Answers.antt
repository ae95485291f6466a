use Rattle.std.proofs.Common.{Some, map, ap}
use Rattle.kernel_model.specs.Kernel as model
use Rattle.audit_needs.specs.Stages.{stage_of}
use Rattle.audit_replay.specs.Traces.{mark_of}
use Rattle.audit_kernel.specs.Runs.{run_of, call_at}
use Rattle.audit_kernel.proofs.Finishing.{put_call}
use Rattle.audit_kernel.proofs.Putting.{called, kept_put}
use Rattle.audit_kernel.proofs.Run.put_marks.Goals as goal

pub returns-clause-run : goal.returns-clause-run
returns-clause-run c =
    let r = c.args.self.now in
    let new = c.put.new.flights.items in
    let call : model.Call = record {
      number = c.args.number;
      stage = stage_of c.args.stage;
      marks = Some (map mark_of c.args.marks.items);
    } in
    called (run_of r) c.args.p (Some call) (call_at new)
    (put_call r.flights.items new c.args.p (Some c.in_ok-flight.flight) (Some call)
    c.in_ok-put.ensures.put (ap (λ (x : model.Call). Some x) c.in_ok-flight.ensures.call))

pub returns-clause-kept : goal.returns-clause-kept
returns-clause-kept c =
    kept_put c.args.self.now.setting c.args.self.now.store c.args.self.now.flights.items
    c.put.new.flights.items c.args.p (Some c.in_ok-flight.flight) c.requires.kept
    c.in_ok-flight.ensures.kept c.in_ok-put.ensures.put
