use Rattle.std.proofs.Common.{Some, refl, sym}
use Rattle.audit_kernel.specs.declared.Flight.{Flight}
use Rattle.audit_kernel.specs.Runs.{run_of, call_at}
use Rattle.audit_kernel.specs.Steps.{graft_call}
use Rattle.audit_kernel.proofs.Finishing.{put_call}
use Rattle.audit_kernel.proofs.Putting.{called, kept_put}
use Rattle.audit_kernel.proofs.Run.put_trace.Goals as goal

pub returns-clause-run : goal.returns-clause-run
returns-clause-run c =
    let r = c.args.self.now in
    let new = c.put.new.flights.items in
    let call = graft_call c.args.number c.args.stage c.args.marks.items in
    let f : Flight = record {
      number = c.args.number;
      stage = c.args.stage;
      graft = Some (record { marks = c.args.marks; trace = Some c.args.trace });
    } in
    called (run_of r) c.args.p (Some call) (call_at new)
    (put_call r.flights.items new c.args.p (Some f) (Some call) c.in_ok-put.ensures.put refl)

pub returns-clause-kept : goal.returns-clause-kept
returns-clause-kept c =
    let r = c.args.self.now in
    let f : Flight = record {
      number = c.args.number;
      stage = c.args.stage;
      graft = Some (record { marks = c.args.marks; trace = Some c.args.trace });
    } in
    kept_put r.setting r.store r.flights.items c.put.new.flights.items c.args.p (Some f)
    c.requires.kept (sym c.requires.here) c.in_ok-put.ensures.put
