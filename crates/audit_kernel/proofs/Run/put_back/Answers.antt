use Rattle.std.proofs.Common.{Some, refl}
use Rattle.audit_kernel.specs.Runs.{run_of, call_of, call_at}
use Rattle.audit_kernel.proofs.Finishing.{put_call}
use Rattle.audit_kernel.proofs.Putting.{called, kept_put}
use Rattle.audit_kernel.proofs.Run.put_back.Goals as goal

pub returns-clause-run : goal.returns-clause-run
returns-clause-run c =
    let r = c.args.self.now in
    let new = c.put.new.flights.items in
    let call = call_of c.args.flight in
    called (run_of r) c.args.p (Some call) (call_at new)
    (put_call r.flights.items new c.args.p (Some c.args.flight) (Some call) c.in_ok-put.ensures.put refl)

pub returns-clause-kept : goal.returns-clause-kept
returns-clause-kept c =
    let r = c.args.self.now in
    kept_put r.setting r.store r.flights.items c.put.new.flights.items c.args.p (Some c.args.flight)
    c.requires.kept c.requires.here c.in_ok-put.ensures.put
