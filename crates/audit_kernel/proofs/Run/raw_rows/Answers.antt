use Rattle.kernel_model.specs.AllCalls.{all_calls}
use Rattle.kernel_model.specs.InPlace.{in_place}
use Rattle.audit_kernel.specs.Runs.{kernel_of}
use Rattle.audit_kernel.proofs.Listing.{all_rows}
use Rattle.audit_kernel.proofs.Run.raw_rows.Goals as goal

pub returns : goal.returns
returns c =
    let k = kernel_of c.args.self.now in
    all_rows k (in_place all_calls k) c.new-rows.result.items c.add_processes.new.rows.items
    c.add_places.new.rows.items c.add_frames_and_locks.new.rows.items c.add_flights.new.rows.items
    c.new-rows.ensures.items c.in_ok-add_processes.ensures c.in_ok-add_places.ensures
    c.in_ok-add_frames_and_locks.ensures c.in_ok-add_flights.ensures
