use Rattle.graft_loader.specs.Slots.{table_of}
use Rattle.audit_kernel.specs.Runs.{kernel_of, call_at}
use Rattle.audit_kernel.proofs.Imaging.{image_added}
use Rattle.audit_kernel.proofs.Run.add_image.Goals as goal

pub returns-clause-kernel : goal.returns-clause-kernel
returns-clause-kernel c =
    image_added (kernel_of c.args.self.now) c.args.slot c.args.image (table_of c.add.new.self)
    (call_at c.run_all_again.new.flights.items) c.add.ensures.table
    c.in_ok-run_all_again.ensures.call

pub returns-clause-kept : goal.returns-clause-kept
returns-clause-kept c = c.in_ok-run_all_again.ensures.kept
