-- Block 0 was read, or that failed.
use Rattle.std.proofs.Common.{◌∙◌, ap}
use Rattle.kernel_model.specs.Directory.{directory_of}
use Rattle.running_kernel.specs.Views.{placed_of}
use Rattle.kernel_core.proofs.BootLemmas.{booted_read, booted_fault}
use Rattle.kernel_core.proofs.kernel.Kernel.boot.Goals as goal

pub returns-in-Ok-clause-booted : goal.returns-in-Ok-clause-booted
returns-in-Ok-clause-booted g c =
    booted_read g.C.Meaning.Rules.meaning c.args.setup (g.D.Disk.seen c.args.disk.now).size
    c.size-size.result (placed_of c.restart.new.self)
    c.count-files.result c.read_directory-directory.result (g.D.Disk.lent c.read.new.disk)
    c.clear.new.self c.read.new.self
    (g.D.Disk.seen c.args.disk.now) (g.D.Disk.seen c.read.new.disk)
    c.size-size.ensures.count c.clear.ensures c.in-Ok.ensures.noted c.in-Ok.ensures.calls c.in-Ok.ensures.known
    (c.read_directory-directory.ensures.value ∙ ap (directory_of c.size-size.result) c.block.ensures.value)
    c.count-files.ensures c.restart.ensures.stands

pub returns-in-Err-clause-booted : goal.returns-in-Err-clause-booted
returns-in-Err-clause-booted g c =
    booted_fault g.C.Meaning.Rules.meaning c.args.setup (g.D.Disk.seen c.args.disk.now).size
    c.size-size.result (placed_of c.restart-in-Err.new.self)
    c.empty.result c.clear.new.self c.read.new.self
    (g.D.Disk.seen c.args.disk.now) (g.D.Disk.seen c.read.new.disk)
    c.size-size.ensures.count c.clear.ensures c.in-Err.ensures.noted c.in-Err.ensures.calls
    (λ blocks tells. (c.in-Err.ensures.known blocks tells).0) c.empty.ensures
    c.restart-in-Err.ensures.stands
