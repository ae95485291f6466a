use Rattle.std.proofs.Common.{refl}
use Rattle.call_pieces.specs.Sound.{world_for}
use Rattle.placed_laws.proofs.Laws.{quiet_kernels_stand}
use Rattle.kernel_laws.proofs.Laws.{opening_kernel_is_sound}
use Rattle.running_kernel.specs.declared.running.Running.{Running}
use Rattle.running_kernel.proofs.OpeningLemmas.{opened, runs_again}
use Rattle.running_kernel.proofs.running.Running.restart.Goals as goal

pub returns-clause-stands : goal.returns-clause-stands
returns-clause-stands g c =
    let m = g.C.Meaning.Rules.meaning in
    let a = c.args in
    let y : Running g.row.C.Denot g.row.B.Denot g.row.C-Meaning.Denot _ =
    record {
      store = c.restart.new.self;
      clock = 0;
      images = c.clear.new.self;
      locks = a.self.now.locks;
      calls = a.self.now.calls;
      order = a.self.now.order;
      table = a.self.now.table;
    } in
    opened m (opening_kernel_is_sound m) (quiet_kernels_stand m)
    y (world_for a.setup a.size a.dir)
    c.requires.frames_least c.requires.frames_most c.requires.rows c.requires.size_least
    c.requires.size_most refl c.requires.files
    c.restart.ensures.world c.clear.ensures.table c.restart.ensures.objects refl
    c.requires.quiet.calls c.requires.quiet.order

pub returns-clause-running : goal.returns-clause-running
returns-clause-running g c =
    let a = c.args in
    runs_again a.self.now
    (record {
      store = c.restart.new.self;
      clock = 0;
      images = c.clear.new.self;
      locks = a.self.now.locks;
      calls = a.self.now.calls;
      order = a.self.now.order;
      table = a.self.now.table;
    }) a.setup.grant
    c.requires.running c.requires.quiet.calls refl refl c.requires.quiet.order c.restart.ensures.objects
