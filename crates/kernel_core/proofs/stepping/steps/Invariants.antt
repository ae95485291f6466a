-- What is left of the instructions, at each turn.
use Rattle.std.proofs.Common.{◌≡◌, ◌+◌, ◌-◌, ◌≤◌, cond}
use Rattle.call_pieces.specs.Stores.{world_of_store}
use Rattle.kernel_steps.specs.Moments.{kernel_moment}
use Rattle.kernel_core.specs.EventParts.{steps_left, steps_said, HasReached}
use Rattle.running_kernel.specs.Views.{placed_of, IsRunning, HasAbstraction}
use Rattle.kernel_core.proofs.stepping.steps.Given as goal

abbrev pub invariant-loop-going : goal.invariant-loop-going
invariant-loop-going g l =
    let m = g.C.Meaning.Rules.meaning in
    record {
      come : HasReached m (steps_said m l.initial.number l.initial.p l.initial.n 0)
          (steps_left m l.initial.number l.initial.p (l.initial.n - l.taken) l.taken l.going)
          (kernel_moment (placed_of l.initial.running)
          l.initial.trace.notes (g.D.Disk.seen l.initial.disk))
          (kernel_moment (placed_of l.running) l.trace.notes (g.D.Disk.seen l.disk));
      running : IsRunning l.running;
      abstraction : HasAbstraction m (placed_of l.running);
      world : world_of_store l.running.store ≡ world_of_store l.initial.running.store;
      clock : l.running.clock ≡ l.initial.running.clock;
      disk : l.running.store.size ≡ (g.D.Disk.seen l.disk).size;
      few : l.taken ≤ l.initial.n;
    }

abbrev pub decreases-loop-going : goal.decreases-loop-going
decreases-loop-going g l = cond l.going (1 + (l.initial.n - l.taken)) 0
