use Rattle.std.proofs.Common.{◌∙◌, ap}
use Rattle.kernel_model.specs.World.{World}
use Rattle.placed_laws.specs.PlacedSteps.{placed_ticked}
use Rattle.placed_laws.specs.PlacedEvents.{placed_actions}
use Rattle.kernel_steps.specs.Composing.{did_then}
use Rattle.running_kernel.specs.Views.{placed_of}
use Rattle.kernel_core.proofs.ticks.tick_event.Goals as goal

pub actions-requires : goal.actions-requires
actions-requires g c =
    let t = c.raise.ensures.ticked (g.D.Disk.seen c.args.disk.now) in
    record {
      running = t.running;
      abstraction = t.abstraction;
      disk = ap (λ (v : World). v.disk_size) t.world ∙ c.requires.on.disk;
    }

pub returns : goal.returns
returns g c =
    let a = c.args in
    let t = c.raise.ensures.ticked (g.D.Disk.seen a.disk.now) in
    let w = c.actions.ensures in
    record {
      refines =
          did_then (placed_ticked a.number) (placed_actions g.C.Meaning.Rules.meaning 288)
          (placed_of a.running.now) (placed_of c.raise.new.running)
          (placed_of c.actions.new.running) a.trace.now.notes c.raise.new.notes
          c.actions.new.trace.notes (g.D.Disk.seen a.disk.now) (g.D.Disk.seen a.disk.now)
          (g.D.Disk.seen c.actions.new.disk) t.refines w.refines;
      running = w.running;
      abstraction = w.abstraction;
      world = w.world ∙ t.world;
      clock = w.clock ∙ t.clock;
    }
