-- An event goes on from the kernel as the abstract one does, and the lines of its notes are written.
use Rattle.std.proofs.Common.{arith, refl, sym, ap, ◌∙◌}
use Rattle.kernel_data.specs.Bare.{event_with}
use Rattle.script_model.specs.Script.{Happens}
use Rattle.kernel_data.specs.World.{World}
use Rattle.running_kernel.specs.Views.{placed_of}
use Rattle.vino_top.specs.Run.{place_over}
use Rattle.vino_top.specs.Standing.{seen_of}
use Rattle.vino_top.proofs.SessionLemmas.{event_runs, silent_event, unbooted_runs, up_is_down}
use Rattle.vino_top.proofs.session.Session.happen.Goals as goal

pub event-requires-clause-room : goal.event-requires-clause-room
event-requires-clause-room g c = omega (arith, c.requires.counted.room, c.requires.counted.fresh)

pub event-requires-clause-no_notes : goal.event-requires-clause-no_notes
event-requires-clause-no_notes g c = c.requires.empty.no_notes

pub add_notes-requires : goal.add_notes-requires
add_notes-requires g c = c.requires.empty.bytes_are

pub event-requires-clause-kernel : goal.event-requires-clause-kernel
event-requires-clause-kernel g c =
    let kernel = c.requires.counted.within.kernel c.if-self.true in
    record { running = kernel.running; abstraction = kernel.abstraction; clock = omega (arith, kernel.clock) }

pub event-requires-clause-disk : goal.event-requires-clause-disk
event-requires-clause-disk g c = c.requires.counted.within.size_is c.if-self.true

pub returns-then-self-clause-within : goal.returns-then-self-clause-within
returns-then-self-clause-within g c =
    let within = c.requires.counted.within in
    let kernel = c.event.ensures.kernel in
    record {
      frames_least = within.frames_least;
      frames_most = within.frames_most;
      events = omega (arith, c.requires.counted.fresh);
      kernel = λ up. record { running = kernel.running; abstraction = kernel.abstraction; clock = kernel.clock };
      size_is = λ up.
          ap (λ (w : World). w.disk_size) c.event.ensures.world ∙ within.size_is c.if-self.true
          ∙ sym c.event.ensures.happened.made.size;
      unbooted = λ down. up_is_down (sym c.if-self.true ∙ down);
    }

pub returns-then-self-clause-runs : goal.returns-then-self-clause-runs
returns-then-self-clause-runs g c = λ keys.
    event_runs (place_over g.C.Meaning.Rules.meaning keys (g.D.Disk.seen c.args.disk.now).size)
    (seen_of c.args.self.now)
    (placed_of c.event.new.self.running) (event_with c.args.event c.args.out.now.bytes.items)
    c.event.new.trace.notes _
    (g.D.Disk.seen c.args.disk.now) (g.D.Disk.seen c.event.new.disk)
    c.if-self.true c.event.ensures.happened c.add_notes.ensures refl

pub returns-else-self-clause-runs : goal.returns-else-self-clause-runs
returns-else-self-clause-runs g c = λ keys.
    unbooted_runs (place_over g.C.Meaning.Rules.meaning keys (g.D.Disk.seen c.args.disk.now).size)
    (Happens (event_with c.args.event c.args.out.now.bytes.items)) (seen_of c.args.self.now) _
    (g.D.Disk.seen c.args.disk.now) (λ a rest. refl) (λ p. refl) c.if-self.false
    c.requires.empty
    (silent_event (seen_of c.args.self.now).setup.frames (g.D.Disk.seen c.args.disk.now).size _
    (event_with c.args.event c.args.out.now.bytes.items) c.requires.empty)
