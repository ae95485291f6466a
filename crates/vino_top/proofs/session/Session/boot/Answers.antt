-- The kernel begins as the opening one does, and the note of its boot is written.
use Rattle.std.proofs.Common.{◌≡◌, [], length, ◌∙◌, ap, sym, arith}
use Rattle.running_kernel.specs.Views.{placed_of}
use Rattle.vino_top.specs.Run.{place_over}
use Rattle.vino_top.specs.Standing.{seen_of}
use Rattle.vino_top.proofs.SessionLemmas.{boot_runs, up_is_down}
use Rattle.vino_top.proofs.session.Session.boot.Goals as goal

pub add-requires : goal.add-requires
add-requires g c =
    let none : c.args.out.now.lines ≡ [] = c.requires.empty.bytes_are in
    let count : length c.args.out.now.lines ≡ 0 = ap length none in
    omega (arith, count)

pub returns-clause-within : goal.returns-clause-within
returns-clause-within g c =
    let kernel = c.boot-note.ensures.kernel in
    record {
      frames_least = c.requires.within.frames_least;
      frames_most = c.requires.within.frames_most;
      events = c.requires.within.events;
      kernel =
          λ up. record {
            running = kernel.running;
            abstraction = kernel.abstraction;
            clock = omega (arith, kernel.clock);
          };
      size_is = λ up. c.boot-note.ensures.size ∙ sym c.boot-note.ensures.booted.made.size;
      unbooted = λ down. up_is_down down;
    }

pub returns-clause-runs : goal.returns-clause-runs
returns-clause-runs g c = λ keys.
    let none : c.args.out.now.lines ≡ [] = c.requires.empty.bytes_are in
    boot_runs (place_over g.C.Meaning.Rules.meaning keys (g.D.Disk.seen c.args.disk.now).size) (seen_of c.args.self.now)
    (placed_of c.boot-note.new.self.running) c.boot-note.result _
    (g.D.Disk.seen c.args.disk.now) (g.D.Disk.seen c.boot-note.new.disk)
    c.boot-note.ensures.booted
    (record { bytes_are = c.add.ensures.value ∙ rw none c.say_boot.ensures; no_notes = c.requires.empty.no_notes })
