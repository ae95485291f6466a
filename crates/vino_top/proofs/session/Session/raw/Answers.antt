-- Nothing changes but the count of events.
use Rattle.std.proofs.Common.{arith, refl, sym, ◌∙◌}
use Rattle.script_model.specs.Script.{Raw}
use Rattle.placed_laws.proofs.Laws.{same_shown}
use Rattle.vino_top.specs.Run.{place_over}
use Rattle.vino_top.specs.Standing.{seen_of}
use Rattle.vino_top.proofs.SessionLemmas.{raw_runs, unbooted_runs, up_is_down}
use Rattle.vino_top.proofs.session.Session.raw.Goals as goal

pub add_rows-requires-clause-empty : goal.add_rows-requires-clause-empty
add_rows-requires-clause-empty g c = c.requires.empty.bytes_are

pub add_rows-requires-clause-running : goal.add_rows-requires-clause-running
add_rows-requires-clause-running g c = (c.requires.counted.1.within.kernel c.if-self.true).running

pub returns-then-self-clause-runs : goal.returns-then-self-clause-runs
returns-then-self-clause-runs g c = λ keys size d.
    raw_runs (place_over g.C.Meaning.Rules.meaning keys size)
    (same_shown g.C.Meaning.Rules.meaning g.C.Meaning.Rules.laws) (seen_of c.args.self.now) _ d c.if-self.true
    (record { bytes_are = c.add_rows.ensures; no_notes = c.requires.empty.no_notes })

pub returns-else-self-clause-runs : goal.returns-else-self-clause-runs
returns-else-self-clause-runs g c = λ keys size d.
    unbooted_runs (place_over g.C.Meaning.Rules.meaning keys size) Raw
    (seen_of c.args.self.now) _ d (λ a rest. refl) (λ p. refl) c.if-self.false
    c.requires.empty c.requires.empty.no_notes

pub returns-then-self-clause-within : goal.returns-then-self-clause-within
returns-then-self-clause-within g c = λ size within.
    let kernel = within.kernel c.if-self.true in
    record {
      frames_least = within.frames_least;
      frames_most = within.frames_most;
      events = omega (arith, c.requires.counted.1.fresh);
      kernel =
          λ up. record {
            running = kernel.running;
            abstraction = kernel.abstraction;
            clock = omega (arith, kernel.clock);
          };
      size_is = within.size_is;
      unbooted = λ down. up_is_down (sym c.if-self.true ∙ down);
    }
