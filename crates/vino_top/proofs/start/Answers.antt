-- The first session doesn't look at the disk's size.
use Rattle.std.proofs.Common.{inr}
use Rattle.vino_top.specs.Run.{devices}
use Rattle.vino_top.proofs.EndLemmas.{known_run, no_memory}
use Rattle.vino_top.proofs.start.Goals as goal

pub run_to_end-requires-clause-within : goal.run_to_end-requires-clause-within
run_to_end-requires-clause-within g c = c.requires.within (g.D.Disk.seen c.args.disk.now).size

pub returns-in-Err : goal.returns-in-Err
returns-in-Err g c =
    no_memory _ (devices (g.S.Source.seen c.args.src.now) (g.K.Sink.seen c.args.out.now)
    (g.D.Disk.seen c.args.disk.now))

pub returns : goal.returns
returns g c =
    let run = c.run_to_end.ensures in
    record {
      does = record {
        known = known_run c.run_to_end.result run.statuses;
        ran = run.ran;
        broke = run.broke;
        memory = λ five. inr (run.lacked five);
      };
      statuses = run.statuses;
      source = run.source;
      sink = run.sink;
    }
