-- The script is run to its end and told of, or there was no memory for a line of it.
use Rattle.std.proofs.Common.{arith, inl, inr, refl}
use Rattle.vino_base.specs.Streams.{not_used}
use Rattle.vino_top.proofs.DemoLemmas.{ran_over, lacked_over, few_lines, has_room}
use Rattle.vino_top.proofs.EndLemmas.{kept}
use Rattle.vino_top.proofs.demo.run_demo.Goals as goal

pub run_all-requires-clause-few : goal.run_all-requires-clause-few
run_all-requires-clause-few g c = few_lines c.args.n c.args.lines c.requires.script

pub run_all-requires-clause-within : goal.run_all-requires-clause-within
run_all-requires-clause-within g c = c.requires.within (g.D.Disk.seen c.args.disk.now).size

pub returns-in-Err : goal.returns-in-Err
returns-in-Err g c =
    record {
      ran = λ is. absurd (omega (arith, is));
      broke = λ is. absurd (omega (arith, is));
      memory = λ is. (
        kept (g.K.Sink.seen c.args.sink.now).got,
        inr (lacked_over c.args.n _ _ _ _ _
            c.requires.script c.requires.begun c.in-Err.ensures.err),
      );
      statuses = inr (inr refl);
      sink = not_used _;
    }

pub tell-requires : goal.tell-requires
tell-requires g c =
    record {
      tally = has_room _ _ _ _ _ _ _ _ (few_lines c.args.n c.args.lines c.requires.script)
          c.in_default.ensures.ok;
    }

pub returns-in-Ok : goal.returns-in-Ok
returns-in-Ok g c =
    record {
      ran = λ is.
          ran_over c.args.n _ _ _ _ _ _ _ c.tell.new.text _ c.requires.script c.requires.begun
          c.in_default.ensures.ok c.tell.ensures
          (rw c.as_slice.ensures.value at c.in-Ok.ensures.contents);
      broke = λ is. absurd (omega (arith, is));
      memory = λ is. absurd (omega (arith, is));
      statuses = inl refl;
      sink = c.in-Ok.ensures.used;
    }

pub returns : goal.returns
returns g c =
    record {
      ran = λ is. absurd (omega (arith, is));
      broke = λ is.
          ran_over c.args.n _ _ _ _ _ _ _ c.tell.new.text _ c.requires.script c.requires.begun
          c.in_default.ensures.ok c.tell.ensures
          (rw c.as_slice.ensures.value at c.in-Err-write_all.ensures.contents);
      memory = λ is. absurd (omega (arith, is));
      statuses = inr (inl refl);
      sink = c.in-Err-write_all.ensures.used;
    }
