-- What the line writes was written, or a part of it; or there was no memory for it.
use Rattle.std.proofs.Common.{arith}
use Rattle.vino_base.specs.Streams.{not_used}
use Rattle.script_text.specs.Syntax.{words_seen}
use Rattle.vino_top.specs.Run.{place_with, left_in}
use Rattle.vino_top.specs.Standing.{seen_of}
use Rattle.vino_top.proofs.RunLemmas.{line_written, line_lacks, ok_anyway}
use Rattle.vino_top.proofs.run.end_line.Goals as goal

pub run_line_with-requires-clause-room : goal.run_line_with-requires-clause-room
run_line_with-requires-clause-room g c = omega (arith, c.requires.lines)

pub run_line_with-requires-clause-within : goal.run_line_with-requires-clause-within
run_line_with-requires-clause-within g c = c.requires.within

pub returns-in-Err-clause-taken : goal.returns-in-Err-clause-taken
returns-in-Err-clause-taken g c =
    record {
      line = tt;
      contents =
          line_lacks (place_with (words_seen c.args.own.now) g.C.Meaning.Rules.meaning
          c.args.keys.now (g.D.Disk.seen c.args.disk.now).size)
          c.args.reader.now.line (seen_of c.args.reader.now.session) _ _ _
          c.in-Err.ensures.same_disk (rw c.line.ensures.value at c.in-Err.ensures.err.1);
      sink = not_used _;
    }

pub returns-clause-taken : goal.returns-clause-taken
returns-clause-taken g c =
    record {
      line = ok_anyway c.write_lines.result c.clear.ensures;
      contents =
          line_written (place_with (words_seen c.args.own.now) g.C.Meaning.Rules.meaning
          c.args.keys.now (g.D.Disk.seen c.args.disk.now).size)
          c.args.reader.now.line (seen_of c.args.reader.now.session) (seen_of c.run_line_with.new.self)
          (left_in c.run_line_with.new.out) _ _ _ _ c.write_lines.result
          (rw c.line.ensures.value at c.in_default.ensures.ok) c.run_line_with.ensures.counted
          c.write_lines.ensures.contents;
      sink = c.write_lines.ensures.sink;
    }
