-- What the line writes was written, or a part of it.
use Rattle.vino_top.specs.Run.{left_in}
use Rattle.vino_top.specs.Standing.{seen_of}
use Rattle.std.proofs.Common.{arith, ◌∷◌, [], ◌++◌, ◌<◌, length, length-append}
use Rattle.vino_top.proofs.RunLemmas.{line_written, ok_anyway}
use Rattle.vino_top.proofs.run.end_long.Goals as goal

pub returns-clause-taken : goal.returns-clause-taken
returns-clause-taken g c = λ place d.
    let text = c.args.reader.now.line ++ c.args.byte ∷ [] in
    let long : 65536 < length text =
    omega (arith, c.requires.long, length-append c.args.reader.now.line (c.args.byte ∷ [])) in
    record {
      line = ok_anyway c.write_lines.result c.clear.ensures;
      contents =
          line_written place text (seen_of c.args.reader.now.session)
          (seen_of c.refuse_long.new.self) (left_in c.refuse_long.new.out) _ _ d d
          c.write_lines.result (c.refuse_long.ensures.runs place text d long)
          c.refuse_long.ensures.counted c.write_lines.ensures.contents;
      sink = c.write_lines.ensures.sink;
    }
