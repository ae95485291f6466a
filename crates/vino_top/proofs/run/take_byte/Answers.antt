-- A byte goes on with the line, or ends it.
use Rattle.vino_top.specs.Standing.{seen_of}
use Rattle.std.proofs.Common.{arith, sym, ◌∙◌}
use Rattle.vino_base.specs.Streams.{not_used}
use Rattle.vino_top.proofs.LineLemmas.{byte_goes, newline_ends, newline_short, longest_ends}
use Rattle.script_text.specs.Syntax.{words_seen}
use Rattle.vino_top.specs.Run.{place_with}
use Rattle.vino_top.proofs.RunLemmas.{fed_byte, line_ended}
use Rattle.vino_top.proofs.run.take_byte.Goals as goal

pub end_line-requires : goal.end_line-requires
end_line-requires g c =
    record {
      lines = c.requires.lines;
      within = c.requires.within;
      short =
          newline_short c.args.reader.now.line c.push.new.self c.args.byte
          (sym c.push.ensures.answer ∙ c.in-Line.is) c.push.ensures.line c.requires.short;
    }

pub end_long-requires-clause-lines : goal.end_long-requires-clause-lines
end_long-requires-clause-lines g c = omega (arith, c.requires.lines)

pub returns-in-Line-clause-fed : goal.returns-in-Line-clause-fed
returns-in-Line-clause-fed g c =
    let ends = newline_ends c.args.reader.now.line c.push.new.self c.args.byte
    (sym c.push.ensures.answer ∙ c.in-Line.is) c.push.ensures.line in
    let taken = c.end_line.ensures.taken in
    record {
      contents =
          line_ended (place_with (words_seen c.args.own.now) g.C.Meaning.Rules.meaning
          c.args.keys.now (g.D.Disk.seen c.args.disk.now).size)
          c.args.reader.now.line c.push.new.self c.end_line.new.reader.line c.args.byte
          (seen_of c.args.reader.now.session) (seen_of c.end_line.new.reader.session) _ _ _ _
          c.end_line.result ends.0 ends.1
          taken.line taken.contents;
      sink = taken.sink;
    }

pub returns-in-More-clause-fed : goal.returns-in-More-clause-fed
returns-in-More-clause-fed g c =
    let goes = byte_goes c.args.reader.now.line c.push.new.self c.args.byte
    (sym c.push.ensures.answer ∙ c.in-More.is) c.push.ensures.line in
    record {
      contents =
          rw goes.1 (fed_byte
          (place_with (words_seen c.args.own.now) g.C.Meaning.Rules.meaning
          c.args.keys.now (g.D.Disk.seen c.args.disk.now).size)
          (seen_of c.args.reader.now.session) c.args.reader.now.line c.args.byte _ _ goes.0);
      sink = not_used _;
    }

pub returns-in-TooLong-clause-fed : goal.returns-in-TooLong-clause-fed
returns-in-TooLong-clause-fed g c =
    let ends = longest_ends c.args.reader.now.line c.push.new.self c.args.byte
    (sym c.push.ensures.answer ∙ c.in-TooLong.is) c.requires.short c.push.ensures.line in
    let taken =
    c.end_long.ensures.taken (place_with (words_seen c.args.own.now) g.C.Meaning.Rules.meaning
    c.args.keys.now (g.D.Disk.seen c.args.disk.now).size)
    (g.D.Disk.seen c.args.disk.now) in
    record {
      contents =
          line_ended (place_with (words_seen c.args.own.now) g.C.Meaning.Rules.meaning
          c.args.keys.now (g.D.Disk.seen c.args.disk.now).size)
          c.args.reader.now.line _ c.end_long.new.reader.line c.args.byte
          (seen_of c.args.reader.now.session) (seen_of c.end_long.new.reader.session) _ _ _ _
          c.end_long.result ends.0 ends.1
          taken.line taken.contents;
      sink = taken.sink;
    }

pub returns-in-TooLong-clause-within : goal.returns-in-TooLong-clause-within
returns-in-TooLong-clause-within g c = c.end_long.ensures.within (g.D.Disk.seen c.args.disk.now).size c.requires.within
