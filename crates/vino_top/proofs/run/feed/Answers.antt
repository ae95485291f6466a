-- A line that stands whole is run; of others what is before their end is fed, and then their end.
use Rattle.script_text.specs.Syntax.{words_seen}
use Rattle.vino_top.specs.Run.{place_with}
use Rattle.vino_top.specs.Standing.{seen_of}
use Rattle.vino_base.specs.Streams.{not_used, used_then}
use Rattle.std.proofs.Common.{arith, false, ◌+◌, ◌<◌, ◌≡◌, length, length-take}
use Rattle.vino_top.proofs.RunLemmas.{fed_from, fed_next, fed_none, fed_short, fed_whole}
use Rattle.vino_top.proofs.RunLemmas.{place_within, stops_next, whole_fed, whole_inside}
use Rattle.vino_top.proofs.RunLemmas.{whole_stops}
use Rattle.vino_top.proofs.run.feed.Goals as goal

pub loop-at-init : goal.loop-at-init
loop-at-init g c =
    record {
      fed =
          fed_none (place_with (words_seen c.args.own.now) g.C.Meaning.Rules.meaning
          c.args.keys.now (g.D.Disk.seen c.args.disk.now).size)
          (seen_of c.args.reader.now.session) c.args.reader.now.line _ _;
      within = c.requires.within;
      sink = not_used _;
      inside = omega arith;
    }

pub run_whole-requires-clause-can : goal.run_whole-requires-clause-can
run_whole-requires-clause-can g c =
    let i = c.loop-at.invariant in
    let bytes = c.args.bytes.now in
    let inside = whole_inside _ bytes _ c.loop-at.at c.in-Some.end c.behind-rest.ensures c.in-Some.ensures in
    record {
      lines = omega (arith, i.fed.lines, c.requires.lines, length-take c.loop-at.at bytes, inside);
      within = i.within;
      short = fed_short _ _ _ _ _ _ _ _ _ _ i.fed c.requires.short;
    }

pub run_whole-requires-clause-fresh : goal.run_whole-requires-clause-fresh
run_whole-requires-clause-fresh g c = c.in-Some.ensures.fresh

pub returns-in-Err-clause-fed : goal.returns-in-Err-clause-fed
returns-in-Err-clause-fed g c =
    let i = c.loop-at.invariant in
    let size : (g.D.Disk.seen c.loop-at.disk).size ≡ (g.D.Disk.seen c.args.disk.now).size = i.fed.calls.size in
    record {
      contents =
          whole_stops _ _ _ _ _ c.args.bytes.now _ c.loop-at.at c.in-Some.end _ _ _ _ _ _
          c.in-Err.stop c.behind-rest.ensures c.in-Some.ensures i.fed
          (rw size at c.in-Err.ensures.taken.contents);
      sink = used_then i.sink c.in-Err.ensures.taken.sink;
    }

pub loop-at-preserved-in-Some : goal.loop-at-preserved-in-Some
loop-at-preserved-in-Some g c =
    let i = c.loop-at.invariant in
    let bytes = c.args.bytes.now in
    let size : (g.D.Disk.seen c.loop-at.disk).size ≡ (g.D.Disk.seen c.args.disk.now).size = i.fed.calls.size in
    let inside = whole_inside _ bytes _ c.loop-at.at c.in-Some.end c.behind-rest.ensures c.in-Some.ensures in
    record {
      fed =
          whole_fed _ _ _ _ _ _ _ bytes _ c.loop-at.at c.in-Some.end _ _ _ _ _ _
          c.behind-rest.ensures c.in-Some.ensures i.fed c.in_default-run_whole.ensures.taken.line
          (rw size at c.in_default-run_whole.ensures.taken.contents);
      within = c.run_whole.ensures.within;
      sink = used_then {failed = false} i.sink c.in_default-run_whole.ensures.taken.sink;
      inside = omega (arith, inside);
    }

pub loop-at-preserved-then-at-bytes : goal.loop-at-preserved-then-at-bytes
loop-at-preserved-then-at-bytes g c =
    let i = c.loop-at.invariant in
    let p = c.put_plain-at in
    record {
      fed =
          fed_from _ _ _ _ _ _ c.args.bytes.now _ c.loop-at.at p.result _ _ _ _
          c.behind-rest.ensures i.fed p.ensures.no_line p.ensures.line;
      within = i.within;
      sink = i.sink;
      inside = omega (arith, c.if-at-bytes.true);
    }

pub take_byte-requires : goal.take_byte-requires
take_byte-requires g c =
    let i = c.loop-at.invariant in
    let p = c.put_plain-at in
    let bytes = c.args.bytes.now in
    let within = place_within bytes _ c.loop-at.at p.result c.behind-rest.ensures p.ensures.most i.inside in
    record {
      lines = omega (arith, i.fed.lines, c.requires.lines, length-take c.loop-at.at bytes, within, c.if-at-bytes.false);
      within = i.within;
      short =
          fed_short _ _ _ _ _ _ _ _ _ _ (fed_from _ _ _ _ _ _ bytes _ c.loop-at.at p.result _ _ _ _
          c.behind-rest.ensures i.fed p.ensures.no_line p.ensures.line) c.requires.short;
    }

pub returns-in-Err-take_byte-clause-fed : goal.returns-in-Err-take_byte-clause-fed
returns-in-Err-take_byte-clause-fed g c =
    let i = c.loop-at.invariant in
    let p = c.put_plain-at in
    let bytes = c.args.bytes.now in
    let within = place_within bytes _ c.loop-at.at p.result c.behind-rest.ensures p.ensures.most i.inside in
    let below : c.loop-at.at + p.result < length bytes = omega (arith, within, c.if-at-bytes.false) in
    let size : (g.D.Disk.seen c.loop-at.disk).size ≡ (g.D.Disk.seen c.args.disk.now).size = i.fed.calls.size in
    record {
      contents = stops_next _ _ _ _ _ bytes (c.loop-at.at + p.result) _ _ _ _ _ _ c.in-Err-take_byte.stop below
          (fed_from _ _ _ _ _ _ bytes _ c.loop-at.at p.result _ _ _ _
          c.behind-rest.ensures i.fed p.ensures.no_line p.ensures.line)
          (rw size at c.in-Err-take_byte.ensures.fed.contents);
      sink = used_then i.sink c.in-Err-take_byte.ensures.fed.sink;
    }

pub loop-at-preserved : goal.loop-at-preserved
loop-at-preserved g c =
    let i = c.loop-at.invariant in
    let p = c.put_plain-at in
    let bytes = c.args.bytes.now in
    let within = place_within bytes _ c.loop-at.at p.result c.behind-rest.ensures p.ensures.most i.inside in
    let below : c.loop-at.at + p.result < length bytes = omega (arith, within, c.if-at-bytes.false) in
    let size : (g.D.Disk.seen c.loop-at.disk).size ≡ (g.D.Disk.seen c.args.disk.now).size = i.fed.calls.size in
    record {
      fed = fed_next _ _ _ _ _ _ _ bytes (c.loop-at.at + p.result) _ _ _ _ _ _ below
          (fed_from _ _ _ _ _ _ bytes _ c.loop-at.at p.result _ _ _ _
          c.behind-rest.ensures i.fed p.ensures.no_line p.ensures.line)
          (rw size at c.in_default-take_byte.ensures.fed.contents);
      within = c.take_byte.ensures.within;
      sink = used_then {failed = false} i.sink c.in_default-take_byte.ensures.fed.sink;
      inside = omega (arith, below);
    }

pub returns-clause-fed : goal.returns-clause-fed
returns-clause-fed g c =
    record {
      contents =
          fed_whole _ _ _ _ _ c.args.bytes.now c.loop-at.at _ _ _ _
          (omega (arith, c.loop-at-test.false)) c.loop-at.invariant.fed;
      sink = c.loop-at.invariant.sink;
    }
