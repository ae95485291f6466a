-- Each turn of the run goes on from what was reached, or ends it.
use Rattle.script_text.specs.Syntax.{words_seen}
use Rattle.vino_top.specs.Run.{place_with}
use Rattle.vino_top.specs.Standing.{seen_of}
use Rattle.vino_base.specs.Streams.{not_used, used_then}
use Rattle.std.proofs.Common.{arith, true, false, ◌==◌, length, take, drop, ◌≤◌, ◌≡◌, ◌-◌, ◌++◌}
use Rattle.std.proofs.Common.{◌∙◌, sym, refl, length-append, length-take}
use Rattle.vino_top.proofs.LineLemmas.{piece_is}
use Rattle.vino_top.proofs.EndLemmas.{reached_first, reached_lines, reached_short, reached_more}
use Rattle.vino_top.proofs.EndLemmas.{ran_fault, ran_over, ran_stopped, ran_finish, broke_finish}
use Rattle.vino_top.proofs.EndLemmas.{broke_fed, lacked_fed, finish_read, stop_read, stop_written}
use Rattle.vino_top.proofs.run.run_to_end.Goals as goal

pub loop-left-init : goal.loop-left-init
loop-left-init g c =
    record {
      reached =
          reached_first
          (place_with (words_seen c.args.loading.own.now) g.C.Meaning.Rules.meaning
          c.args.loading.keys.now (g.D.Disk.seen c.args.disk.now).size)
          (seen_of c.args.reader.now.session) _ _ _ c.args.reader.now.line c.requires.line;
      within = c.requires.within;
      going = c.requires.begun.refused;
      source = not_used _;
      sink = not_used _;
      room = c.requires.room;
    }

pub finish-requires-clause-lines : goal.finish-requires-clause-lines
finish-requires-clause-lines g c =
    omega (
      arith,
      reached_lines _ _ _ _ _ _ _ _ _ _ _ c.requires.begun.lines
          c.loop-left.invariant.reached,
    )

pub feed-requires : goal.feed-requires
feed-requires g c =
    let reached = c.loop-left.invariant.reached in
    record {
      lines =
          omega (
            arith,
            reached_lines _ _ _ _ _ _ _ _ _ _ _ c.requires.begun.lines reached,
            length-take c.min-script.result (c.read.new.buf ++ drop c.min-room.result
                c.loop-left.buf),
            c.min-script.ensures,
            c.loop-left-test.true,
          );
      within = c.loop-left.invariant.within;
      short = reached_short _ _ _ _ _ _ _ _ _ _ _ reached;
    }

pub returns-in-Err-clause-ran : goal.returns-in-Err-clause-ran
returns-in-Err-clause-ran g c = λ other more.
    (ran_fault (place_with (words_seen c.args.loading.own.now) g.C.Meaning.Rules.meaning
    c.args.loading.keys.now (g.D.Disk.seen c.args.disk.now).size)
    (seen_of c.args.reader.now.session) (seen_of c.loop-left.reader.session) _ (g.S.Source.seen
    c.loop-left.src) _ _ _ _ _ c.loop-left.reader.line c.loop-left.left c.requires.begun
    c.loop-left.invariant.reached c.loop-left.invariant.going c.loop-left-test.true
    c.in-Err.ensures.contents c.loop-left.invariant.source c.in-Err.ensures.used)

pub returns-clause-ran : goal.returns-clause-ran
returns-clause-ran g c = λ other more.
    (ran_over (place_with (words_seen c.args.loading.own.now) g.C.Meaning.Rules.meaning
    c.args.loading.keys.now (g.D.Disk.seen c.args.disk.now).size)
    (seen_of c.args.reader.now.session) (seen_of c.loop-left.reader.session) _ _ _ _ _ _
    c.loop-left.reader.line c.loop-left.left c.requires.begun c.loop-left.invariant.reached
    (omega (arith, c.loop-left-test.false)) c.loop-left.invariant.going)

pub returns-in-Ok-eq0-clause-ran : goal.returns-in-Ok-eq0-clause-ran
returns-in-Ok-eq0-clause-ran g c = λ other more.
    let none = rw c.in-Ok-eq0.field-0-test at c.in-Ok-eq0.ensures.contents in
    (ran_finish (place_with (words_seen c.args.loading.own.now) g.C.Meaning.Rules.meaning
    c.args.loading.keys.now (g.D.Disk.seen c.args.disk.now).size)
    (seen_of c.args.reader.now.session) (seen_of c.loop-left.reader.session) _ _ _ _
    _ _ _ _ c.loop-left.reader.line c.loop-left.left c.finish.result c.requires.begun
    c.loop-left.invariant.reached c.loop-left.invariant.going c.loop-left-test.true none.0
    (none.1 refl (omega (
      arith,
      c.read.auto.buf,
      length-take c.min-room.result c.loop-left.buf,
      c.min-room.ensures,
      c.loop-left.invariant.room,
      c.loop-left-test.true,
    )))
    c.finish.ensures.done other)

pub returns-in-Ok-eq0-clause-broke : goal.returns-in-Ok-eq0-clause-broke
returns-in-Ok-eq0-clause-broke g c = λ four.
    let none = rw c.in-Ok-eq0.field-0-test at c.in-Ok-eq0.ensures.contents in
    (broke_finish (place_with (words_seen c.args.loading.own.now) g.C.Meaning.Rules.meaning
    c.args.loading.keys.now (g.D.Disk.seen c.args.disk.now).size)
    (seen_of c.args.reader.now.session) (seen_of c.loop-left.reader.session) _ _ _ _ _ _ _ _
    c.loop-left.reader.line c.loop-left.left c.requires.begun c.loop-left.invariant.reached
    c.loop-left.invariant.going c.loop-left-test.true none.0
    (none.1 refl (omega (
      arith,
      c.read.auto.buf,
      length-take c.min-room.result c.loop-left.buf,
      c.min-room.ensures,
      c.loop-left.invariant.room,
      c.loop-left-test.true,
    )))
    (c.finish.ensures.broken four))

pub loop-left-preserved : goal.loop-left-preserved
loop-left-preserved g c =
    let within : c.in-Ok.n ≤ length c.read.new.buf = omega (arith, c.in-Ok.ensures.bound, c.read.auto.buf) in
    let most : c.in-Ok.n ≤ c.loop-left.left = omega (
      arith,
      c.in-Ok.ensures.bound,
      length-take c.min-room.result c.loop-left.buf,
      c.min-room.ensures,
    ) in
    let size : length (take c.in-Ok.n c.read.new.buf) ≡ c.in-Ok.n =
    omega (arith, length-take c.in-Ok.n c.read.new.buf) in
    let piece = piece_is c.in-Ok.n c.loop-left.left c.min-script.result c.read.new.buf
    (drop c.min-room.result c.loop-left.buf) c.min-script.ensures within in
    let same : (g.D.Disk.seen c.loop-left.disk).size ≡ (g.D.Disk.seen c.args.disk.now).size =
    c.loop-left.invariant.reached.fed.calls.size in
    let fed = rw (piece, same) at c.in_default.ensures.fed.contents in
    record {
      reached =
          reached_more
          (place_with (words_seen c.args.loading.own.now) g.C.Meaning.Rules.meaning
          c.args.loading.keys.now (g.D.Disk.seen c.args.disk.now).size)
          (seen_of c.args.reader.now.session) (seen_of c.loop-left.reader.session)
          (seen_of c.feed.new.reader.session) _ _ _ _ _ _ _ _ _ c.loop-left.reader.line
          c.feed.new.reader.line c.loop-left.left c.in-Ok.n (take c.in-Ok.n c.read.new.buf)
          c.loop-left.invariant.reached c.loop-left-test.true size most c.in-Ok.ensures.contents.0 fed;
      within = c.feed.ensures.within;
      going = c.if-reader.false;
      source = used_then {failed = false} c.loop-left.invariant.source c.in-Ok.ensures.used;
      sink = used_then {failed = false} c.loop-left.invariant.sink c.in_default.ensures.fed.sink;
      room =
          omega (
            arith,
            c.loop-left.invariant.room,
            c.read.auto.buf,
            length-take c.min-room.result c.loop-left.buf,
            c.min-room.ensures,
            c.loop-left-test.true,
            length-append c.read.new.buf (drop c.min-room.result c.loop-left.buf),
          );
    }

pub returns-in-Err-feed-clause-broke : goal.returns-in-Err-feed-clause-broke
returns-in-Err-feed-clause-broke g c = λ is.
    let same : (g.D.Disk.seen c.loop-left.disk).size ≡ (g.D.Disk.seen c.args.disk.now).size =
    c.loop-left.invariant.reached.fed.calls.size in
    let within : c.in-Ok.n ≤ length c.read.new.buf = omega (arith, c.in-Ok.ensures.bound, c.read.auto.buf) in
    let most : c.in-Ok.n ≤ c.loop-left.left = omega (
      arith,
      c.in-Ok.ensures.bound,
      length-take c.min-room.result c.loop-left.buf,
      c.min-room.ensures,
    ) in
    let size : length (take c.in-Ok.n c.read.new.buf) ≡ c.in-Ok.n =
    omega (arith, length-take c.in-Ok.n c.read.new.buf) in
    let piece = piece_is c.in-Ok.n c.loop-left.left c.min-script.result c.read.new.buf
    (drop c.min-room.result c.loop-left.buf) c.min-script.ensures within in
    (broke_fed (place_with (words_seen c.args.loading.own.now) g.C.Meaning.Rules.meaning
    c.args.loading.keys.now (g.D.Disk.seen c.args.disk.now).size)
    (seen_of c.args.reader.now.session) (seen_of c.loop-left.reader.session) _ _ _ _ _ _ _
    _ _ c.loop-left.reader.line c.loop-left.left c.in-Ok.n (take c.in-Ok.n c.read.new.buf) _
    c.in-Err-feed.stop
    c.requires.begun c.loop-left.invariant.reached
    c.loop-left-test.true size most c.in-Ok.ensures.contents.0 piece
    (sym c.status_of.ensures ∙ is) (rw same at c.in-Err-feed.ensures.fed.contents))

pub returns-in-Err-feed-clause-lacked : goal.returns-in-Err-feed-clause-lacked
returns-in-Err-feed-clause-lacked g c = λ is.
    let same : (g.D.Disk.seen c.loop-left.disk).size ≡ (g.D.Disk.seen c.args.disk.now).size =
    c.loop-left.invariant.reached.fed.calls.size in
    let within : c.in-Ok.n ≤ length c.read.new.buf = omega (arith, c.in-Ok.ensures.bound, c.read.auto.buf) in
    let most : c.in-Ok.n ≤ c.loop-left.left = omega (
      arith,
      c.in-Ok.ensures.bound,
      length-take c.min-room.result c.loop-left.buf,
      c.min-room.ensures,
    ) in
    let size : length (take c.in-Ok.n c.read.new.buf) ≡ c.in-Ok.n =
    omega (arith, length-take c.in-Ok.n c.read.new.buf) in
    let piece = piece_is c.in-Ok.n c.loop-left.left c.min-script.result c.read.new.buf
    (drop c.min-room.result c.loop-left.buf) c.min-script.ensures within in
    (lacked_fed (place_with (words_seen c.args.loading.own.now) g.C.Meaning.Rules.meaning
    c.args.loading.keys.now (g.D.Disk.seen c.args.disk.now).size)
    (seen_of c.args.reader.now.session) (seen_of c.loop-left.reader.session) _ _ _ _ _ _ _
    _ _ c.loop-left.reader.line c.loop-left.left c.in-Ok.n (take c.in-Ok.n c.read.new.buf) _
    c.in-Err-feed.stop
    c.requires.begun c.loop-left.invariant.reached
    c.loop-left-test.true size most c.in-Ok.ensures.contents.0 piece
    (sym c.status_of.ensures ∙ is) (rw same at c.in-Err-feed.ensures.fed.contents))

pub returns-then-reader-clause-ran : goal.returns-then-reader-clause-ran
returns-then-reader-clause-ran g c = λ other more.
    let same : (g.D.Disk.seen c.loop-left.disk).size ≡ (g.D.Disk.seen c.args.disk.now).size =
    c.loop-left.invariant.reached.fed.calls.size in
    let within : c.in-Ok.n ≤ length c.read.new.buf = omega (arith, c.in-Ok.ensures.bound, c.read.auto.buf) in
    let most : c.in-Ok.n ≤ c.loop-left.left = omega (
      arith,
      c.in-Ok.ensures.bound,
      length-take c.min-room.result c.loop-left.buf,
      c.min-room.ensures,
    ) in
    let size : length (take c.in-Ok.n c.read.new.buf) ≡ c.in-Ok.n =
    omega (arith, length-take c.in-Ok.n c.read.new.buf) in
    let piece = piece_is c.in-Ok.n c.loop-left.left c.min-script.result c.read.new.buf
    (drop c.min-room.result c.loop-left.buf) c.min-script.ensures within in
    let reached = reached_more
    (place_with (words_seen c.args.loading.own.now) g.C.Meaning.Rules.meaning
    c.args.loading.keys.now (g.D.Disk.seen c.args.disk.now).size)
    (seen_of c.args.reader.now.session) (seen_of c.loop-left.reader.session)
    (seen_of c.feed.new.reader.session) _ _ _ _ _ _ _ _ _ c.loop-left.reader.line
    c.feed.new.reader.line c.loop-left.left c.in-Ok.n (take c.in-Ok.n c.read.new.buf)
    c.loop-left.invariant.reached c.loop-left-test.true size most c.in-Ok.ensures.contents.0
    (rw (piece, same) at c.in_default.ensures.fed.contents) in
    (ran_stopped (place_with (words_seen c.args.loading.own.now) g.C.Meaning.Rules.meaning
    c.args.loading.keys.now (g.D.Disk.seen c.args.disk.now).size)
    (seen_of c.args.reader.now.session) (seen_of c.feed.new.reader.session) _ _ _ _ _
    _ c.feed.new.reader.line (c.loop-left.left - c.in-Ok.n) c.requires.begun reached
    c.if-reader.true)

-- ---- the devices

pub returns-in-Err-clause-source : goal.returns-in-Err-clause-source
returns-in-Err-clause-source g c = used_then {failed = true} c.loop-left.invariant.source c.in-Err.ensures.used

pub returns-in-Err-clause-sink : goal.returns-in-Err-clause-sink
returns-in-Err-clause-sink g c = c.loop-left.invariant.sink

pub returns-in-Ok-eq0-clause-source : goal.returns-in-Ok-eq0-clause-source
returns-in-Ok-eq0-clause-source g c =
    finish_read _ _ c.finish.result c.finish.ensures.statuses
    (used_then {failed = false} c.loop-left.invariant.source c.in-Ok-eq0.ensures.used)

pub returns-in-Ok-eq0-clause-sink : goal.returns-in-Ok-eq0-clause-sink
returns-in-Ok-eq0-clause-sink g c =
    used_then {failed = c.finish.result == 4} c.loop-left.invariant.sink c.finish.ensures.sink

pub returns-in-Err-feed-clause-source : goal.returns-in-Err-feed-clause-source
returns-in-Err-feed-clause-source g c =
    stop_read _ _ c.in-Err-feed.stop c.status_of.result c.status_of.ensures
    (used_then {failed = false} c.loop-left.invariant.source c.in-Ok.ensures.used)

pub returns-in-Err-feed-clause-sink : goal.returns-in-Err-feed-clause-sink
returns-in-Err-feed-clause-sink g c =
    stop_written _ _ _ c.in-Err-feed.stop c.status_of.result c.status_of.ensures
    c.loop-left.invariant.sink c.in-Err-feed.ensures.fed.sink

pub returns-then-reader-clause-source : goal.returns-then-reader-clause-source
returns-then-reader-clause-source g c = used_then {failed = false} c.loop-left.invariant.source c.in-Ok.ensures.used

pub returns-then-reader-clause-sink : goal.returns-then-reader-clause-sink
returns-then-reader-clause-sink g c =
    used_then {failed = false} c.loop-left.invariant.sink c.in_default.ensures.fed.sink

pub returns-clause-source : goal.returns-clause-source
returns-clause-source g c = c.loop-left.invariant.source

pub returns-clause-sink : goal.returns-clause-sink
returns-clause-sink g c = c.loop-left.invariant.sink
