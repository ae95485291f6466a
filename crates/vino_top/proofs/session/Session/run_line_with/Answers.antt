-- A line is refused, or run for what it says.
use Rattle.std.proofs.Common.{refl, ◌∙◌, ap, Ok, arith, ◌≡◌, ◌+◌, ◌-◌}
use Rattle.script_text.specs.Answers.{entry_seen}
use Rattle.script_text.specs.Syntax.{words_seen}
use Rattle.vino_top.specs.Run.{place_with}
use Rattle.vino_top.specs.Standing.{seen_of}
use Rattle.vino_top.proofs.PlaceLemmas.{boot_is_first}
use Rattle.vino_top.proofs.SessionLemmas.{line_after_refusal, line_refused_as, line_entered}
use Rattle.vino_top.proofs.ImageLemmas.{on_line, refused_later, wants_free}
use Rattle.vino_top.proofs.session.Session.run_line_with.Goals as goal

pub run_entry-requires-clause-place : goal.run_entry-requires-clause-place
run_entry-requires-clause-place g c = λ boot.
    boot_is_first (words_seen c.args.own.now) c.args.self.now.booted c.args.text.now
    ((rw c.in-Ok.is at c.parse_line.ensures.answer) ∙ ap (λ e. Ok e) boot)

pub run_entry-requires-clause-can : goal.run_entry-requires-clause-can
run_entry-requires-clause-can g c =
    record {
      counted = on_line _ c.args.self.now c.requires.room c.requires.within;
      empty = c.clear.ensures;
    }

pub refuse-requires : goal.refuse-requires
refuse-requires g c = c.clear.ensures

pub returns-in-Err-clause-ok : goal.returns-in-Err-clause-ok
returns-in-Err-clause-ok g c =
    line_refused_as (place_with (words_seen c.args.own.now) g.C.Meaning.Rules.meaning
    c.args.keys.now (g.D.Disk.seen c.args.disk.now).size)
    (seen_of c.args.self.now) (seen_of c.refuse.new.self) c.args.text.now _ c.in-Err.fault
    c.fault_code.result
    (g.D.Disk.seen c.args.disk.now) c.if-self.false
    c.fault_code.ensures (rw c.in-Err.is at c.parse_line.ensures.answer) (ap (λ s. seen_of s) c.refuse.ensures.state)
    c.refuse.ensures.text

pub returns-in_default-clause-ok : goal.returns-in_default-clause-ok
returns-in_default-clause-ok g c =
    line_entered (place_with (words_seen c.args.own.now) g.C.Meaning.Rules.meaning
    c.args.keys.now (g.D.Disk.seen c.args.disk.now).size)
    (seen_of c.args.self.now) (seen_of c.run_entry.new.self) c.args.text.now _
    (entry_seen c.parse_line.new.entry c.parse_line.new.bytes.items)
    (g.D.Disk.seen c.args.disk.now) (g.D.Disk.seen c.run_entry.new.disk)
    c.if-self.false (rw c.in-Ok.is at c.parse_line.ensures.answer) c.in_default.ensures.runs

pub returns-in-Err-run_entry-clause-err : goal.returns-in-Err-run_entry-clause-err
returns-in-Err-run_entry-clause-err g c =
    let lines : c.args.self.now.lines + 1 - 1 ≡ c.args.self.now.lines = omega arith in (
      rw (c.in-Err-run_entry.ensures.err.0, lines) refl,
      wants_free (words_seen c.args.own.now) g.C.Meaning.Rules.meaning (seen_of c.args.self.now)
          c.args.text.now (entry_seen c.parse_line.new.entry c.parse_line.new.bytes.items)
          c.if-self.false (rw c.in-Ok.is at c.parse_line.ensures.answer)
          c.in-Err-run_entry.ensures.err.1,
    )

pub returns-then-self-clause-ok : goal.returns-then-self-clause-ok
returns-then-self-clause-ok g c =
    line_after_refusal (place_with (words_seen c.args.own.now) g.C.Meaning.Rules.meaning
    c.args.keys.now (g.D.Disk.seen c.args.disk.now).size)
    (seen_of c.args.self.now) c.args.text.now _
    (g.D.Disk.seen c.args.disk.now) c.if-self.true
    c.clear.ensures

pub returns-in-Err-clause-within : goal.returns-in-Err-clause-within
returns-in-Err-clause-within g c =
    refused_later (g.D.Disk.seen c.args.disk.now).size c.args.self.now c.refuse.new.self
    c.refuse.ensures.state c.requires.within
