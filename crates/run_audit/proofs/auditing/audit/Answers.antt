use Rattle.std.proofs.Common.{◌≡◌, ℕ, suc, ◌+◌, List, ◌∷◌, ap, sym, ◌∙◌, drop, get_or, arith}
use Rattle.std.proofs.Math.Seq.{drop-cons}
use Rattle.std.proofs.lemmas.List.{drop_all, take_all}
use Rattle.script_model.specs.Session as model
use Rattle.script_model.specs.Directory.{sample_disk}
use Rattle.script_model.specs.Outcome.{SCRIPT_BYTES}
use Rattle.run_audit.specs.Progress.{Progress, progress_of, begun, after_bytes}
use Rattle.audit_session.specs.Sessions.{session_of, last_bytes}
use Rattle.run_audit.specs.Remaining.{still_written}
use Rattle.script_model.specs.Audits.{wanted}
use Rattle.run_audit.proofs.Remaining.{wanted_is, at_the_end, decided}
use Rattle.run_audit.proofs.auditing.audit.Goals as goal

pub loop-byte-init : goal.loop-byte-init
loop-byte-init c =
    let a = c.new-audit.result in
    let claim = c.args.claim.now in
    let script = c.args.script.now in
    let keys = c.args.keys.now in
    let p = progress_of claim a.place in (
      ap (λ (s : model.Session). after_bytes (still_written keys s a.line.items script) p) c.new-audit.ensures.session
          ∙ ap (λ (l : List ℕ). after_bytes (still_written keys
          (model.first_session sample_disk) l script) p) c.new-audit.ensures.line
          ∙ ap (λ (w : List ℕ). after_bytes w p) (wanted_is keys script
          (take_all SCRIPT_BYTES script c.requires.script))
          ∙ ap (λ (q : Progress). after_bytes (wanted keys script) q) c.new-audit.ensures.place,
      c.new-audit.ensures.within,
      c.new-audit.ensures.kept,
    )

pub loop-byte-preserved : goal.loop-byte-preserved
loop-byte-preserved c =
    let a = c.loop-byte.audit in
    let claim = c.args.claim.now in
    let script = c.args.script.now in
    let keys = c.args.keys.now in
    let i = c.loop-byte.byte-index in
    let next : i + 1 ≡ suc i = omega arith in
    let front : get_or script i 0 ∷ drop (i + 1) script ≡ drop i script =
    ap (λ (n : ℕ). get_or script i 0 ∷ drop n script) next ∙ sym (drop-cons script i 0 c.loop-byte-test.true) in (
      c.in_ok-take_byte.ensures.goes (drop (i + 1) script)
          ∙ ap (λ (bs : List ℕ). after_bytes (still_written keys (session_of a.session) a.line.items bs)
          (progress_of claim a.place)) front
          ∙ c.loop-byte.invariant.0,
      c.in_ok-take_byte.ensures.within,
      c.in_ok-take_byte.ensures.kept,
    )

pub returns : goal.returns
returns c =
    let a = c.loop-byte.audit in
    let claim = c.args.claim.now in
    let script = c.args.script.now in
    let keys = c.args.keys.now in
    let s = session_of a.session in
    let p = progress_of claim a.place in
    let all = wanted keys script in
    decided c.finish.result claim all (after_bytes (last_bytes s a.line.items) p) c.finish.ensures
    (at_the_end keys s a.line.items (drop c.loop-byte.byte-index script) p (after_bytes all (begun claim))
    (drop_all c.loop-byte.byte-index script c.loop-byte-test.false) c.loop-byte.invariant.0)
    c.comparing_decides.ensures
