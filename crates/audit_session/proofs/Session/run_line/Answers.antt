use Rattle.std.proofs.Common.{Ok, sym, ap, ◌∙◌, ◌++◌, codes, decimal}
use Rattle.script_model.specs.Bytes.{spaced}
use Rattle.script_model.specs.Text.{line}
use Rattle.script_text.specs.Answers.{entry_seen}
use Rattle.audit_session.proofs.Placing.{boot_is_first}
use Rattle.audit_session.proofs.Running.{on_ok, on_both, line_entered, line_refused}
use Rattle.audit_session.proofs.Session.run_line.Goals as goal

pub run_entry-requires-clause-first : goal.run_entry-requires-clause-first
run_entry-requires-clause-first c = λ boot.
    sym c.is_some.ensures ∙ boot_is_first c.is_some.result c.args.text.now
    ((rw (c.no_words.ensures, c.in-Ok.is) at c.parse_line.ensures.answer)
    ∙ ap (λ b. Ok (entry_seen c.parse_line.new.entry b)) (sym c.deref.ensures.0) ∙ ap (λ e. Ok e) boot)

pub returns-in-Err : goal.returns-in-Err
returns-in-Err c =
    on_both c.refuse-in-Err.result
    (λ state said. line_refused c.args.keys.now c.args.self.now c.refuse-in-Err.new.self c.args.text.now
    c.is_some.result c.in-Err.fault c.in_ok-self.field-0 c.refuse-in-Err.new.out c.if-self.false c.is_some.ensures
    (rw (c.no_words.ensures, c.in-Err.is) at c.parse_line.ensures.answer) c.in_ok-self.ensures state
    (said ∙ ap (λ n. line (codes "script" ++ spaced c.in_ok-self.field-0 ++ codes " S" ++ decimal n))
    c.fault_code.ensures) c.requires)
    c.refuse-in-Err.ensures.state c.refuse-in-Err.ensures.text

pub returns-in-Ok : goal.returns-in-Ok
returns-in-Ok c =
    on_ok c.run_entry.result
    (λ leaves. line_entered c.args.keys.now c.args.self.now c.run_entry.new.self c.args.text.now
    c.is_some.result (entry_seen c.parse_line.new.entry c.deref.result.now) c.in_ok-self.field-0 c.run_entry.new.out c.if-self.false c.is_some.ensures
    ((rw (c.no_words.ensures, c.in-Ok.is) at c.parse_line.ensures.answer)
    ∙ ap (λ b. Ok (entry_seen c.parse_line.new.entry b)) (sym c.deref.ensures.0)) c.in_ok-self.ensures leaves)
    c.run_entry.ensures
