use Rattle.std.proofs.Common.{[], ◌∷◌, ◌++◌, arith}
use Rattle.run_audit.specs.Progress.{progress_of}
use Rattle.audit_session.specs.Sessions.{session_of}
use Rattle.run_audit.proofs.Remaining.{ended, newline_ends, long_ends, on_ok}
use Rattle.run_audit.proofs.auditing.Comparing.take_byte.Goals as goal

pub returns-then-byte-eq10-clause-goes : goal.returns-then-byte-eq10-clause-goes
returns-then-byte-eq10-clause-goes c =
    let a = c.args.self.now in
    let e = c.end_line.new.self in
    let claim = c.args.claim.now in
    let text = a.line.items in
    let ends = newline_ends text c.args.byte c.if-byte-eq10.true in
    on_ok c.end_line.result
    (λ t_is next_is q_is. ended c.args.keys.now (session_of a.session) (session_of e.session) text e.line.items text c.args.byte (progress_of claim a.place) (progress_of claim e.place) ends.0 ends.1 t_is next_is q_is)
    c.end_line.ensures.session c.end_line.ensures.line c.end_line.ensures.took

pub returns-then-len-eq-LINE_BYTES-clause-goes : goal.returns-then-len-eq-LINE_BYTES-clause-goes
returns-then-len-eq-LINE_BYTES-clause-goes c =
    let a = c.args.self.now in
    let e = c.end_long.new.self in
    let claim = c.args.claim.now in
    let text = a.line.items in
    let ends = long_ends text c.args.byte c.if-byte-eq10.false (omega arith) in
    on_ok c.end_long.result
    (λ t_is next_is q_is. ended c.args.keys.now (session_of a.session) (session_of e.session) text e.line.items (text ++ c.args.byte ∷ []) c.args.byte (progress_of claim a.place) (progress_of claim e.place) ends.0 ends.1 t_is next_is q_is)
    c.end_long.ensures.session c.end_long.ensures.line c.end_long.ensures.took
