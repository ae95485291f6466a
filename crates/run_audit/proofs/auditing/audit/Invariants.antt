use Rattle.std.proofs.Common.{◌≡◌, drop}
use Rattle.run_audit.specs.Progress.{progress_of, begun, after_bytes, IsWithin}
use Rattle.run_audit.specs.Remaining.{still_written}
use Rattle.script_model.specs.Audits.{wanted}
use Rattle.audit_session.specs.Sessions.{session_of, RunIsKept}
use Rattle.run_audit.proofs.auditing.audit.Given as goal

abbrev pub invariant-loop-byte : goal.invariant-loop-byte
invariant-loop-byte l =
    (after_bytes (still_written l.keys (session_of l.audit.session) l.audit.line.items
    (drop l.byte-index l.script)) (progress_of l.claim l.audit.place)
    ≡ after_bytes (wanted l.keys l.script) (begun l.claim))
    × IsWithin l.claim l.audit.place × RunIsKept l.audit.session.run
