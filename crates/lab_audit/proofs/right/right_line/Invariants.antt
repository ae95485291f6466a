use Rattle.audit_session.specs.Sessions.{RunIsKept}
use Rattle.lab_audit.proofs.right.right_line.Given as goal

abbrev pub invariant-loop-byte : goal.invariant-loop-byte
invariant-loop-byte l = RunIsKept l.running.session.run
