-- The line of a fault is a note's.
use Rattle.std.proofs.Common.{◌∙◌}
use Rattle.vino_top.proofs.SessionLemmas.{fault_line}
use Rattle.vino_top.proofs.session.say_boot.Goals as goal

pub returns-in-Fault : goal.returns-in-Fault
returns-in-Fault c = rw c.in-Fault.is (c.print_note.ensures ∙ fault_line)
