use Rattle.std.proofs.Common.{◌≡◌, ◌++◌, drop}
use Rattle.script_model.specs.Text.{note_lines}
use Rattle.audit_session.proofs.output.Output.add_notes.Given as goal

-- the lines so far, and those of the notes that are left
abbrev pub invariant-loop-note : goal.invariant-loop-note
invariant-loop-note l =
    l.self ++ note_lines (drop l.note-index l.notes) ≡ l.fn.self ++ note_lines l.notes
