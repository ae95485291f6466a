-- Notes of calls that were refused because the disk failed.
use Rattle.std.specs.Prelude.{ℕ, Bool, false, List}
use Rattle.std.specs.List.{count_by}
use Rattle.kernel_model.specs.declared.Note.{Note}
use Rattle.kernel_model.specs.declared.Note.TheVariants.{Refused}
use Rattle.call_pieces.specs.QuickPieces.{is_disk_fault}

-- a note says that its call was refused because the disk failed
abbrev pub is_fault_note : Note → Bool
is_fault_note (Refused number why) = is_disk_fault why
is_fault_note _ = false

-- how many of these notes say so
abbrev pub fault_notes : List Note → ℕ
fault_notes notes = count_by is_fault_note notes
