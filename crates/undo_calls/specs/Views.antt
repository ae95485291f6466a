-- What a record that is given out stands for.
use Rattle.std.specs.Option.{option_copied}
use Rattle.undo_calls.specs.declared.Newest.{Newest}
use Rattle.undo_calls.specs.UndoLevels.{Logged}

-- the record of an inverse and the bytes beside it
abbrev pub logged_of : Newest → Logged
logged_of n = record { inverse = n.inverse; bytes = option_copied n.bytes }
