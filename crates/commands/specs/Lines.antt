-- What was read of a line of hex.
use Rattle.std.specs.Prelude.{ℕ, List, Option, None, Some, Result, Ok, Err, codes}
use Rattle.std.specs.Global.{Vec}
use Rattle.commands.specs.declared.hex_line.HexLine.{HexLine}
use Rattle.commands.specs.declared.hex_line.HexLine.TheVariants.{Bytes, NoHex, Unfinished, MoreBehind}

-- bytes, if there are any
abbrev pub bytes_view : Option (Vec ℕ) → Option (List ℕ)
bytes_view None = None
bytes_view (Some bytes) = Some bytes.items

-- the bytes of the line, or the text that refuses it
abbrev pub line_view : HexLine → Result (List ℕ) (List ℕ)
line_view (Bytes bytes) = Ok bytes.items
line_view NoHex = Err (codes "input S2")
line_view Unfinished = Err (codes "input S6")
line_view MoreBehind = Err (codes "input S1")
