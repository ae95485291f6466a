-- Rows that are lent.
use Rattle.std.specs.Prelude.{◌≤◌, length}
use Rattle.script_model.specs.declared.RawRow.{RawRow}
use Rattle.line_text.specs.declared.rows.LentRow.{LentRow}

-- the row that a lent one is
abbrev pub row_lent : LentRow → RawRow
row_lent (LentRow.Clock t) = RawRow.Clock t
row_lent (LentRow.Queue rows) = RawRow.Queue rows.now
row_lent (LentRow.Acct p amounts) = RawRow.Acct p amounts.now
row_lent (LentRow.Cells p cells) = RawRow.Cells p cells.now
row_lent (LentRow.OpenFile p fd name o) = RawRow.OpenFile p fd name.now o
row_lent (LentRow.Graft q pt image limit billed amounts) =
    RawRow.Graft q pt image limit billed amounts.now
row_lent (LentRow.Pol kind j v) = RawRow.Pol kind j v
row_lent (LentRow.Lru rows) = RawRow.Lru rows.now
row_lent (LentRow.Lock u p) = RawRow.Lock u p
row_lent (LentRow.Call p m wait top) = RawRow.Call p m wait top
row_lent (LentRow.Level p d q pt taken) = RawRow.Level p d q pt taken
row_lent (LentRow.Undo p d i) = RawRow.Undo p d i

-- its lists are no longer than those of a kernel, so that its line has room
abbrev pub FitsLine : LentRow → Type 0
FitsLine (LentRow.Queue rows) = length rows.now ≤ 16
FitsLine (LentRow.OpenFile p fd name o) = length name.now ≤ 16
FitsLine (LentRow.Lru rows) = length rows.now ≤ 64
FitsLine _ = Unit {0}
