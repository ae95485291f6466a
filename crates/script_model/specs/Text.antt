-- The lines that are written, byte for byte: those of notes, of raw rows, and of the end of a run.
use Rattle.std.specs.Prelude.{ℕ, cond, Bool, List, [], ◌∷◌, ◌++◌, codes, decimal, flat_map, Option, None, Some}
use Rattle.kernel_data.specs.declared.Object.{Object}
use Rattle.kernel_data.specs.declared.Object.TheVariants.{Graft, Acct, Cell, OpenFile, Queue, Cache, Lock, Pol}
use Rattle.kernel_data.specs.declared.Note.{Note}
use Rattle.kernel_data.specs.declared.Note.TheVariants.{Ticked, Ended, Refused, Gave, Dropped, Ran, Waits, InGraft}
use Rattle.kernel_data.specs.declared.Reply.{Reply}
use Rattle.kernel_data.specs.declared.Refusal.{Refusal}
use Rattle.kernel_data.specs.declared.Refusal.TheVariants.{NoProcess, Busy, Denied, BadPoint}
use Rattle.kernel_data.specs.declared.Refusal.TheVariants.{BadFd, NoFile, NoFd, BadIndex, NoImage}
use Rattle.kernel_data.specs.declared.Refusal.TheVariants.{Taken, NoGraft, Short, Full, Held}
use Rattle.kernel_data.specs.declared.Refusal.TheVariants.{NotHeld, DiskFault, TimedOut, PortFull}
use Rattle.kernel_data.specs.declared.Cause.{Cause}
use Rattle.kernel_data.specs.declared.Cause.TheVariants.{DivideByZero, NotCallable, BadArgument}
use Rattle.kernel_data.specs.declared.Cause.TheVariants.{NotYours, NotAllowed, TooDeep, Reentered}
use Rattle.kernel_data.specs.declared.Cause.TheVariants.{SpentSteps, SpentRecords, SpentLocks}
use Rattle.kernel_data.specs.declared.Cause.TheVariants.{RefusedAnswer, TimeOut}
use Rattle.kernel_data.specs.declared.Inverse.{Inverse}
use Rattle.kernel_data.specs.declared.RawRow.{RawRow}
use Rattle.kernel_data.specs.declared.WaitRow.{WaitRow}
use Rattle.kernel_data.specs.declared.TopRow.{TopRow}
use Rattle.kernel_data.specs.declared.QueueRow.{QueueRow}
use Rattle.kernel_data.specs.declared.FrameRow.{FrameRow}
use Rattle.kernel_data.specs.declared.OpenRow.{OpenRow}
use Rattle.kernel_data.specs.Bytes.{hex_text}
use Rattle.kernel_data.specs.Bytes.{spaced}

-- numbers, each after a space
abbrev pub all_spaced : List ℕ → List ℕ
all_spaced ns = flat_map spaced ns

-- a colon, and a number
abbrev pub after_colon : ℕ → List ℕ
after_colon n = 58 ∷ decimal n

-- 1 or 0
abbrev pub bit : Bool → ℕ
bit b = cond b 1 0

-- two numbers in parentheses
abbrev pub pair_text : ℕ → ℕ → List ℕ
pair_text a b = codes "(" ++ decimal a ++ codes "," ++ decimal b ++ codes ")"

-- a number in parentheses
abbrev pub single_text : ℕ → List ℕ
single_text a = codes "(" ++ decimal a ++ codes ")"

-- the name of an object
abbrev pub object_text : Object → List ℕ
object_text (Graft q pt) = codes "Graft" ++ pair_text q pt
object_text (Acct q) = codes "Acct" ++ single_text q
object_text (Cell q k) = codes "Cell" ++ pair_text q k
object_text (OpenFile q fd) = codes "Open" ++ pair_text q fd
object_text Queue = codes "Queue"
object_text Cache = codes "Cache"
object_text (Lock u) = codes "Lock" ++ single_text u
object_text (Pol kind) = codes "Pol" ++ single_text kind

-- ---- notes

-- what a reply adds to `ok`
abbrev pub reply_text : Reply → List ℕ
reply_text Reply.Plain = []
reply_text (Reply.One a) = spaced a
reply_text (Reply.Two a b) = spaced a ++ spaced b

-- the code of a refusal, and the numbers that it adds
abbrev pub refusal_text : Refusal → List ℕ
refusal_text NoProcess = codes "E1"
refusal_text (Busy m) = codes "E2" ++ spaced m
refusal_text Denied = codes "E3"
refusal_text BadPoint = codes "E4"
refusal_text BadFd = codes "E5"
refusal_text NoFile = codes "E6"
refusal_text NoFd = codes "E7"
refusal_text BadIndex = codes "E8"
refusal_text NoImage = codes "E9"
refusal_text Taken = codes "E10"
refusal_text NoGraft = codes "E11"
refusal_text (Short has) = codes "E12" ++ spaced has
refusal_text Full = codes "E13"
refusal_text Held = codes "E14"
refusal_text NotHeld = codes "E15"
refusal_text DiskFault = codes "E16"
refusal_text (TimedOut o h) = codes "E17 " ++ object_text o ++ spaced h
refusal_text PortFull = codes "E18"

-- the code of a cause, and what it adds
abbrev pub cause_text : Cause → List ℕ
cause_text DivideByZero = codes "C1"
cause_text (Cause.Trap code) = codes "C2" ++ spaced code
cause_text (NotCallable id) = codes "C3" ++ spaced id
cause_text (BadArgument id) = codes "C4" ++ spaced id
cause_text (NotYours id) = codes "C5" ++ spaced id
cause_text (NotAllowed id) = codes "C6" ++ spaced id
cause_text TooDeep = codes "C7"
cause_text Reentered = codes "C8"
cause_text SpentSteps = codes "C9"
cause_text SpentRecords = codes "C10"
cause_text SpentLocks = codes "C11"
cause_text (RefusedAnswer r0 r1) = codes "C12" ++ spaced r0 ++ spaced r1
cause_text (TimeOut o other) = codes "C13 " ++ object_text o ++ spaced other

-- bytes that a read gives, as hex
abbrev pub data_text : List ℕ → List ℕ
data_text [] = []
data_text (b ∷ bytes) = 32 ∷ hex_text (b ∷ bytes)

-- the line of a note, without its newline
abbrev pub note_text : Note → List ℕ
note_text (Ticked n clock) = decimal n ++ codes " tick" ++ spaced clock
note_text (Ended m reply) = decimal m ++ codes " ok" ++ reply_text reply
note_text (Refused m refusal) = decimal m ++ 32 ∷ refusal_text refusal
note_text (Gave m bytes) = decimal m ++ codes " data" ++ data_text bytes
note_text (Dropped m q pt cause) = decimal m ++ codes " drop" ++ spaced q ++ spaced pt
    ++ 32 ∷ cause_text cause
note_text (Ran n taken) = decimal n ++ codes " ran" ++ spaced taken
note_text (Waits m o h) = decimal m ++ codes " waits " ++ object_text o ++ spaced h
note_text (InGraft m q pt depth) = decimal m ++ codes " graft" ++ spaced q ++ spaced pt
    ++ spaced depth

-- a line with its newline
abbrev pub line : List ℕ → List ℕ
line text = text ++ 10 ∷ []

-- the lines of notes
abbrev pub note_lines : List Note → List ℕ
note_lines notes = flat_map (λ n. line (note_text n)) notes

-- ---- raw rows

-- a process of the queue
abbrev pub queue_text : QueueRow → List ℕ
queue_text r = spaced r.process ++ after_colon r.nice ++ after_colon r.slices

-- a frame of the cache
abbrev pub frame_text : FrameRow → List ℕ
frame_text r = spaced r.frame ++ after_colon r.owner ++ after_colon r.block
    ++ after_colon (bit r.dirty) ++ after_colon r.mark

-- a parameter, if there is one
abbrev pub param_text : Option ℕ → List ℕ
param_text None = []
param_text (Some v) = spaced v

-- what a call waits for, if it waits
abbrev pub wait_text : Option WaitRow → List ℕ
wait_text None = []
wait_text (Some w) = codes " waits " ++ object_text w.object ++ spaced w.holder ++ spaced w.count

-- the innermost level, if there is one
abbrev pub top_text : Option TopRow → List ℕ
top_text None = []
top_text (Some t) = codes " graft" ++ spaced t.installer ++ spaced t.point ++ spaced t.depth

-- a record, with the value that it puts back
abbrev pub inverse_text : Inverse → List ℕ
inverse_text (Inverse.Cell q k v) = codes "cell" ++ spaced q ++ spaced k ++ spaced v
inverse_text (Inverse.Nice q v) = codes "nice" ++ spaced q ++ spaced v
inverse_text (Inverse.Window q fd v) = codes "window" ++ spaced q ++ spaced fd ++ spaced v
inverse_text (Inverse.Mark f v) = codes "mark" ++ spaced f ++ spaced v
inverse_text (Inverse.Segment q pt) = codes "seg" ++ spaced q ++ spaced pt
inverse_text (Inverse.Tune kind k v) = codes "tune" ++ spaced kind ++ spaced k ++ spaced v

-- an open file
abbrev pub open_text : OpenRow → List ℕ
open_text o = spaced o.next ++ spaced o.window ++ spaced (bit o.seq) ++ spaced o.start
    ++ spaced o.count

-- the text of a raw row, without the number of its event
abbrev pub row_text : RawRow → List ℕ
row_text (RawRow.Clock t) = codes "clock" ++ spaced t
row_text (RawRow.Queue rows) = codes "queue" ++ flat_map queue_text rows
row_text (RawRow.Acct p amounts) = codes "acct" ++ spaced p ++ all_spaced amounts
row_text (RawRow.Cells p cells) = codes "cells" ++ spaced p ++ all_spaced cells
row_text (RawRow.OpenFile p fd name o) =
    codes "open" ++ spaced p ++ spaced fd ++ 32 ∷ name ++ open_text o
row_text (RawRow.Graft q pt image limit billed amounts) =
    codes "graft" ++ spaced q ++ spaced pt ++ spaced image ++ spaced limit ++ spaced (bit billed)
    ++ all_spaced amounts
row_text (RawRow.Pol kind j v) = codes "pol" ++ spaced kind ++ spaced j ++ param_text v
row_text (RawRow.Lru rows) = codes "lru" ++ flat_map frame_text rows
row_text (RawRow.Lock u p) = codes "lock" ++ spaced u ++ spaced p
row_text (RawRow.Call p m wait top) =
    codes "call" ++ spaced p ++ spaced m ++ wait_text wait ++ top_text top
row_text (RawRow.Level p d q pt taken) =
    codes "level" ++ spaced p ++ spaced d ++ spaced q ++ spaced pt ++ spaced taken
row_text (RawRow.Undo p d i) = codes "undo" ++ spaced p ++ spaced d ++ 32 ∷ inverse_text i

-- the lines of raw rows, for an event of this number
abbrev pub row_lines : ℕ → List RawRow → List ℕ
row_lines n rows = flat_map (λ r. line (decimal n ++ codes " raw " ++ row_text r)) rows

-- ---- the lines of a run that belong to no event

-- the line of `boot`: the numbers of frames, of the disk's blocks and of usable files
abbrev pub boot_text : ℕ → ℕ → ℕ → List ℕ
boot_text frames blocks files = codes "0 boot" ++ spaced frames ++ spaced blocks ++ spaced files

-- the line of a call of process p that is left in flight
abbrev pub left_text : ℕ → ℕ → List ℕ
left_text p m = codes "left" ++ spaced p ++ spaced m

-- what is written if the words of the command line aren't in the grammar
abbrev pub usage_text : List ℕ
usage_text =
    codes "usage: vino run KEYS [PATH] | box KEYS [keep] | check KEYS | reseal KEYS | asm | dis | lang | audit KEYS | demo N"
