-- Calls, events and notes without their bytes, and the bytes next to them.
use Rattle.std.specs.Prelude.{ℕ, List, [], ◌∷◌, take, drop}
use Rattle.kernel_data.specs.declared.BareCall.{BareCall}
use Rattle.kernel_data.specs.declared.BareCall.TheVariants as bare
use Rattle.kernel_data.specs.declared.BareEvent.{BareEvent}
use Rattle.kernel_data.specs.declared.BareEvent.TheVariants as bare_event
use Rattle.kernel_data.specs.declared.BareNote.{BareNote}
use Rattle.kernel_data.specs.declared.BareNote.TheVariants as bare_note
use Rattle.kernel_data.specs.declared.Event.{Event}
use Rattle.kernel_data.specs.declared.Event.TheVariants.{Tick, Step, Sys}
use Rattle.kernel_data.specs.declared.Note.{Note}
use Rattle.kernel_data.specs.declared.Note.TheVariants.{Ticked, Ended, Refused, Gave, Dropped, Ran, Waits, InGraft}
use Rattle.kernel_data.specs.declared.SysCall.{SysCall}
use Rattle.kernel_data.specs.declared.SysCall.TheVariants.{Spawn, Exit, Yield, OpenName, CloseFd}
use Rattle.kernel_data.specs.declared.SysCall.TheVariants.{Read, Write, Sync, TakeLock, FreeLock}
use Rattle.kernel_data.specs.declared.SysCall.TheVariants.{Poke, Peek, Tune, Choose, Give, Install}
use Rattle.kernel_data.specs.declared.SysCall.TheVariants.{Remove, Fund, Bill, Serve, StreamRead}
use Rattle.kernel_data.specs.declared.SysCall.TheVariants.{StreamWrite}

-- the call with its bytes
abbrev pub call_with : BareCall → (bytes : List ℕ) → SysCall
call_with bare.Spawn bytes = Spawn
call_with bare.Exit bytes = Exit
call_with bare.Yield bytes = Yield
call_with bare.OpenName bytes = OpenName bytes
call_with (bare.CloseFd fd) bytes = CloseFd fd
call_with (bare.Read fd i off len) bytes = Read fd i off len
call_with (bare.Write fd i off) bytes = Write fd i off bytes
call_with bare.Sync bytes = Sync
call_with (bare.TakeLock u) bytes = TakeLock u
call_with (bare.FreeLock u) bytes = FreeLock u
call_with (bare.Poke k v) bytes = Poke k v
call_with (bare.Peek k) bytes = Peek k
call_with (bare.Tune kind k v) bytes = Tune kind k v
call_with (bare.Choose kind j) bytes = Choose kind j
call_with (bare.Give q kind n) bytes = Give q kind n
call_with (bare.Install pt image limit) bytes = Install pt image limit
call_with (bare.Remove pt) bytes = Remove pt
call_with (bare.Fund pt kind n) bytes = Fund pt kind n
call_with (bare.Bill pt) bytes = Bill pt
call_with (bare.Serve port) bytes = Serve port bytes
call_with (bare.StreamRead fd i off len) bytes = StreamRead fd i off len
call_with (bare.StreamWrite fd i off) bytes = StreamWrite fd i off bytes

-- the event with the bytes of its call
abbrev pub event_with : BareEvent → (bytes : List ℕ) → Event
event_with bare_event.Tick bytes = Tick
event_with (bare_event.Step p n) bytes = Step p n
event_with (bare_event.Sys p call) bytes = Sys p (call_with call bytes)

-- the note with the bytes that were given
abbrev pub note_with : BareNote → (bytes : List ℕ) → Note
note_with (bare_note.Ticked n clock) bytes = Ticked n clock
note_with (bare_note.Ended n reply) bytes = Ended n reply
note_with (bare_note.Refused n refusal) bytes = Refused n refusal
note_with (bare_note.Gave n count) bytes = Gave n bytes
note_with (bare_note.Dropped n q pt cause) bytes = Dropped n q pt cause
note_with (bare_note.Ran n count) bytes = Ran n count
note_with (bare_note.Waits n object holder) bytes = Waits n object holder
note_with (bare_note.InGraft n q pt depth) bytes = InGraft n q pt depth

-- how many bytes a note has
abbrev pub given_count : BareNote → ℕ
given_count (bare_note.Gave n count) = count
given_count _ = 0

-- the notes with the bytes that they gave; one list holds the bytes of all, one after the other
abbrev pub notes_with : List BareNote → (bytes : List ℕ) → List Note
notes_with [] bytes = []
notes_with (note ∷ notes) bytes =
    note_with note (take (given_count note) bytes) ∷ notes_with notes (drop (given_count note) bytes)
