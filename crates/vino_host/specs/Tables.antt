-- The table of words, the records of what a call changed in it, and what two calls of a plug-in do
-- with it.
use Rattle.std.specs.Prelude.{ℕ, ◌+◌, ◌-◌, ◌==◌, Bool, true, false, cond, not, ◌&&◌, ◌||◌}
use Rattle.std.specs.Prelude.{nat_le, nat_lt, List, [], ◌∷◌}
use Rattle.std.specs.Prelude.{◌++◌, length, take, slice_get, slice_set, Some, None}
use Rattle.vino_host.specs.declared.Word.{Word}
use Rattle.vino_host.specs.declared.Record.{Record}
use Rattle.vino_host.specs.declared.Log.{Log}
use Rattle.vino_host.specs.declared.Served.{Served}
use Rattle.vino_host.specs.declared.Served.TheVariants as served_as
use Rattle.vino_host.specs.Codes.{BAD_ARGUMENT, NO_RECORDS, BUSY}

-- the records of a log, oldest first
abbrev pub records_of : Log → List Record
records_of log = take log.count log.records

-- the words and the records after what a plug-in called, and the word that it gave; or why it was
-- refused
pub data Serves : Type 0 where
  Gives : (x : ℕ) → (table : List Word) → (records : List Record) → Serves
  Refuses : (cause : ℕ) → Serves

-- no other call changed the word
abbrev pub is_open_to : (number : ℕ) → Word → Bool
is_open_to number w = w.owner == 0 || w.owner == number

-- how many readings of a word a record stands for
abbrev pub reading_of : Record → ℕ
reading_of r = cond (r.id == 1) 0 1

-- how many readings of the word at place k these records stand for
abbrev pub readings : (k : ℕ) → List Record → ℕ
readings k [] = 0
readings k (r ∷ rs) = cond (r.place == k) (reading_of r) 0 + readings k rs

-- a call may read a word that no other call changed, and change it where none read it either
abbrev pub may_serve : (number id k : ℕ) → List Record → Word → Bool
may_serve number id k records w =
    is_open_to number w && (not (id == 1) || nat_le w.readers (readings k records))

-- a call reads a word again that it read or changed before
abbrev pub is_held : (number id k : ℕ) → List Record → Word → Bool
is_held number id k records w =
    not (id == 1) && (w.owner == number || nat_lt 0 (readings k records))

-- there is no room for one more record, or for one more reader
abbrev pub is_full : List Record → Word → Bool
is_full records w = nat_le 64 (length records) || nat_le 4294967295 w.readers

-- a word that a call changed to v, or read for the first time
abbrev pub taken : (number id v : ℕ) → Word → Word
taken number id v w =
    record {
      value = cond (id == 1) v w.value;
      owner = cond (id == 1) number w.owner;
      readers = w.readers + cond (id == 1) 0 1;
    }

-- a record of a word as it is at a place
abbrev pub record_of : (id k : ℕ) → Word → Record
record_of id k w = record { place = k; id = id; value = w.value; owner = w.owner }

-- A word is read (id 0) or changed to v (id 1). A word that another call changed is refused, and a
-- change of one that another call read. A change has a record, and so has the first reading.
abbrev pub serves_word : (number id k v : ℕ) → List Word → List Record → Word → Serves
serves_word number id k v table records w =
    cond (not (may_serve number id k records w)) (Refuses BUSY)
    (cond (is_held number id k records w) (Gives w.value table records)
    (cond (is_full records w) (Refuses NO_RECORDS)
    (Gives w.value (slice_set table k (taken number id v w)) (records ++ record_of id k w ∷ []))))

-- the same of the word at place k, if there is one
abbrev pub serves : (number id k v : ℕ) → List Word → List Record → Serves
serves number id k v table records =
    elim (slice_get table k) [
      | None ↦ Refuses BAD_ARGUMENT
      | Some w ↦ serves_word number id k v table records w
    ]

-- what the code says of it
abbrev pub served : Served → List Word → List Record → Serves
served (served_as.Gave x) table records = Gives x table records
served (served_as.Refused cause) table records = Refuses cause

-- it is refused
abbrev pub is_refused : Served → Bool
is_refused (served_as.Gave x) = false
is_refused (served_as.Refused cause) = true

-- a word as a record has it, without its reading
abbrev pub as_before : Record → Word → Word
as_before r w = record { value = r.value; owner = r.owner; readers = w.readers - reading_of r }

-- the word of a record is put back as the record has it
abbrev pub put_back : Record → List Word → List Word
put_back r table =
    elim (slice_get table r.place) [
      | None ↦ table
      | Some w ↦ slice_set table r.place (as_before r w)
    ]

-- what records say is put back, the newest first
abbrev pub undone : List Record → List Word → List Word
undone [] table = table
undone (r ∷ rs) table = put_back r (undone rs table)

-- a word with its owner from before, without the record's reading
abbrev pub given_back : Record → Word → Word
given_back r w = record { value = w.value; owner = r.owner; readers = w.readers - reading_of r }

-- the word of a record gets its owner from before
abbrev pub released_at : Record → List Word → List Word
released_at r table =
    elim (slice_get table r.place) [
      | None ↦ table
      | Some w ↦ slice_set table r.place (given_back r w)
    ]

-- the words of records get their owners from before, the newest record first
abbrev pub released : List Record → List Word → List Word
released [] table = table
released (r ∷ rs) table = released_at r (released rs table)
