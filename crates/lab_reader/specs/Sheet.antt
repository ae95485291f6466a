-- The lines of the script that a lab file says, and the lines that are wanted of it.
use Rattle.std.specs.Prelude.{ℕ, ◌==◌, Bool, true, false, cond, ◌||◌, not, nat_lt, is_some, List}
use Rattle.std.specs.Prelude.{[], ◌∷◌, ◌++◌, codes, Option, None, Some, Result, Ok, Err}
use Rattle.std.specs.List.{list_any}
use Rattle.script_model.specs.World.{same_bytes}
use Rattle.script_model.specs.Bytes.{number_of}
use Rattle.script_model.specs.Assembler.{is_empty}
use Rattle.lab_reader.specs.declared.faults.LabKind.TheVariants as kind
use Rattle.lab_reader.specs.declared.sheet.Item.{Item}
use Rattle.lab_reader.specs.declared.sheet.Item.TheVariants.{Plain, Sealed}
use Rattle.lab_reader.specs.declared.sheet.Want.{Want}
use Rattle.lab_reader.specs.Words.{is_hex}
use Rattle.lab_reader.specs.Faults.{Refusal, refused}
use Rattle.lab_reader.specs.Grafts.{Graft, place_of}

-- An item for each line of the file, the slots of the images that are sealed, the wanted lines, and
-- the number of the last line that says something.
pub record Sheet : Type 0 where
  pub items : List Item
  pub slots : List ℕ
  pub wants : List Want
  pub last : ℕ

-- before the first line
abbrev pub first_sheet : Sheet
first_sheet = record { items = []; slots = []; wants = []; last = 0 }

-- a line of the script as it stands; an empty one says nothing
abbrev pub with_plain : ℕ → Sheet → List ℕ → Sheet
with_plain n s text =
    record s { items = s.items ++ Plain text ∷ []; last = cond (is_empty text) s.last n }

-- a line that says nothing
abbrev pub with_blank : Sheet → List ℕ → Sheet
with_blank s text = record s { items = s.items ++ Plain text ∷ [] }

-- ---- images

-- a slot is there, and free
abbrev pub with_slot : ℕ → Sheet → (slot graft : ℕ) → (raw : Bool) → Result Sheet Refusal
with_slot n s slot graft raw =
    elim (nat_lt 31 slot) [
      | true ↦ refused n kind.BadSlot
      | false ↦ elim (list_any (λ k. k == slot) s.slots) [
        | true ↦ refused n kind.SlotTwice
        | false ↦ Ok (record s {
          items = s.items ++ Sealed slot graft raw ∷ [];
          slots = s.slots ++ slot ∷ [];
          last = n;
        })
      ]
    ]

-- an image of this graft, if the slot is a number
abbrev pub sealed_by : ℕ → Sheet → Option ℕ → (graft : ℕ) → (raw : Bool) → Result Sheet Refusal
sealed_by n s None graft raw = refused n kind.BadSlot
sealed_by n s (Some slot) graft raw = with_slot n s slot graft raw

-- an image of the graft that is named, if it is there; else hex digits, which stay
abbrev pub image_by : ℕ → Sheet → (text slot name : List ℕ) → Option ℕ → Result Sheet Refusal
image_by n s text slot name (Some graft) = sealed_by n s (number_of slot) graft false
image_by n s text slot name None =
    elim (is_hex name) [
      | true ↦ Ok (with_plain n s text)
      | false ↦ refused n kind.UnknownGraft
    ]

-- an image that isn't boxed
abbrev pub raw_by : ℕ → Sheet → (slot : List ℕ) → Option ℕ → Result Sheet Refusal
raw_by n s slot (Some graft) = sealed_by n s (number_of slot) graft true
raw_by n s slot None = refused n kind.UnknownGraft

-- a line of an image, by its words behind the first
abbrev pub with_image : ℕ → List Graft → Sheet → List ℕ → List (List ℕ) → Result Sheet Refusal
with_image n grafts s text (slot ∷ name ∷ []) =
    image_by n s text slot name (place_of name grafts)
with_image n grafts s text (slot ∷ name ∷ word ∷ []) =
    elim (same_bytes word (codes "raw")) [
      | true ↦ raw_by n s slot (place_of name grafts)
      | false ↦ Ok (with_plain n s text)
    ]
with_image n grafts s text _ = Ok (with_plain n s text)

-- ---- wanted lines

-- a wanted line stands behind a line of the script, or below it
abbrev pub want_fault : ℕ → (left_empty : Bool) → Sheet → List ℕ → Bool
want_fault n left_empty s text =
    s.last == 0 || cond left_empty false (not (s.last == n))

-- a wanted line, if there is one
abbrev pub with_want : ℕ → (left_empty : Bool) → Sheet → Option (List ℕ) → Result Sheet Refusal
with_want n left_empty s None = Ok s
with_want n left_empty s (Some text) =
    elim (is_empty text) [
      | true ↦ refused n kind.EmptyWant
      | false ↦ elim (want_fault n left_empty s text) [
        | true ↦ refused n kind.StrayWant
        | false ↦ Ok (record s {
          wants = s.wants ++ record { line = n; owner = s.last; text = text } ∷ [];
        })
      ]
    ]
