-- From what a lab file says to the script that is run: its grafts become images, and each of its
-- lines becomes a line of the script.
use Rattle.std.specs.Prelude.{◌≡◌, ◌≤◌, ◌<◌, ◌⊎◌, ℕ, suc, ◌-◌, ⊤, Bool, true, false, cond, nat_lt}
use Rattle.std.specs.Prelude.{List, [], ◌∷◌, ◌++◌, length, slice_index_or, decimal, codes}
use Rattle.std.specs.Prelude.{slice_get, Option, None, Some, Result, Ok, Err}
use Rattle.script_model.specs.declared.Instr.{Instr}
use Rattle.script_model.specs.declared.Keys.{Keys}
use Rattle.script_model.specs.Bytes.{hex_text}
use Rattle.script_model.specs.World.{Image}
use Rattle.script_model.specs.Images.{sealed_under}
use Rattle.script_model.specs.Boxed.{RewriteFault, NamesReserved, JumpsOut, CallsUnknown, NoEnd, TooLong, rewrite}
use Rattle.script_model.specs.Outcome.{SCRIPT_BYTES}
use Rattle.script_model.specs.Assembler as asm
use Rattle.script_model.specs.LanguageReading as language
use Rattle.script_model.specs.LanguageImages.{IsCompiled}
use Rattle.graft_loader.specs.Keys.{keys_of}
use Rattle.lab_reader.specs.declared.faults.LabKind.{LabKind}
use Rattle.lab_reader.specs.declared.faults.LabKind.TheVariants as kind
use Rattle.lab_reader.specs.declared.graft.Notation.{Notation}
use Rattle.lab_reader.specs.declared.graft.Notation.TheVariants.{Assembler, Language}
use Rattle.lab_reader.specs.declared.sheet.Item.{Item}
use Rattle.lab_reader.specs.declared.sheet.Item.TheVariants.{Plain, Sealed}
use Rattle.lab_reader.specs.Faults.{Refusal, refused}
use Rattle.lab_reader.specs.Grafts.{Graft}
use Rattle.lab_reader.specs.Lab.{Lab, lab_of}
use Rattle.lab_reader.specs.declared.faults.LabFault.{LabFault}
use Rattle.lab_reader.specs.declared.faults.LabFault.TheVariants as fault_is
use Rattle.std.specs.Str.{IsUtf8}
use Rattle.std.specs.Str.Lossy.{utf8_valid_len}

-- ---- images

-- the line of the file that a line of a graft's text comes from
abbrev pub file_line : Graft → ℕ → ℕ
file_line g n = slice_index_or g.lines (n - 1) g.begun

-- a line of assembler text that is refused, as a line of the file
abbrev pub asm_refusal : Graft → Result Image asm.LineFault → Option Refusal
asm_refusal g (Err fault) =
    Some (record { line = file_line g fault.line; kind = kind.Asm fault.kind })
asm_refusal g (Ok image) = None

-- a line of the graft language that is refused, as a line of the file
abbrev pub language_refusal : Graft → Result language.Syntax language.LineFault → Option Refusal
language_refusal g (Err fault) =
    Some (record { line = file_line g fault.line; kind = kind.Lang fault.kind })
language_refusal g (Ok syntax) = None

-- why the text of a graft is refused
abbrev pub text_refusal : Notation → Graft → Option Refusal
text_refusal Assembler g = asm_refusal g (asm.assemble g.text)
text_refusal Language g = language_refusal g (language.read g.text)

-- why a graft is refused
abbrev pub graft_refusal : Graft → Option Refusal
graft_refusal g =
    elim (nat_lt SCRIPT_BYTES (length g.text)) [
      | true ↦ Some (record { line = g.begun; kind = kind.LongGraft })
      | false ↦ text_refusal g.notation g
    ]

-- the first graft that is refused decides
abbrev pub grafts_refusal : List Graft → Option Refusal
grafts_refusal [] = None
grafts_refusal (g ∷ gs) =
    elim (graft_refusal g) [ Some refusal ↦ Some refusal | None ↦ grafts_refusal gs ]

-- the image of a text: that of the assembler, or one of those that the compiler may give
abbrev pub IsWritten : Notation → List ℕ → Image → Type 0
IsWritten Assembler text image = asm.assemble text ≡ Ok image
IsWritten Language text image = IsCompiled text image

-- the image of a graft: that of its text, as one that keeps where the graft does
pub record IsImageOf (g : Graft) (i : Image) : Type 0 where
  pub plain : Image
  pub written : IsWritten g.notation g.text plain
  pub is : i ≡ record { code = plain.code; body = plain.body; keep = g.keep }

-- an image for each graft
abbrev pub AreImagesOf : List Graft → List Image → Type 0
AreImagesOf [] [] = ⊤
AreImagesOf [] (i ∷ is) = ⊥
AreImagesOf (g ∷ gs) [] = ⊥
AreImagesOf (g ∷ gs) (i ∷ is) = IsImageOf g i × AreImagesOf gs is

-- ---- the script

-- why code can't be boxed
abbrev pub box_kind : RewriteFault → LabKind
box_kind (NamesReserved pc) = kind.BoxRegister pc
box_kind (JumpsOut pc) = kind.BoxJump pc
box_kind (CallsUnknown pc) = kind.BoxCall pc
box_kind NoEnd = kind.BoxEnd
box_kind TooLong = kind.BoxTooLong

-- the line that loads an image with these bytes into a slot
abbrev pub load_line : (slot : ℕ) → List ℕ → List ℕ
load_line slot bytes = codes "image " ++ decimal slot ++ codes " " ++ hex_text bytes

-- the line that loads an image, sealed, into a slot
unfoldable pub image_line : Keys → (slot : ℕ) → Image → List ℕ
image_line keys slot i = load_line slot (sealed_under keys i)

-- an image with this code in place of its own
abbrev pub with_code : Image → List Instr → Image
with_code i code = record { code = code; body = i.body; keep = i.keep }

-- the line of an image with its code boxed, or why there is none
abbrev pub boxed_line : Keys → (slot : ℕ) → Image → Result (List Instr) RewriteFault →
    Result (List ℕ) LabKind
boxed_line keys slot i (Err fault) = Err (box_kind fault)
boxed_line keys slot i (Ok code) = Ok (image_line keys slot (with_code i code))

-- the line of an image, boxed or as it stands
abbrev pub sealed_line : Keys → (slot : ℕ) → (raw : Bool) → Option Image → Result (List ℕ) LabKind
sealed_line keys slot raw None = Err kind.UnknownGraft
sealed_line keys slot raw (Some i) =
    elim raw [
      | true ↦ Ok (image_line keys slot i)
      | false ↦ boxed_line keys slot i (rewrite i.code)
    ]

-- the line of the script that an item becomes
abbrev pub item_line : Keys → List Image → Item → Result (List ℕ) LabKind
item_line keys images (Plain text) = Ok text
item_line keys images (Sealed slot graft raw) =
    sealed_line keys slot raw (slice_get images graft)

-- a script with a line behind it
abbrev pub line_added : (script line : List ℕ) → List ℕ
line_added script line = script ++ (line ++ 10 ∷ [])

-- the same of a line that line n of the file asks for, if there is one
abbrev pub with_line : (n : ℕ) → (script : List ℕ) → Result (List ℕ) LabKind →
    Result (List ℕ) Refusal
with_line n script (Err fault) = refused n fault
with_line n script (Ok line) = Ok (line_added script line)

-- a script with the lines of these items behind it, the first of which is that of this line of the
-- file; the first that is refused decides
abbrev pub script_after : ℕ → Keys → List Image → (script : List ℕ) → List Item →
    Result (List ℕ) Refusal
script_after n keys images script [] = Ok script
script_after n keys images script (item ∷ items) =
    elim (with_line n script (item_line keys images item)) [
      | Err fault ↦ Err fault
      | Ok longer ↦ script_after (suc n) keys images longer items
    ]

-- the same under the keys of a word
abbrev pub script_by : Option Keys → List Image → List Item → Result (List ℕ) Refusal
script_by None images items = refused 0 kind.BadKey
script_by (Some keys) images items = script_after 1 keys images [] items

-- the script of a lab file whose grafts have these images
abbrev pub script_of : Lab → List Image → Result (List ℕ) Refusal
script_of lab images = script_by (keys_of lab.settings.word) images lab.sheet.items

-- ---- the whole

-- what a file says comes to these images and this script
pub record LowersLab (said lab : Lab) (images : List Image) (script : List ℕ) : Type 0 where
  pub same : lab ≡ said
  pub written : AreImagesOf lab.grafts images
  pub lowered : script_of lab images ≡ Ok script

-- the text says this, its grafts have these images, and this is its script
pub record LowersText (text : List ℕ) (lab : Lab) (images : List Image)
    (script : List ℕ) : Type 0 where
  pub said : lab_of text ≡ Ok lab
  pub written : AreImagesOf lab.grafts images
  pub lowered : script_of lab images ≡ Ok script

-- the same of a text of a length that is allowed, in UTF-8
pub record Lowers (text : List ℕ) (lab : Lab) (images : List Image) (script : List ℕ) : Type 0 where
  pub short : length text ≤ SCRIPT_BYTES
  pub is_text : IsUtf8 text
  pub text_is : LowersText text lab images script

-- an image that the file asks for is refused, where its grafts have these images
pub record RefusesImage (lab : Lab) (refusal : Refusal) : Type 0 where
  pub images : List Image
  pub written : AreImagesOf lab.grafts images
  pub is : script_of lab images ≡ Err refusal

-- a graft that the file writes is refused, or else an image
abbrev pub RefusesLab : Lab → Refusal → Type 0
RefusesLab lab refusal = (grafts_refusal lab.grafts ≡ Some refusal) ⊎ RefusesImage lab refusal

-- a text is read, and what it says is refused
pub record RefusesSaid (text : List ℕ) (refusal : Refusal) : Type 0 where
  pub lab : Lab
  pub said : lab_of text ≡ Ok lab
  pub refused : RefusesLab lab refusal

-- why a text is refused: first its lines, then its grafts, then its images
abbrev pub IsRefusal : List ℕ → Refusal → Type 0
IsRefusal text refusal = (lab_of text ≡ Err refusal) ⊎ RefusesSaid text refusal

-- what a fault says of a lab file that was read; want of memory says nothing
abbrev pub HasLabCause : LabFault → Lab → Type 0
HasLabCause (fault_is.At line fault) lab = RefusesLab lab (record { line = line; kind = fault })
HasLabCause fault_is.TooLong lab = ⊥
HasLabCause (fault_is.NotUtf8 at) lab = ⊥
HasLabCause fault_is.NoMemory lab = Unit {0}

-- what a fault says of a text that is UTF-8 and short enough
abbrev pub HasTextCause : LabFault → List ℕ → Type 0
HasTextCause (fault_is.At line fault) text = IsRefusal text (record { line = line; kind = fault })
HasTextCause fault_is.TooLong text = ⊥
HasTextCause (fault_is.NotUtf8 at) text = ⊥
HasTextCause fault_is.NoMemory text = Unit {0}

-- what a fault says of the bytes of a file
abbrev pub HasCause : LabFault → List ℕ → Type 0
HasCause (fault_is.At line fault) text = IsRefusal text (record { line = line; kind = fault })
HasCause fault_is.TooLong text = SCRIPT_BYTES < length text
HasCause (fault_is.NotUtf8 at) text = ¬ (IsUtf8 text) × (at ≡ utf8_valid_len text)
HasCause fault_is.NoMemory text = Unit {0}
