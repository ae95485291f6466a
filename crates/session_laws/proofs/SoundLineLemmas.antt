-- Lines of a script keep a session's kernel sound.
use Rattle.std.specs.Prelude.{◌≡◌, ℕ, suc, nat_lt, Bool, true, false, List, [], ◌∷◌, length}
use Rattle.std.specs.Prelude.{Option, Some, None, Result, Ok, Err, is_some, slice_index, codes, ⊤}
use Rattle.std.proofs.Common.{refl, subst, sym, ap, ◌∙◌}
use Rattle.script_model.specs.declared.Command.{Command}
use Rattle.script_model.specs.declared.Command.TheVariants.{Call}
use Rattle.script_model.specs.declared.SysCall.{SysCall}
use Rattle.script_model.specs.Bytes.{hex_word}
use Rattle.script_model.specs.World.{Image, ImageTable, Blocks}
use Rattle.script_model.specs.Objects.{at}
use Rattle.script_model.specs.declared.Keys.{Keys}
use Rattle.script_model.specs.Images.{LoadFault, load}
use Rattle.script_model.specs.Kernel.{Kernel}
use Rattle.script_model.specs.Events.{event}
use Rattle.script_model.specs.Sound.{IsSoundKernel, HasWholeBlocks}
use Rattle.script_model.specs.Alike.{Extends}
use Rattle.script_model.specs.Laws.{Laws}
use Rattle.script_model.specs.Script.{Entry, Blank, Frames, Patience, Grant, Boot, Happens, Loads}
use Rattle.script_model.specs.Script.{Raw, ScriptFault, LINE_BYTES, IMAGE_DIGITS, is_blank}
use Rattle.script_model.specs.Script.{is_setup, same_bool, call_of, words_of, first_word}
use Rattle.script_model.specs.Script.{other_words, command_among, words_said, forms_of, happens_by}
use Rattle.script_model.specs.Script.{loads_by, entry_of, entry_by, entry_at, OwnWord, parsed_line}
use Rattle.script_model.specs.Session.{Build, Session, Written, silent}
use Rattle.script_model.specs.ImageLines.{image_added, image_answer}
use Rattle.script_model.specs.Session.{running_in, after_entry, after_parse, after_line, first_io}
use Rattle.script_model.specs.Session.{later_io, session_after}
use Rattle.call_laws.specs.Ledgers.{at_other}
use Rattle.session_laws.specs.Sessions.{IsSoundSession, LinesStaySound}
use Rattle.graft_laws.proofs.EventLemmas.{events_stay_sound}
use Rattle.graft_laws.proofs.MoreImageLemmas.{images_stay_sound}

-- ---- after boot no line is a boot

abbrev IsNoBoot : Entry → Type 0
IsNoBoot Boot = ⊥
IsNoBoot e = ⊤

abbrev SaysNoBoot : Result Entry ScriptFault → Type 0
SaysNoBoot (Err fault) = ⊤
SaysNoBoot (Ok e) = IsNoBoot e

happens_no_boot : (p : ℕ) (x : Option SysCall) → SaysNoBoot (happens_by p x)
happens_no_boot p None = tt
happens_no_boot p (Some call) = tt

loads_no_boot : (slot : ℕ) (x : Option (List ℕ)) → SaysNoBoot (loads_by slot x)
loads_no_boot slot None = tt
loads_no_boot slot (Some bytes) = tt

-- a command that doesn't stand before boot
said_no_boot : (c : Command) (said : List ℕ × List ℕ) → is_setup c ≡ false → SaysNoBoot (entry_of c said.0 said.1)
said_no_boot Command.Frames said later = absurd cc
said_no_boot Command.Patience said later = absurd cc
said_no_boot Command.Grant said later = absurd cc
said_no_boot Command.Boot said later = absurd cc
said_no_boot Command.Tick said later = tt
said_no_boot Command.Step said later = tt
said_no_boot Command.Raw said later = tt
said_no_boot Command.Image said later = loads_no_boot (slice_index said.0 0) (hex_word IMAGE_DIGITS said.1)
said_no_boot (Call name) said later = happens_no_boot (slice_index said.0 0) (call_of name said.0 said.1)

entry_no_boot : (c : Command) (x : Result (List ℕ × List ℕ) ScriptFault) → is_setup c ≡ false →
    SaysNoBoot (entry_by c x)
entry_no_boot c (Err fault) later = tt
entry_no_boot c (Ok said) later = said_no_boot c said later

words_no_boot : (words : List (List ℕ)) (c : Option Command) → SaysNoBoot (entry_at true words c)
words_no_boot words None = tt
words_no_boot words (Some c) = by_place (is_setup c) refl
  where
    by_place : (b : Bool) → is_setup c ≡ b →
        SaysNoBoot (elim (same_bool b true) as (λ _. Result Entry ScriptFault) [
          | true ↦ Err ScriptFault.WrongPlace
          | false ↦ entry_by c (words_said [] [] (forms_of c) words)
        ])
    by_place true e = tt
    by_place false e = entry_no_boot c (words_said [] [] (forms_of c) words) e

line_no_boot : (own : List OwnWord) (text : List ℕ) → SaysNoBoot (parsed_line own true text)
line_no_boot own text = by_length (nat_lt LINE_BYTES (length text))
  where
    words : List (List ℕ)
    words = words_of text

    by_words : (b : Bool) → SaysNoBoot (elim b as (λ _. Result Entry ScriptFault) [
      | true ↦ Ok Blank
      | false ↦ entry_at true (other_words words) (command_among own (first_word words))
    ])
    by_words true = tt
    by_words false = words_no_boot (other_words words) (command_among own (first_word words))

    by_length : (b : Bool) → SaysNoBoot (elim b as (λ _. Result Entry ScriptFault) [
      | true ↦ Err ScriptFault.TooLong
      | false ↦ elim (is_blank text) as (λ _. Result Entry ScriptFault) [
        | true ↦ Ok Blank
        | false ↦ entry_at true (other_words words) (command_among own (first_word words))
      ]
    ])
    by_length true = tt
    by_length false = by_words (is_blank text)

-- ---- lines

-- an image in a slot that was free
pub extends_at : (slot : ℕ) (i : Image) (images : ImageTable) → images slot ≡ None →
    Extends images (at slot (Some i) images)
extends_at slot i images free =
    λ j x e. at_other slot j (Some i) images (λ same. taken j x e (ap images same ∙ free)) ∙ e
  where
    taken : (j : ℕ) (x : Image) → images j ≡ Some x → images j ≡ None → ⊥
    taken j x e f = cc

module _ (b : Build) (keys : Keys) (size : ℕ) (laws : Laws b.meaning) where
  -- a kernel after an image line
  image_kept : (slot : ℕ) (x : Result Image LoadFault) (k : Kernel) (blocks : Blocks) →
      IsSoundKernel b.meaning k → HasWholeBlocks k.world blocks →
      IsSoundKernel b.meaning (image_answer slot x k).0 × HasWholeBlocks (image_answer slot x k).0.world blocks
  image_kept slot x k blocks h whole = by_slot (nat_lt 31 slot)
    where
      by_image : (x : Result Image LoadFault) → k.images slot ≡ None → IsSoundKernel b.meaning
          (image_added slot x k).0 × HasWholeBlocks (image_added slot x k).0.world blocks
      by_image (Err fault) free = (h, whole)
      by_image (Ok i) free =
          let r = images_stay_sound b.meaning
          (record { kernel = k; blocks = blocks; notes = []; io = [] })
          (at slot (Some i) k.images) laws (record { kernel = h; blocks = whole })
          (extends_at slot i k.images free) in
          (r.0.kernel, r.0.blocks)

      by_free : (y : Option Image) → k.images slot ≡ y → let a = elim y as (λ _. Kernel
          × List ℕ) [ Some i ↦ (k, codes "E10") | None ↦ image_added slot x k ] in
          IsSoundKernel b.meaning a.0 × HasWholeBlocks a.0.world blocks
      by_free None free = by_image x free
      by_free (Some i) taken = (h, whole)

      by_slot : (high : Bool) →
          let a = elim high as (λ _. Kernel × List ℕ) [
            | true ↦ (k, codes "E8")
            | false ↦ elim (k.images slot) as (λ _. Kernel × List ℕ) [
              | Some i ↦ (k, codes "E10")
              | None ↦ image_added slot x k
            ]
          ] in
          IsSoundKernel b.meaning a.0 × HasWholeBlocks a.0.world blocks
      by_slot true = (h, whole)
      by_slot false = by_free (k.images slot) refl

  -- an entry after boot
  running_sound : (s : Session) (e : Entry) (k : Kernel) (io : List Bool) → s.kernel ≡ Some k →
      IsSoundKernel b.meaning k → HasWholeBlocks k.world s.blocks →
      IsSoundSession b.meaning (running_in b keys size s e (Some k) io).session
  running_sound s (Happens e) k io is h whole =
      let r = events_stay_sound b.meaning k s.blocks (suc s.events) e io laws h whole in
      record {
        kernel = (event b.meaning k s.blocks (suc s.events) e io).kernel;
        is = refl;
        sound = r.kernel;
        blocks = r.blocks;
      }
  running_sound s (Loads slot bytes) k io is h whole =
      let r = image_kept slot (load keys bytes) k s.blocks h whole in
      record {
        kernel = (image_answer slot (load keys bytes) k).0;
        is = refl;
        sound = r.0;
        blocks = r.1;
      }
  running_sound s Raw k io is h whole = record { kernel = k; is = is; sound = h; blocks = whole }
  running_sound s Blank k io is h whole = record { kernel = k; is = is; sound = h; blocks = whole }
  running_sound s (Frames n) k io is h whole = record { kernel = k; is = is; sound = h; blocks = whole }
  running_sound s (Patience kind ticks) k io is h whole = record { kernel = k; is = is; sound = h; blocks = whole }
  running_sound s (Grant n) k io is h whole = record { kernel = k; is = is; sound = h; blocks = whole }
  running_sound s Boot k io is h whole = record { kernel = k; is = is; sound = h; blocks = whole }

  running_in_sound : (s : Session) (e : Entry) (io : List Bool) → IsSoundSession b.meaning s →
      IsSoundSession b.meaning (running_in b keys size s e s.kernel io).session
  running_in_sound s e io h =
      subst (λ x. IsSoundSession b.meaning (running_in b keys size s e x io).session) (sym h.is)
      (running_sound s e h.kernel io h.is h.sound h.blocks)

  entry_sound : (s : Session) (e : Entry) (io : List Bool) → IsNoBoot e →
      IsSoundSession b.meaning s → IsSoundSession b.meaning (after_entry b keys size s e io).session
  entry_sound s Blank io named h = h
  entry_sound s (Frames n) io named h = record { kernel = h.kernel; is = h.is; sound = h.sound; blocks = h.blocks }
  entry_sound s (Patience kind ticks) io named h =
      record { kernel = h.kernel; is = h.is; sound = h.sound; blocks = h.blocks }
  entry_sound s (Grant n) io named h = record { kernel = h.kernel; is = h.is; sound = h.sound; blocks = h.blocks }
  entry_sound s Boot io named h = absurd named
  entry_sound s (Happens e) io named h = running_in_sound s (Happens e) io h
  entry_sound s (Loads slot bytes) io named h = running_in_sound s (Loads slot bytes) io h
  entry_sound s Raw io named h = running_in_sound s Raw io h

  parse_sound : (s : Session) (x : Result Entry ScriptFault) (io : List Bool) → SaysNoBoot x →
      IsSoundSession b.meaning s → IsSoundSession b.meaning (after_parse b keys size s x io).session
  parse_sound s (Err fault) io named h = record { kernel = h.kernel; is = h.is; sound = h.sound; blocks = h.blocks }
  parse_sound s (Ok e) io named h = entry_sound s e io named h

  line_sound : (s : Session) (text : List ℕ) (io : List Bool) → IsSoundSession b.meaning s →
      IsSoundSession b.meaning (after_line b keys size s text io).session
  line_sound s text io h = by_refused s.refused
    where
      next : Session
      next = record s { lines = suc s.lines }

      after_next : IsSoundSession b.meaning next
      after_next = record { kernel = h.kernel; is = h.is; sound = h.sound; blocks = h.blocks }

      by_refused : (refused : Bool) → IsSoundSession b.meaning (elim refused as (λ _. Written) [
        | true ↦ silent s io
        | false ↦ after_parse b keys size next (parsed_line b.words (is_some s.kernel) text) io
      ]).session
      by_refused true = h
      by_refused false =
          parse_sound next (parsed_line b.words (is_some s.kernel) text) io
          (subst (λ booted. SaysNoBoot (parsed_line b.words booted text)) (sym (ap is_some h.is))
          (line_no_boot b.words text)) after_next

  lines_sound : (s : Session) (texts : List (List ℕ)) (ios : List (List Bool)) →
      IsSoundSession b.meaning s → IsSoundSession b.meaning (session_after b keys size s texts ios)
  lines_sound s [] ios h = h
  lines_sound s (text ∷ texts) ios h =
      lines_sound (after_line b keys size s text (first_io ios)).session texts (later_io ios)
      (line_sound s text (first_io ios) h)

pub lines_stay_sound : LinesStaySound
lines_stay_sound b keys size s texts ios laws h = lines_sound b keys size laws s texts ios h
