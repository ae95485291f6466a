-- What holds of a session's kernel at its number of events through every line, where it holds at boot
-- and goes on to hold.
use Rattle.std.specs.Prelude.{◌≡◌, ℕ, suc, nat_lt, Bool, true, false, List, [], drop, is_some}
use Rattle.std.specs.Prelude.{codes, Option, Some, None, Result, Ok, Err, ⊤}
use Rattle.std.proofs.Common.{refl, subst, sym}
use Rattle.script_model.specs.declared.Event.{Event}
use Rattle.script_model.specs.declared.FileRow.{FileRow}
use Rattle.script_model.specs.declared.Keys.{Keys}
use Rattle.script_model.specs.World.{World, Image, Blocks}
use Rattle.script_model.specs.Directory.{directory_of, usable_count}
use Rattle.script_model.specs.Images.{LoadFault, load}
use Rattle.script_model.specs.Kernel.{Kernel}
use Rattle.script_model.specs.Events.{event}
use Rattle.script_model.specs.Meaning.{Meaning, disk_fails}
use Rattle.script_model.specs.Opening.{opening_kernel}
use Rattle.script_model.specs.Script.{Entry, Blank, Frames, Patience, Grant, Boot, Happens, Loads}
use Rattle.script_model.specs.Script.{Raw, ScriptFault, parsed_line}
use Rattle.script_model.specs.Session.{Build, Session, Written, silent, world_of, booted, boots}
use Rattle.script_model.specs.ImageLines.{add_image, image_added, image_answer}
use Rattle.script_model.specs.Session.{running_in}
use Rattle.script_model.specs.Session.{after_entry, after_parse, after_line}
use Rattle.script_model.specs.Text.{boot_text}

module _ (Q : ℕ → Kernel → Type 0) where
  -- it holds of a kernel, if there is one
  abbrev pub Holds : ℕ → Option Kernel → Type 0
  Holds n None = ⊤
  Holds n (Some k) = Q n k

  abbrev pub HoldsIn : Session → Type 0
  HoldsIn s = Holds s.events s.kernel

  -- it holds of a kernel after one event more, one image more, and the event of the next number
  pub record GoesOn (m : Meaning) (n : ℕ) (blocks : Blocks) (k : Kernel) : Type 0 where
    pub same : Q (suc n) k
    pub images : (slot : ℕ) (i : Image) → k.images slot ≡ None → Q (suc n) (add_image slot i k)
    pub events : (e : Event) (io : List Bool) → Q (suc n) (event m k blocks (suc n) e io).kernel

  abbrev pub GoesOnFrom : Meaning → ℕ → Blocks → Option Kernel → Type 0
  GoesOnFrom m n blocks None = ⊤
  GoesOnFrom m n blocks (Some k) = GoesOn m n blocks k

  -- an image line
  image_holds : (m : Meaning) (n : ℕ) (blocks : Blocks) (k : Kernel) (slot : ℕ)
      (x : Result Image LoadFault) → GoesOn m n blocks k → Q (suc n) (image_answer slot x k).0
  image_holds m n blocks k slot x h = by_slot (nat_lt 31 slot)
    where
      by_image : (x : Result Image LoadFault) → k.images slot ≡ None → Q (suc n) (image_added slot x k).0
      by_image (Err fault) free = h.same
      by_image (Ok i) free = h.images slot i free

      by_free : (y : Option Image) → k.images slot ≡ y →
          Q (suc n) (elim y as (λ _. Kernel × List ℕ)
          [ Some i ↦ (k, codes "E10") | None ↦ image_added slot x k ]).0
      by_free None free = by_image x free
      by_free (Some i) free = h.same

      by_slot : (high : Bool) →
          Q (suc n) (elim high as (λ _. Kernel × List ℕ) [
            | true ↦ (k, codes "E8")
            | false ↦ elim (k.images slot) as
                (λ _. Kernel × List ℕ) [ Some i ↦ (k, codes "E10") | None ↦ image_added slot x k ]
          ]).0
      by_slot true = h.same
      by_slot false = by_free (k.images slot) refl

  module _ (opens : (n : ℕ) (v : World) → Q n (opening_kernel v)) (b : Build) (keys : Keys) (size : ℕ)
    where
      boot_holds : (s : Session) (io : List Bool) → HoldsIn (boots size b.callable s io).session
      boot_holds s io = by_fault (disk_fails io 0)
        where
          rows : List (Option FileRow)
          rows = directory_of size (s.blocks 0)

          by_fault : (failed : Bool) → HoldsIn (elim failed as (λ _. Written) [
            | true ↦ booted s (world_of s.setup size b.callable []) (codes "0 E16") (drop 1 io)
            | false ↦ booted s (world_of s.setup size b.callable rows)
                (boot_text s.setup.frames size (usable_count rows)) (drop 1 io)
          ]).session
          by_fault true = opens s.events (world_of s.setup size b.callable [])
          by_fault false = opens s.events (world_of s.setup size b.callable rows)

      -- an entry that needs a kernel
      running_holds : (s : Session) (e : Entry) (x : Option Kernel) (io : List Bool) → s.kernel ≡ x →
          GoesOnFrom b.meaning s.events s.blocks x → HoldsIn s →
          HoldsIn (running_in b keys size s e x io).session
      running_holds s e None io is on h = h
      running_holds s (Happens e) (Some k) io is on h = on.events e io
      running_holds s (Loads slot bytes) (Some k) io is on h =
          image_holds b.meaning s.events s.blocks k slot (load keys bytes) on
      running_holds s Raw (Some k) io is on h = subst (Holds (suc s.events)) (sym is) on.same
      running_holds s Blank (Some k) io is on h = h
      running_holds s (Frames n) (Some k) io is on h = h
      running_holds s (Patience kind ticks) (Some k) io is on h = h
      running_holds s (Grant n) (Some k) io is on h = h
      running_holds s Boot (Some k) io is on h = h

      entry_holds : (s : Session) (e : Entry) (io : List Bool) →
          GoesOnFrom b.meaning s.events s.blocks s.kernel → HoldsIn s →
          HoldsIn (after_entry b keys size s e io).session
      entry_holds s Blank io on h = h
      entry_holds s (Frames n) io on h = h
      entry_holds s (Patience kind ticks) io on h = h
      entry_holds s (Grant n) io on h = h
      entry_holds s Boot io on h = boot_holds s io
      entry_holds s (Happens e) io on h = running_holds s (Happens e) s.kernel io refl on h
      entry_holds s (Loads slot bytes) io on h = running_holds s (Loads slot bytes) s.kernel io refl on h
      entry_holds s Raw io on h = running_holds s Raw s.kernel io refl on h

      -- a line
      pub line_holds : (s : Session) (text : List ℕ) (io : List Bool) →
          GoesOnFrom b.meaning s.events s.blocks s.kernel → HoldsIn s →
          HoldsIn (after_line b keys size s text io).session
      line_holds s text io on h = by_refused s.refused
        where
          next : Session
          next = record s { lines = suc s.lines }

          by_parse : (x : Result Entry ScriptFault) → HoldsIn (after_parse b keys size next x io).session
          by_parse (Err fault) = h
          by_parse (Ok e) = entry_holds next e io on h

          by_refused : (refused : Bool) → HoldsIn (elim refused as (λ _. Written) [
            | true ↦ silent s io
            | false ↦ after_parse b keys size next (parsed_line b.words (is_some s.kernel) text) io
          ]).session
          by_refused true = h
          by_refused false = by_parse (parsed_line b.words (is_some s.kernel) text)
