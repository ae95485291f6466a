-- The clock of a run is the number of its lines that are run as ticks.
use Rattle.std.specs.Prelude.{◌≡◌, ℕ, suc, ◌+◌, Bool, true, false, ◌&&◌, List, [], ◌∷◌, drop}
use Rattle.std.specs.Prelude.{is_some, codes, Option, Some, None, Result, Ok, Err}
use Rattle.std.proofs.Common.{arith, refl, sym, ap, ◌∙◌}
use Rattle.script_model.specs.declared.Event.{Event}
use Rattle.script_model.specs.declared.Event.TheVariants.{Tick, Step, Sys}
use Rattle.script_model.specs.declared.FileRow.{FileRow}
use Rattle.script_model.specs.World.{Blocks}
use Rattle.script_model.specs.Directory.{directory_of, usable_count}
use Rattle.script_model.specs.declared.Keys.{Keys}
use Rattle.script_model.specs.Images.{load}
use Rattle.script_model.specs.Kernel.{Kernel}
use Rattle.script_model.specs.Events.{event}
use Rattle.script_model.specs.Meaning.{Meaning, disk_fails}
use Rattle.script_model.specs.Script.{Entry, Blank, Frames, Patience, Grant, Boot, Happens, Loads}
use Rattle.script_model.specs.Script.{Raw, ScriptFault, parsed_line}
use Rattle.script_model.specs.Session.{Build, Session, Written, silent, world_of, booted, boots}
use Rattle.script_model.specs.Session.{running_in, after_entry, after_parse, after_line, first_io}
use Rattle.script_model.specs.Session.{later_io, session_after, first_session}
use Rattle.script_model.specs.Sound.{once_if}
use Rattle.script_model.specs.Text.{boot_text}
use Rattle.kernel_laws.specs.Clock.{is_tick}
use Rattle.kernel_laws.proofs.ClockLemmas.{ticks_raise_the_clock, others_leave_the_clock}
use Rattle.session_laws.specs.Clock.{is_tick_entry, says_tick, is_tick_line, tick_lines, ClockCountsTicks}
use Rattle.session_laws.proofs.ClockLemmas.{image_clock}
use Rattle.session_laws.proofs.SetupLemmas.{IsRight, SaysRight, line_right}

-- the clock of a kernel, 0 where there is none
abbrev clock_in : Option Kernel → ℕ
clock_in None = 0
clock_in (Some k) = k.clock

none_more : (n : ℕ) → n ≡ 0 + n
none_more n = omega arith

-- an event raises the clock by one exactly where it is a tick
event_counts : (m : Meaning) (k : Kernel) (blocks : Blocks) (number : ℕ) (e : Event) (io : List Bool) →
    (event m k blocks number e io).kernel.clock ≡ once_if (is_tick e && true) + k.clock
event_counts m k blocks number Tick io = ticks_raise_the_clock m k blocks number io ∙ one_and k.clock
  where
    one_and : (n : ℕ) → suc n ≡ 1 + n
    one_and n = omega arith
event_counts m k blocks number (Step p count) io =
    others_leave_the_clock m k blocks number (Step p count) io refl ∙ none_more k.clock
event_counts m k blocks number (Sys p call) io =
    others_leave_the_clock m k blocks number (Sys p call) io refl ∙ none_more k.clock

-- an event that doesn't happen raises nothing
none_counts : (e : Event) → 0 ≡ once_if (is_tick e && false) + 0
none_counts Tick = refl
none_counts (Step p count) = refl
none_counts (Sys p call) = refl

module _ (b : Build) (keys : Keys) (size : ℕ) where
  -- what an entry makes of the clock
  abbrev Counts : Session → Session → Bool → Type 0
  Counts s u tick = clock_in u.kernel ≡ once_if tick + clock_in s.kernel

  -- an event, by the kernel if there is one
  happens_counts : (s : Session) (e : Event) (x : Option Kernel) (io : List Bool) → s.kernel ≡ x →
      clock_in (running_in b keys size s (Happens e) x io).session.kernel
      ≡ once_if (is_tick e && is_some x) + clock_in x
  happens_counts s e None io is = ap clock_in is ∙ none_counts e
  happens_counts s e (Some k) io is = event_counts b.meaning k s.blocks (suc s.events) e io

  loads_counts : (s : Session) (slot : ℕ) (bytes : List ℕ) (x : Option Kernel) (io : List Bool) →
      s.kernel ≡ x →
      clock_in (running_in b keys size s (Loads slot bytes) x io).session.kernel ≡ clock_in x
  loads_counts s slot bytes None io is = ap clock_in is
  loads_counts s slot bytes (Some k) io is = image_clock slot (load keys bytes) k

  raw_counts : (s : Session) (x : Option Kernel) (io : List Bool) → s.kernel ≡ x →
      clock_in (running_in b keys size s Raw x io).session.kernel ≡ clock_in x
  raw_counts s None io is = ap clock_in is
  raw_counts s (Some k) io is = ap clock_in is

  -- a boot begins at 0, where there was no kernel
  boot_counts : (s : Session) (x : Option Kernel) (io : List Bool) → s.kernel ≡ x → is_some x ≡ false →
      clock_in (boots size b.callable s io).session.kernel ≡ clock_in x
  boot_counts s (Some k) io is none = absurd cc
  boot_counts s None io is none = by_fault (disk_fails io 0)
    where
      rows : List (Option FileRow)
      rows = directory_of size (s.blocks 0)

      by_fault : (failed : Bool) → clock_in (elim failed as (λ _. Written) [
        | true ↦ booted s (world_of s.setup size b.callable []) (codes "0 E16") (drop 1 io)
        | false ↦ booted s (world_of s.setup size b.callable rows)
            (boot_text s.setup.frames size (usable_count rows)) (drop 1 io)
      ]).session.kernel ≡ 0
      by_fault true = refl
      by_fault false = refl

  entry_counts : (s : Session) (e : Entry) (io : List Bool) → IsRight (is_some s.kernel) e →
      Counts s (after_entry b keys size s e io).session (is_tick_entry e && is_some s.kernel)
  entry_counts s Blank io right = none_more (clock_in s.kernel)
  entry_counts s (Frames n) io right = none_more (clock_in s.kernel)
  entry_counts s (Patience kind ticks) io right = none_more (clock_in s.kernel)
  entry_counts s (Grant n) io right = none_more (clock_in s.kernel)
  entry_counts s Boot io right = boot_counts s s.kernel io refl right ∙ none_more (clock_in s.kernel)
  entry_counts s (Happens e) io right = happens_counts s e s.kernel io refl
  entry_counts s (Loads slot bytes) io right =
      loads_counts s slot bytes s.kernel io refl ∙ none_more (clock_in s.kernel)
  entry_counts s Raw io right = raw_counts s s.kernel io refl ∙ none_more (clock_in s.kernel)

  parse_counts : (s : Session) (x : Result Entry ScriptFault) (io : List Bool) →
      SaysRight (is_some s.kernel) x →
      Counts s (after_parse b keys size s x io).session (says_tick x && is_some s.kernel)
  parse_counts s (Err fault) io right = none_more (clock_in s.kernel)
  parse_counts s (Ok e) io right = entry_counts s e io right

  line_counts : (s : Session) (text : List ℕ) (io : List Bool) →
      Counts s (after_line b keys size s text io).session (is_tick_line b.words s text)
  line_counts s text io = by_refused s.refused
    where
      next : Session
      next = record s { lines = suc s.lines }

      by_refused : (refused : Bool) →
          Counts s (elim refused as (λ _. Written) [
            | true ↦ silent s io
            | false ↦ after_parse b keys size next (parsed_line b.words (is_some s.kernel) text) io
          ]).session
          (elim refused as
          (λ _. Bool) [
            | true ↦ false
            | false ↦ says_tick (parsed_line b.words (is_some s.kernel) text) && is_some s.kernel
          ])
      by_refused true = none_more (clock_in s.kernel)
      by_refused false =
          parse_counts next (parsed_line b.words (is_some s.kernel) text) io
          (line_right b.words (is_some s.kernel) text)

  lines_count : (s : Session) (texts : List (List ℕ)) (ios : List (List Bool)) →
      clock_in (session_after b keys size s texts ios).kernel ≡ tick_lines b keys size s texts ios + clock_in s.kernel
  lines_count s [] ios = none_more (clock_in s.kernel)
  lines_count s (text ∷ texts) ios =
      let u = (after_line b keys size s text (first_io ios)).session in
      added (once_if (is_tick_line b.words s text)) (tick_lines b keys size u texts (later_io ios)) (clock_in s.kernel)
      (clock_in u.kernel)
      (clock_in (session_after b keys size u texts (later_io ios)).kernel)
      (line_counts s text (first_io ios)) (lines_count u texts (later_io ios))
    where
      added : (tick ticks before after last : ℕ) → after ≡ tick + before → last ≡ ticks + after →
          last ≡ tick + ticks + before
      added tick ticks before after last e f = omega arith

pub clock_counts_ticks : ClockCountsTicks
clock_counts_ticks b keys d texts ios k is =
    from_zero k.clock (tick_lines b keys d.size (first_session d) texts ios)
    (sym (ap clock_in is) ∙ lines_count b keys d.size (first_session d) texts ios)
  where
    from_zero : (n ticks : ℕ) → n ≡ ticks + 0 → n ≡ ticks
    from_zero n ticks e = omega arith
