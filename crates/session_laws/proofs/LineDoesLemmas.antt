-- What a line does to a session: it is run as an event, loads an image, begins a kernel, or leaves kernel and blocks
-- as they are.
use Rattle.std.specs.Prelude.{◌≡◌, ◌⊎◌, ℕ, suc, ◌≤◌, nat_lt, Bool, true, false, List, [], ◌∷◌, drop, is_some}
use Rattle.std.specs.Prelude.{codes, Option, Some, None, Result, Ok, Err}
use Rattle.std.proofs.Common.{arith, refl, sym, ap, ◌∙◌, inl, inr}
use Rattle.script_model.specs.declared.Event.{Event}
use Rattle.script_model.specs.declared.FileRow.{FileRow}
use Rattle.script_model.specs.declared.Keys.{Keys}
use Rattle.script_model.specs.World.{World, Image}
use Rattle.script_model.specs.Directory.{directory_of, usable_count}
use Rattle.script_model.specs.Images.{LoadFault, load}
use Rattle.script_model.specs.Kernel.{Kernel}
use Rattle.script_model.specs.Events.{event}
use Rattle.script_model.specs.ImageLines.{add_image, image_added, image_answer}
use Rattle.script_model.specs.Meaning.{disk_fails}
use Rattle.script_model.specs.Opening.{opening_kernel}
use Rattle.script_model.specs.Script.{Entry, Blank, Frames, Patience, Grant, Boot, Happens, Loads}
use Rattle.script_model.specs.Script.{Raw, ScriptFault, parsed_line}
use Rattle.script_model.specs.Session.{Build, Session, Written, silent, world_of, booted, boots}
use Rattle.script_model.specs.Session.{image_line_run, running_in, after_entry, after_parse}
use Rattle.script_model.specs.Session.{after_line, first_io, later_io, session_after}
use Rattle.script_model.specs.Text.{boot_text}
use Rattle.session_laws.specs.Lines.{entry_event, event_said, event_after_boot, line_event}
use Rattle.session_laws.proofs.SetupLemmas.{IsRight, SaysRight, line_right}

-- what a line of a session does, which leaves this
pub data LineDoes (b : Build) (s : Session) (text : List ℕ) (io : List Bool) (w : Written) : Type 0 where
  Happened : (k : Kernel) (e : Event) → s.kernel ≡ Some k → line_event b.words s text ≡ Some e →
      w.session.kernel ≡ Some (event b.meaning k s.blocks (suc s.events) e io).kernel →
      w.session.blocks ≡ (event b.meaning k s.blocks (suc s.events) e io).blocks →
      w.session.events ≡ suc s.events →
      w.notes ≡ (event b.meaning k s.blocks (suc s.events) e io).notes → LineDoes b s text io w
  Loaded : (k : Kernel) (slot : ℕ) (i : Image) → s.kernel ≡ Some k → line_event b.words s text ≡ None →
      k.images slot ≡ None → w.session.kernel ≡ Some (add_image slot i k) →
      w.session.blocks ≡ s.blocks → w.session.events ≡ suc s.events → w.notes ≡ [] → LineDoes b s text io w
  Began : (v : World) → s.kernel ≡ None → line_event b.words s text ≡ None →
      w.session.kernel ≡ Some (opening_kernel v) → w.session.blocks ≡ s.blocks →
      w.session.events ≡ s.events → w.notes ≡ [] → LineDoes b s text io w
  Stayed : line_event b.words s text ≡ None → w.session.kernel ≡ s.kernel → w.session.blocks ≡ s.blocks →
      s.events ≤ w.session.events → w.notes ≡ [] → LineDoes b s text io w

-- an image line leaves the kernel, or loads an image in a free slot
image_cases : (slot : ℕ) (x : Result Image LoadFault) (k : Kernel) →
    ((image_answer slot x k).0 ≡ k)
    ⊎ ((i : Image) × (k.images slot ≡ None) × ((image_answer slot x k).0 ≡ add_image slot i k))
image_cases slot x k = by_slot (nat_lt 31 slot)
  where
    Answers : Kernel × List ℕ → Type 0
    Answers a = (a.0 ≡ k) ⊎ ((i : Image) × (k.images slot ≡ None) × (a.0 ≡ add_image slot i k))

    by_image : (x : Result Image LoadFault) → k.images slot ≡ None → Answers (image_added slot x k)
    by_image (Err fault) free = inl refl
    by_image (Ok i) free = inr (i, free, refl)

    by_free : (y : Option Image) → k.images slot ≡ y →
        Answers (elim y as (λ _. Kernel × List ℕ) [ Some i ↦ (k, codes "E10") | None ↦ image_added slot x k ])
    by_free None free = by_image x free
    by_free (Some i) free = inl refl

    by_slot : (high : Bool) →
        Answers (elim high as (λ _. Kernel × List ℕ) [
          | true ↦ (k, codes "E8")
          | false ↦ elim (k.images slot) as
              (λ _. Kernel × List ℕ) [ Some i ↦ (k, codes "E10") | None ↦ image_added slot x k ]
        ])
    by_slot true = inl refl
    by_slot false = by_free (k.images slot) refl

at_least : (a b : ℕ) → a ≡ b → a ≤ b
at_least a b e = omega arith

one_later : (n : ℕ) → n ≤ suc n
one_later n = omega arith

-- the event that is said where there is a kernel
abbrev event_by : Option Kernel → Result Entry ScriptFault → Option Event
event_by None x = None
event_by (Some k) x = event_said x

module _ (b : Build) (keys : Keys) (size : ℕ) (s : Session) (text : List ℕ) (io : List Bool) where
  abbrev Does : Written → Type 0
  Does w = LineDoes b s text io w

  -- the session in which the line is run
  abbrev next : Session
  next = record s { lines = suc s.lines }

  stays : (w : Written) → line_event b.words s text ≡ None → w.session.kernel ≡ s.kernel → w.session.blocks ≡ s.blocks →
      s.events ≤ w.session.events → w.notes ≡ [] → Does w
  stays w says kernel blocks events notes = Stayed says kernel blocks events notes

  no_less : s.events ≤ s.events
  no_less = omega arith

  boot_does : s.kernel ≡ None → line_event b.words s text ≡ None → Does (boots size b.callable next io)
  boot_does none says = by_fault (disk_fails io 0)
    where
      rows : List (Option FileRow)
      rows = directory_of size (s.blocks 0)

      by_fault : (failed : Bool) → Does (elim failed as (λ _. Written) [
        | true ↦ booted next (world_of s.setup size b.callable []) (codes "0 E16") (drop 1 io)
        | false ↦ booted next (world_of s.setup size b.callable rows)
            (boot_text s.setup.frames size (usable_count rows)) (drop 1 io)
      ])
      by_fault true = Began (world_of s.setup size b.callable []) none says refl refl refl refl
      by_fault false = Began (world_of s.setup size b.callable rows) none says refl refl refl refl

  -- an image line of a kernel
  image_does : (k : Kernel) (slot : ℕ) (x : Result Image LoadFault) → s.kernel ≡ Some k →
      line_event b.words s text ≡ None →
      Does (image_line_run next slot x k io)
  image_does k slot x is says = elim (image_cases slot x k) [
    | inl same ↦ stays (image_line_run next slot x k io) says (ap (λ (y : Kernel). Some y) same ∙ sym is) refl
        (one_later s.events) refl
    | inr loaded ↦ Loaded k slot loaded.0 is says loaded.1 (ap (λ (y : Kernel). Some y) loaded.2) refl refl refl
  ]

  -- an entry that needs a kernel, by the kernel
  running_does : (e : Entry) (x : Option Kernel) → s.kernel ≡ x → line_event b.words s text ≡ event_by x (Ok e) →
      Does (running_in b keys size next e x io)
  running_does e None is says = stays (silent next io) says refl refl no_less refl
  running_does (Happens e) (Some k) is says = Happened k e is says refl refl refl refl
  running_does (Loads slot bytes) (Some k) is says = image_does k slot (load keys bytes) is says
  running_does Raw (Some k) is says =
      stays (running_in b keys size next Raw (Some k) io) says refl refl (one_later s.events) refl
  running_does Blank (Some k) is says = stays (silent next io) says refl refl no_less refl
  running_does (Frames n) (Some k) is says = stays (silent next io) says refl refl no_less refl
  running_does (Patience kind ticks) (Some k) is says = stays (silent next io) says refl refl no_less refl
  running_does (Grant n) (Some k) is says = stays (silent next io) says refl refl no_less refl
  running_does Boot (Some k) is says = stays (silent next io) says refl refl no_less refl

  needs_kernel : (e : Entry) → line_event b.words s text ≡ event_by s.kernel (Ok e) →
      Does (running_in b keys size next e s.kernel io)
  needs_kernel e says = running_does e s.kernel refl says

  none_said : (x : Option Kernel) (e : Entry) → entry_event e ≡ None → event_by x (Ok e) ≡ None
  none_said None e h = refl
  none_said (Some k) e h = h

  no_kernel : (x : Option Kernel) → is_some x ≡ false → x ≡ None
  no_kernel None e = refl
  no_kernel (Some k) e = absurd cc

  entry_does : (e : Entry) → IsRight (is_some s.kernel) e → line_event b.words s text ≡ event_by s.kernel (Ok e) →
      Does (after_entry b keys size next e io)
  entry_does Blank right says =
      stays (after_entry b keys size next Blank io) (says ∙ none_said s.kernel Blank refl) refl refl no_less refl
  entry_does (Frames n) right says =
      stays (after_entry b keys size next (Frames n) io) (says ∙ none_said s.kernel (Frames n) refl) refl refl
      no_less refl
  entry_does (Patience kind ticks) right says =
      stays (after_entry b keys size next (Patience kind ticks) io)
      (says ∙ none_said s.kernel (Patience kind ticks) refl) refl refl no_less refl
  entry_does (Grant n) right says =
      stays (after_entry b keys size next (Grant n) io) (says ∙ none_said s.kernel (Grant n) refl) refl refl
      no_less refl
  entry_does Boot right says = boot_does (no_kernel s.kernel right) (says ∙ none_said s.kernel Boot refl)
  entry_does (Happens e) right says = needs_kernel (Happens e) says
  entry_does (Loads slot bytes) right says = needs_kernel (Loads slot bytes) says
  entry_does Raw right says = needs_kernel Raw says

  parse_does : (x : Result Entry ScriptFault) → SaysRight (is_some s.kernel) x →
      line_event b.words s text ≡ event_by s.kernel x →
      Does (after_parse b keys size next x io)
  parse_does (Err fault) right says =
      stays (after_parse b keys size next (Err fault) io) (says ∙ nothing s.kernel) refl refl no_less refl
    where
      nothing : (x : Option Kernel) → event_by x (Err fault) ≡ None
      nothing None = refl
      nothing (Some k) = refl
  parse_does (Ok e) right says = entry_does e right says

  -- the event of the line where none was refused
  said : (x : Option Kernel) → event_after_boot b.words x text ≡ event_by x (parsed_line b.words (is_some x) text)
  said None = refl
  said (Some k) = refl

  pub line_does : Does (after_line b keys size s text io)
  line_does = by_refused s.refused refl
    where
      event_if : Bool → Option Event
      event_if refused =
          elim refused as (λ _. Option Event) [ true ↦ None | false ↦ event_after_boot b.words s.kernel text ]

      by_refused : (refused : Bool) → s.refused ≡ refused → Does (elim refused as (λ _. Written) [
        | true ↦ silent s io
        | false ↦ after_parse b keys size next (parsed_line b.words (is_some s.kernel) text) io
      ])
      by_refused true e = stays (silent s io) (ap event_if e) refl refl no_less refl
      by_refused false e =
          parse_does (parsed_line b.words (is_some s.kernel) text) (line_right b.words (is_some s.kernel) text)
          (ap event_if e ∙ said s.kernel)

-- ---- numbers

-- a line leaves no fewer events
pub line_rises : (b : Build) (keys : Keys) (size : ℕ) (s : Session) (text : List ℕ) (io : List Bool) →
    s.events ≤ (after_line b keys size s text io).session.events
line_rises b keys size s text io = by_line (line_does b keys size s text io)
  where
    w : Written
    w = after_line b keys size s text io

    later : (n e : ℕ) → n ≡ suc e → e ≤ n
    later n e h = omega arith

    by_line : LineDoes b s text io w → s.events ≤ w.session.events
    by_line (Happened k e is says kernel blocks events notes) = later w.session.events s.events events
    by_line (Loaded k slot i is says free kernel blocks events notes) = later w.session.events s.events events
    by_line (Began v is says kernel blocks events notes) = at_least s.events w.session.events (sym events)
    by_line (Stayed says kernel blocks events notes) = events

-- nor do lines
pub lines_rise : (b : Build) (keys : Keys) (size : ℕ) (s : Session) (texts : List (List ℕ))
    (ios : List (List Bool)) → s.events ≤ (session_after b keys size s texts ios).events
lines_rise b keys size s [] ios = at_least s.events s.events refl
lines_rise b keys size s (text ∷ texts) ios =
    let u = (after_line b keys size s text (first_io ios)).session in
    most s.events u.events (session_after b keys size u texts (later_io ios)).events
    (line_rises b keys size s text (first_io ios)) (lines_rise b keys size u texts (later_io ios))
  where
    most : (a b c : ℕ) → a ≤ b → b ≤ c → a ≤ c
    most a b c h k = omega arith
