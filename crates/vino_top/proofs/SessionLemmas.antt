-- What the lines and the entries of a session make of it.
use Rattle.std.proofs.Common.{length, codes, decimal, is_some, Result, Ok, Err, ◌≡◌, ℕ, suc, ◌+◌}
use Rattle.std.proofs.Common.{◌++◌, ◌∙◌, true, false, Bool, List, [], ◌∷◌, None, Some, Option, arith}
use Rattle.std.proofs.Common.{refl, sym, ap, subst, add-one}
use Rattle.std.specs.Prelude.{OnOk, slice_index_or, replicate, zero, nat_lt, ◌<◌, ◌≤◌}
use Rattle.std.proofs.lemmas.Bool.Decides.{nat_tests}
use Rattle.std.proofs.Math.Path.{fun_ext}
use Rattle.kernel_data.specs.declared.TheConstants.{LAST_CALLABLE}
use Rattle.kernel_data.specs.declared.Event.{Event}
use Rattle.kernel_data.specs.declared.Note.{Note}
use Rattle.call_pieces.specs.Calls.{failures}
use Rattle.call_pieces.specs.Joined.{made_none}
use Rattle.kernel_steps.specs.Faults.{fault_notes}
use Rattle.vino_base.specs.Disks.{DiskSeen}
use Rattle.kernel_data.specs.Directory.{directory_of, usable_count}
use Rattle.kernel_data.specs.Objects.{at}
use Rattle.script_model.specs.Script as script_is
use Rattle.script_model.specs.Script.{Entry, Blank, Frames, Patience, Grant, Boot, Happens, Raw}
use Rattle.script_model.specs.Script.{ScriptFault, LINE_BYTES, is_blank, entry_at, other_words}
use Rattle.script_model.specs.Script.{words_of, command_among, first_word, fault_number}
use Rattle.script_model.specs.Script.{OwnWord, Loads, parsed_line}
use Rattle.script_text.specs.declared.parse.ScriptFault.{ScriptFault as TextFault}
use Rattle.script_text.specs.declared.parse.ScriptFault.TheVariants as text
use Rattle.script_text.specs.Answers.{Refuses}
use Rattle.script_model.specs.Kernel as abstract
use Rattle.script_model.specs.Session.{Session, fault_text, Setup, first_setup, Written, world_of}
use Rattle.script_model.specs.Session.{with_patience, after_parse, after_entry, after_event}
use Rattle.script_model.specs.Session.{running_in, says, silent}
use Rattle.script_model.specs.Events.{event}
use Rattle.script_model.specs.RawRows.{raw_rows}
use Rattle.script_model.specs.Meaning.{Meaning}
use Rattle.std.proofs.lemmas.Fmt.{decimal_digit}
use Rattle.kernel_data.specs.declared.Note.TheVariants.{Refused}
use Rattle.kernel_data.specs.declared.Refusal.TheVariants.{DiskFault}
use Rattle.script_model.specs.Text.{line, boot_text, note_text, note_lines, row_lines}
use Rattle.kernel_data.specs.Bytes.{spaced}
use Rattle.script_model.specs.Opening.{opening_kernel}
use Rattle.call_pieces.specs.Sound.{world_for}
use Rattle.placed_laws.specs.Agreeing.{SameShown}
use Rattle.placed_laws.specs.Placed.{Placed}
use Rattle.placed_laws.specs.PlacedRows.{placed_rows}
use Rattle.kernel_core.specs.EventRefines.{EventRefines, EventIs}
use Rattle.kernel_core.specs.declared.kernel.BootNote.{BootNote}
use Rattle.kernel_core.specs.Standing.{Booted, BootIs}
use Rattle.vino_top.specs.Built.{build_over}
use Rattle.vino_top.specs.Standing.{Seen, StandsFor, setup_of, code_seen}
use Rattle.vino_top.specs.Parsed.{Parsed, parsed_entry}
use Rattle.vino_top.specs.Run.{Place, line_run, parsed_of, Left, LeavesText, LineMatches, RunsLine}
use Rattle.vino_top.specs.Run.{RunsEntry, TellsFailures, boot_line, build_of, place_over}
use Rattle.vino_top.proofs.ParsedLemmas.{goes_refused, goes_entry, goes_fault}

-- what is booted isn't not booted
pub up_is_down : {A : Type 0} → true ≡ false → A
up_is_down h = absurd (contrary h)
  where
    contrary : true ≡ false → ⊥
    contrary k = cc

pub down_is_up : {A : Type 0} → false ≡ true → A
down_is_up h = absurd (contrary h)
  where
    contrary : false ≡ true → ⊥
    contrary k = cc

-- what holds of a success in one form holds in another
pub on_ok : {T E P Q : Type 0} → (r : Result T E) → (P → Q) → OnOk r P → OnOk r Q
on_ok (Ok x) f h = f h
on_ok (Err e) f h = h

-- patience where no line sets it
pub first_patience : setup_of (record { frames = 8; patience = replicate 8 10; grant = 1000000 }) ≡ first_setup
first_patience = ap (λ (f : ℕ → ℕ). record first_setup { patience = f }) (fun_ext (λ k. ten_each 8 k))
  where
    ten_each : (n k : ℕ) → ◌≡◌ {A = ℕ} (slice_index_or (replicate n 10) k 10) 10
    ten_each zero k = refl
    ten_each (suc n) zero = refl
    ten_each (suc n) (suc k) = ten_each n k

-- ---- entries

-- the next number of an event
next_number : {m : Meaning} (s : Seen) (known : Option (List (List ℕ))) (a : Session) → StandsFor m s known a →
    s.events + 1 ≡ suc a.events
next_number s known a stands = add-one s.events ∙ ap suc (sym stands.events)

-- a session goes on by an event, and writes the lines of its notes
pub event_runs : (c : Place) (s : Seen) (x : Placed) (what : Event) (notes : List Note) (out : Left) (d e : DiskSeen) →
    s.booted ≡ true → EventRefines c.meaning s.placed x (s.events + 1) what notes d e →
    out.bytes ≡ note_lines notes → out.notes ≡ notes →
    RunsEntry c (Happens what) s (record s { placed = x; events = s.events + 1 }) d e out
event_runs c s x what notes out d e booted h text kept =
    record {
      io = h.io;
      made = h.made;
      parsed = refl;
      told = (text ∙ ap note_lines (sym kept), subst (λ ns. fault_notes ns ≤ failures h.io) (sym kept) h.faulted);
      comes = λ a rest stands.
          let has = stands.booted booted in
          let io = h.io ++ rest in
          let n = suc a.events in
          let number = next_number s d.known a stands in
          let r = event c.meaning has.kernel a.blocks n what io in
          let is : EventIs c.meaning r x notes e.known rest =
          subst (λ (m : ℕ). EventIs c.meaning
          (event c.meaning has.kernel a.blocks m what io) x notes e.known rest) number
          (h.is has.kernel a.blocks rest has.stands has.rests stands.blocks) in
          let run : after_entry (build_over c.meaning) c.keys c.size a (Happens what) io ≡ after_event a n r =
          ap (λ (o : Option abstract.Kernel). running_in (build_over c.meaning) c.keys c.size a
          (Happens what) o io) has.is in
          subst (λ w. LineMatches c.meaning (record s { placed = x; events = s.events + 1 }) e.known out w
          rest) (sym run) (record {
            stands = record {
              setup = stands.setup;
              lines = stands.lines;
              events = sym number;
              refused = stands.refused;
              unbooted = λ down. up_is_down (sym booted ∙ down);
              booted = λ up. record { kernel = r.kernel; is = refl; stands = is.stands; rests = is.rests };
              blocks = is.blocks;
            };
            left = is.left;
            bytes = text ∙ ap note_lines is.notes_are;
            notes = kept ∙ is.notes_are;
          });
    }

-- what comes of a boot: block 0 was read, or that failed
boot_comes : (c : Place) (s : Seen) (x : Placed) (io : List Bool) (note : BootNote) (out : Left)
    (known told_new : Option (List (List ℕ))) (a : Session) (rest : List Bool) →
    length io ≡ 1 → StandsFor c.meaning s known a →
    BootIs c.meaning s.setup c.size a.blocks io x note told_new →
    LeavesText out (line (boot_line note)) →
    LineMatches c.meaning (record s { placed = x; booted = true }) told_new out
    (after_entry (build_over c.meaning) c.keys c.size a Boot (io ++ rest)) rest
boot_comes c s x (true ∷ []) note out known told_new a rest one stands is said =
    record {
      stands = record {
        setup = stands.setup;
        lines = stands.lines;
        events = stands.events;
        refused = stands.refused;
        unbooted = λ down. up_is_down down;
        booted = λ up. record {
          kernel = opening_kernel (world_for s.setup c.size []);
          is = ap (λ (u : Setup). Some (opening_kernel (world_of u c.size LAST_CALLABLE []))) stands.setup;
          stands = is.stands;
          rests = is.rests;
        };
        blocks = is.blocks_are;
      };
      left = refl;
      bytes = said.bytes_are ∙ ap (λ (y : BootNote). line (boot_line y)) is.note_is;
      notes = said.no_notes;
    }
boot_comes c s x (false ∷ []) note out known told_new a rest one stands is said =
    let rows = directory_of c.size (a.blocks 0) in
    record {
      stands = record {
        setup = stands.setup;
        lines = stands.lines;
        events = stands.events;
        refused = stands.refused;
        unbooted = λ down. up_is_down down;
        booted = λ up. record {
          kernel = opening_kernel (world_for s.setup c.size rows);
          is = ap (λ (u : Setup). Some (opening_kernel (world_of u c.size LAST_CALLABLE rows))) stands.setup;
          stands = is.stands;
          rests = is.rests;
        };
        blocks = is.blocks_are;
      };
      left = refl;
      notes = said.no_notes;
      bytes =
          said.bytes_are ∙ ap (λ (y : BootNote). line (boot_line y)) is.note_is ∙ ap
          (λ (u : Setup). line (boot_text u.frames c.size (usable_count rows))) (sym stands.setup);
    }
boot_comes c s x [] note out known told_new a rest one stands is said = absurd (omega (arith, one))
boot_comes c s x (y ∷ z ∷ io) note out known told_new a rest one stands is said = absurd (omega (arith, one))

-- a session once the kernel began
pub boot_runs : (c : Place) (s : Seen) (x : Placed) (note : BootNote) (out : Left) (d e : DiskSeen) →
    Booted c.meaning s.setup c.size x note d e → LeavesText out (line (boot_line note)) →
    RunsEntry c Boot s (record s { placed = x; booted = true }) d e out
boot_runs c s x note out d e h said =
    record {
      io = h.io;
      made = h.made;
      parsed = refl;
      told = record {
        dir = h.dir;
        bytes_are = said.bytes_are
            ∙ ap (λ (y : BootNote). line (boot_line y)) h.counts;
      };
      comes = λ a rest stands. boot_comes c s x h.io note out d.known e.known a rest h.one stands
          (h.is a.blocks stands.blocks) said;
    }

-- a session went on by an entry that leaves the disk alone
pub alone : (c : Place) (entry : Entry) (s t : Seen) (out : Left) (d : DiskSeen) →
    parsed_of t ≡ parsed_entry (parsed_of s) entry →
    TellsFailures s.setup.frames c.size entry out [] →
    ((a : Session) (rest : List Bool) → StandsFor c.meaning s d.known a →
    LineMatches c.meaning t d.known out (after_entry (build_over c.meaning) c.keys c.size a entry rest) rest) →
    RunsEntry c entry s t d d out
alone c entry s t out d parsed told comes =
    record { io = []; made = made_none d; parsed = parsed; told = told; comes = comes }

-- a blank line
pub blank_runs : (c : Place) (s : Seen) (out : Left) (d : DiskSeen) → LeavesText out [] → RunsEntry c Blank s s d d out
blank_runs c s out d silent =
    alone c Blank s s out d refl silent.no_notes (λ a rest stands. record {
      stands = stands;
      left = refl;
      bytes = silent.bytes_are;
      notes = silent.no_notes;
    })

-- a session with another set-up
set_up : {m : Meaning} (s : Seen) (u : _) (known : Option (List (List ℕ))) (a : Session) (v : Setup) →
    v ≡ setup_of u → StandsFor m s known a →
    StandsFor m (record s { setup = u }) known (record a { setup = v })
set_up s u known a v is stands =
    record {
      setup = is;
      lines = stands.lines;
      events = stands.events;
      refused = stands.refused;
      unbooted = stands.unbooted;
      booted = stands.booted;
      blocks = stands.blocks;
    }

-- a line that sets the frames
pub frames_runs : (c : Place) (s : Seen) (n : ℕ) (out : Left) (d : DiskSeen) → LeavesText out [] →
    RunsEntry c (Frames n) s (record s { setup = record (s.setup) { frames = n } }) d d out
frames_runs c s n out d silent =
    alone c (Frames n) s (record s { setup = record (s.setup) { frames = n } }) out d refl
    silent.no_notes (λ a rest stands.
    record {
      stands =
          set_up s (record (s.setup) { frames = n }) d.known a (record (a.setup) { frames = n })
          (ap (λ (u : Setup). record u { frames = n }) stands.setup) stands;
      left = refl;
      bytes = silent.bytes_are;
      notes = silent.no_notes;
    })

-- a line that sets the grant
pub grant_runs : (c : Place) (s : Seen) (n : ℕ) (out : Left) (d : DiskSeen) → LeavesText out [] →
    RunsEntry c (Grant n) s (record s { setup = record (s.setup) { grant = n } }) d d out
grant_runs c s n out d silent =
    alone c (Grant n) s (record s { setup = record (s.setup) { grant = n } }) out d refl
    silent.no_notes (λ a rest stands.
    record {
      stands =
          set_up s (record (s.setup) { grant = n }) d.known a (record (a.setup) { grant = n })
          (ap (λ (u : Setup). record u { grant = n }) stands.setup) stands;
      left = refl;
      bytes = silent.bytes_are;
      notes = silent.no_notes;
    })

-- a line that sets the patience with a kind of object
pub patience_runs : (c : Place) (s : Seen) (kind ticks : ℕ) (patience : List ℕ) (out : Left) (d : DiskSeen) →
    (λ k. slice_index_or patience k 10)
    ≡ at kind ticks (λ k. slice_index_or s.setup.patience k 10) → LeavesText out [] →
    RunsEntry c (Patience kind ticks) s (record s { setup = record (s.setup) { patience = patience } }) d d out
patience_runs c s kind ticks patience out d is silent =
    alone c (Patience kind ticks) s (record s { setup = record (s.setup) { patience = patience } })
    out d refl silent.no_notes (λ a rest stands.
    record {
      stands = set_up s (record (s.setup) { patience = patience }) d.known a (with_patience kind ticks a.setup)
          (ap (with_patience kind ticks) stands.setup
          ∙ ap (λ (f : ℕ → ℕ). record (setup_of s.setup) { patience = f }) (sym is)) stands;
      left = refl;
      bytes = silent.bytes_are;
      notes = silent.no_notes;
    })

-- an event that leaves nothing behind says nothing of the disk
pub silent_event : (frames size : ℕ) (out : Left) (what : Event) → LeavesText out [] →
    TellsFailures frames size (Happens what) out []
silent_event frames size out what said =
    let none = ap fault_notes said.no_notes in
    (said.bytes_are ∙ ap note_lines (sym said.no_notes), omega (arith, none))

-- an entry after `boot` that stands before it
pub unbooted_runs : (c : Place) (entry : Entry) (s : Seen) (out : Left) (d : DiskSeen) →
    ((a : Session) (rest : List Bool) →
    after_entry (build_over c.meaning) c.keys c.size a entry rest
    ≡ running_in (build_over c.meaning) c.keys c.size a entry a.kernel rest) →
    ((p : Parsed) → p ≡ parsed_entry p entry) → s.booted ≡ false → LeavesText out [] →
    TellsFailures s.setup.frames c.size entry out [] → RunsEntry c entry s s d d out
unbooted_runs c entry s out d runs parsed booted said told =
    alone c entry s s out d (parsed (parsed_of s)) told (λ a rest stands.
    let run : after_entry (build_over c.meaning) c.keys c.size a entry rest ≡ silent a rest =
    runs a rest ∙ ap (λ (o : Option abstract.Kernel). running_in (build_over c.meaning) c.keys c.size a entry
    o rest) (stands.unbooted booted) in
    subst (λ w. LineMatches c.meaning s d.known out w rest) (sym run) (record {
      stands = stands;
      left = refl;
      bytes = said.bytes_are;
      notes = said.no_notes;
    }))

-- the rows of the kernel's whole state
pub raw_runs : (c : Place) → SameShown c.meaning → (s : Seen) (out : Left) (d : DiskSeen) → s.booted ≡ true →
    LeavesText out (row_lines (s.events + 1) (placed_rows s.placed)) →
    RunsEntry c Raw s (record s { events = s.events + 1 }) d d out
raw_runs c shown s out d booted said =
    alone c Raw s (record s { events = s.events + 1 }) out d refl said.no_notes (λ a rest stands.
    let has = stands.booted booted in
    let n = suc a.events in
    let number = next_number s d.known a stands in
    let run : after_entry (build_over c.meaning) c.keys c.size a Raw rest ≡ says (record a { events = n })
    (row_lines n (raw_rows c.meaning has.kernel)) rest =
    ap (λ (o : Option abstract.Kernel). running_in (build_over c.meaning) c.keys c.size a Raw o rest) has.is in
    subst (λ w. LineMatches c.meaning (record s { events = s.events + 1 }) d.known out w rest) (sym run) (record {
      stands = record {
        setup = stands.setup;
        lines = stands.lines;
        events = sym number;
        refused = stands.refused;
        unbooted = stands.unbooted;
        booted = stands.booted;
        blocks = stands.blocks;
      };
      left = refl;
      notes = said.no_notes;
      bytes =
          said.bytes_are ∙ ap (λ (m : ℕ). row_lines m (placed_rows s.placed)) number
          ∙ ap (row_lines n) (shown.rows s.placed has.kernel has.stands);
    }))

-- ---- lines

-- a kernel of the abstract session is there where the code's is booted
kernel_is_some : {m : Meaning} (s : Seen) (known : Option (List (List ℕ))) (a : Session) (b : Bool) →
    StandsFor m s known a → s.booted ≡ b → is_some a.kernel ≡ b
kernel_is_some s known a false stands h = ap is_some (stands.unbooted h)
kernel_is_some s known a true stands h = ap is_some (stands.booted h).is

-- what an entry makes of a session doesn't depend on the words that are added
same_running : (c : Place) (a : Session) (e : Entry) (k : Option abstract.Kernel) (io : List Bool) →
    running_in (build_of c) c.keys c.size a e k io
    ≡ running_in (build_over c.meaning) c.keys c.size a e k io
same_running c a e None io = refl
same_running c a (Happens what) (Some k) io = refl
same_running c a (Loads slot bytes) (Some k) io = refl
same_running c a Raw (Some k) io = refl
same_running c a Blank (Some k) io = refl
same_running c a (Frames n) (Some k) io = refl
same_running c a (Patience kind n) (Some k) io = refl
same_running c a (Grant n) (Some k) io = refl
same_running c a Boot (Some k) io = refl

same_entry : (c : Place) (a : Session) (e : Entry) (io : List Bool) →
    after_entry (build_of c) c.keys c.size a e io
    ≡ after_entry (build_over c.meaning) c.keys c.size a e io
same_entry c a Blank io = refl
same_entry c a (Frames n) io = refl
same_entry c a (Patience kind n) io = refl
same_entry c a (Grant n) io = refl
same_entry c a Boot io = refl
same_entry c a (Happens what) io = same_running c a (Happens what) a.kernel io
same_entry c a (Loads slot bytes) io = same_running c a (Loads slot bytes) a.kernel io
same_entry c a Raw io = same_running c a Raw a.kernel io

-- a session after a refused line
pub line_after_refusal : (c : Place) (s : Seen) (text : List ℕ) (out : Left) (d : DiskSeen) →
    s.refused ≡ true → LeavesText out [] → RunsLine c text s s d d out
line_after_refusal c s text out d refused said =
    record {
      io = [];
      made = made_none d;
      by_text = goes_refused c.words (parsed_of s) text out.bytes refused said.bytes_are;
      told = λ entry going is. absurd (up_is_down (sym refused ∙ going));
      comes = λ a rest stands.
          let is : line_run c a text rest ≡ silent a rest =
          ap (λ (b : Bool). elim b as (λ _. Written) [
            | true ↦ silent a rest
            | false ↦ after_parse (build_of c) c.keys c.size (record a { lines = suc a.lines })
                (parsed_line c.words (is_some a.kernel) text) rest
          ]) (stands.refused ∙ refused) in
          subst (λ w. LineMatches c.meaning s d.known out w rest) (sym is) (record {
            stands = stands;
            left = refl;
            bytes = said.bytes_are;
            notes = said.no_notes;
          });
    }

-- a line of a session that goes on is what its words say
line_parsed : (c : Place) (s : Seen) (known : Option (List (List ℕ))) (a : Session) (text : List ℕ)
    (said : Result Entry ScriptFault) (io : List Bool) →
    StandsFor c.meaning s known a → s.refused ≡ false → parsed_line c.words s.booted text ≡ said →
    line_run c a text io ≡ after_parse (build_of c) c.keys c.size (record a { lines = suc a.lines }) said io
line_parsed c s known a text said io stands going is =
    let u = record a { lines = suc a.lines } in
    ap (λ (refused : Bool). elim refused as (λ _. Written) [
      | true ↦ silent a io
      | false ↦ after_parse (build_of c) c.keys c.size u (parsed_line c.words (is_some a.kernel) text) io
    ]) (stands.refused ∙ going)
    ∙ ap (λ (b : Bool). after_parse (build_of c) c.keys c.size u (parsed_line c.words b text) io)
    (kernel_is_some s known a s.booted stands refl)
    ∙ ap (λ (r : Result Entry ScriptFault). after_parse (build_of c) c.keys c.size u r io) is

-- a session whose next line was counted
counted : {m : Meaning} (s : Seen) (known : Option (List (List ℕ))) (a : Session) → StandsFor m s known a →
    StandsFor m (record s { lines = s.lines + 1 }) known (record a { lines = suc a.lines })
counted s known a stands =
    record {
      setup = stands.setup;
      lines = ap suc stands.lines ∙ sym (add-one s.lines);
      events = stands.events;
      refused = stands.refused;
      unbooted = stands.unbooted;
      booted = stands.booted;
      blocks = stands.blocks;
    }

-- what is parsed is one entry
one_entry : (x y : Entry) → ◌≡◌ {A = Result Entry ScriptFault} (Ok x) (Ok y) → x ≡ y
one_entry x y h = cc

-- what is refused is none
no_entry : (fault : ScriptFault) (x : Entry) → ◌≡◌ {A = Result Entry ScriptFault} (Err fault) (Ok x) → ⊥
no_entry fault x h = cc

-- a line is run for what it says
pub line_entered : (c : Place) (s t : Seen) (text : List ℕ) (out : Left) (entry : Entry)
    (d e : DiskSeen) → s.refused ≡ false →
    parsed_line c.words s.booted text ≡ Ok entry →
    RunsEntry (place_over c.meaning c.keys c.size) entry (record s { lines = s.lines + 1 }) t d e out →
    RunsLine c text s t d e out
line_entered c s t text out entry d e going is runs =
    record {
      io = runs.io;
      made = runs.made;
      by_text = goes_entry c.words (parsed_of s) (parsed_of t) text out.bytes entry going is
          (runs.parsed ∙ ap (λ (n : ℕ). parsed_entry (record (parsed_of s) { lines = n }) entry) (add-one s.lines));
      told =
          λ other still says. subst (λ (x : Entry). TellsFailures s.setup.frames c.size x out
          runs.io) (one_entry entry other (sym is ∙ says)) runs.told;
      comes = λ a rest stands.
          subst (λ w. LineMatches c.meaning t e.known out w rest)
          (sym (line_parsed c s d.known a text (Ok entry) (runs.io ++ rest) stands going is
          ∙ same_entry c (record a { lines = suc a.lines }) entry (runs.io ++ rest)))
          (runs.comes (record a { lines = suc a.lines }) rest (counted s d.known a stands));
    }

-- a session that refused its line
refused_now : {m : Meaning} (s : Seen) (known : Option (List (List ℕ))) (a : Session) → StandsFor m s known a →
    StandsFor m (record s { refused = true }) known (record a { refused = true })
refused_now s known a stands =
    record {
      setup = stands.setup;
      lines = stands.lines;
      events = stands.events;
      refused = refl;
      unbooted = stands.unbooted;
      booted = stands.booted;
      blocks = stands.blocks;
    }

-- a line is refused for this fault
pub line_refused : (c : Place) (s t : Seen) (text : List ℕ) (out : Left) (fault : ScriptFault)
    (d : DiskSeen) → s.refused ≡ false →
    parsed_line c.words s.booted text ≡ Err fault → t ≡ record s { lines = s.lines + 1; refused = true } →
    LeavesText out (line
    (codes "script" ++ spaced (s.lines + 1) ++ codes " S" ++ decimal (fault_number fault))) →
    RunsLine c text s t d d out
line_refused c s t text out fault d going is state said =
    record {
      io = [];
      made = made_none d;
      by_text = goes_fault c.words (parsed_of s) (parsed_of t) text out.bytes fault going is
          (ap parsed_of state ∙ ap (λ (n : ℕ). record (parsed_of s) { lines = n; refused = true }) (add-one s.lines))
          (said.bytes_are ∙ ap (λ (n : ℕ). line (fault_text n fault)) (add-one s.lines));
      told = λ entry still says. absurd (no_entry fault entry (sym is ∙ says));
      comes = λ a rest stands.
          let u = counted s d.known a stands in
          subst (λ w. LineMatches c.meaning t d.known out w rest)
          (sym (line_parsed c s d.known a text (Err fault) rest stands going is)) (record {
            stands =
                subst (λ (x : Seen). StandsFor c.meaning x d.known
                (record a { lines = suc a.lines; refused = true })) (sym state)
                (refused_now (record s { lines = s.lines + 1 }) d.known (record a { lines = suc a.lines }) u);
            left = refl;
            notes = said.no_notes;
            bytes =
                said.bytes_are ∙ ap (λ n. line (codes "script" ++ spaced n ++ codes " S"
                ++ decimal (fault_number fault))) (sym u.lines);
          });
    }

-- a line that is longer than a line may be
long_said : (own : List OwnWord) (long booted : Bool) (text : List ℕ) → long ≡ true →
    elim long as (λ _. Result Entry ScriptFault) [
      | true ↦ Err script_is.TooLong
      | false ↦ elim (is_blank text) as (λ _. Result Entry ScriptFault) [
        | true ↦ Ok Blank
        | false ↦ entry_at booted (other_words (words_of text)) (command_among own (first_word (words_of text)))
      ]
    ] ≡ Err script_is.TooLong
long_said own true booted text h = refl
long_said own false booted text h = down_is_up h

pub line_too_long : (c : Place) (s t : Seen) (text : List ℕ) (out : Left) (d : DiskSeen) →
    s.refused ≡ false → 65536 < length text → t ≡ record s { lines = s.lines + 1; refused = true } →
    LeavesText out (line (codes "script" ++ spaced (s.lines + 1) ++ codes " S" ++ decimal 3)) →
    RunsLine c text s t d d out
line_too_long c s t text out d going long state written =
    let is : nat_lt LINE_BYTES (length text) ≡ true = grind (arith, nat_tests, long) in
    line_refused c s t text out script_is.TooLong d going
    (long_said c.words (nat_lt LINE_BYTES (length text)) s.booted text is) state written

-- which fault a code stands for
record RefusedAs (code : ℕ) (said : Result Entry ScriptFault) : Type 0 where
  fault : ScriptFault
  is : said ≡ Err fault
  number : fault_number fault ≡ code

refused_as : (fault : TextFault) (said : Result Entry ScriptFault) → Refuses fault said →
    RefusedAs (code_seen fault) said
refused_as text.BadWord said r = record { fault = script_is.BadWord; is = r; number = refl }
refused_as text.BadNumber said r = record { fault = script_is.BadNumber; is = r; number = refl }
refused_as text.WrongPlace said r = record { fault = script_is.WrongPlace; is = r; number = refl }
refused_as text.UnknownCommand said r = record { fault = script_is.UnknownCommand; is = r; number = refl }

-- a line is refused with this code
pub line_refused_as : (c : Place) (s t : Seen) (text : List ℕ) (out : Left) (fault : TextFault)
    (code : ℕ) (d : DiskSeen) → s.refused ≡ false →
    code ≡ code_seen fault → Refuses fault (parsed_line c.words s.booted text) →
    t ≡ record s { lines = s.lines + 1; refused = true } →
    LeavesText out (line (codes "script" ++ spaced (s.lines + 1) ++ codes " S" ++ decimal code)) →
    RunsLine c text s t d d out
line_refused_as c s t text out fault code d going seen refuses state written =
    let r = refused_as fault (parsed_line c.words s.booted text) refuses in
    line_refused c s t text out r.fault d going r.is state (rw (r.number, ← seen) written)

-- what is written of a boot whose read failed
pub fault_line : line (note_text (Refused 0 DiskFault)) ≡ line (codes "0 E16")
fault_line = ap (λ x. line (x ++ 32 ∷ codes "E16")) (decimal_digit 0 (omega arith))
