-- Lines and whole runs with lists that say the same.
use Rattle.std.specs.Prelude.{◌≡◌, ℕ, zero, suc, Bool, true, false, List, [], ◌∷◌, drop, take}
use Rattle.std.specs.Prelude.{is_some}
use Rattle.std.specs.Prelude.{codes, Option, Some, None, Result, Ok, Err}
use Rattle.std.proofs.Common.{refl, sym, ap, subst, ◌∙◌}
use Rattle.script_model.specs.declared.Keys.{Keys}
use Rattle.script_model.specs.Directory.{directory_of, usable_count}
use Rattle.script_model.specs.Meaning.{disk_fails}
use Rattle.script_model.specs.Kernel.{Kernel, Run}
use Rattle.script_model.specs.Events.{event}
use Rattle.script_model.specs.Outcome.{SCRIPT_BYTES, outcome_of, lines_after, rest_after}
use Rattle.script_model.specs.Script.{Entry, Blank, Frames, Patience, Grant, Boot, Happens}
use Rattle.script_model.specs.Script.{ScriptFault, parsed_line}
use Rattle.script_model.specs.Session.{Build, Session, Written, first_session, silent, world_of}
use Rattle.script_model.specs.Session.{booted}
use Rattle.script_model.specs.Session.{boots, after_event, running, running_in, after_entry}
use Rattle.script_model.specs.Session.{after_parse}
use Rattle.script_model.specs.Session.{after_line, session_after, pieces_of, first_io, later_io}
use Rattle.script_model.specs.Session.{whole}
use Rattle.script_model.specs.Text.{boot_text}
use Rattle.failure_laws.specs.Failures.{FailAlike, AllFailAlike, list_of, SeesFailures, RunsAlike}
use Rattle.failure_laws.specs.Failures.{WritesAlike}
use Rattle.failure_laws.specs.Failures.{LinesSeeFailures, OutcomesSeeFailures, NoFailuresAreNoList}
use Rattle.failure_laws.proofs.PieceLemmas.{all_calls_see_failures}
use Rattle.failure_laws.proofs.StepLemmas.{run_is}
use Rattle.failure_laws.proofs.EventLemmas.{events_see_failures}

-- ---- a line

-- an event that leaves alike runs
event_writes : (s : Session) (n : ℕ) (r u : Run) → RunsAlike r u →
    WritesAlike (after_event s n r) (after_event s n u)
event_writes s n r u h =
    subst (λ (x : Run). WritesAlike (after_event s n r) (after_event s n x)) (sym (run_is r u h))
    (record { session = refl; bytes = refl; notes = refl })

-- either of two
either_writes : (x : Bool) (a b c d : Written) → WritesAlike a c → WritesAlike b d →
    WritesAlike (elim x as (λ _. Written) [ true ↦ a | false ↦ b ])
    (elim x as (λ _. Written) [ true ↦ c | false ↦ d ])
either_writes true a b c d h k = h
either_writes false a b c d h k = k

-- a boot
boot_writes : (size callable : ℕ) (s : Session) (io jo : List Bool) → FailAlike io jo →
    WritesAlike (boots size callable s io) (boots size callable s jo)
boot_writes size callable s io jo h =
    let rows = directory_of size (s.blocks 0) in
    let broken = λ (l : List Bool). booted s (world_of s.setup size callable []) (codes "0 E16")
    (drop 1 l) in
    let up = λ (l : List Bool). booted s (world_of s.setup size callable rows)
    (boot_text s.setup.frames size (usable_count rows)) (drop 1 l) in
    subst (λ (x : Bool). WritesAlike (boots size callable s io)
    (elim x as (λ _. Written) [ true ↦ broken jo | false ↦ up jo ])) (h 0)
    (either_writes (disk_fails io 0) (broken io) (up io) (broken jo) (up jo)
    (record { session = refl; bytes = refl; notes = refl })
    (record { session = refl; bytes = refl; notes = refl }))

module _ (b : Build) (keys : Keys) (size : ℕ) (sees : SeesFailures b.meaning) where
  running_writes : (s : Session) (e : Entry) (k : Kernel) (io jo : List Bool) → FailAlike io jo →
      WritesAlike (running b keys size s e k io) (running b keys size s e k jo)
  running_writes s (Happens e) k io jo h =
      event_writes s (suc s.events) (event b.meaning k s.blocks (suc s.events) e io)
      (event b.meaning k s.blocks (suc s.events) e jo)
      (events_see_failures b.meaning k s.blocks (suc s.events) e io jo sees h)
  running_writes s e k io jo h = record { session = refl; bytes = refl; notes = refl }

  in_writes : (s : Session) (e : Entry) (k : Option Kernel) (io jo : List Bool) →
      FailAlike io jo →
      WritesAlike (running_in b keys size s e k io) (running_in b keys size s e k jo)
  in_writes s e None io jo h = record { session = refl; bytes = refl; notes = refl }
  in_writes s e (Some k) io jo h = running_writes s e k io jo h

  entry_writes : (s : Session) (e : Entry) (io jo : List Bool) → FailAlike io jo →
      WritesAlike (after_entry b keys size s e io) (after_entry b keys size s e jo)
  entry_writes s Blank io jo h = record { session = refl; bytes = refl; notes = refl }
  entry_writes s (Frames n) io jo h = record { session = refl; bytes = refl; notes = refl }
  entry_writes s (Patience kind ticks) io jo h =
      record { session = refl; bytes = refl; notes = refl }
  entry_writes s (Grant n) io jo h = record { session = refl; bytes = refl; notes = refl }
  entry_writes s Boot io jo h = boot_writes size b.callable s io jo h
  entry_writes s e io jo h = in_writes s e s.kernel io jo h

  parse_writes : (s : Session) (x : Result Entry ScriptFault) (io jo : List Bool) →
      FailAlike io jo →
      WritesAlike (after_parse b keys size s x io) (after_parse b keys size s x jo)
  parse_writes s (Err fault) io jo h = record { session = refl; bytes = refl; notes = refl }
  parse_writes s (Ok e) io jo h = entry_writes s e io jo h

  line_writes : (s : Session) (text : List ℕ) (io jo : List Bool) → FailAlike io jo →
      WritesAlike (after_line b keys size s text io) (after_line b keys size s text jo)
  line_writes s text io jo h =
      either_writes s.refused (silent s io)
      (after_parse b keys size (record s { lines = suc s.lines })
      (parsed_line b.words (is_some s.kernel) text) io)
      (silent s jo)
      (after_parse b keys size (record s { lines = suc s.lines })
      (parsed_line b.words (is_some s.kernel) text) jo)
      (record { session = refl; bytes = refl; notes = refl })
      (parse_writes (record s { lines = suc s.lines }) (parsed_line b.words (is_some s.kernel) text) io jo
      h)

  -- ---- lines

  session_same : (s : Session) (texts : List (List ℕ)) (ios jos : List (List Bool)) →
      AllFailAlike ios jos →
      session_after b keys size s texts ios ≡ session_after b keys size s texts jos
  session_same s [] ios jos h = refl
  session_same s (text ∷ texts) ios jos h =
      let next = after_line b keys size s text (first_io ios) in
      session_same next.session texts (later_io ios) (later_io jos) (λ n. h (suc n))
      ∙ sym (ap (λ (x : Session). session_after b keys size x texts (later_io jos))
      (line_writes s text (first_io ios) (first_io jos) (h 0)).session)

  pieces_same : (s : Session) (texts : List (List ℕ)) (ios jos : List (List Bool)) →
      AllFailAlike ios jos →
      pieces_of b keys size s texts ios ≡ pieces_of b keys size s texts jos
  pieces_same s [] ios jos h = refl
  pieces_same s (text ∷ texts) ios jos h =
      let w = after_line b keys size s text (first_io ios) in
      let x = after_line b keys size s text (first_io jos) in
      let same = line_writes s text (first_io ios) (first_io jos) (h 0) in
      ap (λ (rest : List (List ℕ)). w.bytes ∷ rest)
      (pieces_same w.session texts (later_io ios) (later_io jos) (λ n. h (suc n)))
      ∙ sym (ap (λ (bytes : List ℕ). bytes
      ∷ pieces_of b keys size w.session texts (later_io jos)) same.bytes)
      ∙ sym (ap (λ (y : Session). x.bytes ∷ pieces_of b keys size y texts (later_io jos))
      same.session)

-- the law of lines
pub lines_see_failures : LinesSeeFailures
lines_see_failures b keys size s text io jo sees h = line_writes b keys size sees s text io jo h

-- ---- a whole run

-- the law of outcomes
pub outcomes_see_failures : OutcomesSeeFailures
outcomes_see_failures b keys taken e d ios jos sees h =
    let script = take SCRIPT_BYTES taken in
    let lines = lines_after [] script in
    let s = first_session d in
    ap (λ (x : Session). outcome_of e x (pieces_of b keys d.size s lines ios)
    (rest_after [] script)) (session_same b keys d.size sees s lines ios jos h)
    ∙ ap (λ (x : List (List ℕ)). outcome_of e (session_after b keys d.size s lines jos) x
    (rest_after [] script)) (pieces_same b keys d.size sees s lines ios jos h)

-- no lists have none for any line
no_list : (n : ℕ) → list_of [] n ≡ []
no_list zero = refl
no_list (suc n) = no_list n

-- the law of no failures
pub no_failures_are_no_list : NoFailuresAreNoList
no_failures_are_no_list keys taken e d ios none =
    outcomes_see_failures whole keys taken e d ios [] all_calls_see_failures
    (λ n k. none n k ∙ sym (ap (λ (l : List Bool). disk_fails l k) (no_list n)))
