-- The text of its lines decides how a run of the definitions ends.
use Rattle.std.proofs.Common.{◌≡◌, ℕ, suc, Bool, true, false, List, [], ◌∷◌, ◌++◌, Result, Ok, Err}
use Rattle.std.proofs.Common.{Option, Some, None, is_some, refl, sym, ap, ◌∙◌, subst, append-nil}
use Rattle.std.proofs.Common.{take}
use Rattle.std.specs.List.{concat}
use Rattle.std.proofs.lemmas.List.Folds.{concat-append}
use Rattle.script_model.specs.declared.Keys.{Keys}
use Rattle.kernel_data.specs.Directory.{Disk}
use Rattle.script_model.specs.Kernel.{Kernel}
use Rattle.script_model.specs.Meaning.{disk_fails}
use Rattle.script_model.specs.Script.{Entry, Blank, Frames, Patience, Grant, Boot, Happens, Loads}
use Rattle.script_model.specs.Script.{Raw, ScriptFault, parsed_line}
use Rattle.script_model.specs.Session.{Build, Session, Written, first_session, silent, after_parse}
use Rattle.script_model.specs.Session.{after_entry, after_line, running_in, session_after}
use Rattle.script_model.specs.Session.{pieces_of, first_io, later_io}
use Rattle.script_model.specs.Outcome.{SCRIPT_BYTES, Ending, End, Fault, Over, Outcome, written}
use Rattle.script_model.specs.Outcome.{lines_after, rest_after, left_lines, at_ending, ends_as}
use Rattle.vino_top.specs.Parsed.{Parsed, first_parsed, parsed_session, parsed_entry, EndsWith}
use Rattle.vino_top.specs.Parsed.{GoesByText, going_refusal, text_refusal}
use Rattle.vino_top.specs.TextLaw.{EndsByText}
use Rattle.vino_top.proofs.ParsedLemmas.{goes_none, goes_more, goes_refused, goes_entry}
use Rattle.vino_top.proofs.ParsedLemmas.{goes_fault, EndsAs, going_ends, refused_ends, text_ends}

-- ---- lines

-- a session whose kernel goes on
same_kernel : (a : Session) (k : Kernel) → a.kernel ≡ Some k →
    record { booted = true; lines = a.lines; refused = a.refused } ≡ parsed_session a
same_kernel a k h =
    ap (λ (b : Bool). let p : Parsed =
    record { booted = b; lines = a.lines; refused = a.refused } in p) (sym (ap is_some h))

-- whether a boot's read fails or not
either_boot : (fails : Bool) (x y : Written) (p : Parsed) → parsed_session x.session ≡ p →
    parsed_session y.session ≡ p →
    parsed_session (elim fails as (λ _. Written) [ true ↦ x | false ↦ y ]).session ≡ p
either_boot true x y p h i = h
either_boot false x y p h i = i

module _ (b : Build) (keys : Keys) (size : ℕ) where
  -- an entry of a kernel, if there is one
  running_parsed : (a : Session) (e : Entry) (o : Option Kernel) (io : List Bool) → a.kernel ≡ o →
      parsed_session (running_in b keys size a e o io).session ≡ parsed_session a
  running_parsed a e None io h = refl
  running_parsed a (Happens e) (Some k) io h = same_kernel a k h
  running_parsed a (Loads slot bytes) (Some k) io h = same_kernel a k h
  running_parsed a Raw (Some k) io h = refl
  running_parsed a Blank (Some k) io h = refl
  running_parsed a (Frames n) (Some k) io h = refl
  running_parsed a (Patience kind n) (Some k) io h = refl
  running_parsed a (Grant n) (Some k) io h = refl
  running_parsed a Boot (Some k) io h = refl

  -- an entry of a session
  entry_parsed : (a : Session) (e : Entry) (io : List Bool) →
      parsed_session (after_entry b keys size a e io).session ≡ parsed_entry (parsed_session a) e
  entry_parsed a Blank io = refl
  entry_parsed a (Frames n) io = refl
  entry_parsed a (Patience kind n) io = refl
  entry_parsed a (Grant n) io = refl
  entry_parsed a Boot io = either_boot (disk_fails io 0) _ _ (record (parsed_session a) { booted = true }) refl refl
  entry_parsed a (Happens e) io = running_parsed a (Happens e) a.kernel io refl
  entry_parsed a (Loads slot bytes) io = running_parsed a (Loads slot bytes) a.kernel io refl
  entry_parsed a Raw io = running_parsed a Raw a.kernel io refl

  -- a line of a session, by whether one was refused and what it says
  line_by : (a : Session) (text : List ℕ) (io : List Bool) (refused : Bool) (said : Result Entry
      ScriptFault) → a.refused ≡ refused → parsed_line b.words (is_some a.kernel) text ≡ said →
      let w = elim refused as (λ _. Written) [
        | true ↦ silent a io
        | false ↦ after_parse b keys size (record a { lines = suc a.lines }) said io
      ] in
      GoesByText b.words (parsed_session a) (parsed_session w.session) (text ∷ []) w.bytes
  line_by a text io true said h is = goes_refused b.words (parsed_session a) text [] h refl
  line_by a text io false (Err fault) h is = goes_fault b.words (parsed_session a) _ text _ fault h is refl refl
  line_by a text io false (Ok e) h is =
      goes_entry b.words (parsed_session a) _ text _ e h is
      (entry_parsed (record a { lines = suc a.lines }) e io)

  -- all lines
  lines_go : (a : Session) (texts : List (List ℕ)) (ios : List (List Bool)) →
      GoesByText b.words (parsed_session a) (parsed_session (session_after b keys size a texts ios)) texts
      (concat (pieces_of b keys size a texts ios))
  lines_go a [] ios = goes_none b.words (parsed_session a)
  lines_go a (text ∷ texts) ios =
      let w = after_line b keys size a text (first_io ios) in
      goes_more b.words (parsed_session a) (parsed_session w.session)
      (parsed_session (session_after b keys size w.session texts (later_io ios)))
      (text ∷ []) texts w.bytes (concat (pieces_of b keys size w.session texts (later_io ios)))
      (line_by a text (first_io ios) a.refused (parsed_line b.words (is_some a.kernel) text) refl refl)
      (lines_go w.session texts (later_io ios))

-- ---- the end

-- an outcome that writes bytes behind the pieces ends as the text says
record EndsLike (o : Outcome) (p : Parsed) (ending : Ending) (rest : List ℕ) (pieces : List (List ℕ)) : Type 0 where
  last : List ℕ
  bytes : written o ≡ concat pieces ++ last
  ends : EndsAs p ending rest o.status last

-- the bytes of one more piece
piece_last : (pieces : List (List ℕ)) (last : List ℕ) → concat (pieces ++ last ∷ []) ≡ concat pieces ++ last
piece_last pieces last = concat-append pieces (last ∷ []) ∙ ap (λ (x : List ℕ). concat pieces ++ x) (append-nil last)

outcome_ends : (refused : Bool) (e : Ending) (a : Session) (pieces : List (List ℕ))
    (rest : List ℕ) → a.refused ≡ refused →
    EndsLike (elim refused as (λ _. Outcome) [
      | true ↦ ends_as 2 a pieces
      | false ↦ at_ending e a pieces rest
    ]) (parsed_session a) e rest pieces
outcome_ends true e a pieces rest h =
    record {
      last = [];
      bytes = sym (append-nil (concat pieces));
      ends = refused_ends (parsed_session a) e rest h;
    }
outcome_ends false Fault a pieces rest h =
    record {
      last = [];
      bytes = sym (append-nil (concat pieces));
      ends =
          going_ends (parsed_session a) Fault rest 3 [] h refl (record { before = []; is = refl });
    }
outcome_ends false Over a pieces rest h =
    record {
      last = [];
      bytes = sym (append-nil (concat pieces));
      ends =
          going_ends (parsed_session a) Over rest 7 [] h refl (record { before = []; is = refl });
    }
outcome_ends false End a pieces [] h =
    let last = left_lines a.kernel in
    record {
      last = last;
      bytes = piece_last pieces last;
      ends = going_ends (parsed_session a) End [] 0 last h refl
          (record { before = last; is = sym (append-nil last) });
    }
outcome_ends false End a pieces (x ∷ rest) h =
    let last = going_refusal End a.lines (x ∷ rest) in
    record {
      last = last;
      bytes = piece_last pieces last;
      ends = going_ends (parsed_session a) End (x ∷ rest) 2 last h refl
          (record { before = []; is = refl });
    }

-- so an outcome ends as the text says
pub ends_by_text : (b : Build) (keys : Keys) (taken : List ℕ) (e : Ending) (d : Disk)
    (ios : List (List Bool)) → EndsByText b keys taken e d ios
ends_by_text b keys taken e d ios =
    let lines = lines_after [] (take SCRIPT_BYTES taken) in
    let rest = rest_after [] (take SCRIPT_BYTES taken) in
    let s = session_after b keys d.size (first_session d) lines ios in
    let pieces = pieces_of b keys d.size (first_session d) lines ios in
    let so = outcome_ends s.refused e s pieces rest refl in
    let text = text_ends b.words first_parsed (parsed_session s) taken rest (concat pieces) so.last e _ refl
    refl (lines_go b keys d.size (first_session d) lines ios) so.ends in
    record {
      parsed = text.parsed;
      status = text.status_is;
      refusal = subst (λ (x : List ℕ). EndsWith x (text_refusal b.words taken e)) (sym so.bytes) text.refusal;
    }
