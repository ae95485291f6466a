-- What a line makes of a session, by what it says.
use Rattle.std.proofs.Common.{◌≡◌, ℕ, suc, ◌+◌, Bool, true, false, List, [], Option, Some, None, Result, Ok, Err}
use Rattle.std.proofs.Common.{refl, sym, ap, subst, ◌∙◌, is_some, add-one, codes, decimal, ◌++◌}
use Rattle.std.specs.Prelude.{OnOk}
use Rattle.script_model.specs.declared.Keys.{Keys}
use Rattle.script_model.specs.Bytes.{spaced}
use Rattle.script_model.specs.Objects.{at}
use Rattle.script_model.specs.Script as script
use Rattle.script_model.specs.Script.{Entry, Patience, parsed_line}
use Rattle.script_model.specs.Session.{Written, whole, after_line, after_parse, after_entry, refuses_line}
use Rattle.script_model.specs.Session.{silent, fault_text}
use Rattle.script_model.specs.Text.{line}
use Rattle.script_text.specs.declared.parse.ScriptFault.{ScriptFault}
use Rattle.script_text.specs.declared.parse.ScriptFault.TheVariants.{BadWord, BadNumber, WrongPlace, UnknownCommand}
use Rattle.script_text.specs.Answers.{Refuses}
use Rattle.audit_table.specs.Tables.{column_of}
use Rattle.audit_state.specs.declared.World.{World}
use Rattle.audit_kernel.specs.declared.Run.{Run}
use Rattle.audit_session.specs.declared.Session.{Session}
use Rattle.audit_session.specs.Sessions.{session_of, kernel_in, RunIsKept, Leaves, code_seen}

-- a fact of an answer that is well gives another, and so do two
pub on_ok : {A E : Type 0} {P S : Type 0} (r : Result A E) → (P → S) → OnOk r P → OnOk r S
on_ok (Ok x) f p = f p
on_ok (Err e) f p = tt

pub on_both : {A E : Type 0} {P Q S : Type 0} (r : Result A E) → (P → Q → S) → OnOk r P → OnOk r Q → OnOk r S
on_both (Ok x) f p q = f p q
on_both (Err e) f p q = tt

-- a session has a kernel where its run is there
same_boot : (o : Option Run) → is_some (kernel_in o) ≡ is_some o
same_boot None = refl
same_boot (Some r) = refl

-- a line is read where none was refused
line_read : (keys : Keys) (s : Session) (text : List ℕ) (b : Bool) (said : Result Entry script.ScriptFault) →
    s.refused ≡ false → b ≡ is_some s.run → parsed_line [] b text ≡ said →
    after_line whole keys 64 (session_of s) text []
    ≡ after_parse whole keys 64 (record (session_of s) { lines = suc s.lines }) said []
line_read keys s text b said going booted is =
    let m = session_of s in
    let later = record m { lines = suc s.lines } in
    ap (λ (x : Bool). elim x as (λ _. Written) [
      | true ↦ silent m []
      | false ↦ after_parse whole keys 64 later (parsed_line [] (is_some m.kernel) text) []
    ]) going
    ∙ ap (λ (x : Bool). after_parse whole keys 64 later (parsed_line [] x text) []) (same_boot s.run ∙ sym booted)
    ∙ ap (λ (x : Result Entry script.ScriptFault). after_parse whole keys 64 later x []) is

-- a line that says an entry
pub line_entered : (keys : Keys) (s t : Session) (text : List ℕ) (b : Bool) (e : Entry) (n : ℕ) (bytes : List ℕ) →
    s.refused ≡ false → b ≡ is_some s.run → parsed_line [] b text ≡ Ok e → n ≡ s.lines + 1 →
    Leaves (after_entry whole keys 64 (record (session_of s) { lines = n }) e []) t bytes →
    Leaves (after_line whole keys 64 (session_of s) text []) t bytes
line_entered keys s t text b e n bytes going booted is count leaves =
    subst (λ (w : Written). Leaves w t bytes) (sym (line_read keys s text b (Ok e) going booted is))
    (subst (λ (k : ℕ). Leaves (after_entry whole keys 64 (record (session_of s) { lines = k }) e []) t bytes)
    (count ∙ add-one s.lines) leaves)

-- a line that is refused
said_refused : (keys : Keys) (s t : Session) (text : List ℕ) (b : Bool) (fault : script.ScriptFault) (n : ℕ) (bytes : List ℕ) →
    s.refused ≡ false → b ≡ is_some s.run → parsed_line [] b text ≡ Err fault → n ≡ s.lines + 1 →
    t ≡ record s { lines = n; refused = true } → bytes ≡ line (fault_text n fault) → RunIsKept s.run →
    Leaves (after_line whole keys 64 (session_of s) text []) t bytes
said_refused keys s t text b fault n bytes going booted is count state said kept =
    let next : n ≡ suc s.lines = count ∙ add-one s.lines in
    subst (λ (w : Written). Leaves w t bytes) (sym (line_read keys s text b (Err fault) going booted is))
    (subst (λ (z : Session). Leaves (refuses_line (record (session_of s) { lines = suc s.lines }) fault []) z bytes)
    (sym state) (record {
      session = ap (λ (k : ℕ). record (session_of s) { lines = k; refused = true }) next;
      bytes_are = said ∙ ap (λ (k : ℕ). line (fault_text k fault)) next;
      kept = kept;
    }))

-- a line that the reader refuses
pub line_refused : (keys : Keys) (s t : Session) (text : List ℕ) (b : Bool) (fault : ScriptFault) (n : ℕ) (bytes : List ℕ) →
    s.refused ≡ false → b ≡ is_some s.run → Refuses fault (parsed_line [] b text) → n ≡ s.lines + 1 →
    t ≡ record s { lines = n; refused = true } →
    bytes ≡ line (codes "script" ++ spaced n ++ codes " S" ++ decimal (code_seen fault)) → RunIsKept s.run →
    Leaves (after_line whole keys 64 (session_of s) text []) t bytes
line_refused keys s t text b BadWord n bytes going booted is count state said kept =
    said_refused keys s t text b script.BadWord n bytes going booted is count state said kept
line_refused keys s t text b BadNumber n bytes going booted is count state said kept =
    said_refused keys s t text b script.BadNumber n bytes going booted is count state said kept
line_refused keys s t text b WrongPlace n bytes going booted is count state said kept =
    said_refused keys s t text b script.WrongPlace n bytes going booted is count state said kept
line_refused keys s t text b UnknownCommand n bytes going booted is count state said kept =
    said_refused keys s t text b script.UnknownCommand n bytes going booted is count state said kept

-- the patience for a kind of object
pub patience_leaves : (keys : Keys) (s : Session) (w : World) (kind ticks k : ℕ) (bytes : List ℕ) →
    w.frames ≡ s.setup.frames → w.grant ≡ s.setup.grant →
    column_of 10 w.patience.items ≡ at k ticks (column_of 10 s.setup.patience.items) → k ≡ kind →
    RunIsKept s.run → bytes ≡ [] →
    Leaves (after_entry whole keys 64 (session_of s) (Patience kind ticks) []) (record s { setup = w }) bytes
patience_leaves keys s w kind ticks k bytes frames grant rows same kept none =
    record {
      session =
          ap (λ (f : ℕ → ℕ). record (session_of s) {
            setup = record { frames = w.frames; patience = f; grant = w.grant };
          }) (rows ∙ ap (λ (j : ℕ). at j ticks (column_of 10 s.setup.patience.items)) same)
          ∙ ap (λ (n : ℕ). record (session_of s) {
            setup = record {
              frames = n;
              patience = at kind ticks (column_of 10 s.setup.patience.items);
              grant = w.grant;
            };
          }) frames
          ∙ ap (λ (n : ℕ). record (session_of s) {
            setup = record {
              frames = s.setup.frames;
              patience = at kind ticks (column_of 10 s.setup.patience.items);
              grant = n;
            };
          }) grant;
      bytes_are = none;
      kept = kept;
    }
