-- What is still to be written, line by line.
use Rattle.std.proofs.Common.{◌≡◌, ℕ, Bool, true, false, cond, ◌==◌, ◌||◌, List, [], ◌∷◌, ◌++◌, length, take}
use Rattle.std.proofs.Common.{refl, sym, ap, ◌∙◌, append_assoc, append-nil}
use Rattle.std.specs.Prelude.{Result, Ok, Err, OnOk, IfOk}
use Rattle.std.specs.List.{concat}
use Rattle.std.proofs.lemmas.Bool.{eqb-true, eq-eqb}
use Rattle.script_model.specs.declared.Keys.{Keys}
use Rattle.script_model.specs.Directory.{sample_disk}
use Rattle.script_model.specs.Session as model
use Rattle.script_model.specs.Session.{Written, first_session, session_after, pieces_of, whole}
use Rattle.script_model.specs.Outcome.{End, Outcome, outcome_of, at_ending, ends_as, written, lines_after}
use Rattle.script_model.specs.Outcome.{rest_after, ends_line, ended_line, SCRIPT_BYTES}
use Rattle.script_model.specs.declared.Verdict.{Verdict}
use Rattle.script_model.specs.Audits.{verdict, wanted}
use Rattle.run_audit.specs.Progress.{Progress, begun, after_byte, after_bytes, concluded, ComparingDecides}
use Rattle.audit_session.specs.Sessions.{end_bytes, last_bytes}
use Rattle.run_audit.specs.Remaining.{line_run, still_written}

-- bytes one behind the other
pub after_more_bytes : (xs ys : List ℕ) (p : Progress) → after_bytes (xs ++ ys) p ≡ after_bytes ys (after_bytes xs p)
after_more_bytes [] ys p = refl
after_more_bytes (x ∷ xs) ys p = after_more_bytes xs ys (after_byte x p)

-- pieces and one more
concat_more : (xss : List (List ℕ)) (ys : List ℕ) → concat (xss ++ ys ∷ []) ≡ concat xss ++ ys
concat_more [] ys = append-nil ys
concat_more (xs ∷ xss) ys = ap (λ (zs : List ℕ). xs ++ zs) (concat_more xss ys)
    ∙ sym (append_assoc xs (concat xss) ys)

-- the lines of bytes that are to come, by whether the first byte ends the line
abbrev lines_by : (text : List ℕ) → ℕ → List ℕ → Bool → List (List ℕ)
lines_by text b bs ends = elim ends [
  | true ↦ ended_line text b ∷ lines_after [] bs
  | false ↦ lines_after (text ++ b ∷ []) bs
]

-- what is left behind them
abbrev rest_by : (text : List ℕ) → ℕ → List ℕ → Bool → List ℕ
rest_by text b bs ends = elim ends [ true ↦ rest_after [] bs | false ↦ rest_after (text ++ b ∷ []) bs ]

-- what stands between one line's end and the next is put to the line
pub goes_on : (keys : Keys) (s : model.Session) (text : List ℕ) (b : ℕ) (bs : List ℕ) → ends_line text b ≡ false →
    still_written keys s text (b ∷ bs) ≡ still_written keys s (text ++ b ∷ []) bs
goes_on keys s text b bs e =
    ap (λ (x : Bool). concat (pieces_of whole keys 64 s (lines_by text b bs x) [])
    ++ last_bytes (session_after whole keys 64 s (lines_by text b bs x) []) (rest_by text b bs x)) e

-- a line that ends is run, and the next one begins
pub line_ends : (keys : Keys) (s : model.Session) (text : List ℕ) (b : ℕ) (bs : List ℕ) → ends_line text b ≡ true →
    still_written keys s text (b ∷ bs)
    ≡ (line_run keys s (ended_line text b)).bytes
    ++ still_written keys (line_run keys s (ended_line text b)).session [] bs
line_ends keys s text b bs e =
    let w = line_run keys s (ended_line text b) in
    ap (λ (x : Bool). concat (pieces_of whole keys 64 s (lines_by text b bs x) [])
    ++ last_bytes (session_after whole keys 64 s (lines_by text b bs x) []) (rest_by text b bs x)) e
    ∙ append_assoc w.bytes (concat (pieces_of whole keys 64 w.session (lines_after [] bs) []))
    (last_bytes (session_after whole keys 64 w.session (lines_after [] bs) []) (rest_after [] bs))

-- what an outcome writes, by its last bytes
ends_written : (s : model.Session) (ps : List (List ℕ)) (rest : List ℕ) → written (outcome_of End s ps rest)
    ≡ concat ps ++ last_bytes s rest
ends_written s ps rest = by s.refused rest
  where
    by : (b : Bool) (rest : List ℕ) →
        written (elim b as (λ _. Outcome) [ true ↦ ends_as 2 s ps | false ↦ at_ending End s ps rest ])
        ≡ concat ps ++ (elim b as (λ _. List ℕ) [ true ↦ [] | false ↦ end_bytes s rest ])
    by true rest = sym (append-nil (concat ps))
    by false [] = concat_more ps (end_bytes s [])
    by false (x ∷ xs) = concat_more ps (end_bytes s (x ∷ xs))

-- from the first line on it is all of it
pub wanted_is : (keys : Keys) (script : List ℕ) → take SCRIPT_BYTES script ≡ script →
    still_written keys (first_session sample_disk) [] script ≡ wanted keys script
wanted_is keys script e =
    let s = first_session sample_disk in
    sym (ends_written (session_after whole keys 64 s (lines_after [] script) []) (pieces_of whole keys 64 s
    (lines_after [] script) []) (rest_after [] script))
    ∙ sym (ap (λ (t : List ℕ). written (outcome_of End (session_after whole keys 64 s (lines_after [] t) [])
    (pieces_of whole keys 64 s (lines_after [] t) []) (rest_after [] t))) e)

-- ---- a byte

-- after a byte as much is still to be compared as before it, the byte included
abbrev pub Goes : Keys → (s t : model.Session) → (text next : List ℕ) → ℕ → (p q : Progress) → Type 0
Goes keys s t text next b p q =
    (bs : List ℕ) → after_bytes (still_written keys t next bs) q ≡ after_bytes (still_written keys s text (b ∷ bs)) p

-- it ended the line
pub ended : (keys : Keys) (s t : model.Session) (text next line : List ℕ) (b : ℕ) (p q : Progress) →
    ends_line text b ≡ true → line ≡ ended_line text b →
    t ≡ (line_run keys s line).session → next ≡ [] → q ≡ after_bytes (line_run keys s line).bytes p →
    Goes keys s t text next b p q
ended keys s t text next line b p q ends line_is t_is next_is q_is bs =
    let w = line_run keys s line in
    ap (λ (x : model.Session). after_bytes (still_written keys x next bs) q) t_is
    ∙ ap (λ (x : List ℕ). after_bytes (still_written keys w.session x bs) q) next_is
    ∙ ap (λ (x : Progress). after_bytes (still_written keys w.session [] bs) x) q_is
    ∙ sym (after_more_bytes w.bytes (still_written keys w.session [] bs) p)
    ∙ ap (λ (x : List ℕ). after_bytes ((line_run keys s x).bytes
    ++ still_written keys (line_run keys s x).session [] bs) p) line_is
    ∙ sym (ap (λ (x : List ℕ). after_bytes x p) (line_ends keys s text b bs ends))

-- it is of the line
pub went_on : (keys : Keys) (s : model.Session) (text next : List ℕ) (b : ℕ) (p : Progress) →
    ends_line text b ≡ false → next ≡ text ++ b ∷ [] →
    Goes keys s s text next b p p
went_on keys s text next b p ends next_is bs =
    ap (λ (x : List ℕ). after_bytes (still_written keys s x bs) p) next_is
    ∙ sym (ap (λ (x : List ℕ). after_bytes x p) (goes_on keys s text b bs ends))

-- a newline ends a line
pub newline_ends : (text : List ℕ) (b : ℕ) → b ≡ 10 → (ends_line text b ≡ true) × (text ≡ ended_line text b)
newline_ends text b e = (
  ap (λ (x : ℕ). x == 10 || length text == 65536) e,
  sym (ap (λ (x : ℕ). cond
      (x == 10) text (text ++ x ∷ [])) e),
)

-- and so does a byte too many
pub long_ends : (text : List ℕ) (b : ℕ) → (b ≡ 10 → ⊥) → length text ≡ 65536 →
    (ends_line text b ≡ true) × (text ++ b ∷ [] ≡ ended_line text b)
long_ends text b other long = by (b == 10) refl
  where
    by : (x : Bool) → (b == 10) ≡ x → (ends_line text b ≡ true) × (text ++ b ∷ [] ≡ ended_line text b)
    by true e = absurd (other (eqb-true b 10 e))
    by false e = (
      ap (λ (y : Bool). y || length text == 65536) e ∙ eq-eqb (length text) 65536 long,
      sym (ap (λ (y : Bool). cond y text (text ++ b ∷ [])) e),
    )

-- no other byte does
pub no_end : (text : List ℕ) (b : ℕ) → (b ≡ 10 → ⊥) → (length text ≡ 65536 → ⊥) → ends_line text b ≡ false
no_end text b other short = by (b == 10) refl (length text == 65536) refl
  where
    by : (x : Bool) → (b == 10) ≡ x → (y : Bool) → (length text == 65536) ≡ y → ends_line text b ≡ false
    by true e y f = absurd (other (eqb-true b 10 e))
    by false e true f = absurd (short (eqb-true (length text) 65536 f))
    by false e false f = ap (λ (z : Bool). z || length text == 65536) e ∙ f

-- three facts of an answer that is well give another
pub on_ok : {A E : Type 0} {P Q R S : Type 0} (r : Result A E) → (P → Q → R → S) → OnOk r P → OnOk r Q →
    OnOk r R → OnOk r S
on_ok (Ok x) f p q r = f p q r
on_ok (Err e) f p q r = tt

-- and one gives another
pub on_ok_one : {A E : Type 0} {P S : Type 0} (r : Result A E) → (P → S) → OnOk r P → OnOk r S
on_ok_one (Ok x) f p = f p
on_ok_one (Err e) f p = tt

-- so does a fact of the value
pub if_ok : {A E : Type 0} {P Q : A → Type 0} (r : Result A E) → ((v : A) → P v → Q v) → IfOk r P → IfOk r Q
if_ok (Ok x) f p = f x p
if_ok (Err e) f p = tt

-- at the end only the last bytes are still to be written
end_is : (keys : Keys) (s : model.Session) (text : List ℕ) → still_written keys s text [] ≡ last_bytes s text
end_is keys s text = refl

pub at_the_end : (keys : Keys) (s : model.Session) (text bytes : List ℕ) (p q : Progress) → bytes ≡ [] →
    after_bytes (still_written keys s text bytes) p ≡ q → after_bytes (last_bytes s text) p ≡ q
at_the_end keys s text bytes p q none so_far =
    sym (ap (λ (bs : List ℕ). after_bytes (still_written keys s text bs) p) none
    ∙ ap (λ (x : List ℕ). after_bytes x p) (end_is keys s text)) ∙ so_far

-- what was concluded is the verdict
pub decided : {E : Type 0} (r : Result Verdict E) (claim w : List ℕ) (q : Progress) → IfOk r (λ v. v ≡ concluded q) →
    q ≡ after_bytes w (begun claim) → ComparingDecides → IfOk r (λ v. v ≡ verdict claim w)
decided (Ok v) claim w q said is law = said ∙ ap concluded is ∙ law claim w
decided (Err e) claim w q said is law = tt
