-- How scripts go on by the text of their lines.
use Rattle.std.proofs.Common.{◌≡◌, ℕ, suc, Bool, true, false, cond, List, [], ◌∷◌, ◌++◌, Result}
use Rattle.std.proofs.Common.{Ok, Err, refl, sym, ap, ◌∙◌, subst, append-nil, append_assoc, take}
use Rattle.script_model.specs.Script.{Entry, Blank, Frames, Patience, Grant, Boot, Happens, Loads}
use Rattle.script_model.specs.Script.{Raw, ScriptFault, OwnWord, parsed_line}
use Rattle.script_model.specs.Outcome.{SCRIPT_BYTES, Ending, lines_after, rest_after}
use Rattle.vino_top.specs.Parsed.{Parsed, first_parsed, parsed_entry, parsed_said, refusal_said}
use Rattle.vino_top.specs.Parsed.{parsed_after, refusal_after, parsed_all, refusal_among, EndsWith}
use Rattle.vino_top.specs.Parsed.{GoesByText, going_status, going_refusal, status_by, refusal_by}
use Rattle.vino_top.specs.Parsed.{text_parsed, text_status, text_refusal}

-- a test isn't both
pub no_both : {A : Type 0} → true ≡ false → A
no_both h = absurd (contrary h)
  where
    contrary : true ≡ false → ⊥
    contrary k = cc

-- ---- lines in two parts

-- how far lines come that come in two parts
pub parsed-append : (own : List OwnWord) (p : Parsed) (xs ys : List (List ℕ)) →
    parsed_all own p (xs ++ ys) ≡ parsed_all own (parsed_all own p xs) ys
parsed-append own p [] ys = refl
parsed-append own p (x ∷ xs) ys = parsed-append own (parsed_after own p x) xs ys

-- and the refusal among them
pub refusal-append : (own : List OwnWord) (p : Parsed) (xs ys : List (List ℕ)) →
    refusal_among own p (xs ++ ys) ≡ refusal_among own p xs ++ refusal_among own (parsed_all own p xs) ys
refusal-append own p [] ys = refl
refusal-append own p (x ∷ xs) ys =
    ap (λ (b : List ℕ). refusal_after own p x ++ b) (refusal-append own (parsed_after own p x) xs ys)
    ∙ sym (append_assoc (refusal_after own p x) (refusal_among own (parsed_after own p x) xs)
    (refusal_among own (parsed_all own (parsed_after own p x) xs) ys))

-- what was refused stays refused
pub stays_refused : (own : List OwnWord) (p : Parsed) (xs : List (List ℕ)) →
    p.refused ≡ true → parsed_all own p xs ≡ p
stays_refused own p [] h = refl
stays_refused own p (x ∷ xs) h =
    let same : parsed_after own p x ≡ p = ap (λ (b : Bool). cond b p
    (parsed_said (record p { lines = suc p.lines }) (parsed_line own p.booted x))) h in
    ap (λ (q : Parsed). parsed_all own q xs) same ∙ stays_refused own p xs h

said_going : (b : Bool) (p q : Parsed) (n : ℕ) (said : Result Entry ScriptFault) →
    (cond b p (parsed_said q said)).refused ≡ false → cond b [] (refusal_said n said) ≡ []
said_going true p q n said h = refl
said_going false p q n (Ok e) h = refl
said_going false p q n (Err fault) h = no_both h

-- whether it is going behind some lines says it was before
going_before : (own : List OwnWord) (p : Parsed) (xs : List (List ℕ)) (b : Bool) → p.refused ≡ b →
    (parsed_all own p xs).refused ≡ false → b ≡ false
going_before own p xs false h g = refl
going_before own p xs true h g = sym h ∙ ap (λ (q : Parsed). q.refused) (sym (stays_refused own p xs h)) ∙ g

pub going_says : (own : List OwnWord) (p : Parsed) (xs : List (List ℕ)) →
    (parsed_all own p xs).refused ≡ false → refusal_among own p xs ≡ []
going_says own p [] h = refl
going_says own p (x ∷ xs) h =
    let q = parsed_after own p x in
    let going : q.refused ≡ false = going_before own q xs q.refused refl h in
    let first : refusal_after own p x ≡ [] = said_going p.refused p (record p { lines = suc p.lines })
    (suc p.lines) (parsed_line own p.booted x) going in
    ap (λ (b : List ℕ). b ++ refusal_among own q xs) first ∙ going_says own q xs h

-- ---- what is written

-- nothing ends with nothing alone
none_behind : (before last : List ℕ) → [] ≡ before ++ last → last ≡ []
none_behind [] last h = sym h
none_behind (x ∷ before) last h = absurd cc

-- bytes behind others end with what both end with, where the second are nothing or the first end with nothing
pub ends_joined : (b : Bool) (xs first ys second : List ℕ) → EndsWith xs first → EndsWith ys second →
    (b ≡ true → ys ≡ []) → (b ≡ false → first ≡ []) → EndsWith (xs ++ ys) (first ++ second)
ends_joined true xs first ys second p q silent going =
    let none : ys ≡ [] = silent refl in
    let last : second ≡ [] = none_behind q.before second (sym none ∙ q.is) in
    record { before = p.before; is = rw (none, last, append-nil xs, append-nil first) p.is }
ends_joined false xs first ys second p q silent going =
    let nothing : first ≡ [] = going refl in
    record {
      before = xs ++ q.before;
      is = rw nothing (ap (λ (b : List ℕ). xs ++ b) q.is ∙ sym (append_assoc xs q.before second));
    }

-- a script went on by lines, and then by others
pub goes_more : (own : List OwnWord) (p q r : Parsed) (xs ys : List (List ℕ)) (first second : List ℕ) →
    GoesByText own p q xs first → GoesByText own q r ys second → GoesByText own p r (xs ++ ys) (first ++ second)
goes_more own p q r xs ys first second one two =
    let ends : EndsWith second (refusal_among own (parsed_all own p xs) ys) =
    subst (λ (z : Parsed). EndsWith second (refusal_among own z ys)) one.parsed two.ends in
    record {
      parsed = two.parsed ∙ ap (λ (z : Parsed). parsed_all own z ys) one.parsed ∙ sym (parsed-append own p xs ys);
      ends = subst (λ (b : List ℕ). EndsWith (first ++ second) b) (sym (refusal-append own p xs ys))
          (ends_joined q.refused first (refusal_among own p xs) second
          (refusal_among own (parsed_all own p xs) ys) one.ends ends two.silent
          (λ going. going_says own p xs (ap (λ (z : Parsed). z.refused) (sym one.parsed) ∙ going)));
      silent = λ h.
          let stays : q.refused ≡ true = ap (λ (z : Parsed). z.refused) (one.parsed ∙ stays_refused own p xs h) ∙ h in
          rw (one.silent h, two.silent stays) refl;
    }

-- nothing came
pub goes_none : (own : List OwnWord) (p : Parsed) → GoesByText own p p [] []
goes_none own p = record { parsed = refl; ends = record { before = []; is = refl }; silent = λ h. refl }

-- behind a refused line another is nothing
pub goes_refused : (own : List OwnWord) (p : Parsed) (text bytes : List ℕ) → p.refused ≡ true → bytes ≡ [] →
    GoesByText own p p (text ∷ []) bytes
goes_refused own p text bytes h none =
    record {
      parsed = sym (stays_refused own p (text ∷ []) h);
      ends = record {
        before = [];
        is =
            none ∙ sym (append-nil _ ∙ ap
            (λ (b : Bool). cond b [] (refusal_said (suc p.lines) (parsed_line own p.booted text))) h);
      };
      silent = λ again. none;
    }

-- a line that says this
goes_said : (own : List OwnWord) (p q : Parsed) (text bytes : List ℕ) (said : Result Entry ScriptFault) →
    p.refused ≡ false → parsed_line own p.booted text ≡ said →
    q ≡ parsed_said (record p { lines = suc p.lines }) said →
    EndsWith bytes (refusal_said (suc p.lines) said) → GoesByText own p q (text ∷ []) bytes
goes_said own p q text bytes said going is state ends =
    let u = record p { lines = suc p.lines } in
    record {
      parsed =
          state ∙ sym (ap (λ (b : Bool). cond b p (parsed_said u (parsed_line own p.booted text))) going
          ∙ ap (parsed_said u) is);
      ends = subst (λ (b : List ℕ). EndsWith bytes b)
          (sym (append-nil _ ∙ ap (λ (b : Bool). cond b [] (refusal_said (suc p.lines)
          (parsed_line own p.booted text))) going ∙ ap (refusal_said (suc p.lines)) is)) ends;
      silent = λ h. no_both (sym h ∙ going);
    }

-- a line is an entry
pub goes_entry : (own : List OwnWord) (p q : Parsed) (text bytes : List ℕ) (e : Entry) → p.refused ≡ false →
    parsed_line own p.booted text ≡ Ok e →
    q ≡ parsed_entry (record p { lines = suc p.lines }) e → GoesByText own p q (text ∷ []) bytes
goes_entry own p q text bytes e going is state =
    goes_said own p q text bytes (Ok e) going is state (record { before = bytes; is = sym (append-nil bytes) })

-- a line is refused
pub goes_fault : (own : List OwnWord) (p q : Parsed) (text bytes : List ℕ) (fault : ScriptFault) → p.refused ≡ false →
    parsed_line own p.booted text ≡ Err fault →
    q ≡ record p { lines = suc p.lines; refused = true } →
    bytes ≡ refusal_said (suc p.lines) (Err fault) → GoesByText own p q (text ∷ []) bytes
goes_fault own p q text bytes fault going is state written =
    goes_said own p q text bytes (Err fault) going is state (record { before = []; is = written })

-- ---- the end of a run

-- A run that has come so far, with these bytes behind its lines, ends with this status, and writes
-- these bytes last.
pub record EndsAs (p : Parsed) (ending : Ending) (rest : List ℕ) (status : ℕ) (last : List ℕ) : Type 0 where
  pub status_is : status ≡ status_by p ending rest
  pub ends : EndsWith last (refusal_by p ending rest)
  pub silent : p.refused ≡ true → last ≡ []

-- no line was refused
pub going_ends : (p : Parsed) (ending : Ending) (rest : List ℕ) (status : ℕ) (last : List ℕ) →
    p.refused ≡ false → status ≡ going_status ending rest →
    EndsWith last (going_refusal ending p.lines rest) → EndsAs p ending rest status last
going_ends p ending rest status last going is ends =
    record {
      status_is = is ∙ ap (λ (b : Bool). cond b 2 (going_status ending rest)) (sym going);
      ends = subst (λ (b : Bool). EndsWith last (cond b [] (going_refusal ending p.lines rest))) (sym going) ends;
      silent = λ h. no_both (sym h ∙ going);
    }

-- a line was refused
pub refused_ends : (p : Parsed) (ending : Ending) (rest : List ℕ) → p.refused ≡ true → EndsAs p ending rest 2 []
refused_ends p ending rest refused =
    record {
      status_is = ap (λ (b : Bool). cond b 2 (going_status ending rest)) (sym refused);
      ends =
          subst (λ (b : Bool). EndsWith [] (cond b [] (going_refusal ending p.lines rest)))
          (sym refused) (record { before = []; is = refl });
      silent = λ h. refl;
    }

-- what the text says of a run that took these bytes, wrote those, and had this status
pub record TextEnds (own : List OwnWord) (p : Parsed) (taken out : List ℕ) (ending : Ending) (status : ℕ) : Type 0 where
  pub parsed : p ≡ text_parsed own taken
  pub status_is : status ≡ text_status own taken ending
  pub refusal : EndsWith out (text_refusal own taken ending)

-- a run from its first line on, and its end
pub text_ends : (own : List OwnWord) (p q : Parsed) (taken rest out last : List ℕ) (ending : Ending) (status : ℕ) →
    p ≡ first_parsed → rest ≡ rest_after [] (take SCRIPT_BYTES taken) →
    GoesByText own p q (lines_after [] (take SCRIPT_BYTES taken)) out →
    EndsAs q ending rest status last → TextEnds own q taken (out ++ last) ending status
text_ends own p q taken rest out last ending status first behind goes ends =
    let lines = lines_after [] (take SCRIPT_BYTES taken) in
    let tail = rest_after [] (take SCRIPT_BYTES taken) in
    let from = subst (λ (z : Parsed). GoesByText own z q lines out) first goes in
    let so = subst (λ (z : Parsed). EndsAs z ending tail status last) from.parsed
    (subst (λ (x : List ℕ). EndsAs q ending x status last) behind ends) in
    record {
      parsed = from.parsed;
      status_is = so.status_is;
      refusal =
          ends_joined (text_parsed own taken).refused out (refusal_among own first_parsed lines) last
          (refusal_by (text_parsed own taken) ending tail) from.ends so.ends so.silent
          (λ going. going_says own first_parsed lines going);
    }
