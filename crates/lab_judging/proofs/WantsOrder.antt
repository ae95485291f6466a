-- The wanted lines of a lab file come in the order of the lines of the script to which they belong.
use Rattle.std.proofs.Common.{◌≡◌, ◌≤◌, ◌<◌, ◌⊎◌, inl, inr, ℕ, suc, ◌==◌, Bool, true, false, cond, not, nat_lt}
use Rattle.std.proofs.Common.{List, [], ◌∷◌, ◌++◌, map, length, slice_index, take, codes, Option, None, Some}
use Rattle.std.proofs.Common.{Result, Ok, Err, IfOk, refl, sym, ap, ◌∙◌, append_assoc, subst, arith}
use Rattle.std.proofs.lemmas.Bool.Decides.{nat_tests}
use Rattle.std.proofs.lemmas.List.{append-nil, map-append}
use Rattle.std.specs.List.{list_any}
use Rattle.script_model.specs.World.{same_bytes, Image}
use Rattle.script_model.specs.Assembler.{is_empty, is_passed_over, lines_of}
use Rattle.script_model.specs.Bytes.{number_of}
use Rattle.lab_reader.specs.declared.sheet.Want.{Want}
use Rattle.lab_reader.specs.Faults.{Refusal}
use Rattle.lab_reader.specs.Grafts.{Graft, begun_of, place_of, with_code}
use Rattle.lab_reader.specs.Settings.{Settings, with_key, with_disk, with_fails}
use Rattle.lab_reader.specs.Words.{code_of, left_of, parts_of, wanted_of, with_spaces, is_hex}
use Rattle.lab_reader.specs.Sheet as sheet
use Rattle.lab_reader.specs.Sheet.{Sheet}
use Rattle.lab_reader.specs.Lab as lab
use Rattle.lab_reader.specs.Lab.{Lab, lab_of}
use Rattle.lab_lowering.specs.Lowering.{Lowers}
use Rattle.lab_lines.specs.AsWanted.{AreInOrder, WantsInOrder}

-- the owners of wanted lines
abbrev owners : List Want → List ℕ
owners wants = map (λ (w : Want). w.owner) wants

-- Before line n: the last line that says something stands before it, and what is wanted of later
-- lines can stand behind what is wanted so far.
record Good (n : ℕ) (s : Sheet) : Type 0 where
  pub below : s.last < n
  pub in_order : (m : ℕ) (ns : List ℕ) → 1 ≤ m → s.last ≤ m → AreInOrder m ns →
      AreInOrder 1 (owners s.wants ++ ns)

-- line n wants nothing, and is the last one that says something, or the last one stays
record Steps (n : ℕ) (s t : Sheet) : Type 0 where
  pub wants : t.wants ≡ s.wants
  pub last : (t.last ≡ s.last) ⊎ (t.last ≡ n)

pub raise : (from to : ℕ) (ns : List ℕ) → from ≤ to → AreInOrder to ns → AreInOrder from ns
raise from to [] le h = tt
raise from to (n ∷ ns) le h = (omega arith, h.1)

stepped : (n : ℕ) (s t : Sheet) → Good n s → Steps n s t → Good (suc n) t
stepped n s t g x =
    elim x.last [
      | inl e ↦ record {
        below = omega (arith, g.below, e);
        in_order = λ m ns one past h. rw x.wants (g.in_order m ns one (omega (arith, e, past)) h);
      }
      | inr e ↦ record {
        below = omega (arith, e);
        in_order = λ m ns one past h.
            rw x.wants (g.in_order m ns one (omega (arith, e, past, g.below)) h);
      }
    ]

-- ---- what a line of the script does to the sheet

plain : (n : ℕ) (s : Sheet) (text : List ℕ) → Steps n s (sheet.with_plain n s text)
plain n s text =
    elim (is_empty text) as (λ b. Steps n s (record s {
      items = (sheet.with_plain n s text).items;
      last = cond b s.last n;
    })) [
      | true ↦ record { wants = refl; last = inl refl }
      | false ↦ record { wants = refl; last = inr refl }
    ]

-- one of two answers
either : {A : Type 0} (P : A → Type 0) (b : Bool) (x y : Result A Refusal) → IfOk x P → IfOk y P →
    IfOk (elim b [ true ↦ x | false ↦ y ]) P
either P true x y p q = p
either P false x y p q = q

slotted : (n : ℕ) (s : Sheet) (slot graft : ℕ) (raw : Bool) →
    IfOk (sheet.with_slot n s slot graft raw) (Steps n s)
slotted n s slot graft raw =
    either (Steps n s) (nat_lt 31 slot) _ _ tt
    (either (Steps n s) (list_any (λ k. k == slot) s.slots) _ _ tt
    (record { wants = refl; last = inr refl }))

sealed : (n : ℕ) (s : Sheet) (slot : Option ℕ) (graft : ℕ) (raw : Bool) →
    IfOk (sheet.sealed_by n s slot graft raw) (Steps n s)
sealed n s None graft raw = tt
sealed n s (Some slot) graft raw = slotted n s slot graft raw

boxed : (n : ℕ) (s : Sheet) (text slot name : List ℕ) (place : Option ℕ) →
    IfOk (sheet.image_by n s text slot name place) (Steps n s)
boxed n s text slot name (Some graft) = sealed n s (number_of slot) graft false
boxed n s text slot name None = either (Steps n s) (is_hex name) _ _ (plain n s text) tt

raw : (n : ℕ) (s : Sheet) (slot : List ℕ) (place : Option ℕ) →
    IfOk (sheet.raw_by n s slot place) (Steps n s)
raw n s slot (Some graft) = sealed n s (number_of slot) graft true
raw n s slot None = tt

image : (n : ℕ) (grafts : List Graft) (s : Sheet) (text : List ℕ) (words : List (List ℕ)) →
    IfOk (sheet.with_image n grafts s text words) (Steps n s)
image n grafts s text [] = plain n s text
image n grafts s text (slot ∷ []) = plain n s text
image n grafts s text (slot ∷ name ∷ []) = boxed n s text slot name (place_of name grafts)
image n grafts s text (slot ∷ name ∷ word ∷ []) =
    either (Steps n s) (same_bytes word (codes "raw")) _ _
    (raw n s slot (place_of name grafts)) (plain n s text)
image n grafts s text (slot ∷ name ∷ word ∷ more ∷ words) = plain n s text

-- ---- what a line does to all that was said

-- a line leaves the sheet so
abbrev LabSteps : (n : ℕ) → Lab → Lab → Type 0
LabSteps n l m = Steps n l.sheet m.sheet

same : (n : ℕ) (s : Sheet) (text : List ℕ) → Steps n s (sheet.with_blank s text)
same n s text = record { wants = refl; last = inl refl }

set : (n : ℕ) (l : Lab) (r : Result Settings Refusal) → IfOk (lab.set_by l r) (LabSteps n l)
set n l (Err fault) = tt
set n l (Ok settings) = same n l.sheet []

begins : (n : ℕ) (l : Lab) (r : Result Graft Refusal) → IfOk (lab.begins_by l r) (LabSteps n l)
begins n l (Err fault) = tt
begins n l (Ok graft) = same n l.sheet []

written : (n : ℕ) (l : Lab) (r : Result Sheet Refusal) → IfOk r (Steps n l.sheet) →
    IfOk (lab.written_by l r) (LabSteps n l)
written n l (Err fault) h = tt
written n l (Ok s) h = h

first_word : (n : ℕ) (l : Lab) (text first : List ℕ) (rest : List (List ℕ)) →
    IfOk (lab.by_first n l text first rest) (LabSteps n l)
first_word n l text first rest =
    either (LabSteps n l) (same_bytes first (codes "image")) _ _
    (written n l (sheet.with_image n l.grafts l.sheet text rest) (image n l.grafts l.sheet text rest))
    (either (LabSteps n l) (same_bytes first (codes "graft")) _ _
    (begins n l (begun_of n l.grafts rest))
    (either (LabSteps n l) (same_bytes first (codes "end")) _ _ tt
    (either (LabSteps n l) (same_bytes first (codes "key")) _ _
    (set n l (with_key n (lab.has_images l) l.settings rest))
    (either (LabSteps n l) (same_bytes first (codes "disk")) _ _
    (set n l (with_disk n l.settings rest))
    (either (LabSteps n l) (same_bytes first (codes "fail")) _ _
    (set n l (with_fails n l.settings rest))
    (plain n l.sheet text))))))

words : (n : ℕ) (l : Lab) (text : List ℕ) (parts : List (List ℕ)) →
    IfOk (lab.by_words n l text parts) (LabSteps n l)
words n l text [] = record { wants = refl; last = inl refl }
words n l text (first ∷ rest) = first_word n l text first rest

-- ---- a wanted line

more : (n line : ℕ) (s : Sheet) (text : List ℕ) → 1 ≤ s.last → Good n s →
    Good n (record s { wants = s.wants ++ record { line = line; owner = s.last; text = text } ∷ [] })
more n line s text least g =
    record {
      below = g.below;
      in_order = λ m ns one past h.
          rw (
            map-append (λ (w : Want). w.owner) s.wants
                (record { line = line; owner = s.last; text = text } ∷ []),
            append_assoc (owners s.wants) (s.last ∷ []) ns,
          )
          (g.in_order s.last (s.last ∷ ns) least (omega arith)
          (omega arith, raise s.last m ns past h));
    }

-- one of two answers, by a test
either_by : {A : Type 0} (P : A → Type 0) (b : Bool) (x y : Result A Refusal) →
    (b ≡ true → IfOk x P) → (b ≡ false → IfOk y P) → IfOk (elim b [ true ↦ x | false ↦ y ]) P
either_by P true x y p q = p refl
either_by P false x y p q = q refl

wanted : (n line : ℕ) (left_empty : Bool) (s : Sheet) (want : Option (List ℕ)) → Good n s →
    IfOk (sheet.with_want line left_empty s want) (Good n)
wanted n line left_empty s None g = g
wanted n line left_empty s (Some text) g =
    either (Good n) (is_empty text) _ _ tt
    (either_by (Good n) (sheet.want_fault line left_empty s text) _ _ (λ e. tt)
    (λ e. more n line s text (grind (arith, nat_tests, e)) g))

-- ---- all lines

-- what was said is good before line n
abbrev LabGood : (n : ℕ) → Lab → Type 0
LabGood n l = Good n l.sheet

sheet_good : (n : ℕ) (l : Lab) (r : Result Sheet Refusal) → IfOk r (Good (suc n)) →
    IfOk (lab.written_by l r) (LabGood (suc n))
sheet_good n l (Err fault) h = tt
sheet_good n l (Ok s) h = h

and_wanted : (n : ℕ) (left code : List ℕ) (l : Lab) (r : Result Lab Refusal) → LabGood n l →
    IfOk r (LabSteps n l) → IfOk (lab.and_wanted n left code r) (LabGood (suc n))
and_wanted n left code l (Err fault) g h = tt
and_wanted n left code l (Ok m) g h =
    sheet_good n m (sheet.with_want n (is_empty left) m.sheet (wanted_of code))
    (wanted (suc n) n (is_empty left) m.sheet (wanted_of code) (stepped n l.sheet m.sheet g h))

outside : (n : ℕ) (l : Lab) (line : List ℕ) → LabGood n l →
    IfOk (lab.outside_line n l line) (LabGood (suc n))
outside n l line g =
    either (LabGood (suc n)) (is_passed_over line) _ _
    (stepped n l.sheet _ g (same n l.sheet line))
    (and_wanted n (left_of (code_of line)) (code_of line) l _ g
    (words n l (left_of (code_of line)) (parts_of (left_of (code_of line)))))

inside : (n : ℕ) (l : Lab) (code : List ℕ) → LabGood n l → LabGood (suc n) (lab.inside_code n l code)
inside n l code g =
    elim (same_bytes code (codes "end")) as (λ b. LabGood (suc n) (elim b [
      | true ↦ record l {
        grafts = l.grafts ++ l.draft ∷ [];
        inside = false;
        draft = lab.no_graft;
        sheet = sheet.with_blank l.sheet [];
      }
      | false ↦ record l {
        draft = with_code n l.draft.notation l.draft code;
        sheet = sheet.with_blank l.sheet [];
      }
    ])) [
      | true ↦ stepped n l.sheet (sheet.with_blank l.sheet []) g (same n l.sheet [])
      | false ↦ stepped n l.sheet (sheet.with_blank l.sheet []) g (same n l.sheet [])
    ]

line : (n : ℕ) (l : Lab) (text : List ℕ) → LabGood n l → IfOk (lab.with_line n l text) (LabGood (suc n))
line n l text g =
    either (LabGood (suc n)) l.inside _ _ (inside n l (code_of text) g) (outside n l text g)

-- an answer, and what follows of it
and_then : {A B : Type 0} (P : A → Type 0) (Q : B → Type 0) (r : Result A Refusal)
    (f : A → Result B Refusal) → IfOk r P → ((x : A) → P x → IfOk (f x) Q) →
    IfOk (elim r [ Err fault ↦ Err fault | Ok x ↦ f x ]) Q
and_then P Q (Err fault) f h g = tt
and_then P Q (Ok x) f h g = g x h

lines : (n : ℕ) (l : Lab) (texts : List (List ℕ)) → LabGood n l →
    IfOk (lab.with_lines n l texts) (λ m. WantsInOrder m.sheet.wants)
lines n l [] g =
    rw (sym (append-nil (owners l.sheet.wants)))
    (g.in_order (suc l.sheet.last) [] (omega arith) (omega arith) tt)
lines n l (text ∷ texts) g =
    and_then (LabGood (suc n)) (λ (m : Lab). WantsInOrder m.sheet.wants) (lab.with_line n l text)
    (λ after. lab.with_lines (suc n) after texts) (line n l text g)
    (λ after h. lines (suc n) after texts h)

ended : (r : Result Lab Refusal) → IfOk r (λ m. WantsInOrder m.sheet.wants) →
    IfOk (lab.ended r) (λ m. WantsInOrder m.sheet.wants)
ended (Err fault) h = tt
ended (Ok l) h = either (λ (m : Lab). WantsInOrder m.sheet.wants) l.inside _ _ tt h

-- what a lab file wants comes in order
wants_in_order : (text : List ℕ) (l : Lab) → lab_of text ≡ Ok l → WantsInOrder l.sheet.wants
wants_in_order text l e =
    subst (λ r. IfOk r (λ m. WantsInOrder m.sheet.wants)) e
    (ended _ (lines 1 lab.first_lab (lines_of (lab.without_newline (with_spaces text)))
    (record { below = omega arith; in_order = λ m ns one past h. raise 1 m ns one h })))

-- so does what a text wants that is lowered
pub lowered_in_order : (text : List ℕ) (l : Lab) (images : List Image) (script : List ℕ) →
    Lowers text l images script → WantsInOrder l.sheet.wants
lowered_in_order text l images script h = wants_in_order text l h.text_is.said
