-- Lines told one after another, and the lines of a text that is cut behind a newline.
use Rattle.std.proofs.Common.{◌≡◌, ◌≤◌, ◌<◌, ℕ, zero, suc, ◌==◌, true, false, cond, All, List, []}
use Rattle.std.proofs.Common.{◌∷◌, ◌++◌, Option, is_some, Result, Ok, Err, OnOk, length, drop}
use Rattle.std.proofs.Common.{get_or, slice_index, slice_range, flat_map, filter, refl, sym, ap}
use Rattle.std.proofs.Common.{◌∙◌, append_assoc, arith}
use Rattle.std.proofs.Math.Seq.{drop-cons}
use Rattle.std.proofs.lemmas.Bool.Decides.{nat_tests}
use Rattle.std.proofs.lemmas.Grind.{flat_map-append}
use Rattle.std.proofs.lemmas.List.{append-nil, drop_all}
use Rattle.std.proofs.lemmas.List.Elements.{All-append, All-cons, filter-append}
use Rattle.std.proofs.lemmas.List.Folds.{drop_split}
use Rattle.std.proofs.lemmas.List.Splits.{slice_split-cons_yes, slice_split-cons_no}
use Rattle.std.specs.List.{slice_split, onto_first}
use Rattle.lab_lines.specs.declared.pieces.Piece.{Piece}
use Rattle.lab_words.specs.Forms.{form_of, is_told}
use Rattle.lab_lines.specs.Told.{Told, FileLine, RowHead, End, Wrote, Tells, HasWords, shown}
use Rattle.lab_lines.specs.Told.{written_in, is_line, lines_of, lines_in, ends_line}

-- what holds of a success in one form holds in another
pub on_ok : {T E P Q : Type 0} → (r : Result T E) → (P → Q) → OnOk r P → OnOk r Q
on_ok (Ok x) f h = f h
on_ok (Err e) f h = h

no_words : All HasWords []
no_words k part below = absurd (omega (arith, below))

-- nothing more
pub nothing : (old : List ℕ) (lines : List (List ℕ)) → Tells old old lines lines
nothing old lines =
    record { parts = []; worded = no_words; text_is = sym (append-nil old); lines_are = refl }

-- one line more
one : (old new : List ℕ) (part : Told) → new ≡ old ++ shown part → HasWords part →
    Tells old new (written_in part) []
one old new part e words =
    record {
      parts = part ∷ [];
      worded = All-cons HasWords part [] words no_words;
      text_is = e ∙ ap (λ t. old ++ t) (sym (append-nil (shown part)));
      lines_are = sym (append-nil (flat_map written_in (part ∷ [])) ∙ append-nil (written_in part));
    }

-- a line of the kernel more
pub wrote : (old new line : List ℕ) (words : Option (List ℕ)) →
    is_some words ≡ is_told (form_of line) → new ≡ old ++ shown (Wrote line words) →
    Tells old new (line ∷ []) []
wrote old new line words has e = one old new (Wrote line words) e has

-- a line of the file more
pub file_line : (old new : List ℕ) (number : ℕ) (text : List ℕ) →
    new ≡ old ++ shown (FileLine number text) → Tells old new [] []
file_line old new number text e = one old new (FileLine number text) e tt

-- the head of rows more
pub row_head : (old new kind about : List ℕ) → new ≡ old ++ shown (RowHead kind about) →
    Tells old new [] []
row_head old new kind about e = one old new (RowHead kind about) e tt

-- what stands above the last lines
pub ends : (old new : List ℕ) → new ≡ old ++ shown End → Tells old new [] []
ends old new e = one old new End e tt

-- lines that are told beside others that are still to come
pub framed : (old new : List ℕ) (told rest : List (List ℕ)) → Tells old new told [] →
    Tells old new (told ++ rest) rest
framed old new told rest x =
    record {
      parts = x.parts;
      worded = x.worded;
      text_is = x.text_is;
      lines_are = ap (λ t. t ++ rest) (x.lines_are ∙ append-nil (flat_map written_in x.parts));
    }

-- lines, and those behind them
pub joined : (old text new : List ℕ) (lines rest last : List (List ℕ)) →
    Tells old text lines rest → Tells text new rest last → Tells old new lines last
joined old text new lines rest last x y =
    record {
      parts = x.parts ++ y.parts;
      worded = All-append HasWords x.parts y.parts x.worded y.worded;
      text_is =
          y.text_is
          ∙ ap (λ t. t ++ flat_map shown y.parts) x.text_is
          ∙ append_assoc old (flat_map shown x.parts) (flat_map shown y.parts)
          ∙ ap (λ t. old ++ t) (sym (flat_map-append shown x.parts y.parts));
      lines_are =
          x.lines_are
          ∙ ap (λ t. flat_map written_in x.parts ++ t) y.lines_are
          ∙ sym (append_assoc (flat_map written_in x.parts) (flat_map written_in y.parts) last)
          ∙ ap (λ t. t ++ last) (sym (flat_map-append written_in x.parts y.parts));
    }

-- words on a line of their own below others
pub one_head : (old text new kind about : List ℕ) → Tells old text [] [] →
    new ≡ text ++ shown (RowHead kind about) → Tells old new [] []
one_head old text new kind about x e = joined old text new [] [] [] x (row_head text new kind about e)

-- lines more
pub more : (old text new : List ℕ) (lines told rest : List (List ℕ)) →
    Tells old text lines (told ++ rest) → Tells text new told [] → Tells old new lines rest
more old text new lines told rest x y =
    joined old text new lines (told ++ rest) rest x (framed text new told rest y)

-- lines behind one of `lab`
pub behind : (old text new : List ℕ) (lines last : List (List ℕ)) → Tells old text [] [] →
    Tells text new lines last → Tells old new lines last
behind old text new lines last x y =
    joined old text new lines lines last (framed old text [] lines x) y

-- the same lines that are still to come, in other words
pub same_rest : (old new : List ℕ) (lines rest other : List (List ℕ)) → rest ≡ other →
    Tells old new lines rest → Tells old new lines other
same_rest old new lines rest other e x =
    record {
      parts = x.parts;
      worded = x.worded;
      text_is = x.text_is;
      lines_are = x.lines_are ∙ ap (λ t. flat_map written_in x.parts ++ t) e;
    }

-- a part of a text that is a line is told
pub line_told : (old text new line : List ℕ) (parts lines : List (List ℕ)) → is_line line ≡ true →
    Tells old text lines (filter is_line (line ∷ parts)) → Tells text new (line ∷ []) [] →
    Tells old new lines (filter is_line parts)
line_told old text new line parts lines e x y =
    more old text new lines (line ∷ []) (filter is_line parts)
    (same_rest old text lines (filter is_line (line ∷ parts)) (line ∷ filter is_line parts)
    (ap (λ b. cond b (line ∷ filter is_line parts) (filter is_line parts)) e) x)
    y

-- one that is empty isn't
pub line_left : (old text line : List ℕ) (parts lines : List (List ℕ)) → is_line line ≡ false →
    Tells old text lines (filter is_line (line ∷ parts)) → Tells old text lines (filter is_line parts)
line_left old text line parts lines e x =
    same_rest old text lines (filter is_line (line ∷ parts)) (filter is_line parts)
    (ap (λ b. cond b (line ∷ filter is_line parts) (filter is_line parts)) e) x

-- a piece is told
pub piece_told : (pieces : List Piece) (k : ℕ) (d : Piece) (old text new : List ℕ)
    (lines : List (List ℕ)) → k < length pieces →
    Tells old text lines (lines_in (drop k pieces)) →
    Tells text new (lines_of (get_or pieces k d).bytes.now) [] →
    Tells old new lines (lines_in (drop (suc k) pieces))
piece_told pieces k d old text new lines within x y =
    more old text new lines (lines_of (get_or pieces k d).bytes.now)
    (lines_in (drop (suc k) pieces))
    (same_rest old text lines (lines_in (drop k pieces))
    (lines_of (get_or pieces k d).bytes.now ++ lines_in (drop (suc k) pieces))
    (ap lines_in (drop-cons pieces k d within)) x)
    y

-- no piece is left
pub none_left : (pieces : List Piece) (k : ℕ) (old new : List ℕ) (lines : List (List ℕ)) →
    length pieces ≤ k → Tells old new lines (lines_in (drop k pieces)) → Tells old new lines []
none_left pieces k old new lines past x =
    same_rest old new lines (lines_in (drop k pieces)) [] (ap lines_in (drop_all k pieces past)) x

-- ---- a text that is cut behind a newline

-- the parts of a text between newlines
abbrev split : List ℕ → List (List ℕ)
split text = slice_split (λ b. b == 10) text

-- a text that ends with a newline: its parts before that, of which there is one at least, and those
-- of the whole with what follows
record Cut (text rest : List ℕ) : Type 0 where
  pub first : List ℕ
  pub others : List (List ℕ)
  pub alone : split text ≡ first ∷ (others ++ [] ∷ [])
  pub both : split (text ++ rest) ≡ first ∷ (others ++ split rest)

-- the newline alone
newline : (rest : List ℕ) → Cut (10 ∷ []) rest
newline rest =
    record {
      first = [];
      others = [];
      alone = slice_split-cons_yes (λ b. b == 10) 10 [] refl;
      both = slice_split-cons_yes (λ b. b == 10) 10 rest refl;
    }

-- a newline before others
ended : (x : ℕ) (text rest : List ℕ) → (x == 10) ≡ true → Cut text rest → Cut (x ∷ text) rest
ended x text rest e c =
    record {
      first = [];
      others = c.first ∷ c.others;
      alone =
          slice_split-cons_yes (λ b. b == 10) x text e ∙ ap (λ p. [] ∷ p) c.alone;
      both =
          slice_split-cons_yes (λ b. b == 10) x (text ++ rest) e ∙ ap (λ p. [] ∷ p) c.both;
    }

-- another byte before others
longer : (x : ℕ) (text rest : List ℕ) → (x == 10) ≡ false → Cut text rest → Cut (x ∷ text) rest
longer x text rest e c =
    record {
      first = x ∷ c.first;
      others = c.others;
      alone =
          slice_split-cons_no (λ b. b == 10) x text e ∙ ap (λ p. onto_first x p) c.alone;
      both =
          slice_split-cons_no (λ b. b == 10) x (text ++ rest) e
          ∙ ap (λ p. onto_first x p) c.both;
    }

by_first : (x : ℕ) (text rest : List ℕ) → Cut text rest → Cut (x ∷ text) rest
by_first x text rest c =
    elim (x == 10) as (λ b. (x == 10) ≡ b → Cut (x ∷ text) rest) [
      | true ↦ λ h. ended x text rest h c
      | false ↦ λ h. longer x text rest h c
    ] refl

cut : (text rest : List ℕ) (n : ℕ) → length text ≡ suc n → slice_index text n ≡ 10 → Cut text rest
cut [] rest n e last = absurd (omega (arith, e))
cut (x ∷ []) rest zero e last = rw last (newline rest)
cut (x ∷ []) rest (suc n) e last = absurd (omega (arith, e))
cut (x ∷ y ∷ text) rest zero e last = absurd (omega (arith, e))
cut (x ∷ y ∷ text) rest (suc n) e last =
    by_first x (y ∷ text) rest (cut (y ∷ text) rest n (omega (arith, e)) last)

-- the lines of both are those of the one and those of the other
cut_lines : (text rest : List ℕ) → Cut text rest → lines_of (text ++ rest) ≡ lines_of text ++ lines_of rest
cut_lines text rest c =
    ap (λ p. filter is_line p) c.both
    ∙ filter-append is_line (c.first ∷ c.others) (split rest)
    ∙ ap (λ p. p ++ lines_of rest)
    (sym (append-nil (filter is_line (c.first ∷ c.others)))
    ∙ sym (filter-append is_line (c.first ∷ c.others) ([] ∷ []))
    ∙ sym (ap (λ p. filter is_line p) c.alone))

pub lines_behind : (text rest : List ℕ) → ends_line text ≡ true →
    lines_of (text ++ rest) ≡ lines_of text ++ lines_of rest
lines_behind [] rest e = absurd (grind (arith, nat_tests))
lines_behind (x ∷ text) rest e =
    let last : slice_index (x ∷ text) (length text) ≡ 10 = grind (arith, nat_tests) in
    cut_lines (x ∷ text) rest (cut (x ∷ text) rest (length text) refl last)

-- a piece more of a text
pub piece_behind : (text : List ℕ) (from to : ℕ) (old new : List (List ℕ)) → from ≤ to →
    ends_line (slice_range text from to) ≡ true → lines_of text ≡ old ++ lines_of (drop from text) →
    new ≡ old ++ lines_of (slice_range text from to) → lines_of text ≡ new ++ lines_of (drop to text)
piece_behind text from to old new order ends before e =
    before
    ∙ ap (λ t. old ++ lines_of t) (drop_split text from to order)
    ∙ ap (λ t. old ++ t) (lines_behind (slice_range text from to) (drop to text) ends)
    ∙ sym (append_assoc old (lines_of (slice_range text from to)) (lines_of (drop to text)))
    ∙ ap (λ t. t ++ lines_of (drop to text)) (sym e)

-- the last piece of a text
pub at_last : (text rest : List ℕ) (old new : List (List ℕ)) →
    lines_of text ≡ old ++ lines_of rest → new ≡ old ++ lines_of rest → new ≡ lines_of text
at_last text rest old new before e = e ∙ sym before

-- a text of which nothing is left
pub no_more : (text : List ℕ) (from : ℕ) (old : List (List ℕ)) → length text ≤ from →
    lines_of text ≡ old ++ lines_of (drop from text) → old ≡ lines_of text
no_more text from old past before =
    sym (before ∙ ap (λ t. old ++ lines_of t) (drop_all from text past) ∙ append-nil old)

-- a piece more behind others
pub one_more : (pieces : List Piece) (piece : Piece) →
    lines_in (pieces ++ piece ∷ []) ≡ lines_in pieces ++ lines_of piece.bytes.now
one_more pieces piece =
    flat_map-append (λ (p : Piece). lines_of p.bytes.now) pieces (piece ∷ [])
    ∙ ap (λ t. lines_in pieces ++ t) (append-nil (lines_of piece.bytes.now))
