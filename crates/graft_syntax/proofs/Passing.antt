-- The words of a text from a place on: behind a newline, behind a space, behind a word.
use Rattle.std.proofs.Common.{◌≡◌, ℕ, suc, ◌+◌, ◌==◌, ◌<◌, ◌≤◌, ◌||◌, Bool, true, false, not, cond}
use Rattle.std.proofs.Common.{ltb, List, [], ◌∷◌, ◌++◌, length, take, drop, get_or, Result, Ok}
use Rattle.std.proofs.Common.{Err, Some, None}
use Rattle.std.proofs.Common.{refl, ap, sym, ◌∙◌, arith, add-one, drop-cons, drop-drop}
use Rattle.std.specs.Prelude.{position}
use Rattle.std.specs.List.{onto_first, position_or_len}
use Rattle.std.proofs.lemmas.Bool.{ltb-false}
use Rattle.std.proofs.lemmas.List.{take_all, drop_all}
use Rattle.std.proofs.lemmas.List.Splits.{slice_split-cons_yes, slice_split-cons_no}
use Rattle.std.proofs.lemmas.List.Sums.{take_while-cons}
use Rattle.graft_texts.specs.declared.language.LangKind.{LangKind}
use Rattle.graft_texts.specs.Assembler.{lines_of, words_of}
use Rattle.graft_texts.specs.LanguageWords.{Word, line_words, words_from, before_words}
use Rattle.graft_texts.specs.LanguageReading.{Reading, LineFault, read_word, read_words}
use Rattle.graft_syntax.specs.declared.grammar.Refusal.{Refusal}
use Rattle.graft_syntax.specs.declared.grammar.Refusal.TheVariants.{Of, NoMemory}
use Rattle.graft_syntax.specs.Faults.{Stops, Refuses, fault_in}
use Rattle.graft_syntax.specs.Places.{is_separator, first_word, word_at, words_behind}

-- ---- the first word of lines, and the words behind it

abbrev head_of : List (List ℕ) → List ℕ
head_of [] = []
head_of (word ∷ words) = word

abbrev tail_of : List (List ℕ) → List (List ℕ)
tail_of [] = []
tail_of (word ∷ words) = words

abbrev first_of : List (List ℕ) → List ℕ
first_of [] = []
first_of (l ∷ ls) = head_of (words_of l)

abbrev others_of : ℕ → List (List ℕ) → List Word
others_of line [] = []
others_of line (l ∷ ls) = line_words line (tail_of (words_of l)) ++ words_from (suc line) ls

-- lines have the words that are their first one and the others
whole : (line : ℕ) (ls : List (List ℕ)) → words_from line ls ≡ before_words line (first_of ls) (others_of line ls)
whole line [] = refl
whole line (l ∷ ls) = by (words_of l)
  where
    by : (ws : List (List ℕ)) → line_words line ws ++ words_from (suc line) ls
        ≡ before_words line (head_of ws) (line_words line (tail_of ws) ++ words_from (suc line) ls)
    by [] = refl
    by ([] ∷ ws) = refl
    by ((b ∷ w) ∷ ws) = refl

-- a space in front
space_first : (line b : ℕ) → (b == 32) ≡ true → (ls : List (List ℕ)) → first_of (onto_first b ls) ≡ []
space_first line b h [] = ap head_of (slice_split-cons_yes (λ c. c == 32) b [] h)
space_first line b h (l ∷ ls) = ap head_of (slice_split-cons_yes (λ c. c == 32) b l h)

space_others : (line b : ℕ) → (b == 32) ≡ true → (ls : List (List ℕ)) →
    others_of line (onto_first b ls) ≡ words_from line (onto_first b ls)
space_others line b h [] =
    let e = slice_split-cons_yes (λ c. c == 32) b [] h in
    ap (λ ws. line_words line (tail_of ws) ++ []) e ∙ sym (ap (λ ws. line_words line ws ++ []) e)
space_others line b h (l ∷ ls) =
    let e = slice_split-cons_yes (λ c. c == 32) b l h in
    ap (λ ws. line_words line (tail_of ws) ++ words_from (suc line) ls) e
    ∙ sym (ap (λ ws. line_words line ws ++ words_from (suc line) ls) e)

-- a byte of a word in front
head-onto : (b : ℕ) (ws : List (List ℕ)) → head_of (onto_first b ws) ≡ b ∷ head_of ws
head-onto b [] = refl
head-onto b (w ∷ ws) = refl

tail-onto : (b : ℕ) (ws : List (List ℕ)) → tail_of (onto_first b ws) ≡ tail_of ws
tail-onto b [] = refl
tail-onto b (w ∷ ws) = refl

byte_first : (line b : ℕ) → (b == 32) ≡ false → (ls : List (List ℕ)) → first_of (onto_first b ls) ≡ b ∷ first_of ls
byte_first line b h [] = ap head_of (slice_split-cons_no (λ c. c == 32) b [] h)
byte_first line b h (l ∷ ls) = ap head_of (slice_split-cons_no (λ c. c == 32) b l h) ∙ head-onto b (words_of l)

byte_others : (line b : ℕ) → (b == 32) ≡ false → (ls : List (List ℕ)) →
    others_of line (onto_first b ls) ≡ others_of line ls
byte_others line b h [] = ap (λ ws. line_words line (tail_of ws) ++ []) (slice_split-cons_no (λ c. c == 32) b [] h)
byte_others line b h (l ∷ ls) =
    ap (λ ws. line_words line (tail_of ws) ++ words_from (suc line) ls) (slice_split-cons_no (λ c. c == 32) b l h)
    ∙ ap (λ ws. line_words line ws ++ words_from (suc line) ls) (tail-onto b (words_of l))

-- ---- the first word of a text

first_word-cons : (b : ℕ) (t : List ℕ) → first_word (b ∷ t) ≡ cond (not (is_separator b)) (b ∷ first_word t) []
first_word-cons b t = take_while-cons (λ c. not (is_separator c)) b t

-- a separator in front
no_word : (b : ℕ) (t : List ℕ) → is_separator b ≡ true → first_word (b ∷ t) ≡ []
no_word b t h = first_word-cons b t ∙ ap (λ s. cond (not s) (b ∷ first_word t) []) h

-- none in front
longer_word : (b : ℕ) (t : List ℕ) → is_separator b ≡ false → first_word (b ∷ t) ≡ b ∷ first_word t
longer_word b t h = first_word-cons b t ∙ ap (λ s. cond (not s) (b ∷ first_word t) []) h

either : (p q : Bool) → p ≡ true → (p || q) ≡ true
either true q h = refl
either false q h = cc

or_else : (p q : Bool) → p ≡ false → q ≡ true → (p || q) ≡ true
or_else true q h g = refl
or_else false q h g = g

neither : (p q : Bool) → p ≡ false → q ≡ false → (p || q) ≡ false
neither true q h g = cc
neither false q h g = g

first_is : (line : ℕ) (t : List ℕ) → first_of (lines_of t) ≡ first_word t
first_is line [] = refl
first_is line (b ∷ t) = by (b == 10) (b == 32) (first_is line t) refl refl
  where
    by : (p q : Bool) → first_of (lines_of t) ≡ first_word t → (b == 10) ≡ p → (b == 32) ≡ q →
        first_of (lines_of (b ∷ t)) ≡ first_word (b ∷ t)
    by true q later hp hq =
        ap first_of (slice_split-cons_yes (λ c. c == 10) b t hp)
        ∙ sym (no_word b t (either (b == 10) (b == 32) hp))
    by false true later hp hq =
        ap first_of (slice_split-cons_no (λ c. c == 10) b t hp) ∙ space_first line b hq (lines_of t)
        ∙ sym (no_word b t (or_else (b == 10) (b == 32) hp hq))
    by false false later hp hq =
        ap first_of (slice_split-cons_no (λ c. c == 10) b t hp) ∙ byte_first line b hq (lines_of t)
        ∙ ap (λ w. b ∷ w) later ∙ sym (longer_word b t (neither (b == 10) (b == 32) hp hq))

-- what is behind a first word
abbrev behind : List ℕ → List ℕ → List ℕ
behind word t = drop (length word) t

others_are : (line : ℕ) (t : List ℕ) →
    others_of line (lines_of t) ≡ words_from line (lines_of (behind (first_word t) t))
others_are line [] = refl
others_are line (b ∷ t) = by (b == 10) (b == 32) (others_are line t) refl refl
  where
    by : (p q : Bool) →
        others_of line (lines_of t) ≡ words_from line (lines_of (behind (first_word t) t)) →
        (b == 10) ≡ p → (b == 32) ≡ q
        → others_of line (lines_of (b ∷ t)) ≡ words_from line (lines_of (behind (first_word (b ∷ t)) (b ∷ t)))
    by true q later hp hq =
        let e = slice_split-cons_yes (λ c. c == 10) b t hp in
        ap (others_of line) e ∙ sym (ap (words_from line) e)
        ∙ sym (ap (λ w. words_from line (lines_of (behind w (b ∷ t)))) (no_word b t (either (b == 10) (b == 32) hp)))
    by false true later hp hq =
        let e = slice_split-cons_no (λ c. c == 10) b t hp in
        ap (others_of line) e ∙ space_others line b hq (lines_of t) ∙ sym (ap (words_from line) e)
        ∙ sym (ap (λ w. words_from line (lines_of (behind w (b ∷ t))))
        (no_word b t (or_else (b == 10) (b == 32) hp hq)))
    by false false later hp hq =
        let e = slice_split-cons_no (λ c. c == 10) b t hp in
        ap (others_of line) e ∙ byte_others line b hq (lines_of t) ∙ later
        ∙ sym (ap (λ w. words_from line (lines_of (behind w (b ∷ t))))
        (longer_word b t (neither (b == 10) (b == 32) hp hq)))

-- a text has the words that are its first one and those behind it
first_and_others : (line : ℕ) (t : List ℕ) → words_from line (lines_of t)
    ≡ before_words line (first_word t) (words_from line (lines_of (behind (first_word t) t)))
first_and_others line t =
    whole line (lines_of t) ∙ ap (λ w. before_words line w (others_of line (lines_of t))) (first_is line t)
    ∙ ap (before_words line (first_word t)) (others_are line t)

-- ---- at a place of a text

-- a byte at a place, and what is behind it
byte_at : (text : List ℕ) (at : ℕ) → at < length text → drop at text ≡ get_or text at 0 ∷ drop (at + 1) text
byte_at text at h = drop-cons text at 0 h ∙ ap (λ n. get_or text at 0 ∷ drop n text) (sym (add-one at))

pub newline_passed : (text : List ℕ) (at line : ℕ) → at < length text → get_or text at 0 ≡ 10 →
    words_behind text at line ≡ words_behind text (at + 1) (line + 1)
newline_passed text at line h is =
    ap (λ t. words_from line (lines_of t)) (byte_at text at h ∙ ap (λ b. b ∷ drop (at + 1) text) is)
    ∙ ap (λ n. words_from n (lines_of (drop (at + 1) text))) (sym (add-one line))

pub space_passed : (text : List ℕ) (at line : ℕ) → at < length text → get_or text at 0 ≡ 32 →
    words_behind text at line ≡ words_behind text (at + 1) line
space_passed text at line h is =
    ap (λ t. words_from line (lines_of t)) (byte_at text at h ∙ ap (λ b. b ∷ drop (at + 1) text) is)
    ∙ by (lines_of (drop (at + 1) text))
  where
    by : (ls : List (List ℕ)) → words_from line (onto_first 32 ls) ≡ words_from line ls
    by [] = refl
    by (l ∷ ls) = refl

-- the word at a place that has no separator
word_is : (text : List ℕ) (at : ℕ) → at < length text → is_separator (get_or text at 0) ≡ false
    → word_at text at ≡ get_or text at 0 ∷ first_word (drop (at + 1) text)
word_is text at h is = ap first_word (byte_at text at h) ∙ longer_word (get_or text at 0) (drop (at + 1) text) is

pub word_is_there : (text : List ℕ) (at : ℕ) → at < length text →
    is_separator (get_or text at 0) ≡ false → 0 < length (word_at text at)
word_is_there text at h is = rw (word_is text at h is) (omega arith)

-- such a word, and the words behind it
word_first : (text : List ℕ) (at line : ℕ) → at < length text → is_separator (get_or text at 0) ≡ false
    → words_behind text at line ≡ record {
      line = line;
      bytes = word_at text at;
    } ∷ words_behind text (at + length (word_at text at)) line
word_first text at line h is =
    first_and_others line (drop at text)
    ∙ ap (λ t. before_words line (word_at text at) (words_from line (lines_of t)))
    (drop-drop (length (word_at text at)) at text)
    ∙ by (word_at text at) (words_behind text (at + length (word_at text at)) line)
    (get_or text at 0) (first_word (drop (at + 1) text)) (word_is text at h is)
  where
    by : (w : List ℕ) (ws : List Word) (b : ℕ) (bs : List ℕ) → w ≡ b ∷ bs →
        before_words line w ws ≡ record { line = line; bytes = w } ∷ ws
    by [] ws b bs e = cc
    by (c ∷ cs) ws b bs e = refl

pub word_read : (text : List ℕ) (at line : ℕ) (r s : Reading) → at < length text →
    is_separator (get_or text at 0) ≡ false
    → read_word r (word_at text at) ≡ Ok s
    → read_words r (words_behind text at line) ≡ read_words s (words_behind text (at + length (word_at text at)) line)
word_read text at line r s h is said =
    ap (read_words r) (word_first text at line h is)
    ∙ ap (λ x. elim x as (λ _. Result Reading LineFault) [
      | Err kind ↦ Err (record { line = line; kind = kind })
      | Ok q ↦ read_words q (words_behind text (at + length (word_at text at)) line)
    ]) said

pub word_refused : (text : List ℕ) (at line : ℕ) (r : Reading) (kind : LangKind) →
    at < length text → is_separator (get_or text at 0) ≡ false
    → read_word r (word_at text at) ≡ Err kind
    → read_words r (words_behind text at line) ≡ Err (record { line = line; kind = kind })
word_refused text at line r kind h is said =
    ap (read_words r) (word_first text at line h is)
    ∙ ap (λ x. elim x as (λ _. Result Reading LineFault) [
      | Err k ↦ Err (record { line = line; kind = k })
      | Ok q ↦ read_words q (words_behind text (at + length (word_at text at)) line)
    ]) said

pub word_stopped : (text : List ℕ) (at line : ℕ) (r : Reading) (refusal : Refusal) →
    at < length text → is_separator (get_or text at 0) ≡ false
    → Stops refusal (read_word r (word_at text at)) →
    Refuses (fault_in line refusal) (read_words r (words_behind text at line))
word_stopped text at line r (Of kind) h is said = word_refused text at line r kind h is said
word_stopped text at line r NoMemory h is said = said

-- ---- where the first word ends

told : (n at : ℕ) (b : Bool) → cond b (Some n) None ≡ Some at → n ≡ at
told n at true h = cc
told n at false h = cc

not_told : (n : ℕ) (b : Bool) → cond b (Some n) None ≡ None → b ≡ false
not_told n true h = cc
not_told n false h = refl

pub first_word-some : (text : List ℕ) (at : ℕ) → position is_separator text ≡ Some at → take at text ≡ first_word text
first_word-some text at h =
    ap (λ n. take n text) (sym (told (position_or_len is_separator text) at
    (ltb (position_or_len is_separator text) (length text)) h))

pub first_word-none : (text : List ℕ) → position is_separator text ≡ None → text ≡ first_word text
first_word-none text h =
    sym (take_all (position_or_len is_separator text) text
    (ltb-false (position_or_len is_separator text) (length text) (not_told (position_or_len
    is_separator text) (ltb (position_or_len is_separator text) (length text)) h)))

-- ---- the end of a text

pub all_read : (text : List ℕ) (at line : ℕ) (all : Result Reading LineFault) (r : Reading) →
    all ≡ read_words r (words_behind text at line)
    → length text ≤ at → all ≡ Ok r
all_read text at line all r said h =
    said ∙ ap (λ t. read_words r (words_from line (lines_of t))) (drop_all at text h)
