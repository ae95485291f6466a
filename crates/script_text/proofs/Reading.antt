-- Lemmas on words.
use Rattle.std.proofs.Common.{◌≡◌, ℕ, suc, ◌+◌, ◌<◌, ◌≤◌, Bool, true, false, cond, Some, None, Ok}
use Rattle.std.proofs.Common.{Err, List, [], ◌∷◌, ◌++◌, length, take, drop, get_or, ◌==◌, refl}
use Rattle.std.proofs.Common.{arith, sym, ◌∙◌, ap, append-nil, append_assoc, not}
use Rattle.std.proofs.lemmas.Bool.Decides.{nat_tests}
use Rattle.script_model.specs.declared.Form.{Form}
use Rattle.script_model.specs.Script.{BadWord, words_after, words_of, last_word, is_bad_word}
use Rattle.script_model.specs.Script.{is_well_formed, number_said, numbers_after, said_by}
use Rattle.script_model.specs.Script.{words_said}
use Rattle.script_text.specs.Words.{word_length, words_left, failed}

-- one byte more before a first word
first_byte : (t : Bool) (acc : List ℕ) (b : ℕ) (bs : List ℕ) → words_after (acc ++ b ∷ []) bs
    ≡ ((acc ++ b ∷ []) ++ take (word_length bs) bs) ∷ words_left (drop (word_length bs) bs)
    → elim t [ true ↦ acc ∷ words_after [] bs | false ↦ words_after (acc ++ b ∷ []) bs ]
    ≡ (acc ++ take (cond (not t) (1 + word_length bs) 0) (b ∷ bs))
    ∷ words_left (drop (cond (not t) (1 + word_length bs) 0) (b ∷ bs))
first_byte true acc b bs h = ap (λ w. w ∷ words_of bs) (sym (append-nil acc))
first_byte false acc b bs h =
    let e : 1 + word_length bs ≡ suc (word_length bs) = omega arith in
    rw e (h ∙ ap (λ w. w ∷ words_left (drop (word_length bs) bs))
    (append_assoc acc (b ∷ []) (take (word_length bs) bs)))

-- a text begins with its first word, and after it come the words that are left
words_after-first : (acc text : List ℕ) → words_after acc text
    ≡ (acc ++ take (word_length text) text) ∷ words_left (drop (word_length text) text)
words_after-first acc [] = ap (λ w. w ∷ []) (sym (append-nil acc))
words_after-first acc (b ∷ bs) = first_byte (b == 32) acc b bs (words_after-first (acc ++ b ∷ []) bs)

-- the first word of a text, and those after it
pub words_of-first : (text : List ℕ) →
    words_of text ≡ take (word_length text) text ∷ words_left (drop (word_length text) text)
words_of-first text = words_after-first [] text

-- the words that are left, the first of them apart
words_left-first : (rest : List ℕ) → 0 < length rest
    → words_left rest ≡ take (word_length (drop 1 rest)) (drop 1 rest)
    ∷ words_left (drop (word_length (drop 1 rest)) (drop 1 rest))
words_left-first [] some = absurd (omega arith)
words_left-first (space ∷ text) some = words_of-first text

-- no form is left
pub well_formed-end : (forms : List Form) (rest : List ℕ) → length forms < 1 →
    is_well_formed forms (words_left rest) ≡ (length rest == 0)
well_formed-end [] [] none = refl
well_formed-end [] (space ∷ text) none = rw (words_of-first text) (grind (arith, nat_tests))
well_formed-end (f ∷ fs) rest none = absurd (omega arith)

-- no word is left
pub well_formed-short : (forms : List Form) (rest : List ℕ) → 1 ≤ length forms → length rest ≡ 0 →
    is_well_formed forms (words_left rest) ≡ false
well_formed-short [] rest some none = absurd (omega arith)
well_formed-short (f ∷ fs) [] some none = refl
well_formed-short (f ∷ fs) (space ∷ text) some none = absurd (omega arith)

-- one form and one word
pub well_formed-step : (forms : List Form) (rest : List ℕ) (e : ℕ) (f : Form) → 1 ≤ length forms →
    0 < length rest → e ≡ word_length (drop 1 rest)
    → is_well_formed forms (words_left rest)
    ≡ cond (is_bad_word (get_or forms 0 f) (take e (drop 1 rest))) false
    (is_well_formed (drop 1 forms) (words_left (drop e (drop 1 rest))))
well_formed-step [] rest e d some more is = absurd (omega arith)
well_formed-step (f ∷ fs) rest e d some more is =
    rw (words_left-first rest more, is) (grind arith)

-- no form is left
pub said-end : (ns last rest : List ℕ) →
    words_said ns last [] (words_left rest) ≡ cond (length rest == 0) (Ok (ns, last)) (Err BadWord)
said-end ns last [] = refl
said-end ns last (space ∷ text) = rw (words_of-first text) (grind (arith, nat_tests))

-- words of another form are bad words
pub said-bad : (ns last : List ℕ) (forms : List Form) (words : List (List ℕ)) →
    is_well_formed forms words ≡ false → words_said ns last forms words ≡ Err BadWord
said-bad ns last forms words bad =
    ap (λ (b : Bool). elim b [
      | false ↦ Err BadWord
      | true ↦ said_by (last_word last words) (numbers_after ns forms words)
    ]) bad

-- a word says no number
pub said-none : (ns last : List ℕ) (forms : List Form) (rest : List ℕ) (e : ℕ) (f : Form) →
    1 ≤ length forms → 0 < length rest → e ≡ word_length (drop 1 rest)
    → is_bad_word (get_or forms 0 f) (take e (drop 1 rest)) ≡ false →
    number_said (get_or forms 0 f) (take e (drop 1 rest)) ≡ None
    → words_said ns last forms (words_left rest)
    ≡ failed (is_well_formed (drop 1 forms) (words_left (drop e (drop 1 rest))))
said-none ns last [] rest e d some more is good says = absurd (omega arith)
said-none ns last (f ∷ fs) rest e d some more is good says = rw (words_left-first rest more, ← is) (grind arith)

-- a word says a number
pub said-some : (ns last : List ℕ) (forms : List Form) (rest : List ℕ) (e n : ℕ) (f : Form) →
    1 ≤ length forms → 0 < length rest → e ≡ word_length (drop 1 rest)
    → is_bad_word (get_or forms 0 f) (take e (drop 1 rest)) ≡ false →
    number_said (get_or forms 0 f) (take e (drop 1 rest)) ≡ Some n
    → words_said ns last forms (words_left rest) ≡ words_said (ns ++ n ∷ []) (take e (drop 1 rest))
    (drop 1 forms) (words_left (drop e (drop 1 rest)))
said-some ns last [] rest e n d some more is good says = absurd (omega arith)
said-some ns last (f ∷ fs) rest e n d some more is good says = rw (words_left-first rest more, ← is) (grind arith)
