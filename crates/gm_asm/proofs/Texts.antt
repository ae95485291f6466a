-- The words that the disassembler writes, read back.
use Rattle.std.proofs.Common.{◌≡◌, ℕ, zero, suc, ◌^◌, ◌<◌, ◌≤◌, Bool, true, false, not, cond, ◌&&◌}
use Rattle.std.proofs.Common.{eqb, ltb, leb, List, [], ◌∷◌, ◌++◌, length, decimal, None, Some}
use Rattle.std.proofs.Common.{Result, Ok, refl, sym, ap, ◌∙◌, arith}
use Rattle.std.specs.Fmt.{digits}
use Rattle.std.specs.List.{list_all, list_any, slice_split, onto_first}
use Rattle.std.proofs.lemmas.Bool.{eqb-true, ltb-true}
use Rattle.std.proofs.lemmas.Bool.Decides.{nat_tests}
use Rattle.std.proofs.lemmas.Fmt.{digits_decimal, digits_value-decimal, decimal_nonempty, length-decimal-le}
use Rattle.std.proofs.lemmas.List.{append-nil}
use Rattle.graft_texts.specs.declared.AsmKind.{AsmKind}
use Rattle.graft_texts.specs.declared.Instr.{Instr}
use Rattle.graft_texts.specs.declared.Op.{Op}
use Rattle.graft_texts.specs.declared.Op.TheVariants.{Li, Mov, Add, Sub, Mul, And, Or, Xor, Shl}
use Rattle.graft_texts.specs.declared.Op.TheVariants.{Shr, Divu, Remu, Sltu, Addi, Andi, Ldw, Stw}
use Rattle.graft_texts.specs.declared.Op.TheVariants.{Ldb, Stb, Jmp, Jz, Jnz, Call, Callr, Trap}
use Rattle.graft_texts.specs.declared.Op.TheVariants.{Ret}
use Rattle.graft_texts.specs.Bytes.{is_digit, digits_value, number_of}
use Rattle.graft_texts.specs.Instructions.{row_of, fits, is_register_field, is_imm_field}
use Rattle.graft_texts.specs.Callables.{callable_id}
use Rattle.graft_texts.specs.Assembler.{words_of, is_empty, is_passed_over, register_of, imm_of}
use Rattle.graft_texts.specs.Assembler.{register_field, imm_field, Statement, Instruction}
use Rattle.graft_texts.specs.Assembler.{or_bad_operands, with_c, operands_of, by_words}
use Rattle.graft_texts.specs.Assembler.{statement_of, register_word, imm_word, operand_text}
use Rattle.graft_texts.specs.Assembler.{instr_line}
use Rattle.gm_image.proofs.RoundTrips.{first_true}
use Rattle.gm_image.proofs.RoundTrips.{second_true}
use Rattle.text_words.proofs.Digits.{own}
use Rattle.gm_image.proofs.RoundTrips.{both_true}

-- ---- tests of lists

-- a test turned round
pub not_true : (a : Bool) → not a ≡ true → a ≡ false
not_true true h = cc
not_true false h = refl

-- what passes a test passes a weaker one
pub list_all-weaker : {A : Type 0} (p q : A → Bool) (xs : List A) →
    ((x : A) → p x ≡ true → q x ≡ true) → list_all p xs ≡ true → list_all q xs ≡ true
list_all-weaker p q [] f h = refl
list_all-weaker p q (x ∷ xs) f h =
    both_true (q x) (list_all q xs) (f x (first_true (p x) (list_all p xs) h))
    (list_all-weaker p q xs f (second_true (p x) (list_all p xs) h))

-- a list of two lists
pub list_all-joined : {A : Type 0} (p : A → Bool) (xs ys : List A) → list_all p xs ≡ true →
    list_all p ys ≡ true → list_all p (xs ++ ys) ≡ true
list_all-joined p [] ys h g = g
list_all-joined p (x ∷ xs) ys h g =
    both_true (p x) (list_all p (xs ++ ys)) (first_true (p x) (list_all p xs) h)
    (list_all-joined p xs ys (second_true (p x) (list_all p xs) h) g)

-- ---- splits

-- a part without a separator, and a separator behind it
pub split_behind : (p : ℕ → Bool) (xs : List ℕ) (y : ℕ) (ys : List ℕ) → list_all (λ x. not (p x)) xs ≡ true → p y ≡ true
    → slice_split p (xs ++ y ∷ ys) ≡ xs ∷ slice_split p ys
split_behind p [] y ys h g = rw g refl
split_behind p (x ∷ xs) y ys h g =
    rw (not_true (p x) (first_true (not (p x)) (list_all (λ z. not (p z)) xs) h))
    (ap (onto_first x) (split_behind p xs y ys (second_true (not (p x)) (list_all (λ z. not (p z)) xs) h) g))

-- a part without a separator
pub split_whole : (p : ℕ → Bool) (xs : List ℕ) → list_all (λ x. not (p x)) xs ≡ true → slice_split p xs ≡ xs ∷ []
split_whole p [] h = refl
split_whole p (x ∷ xs) h =
    rw (not_true (p x) (first_true (not (p x)) (list_all (λ z. not (p z)) xs) h))
    (ap (onto_first x) (split_whole p xs (second_true (not (p x)) (list_all (λ z. not (p z)) xs) h)))

-- ---- words

-- a byte that is neither a space nor a newline
abbrev pub is_plain : ℕ → Bool
is_plain b = not (eqb b 32) && not (eqb b 10)

-- a word: plain bytes, and some
abbrev pub is_word : List ℕ → Bool
is_word w = not (is_empty w) && list_all is_plain w

-- no space
pub no_space : (xs : List ℕ) → list_all is_plain xs ≡ true → list_all (λ x. not (eqb x 32)) xs ≡ true
no_space xs h =
    list_all-weaker is_plain (λ x. not (eqb x 32)) xs
    (λ x g. first_true (not (eqb x 32)) (not (eqb x 10)) g) h

-- no newline
pub no_newline : (xs : List ℕ) → list_all is_plain xs ≡ true → list_all (λ x. not (eqb x 10)) xs ≡ true
no_newline xs h =
    list_all-weaker is_plain (λ x. not (eqb x 10)) xs
    (λ x g. second_true (not (eqb x 32)) (not (eqb x 10)) g) h

-- the plain bytes of a word
pub plain_word : (w : List ℕ) → is_word w ≡ true → list_all is_plain w ≡ true
plain_word w h = second_true (not (is_empty w)) (list_all is_plain w) h

-- words behind a first one, each after a space
abbrev pub tail_text : List (List ℕ) → List ℕ
tail_text [] = []
tail_text (w ∷ ws) = 32 ∷ (w ++ tail_text ws)

-- the words of a line of words
pub words-tail : (w : List ℕ) (ws : List (List ℕ)) → is_word w ≡ true → list_all is_word ws ≡ true →
    words_of (w ++ tail_text ws) ≡ w ∷ ws
words-tail w [] h g = rw append-nil (split_whole (λ b. eqb b 32) w (no_space w (plain_word w h)))
words-tail w (v ∷ vs) h g =
    split_behind (λ b. eqb b 32) w 32 (v ++ tail_text vs) (no_space w (plain_word w h)) refl
    ∙ ap (λ (ws : List (List ℕ)). w ∷ ws) (words-tail v vs (first_true (is_word v)
    (list_all is_word vs) g) (second_true (is_word v) (list_all is_word vs) g))

-- no word of these is empty
pub none_empty : (ws : List (List ℕ)) → list_all is_word ws ≡ true → list_any is_empty ws ≡ false
none_empty [] h = refl
none_empty (w ∷ ws) h =
    rw (not_true (is_empty w) (first_true (not (is_empty w)) (list_all is_plain w)
    (first_true (is_word w) (list_all is_word ws) h)))
    (none_empty ws (second_true (is_word w) (list_all is_word ws) h))

-- a line of words has no newline
pub tail-no_newline : (ws : List (List ℕ)) → list_all is_word ws ≡ true →
    list_all (λ x. not (eqb x 10)) (tail_text ws) ≡ true
tail-no_newline [] h = refl
tail-no_newline (w ∷ ws) h =
    list_all-joined (λ x. not (eqb x 10)) w (tail_text ws)
    (no_newline w (plain_word w (first_true (is_word w) (list_all is_word ws) h)))
    (tail-no_newline ws (second_true (is_word w) (list_all is_word ws) h))

-- ---- numbers

-- a digit is a plain byte
plain_digit : (x : ℕ) → is_digit x ≡ true → is_plain x ≡ true
plain_digit x h = grind (arith, nat_tests)

-- the digits of a number
pub decimal_digits : (n : ℕ) → n < 2 ^ 32 → list_all is_digit (decimal n) ≡ true
decimal_digits n h = digits_decimal own n (omega (arith, h))

-- a number is plain
pub plain_decimal : (n : ℕ) → n < 2 ^ 32 → list_all is_plain (decimal n) ≡ true
plain_decimal n h = list_all-weaker is_digit is_plain (decimal n) plain_digit (decimal_digits n h)

-- bytes that are there
not_empty : (xs : List ℕ) → 0 < length xs → not (is_empty xs) ≡ true
not_empty xs h = grind (arith, nat_tests)

-- a number is a word
pub word_decimal : (n : ℕ) → n < 2 ^ 32 → is_word (decimal n) ≡ true
word_decimal n h =
    both_true (not (is_empty (decimal n))) (list_all is_plain (decimal n))
    (not_empty (decimal n) (decimal_nonempty n (omega (arith, h)))) (plain_decimal n h)

-- a byte and plain bytes are a word
word_after : (x : ℕ) (xs : List ℕ) → is_plain x ≡ true → list_all is_plain xs ≡ true → is_word (x ∷ xs) ≡ true
word_after x xs h g =
    both_true (not (is_empty (x ∷ xs))) (list_all is_plain (x ∷ xs))
    (not_empty (x ∷ xs) (omega arith)) (both_true (is_plain x) (list_all is_plain xs) h g)

-- the tests of a number
number_by : (text : List ℕ) (n : ℕ) → 1 ≤ length text → length text ≤ 10 →
    list_all is_digit text ≡ true → digits_value text ≡ n → n < 2 ^ 32
    → number_of text ≡ Some n
number_by text n h g d v small = rw (v, d) (number_tests (length text) n h g small)
  where
    number_tests : (k m : ℕ) → 1 ≤ k → k ≤ 10 → m < 2 ^ 32
        → cond (leb 1 k && leb k 10 && true && ltb m (2 ^ 32)) (Some m) None ≡ Some m
    number_tests k m a b c = grind (arith, nat_tests)

-- a number reads back
pub number_of-decimal : (n : ℕ) → n < 2 ^ 32 → number_of (decimal n) ≡ Some n
number_of-decimal n h =
    number_by (decimal n) n (omega (arith, decimal_nonempty n (omega (arith, h))))
    (length-decimal-le 10 n (omega arith) (omega (arith, h)) (omega (arith, h)))
    (decimal_digits n h) (digits_value-decimal own n (omega (arith, h))) h

-- ---- operands

-- a register reads back
pub register_of-word : (n : ℕ) → n < 16 → register_of (register_word n) ≡ Some n
unfolding digits
register_of-word zero h = refl
register_of-word (suc zero) h = refl
register_of-word (suc (suc zero)) h = refl
register_of-word (suc (suc (suc zero))) h = refl
register_of-word (suc (suc (suc (suc zero)))) h = refl
register_of-word (suc (suc (suc (suc (suc zero))))) h = refl
register_of-word (suc (suc (suc (suc (suc (suc zero)))))) h = refl
register_of-word (suc (suc (suc (suc (suc (suc (suc zero))))))) h = refl
register_of-word (suc (suc (suc (suc (suc (suc (suc (suc zero)))))))) h = refl
register_of-word (suc (suc (suc (suc (suc (suc (suc (suc (suc zero))))))))) h = refl
register_of-word (suc (suc (suc (suc (suc (suc (suc (suc (suc (suc zero)))))))))) h = refl
register_of-word (suc (suc (suc (suc (suc (suc (suc (suc (suc (suc (suc zero))))))))))) h = refl
register_of-word (suc (suc (suc (suc (suc (suc (suc (suc (suc (suc (suc (suc zero)))))))))))) h = refl
register_of-word (suc (suc (suc (suc (suc (suc (suc (suc (suc (suc (suc (suc (suc zero))))))))))))) h = refl
register_of-word (suc (suc (suc (suc (suc (suc (suc (suc (suc (suc (suc (suc (suc (suc zero)))))))))))))) h = refl
register_of-word (suc (suc (suc (suc (suc (suc (suc (suc (suc (suc (suc (suc (suc (suc (suc zero))))))))))))))) h = refl
register_of-word (suc
    (suc (suc (suc (suc (suc (suc (suc (suc (suc (suc (suc (suc (suc (suc (suc n)))))))))))))))) h =
    absurd (omega (arith, h))

-- a register's word is one
word_register : (n : ℕ) → n < 2 ^ 32 → is_word (register_word n) ≡ true
word_register n h = word_after 114 (decimal n) refl (plain_decimal n h)

-- no name of the callable list begins with a digit
callable_id-digits : (d : ℕ) (ds : List ℕ) → is_digit d ≡ true → callable_id (d ∷ ds) ≡ None
callable_id-digits d ds h =
    rw (other 99 refl) (rw (other 110 refl)
    (rw (other 119 refl) (rw (other 102 refl) (rw (other 116 refl) (rw (other 97 refl) refl)))))
  where
    other : (letter : ℕ) → ltb 96 letter ≡ true → eqb d letter ≡ false
    other letter g = grind (arith, nat_tests)

-- a number is no name of the callable list
callable_id-number : (text : List ℕ) → 0 < length text → list_all is_digit text ≡ true → callable_id text ≡ None
callable_id-number [] h g = absurd (omega (arith, h))
callable_id-number (d ∷ ds) h g = callable_id-digits d ds (first_true (is_digit d) (list_all is_digit ds) g)

-- an imm reads back
pub imm_of-word : (op : Op) (n : ℕ) → n < 2 ^ 32 → imm_of op (imm_word op n) ≡ Some (record { value = n; label = None })
imm_of-word Jmp n h = rw (number_of-decimal n h) refl
imm_of-word Jz n h = rw (number_of-decimal n h) refl
imm_of-word Jnz n h = rw (number_of-decimal n h) refl
imm_of-word Call n h =
    rw (callable_id-number (decimal n) (decimal_nonempty n (omega (arith, h))) (decimal_digits n h))
    (rw (number_of-decimal n h) refl)
imm_of-word _ n h = rw (number_of-decimal n h) refl

-- an imm's word is one
pub word_imm : (op : Op) (n : ℕ) → n < 2 ^ 32 → is_word (imm_word op n) ≡ true
word_imm Jmp n h = word_after 64 (decimal n) refl (plain_decimal n h)
word_imm Jz n h = word_after 64 (decimal n) refl (plain_decimal n h)
word_imm Jnz n h = word_after 64 (decimal n) refl (plain_decimal n h)
word_imm _ n h = word_decimal n h

-- a word before others, if its field is named
abbrev pub operand_words : Bool → List ℕ → List (List ℕ) → List (List ℕ)
operand_words named word words = cond named (word ∷ words) words

-- the text of an operand before that of others
pub operand_tail : (named : Bool) (word : List ℕ) (words : List (List ℕ)) (text : List ℕ) → text ≡ tail_text words
    → operand_text named word ++ text ≡ tail_text (operand_words named word words)
operand_tail true word words text h = ap (λ (t : List ℕ). 32 ∷ (word ++ t)) h
operand_tail false word words text h = h

-- the text of a last operand
pub operand_last : (named : Bool) (word : List ℕ) → operand_text named word ≡ tail_text (operand_words named word [])
operand_last true word = ap (λ (t : List ℕ). 32 ∷ t) (sym (append-nil word))
operand_last false word = refl

-- a register below 16, if it is named
below_16 : (named : Bool) (n : ℕ) → is_register_field named n ≡ true → n < 2 ^ 32
below_16 true n h = omega (arith, ltb-true n 16 h)
below_16 false n h = omega (arith, eqb-true n 0 h)

-- a word, if it is named
below_word : (named : Bool) (n : ℕ) → is_imm_field named n ≡ true → n < 2 ^ 32
below_word true n h = ltb-true n (2 ^ 32) h
below_word false n h = omega (arith, eqb-true n 0 h)

-- words, one of which may not be there
pub words_all : (named : Bool) (word : List ℕ) (words : List (List ℕ)) → is_word word ≡ true →
    list_all is_word words ≡ true
    → list_all is_word (operand_words named word words) ≡ true
words_all true word words h g = both_true (is_word word) (list_all is_word words) h g
words_all false word words h g = g

-- a register's field reads back
pub register_field-words : (named : Bool) (n : ℕ) (words : List (List ℕ)) → is_register_field named n ≡ true
    → register_field named (operand_words named (register_word n) words) ≡ Some (record { value = n; rest = words })
register_field-words true n words h = rw (register_of-word n (ltb-true n 16 h)) refl
register_field-words false n words h = ap (λ (m : ℕ). Some (record { value = m; rest = words })) (sym (eqb-true n 0 h))

-- an imm's field reads back
pub imm_field-words : (op : Op) (named : Bool) (n : ℕ) → is_imm_field named n ≡ true
    → imm_field op named (operand_words named (imm_word op n) [])
    ≡ Some (record { value = record { value = n; label = None }; rest = [] })
imm_field-words op true n h = rw (imm_of-word op n (ltb-true n (2 ^ 32) h)) refl
imm_field-words op false n h =
    ap (λ (m : ℕ). Some (record { value = record { value = m; label = None }; rest = [] }))
    (sym (eqb-true n 0 h))

-- ---- instructions

-- a mnemonic is a word
pub word_name : (op : Op) → is_word (row_of op).name ≡ true
word_name Li = refl
word_name Mov = refl
word_name Add = refl
word_name Sub = refl
word_name Mul = refl
word_name And = refl
word_name Or = refl
word_name Xor = refl
word_name Shl = refl
word_name Shr = refl
word_name Divu = refl
word_name Remu = refl
word_name Sltu = refl
word_name Addi = refl
word_name Andi = refl
word_name Ldw = refl
word_name Stw = refl
word_name Ldb = refl
word_name Stb = refl
word_name Jmp = refl
word_name Jz = refl
word_name Jnz = refl
word_name Call = refl
word_name Callr = refl
word_name Trap = refl
word_name Ret = refl

-- a line that begins with a mnemonic is read
pub not_passed_over : (op : Op) (rest : List ℕ) → is_passed_over ((row_of op).name ++ rest) ≡ false
not_passed_over Li rest = refl
not_passed_over Mov rest = refl
not_passed_over Add rest = refl
not_passed_over Sub rest = refl
not_passed_over Mul rest = refl
not_passed_over And rest = refl
not_passed_over Or rest = refl
not_passed_over Xor rest = refl
not_passed_over Shl rest = refl
not_passed_over Shr rest = refl
not_passed_over Divu rest = refl
not_passed_over Remu rest = refl
not_passed_over Sltu rest = refl
not_passed_over Addi rest = refl
not_passed_over Andi rest = refl
not_passed_over Ldw rest = refl
not_passed_over Stw rest = refl
not_passed_over Ldb rest = refl
not_passed_over Stb rest = refl
not_passed_over Jmp rest = refl
not_passed_over Jz rest = refl
not_passed_over Jnz rest = refl
not_passed_over Call rest = refl
not_passed_over Callr rest = refl
not_passed_over Trap rest = refl
not_passed_over Ret rest = refl

-- a line that begins with a mnemonic says an instruction
pub by_words-name : (op : Op) (words : List (List ℕ)) →
    by_words ((row_of op).name ∷ words) ≡ or_bad_operands (operands_of op words)
by_words-name Li words = refl
by_words-name Mov words = refl
by_words-name Add words = refl
by_words-name Sub words = refl
by_words-name Mul words = refl
by_words-name And words = refl
by_words-name Or words = refl
by_words-name Xor words = refl
by_words-name Shl words = refl
by_words-name Shr words = refl
by_words-name Divu words = refl
by_words-name Remu words = refl
by_words-name Sltu words = refl
by_words-name Addi words = refl
by_words-name Andi words = refl
by_words-name Ldw words = refl
by_words-name Stw words = refl
by_words-name Ldb words = refl
by_words-name Stb words = refl
by_words-name Jmp words = refl
by_words-name Jz words = refl
by_words-name Jnz words = refl
by_words-name Call words = refl
by_words-name Callr words = refl
by_words-name Trap words = refl
by_words-name Ret words = refl

-- the words behind the mnemonic
abbrev pub operand_list : Instr → List (List ℕ)
operand_list i =
    let f = (row_of i.op).form in
    operand_words f.a (register_word i.a) (operand_words f.b (register_word i.b)
    (operand_words f.c (register_word i.c) (operand_words f.imm (imm_word i.op i.imm) [])))

-- the fields of an instruction that fits
pub record Fields (i : Instr) : Type 0 where
  pub a : is_register_field (row_of i.op).form.a i.a ≡ true
  pub b : is_register_field (row_of i.op).form.b i.b ≡ true
  pub c : is_register_field (row_of i.op).form.c i.c ≡ true
  pub imm : is_imm_field (row_of i.op).form.imm i.imm ≡ true

-- each field fits
pub fields_fit : (i : Instr) → fits i ≡ true → Fields i
fields_fit i h =
    let f = (row_of i.op).form in
    let ra = is_register_field f.a i.a in
    let rb = is_register_field f.b i.b in
    let rc = is_register_field f.c i.c in
    let ri = is_imm_field f.imm i.imm in
    let abc = first_true (ra && rb && rc) ri h in
    let ab = first_true (ra && rb) rc abc in
    record {
      a = first_true ra rb ab;
      b = second_true ra rb ab;
      c = second_true (ra && rb) rc abc;
      imm = second_true (ra && rb && rc) ri h;
    }

-- the operands of an instruction read back
pub operands_of-list : (i : Instr) → Fields i → operands_of i.op (operand_list i) ≡ Some (Instruction i None)
operands_of-list i h =
    let f = (row_of i.op).form in
    rw (register_field-words f.a i.a _ h.a)
    (rw (register_field-words f.b i.b _ h.b) (rw (register_field-words f.c i.c _ h.c)
    (rw (imm_field-words i.op f.imm i.imm h.imm, with_c) refl)))

-- the operands are words
operands_are_words : (i : Instr) → Fields i → list_all is_word (operand_list i) ≡ true
operands_are_words i h =
    let f = (row_of i.op).form in
    words_all f.a (register_word i.a) _ (word_register i.a (below_16 f.a i.a h.a))
    (words_all f.b (register_word i.b) _ (word_register i.b (below_16 f.b i.b h.b))
    (words_all f.c (register_word i.c) _ (word_register i.c (below_16 f.c i.c h.c))
    (words_all f.imm (imm_word i.op i.imm) [] (word_imm i.op i.imm (below_word f.imm i.imm h.imm)) refl)))

-- the line of an instruction is its mnemonic and its operands
pub line_is : (i : Instr) → instr_line i ≡ (row_of i.op).name ++ tail_text (operand_list i)
line_is i =
    let f = (row_of i.op).form in
    ap (λ (t : List ℕ). (row_of i.op).name ++ t)
    (operand_tail f.a (register_word i.a) _ _
    (operand_tail f.b (register_word i.b) _ _ (operand_tail f.c (register_word i.c) _ _
    (operand_last f.imm (imm_word i.op i.imm)))))

-- a line of words that says this
pub statement_by : (line : List ℕ) (words : List (List ℕ)) (said : Result Statement AsmKind) →
    is_passed_over line ≡ false → words_of line ≡ words
    → list_any is_empty words ≡ false → by_words words ≡ said → statement_of line ≡ said
statement_by line words said h w e b = rw (h, statement_of) (rw w (rw e (ap by_words w ∙ b)))

-- the line of an instruction says it
pub statement_of-line : (i : Instr) → fits i ≡ true → statement_of (instr_line i) ≡ Ok (Instruction i None)
statement_of-line i h =
    let g = fields_fit i h in
    let all = operands_are_words i g in
    let words = (row_of i.op).name ∷ operand_list i in
    rw (line_is i)
    (statement_by ((row_of i.op).name ++ tail_text (operand_list i)) words (Ok (Instruction i None))
    (not_passed_over i.op (tail_text (operand_list i)))
    (words-tail (row_of i.op).name (operand_list i) (word_name i.op) all)
    (none_empty words (both_true (is_word (row_of i.op).name) (list_all is_word (operand_list i)) (word_name i.op) all))
    (by_words-name i.op (operand_list i) ∙ ap or_bad_operands (operands_of-list i g)))

-- the line of an instruction has no newline
pub line-no_newline : (i : Instr) → fits i ≡ true → list_all (λ x. not (eqb x 10)) (instr_line i) ≡ true
line-no_newline i h =
    rw (line_is i)
    (list_all-joined (λ x. not (eqb x 10)) (row_of i.op).name (tail_text (operand_list i))
    (no_newline (row_of i.op).name (plain_word (row_of i.op).name (word_name i.op)))
    (tail-no_newline (operand_list i) (operands_are_words i (fields_fit i h))))
