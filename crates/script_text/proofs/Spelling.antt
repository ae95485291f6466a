-- The word of a command is compared where it stands.
use Rattle.std.proofs.Common.{◌≡◌, ◌<◌, ◌+◌, ◌==◌, ◌∙◌, ℕ, suc, not, Bool, true, false, Some, cond}
use Rattle.std.proofs.Common.{List, [], ◌∷◌, length, take, drop, get_or, arith, ap, sym, refl}
use Rattle.std.specs.List.{find}
use Rattle.std.proofs.Math.Seq.{drop-cons}
use Rattle.std.proofs.lemmas.Bool.Decides.{nat_tests}
use Rattle.std.proofs.lemmas.Grind.{common_steps}
use Rattle.std.proofs.lemmas.List.Sums.{fails_before_first, prefix_len-le-length}
use Rattle.script_model.specs.World.{same_bytes}
use Rattle.script_model.specs.declared.Command.{Command}
use Rattle.script_model.specs.Script.{command_named, command_word, all_commands}
use Rattle.script_text.specs.Words.{word_length, front_word}

-- a word that begins with no space
front_word-cons : (b : ℕ) (bs : List ℕ) → (b == 32) ≡ false → front_word (b ∷ bs) ≡ b ∷ front_word bs
front_word-cons b bs plain =
    let size : word_length (b ∷ bs) ≡ suc (word_length bs) = grind (arith, nat_tests) in
    ap (λ n. take n (b ∷ bs)) size

-- a word that is empty
front_word-space : (b : ℕ) (bs : List ℕ) → (b == 32) ≡ true → front_word (b ∷ bs) ≡ []
front_word-space b bs space =
    let size : word_length (b ∷ bs) ≡ 0 = grind (arith, nat_tests) in
    ap (λ n. take n (b ∷ bs)) size

-- two words that begin with the same byte
same-cons : (a b : ℕ) (xs ys : List ℕ) → (a == 32) ≡ false → a ≡ b →
    same_bytes (a ∷ xs) (front_word (b ∷ ys)) ≡ same_bytes xs (front_word ys)
same-cons a b xs ys plain same =
    let front = front_word-cons b ys (ap (λ x. x == 32) (sym same) ∙ plain) in
    ap (same_bytes (a ∷ xs)) front ∙ grind (arith, nat_tests, same)

-- one byte more is the same
pub goes_on-step : (ending rest : List ℕ) (i : ℕ) → i < length ending → i < length rest →
    word_length ending ≡ length ending → get_or ending i 0 ≡ get_or rest i 0
    → same_bytes (drop (i + 1) ending) (front_word (drop (i + 1) rest))
    ≡ same_bytes (drop i ending) (front_word (drop i rest))
goes_on-step ending rest i inside within plain same =
    let next : i + 1 ≡ suc i = omega arith in
    let no_space = fails_before_first (λ byte. byte == 32) ending i 0 (omega (arith, inside, plain)) in
    rw (next, drop-cons ending i 0 inside, drop-cons rest i 0 within)
    (sym (same-cons (get_or ending i 0) (get_or rest i 0) (drop (suc i) ending) (drop (suc i) rest) no_space same))

-- a command by the word that a text begins with
pub named-first : (b : ℕ) (bs : List ℕ) → command_named (b ∷ front_word bs) ≡ command_named (front_word (b ∷ bs))
named-first b bs = by (b == 32) refl
  where
    by : (t : Bool) → (b == 32) ≡ t → command_named (b ∷ front_word bs) ≡ command_named (front_word (b ∷ bs))
    by false plain = ap command_named (sym (front_word-cons b bs plain))
    by true space =
        let is : b ≡ 32 = grind (arith, nat_tests) in
        ap (λ x. command_named (x ∷ front_word bs)) is ∙ ap command_named (sym (front_word-space b bs space))

-- what is found passes
found : (p : Command → Bool) (cs : List Command) (c : Command) → find p cs ≡ Some c → p c ≡ true
found p [] c is = grind (arith, is)
found p (x ∷ xs) c is = by (p x) refl is (found p xs c)
  where
    by : (t : Bool) → p x ≡ t → cond t (Some x) (find p xs) ≡ Some c → (find p xs ≡ Some c → p c ≡ true) → p c ≡ true
    by true passes here rest = grind (arith, passes, here)
    by false fails later rest = rest later

-- the word of a command has as many bytes as that of the text that it was found in
pub named-size : (text : List ℕ) (c : Command) → command_named (front_word text) ≡ Some c →
    length (command_word c) ≡ word_length text
named-size text c is =
    let same = found (λ x. same_bytes (command_word x) (front_word text)) all_commands c is in
    let long : length (command_word c) ≡ length (front_word text) = grind (arith, common_steps, same) in
    let within = prefix_len-le-length (λ byte. not (byte == 32)) text in
    long ∙ grind (arith, common_steps, within)
