-- The words of a line, joined again.
use Rattle.std.proofs.Common.{◌≡◌, ℕ, ◌==◌, Bool, true, false, not, List, [], ◌∷◌, ◌++◌, refl, sym}
use Rattle.std.proofs.Common.{ap, ◌∙◌, append_assoc, arith}
use Rattle.std.proofs.lemmas.Bool.Decides.{nat_tests}
use Rattle.std.proofs.lemmas.List.Splits.{slice_split-cons_no, join_with_byte-slice_split}
use Rattle.std.specs.List.{onto_first, join_with_byte}
use Rattle.lab_reader.specs.Words.{parts_of, joined, joined_after, starts_with_word, with_word}

-- a word behind a text with a byte
added : (t : ℕ) (ts w : List ℕ) → with_word (t ∷ ts) w ≡ t ∷ (ts ++ (32 ∷ w))
added t ts w = grind (arith, nat_tests)

-- words behind a text with a byte, and the same by the word of the library
behind : (t : ℕ) (ts : List ℕ) (ws : List (List ℕ)) → joined_after (t ∷ ts) ws ≡ join_with_byte 32 ((t ∷ ts) ∷ ws)
behind t ts [] = refl
behind t ts (w ∷ []) = added t ts w
behind t ts (w ∷ v ∷ ws) =
    ap (λ text. joined_after text (v ∷ ws)) (added t ts w)
    ∙ behind t (ts ++ (32 ∷ w)) (v ∷ ws)
    ∙ append_assoc (t ∷ ts) (32 ∷ w) (32 ∷ join_with_byte 32 (v ∷ ws))

-- words of which the first one has a byte
from_byte : (b : ℕ) (parts : List (List ℕ)) → joined (onto_first b parts) ≡ join_with_byte 32 (onto_first b parts)
from_byte b [] = refl
from_byte b (p ∷ ps) = behind b p ps

is_no_space : (t : Bool) → not t ≡ true → t ≡ false
is_no_space true e = absurd (grind (arith, e))
is_no_space false e = refl

-- the words of a line that begins with a word are the line
pub whole : (line : List ℕ) → starts_with_word line ≡ true → joined (parts_of line) ≡ line
whole [] e = refl
whole (b ∷ bs) e =
    let cut = slice_split-cons_no (λ c. c == 32) b bs (is_no_space (b == 32) e) in
    ap joined cut ∙ from_byte b (parts_of bs) ∙ ap (join_with_byte 32) (sym cut)
    ∙ join_with_byte-slice_split 32 (b ∷ bs)
