-- A text so many times, and once more; and a script slowly, a line more.
use Rattle.std.proofs.Common.{◌≡◌, ℕ, zero, suc, List, ◌∷◌, ◌++◌, ◌+◌, ◌∙◌, ap, sym, arith}
use Rattle.std.proofs.lemmas.List.{append-nil, append_assoc}
use Rattle.lab_story.specs.Events.{events_by}
use Rattle.lab_story.specs.Slow.{times, slow_part, slow_lines}

-- once more behind is once more
pub times_more : (text : List ℕ) (n : ℕ) → times n text ++ text ≡ times (n + 1) text
times_more text zero = grind (arith, append-nil)
times_more text (suc n) = grind (arith, append_assoc, times_more text n)

-- a line of the script more
pub part_more : (first last n m : ℕ) (old out line : List ℕ) (lines rest : List (List ℕ)) (all : List ℕ)
    → lines ≡ line ∷ rest → out ≡ old ++ slow_part first last n line → m ≡ events_by n line
    → old ++ slow_lines first last n lines ≡ all → out ++ slow_lines first last m rest ≡ all
part_more first last n m old out line lines rest all taken is counted whole =
    ap (λ t. t ++ slow_lines first last m rest) is
    ∙ append_assoc old (slow_part first last n line) (slow_lines first last m rest)
    ∙ ap (λ k. old ++ (slow_part first last n line ++ slow_lines first last k rest)) counted
    ∙ ap (λ ls. old ++ slow_lines first last n ls) (sym taken)
    ∙ whole
