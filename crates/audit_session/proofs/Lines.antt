-- The lines of the calls that are left in flight, one process after another.
use Rattle.std.proofs.Common.{◌≡◌, ◌≤◌, ℕ, ◌+◌, List, [], ◌∷◌, ◌++◌, Option, Some, None, arith, refl}
use Rattle.std.proofs.Common.{sym, ap, ◌∙◌, append-nil, append_assoc}
use Rattle.std.specs.Prelude.{map, option_map}
use Rattle.std.specs.List.{concat, range_with_len}
use Rattle.std.proofs.lemmas.List.Folds.{concat-append}
use Rattle.std.proofs.lemmas.List.FromFn.{map-range_with_len_more}
use Rattle.script_model.specs.Kernel.{Kernel, Call}
use Rattle.script_model.specs.Outcome.{left_line, left_lines}
use Rattle.script_model.specs.Text.{line, left_text}

-- what is written of one process
pub left_some : (p : ℕ) (o : Option Call) (number : ℕ) →
    Some number ≡ option_map (λ (c : Call). c.number) o → line (left_text p number) ≡ left_line p o
left_some p None number h = absurd cc
left_some p (Some c) number h = let same : number ≡ c.number = cc in ap (λ n. line (left_text p n)) same

pub left_none : (p : ℕ) (o : Option Call) → None ≡ option_map (λ (c : Call). c.number) o → left_line p o ≡ []
left_none p None h = refl
left_none p (Some c) h = absurd cc

-- the lines of the first processes
abbrev pub first_lines : Kernel → ℕ → List ℕ
first_lines k p = concat (map (λ q. left_line q (k.call q)) (range_with_len 0 p))

-- one process more: its call is left, or it has none
pub left_more : (k : Kernel) (p : ℕ) (first old new : List ℕ) → old ≡ first ++ first_lines k p →
    new ≡ old ++ left_line p (k.call p) → new ≡ first ++ first_lines k (p + 1)
left_more k p first old new before more =
    let f : ℕ → List ℕ = λ q. left_line q (k.call q) in
    let next : 0 + p ≡ p = omega arith in
    more ∙ ap (λ ys. ys ++ f p) before ∙ append_assoc first (first_lines k p) (f p)
    ∙ ap (λ ys. first ++ (first_lines k p ++ ys)) (sym (append-nil (f p)))
    ∙ ap (λ ys. first ++ ys) (sym (concat-append (map f (range_with_len 0 p)) (f p ∷ [])))
    ∙ ap (λ ys. first ++ concat ys) (sym (map-range_with_len_more f 0 p p next))

-- all processes
pub left_all : (k : Kernel) (p : ℕ) (first old : List ℕ) → 16 ≤ p → p ≤ 16 → old ≡ first ++ first_lines k p →
    old ≡ first ++ left_lines (Some k)
left_all k p first old least most before =
    let all : p ≡ 16 = omega (arith, least, most) in before ∙ ap (λ n. first ++ first_lines k n) all
