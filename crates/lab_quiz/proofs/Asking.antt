-- The lines of a quiz, one after another.
use Rattle.std.proofs.Common.{◌≡◌, ◌≤◌, ◌<◌, ℕ, suc, ◌+◌, Bool, true, false, cond, List, []}
use Rattle.std.proofs.Common.{◌∷◌, ◌++◌, length, drop, get_or, refl, sym, ap, ◌∙◌, append_assoc, add-one, arith}
use Rattle.std.proofs.Math.Seq.{drop-cons}
use Rattle.std.proofs.lemmas.List.{append-nil, drop_all}
use Rattle.lab_quiz.specs.Quiz.{asked_of, blank}

-- one more
pub one_more : (marks : List Bool) (lines : List (List ℕ)) (k : ℕ) (m : Bool) (d : List ℕ)
    (done new whole : List (List ℕ)) → k < length marks → k < length lines →
    new ≡ done ++ cond (get_or marks k m) blank (get_or lines k d) ∷ [] →
    done ++ asked_of (drop k marks) (drop k lines) ≡ whole →
    new ++ asked_of (drop (k + 1) marks) (drop (k + 1) lines) ≡ whole
one_more marks lines k m d done new whole in_marks in_lines e before =
    let line = cond (get_or marks k m) blank (get_or lines k d) in
    rw (e, add-one k)
    (append_assoc done (line ∷ []) (asked_of (drop (suc k) marks) (drop (suc k) lines))
    ∙ rw (drop-cons marks k m in_marks, drop-cons lines k d in_lines) at before)

-- no line is left
pub no_more : (marks : List Bool) (lines : List (List ℕ)) (k : ℕ) (done whole : List (List ℕ)) →
    length marks ≤ k → done ++ asked_of (drop k marks) (drop k lines) ≡ whole → done ≡ whole
no_more marks lines k done whole past before =
    sym (append-nil done)
    ∙ ap (λ t. done ++ asked_of t (drop k lines)) (sym (drop_all k marks past))
    ∙ before
