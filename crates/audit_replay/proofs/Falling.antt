-- A history after the drop of a level above 0, part by part.
use Rattle.std.proofs.Common.{◌≡◌, ℕ, List, [], ◌∷◌, ◌++◌, take, map, sym, ap, ◌∙◌}
use Rattle.std.specs.Prelude.{reverse}
use Rattle.std.proofs.lemmas.List.{map-append, take-map}
use Rattle.kernel_model.specs.Levels as levels
use Rattle.kernel_model.specs.History as model
use Rattle.audit_levels.specs.declared.Effect.{Effect}
use Rattle.audit_levels.specs.Levels.{effect_of}
use Rattle.audit_replay.specs.declared.Mark.{Mark}
use Rattle.audit_replay.specs.Traces.{mark_of}

pub fallen_is : (t : model.Trace) (d n : ℕ) (ks now after : List Mark) (m : Mark)
    (since es last : List Effect) →
    map effect_of since ≡ reverse (model.effects_since d t.pasts) → es ≡ since ++ last →
    n ≡ model.marks_before d t.pasts → now ≡ take n ks →
    mark_of m ≡ model.Fell (map effect_of es) → after ≡ now ++ m ∷ [] →
    map mark_of after ≡ model.fallen t (map mark_of ks) (map effect_of last) d
fallen_is t d n ks now after m since es last said es_is n_is cut fell put =
    let marks = map mark_of ks in
    let front : map mark_of now ≡ take (model.marks_before d t.pasts) marks =
    ap (λ (xs : List Mark). map mark_of xs) cut ∙ sym (take-map mark_of n ks)
    ∙ ap (λ (i : ℕ). take i marks) n_is in
    let effects : map effect_of es
    ≡ reverse (model.effects_since d t.pasts) ++ map effect_of last =
    ap (λ (xs : List Effect). map effect_of xs) es_is ∙ map-append effect_of since last
    ∙ ap (λ (xs : List levels.Effect). xs ++ map effect_of last) said in
    ap (λ (xs : List Mark). map mark_of xs) put ∙ map-append mark_of now (m ∷ [])
    ∙ ap (λ (xs : List model.Mark). xs ++ mark_of m ∷ []) front
    ∙ ap (λ (k : model.Mark). take (model.marks_before d t.pasts) marks ++ k ∷ [])
    (fell ∙ ap model.Fell effects)
