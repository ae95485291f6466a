-- A history with one mark more.
use Rattle.std.proofs.Common.{◌≡◌, ℕ, List, [], ◌∷◌, ◌++◌, Option, Some, None, refl, ap, ◌∙◌}
use Rattle.std.specs.Prelude.{Result, Ok, Err, IfOk}
use Rattle.kernel_model.specs.World.{World, ImageTable}
use Rattle.kernel_model.specs.History.{Mark, Trace, mark_on, marks_on}

-- a fact of a value that is well gives another
pub if_ok : {A E : Type 0} {P Q : A → Type 0} (r : Result A E) → ((v : A) → P v → Q v) →
    IfOk r P → IfOk r Q
if_ok (Ok x) f p = f x p
if_ok (Err e) f p = tt

-- what the marks behind lead to, from where the first leads
abbrev pub then_on : World → ImageTable → ℕ → List Mark → Option Trace → Option Trace
then_on v images p ks None = None
then_on v images p ks (Some u) = marks_on v images p ks u

-- marks one behind the other
pub marks_on_more : (v : World) (images : ImageTable) (p : ℕ) (ks js : List Mark) (t : Trace) →
    marks_on v images p (ks ++ js) t ≡ then_on v images p js (marks_on v images p ks t)
marks_on_more v images p [] js t = refl
marks_on_more v images p (k ∷ ks) js t = by (mark_on v images p k t) (λ u. marks_on_more v images p ks js u)
  where
    by : (o : Option Trace) → ((u : Trace) → marks_on v images p (ks ++ js) u ≡ then_on v images p
        js (marks_on v images p ks u)) →
        (elim o as (λ _. Option Trace) [ None ↦ None | Some u ↦ marks_on v images p (ks ++ js) u ])
        ≡ then_on v images p js
        (elim o as (λ _. Option Trace) [ None ↦ None | Some u ↦ marks_on v images p ks u ])
    by None rest = refl
    by (Some u) rest = rest u

-- one mark
one_on : (v : World) (images : ImageTable) (p : ℕ) (k : Mark) (t : Trace) →
    marks_on v images p (k ∷ []) t ≡ mark_on v images p k t
one_on v images p k t = by (mark_on v images p k t)
  where
    by : (o : Option Trace) → (elim o as (λ _. Option Trace) [ None ↦ None | Some u ↦ Some u ]) ≡ o
    by None = refl
    by (Some u) = refl

-- what a history leads to, kept beside it, goes on with it
pub goes_on : (v : World) (images : ImageTable) (p : ℕ) (ks : List Mark) (k : Mark) (first t u : Trace) →
    marks_on v images p ks first ≡ Some t → mark_on v images p k t ≡ Some u →
    marks_on v images p (ks ++ k ∷ []) first ≡ Some u
goes_on v images p ks k first t u here next =
    marks_on_more v images p ks (k ∷ []) first ∙ ap (then_on v images p (k ∷ [])) here
    ∙ one_on v images p k t ∙ next
