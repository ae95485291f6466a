-- Levels laid over a store.
use Rattle.std.specs.Prelude.{ℕ, suc, length, ◌≡◌, ◌||◌, List, [], ◌∷◌, map}
use Rattle.std.proofs.Common.{refl, subst, sym, ap, ◌∙◌}
use Rattle.kernel_model.specs.declared.Object.{Object}
use Rattle.kernel_model.specs.Objects.{Things}
use Rattle.kernel_model.specs.Access.{changed_by}
use Rattle.kernel_model.specs.Locks.{is_held_exclusively}
use Rattle.kernel_model.specs.Levels.{Level, answer_of}
use Rattle.kernel_model.specs.UndoLog.{undo_log, undo_all, kept_by_log}
use Rattle.kernel_model.specs.InPlace.{is_changed_in}
use Rattle.kernel_model.specs.Sound.{AreRecorded}
use Rattle.kernel_model.specs.Alike.{LevelsAlike}
use Rattle.kernel_laws.specs.Soundness.{found_by}
use Rattle.placed_laws.specs.Placed.{PlacedLevel, levels_with, bare}

-- a call's levels over another store
abbrev pub relaid : Things → List Level → List Level
relaid w ls = levels_with w (map bare ls)

-- they are alike
pub relaid_alike : (w : Things) (ls : List Level) → LevelsAlike ls (relaid w ls)
relaid_alike w [] = tt
relaid_alike w (l ∷ ls) = (refl, relaid_alike (undo_all l.records w) ls)

-- hold the same exclusively
pub laid_changed : (w : Things) (ls : List Level) (o : Object) → is_changed_in (relaid w ls) o ≡ is_changed_in ls o
laid_changed w [] o = refl
laid_changed w (l ∷ ls) o = ap (λ b. is_held_exclusively (l.touched o) || b) (laid_changed (undo_all l.records w) ls o)

-- so too the objects of their records
pub laid_recorded : (w : Things) (ls : List Level) → AreRecorded ls → AreRecorded (relaid w ls)
laid_recorded w [] h = tt
laid_recorded w (l ∷ ls) h =
    (λ i among. laid_changed w (l ∷ ls) (changed_by i) ∙ h.0 i among, laid_recorded (undo_all l.records w) ls h.1)

-- and answer the same
pub answer_laid : (answer : List ℕ) (w : Things) (ls : List Level) →
    answer_of answer (relaid w ls) ≡ answer_of answer ls
answer_laid answer w [] = refl
answer_laid answer w (l ∷ ls) = refl

-- what each found is what undoing gives
pub laid_kept : (w : Things) (ls : List PlacedLevel) →
    found_by (levels_with w ls) ≡ kept_by_log w (undo_log (levels_with w ls))
laid_kept w [] = refl
laid_kept w (l ∷ ls) = ap (λ ws. undo_all l.records w ∷ ws) (laid_kept (undo_all l.records w) ls)

-- and they are the same without what they found
pub bare_laid : (w : Things) (ls : List PlacedLevel) → map bare (levels_with w ls) ≡ ls
bare_laid w [] = refl
bare_laid w (l ∷ ls) = ap (λ xs. l ∷ xs) (bare_laid (undo_all l.records w) ls)

pub bare_alike : (ls ks : List Level) → LevelsAlike ls ks → map bare ls ≡ map bare ks
bare_alike [] [] h = refl
bare_alike [] (k ∷ ks) h = absurd h
bare_alike (l ∷ ls) [] h = absurd h
bare_alike (l ∷ ls) (k ∷ ks) h =
    ap (λ (x : Level). bare x ∷ map bare ls) h.0 ∙ ap (λ xs. bare k ∷ xs) (bare_alike ls ks h.1)

-- levels laid over a store are alike to any that are the same without what they found
pub laid_alike : (w : Things) (bs : List PlacedLevel) (ls : List Level) → bs ≡ map bare ls →
    LevelsAlike ls (levels_with w bs)
laid_alike w bs ls e = subst (λ xs. LevelsAlike ls (levels_with w xs)) (sym e) (relaid_alike w ls)

pub length_bare : (ls : List Level) → length (map bare ls) ≡ length ls
length_bare [] = refl
length_bare (l ∷ ls) = ap suc (length_bare ls)
