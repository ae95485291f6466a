-- Levels that are alike one by one, and levels laid over two stores.
use Rattle.std.specs.Prelude.{◌≡◌, ℕ, ◌==◌, Bool, true, false, List, [], ◌∷◌, length, Option, Some, Contains, ⊤}
use Rattle.std.specs.List.{AllByRecursion}
use Rattle.std.proofs.Common.{refl, subst, sym, ap}
use Rattle.kernel_model.specs.declared.Object.{Object}
use Rattle.kernel_model.specs.Objects.{Things, SameThing}
use Rattle.kernel_model.specs.Locks.{is_held_exclusively}
use Rattle.kernel_model.specs.Levels.{Level, level_at}
use Rattle.kernel_model.specs.UndoLog.{undo_all}
use Rattle.kernel_model.specs.InPlace.{is_changed_in}
use Rattle.kernel_model.specs.Alike.{LevelsAlike}
use Rattle.kernel_laws.proofs.UndoingLemmas.{inverses_change_one_object}
use Rattle.graft_laws.proofs.PointLemmas.{or_right}
use Rattle.graft_laws.proofs.LevelsAlikeLemmas.{length_alike}
use Rattle.graft_laws.proofs.ObjectLemmas.{undo_all_keeps}
use Rattle.graft_laws.proofs.InverseLemmas.{AllPass, pass_more, undo_all_other}
use Rattle.graft_laws.proofs.RecordLemmas.{FoundByUndoing}
use Rattle.graft_laws.proofs.SoundCallLemmas.{contains_first, contains_later}
use Rattle.placed_laws.proofs.LevelLemmas.{relaid}
use Rattle.kernel_laws.proofs.FrameLemmas.{thing_then}

-- what holds of levels one by one
abbrev pub Pairwise : (Level → Level → Type 0) → List Level → List Level → Type 0
Pairwise P [] [] = ⊤
Pairwise P (l ∷ ls) (k ∷ ks) = P l k × Pairwise P ls ks
Pairwise P _ _ = ⊥

-- each of the second has one of the first
pub pair_each : (P : Level → Level → Type 0) (all ls ks : List Level) →
    ((l : Level) → Contains ls l → Contains all l) → Pairwise P ls ks →
    AllByRecursion (λ (k : Level). (l : Level) × Contains all l × P l k) ks
pair_each P all [] [] into h = tt
pair_each P all [] (k ∷ ks) into h = absurd h
pair_each P all (l ∷ ls) [] into h = absurd h
pair_each P all (l ∷ ls) (k ∷ ks) into h = (
  (l, into l (contains_first l ls), h.0),
  pair_each P all ls ks (λ x c. into x (contains_later l x ls c)) h.1,
)

-- one level is the other but for what it found
abbrev pub IsAlike : Level → Level → Type 0
IsAlike l k = record l { kept = k.kept } ≡ k

pub alike_pairs : (ls ks : List Level) → LevelsAlike ls ks → Pairwise IsAlike ls ks
alike_pairs [] [] h = tt
alike_pairs [] (k ∷ ks) h = absurd h
alike_pairs (l ∷ ls) [] h = absurd h
alike_pairs (l ∷ ls) (k ∷ ks) h = (h.0, alike_pairs ls ks h.1)

-- levels of one number
pub alike_at : (d : ℕ) (ls ks : List Level) (n : Level) → LevelsAlike ls ks →
    level_at d ks ≡ Some n → (l : Level) × (level_at d ls ≡ Some l) × IsAlike l n
alike_at d [] [] n h e = absurd cc
alike_at d [] (k ∷ ks) n h e = absurd h
alike_at d (l ∷ ls) [] n h e = absurd h
alike_at d (l ∷ ls) (k ∷ ks) n h e =
    by_number (length ls == d) (length ks == d) (ap (λ i. i == d) (length_alike ls ks h.1)) e
    (alike_at d ls ks n h.1)
  where
    is_it : (a b : Level) → Some a ≡ Some b → a ≡ b
    is_it a b e = cc

    by_number : (b c : Bool) → b ≡ c →
        elim c as (λ _. Option Level) [ true ↦ Some k | false ↦ level_at d ks ] ≡ Some n →
        (level_at d ks ≡ Some n → (l : Level) × (level_at d ls ≡ Some l) × IsAlike l n) →
        (x : Level) × (elim b as (λ _. Option Level) [ true ↦ Some l | false ↦ level_at d ls ] ≡ Some x) × IsAlike x n
    by_number true true f e rest = (l, refl, subst (IsAlike l) (is_it k n e) h.0)
    by_number false false f e rest = rest e
    by_number true false f e rest = absurd cc
    by_number false true f e rest = absurd cc

-- ---- what levels found over two stores

-- a level found the same of what passes a test, and of all else what stands in the store
pub record FoundAs (test : Object → Bool) (x : Things) (l n : Level) : Type 0 where
  pub own : (o : Object) → test o ≡ true → SameThing o l.kept n.kept
  pub other : (o : Object) → test o ≡ false → SameThing o n.kept x

-- levels laid over a store that agrees on what they hold exclusively
pub laid_found : (test : Object → Bool) (x w u : Things) (ls : List Level) → FoundByUndoing w ls →
    ((o : Object) → is_changed_in ls o ≡ true → test o ≡ true) →
    ((o : Object) → test o ≡ true → SameThing o w u) →
    ((o : Object) → test o ≡ false → SameThing o u x) →
    Pairwise (FoundAs test x) ls (relaid u ls)
laid_found test x w u [] found into own other = tt
laid_found test x w u (l ∷ ls) found into own other = (
  record { own = inner; other = beyond },
  laid_found test x l.kept (undo_all l.records u) ls found.2 (λ o h. into o
      (or_right (is_held_exclusively (l.touched o)) (is_changed_in ls o) h)) inner beyond,
)
  where
    pass : AllPass test l.records
    pass = pass_more (is_changed_in (l ∷ ls)) test l.records into found.1

    inner : (o : Object) → test o ≡ true → SameThing o l.kept (undo_all l.records u)
    inner o h =
        subst (λ y. SameThing o y (undo_all l.records u)) (sym found.0)
        (undo_all_keeps l.records o w u (own o h))

    beyond : (o : Object) → test o ≡ false → SameThing o (undo_all l.records u) x
    beyond o h =
        thing_then o (undo_all l.records u) u x
        (undo_all_other inverses_change_one_object test l.records o u pass h) (other o h)
