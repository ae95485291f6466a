-- The labels of the map, and what they stand for.
use Rattle.std.proofs.Common.{◌≡◌, ℕ, Bool, true, false, cond, List, [], ◌∷◌, map, Option, None, Some, refl, ap}
use Rattle.std.specs.Borrow.{Bor}
use Rattle.std.specs.Option.{is_some}
use Rattle.std.specs.Map.{lookup}
use Rattle.indexmap.specs.IndexMap.{insert_entry}
use Rattle.graft_texts.specs.World.{same_bytes}
use Rattle.graft_texts.specs.Assembler.{Label, label_place, with_place, with_use}
use Rattle.gm_asm.specs.State.{label_view}

-- a key and its value
abbrev pub Entry : Type 0
Entry = Bor (List ℕ) × Option ℕ

-- two keys are one
abbrev pub same_key : Bor (List ℕ) → Bor (List ℕ) → Bool
same_key x y = same_bytes x.now y.now

-- the value of a value that may be there
abbrev pub joined : Option (Option ℕ) → Option ℕ
joined None = None
joined (Some o) = o

-- the place of a label is what the map has at its name
pub label_place-lookup : (name : List ℕ) (es : List Entry) → label_place name (map label_view es)
    ≡ joined (lookup (λ (k : Bor (List ℕ)). same_bytes name k.now) es)
label_place-lookup name [] = refl
label_place-lookup name (e ∷ es) =
    by (same_bytes name e.0.now) e.1 (label_place name (map label_view es))
    (lookup (λ (k : Bor (List ℕ)). same_bytes name k.now) es) (label_place-lookup name es)
  where
    by : (b : Bool) (o rest : Option ℕ) (found : Option (Option ℕ)) → rest ≡ joined found →
        cond b o rest ≡ joined (cond b (Some o) found)
    by true o rest found h = refl
    by false o rest found h = h

-- an entry or another
map_cond : (b : Bool) (x y : List Entry) (u v : List Label) → map label_view x ≡ u →
    map label_view y ≡ v → map label_view (cond b x y) ≡ cond b u v
map_cond true x y u v h g = h
map_cond false x y u v h g = g

-- a label is set in the map
pub with_place-insert : (k : Bor (List ℕ)) (place : ℕ) (es : List Entry)
    → map label_view (insert_entry same_key es k (Some place)) ≡ with_place k.now place (map label_view es)
with_place-insert k place [] = refl
with_place-insert k place (e ∷ es) =
    map_cond (same_key k e.0) ((e.0, Some place) ∷ es) (e ∷ insert_entry same_key es k (Some place)) _ _ refl
    (ap (λ (ls : List Label). label_view e ∷ ls) (with_place-insert k place es))

-- a label is in the map
pub with_use-there : (name : List ℕ) (es : List Entry) →
    is_some (lookup (λ (k : Bor (List ℕ)). same_bytes name k.now) es) ≡ true
    → with_use name (map label_view es) ≡ map label_view es
with_use-there name [] h = cc
with_use-there name (e ∷ es) h = by (same_bytes name e.0.now) _ _ (with_use-there name es) h
  where
    by : (b : Bool) (ls : List Label) (found : Option (Option ℕ)) → (is_some found ≡ true → ls ≡ map label_view es)
        → is_some (cond b (Some e.1) found) ≡ true → cond b (label_view e ∷ map label_view es)
        (label_view e ∷ ls) ≡ label_view e ∷ map label_view es
    by true ls found later g = refl
    by false ls found later g = ap (λ (xs : List Label). label_view e ∷ xs) (later g)

-- a label is put into the map
pub with_use-insert : (k : Bor (List ℕ)) (es : List Entry) →
    is_some (lookup (λ (x : Bor (List ℕ)). same_bytes k.now x.now) es) ≡ false
    → map label_view (insert_entry same_key es k None) ≡ with_use k.now (map label_view es)
with_use-insert k [] h = refl
with_use-insert k (e ∷ es) h =
    by (same_bytes k.now e.0.now) (insert_entry same_key es k None) _ _ (with_use-insert k es) h
  where
    by : (b : Bool) (more : List Entry) (ls : List Label) (found : Option (Option ℕ)) →
        (is_some found ≡ false → map label_view more ≡ ls)
        → is_some (cond b (Some e.1) found) ≡ false
        → map label_view (cond b ((e.0, None) ∷ es) (e ∷ more))
        ≡ cond b (label_view e ∷ map label_view es) (label_view e ∷ ls)
    by true more ls found later g = cc
    by false more ls found later g = ap (λ (xs : List Label). label_view e ∷ xs) (later g)
