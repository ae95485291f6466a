-- The names of the map, and the goals of the stack.
use Rattle.std.proofs.Common.{◌≡◌, ℕ, suc, ◌+◌, Bool, true, false, not, ltb, cond, ◌||◌, List, [], ◌∷◌, length, Option}
use Rattle.std.proofs.Common.{None, Some, refl, ap, ◌∙◌}
use Rattle.std.specs.Borrow.{Bor}
use Rattle.std.specs.Option.{is_some}
use Rattle.std.specs.List.{position_or_len}
use Rattle.std.specs.Map.{lookup, keys_of}
use Rattle.std.specs.Prelude.{position}
use Rattle.indexmap.specs.IndexMap.{insert_entry}
use Rattle.graft_texts.specs.World.{same_bytes}
use Rattle.graft_texts.specs.LanguageReading.{is_known, with_name}
use Rattle.graft_syntax.specs.Views.{names_of}

-- a key and its value
abbrev pub Entry : Type 0
Entry = Bor (List ℕ) × Unit {0}

-- two keys are one
abbrev pub same_key : Bor (List ℕ) → Bor (List ℕ) → Bool
same_key x y = same_bytes x.now y.now

-- a name is put into the map
pub with_name-insert : (k : Bor (List ℕ)) (es : List Entry)
    → names_of (insert_entry same_key es k tt) ≡ with_name k.now (names_of es)
with_name-insert k [] = refl
with_name-insert k (e ∷ es) = by (same_key k e.0) (insert_entry same_key es k tt) _ (with_name-insert k es)
  where
    by : (b : Bool) (more : List Entry) (names : List (List ℕ)) → names_of more ≡ names
        → names_of (cond b ((e.0, tt) ∷ es) (e ∷ more)) ≡ cond b (e.0.now ∷ names_of es) (e.0.now ∷ names)
    by true more names h = refl
    by false more names h = ap (λ (ns : List (List ℕ)). e.0.now ∷ ns) h

-- the place of a name is that of its key
position_or_len-names : (name : List ℕ) (es : List Entry)
    → position_or_len (same_bytes name)
    (names_of es) ≡ position_or_len (λ (k : Bor (List ℕ)). same_bytes name k.now) (keys_of es)
position_or_len-names name [] = refl
position_or_len-names name (e ∷ es) =
    ap (λ n. cond (not (same_bytes name e.0.now)) (1 + n) 0) (position_or_len-names name es)

length-names : (es : List Entry) → length (names_of es) ≡ length (keys_of es)
length-names [] = refl
length-names (e ∷ es) = ap suc (length-names es)

pub position-names : (name : List ℕ) (es : List Entry)
    → position (same_bytes name) (names_of es) ≡ position (λ (k : Bor (List ℕ)). same_bytes name k.now) (keys_of es)
position-names name es =
    ap (λ n. cond (ltb n (length (names_of es))) (Some n) None) (position_or_len-names name es)
    ∙ ap (λ m. cond (ltb (position_or_len (λ (k : Bor (List ℕ)). same_bytes name k.now) (keys_of es)) m)
    (Some (position_or_len (λ (k : Bor (List ℕ)). same_bytes name k.now) (keys_of es))) None) (length-names es)
