-- A graft more, found by its name.
use Rattle.std.proofs.Common.{◌≡◌, ℕ, ◌+◌, Bool, true, false, cond, List, [], ◌∷◌, ◌++◌, length}
use Rattle.std.proofs.Common.{position, Option, None, Some, is_some, refl, sym, ap, ◌∙◌, arith}
use Rattle.std.proofs.Common.{true≢false}
use Rattle.std.proofs.lemmas.Slice.Eq.{bytes_eq-Decides}
use Rattle.std.specs.Global.{Vec}
use Rattle.std.specs.List.{position_from}
use Rattle.std.specs.Map.{lookup}
use Rattle.std.proofs.lemmas.Iterator.Adapters.{position_from-zero}
use Rattle.indexmap.specs.IndexMap.{insert_entry}
use Rattle.script_model.specs.World.{same_bytes}
use Rattle.lab_reader.specs.Grafts.{Graft, place_of}
use Rattle.lab_reader.specs.Table.{FindsPlaces}

-- what was found, or else this, if it passes
abbrev or_last : Option ℕ → Bool → ℕ → Option ℕ
or_last (Some i) passes n = Some i
or_last None passes n = cond passes (Some n) None

-- the place among things with one more behind them
from_push : {A : Type 0} (test : A → Bool) (i : ℕ) (xs : List A) (x : A) →
    position_from test i (xs ++ x ∷ []) ≡ or_last (position_from test i xs) (test x) (i + length xs)
from_push test i [] x = let e : i ≡ i + 0 = omega arith in ap (λ n. cond (test x) (Some n) None) e
from_push test i (y ∷ ys) x =
    by (test y) _ _
    (from_push test (i + 1) ys x
    ∙ (let e : i + 1 + length ys ≡ i + length (y ∷ ys) = omega arith in
    ap (λ n. or_last (position_from test (i + 1) ys) (test x) n) e))
  where
    by : (b : Bool) (more before : Option ℕ) → more ≡ or_last before (test x) (i + length (y ∷ ys)) →
        cond b (Some i) more ≡ or_last (cond b (Some i) before) (test x) (i + length (y ∷ ys))
    by true more before h = refl
    by false more before h = h

position_push : {A : Type 0} (test : A → Bool) (xs : List A) (x : A) →
    position test (xs ++ x ∷ []) ≡ or_last (position test xs) (test x) (length xs)
position_push test xs x =
    position_from-zero test (xs ++ x ∷ [])
    ∙ from_push test 0 xs x
    ∙ (let e : 0 + length xs ≡ length xs = omega arith in
    ap (λ n. or_last (position_from test 0 xs) (test x) n) e)
    ∙ ap (λ o. or_last o (test x) (length xs)) (sym (position_from-zero test xs))

-- what entries have with one more behind them
lookup_push : {K : Type 0} (test : K → Bool) (es : List (K × ℕ)) (k : K) (n : ℕ) →
    lookup test (es ++ (k, n) ∷ []) ≡ or_last (lookup test es) (test k) n
lookup_push test [] k n = refl
lookup_push test (e ∷ es) k n = by (test e.0) _ _ (lookup_push test es k n)
  where
    by : (b : Bool) (more before : Option ℕ) → more ≡ or_last before (test k) n →
        cond b (Some e.1) more ≡ or_last (cond b (Some e.1) before) (test k) n
    by true more before h = refl
    by false more before h = h

-- two keys are one
abbrev same_key : Vec ℕ → Vec ℕ → Bool
same_key x y = same_bytes x.items y.items

-- a key that isn't there goes behind the others
insert_absent : (es : List (Vec ℕ × ℕ)) (k : Vec ℕ) (n : ℕ) →
    is_some (lookup (same_key k) es) ≡ false → insert_entry same_key es k n ≡ es ++ (k, n) ∷ []
insert_absent [] k n h = refl
insert_absent (e ∷ es) k n h = by (same_key k e.0) _ _ (insert_absent es k n) h
  where
    by : (b : Bool) (more : List (Vec ℕ × ℕ)) (found : Option ℕ) →
        (is_some found ≡ false → more ≡ es ++ (k, n) ∷ []) → is_some (cond b (Some e.1) found) ≡ false →
        cond b ((e.0, n) ∷ es) (e ∷ more) ≡ e ∷ es ++ (k, n) ∷ []
    by true more found later g = cc
    by false more found later g = ap (λ (xs : List (Vec ℕ × ℕ)). e ∷ xs) (later g)

-- a graft with a new name
finds_new : (es : List (Vec ℕ × ℕ)) (grafts : List Graft) (name : Vec ℕ) (g : Graft) →
    FindsPlaces es grafts → g.name ≡ name.items →
    FindsPlaces (es ++ (name, length grafts) ∷ []) (grafts ++ g ∷ [])
finds_new es grafts name g finds named asked =
    lookup_push (λ (k : Vec ℕ). same_bytes asked k.items) es name (length grafts)
    ∙ ap (λ o. or_last o (same_bytes asked name.items) (length grafts)) (finds asked)
    ∙ ap (λ bytes. or_last (place_of asked grafts) (same_bytes asked bytes) (length grafts)) (sym named)
    ∙ sym (position_push (λ (h : Graft). same_bytes asked h.name) grafts g)

-- the same in the words of the map
pub finds_inserted : (es : List (Vec ℕ × ℕ)) (grafts : List Graft) (name : Vec ℕ) (g : Graft) (place : ℕ)
    → FindsPlaces es grafts → g.name ≡ name.items → place ≡ length grafts →
    is_some (lookup (λ (k : Vec ℕ). same_bytes name.items k.items) es) ≡ false →
    FindsPlaces (insert_entry same_key es name place) (grafts ++ g ∷ [])
finds_inserted es grafts name g place finds named last absent asked =
    ap (λ (all : List (Vec ℕ × ℕ)). lookup (λ (k : Vec ℕ). same_bytes asked k.items) all)
    (insert_absent es name place absent
    ∙ ap (λ (n : ℕ). es ++ (name, n) ∷ []) last)
    ∙ finds_new es grafts name g finds named asked

-- one with a name that is there
pub finds_old : (es : List (Vec ℕ × ℕ)) (grafts : List Graft) (name : Vec ℕ) (g : Graft) →
    FindsPlaces es grafts → g.name ≡ name.items →
    is_some (lookup (λ (k : Vec ℕ). same_bytes name.items k.items) es) ≡ true →
    FindsPlaces es (grafts ++ g ∷ [])
finds_old es grafts name g finds named there asked =
    finds asked
    ∙ by (place_of asked grafts) (same_bytes asked g.name) refl refl
    ∙ sym (position_push (λ (h : Graft). same_bytes asked h.name) grafts g)
  where
    has_place : is_some (place_of g.name grafts) ≡ true
    has_place =
        ap (λ bytes. is_some (place_of bytes grafts)) named ∙ ap is_some (sym (finds name.items)) ∙ there

    by : (o : Option ℕ) (b : Bool) → place_of asked grafts ≡ o → same_bytes asked g.name ≡ b →
        o ≡ or_last o b (length grafts)
    by (Some i) b e f = refl
    by None false e f = refl
    by None true e f =
        let same : asked ≡ g.name = (bytes_eq-Decides asked g.name).0 f in
        absurd (true≢false (sym has_place ∙ ap (λ bytes. is_some (place_of bytes grafts)) (sym same) ∙ ap is_some e))
