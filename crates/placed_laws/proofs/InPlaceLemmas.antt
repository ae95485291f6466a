-- Undoing in the one store of a kernel in place is undoing in that of the abstract kernel.
use Rattle.std.specs.Prelude.{◌≡◌, ℕ, suc, ◌≤◌, ◌==◌, true, false, List, [], ◌∷◌, ◌++◌, length, map, Option, Some, None}
use Rattle.std.proofs.Common.{arith, refl, sym, ap, ◌∙◌, inl, inr}
use Rattle.std.proofs.lemmas.Bool.{cases_Bool}
use Rattle.std.proofs.lemmas.Bool.Decides.{nat_tests}
use Rattle.std.proofs.lemmas.List.{append-nil}
use Rattle.kernel_model.specs.declared.Object.{Object}
use Rattle.kernel_model.specs.declared.Object.TheVariants.{Graft, Acct, Cell, OpenFile, Queue, Cache, Lock, Pol}
use Rattle.kernel_model.specs.Objects.{Objects, Things, SameAt}
use Rattle.kernel_model.specs.Access.{Found}
use Rattle.kernel_model.specs.Levels.{Level, level_at}
use Rattle.kernel_model.specs.UndoLog.{undo_all, undo_log, undo_on, records_from}
use Rattle.kernel_model.specs.Meaning.{Meaning}
use Rattle.kernel_model.specs.Kernel.{Kernel}
use Rattle.kernel_model.specs.Blocking.{levels_of}
use Rattle.kernel_model.specs.InPlace.{Cut, undo_cut, undone}
use Rattle.graft_laws.specs.Histories.{HasRange}
use Rattle.graft_laws.proofs.ObjectLemmas.{undo_all_keeps}
use Rattle.graft_laws.proofs.UndoneLemmas.{records_none, records_more}
use Rattle.placed_laws.specs.Placed.{Placed, PlacedLevel, placed_levels, levels_with, level_with, bare}
use Rattle.placed_laws.specs.Stands.{StandsFor}
use Rattle.placed_laws.specs.Undone.{placed_undone}
use Rattle.kernel_laws.proofs.ConfigLemmas.{undo_both}

-- undoing the same records keeps states alike at an object
undone_alike : (o : Object) (is : List Found) (s u : Objects) → SameAt o s u →
    SameAt o (undo_on is s) (undo_on is u)
undone_alike (Graft q pt) is s u h = (h.0, undo_all_keeps is (Graft q pt) s.things u.things h.1)
undone_alike (Acct q) is s u h = h
undone_alike (Cell q k) is s u h = undo_all_keeps is (Cell q k) s.things u.things h
undone_alike (OpenFile q fd) is s u h = undo_all_keeps is (OpenFile q fd) s.things u.things h
undone_alike Queue is s u h = undo_all_keeps is Queue s.things u.things h
undone_alike Cache is s u h = undo_all_keeps is Cache s.things u.things h
undone_alike (Lock n) is s u h = undo_all_keeps is (Lock n) s.things u.things h
undone_alike (Pol k) is s u h = undo_all_keeps is (Pol k) s.things u.things h

-- ---- the records of a call in place

-- the records of levels over a store are those of the levels
log_over : (w : Things) (ls : List PlacedLevel) →
    undo_log (levels_with w ls) ≡ map (λ (l : PlacedLevel). l.records) ls
log_over w [] = refl
log_over w (l ∷ ls) = ap (λ log. l.records ∷ log) (log_over (undo_all l.records w) ls)

-- and so are those of levels without what they found
log_bare : (ls : List Level) → map (λ (l : PlacedLevel). l.records) (map bare ls) ≡ undo_log ls
log_bare [] = refl
log_bare (l ∷ ls) = ap (λ log. l.records ∷ log) (log_bare ls)

-- the records of a call in place are those of the abstract kernel's call
same_log : (m : Meaning) (x : Placed) (k : Kernel) (p : ℕ) → StandsFor m x k →
    undo_log (placed_levels x p) ≡ undo_log (levels_of m k p)
same_log m x k p h =
    log_over x.objects.things (x.levels p) ∙ ap (map (λ (l : PlacedLevel). l.records)) (h.levels p)
    ∙ log_bare (levels_of m k p)

-- undoing the same records above a cut keeps states alike at an object
cut_alike : (cut : Option ℕ) (ls ks : List Level) (o : Object) (s u : Objects) →
    undo_log ls ≡ undo_log ks → SameAt o s u → SameAt o (undo_cut cut ls s) (undo_cut cut ks u)
cut_alike None ls ks o s u e h = h
cut_alike (Some d) ls ks o s u e h =
    rw e (undone_alike o (records_from d (undo_log ks)) s u h)

-- undone in place, an object is as undone in the abstract kernel's store
pub undone_alike_in_place : (m : Meaning) (x : Placed) (k : Kernel) (cut : Cut) (ps : List ℕ)
    (o : Object) → StandsFor m x k → HasRange o →
    SameAt o (placed_undone x cut ps) (undone m k cut ps)
undone_alike_in_place m x k cut [] o h range = h.objects o range
undone_alike_in_place m x k cut (p ∷ ps) o h range =
    cut_alike (cut p) (placed_levels x p) (levels_of m k p) o (placed_undone x cut ps)
    (undone m k cut ps) (same_log m x k p h) (undone_alike_in_place m x k cut ps o h range)

-- ---- what a level found

-- undone from a level inward, the records of levels over a store lead to what that level found
pub level_undone : (d : ℕ) (ls : List PlacedLevel) (w : Things) (l : Level) →
    level_at d (levels_with w ls) ≡ Some l →
    undo_all (records_from d (undo_log (levels_with w ls))) w ≡ l.kept
level_undone d [] w l e = absurd (no_level e)
  where
    no_level : None ≡ Some l → ⊥
    no_level e = cc
level_undone d (b ∷ ls) w l e =
    let found : Things = undo_all b.records w in
    let rest : List Level = levels_with found ls in
    let own : Level = level_with found b in
    elim (cases_Bool (length rest == d)) [
      | inl top ↦
          let is : own ≡ l = is_own own l (ap (λ b. elim b as (λ _. Option Level) [
            | true ↦ Some own
            | false ↦ level_at d rest
          ]) (sym top) ∙ e) in
          let records : records_from d (undo_log (own ∷ rest)) ≡ b.records =
          records_more d own rest (at_most (length rest) d top)
          ∙ ap (λ is. b.records ++ is) (records_none d rest (at_least (length rest) d top))
          ∙ append-nil b.records in
          ap (λ is. undo_all is w) records ∙ ap (λ (x : Level). x.kept) is
      | inr inner ↦
          let there : level_at d rest ≡ Some l =
          ap (λ b. elim b as (λ _. Option Level) [ true ↦ Some own | false ↦ level_at d rest ]) (sym inner) ∙ e in
          ap (λ is. undo_all is w) (records_more d own rest (within d rest l there))
          ∙ undo_both b.records (records_from d (undo_log rest)) w
          ∙ level_undone d ls found l there
    ]
  where
    is_own : (a b : Level) → Some a ≡ Some b → a ≡ b
    is_own a b e = cc

    at_most : (n d : ℕ) → (n == d) ≡ true → d ≤ n
    at_most n d e = grind (arith, nat_tests)

    at_least : (n d : ℕ) → (n == d) ≡ true → n ≤ d
    at_least n d e = grind (arith, nat_tests)

    above : (n d : ℕ) → (n == d) ≡ true → d ≤ suc n
    above n d e = grind (arith, nat_tests)

    more : (d n : ℕ) → d ≤ n → d ≤ suc n
    more d n h = omega arith

    within : (d : ℕ) (ls : List Level) (l : Level) → level_at d ls ≡ Some l → d ≤ length ls
    within d [] l e = cc
    within d (k ∷ ls) l e = elim (cases_Bool (length ls == d)) [
      | inl top ↦ above (length ls) d top
      | inr inner ↦ more d (length ls) (within d ls l
          (ap (λ b. elim b as (λ _. Option Level) [ true ↦ Some k | false ↦ level_at d ls ]) (sym inner) ∙ e))
    ]
