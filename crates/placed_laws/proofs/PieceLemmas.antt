-- A call has a history exactly where it has levels, in place too.
use Rattle.std.specs.Prelude.{◌≡◌, ℕ, ◌≤◌, Bool, true, false, List, [], ◌∷◌, length, map, Option, Some, None}
use Rattle.std.proofs.Common.{arith, refl, sym, ap, ◌∙◌}
use Rattle.kernel_model.specs.Meaning.{Meaning}
use Rattle.kernel_model.specs.Levels.{Level}
use Rattle.kernel_model.specs.History.{Mark}
use Rattle.kernel_model.specs.Kernel.{Call, Kernel, is_at_piece, has_level}
use Rattle.kernel_model.specs.Blocking.{levels_in, levels_of}
use Rattle.kernel_model.specs.Sound.{IsSoundKernel}
use Rattle.kernel_model.specs.Laws.{Laws}
use Rattle.placed_laws.specs.Placed.{has_some, PlacedCall, bare}
use Rattle.placed_laws.specs.PlacedSteps.{is_placed_at_piece}
use Rattle.placed_laws.specs.Stands.{without_history}
use Rattle.placed_laws.proofs.GraftedLemmas.{grafted}
use Rattle.placed_laws.proofs.FreeLemmas.{StandsWhere, AtPiece, InGraft, stands_where}

-- there are levels
some_is : (ls : List Level) → 1 ≤ length ls → has_some (map bare ls) ≡ true
some_is [] h = absurd (none_some h)
  where
    none_some : 1 ≤ 0 → ⊥
    none_some h = omega arith
some_is (l ∷ ls) h = refl

some_piece : (c : PlacedCall) (ls : List Level) → 1 ≤ length ls → is_placed_at_piece (Some c) (map bare ls) ≡ false
some_piece c [] h = absurd (none_some h)
  where
    none_some : 1 ≤ 0 → ⊥
    none_some h = omega arith
some_piece c (l ∷ ls) h = refl

module _ (m : Meaning) (laws : Laws m) (k : Kernel) (sound : IsSoundKernel m k) where
  pub level_is : (p : ℕ) → has_level (k.call p) ≡ has_some (map bare (levels_of m k p))
  level_is p = by_call (k.call p) refl
    where
      by_where : (c : Call) → k.call p ≡ Some c → StandsWhere m k p c →
          has_level (k.call p) ≡ has_some (map bare (levels_of m k p))
      by_where c e (AtPiece marked none needed) =
          ap has_level e ∙ ap (λ (y : Option (List Mark)). elim y as (λ _. Bool) [
            | None ↦ false
            | Some ks ↦ true
          ]) marked ∙ ap (λ ls. has_some (map bare ls)) (sym none)
      by_where c e (InGraft f ks marked is needed) =
          ap has_level e ∙ ap (λ (y : Option (List Mark)).
          elim y as (λ _. Bool) [ None ↦ false | Some ks ↦ true ]) marked
          ∙ sym (some_is f.levels (grafted m laws k sound p f is).replayed.sound.some)
          ∙ ap (λ y. has_some (map bare (levels_in y))) (sym is)

      by_call : (x : Option Call) → k.call p ≡ x → has_level (k.call p) ≡ has_some (map bare (levels_of m k p))
      by_call None e = ap has_level e ∙ ap (λ ls. has_some (map bare ls)) (sym (no_levels e))
        where
          no_levels : k.call p ≡ None → levels_of m k p ≡ []
          no_levels e = rw e refl
      by_call (Some c) e = by_where c e (stands_where m k p c e (λ ks marked. sound.runs p c ks e marked))

  pub piece_is : (p : ℕ) → is_placed_at_piece (without_history (k.call p))
      (map bare (levels_of m k p)) ≡ is_at_piece (k.call p)
  piece_is p = by_call (k.call p) refl
    where
      by_where : (c : Call) → k.call p ≡ Some c → StandsWhere m k p c → is_placed_at_piece
          (without_history (k.call p)) (map bare (levels_of m k p)) ≡ is_at_piece (k.call p)
      by_where c e (AtPiece marked none needed) =
          ap (λ y. is_placed_at_piece (without_history y) (map bare (levels_of m k p))) e
          ∙ ap (λ ls. is_placed_at_piece (without_history (Some c)) (map bare ls)) none
          ∙ sym (ap is_at_piece e ∙ ap (λ (y : Option (List Mark)).
          elim y as (λ _. Bool) [ None ↦ true | Some ks ↦ false ]) marked)
      by_where c e (InGraft f ks marked is needed) =
          ap (λ y. is_placed_at_piece (without_history y) (map bare (levels_of m k p))) e
          ∙ ap (λ y. is_placed_at_piece (without_history (Some c)) (map bare (levels_in y))) is
          ∙ some_piece (record { number = c.number; stage = c.stage }) f.levels
          (grafted m laws k sound p f is).replayed.sound.some
          ∙ sym (ap is_at_piece e ∙ ap (λ (y : Option (List Mark)).
          elim y as (λ _. Bool) [ None ↦ true | Some ks ↦ false ]) marked)

      by_call : (x : Option Call) → k.call p ≡ x → is_placed_at_piece (without_history (k.call p))
          (map bare (levels_of m k p)) ≡ is_at_piece (k.call p)
      by_call None e =
          ap (λ y. is_placed_at_piece (without_history y) (map bare (levels_of m k p))) e
          ∙ sym (ap is_at_piece e)
      by_call (Some c) e = by_where c e (stands_where m k p c e (λ ks marked. sound.runs p c ks e marked))
