-- What the drop of a level leaves in the one store.
use Rattle.std.specs.Prelude.{◌≡◌, ℕ, ◌≤◌, ◌<◌, ◌==◌, Bool, true, false, cond, List, [], ◌∷◌}
use Rattle.std.specs.Prelude.{length, Option, Some, None, is_some, Contains}
use Rattle.std.proofs.Common.{arith, refl, sym, ap, subst, ◌∙◌, inl, inr}
use Rattle.std.proofs.lemmas.Bool.{cases_Bool}
use Rattle.std.proofs.lemmas.Bool.Decides.{nat_tests}
use Rattle.kernel_model.specs.declared.Object.{Object}
use Rattle.kernel_model.specs.Objects.{Objects, Things, SameAt, SameThing}
use Rattle.kernel_model.specs.declared.Cause.{Cause}
use Rattle.kernel_model.specs.Laws.{Laws}
use Rattle.kernel_model.specs.Levels.{Level, Outcome, drop_innermost, drop_level, level_at, state_without}
use Rattle.kernel_model.specs.World.{World}
use Rattle.kernel_model.specs.Meaning.{Meaning}
use Rattle.kernel_model.specs.InPlace.{undo_cut, store_below, undone}
use Rattle.kernel_model.specs.Sound.{count_of}
use Rattle.kernel_model.specs.Claims.{UndoneIsBelow}
use Rattle.graft_laws.specs.Histories.{HasRange}
use Rattle.placed_laws.specs.Placed.{placed_levels}
use Rattle.placed_laws.specs.Undone.{placed_undone, cut_at, DropsLeadToStoreBelow, DropsLeaveTheStoreBelow}
use Rattle.placed_laws.proofs.InPlaceLemmas.{undone_alike_in_place, level_undone}
use Rattle.kernel_laws.proofs.FrameLemmas.{same_then}
use Rattle.graft_laws.proofs.ObjectLemmas.{same_thing}
use Rattle.placed_laws.proofs.RestingLemmas.{laid_length}

-- one call is cut at its level
cut_there : (p d : ℕ) → cut_at p d p ≡ Some d
cut_there p d = ap (λ b. cond b (Some d) None) (itself p)
  where
    itself : (p : ℕ) → (p == p) ≡ true
    itself p = grind (arith, nat_tests)

-- a list of one has each once
once_in : (p q : ℕ) → count_of q (p ∷ []) ≤ 1
once_in p q = few (p == q)
  where
    few : (b : Bool) → cond b 1 0 ≤ 1
    few true = omega arith
    few false = omega arith

-- the call that is cut is in the list
cut_is_in : (p d q : ℕ) → is_some (cut_at p d q) ≡ true → Contains (p ∷ []) q
cut_is_in p d q h = elim (cases_Bool (q == p)) [
  | inl same ↦ first (number_is q p same)
  | inr other ↦ absurd (contrary (ap (λ b. is_some (cond b (Some d) None)) (sym other) ∙ h))
]
  where
    number_is : (q p : ℕ) → (q == p) ≡ true → q ≡ p
    number_is q p h = grind (arith, nat_tests)

    first : q ≡ p → Contains (p ∷ []) q
    first e = grind (arith, e)

    contrary : false ≡ true → ⊥
    contrary h = cc

-- each thing is as the abstract kernel's store has it below the level
pub drops_leave_the_store_below : (m : Meaning) → UndoneIsBelow m → DropsLeaveTheStoreBelow m
drops_leave_the_store_below m law x k p d l laws stands found =
    record {
      things = λ o range. things o range;
      accounts = refl;
    }
  where
    undone_here : Objects
    undone_here = placed_undone x (cut_at p d) (p ∷ [])

    leads : undone_here.things ≡ l.kept
    leads = ap (λ (c : Option ℕ). (undo_cut c (placed_levels x p) x.objects).things) (cut_there p d)
        ∙ level_undone d (x.levels p) x.objects.things l found

    below : (o : Object) → HasRange o → SameAt o undone_here (store_below m k (cut_at p d))
    below o range = same_then o undone_here (undone m k (cut_at p d) (p ∷ [])) (store_below m k (cut_at p d))
        (undone_alike_in_place m x k (cut_at p d) (p ∷ []) o stands range)
        (law k (cut_at p d) (p ∷ []) o laws stands.kernel (once_in p) (cut_is_in p d))

    things : (o : Object) → HasRange o →
        SameThing o (state_without l x.objects).things (store_below m k (cut_at p d)).things
    things o range =
        subst (λ (w : Things). SameThing o w (store_below m k (cut_at p d)).things) leads
        (same_thing o undone_here (store_below m k (cut_at p d)) (below o range))

-- ---- by the drop

-- a level that there is
record LevelThere (ls : List Level) (d : ℕ) : Type 0 where
  pub level : Level
  pub is : level_at d ls ≡ Some level

level_there : (ls : List Level) (d : ℕ) → d < length ls → LevelThere ls d
level_there [] d h = absurd (omega (arith, h))
level_there (l ∷ ls) d h = by_number (length ls == d) refl (level_there ls d)
  where
    less : (length ls == d) ≡ false → d < length ls
    less e = grind (arith, nat_tests, e, h)

    by_number : (b : Bool) → (length ls == d) ≡ b → (d < length ls → LevelThere ls d) → LevelThere (l ∷ ls) d
    by_number true e outside =
        record {
          level = l;
          is = ap (λ b. elim b as (λ _. Option Level) [ true ↦ Some l | false ↦ level_at d ls ]) e;
        }
    by_number false e outside =
        let further = outside (less e) in
        record {
          level = further.level;
          is = ap (λ b. elim b as (λ _. Option Level) [ true ↦ Some l | false ↦ level_at d ls ]) e ∙ further.is;
        }

-- the drop of a level leaves the state without it
dropped_without : (v : World) (w : Objects) (ls : List Level) (d : ℕ) (cause : Cause) (l : Level) →
    level_at d ls ≡ Some l →
    (drop_level v w ls d cause).config.now ≡ state_without l w
dropped_without v w [] d cause l is = grind (arith, is)
dropped_without v w (k ∷ ls) d cause l is = by_number (length ls == d) refl (dropped_without v w ls d cause l)
  where
    one_is : (a b : Level) → Some a ≡ Some b → a ≡ b
    one_is a b e = cc

    here : (b : Bool) → Outcome
    here b = elim b as (λ _. Outcome) [ true ↦ drop_innermost v w k ls cause | false ↦ drop_level v w ls d cause ]

    found : (b : Bool) → Option Level
    found b = elim b as (λ _. Option Level) [ true ↦ Some k | false ↦ level_at d ls ]

    by_number : (b : Bool) → (length ls == d) ≡ b →
        (level_at d ls ≡ Some l → (drop_level v w ls d cause).config.now ≡ state_without l w) →
        (drop_level v w (k ∷ ls) d cause).config.now ≡ state_without l w
    by_number true e outside =
        ap (λ b. (here b).config.now) e ∙ ap (λ j. state_without j w) (one_is k l (sym (ap found e) ∙ is))
    by_number false e outside =
        ap (λ b. (here b).config.now) e ∙ outside (sym (ap found e) ∙ is)

-- what a drop leaves is the store below the level
pub drops_lead_below : (m : Meaning) → Laws m → DropsLeaveTheStoreBelow m → DropsLeadToStoreBelow m
drops_lead_below m laws law x p d cause low =
    let there = level_there (placed_levels x p) d
    (subst (λ n. d < n) (sym (laid_length x.objects.things (x.levels p))) low) in
    let left = dropped_without x.world x.objects (placed_levels x p) d cause there.level there.is in
    record {
      level = there.level;
      is = there.is;
      things = λ k o stands range.
          subst (λ (u : Objects). SameThing o u.things (store_below m k (cut_at p d)).things) (sym left)
          ((law x k p d there.level laws stands there.is).things o range);
      accounts = ap (λ (u : Objects). u.accounts) left;
    }
