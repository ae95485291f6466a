-- What a call of one of two tables is by both as one.
use Rattle.std.specs.Prelude.{IfOk, IfSome, Some, None, [], ◌∷◌}
use Rattle.std.proofs.Common.{◌≡◌, ℕ, ◌≤◌, Bool, true, false, cond, List, Option, Result, Ok, Err, sym, ◌∙◌, ap}
use Rattle.kernel_model.specs.declared.SysCall.{SysCall}
use Rattle.kernel_model.specs.declared.Refusal.{Refusal}
use Rattle.kernel_model.specs.World.{World, ImageTable, Blocks}
use Rattle.kernel_model.specs.Objects.{Objects}
use Rattle.kernel_model.specs.Meaning.{Meaning, Stage, Piece, After}
use Rattle.kernel_model.specs.Beside.{beside}
use Rattle.kernel_model.specs.ImageMask.{TellsImages}
use Rattle.kernel_model.specs.Laws.{Laws}
use Rattle.call_needs.specs.Masks.{table_of_mask, mask_tells}
use Rattle.call_needs.specs.Works.{IsDue, stage_granted}
use Rattle.call_pieces.specs.Matching.{PieceMatchesSome}
use Rattle.call_pieces.specs.Taking.{taking}

-- ---- calls that are granted

-- a call begins as itself
same_call : (m : Meaning) → Laws m → (v : World) (bits p : ℕ) (c : SysCall) (t : Stage) →
    ((table : ImageTable) → TellsImages bits table → Ok t ≡ m.early v table p c) → t.call ≡ c
same_call m laws v bits p c t granted =
    laws.stages.same_call v (table_of_mask bits) p c t
    (sym (granted (table_of_mask bits) (mask_tells bits)))

-- ---- the two tables

module _ (owns : SysCall → Bool) (a b : Meaning) where
  -- the table of calls of which the test says this
  abbrev side : Bool → Meaning
  side true = a
  side false = b

  laws_of : (o : Bool) → Laws a → Laws b → Laws (side o)
  laws_of true la lb = la
  laws_of false la lb = lb

  -- a call that was granted is of its own table
  its_own : (o : Bool) → Laws a → Laws b → (v : World) (bits p : ℕ) (c : SysCall) (t : Stage) →
      ((table : ImageTable) → TellsImages bits table → Ok t ≡ (side o).early v table p c) →
      owns c ≡ o → owns t.call ≡ o
  its_own o la lb v bits p c t granted e =
      ap owns (same_call (side o) (laws_of o la lb) v bits p c t granted) ∙ e

  -- the user lock that the next piece takes, by its own table
  pub taken_of : (o : Bool) (t : Stage) (r : Option ℕ) → owns t.call ≡ o →
      IfSome r (λ u. (v : World) (s : Objects) (p : ℕ) → (side o).need v s p t ≡ taking u ∷ []) →
      IfSome r (λ u. (v : World) (s : Objects) (p : ℕ) →
      (beside owns a b).need v s p t ≡ taking u ∷ [])
  taken_of true t (Some u) e h = λ v s p. rw e (h v s p)
  taken_of false t (Some u) e h = λ v s p. rw e (h v s p)
  taken_of o t None e h = h

  due_at : (o : Bool) (v : World) (s : Objects) (p : ℕ) (t : Stage) → owns t.call ≡ o →
      IsDue (side o) v s p t → IsDue (beside owns a b) v s p t
  due_at true v s p t e h =
      record {
        images = h.images;
        alive = h.alive;
        granted = rw e h.granted;
        fits = rw e h.fits;
        left = rw e h.left;
      }
  due_at false v s p t e h =
      record {
        images = h.images;
        alive = h.alive;
        granted = rw e h.granted;
        fits = rw e h.fits;
        left = rw e h.left;
      }

  few_at : (o : Bool) (v : World) (s : Objects) (p : ℕ) (t : Stage) → owns t.call ≡ o →
      (side o).left v s p t ≤ 15 → (beside owns a b).left v s p t ≤ 15
  few_at true v s p t e h = rw e h
  few_at false v s p t e h = rw e h

  -- a call that a table grants may come by both as one
  pub due : (o : Bool) → Laws a → Laws b → (v : World) (s : Objects) (bits p q : ℕ) (c : SysCall)
      (t : Stage) (r : Result (Unit {0}) Refusal) → owns c ≡ o →
      ((table : ImageTable) → TellsImages bits table →
      stage_granted t r ≡ (side o).early v table p c) →
      IfOk r (λ _. IsDue (side o) v s q t) → IfOk r (λ _. IsDue (beside owns a b) v s q t)
  due o la lb v s bits p q c t (Ok x) e granted h =
      due_at o v s q t (its_own o la lb v bits p c t granted e) h
  due o la lb v s bits p q c t (Err x) e granted h = tt

  -- and has as few pieces left
  pub few : (o : Bool) → Laws a → Laws b → (v : World) (s : Objects) (bits p q : ℕ) (c : SysCall)
      (t : Stage) (r : Result (Unit {0}) Refusal) → owns c ≡ o →
      ((table : ImageTable) → TellsImages bits table →
      stage_granted t r ≡ (side o).early v table p c) →
      IfOk r (λ _. (side o).left v s q t ≤ 15) → IfOk r (λ _. (beside owns a b).left v s q t ≤ 15)
  few o la lb v s bits p q c t (Ok x) e granted h =
      few_at o v s q t (its_own o la lb v bits p c t granted e) h
  few o la lb v s bits p q c t (Err x) e granted h = tt

-- ---- pieces

-- a piece of the first table is one of both, where the test says that the call is its own
pub first_some : (owned : Bool) (v : World) (x y : Blocks → List Bool → Piece) (s : Objects)
    (gave : Option (List ℕ)) (after : After) (io : List Bool) → owned ≡ true →
    PieceMatchesSome v x s gave after io →
    PieceMatchesSome v (λ blocks rest. cond owned (x blocks rest) (y blocks rest)) s gave after io
first_some true v x y s gave after io e h = h
first_some false v x y s gave after io e h = cc

-- and one of the second where it isn't
pub second_some : (owned : Bool) (v : World) (x y : Blocks → List Bool → Piece) (s : Objects)
    (gave : Option (List ℕ)) (after : After) (io : List Bool) → owned ≡ false →
    PieceMatchesSome v y s gave after io →
    PieceMatchesSome v (λ blocks rest. cond owned (x blocks rest) (y blocks rest)) s gave after io
second_some true v x y s gave after io e h = cc
second_some false v x y s gave after io e h = h
