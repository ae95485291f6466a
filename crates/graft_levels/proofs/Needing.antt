-- A level holds all that it needs.
use Rattle.std.proofs.Common.{◌≡◌, ◌≢◌, ℕ, suc, ◌<◌, ◌≤◌, ◌==◌, ◌&&◌, false, List, [], ◌∷◌, length}
use Rattle.std.proofs.Common.{arith, refl, sym, ◌∙◌, ap, subst}
use Rattle.std.proofs.Math.Path.{fun_ext}
use Rattle.kernel_model.specs.declared.Held.{Held}
use Rattle.kernel_model.specs.declared.Need.{Need}
use Rattle.kernel_model.specs.declared.Object.{Object}
use Rattle.kernel_model.specs.Locks.{LockTable, touch_all, with_touch, untouched}
use Rattle.kernel_model.specs.Objects.{Objects}
use Rattle.undo_calls.specs.UndoLevels.{Logged}
use Rattle.lock_table.specs.declared.Holds.{Holds}
use Rattle.lock_table.specs.Masks.{held}
use Rattle.kernel_state.specs.declared.Store.{Store}
use Rattle.kernel_state.specs.Stores.{objects_of, queue_of}
use Rattle.graft_levels.specs.declared.GraftLevel.{GraftLevel}
use Rattle.graft_levels.specs.Calls.{AreSound, AllUndoable, IsPlaced, IsElsewhereSame, needs_touched}
use Rattle.graft_levels.proofs.Holding.{touched_here, touched_apart}

pub needs_here : (p d : ℕ) (ns : List Need) (t : LockTable) → needs_touched p d ns t p d ≡ touch_all ns (t p d)
needs_here p d [] t = refl
needs_here p d (n ∷ ns) t =
    needs_here p d ns (with_touch p d n.object n.mode t)
    ∙ ap (touch_all ns) (touched_here p d n.object n.mode t)

pub needs_apart : (p d q e : ℕ) (ns : List Need) (t : LockTable) → (q == p && e == d) ≡ false →
    needs_touched p d ns t q e ≡ t q e
needs_apart p d q e [] t apart = refl
needs_apart p d q e (n ∷ ns) t apart =
    needs_apart p d q e ns (with_touch p d n.object n.mode t) apart
    ∙ touched_apart p d q e n.object n.mode t apart

-- what nothing is held of
pub nothing_held : (t : LockTable) (p d : ℕ) → ((o : Object) → t p d o ≡ Held.Free) → t p d ≡ untouched
nothing_held t p d free = fun_ext (λ o. free o)

-- a level began, and what it needs is touched
pub begun_placed : {B : Type 0} {P : _} (s u : Store B P) (t r : List (List Holds)) (p : ℕ)
    (gs hs : List GraftLevel) (log more : List (List Logged)) →
    IsPlaced s t p gs log → length gs < 4 → objects_of u ≡ objects_of s →
    length hs ≡ suc (length gs) → more ≡ [] ∷ log → AreSound (queue_of u) hs →
    ((d : ℕ) (o : Object) → suc (length gs) ≤ d → held r p d o ≡ Held.Free) → IsPlaced u r p hs more
begun_placed s u t r p gs hs log more h few same count is sound free =
    record {
      process = h.process;
      few = omega (arith, few, count);
      as_many = ap length is ∙ ap suc h.as_many ∙ sym count;
      unheld = λ d o le. free d o (omega (arith, le, count));
      levels = sound;
      undoable =
          subst (λ x. AllUndoable x (objects_of u).things) (sym is)
          (tt, subst (λ (x : Objects). AllUndoable log x.things) (sym same) h.undoable);
    }

-- and the locks of this process alone changed
pub locks_elsewhere : {B : Type 0} {P : _} (s u : Store B P) (t r : List (List Holds)) (p : ℕ) →
    IsElsewhereSame s u t t p → ((q d : ℕ) → q ≢ p → held r q d ≡ held t q d) →
    IsElsewhereSame s u t r p
locks_elsewhere s u t r p h others = record { world = h.world; living = h.living; others = others; memory = h.memory }
