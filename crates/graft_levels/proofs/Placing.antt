-- Levels stay in place, and what isn't theirs stays as it was.
use Rattle.std.proofs.Common.{◌≡◌, ◌≢◌, ℕ, suc, ◌<◌, ◌≤◌, List, ◌∷◌, length, arith, sym, ◌∙◌, ap, subst, slice_index}
use Rattle.kernel_model.specs.declared.Inverse.{Inverse}
use Rattle.kernel_model.specs.declared.Object.{Object}
use Rattle.kernel_model.specs.declared.Held.{Held}
use Rattle.kernel_model.specs.declared.Mode.{Mode}
use Rattle.kernel_model.specs.Locks.{LockTable, release_from, with_touch}
use Rattle.kernel_model.specs.Policies.{lives}
use Rattle.lock_table.specs.declared.Holds.{Holds}
use Rattle.lock_table.specs.Masks.{held}
use Rattle.kernel_state.specs.declared.Store.{Store}
use Rattle.kernel_state.specs.Stores.{world_of_store, objects_of, queue_of}
use Rattle.graft_accessors.specs.Accesses.{CanBeUndone}
use Rattle.graft_levels.specs.declared.GraftLevel.{GraftLevel}
use Rattle.graft_levels.specs.Chains.{outer}
use Rattle.graft_levels.specs.Calls.{AreSound, AllUndoable, IsPlaced, IsElsewhereSame}
use Rattle.undo_calls.specs.UndoLevels.{Logged, merged}
use Rattle.graft_levels.proofs.Completing.{merged_undoable, merged_length}
use Rattle.graft_levels.proofs.Undoing.{all_kept, of_outer, outer_length}
use Rattle.graft_levels.proofs.Conditions.{still_sound}
use Rattle.graft_levels.proofs.Views.{released_free, released_others}
use Rattle.graft_levels.proofs.Holding.{touched_apart}
use Rattle.std.proofs.lemmas.Bool.Decides.{nat_tests}

-- a level was undone, and let go
pub ended_placed : {B : Type 0} {P : _} (s u : Store B P) (t r : List (List Holds)) (p n : ℕ)
    (gs : List GraftLevel) (log rest : List (List Logged)) →
    p < 16 → length gs < 4 → length log ≡ suc (length gs) → AreSound (queue_of s) gs →
    AllUndoable log (objects_of s).things →
    ((q : ℕ) → lives (queue_of u) q ≡ lives (queue_of s) q) →
    ((i : Inverse) → CanBeUndone i (objects_of s).things → CanBeUndone i (objects_of u).things) → rest ≡ outer log →
    held r ≡ release_from p n (held t) → n ≡ length gs → IsPlaced u r p gs rest
ended_placed s u t r p n gs log rest process few as_many sound undoable living kept is held_is count =
    record {
      process = process;
      few = omega (arith, few);
      as_many = ap length is ∙ outer_length log (length gs) as_many;
      unheld = λ d o le. released_free p n d o (held t) (held r) held_is (omega (arith, le, count));
      levels = still_sound (queue_of s) (queue_of u) gs living sound;
      undoable =
          subst (λ x. AllUndoable x (objects_of u).things) (sym is)
          (of_outer log _ (all_kept log (objects_of s).things _ kept undoable));
    }

-- other levels, as many
pub levels_placed : {B : Type 0} {P : _} (s : Store B P) (t : List (List Holds)) (p : ℕ)
    (gs hs : List GraftLevel) (log : List (List Logged)) →
    IsPlaced s t p gs log → length hs ≡ length gs → AreSound (queue_of s) hs → IsPlaced s t p hs log
levels_placed s t p gs hs log h count sound =
    record {
      process = h.process;
      few = omega (arith, h.few, count);
      as_many = h.as_many ∙ sym count;
      unheld = λ d o le. h.unheld d o (omega (arith, le, count));
      levels = sound;
      undoable = h.undoable;
    }

-- ---- what stays

pub ended_elsewhere : {B : Type 0} {P : _} (s u : Store B P) (t r : List (List Holds)) (p n : ℕ) →
    world_of_store u ≡ world_of_store s → ((q : ℕ) → lives (queue_of u) q ≡ lives (queue_of s) q) →
    u.ram ≡ s.ram → held r ≡ release_from p n (held t) → IsElsewhereSame s u t r p
ended_elsewhere s u t r p n world living memory held_is =
    record {
      world = world;
      living = living;
      others = λ q d apart. released_others p n q d (held t) (held r) held_is apart;
      memory = λ a beyond. ap (λ m. slice_index m a) memory;
    }

pub elsewhere_twice : {B : Type 0} {P : _} (s u v : Store B P) (t r l : List (List Holds)) (p : ℕ) →
    IsElsewhereSame s u t r p → IsElsewhereSame u v r l p → IsElsewhereSame s v t l p
elsewhere_twice s u v t r l p h k =
    record {
      world = k.world ∙ h.world;
      living = λ q. k.living q ∙ h.living q;
      others = λ q d apart. k.others q d apart ∙ h.others q d apart;
      memory = λ a beyond. k.memory a beyond ∙ h.memory a beyond;
    }

-- ---- a level goes on and touched an object

pub touched_placed : {B : Type 0} {P : _} (s u : Store B P) (t r : List (List Holds)) (p n : ℕ) (o :
    Object) (m : Mode) (g : GraftLevel) (gs hs : List GraftLevel) (log rest : List (List Logged)) →
    IsPlaced s t p (g ∷ gs) log → ((q : ℕ) → lives (queue_of u) q ≡ lives (queue_of s) q) →
    length hs ≡ suc (length gs) → AreSound (queue_of s) hs →
    held r ≡ with_touch p n o m (held t) → n ≡ length gs → length rest ≡ length log →
    AllUndoable rest (objects_of u).things → IsPlaced u r p hs rest
touched_placed s u t r p n o m g gs hs log rest h living many sound held_is count same undoable =
    record {
      process = h.process;
      few = omega (arith, many, h.few);
      as_many = same ∙ h.as_many ∙ sym many;
      unheld =
          λ d a le. ap (λ (x : LockTable). x p d a) held_is ∙ ap (λ x. x a)
          (touched_apart p n p d o m (held t) (grind (arith, nat_tests, le, many, count)))
          ∙ h.unheld d a (omega (arith, le, many));
      levels = still_sound (queue_of s) (queue_of u) hs living sound;
      undoable = undoable;
    }

pub touched_elsewhere : {B : Type 0} {P : _} (s u : Store B P) (t r : List (List Holds)) (p n : ℕ)
    (o : Object) (m : Mode) → world_of_store u ≡ world_of_store s →
    ((q : ℕ) → lives (queue_of u) q ≡ lives (queue_of s) q) → u.ram ≡ s.ram →
    held r ≡ with_touch p n o m (held t) → IsElsewhereSame s u t r p
touched_elsewhere s u t r p n o m world living memory held_is =
    record {
      world = world;
      living = living;
      others =
          λ q d apart. ap (λ (x : LockTable). x q d) held_is
          ∙ touched_apart p n q d o m (held t) (grind (arith, nat_tests, apart));
      memory = λ a beyond. ap (λ x. slice_index x a) memory;
    }

-- ---- the locks of this process alone change

pub locks_placed : {B : Type 0} {P : _} (s : Store B P) (t r : List (List Holds)) (p : ℕ)
    (gs hs : List GraftLevel) (log : List (List Logged)) →
    IsPlaced s t p gs log → hs ≡ gs →
    ((d : ℕ) (o : Object) → length gs ≤ d → held r p d o ≡ Held.Free) → IsPlaced s r p hs log
locks_placed s t r p gs hs log h same free =
    subst (λ xs. IsPlaced s r p xs log) (sym same)
    (record {
      process = h.process;
      few = h.few;
      as_many = h.as_many;
      unheld = free;
      levels = h.levels;
      undoable = h.undoable;
    })

pub before_elsewhere : {B : Type 0} {P : _} (s u : Store B P) (t r : List (List Holds)) (p : ℕ) →
    IsElsewhereSame s u r r p → ((q d : ℕ) → q ≢ p → held r q d ≡ held t q d) →
    IsElsewhereSame s u t r p
before_elsewhere s u t r p h others = record { world = h.world; living = h.living; others = others; memory = h.memory }

-- ---- a level ends with its answer, whose records go outwards

pub completed_placed : {B : Type 0} {P : _} (s u : Store B P) (t r : List (List Holds)) (p : ℕ)
    (g : GraftLevel) (gs hs : List GraftLevel) (log more less : List (List Logged)) →
    IsPlaced s t p (g ∷ gs) log → queue_of u ≡ queue_of s → length hs ≡ length gs → AreSound (queue_of s) hs →
    ((d : ℕ) (o : Object) → length gs ≤ d → held r p d o ≡ Held.Free) → length more ≡ length log →
    AllUndoable more (objects_of u).things → less ≡ merged more → IsPlaced u r p hs less
completed_placed s u t r p g gs hs log more less h queue count sound free same undoable is =
    record {
      process = h.process;
      few = omega (arith, h.few, count);
      as_many = merged_length more less (length gs) is (same ∙ h.as_many) ∙ sym count;
      unheld = λ d o le. free d o (omega (arith, le, count));
      levels = subst (λ rows. AreSound rows hs) (sym queue) sound;
      undoable = merged_undoable more less (objects_of u).things is undoable;
    }
