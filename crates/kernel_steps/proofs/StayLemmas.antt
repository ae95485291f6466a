-- The levels of a call stay in place where their owner lives and what they hold exclusively stays.
use Rattle.std.proofs.Common.{◌≡◌, ℕ, suc, ◌+◌, ◌*◌, ◌≤◌, true, List, [], ◌∷◌, map, length, refl}
use Rattle.std.proofs.Common.{ap, sym, subst, ◌∙◌, arith, Option}
use Rattle.std.specs.Prelude.{Contains, is_some}
use Rattle.kernel_model.specs.declared.Inverse.{Inverse}
use Rattle.kernel_model.specs.declared.Inverse.TheVariants.{Cell, Nice, Window, Mark, Tune, Segment}
use Rattle.kernel_model.specs.declared.QueueRow.{QueueRow}
use Rattle.kernel_model.specs.World.{ImageTable}
use Rattle.kernel_model.specs.Objects.{Objects, Accounts, GraftValue, CacheValue, PolValue, Things, SameAt}
use Rattle.kernel_model.specs.Policies.{lives}
use Rattle.kernel_model.specs.Access.{Found, changed_by, in_range, param_top, object_of_inverse}
use Rattle.kernel_model.specs.Boxed.{IsInside}
use Rattle.kernel_model.specs.Locks.{LockTable}
use Rattle.kernel_model.specs.Levels.{Level, code_in, image_of, limit_in}
use Rattle.graft_levels.specs.UndoLevels.{Logged, found_of, innermost}
use Rattle.graft_levels.specs.Cpu.{machine_of}
use Rattle.graft_accessors.specs.Accesses.{CanBeUndone}
use Rattle.graft_levels.specs.declared.GraftLevel.{GraftLevel}
use Rattle.graft_levels.specs.Chains.{put_back, level_in, levels_in, outer}
use Rattle.placed_laws.specs.Owners.{IsOwn, AreOwn}
use Rattle.running_kernel.specs.Owned.{AreOwned}
use Rattle.graft_levels.specs.Calls.{AreSound, AreInside, AreUndoable, AllUndoable, RunsInside}

-- ---- elements

first : {A : Type 0} (x : A) (xs : List A) → Contains (x ∷ xs) x
first x xs = (0, omega arith, refl)

later : {A : Type 0} (x y : A) (xs : List A) → Contains xs y → Contains (x ∷ xs) y
later x y xs c = (suc c.0, omega (arith, c.1), c.2)

-- ---- one record

-- a record of a process that lives can still be undone where its object stays
can_still : (o : ℕ) (i : Inverse) (s u : Objects) → IsOwn o i → lives u.things.queue o ≡ true →
    SameAt (object_of_inverse i) u s → CanBeUndone i s.things → CanBeUndone i u.things
can_still o (Cell q k v) s u own live same can = (ap (lives u.things.queue) own ∙ live, can.1)
can_still o (Nice q v) s u own live same can = (ap (lives u.things.queue) own ∙ live, can.1)
can_still o (Window q fd v) s u own live same can =
    (ap (lives u.things.queue) own ∙ live, can.1, ap is_some same ∙ can.2, can.3)
can_still o (Mark f v) s u own live same can = ap (λ (c : CacheValue). is_some (c.frame f)) same ∙ can
can_still o (Tune kind k v) s u own live same can =
    (can.0, ap (λ (p : PolValue). in_range (param_top kind p.chosen) k v) same ∙ can.1)
can_still o (Segment q pt) s u own live same can = can

-- so can some
are_still : (o : ℕ) (is : List Logged) (s u : Objects) → AreOwn o (map found_of is) → lives u.things.queue o ≡ true →
    ((i : Found) → Contains (map found_of is) i → SameAt (changed_by i) u s) →
    AreUndoable is s.things → AreUndoable is u.things
are_still o [] s u own live same can = tt
are_still o (i ∷ is) s u own live same can = (
  can_still o i.inverse s u own.0 live (same (found_of i) (first (found_of i) (map found_of is))) can.0,
  are_still o is s u own.1 live (λ j has. same j (later (found_of i) j (map found_of is) has)) can.1,
)

-- and all
pub all_still : (o q : ℕ) (ram : List ℕ) (t : LockTable) (gs : List GraftLevel)
    (log : List (List Logged)) (w : Things) (s u : Objects) → length log ≡ length gs →
    AreOwned o gs log → lives u.things.queue o ≡ true →
    ((l : Level) (i : Found) → Contains (levels_in q ram t gs log w) l → Contains l.records i →
    SameAt (changed_by i) u s) → AllUndoable log s.things → AllUndoable log u.things
all_still o q ram t gs [] w s u n own live same can = tt
all_still o q ram t [] (is ∷ log) w s u n own live same can = absurd (omega (arith, n))
all_still o q ram t (g ∷ gs) (is ∷ log) w s u n own live same can = (
  are_still o is s u own.1 live (λ i has. same (level_in q (length gs) ram t g is (put_back is w))
      i (first (level_in q (length gs) ram t g is (put_back is w))
      (levels_in q ram t gs log (put_back is w))) has) can.0,
  all_still o q ram t gs log (put_back is w) s u (omega (arith, n)) own.2 live
      (λ l i has own. same l i (later (level_in q (length gs) ram t g is (put_back is w)) l
      (levels_in q ram t gs log (put_back is w)) has) own) can.1,
)

-- ---- grafts that stay

runs_still : (images : ImageTable) (a b : Accounts) (p d : ℕ) (g : GraftLevel) →
    b.graft g.owner g.point ≡ a.graft g.owner g.point → RunsInside images a p d g →
    RunsInside images b p d g
runs_still images a b p d g same h =
    record {
      count = subst (λ (v : Option GraftValue). g.count ≤ limit_in v) (sym same) h.count;
      inside =
          λ ram. subst (λ (v : Option GraftValue). IsInside (code_in (image_of images v))
          (4 * p + d) (machine_of g.machine ram)) (sym same) (h.inside ram);
    }

pub inside_still : (images : ImageTable) (a b : Accounts) (q : ℕ) (ram : List ℕ) (t : LockTable)
    (gs : List GraftLevel) (log : List (List Logged)) (w : Things) →
    ((l : Level) → Contains (levels_in q ram t gs log w) l →
    b.graft l.owner l.point ≡ a.graft l.owner l.point) → AreInside images a q gs →
    AreInside images b q gs
inside_still images a b q ram t [] log w same h = tt
inside_still images a b q ram t (g ∷ gs) log w same h =
    let l : Level = level_in q (length gs) ram t g (innermost log) (put_back (innermost log) w) in
    let ls = levels_in q ram t gs (outer log) (put_back (innermost log) w) in (
      runs_still images a b q (length gs) g (same l (first l ls)) h.0,
      inside_still images a b q ram t gs (outer log) (put_back (innermost log) w)
          (λ k has. same k (later l k ls has)) h.1,
    )

-- levels stay sound where their owner lives
pub sound_still : (o : ℕ) (queue rows : List QueueRow) (gs : List GraftLevel) (log : List
    (List Logged)) → AreOwned o gs log → lives rows o ≡ true → AreSound queue gs → AreSound rows gs
sound_still o queue rows [] log own live h = tt
sound_still o queue rows (g ∷ gs) log own live h =
    (record { lives = ap (lives rows) own.0 ∙ live }, h.1, sound_still o queue rows gs (outer log) own.2 live h.2)
