-- A log whose newest records are undone, and records that can still be undone.
use Rattle.std.proofs.Common.{◌≡◌, ℕ, suc, ◌<◌, List, [], ◌∷◌, ◌++◌, Some, length, arith}
use Rattle.std.proofs.Common.{refl, sym, ap, subst}
use Rattle.kernel_model.specs.declared.Inverse.{Inverse}
use Rattle.kernel_model.specs.Objects.{Things}
use Rattle.kernel_model.specs.Access.{undo}
use Rattle.graft_accessors.specs.Accesses.{CanBeUndone}
use Rattle.undo_calls.specs.UndoLevels.{Logged, found_of, innermost, newest, without_newest}
use Rattle.graft_levels.specs.Chains.{put_back, outer}
use Rattle.graft_levels.specs.Calls.{AreUndoable, AllUndoable}

-- a log without its newest record, which is i
pub record Popped (i : Logged) (log rest : List (List Logged)) : Type 0 where
  pub records : innermost log ≡ i ∷ innermost rest
  pub outer_same : outer rest ≡ outer log
  pub level : 0 < length rest

pub popped : (i : Logged) (log rest : List (List Logged)) → Some i ≡ newest log →
    rest ≡ without_newest log → Popped i log rest
popped i [] rest is left = absurd (cc)
popped i ([] ∷ log) rest is left = absurd (cc)
popped i ((j ∷ js) ∷ log) rest is left =
    let same : i ≡ j = cc in
    subst (λ r. Popped i ((j ∷ js) ∷ log) r) (sym left) (record {
      records = ap (λ x. x ∷ js) (sym same);
      outer_same = refl;
      level = omega arith;
    })

-- records that could be undone still can be
pub each_kept : (is : List Logged) (w u : Things) →
    ((i : Inverse) → CanBeUndone i w → CanBeUndone i u) → AreUndoable is w → AreUndoable is u
each_kept [] w u kept h = tt
each_kept (i ∷ is) w u kept h = (kept i.inverse h.0, each_kept is w u kept h.1)

pub all_kept : (log : List (List Logged)) (w u : Things) →
    ((i : Inverse) → CanBeUndone i w → CanBeUndone i u) → AllUndoable log w → AllUndoable log u
all_kept [] w u kept h = tt
all_kept (is ∷ log) w u kept h = (each_kept is w u kept h.0, all_kept log w u kept h.1)

-- after the newest of some records was undone the others still can be
pub rest_kept : (i : Logged) (is js : List Logged) (w u : Things) → is ≡ i ∷ js →
    ((k : Inverse) → CanBeUndone k w → CanBeUndone k u) → AreUndoable is w → AreUndoable js u
rest_kept i is js w u all kept h = each_kept js w u kept ((subst (λ rs. AreUndoable rs w) all h).1)

pub of_outer : (log : List (List Logged)) (w : Things) → AllUndoable log w → AllUndoable (outer log) w
of_outer [] w h = tt
of_outer (is ∷ log) w h = h.1

-- records of two levels
pub undo_both : (is js : List Logged) (w : Things) → put_back (is ++ js) w ≡ put_back js (put_back is w)
undo_both [] js w = refl
undo_both (i ∷ is) js w = undo_both is js (undo (found_of i) w)

-- how many levels a log has without the innermost one
pub outer_length : (log : List (List Logged)) (n : ℕ) → length log ≡ suc n → length (outer log) ≡ n
outer_length [] n h = absurd (omega arith)
outer_length (is ∷ log) n h = omega arith
