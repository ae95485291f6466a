-- What undoing makes of the one store of a kernel in place: the store of the abstract kernel below
-- a cut.
use Rattle.std.specs.Prelude.{◌≡◌, ℕ, ◌≤◌, ◌<◌, true, cond, nat_lt, length, List, [], ◌∷◌, Some}
use Rattle.std.specs.Prelude.{None, is_some, Contains}
use Rattle.kernel_model.specs.declared.Cause.{Cause}
use Rattle.kernel_model.specs.declared.Object.{Object}
use Rattle.kernel_model.specs.Objects.{Objects, SameAt, SameThing, at}
use Rattle.kernel_model.specs.Charges.{removed}
use Rattle.kernel_model.specs.Levels.{Level, drop_level, level_at, state_without}
use Rattle.kernel_model.specs.Laws.{Laws}
use Rattle.kernel_model.specs.Meaning.{Meaning}
use Rattle.kernel_model.specs.Kernel.{Kernel}
use Rattle.kernel_model.specs.InPlace.{Cut, no_cut, undo_cut, store_below}
use Rattle.kernel_model.specs.Sound.{count_of}
use Rattle.graft_laws.specs.Histories.{HasRange}
use Rattle.placed_laws.specs.Placed.{Placed, placed_levels}
use Rattle.placed_laws.specs.Stands.{StandsFor}

-- The one store with the records of these calls undone, those of the last call first: of each call
-- from its cut level on inward, newest first.
abbrev pub placed_undone : Placed → Cut → List ℕ → Objects
placed_undone x cut [] = x.objects
placed_undone x cut (p ∷ ps) = undo_cut (cut p) (placed_levels x p) (placed_undone x cut ps)

-- one call is cut, at this level
abbrev pub cut_at : (p d : ℕ) → Cut
cut_at p d = at p (Some d) no_cut

-- every call is cut at its outermost level
abbrev pub cut_all : Cut
cut_all p = Some 0

-- the calls of all processes are cut at their outermost levels
abbrev pub cut_calls : Cut
cut_calls p = cond (nat_lt p 16) (Some 0) None

-- Below the outermost levels of all calls in flight each thing is as it is committed.
abbrev pub UndoneIsCommitted : Meaning → Type 0
UndoneIsCommitted m =
    (k : Kernel) (o : Object) → SameThing o (store_below m k cut_all).things k.objects.things

-- Undoing in the one store, newest records first within each call, and call after call in any order,
-- gives what the abstract kernel's store has below the cut.
abbrev pub UndoneInPlace : Meaning → Type 0
UndoneInPlace m =
    (x : Placed) (k : Kernel) (cut : Cut) (ps : List ℕ) (o : Object) → Laws m → StandsFor m x k →
    HasRange o → ((p : ℕ) → count_of p ps ≤ 1) →
    ((p : ℕ) → is_some (cut p) ≡ true → Contains ps p) →
    SameAt o (placed_undone x cut ps) (store_below m k cut)

-- What the drop of a level leaves in the one store: each thing as the abstract kernel's store has it
-- below that level, and the accounts and grafts as they are, but for the level's graft, which is
-- taken out.
pub record LeavesTheStoreBelow (m : Meaning) (x : Placed) (k : Kernel) (p d : ℕ) (l : Level) :
    Type 0 where
  pub things : (o : Object) → HasRange o →
      SameThing o (state_without l x.objects).things (store_below m k (cut_at p d)).things
  pub accounts : (state_without l x.objects).accounts ≡ removed l.owner l.point x.objects.accounts

-- so it is with each level of each call
abbrev pub DropsLeaveTheStoreBelow : Meaning → Type 0
DropsLeaveTheStoreBelow m =
    (x : Placed) (k : Kernel) (p d : ℕ) (l : Level) → Laws m → StandsFor m x k →
    level_at d (placed_levels x p) ≡ Some l →
    LeavesTheStoreBelow m x k p d l

-- Undoing all calls in flight in the one store, newest records first within each call, and call
-- after call in any order, gives each thing as each abstract kernel has it committed that the kernel
-- in place stands for. Accounts and grafts stay as they are.
pub record UndoesToCommitted (m : Meaning) (x : Placed) : Type 0 where
  pub things : (k : Kernel) (ps : List ℕ) (o : Object) → StandsFor m x k → HasRange o →
      ((p : ℕ) → count_of p ps ≤ 1) → ((p : ℕ) → p < 16 → Contains ps p) →
      SameThing o (placed_undone x cut_calls ps).things k.objects.things
  pub accounts : (ps : List ℕ) →
      (placed_undone x cut_calls ps).accounts ≡ x.objects.accounts

-- so it is with every kernel in place
abbrev pub CallsUndoToCommitted : Meaning → Type 0
CallsUndoToCommitted m = (x : Placed) → UndoesToCommitted m x

-- What the drop of level d of the call of p made of the one store of a kernel in place: each thing
-- is as the store of each abstract kernel has it below that level that the kernel in place stood
-- for, and the accounts are as they were, but for the level's graft, which is taken out.
pub record LeadsToStoreBelow (m : Meaning) (x : Placed) (p d : ℕ) (u : Objects) : Type 0 where
  pub level : Level
  pub is : level_at d (placed_levels x p) ≡ Some level
  pub things : (k : Kernel) (o : Object) → StandsFor m x k → HasRange o →
      SameThing o u.things (store_below m k (cut_at p d)).things
  pub accounts : u.accounts ≡ removed level.owner level.point x.objects.accounts

-- so it is with the drop of each level that there is, for any cause
abbrev pub DropsLeadToStoreBelow : Meaning → Type 0
DropsLeadToStoreBelow m =
    (x : Placed) (p d : ℕ) (cause : Cause) → d < length (x.levels p) →
    LeadsToStoreBelow m x p d
    (drop_level x.world x.objects (placed_levels x p) d cause).config.now
