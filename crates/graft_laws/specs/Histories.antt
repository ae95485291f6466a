-- Where a history leads, beside the state that it is replayed from.
use Rattle.std.specs.Prelude.{◌≡◌, ◌≢◌, ℕ, ◌<◌, ◌==◌, true, false, List, [], ◌∷◌, length, Contains, Some, is_some, ⊤}
use Rattle.kernel_model.specs.declared.Cause.{Cause}
use Rattle.kernel_model.specs.declared.Held.{Held}
use Rattle.kernel_model.specs.declared.Object.{Object}
use Rattle.kernel_model.specs.declared.Object.TheVariants.{Graft, Acct}
use Rattle.kernel_model.specs.World.{World, ImageTable}
use Rattle.kernel_model.specs.Objects.{Objects, SameAt, SameThing}
use Rattle.kernel_model.specs.Meaning.{Meaning, Stage}
use Rattle.kernel_model.specs.Levels.{Level, Config, is_going_on, outermost_touched, level_at, drop_level}
use Rattle.kernel_model.specs.GraftStep.{micro}
use Rattle.kernel_model.specs.History.{Mark, Trace, begin, replay}
use Rattle.kernel_model.specs.InPlace.{is_changed_in}
use Rattle.kernel_model.specs.Sound.{IsSoundConfig}
use Rattle.kernel_model.specs.Alike.{ConfigsAlike, is_held_in}
use Rattle.kernel_model.specs.Laws.{Laws, IsStanding, IsInRange}
use Rattle.graft_laws.specs.Alike.{AsksAreHeld}

-- the levels outside level n, counted from the outermost
abbrev pub outside_of : ℕ → List Level → List Level
outside_of n [] = []
outside_of n (l ∷ ls) = elim (length ls == n) [ true ↦ ls | false ↦ outside_of n ls ]

-- the graft of each level stands
abbrev pub GraftsStand : Config → Type 0
GraftsStand c = (l : Level) → Contains c.levels l →
    is_some (c.now.accounts.graft l.owner l.point) ≡ true

-- the numbers of an object are in their ranges; those of a graft may be any, since none stands
-- outside them
abbrev pub HasRange : Object → Type 0
HasRange (Graft q pt) = ⊤
HasRange o = IsInRange o

-- A graft call that was replayed from a state.
pub record IsReplayed (v : World) (s : Objects) (c : Config) : Type 0 where
  pub sound : IsSoundConfig v c
  -- levels hold what they looked at of points that they asked
  pub asks : AsksAreHeld c.levels
  -- level 0 holds exclusively each graft that some level holds, and each account that some level
  -- holds so
  pub grafts : (q pt : ℕ) → is_held_in c.levels (Graft q pt) ≡ true →
      outermost_touched c.levels (Graft q pt) ≡ Held.Exclusive
  pub accounts : (q : ℕ) → is_changed_in c.levels (Acct q) ≡ true →
      outermost_touched c.levels (Acct q) ≡ Held.Exclusive
  pub ranges : (o : Object) → is_held_in c.levels o ≡ true → HasRange o
  -- what no level holds exclusively is as in the state
  pub now : (o : Object) → is_changed_in c.levels o ≡ false → SameAt o c.now s
  -- and a level found as in the state what no level outside it holds so
  pub kept : (n : ℕ) (l : Level) (o : Object) → level_at n c.levels ≡ Some l →
      is_changed_in (outside_of n c.levels) o ≡ false → SameThing o l.kept s.things

-- where a graft call begins
abbrev pub BeginningsReplay : Meaning → Type 0
BeginningsReplay m =
    (v : World) (images : ImageTable) (s : Objects) (p : ℕ) (t : Stage) (c : Config) → Laws m →
    IsStanding m v images s p t → begin m v images s p t ≡ Some c → GraftsStand c → IsReplayed v s c

-- after an instruction that doesn't end a level but by an answer to its asker
abbrev pub InstructionsReplay : Type 0
InstructionsReplay =
    (v : World) (images : ImageTable) (p : ℕ) (s : Objects) (c : Config) → IsReplayed v s c →
    is_going_on (micro v images p c).said ≡ true →
    IsReplayed v s (micro v images p c).config

-- wherever a history leads, if the graft of each level stands there
abbrev pub HistoriesReplay : Meaning → Type 0
HistoriesReplay m =
    (v : World) (images : ImageTable) (s : Objects) (p : ℕ) (t : Stage) (ks : List Mark)
    (now : Trace) → Laws m →
    IsStanding m v images s p t → replay m v images s p t ks ≡ Some now → GraftsStand now.config →
    IsReplayed v s now.config

-- after the drop of any level, if one is left; and else all but accounts and grafts is as in the
-- state
pub record DropsReplay : Type 0 where
  pub some : (v : World) (s : Objects) (c : Config) (n : ℕ) (cause : Cause) → IsReplayed v s c →
      (drop_level v c.now c.levels n cause).config.levels ≢ [] →
      IsReplayed v s (drop_level v c.now c.levels n cause).config
  pub none : (v : World) (s : Objects) (c : Config) (n : ℕ) (cause : Cause) (o : Object) →
      IsReplayed v s c →
      (drop_level v c.now c.levels n cause).config.levels ≡ [] → n < length c.levels →
      SameThing o (drop_level v c.now c.levels n cause).config.now.things s.things

-- ---- one history from two states

-- two traces have the same marks and pasts, and configs that are alike
pub record TracesAlike (t u : Trace) : Type 0 where
  pub config : ConfigsAlike t.config u.config
  pub marks : t.marks ≡ u.marks
  pub pasts : t.pasts ≡ u.pasts

-- A history that leads somewhere from a state leads to the like from another state that agrees on
-- what the call holds in the end.
abbrev pub HistoriesAlike : Meaning → Type 0
HistoriesAlike m =
    (v : World) (images : ImageTable) (s u : Objects) (p : ℕ) (t : Stage) (ks : List Mark)
    (now : Trace) → Laws m →
    IsStanding m v images s p t → IsStanding m v images u p t →
    replay m v images s p t ks ≡ Some now → GraftsStand now.config →
    ((o : Object) → is_held_in now.config.levels o ≡ true → SameAt o s u) →
    (other : Trace) × (replay m v images u p t ks ≡ Some other) × TracesAlike now other
