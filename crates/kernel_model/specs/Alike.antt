-- States and graft calls that agree in what matters.
use Rattle.std.specs.Prelude.{◌≡◌, ℕ, Bool, true, false, ◌&&◌, ◌||◌, List, [], ◌∷◌, map, option_map, Option, Some, ⊤}
use Rattle.std.specs.List.{list_any}
use Rattle.kernel_data.specs.declared.Need.{Need}
use Rattle.kernel_data.specs.declared.Object.{Object}
use Rattle.kernel_data.specs.declared.QueueRow.{QueueRow}
use Rattle.kernel_data.specs.declared.OpenRow.{OpenRow}
use Rattle.kernel_data.specs.declared.Mode.{Mode}
use Rattle.kernel_data.specs.World.{Image, ImageTable}
use Rattle.kernel_data.specs.Objects.{Objects, FrameValue, SameAt, SameThing, same_object}
use Rattle.kernel_data.specs.Policies.{lives}
use Rattle.kernel_model.specs.Locks.{is_held}
use Rattle.kernel_model.specs.Levels.{Level, Config, level_at}

-- ---- needed objects

-- the mode is exclusive
abbrev pub is_exclusive : Mode → Bool
is_exclusive Mode.Shared = false
is_exclusive Mode.Exclusive = true

-- an object is needed
abbrev pub is_needed : Object → List Need → Bool
is_needed o [] = false
is_needed o (n ∷ ns) = same_object o n.object || is_needed o ns

-- an object is needed exclusively
abbrev pub is_needed_exclusively : Object → List Need → Bool
is_needed_exclusively o [] = false
is_needed_exclusively o (n ∷ ns) = is_exclusive n.mode && same_object o n.object
    || is_needed_exclusively o ns

-- two states have the same values of these objects
abbrev pub AgreeOn : List Need → Objects → Objects → Type 0
AgreeOn ns s u = (o : Object) → is_needed o ns ≡ true → SameAt o s u

-- ---- states

-- the same processes live
abbrev pub SameLiving : Objects → Objects → Type 0
SameLiving s u = (q : ℕ) → lives s.things.queue q ≡ lives u.things.queue q

-- x and y agree on each object on which w and u agree
abbrev pub Keeps : (w u x y : Objects) → Type 0
Keeps w u x y = (o : Object) → SameAt o w u → SameAt o x y

-- an open file without its window
abbrev pub windowless : Option OpenRow → Option OpenRow
windowless o = option_map (λ (r : OpenRow). record r { window = 0 }) o

-- a frame without its mark
abbrev pub markless : Option FrameValue → Option FrameValue
markless x = option_map (λ (f : FrameValue). record f { mark = 0 }) x

-- the queue without nices
abbrev pub niceless : List QueueRow → List QueueRow
niceless rows = map (λ (r : QueueRow). record r { nice = 0 }) rows

-- the open files of a process agree, except for their windows
abbrev pub SameFiles : ℕ → Objects → Objects → Type 0
SameFiles p s u = (fd : ℕ) → windowless (s.things.file p fd) ≡ windowless (u.things.file p fd)

-- two states differ only in what grafts may change: cells, nices, windows, marks, parameters,
-- accounts and grafts
pub record AreAlike (s u : Objects) : Type 0 where
  pub files : (p : ℕ) → SameFiles p s u
  pub queue : niceless s.things.queue ≡ niceless u.things.queue
  pub handlers : s.things.handlers ≡ u.things.handlers
  pub lru : s.things.cache.lru ≡ u.things.cache.lru
  pub frames : (f : ℕ) → markless (s.things.cache.frame f) ≡ markless (u.things.cache.frame f)
  pub locks : (l : ℕ) → s.things.lock l ≡ u.things.lock l
  pub policies : (kind : ℕ) → (s.things.pol kind).chosen ≡ (u.things.pol kind).chosen

-- a table has at least the images of another
abbrev pub Extends : ImageTable → ImageTable → Type 0
Extends images more = (slot : ℕ) (i : Image) → images slot ≡ Some i → more slot ≡ Some i

-- ---- graft calls

-- the levels are the same one by one, except for what each found when it began
abbrev pub LevelsAlike : List Level → List Level → Type 0
LevelsAlike [] [] = ⊤
LevelsAlike (l ∷ ls) (k ∷ ks) = (record l { kept = k.kept } ≡ k) × LevelsAlike ls ks
LevelsAlike _ _ = ⊥

-- an object is held by one of these levels
abbrev pub is_held_in : List Level → Object → Bool
is_held_in ls o = list_any (λ (l : Level). is_held (l.touched o)) ls

-- two graft calls have the same levels, and the objects that these hold have the same values, now
-- and when each level began
pub record ConfigsAlike (c d : Config) : Type 0 where
  pub levels : LevelsAlike c.levels d.levels
  pub now : (o : Object) → is_held_in c.levels o ≡ true → SameAt o c.now d.now
  pub kept : (n : ℕ) (l k : Level) (o : Object) → level_at n c.levels ≡ Some l →
      level_at n d.levels ≡ Some k →
      is_held_in c.levels o ≡ true → SameThing o l.kept k.kept
