-- How a level holds objects, and the table of what each level of each call holds. A hold is free,
-- shared or exclusive; touching, merging and letting go change the table at one place. A step is
-- hindered by another call's hold, or by a user lock.
use Rattle.std.specs.Prelude.{ℕ, ◌-◌, ◌==◌, Bool, true, false, cond, not, ◌&&◌, nat_le, List, []}
use Rattle.std.specs.Prelude.{◌∷◌, Option, Some, None, find, is_some}
use Rattle.kernel_data.specs.declared.Object.{Object}
use Rattle.kernel_data.specs.declared.Object.TheVariants.{Lock}
use Rattle.kernel_data.specs.declared.Mode.{Mode}
use Rattle.kernel_data.specs.declared.Held.{Held}
use Rattle.kernel_data.specs.declared.Need.{Need}
use Rattle.kernel_data.specs.World.{processes}
use Rattle.kernel_data.specs.Objects.{same_object, at2}

-- ---- one level

-- how a level holds each object
abbrev pub Touched : Type 0
Touched = Object → Held

-- how an object is held after it was touched in a mode
abbrev pub held_as : Mode → Held
held_as Mode.Shared = Held.Shared
held_as Mode.Exclusive = Held.Exclusive

-- the stronger of two ways to hold an object
abbrev pub stronger : Held → Held → Held
stronger Held.Free h = h
stronger Held.Shared Held.Exclusive = Held.Exclusive
stronger Held.Shared h = Held.Shared
stronger Held.Exclusive h = Held.Exclusive

-- an object is held
abbrev pub is_held : Held → Bool
is_held Held.Free = false
is_held h = true

-- an object is held exclusively
abbrev pub is_held_exclusively : Held → Bool
is_held_exclusively Held.Exclusive = true
is_held_exclusively h = false

-- a hold conflicts with a mode unless both are shared; a free object conflicts with no mode
abbrev pub conflicts : Held → Mode → Bool
conflicts Held.Free mode = false
conflicts Held.Shared Mode.Shared = false
conflicts Held.Shared Mode.Exclusive = true
conflicts Held.Exclusive mode = true

-- no object is held
abbrev pub untouched : Touched
untouched o = Held.Free

-- touching an object in a mode holds it in the stronger of this way and the way in which it was
-- held before
abbrev pub touch : Object → Mode → Touched → Touched
touch o mode t a = cond (same_object a o) (stronger (t a) (held_as mode)) (t a)

-- objects are touched, each in the mode in which it is needed
abbrev pub touch_all : List Need → Touched → Touched
touch_all [] t = t
touch_all (n ∷ ns) t = touch_all ns (touch n.object n.mode t)

-- two levels become one: each object is held in the stronger way
abbrev pub joined : Touched → Touched → Touched
joined t u a = stronger (t a) (u a)

-- ---- the table of all levels

-- how each process's call holds objects at each of its levels; the outermost is level 0
abbrev pub LockTable : Type 0
LockTable = (process level : ℕ) → Touched

-- nothing is held
abbrev pub no_locks : LockTable
no_locks p d = untouched

-- a level touches an object
abbrev pub with_touch : (p d : ℕ) → Object → Mode → LockTable → LockTable
with_touch p d o mode t = at2 p d (touch o mode (t p d)) t

-- what a level above 0 holds goes to the level outside it
abbrev pub merge_level : (p d : ℕ) → LockTable → LockTable
merge_level p d t = at2 p d untouched (at2 p (d - 1) (joined (t p d) (t p (d - 1))) t)

-- a level and those further inward release what they hold
abbrev pub release_from : (p d : ℕ) → LockTable → LockTable
release_from p d t q e = cond (q == p && nat_le d e) untouched (t q e)

-- the outermost level whose hold on the object conflicts with the mode
abbrev pub outermost_holding : Object → Mode → (ℕ → Touched) → Option ℕ
outermost_holding o mode levels = find (λ d. conflicts (levels d o) mode) (0 ∷ 1 ∷ 2 ∷ 3 ∷ [])

-- a call's hold on an object conflicts with a mode
abbrev pub hinders : Object → Mode → (ℕ → Touched) → Bool
hinders o mode levels = is_some (outermost_holding o mode levels)

-- the lowest process, except p, with a level whose hold on the object conflicts with the mode
abbrev pub lowest_holder : LockTable → ℕ → Object → Mode → Option ℕ
lowest_holder t p o mode = find (λ q. not (q == p) && hinders o mode (t q)) processes

-- ---- what hinders a step

-- an object that a step needs, the process that holds it, and whether it holds it by a user lock
pub record Hindrance : Type 0 where
  pub object : Object
  pub holder : ℕ
  pub by_user : Bool

-- the process that holds an object as a user lock
abbrev pub user_of : (ℕ → Option ℕ) → Object → Option ℕ
user_of users (Lock u) = users u
user_of users _ = None

-- a held user lock hinders, unless q itself holds it
abbrev pub user_hindrance : ℕ → Object → Option ℕ → Option Hindrance
user_hindrance q o None = None
user_hindrance q o (Some h) =
    cond (h == q) None (Some (record { object = o; holder = h; by_user = true }))

-- what hinders one need: a call that holds its object; otherwise a user lock, if that counts
abbrev pub hindrance_by : (ℕ → Option ℕ) → ℕ → Need → Option ℕ → Option Hindrance
hindrance_by users q n (Some h) = Some (record { object = n.object; holder = h; by_user = false })
hindrance_by users q n None =
    cond n.by_user (user_hindrance q n.object (user_of users n.object)) None

-- The first hindrance of a step of p is the first of its needs, in order, that another call holds
-- in conflict or that is another's user lock; q's user locks don't hinder it.
abbrev pub first_hindrance : LockTable → (users : ℕ → Option ℕ) → (p q : ℕ) → List Need →
    Option Hindrance
first_hindrance t users p q [] = None
first_hindrance t users p q (n ∷ ns) =
    elim (hindrance_by users q n (lowest_holder t p n.object n.mode)) [
      | Some h ↦ Some h
      | None ↦ first_hindrance t users p q ns
    ]
