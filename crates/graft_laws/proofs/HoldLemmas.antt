-- What levels hold after one more touch, and after several.
use Rattle.std.specs.Prelude.{◌≡◌, ◌&&◌, ◌||◌, Bool, true, false, cond, List, [], ◌∷◌}
use Rattle.std.proofs.Common.{◌⊎◌, refl, sym, ap, ◌∙◌, inl, inr}
use Rattle.std.proofs.lemmas.Bool.{cases_Bool}
use Rattle.kernel_model.specs.declared.Held.{Held}
use Rattle.kernel_model.specs.declared.Mode.{Mode}
use Rattle.kernel_model.specs.declared.Need.{Need}
use Rattle.kernel_model.specs.declared.Object.{Object}
use Rattle.kernel_model.specs.Objects.{same_object}
use Rattle.kernel_model.specs.Locks.{Touched, touch, touch_all, held_as, stronger, is_held, is_held_exclusively}
use Rattle.kernel_model.specs.Levels.{Level, touch_outermost, outermost_touched}
use Rattle.kernel_model.specs.InPlace.{is_changed_in}
use Rattle.kernel_model.specs.Alike.{is_exclusive, is_needed, is_needed_exclusively, is_held_in}
use Rattle.kernel_laws.proofs.LevelLemmas.{touch_all_holds, touch_here, stronger_right}
use Rattle.graft_laws.proofs.PointLemmas.{or_left, or_right}
use Rattle.call_laws.specs.NeedGrafts.{or_cases}

-- the stronger of two ways is one of holding where one of them is, and only there
pub stronger_held : (h k : Held) → is_held h ≡ true → is_held (stronger h k) ≡ true
stronger_held Held.Free k e = absurd cc
stronger_held Held.Shared Held.Free e = refl
stronger_held Held.Shared Held.Shared e = refl
stronger_held Held.Shared Held.Exclusive e = refl
stronger_held Held.Exclusive k e = refl

pub stronger_with : (h k : Held) → is_held k ≡ true → is_held (stronger h k) ≡ true
stronger_with Held.Free k e = e
stronger_with Held.Shared Held.Free e = refl
stronger_with Held.Shared Held.Shared e = refl
stronger_with Held.Shared Held.Exclusive e = refl
stronger_with Held.Exclusive k e = refl

pub stronger_from : (h k : Held) → is_held (stronger h k) ≡ true → (is_held h ≡ true) ⊎ (is_held k ≡ true)
stronger_from Held.Free k e = inr e
stronger_from Held.Shared k e = inl refl
stronger_from Held.Exclusive k e = inl refl

-- one touch
mode_held : (mode : Mode) → is_held (held_as mode) ≡ true
mode_held Mode.Shared = refl
mode_held Mode.Exclusive = refl

pub touch_held : (o : Object) (mode : Mode) (t : Touched) (a : Object) → is_held (t a) ≡ true →
    is_held (touch o mode t a) ≡ true
touch_held o mode t a h = held_by (same_object a o)
  where
    held_by : (b : Bool) → is_held (cond b (stronger (t a) (held_as mode)) (t a)) ≡ true
    held_by true = stronger_held (t a) (held_as mode) h
    held_by false = h

touch_gives : (o : Object) (mode : Mode) (t : Touched) (a : Object) → same_object a o ≡ true →
    is_held (touch o mode t a) ≡ true
touch_gives o mode t a e =
    ap (λ b. is_held (cond b (stronger (t a) (held_as mode)) (t a))) e
    ∙ stronger_with (t a) (held_as mode) (mode_held mode)

pub touch_from : (o : Object) (mode : Mode) (t : Touched) (a : Object) →
    is_held (touch o mode t a) ≡ true → (is_held (t a) ≡ true) ⊎ (same_object a o ≡ true)
touch_from o mode t a h = elim (cases_Bool (same_object a o)) [
  | inl same ↦ inr same
  | inr other ↦ inl (sym (ap (λ b. is_held (cond b (stronger (t a) (held_as mode)) (t a))) other) ∙ h)
]

-- several touches
pub touch_all_held : (ns : List Need) (t : Touched) (a : Object) → is_held (t a) ≡ true →
    is_held (touch_all ns t a) ≡ true
touch_all_held [] t a h = h
touch_all_held (n ∷ ns) t a h = touch_all_held ns (touch n.object n.mode t) a (touch_held n.object n.mode t a h)

pub touch_all_gives : (ns : List Need) (t : Touched) (a : Object) → is_needed a ns ≡ true →
    is_held (touch_all ns t a) ≡ true
touch_all_gives [] t a h = absurd cc
touch_all_gives (n ∷ ns) t a h = elim (or_cases (same_object a n.object) (is_needed a ns) h) [
  | inl here ↦ touch_all_held ns (touch n.object n.mode t) a (touch_gives n.object n.mode t a here)
  | inr later ↦ touch_all_gives ns (touch n.object n.mode t) a later
]

pub touch_all_from : (ns : List Need) (t : Touched) (a : Object) →
    is_held (touch_all ns t a) ≡ true → (is_held (t a) ≡ true) ⊎ (is_needed a ns ≡ true)
touch_all_from [] t a h = inl h
touch_all_from (n ∷ ns) t a h = elim (touch_all_from ns (touch n.object n.mode t) a h) [
  | inl first ↦ elim (touch_from n.object n.mode t a first) [
    | inl before ↦ inl before
    | inr same ↦ inr (or_left (same_object a n.object) (is_needed a ns) same)
  ]
  | inr later ↦ inr (or_right (same_object a n.object) (is_needed a ns) later)
]

-- level 0 touches one more object
pub touch_outermost_from : (o : Object) (ls : List Level) (a : Object) →
    is_held_in (touch_outermost o ls) a ≡ true → (is_held_in ls a ≡ true) ⊎ (same_object a o ≡ true)
touch_outermost_from o [] a h = inl h
touch_outermost_from o (l ∷ []) a h = elim (or_cases (is_held (touch o Mode.Exclusive l.touched a)) false h) [
  | inl here ↦ elim (touch_from o Mode.Exclusive l.touched a here) [
    | inl before ↦ inl (or_left (is_held (l.touched a)) false before)
    | inr same ↦ inr same
  ]
  | inr none ↦ absurd cc
]
touch_outermost_from o (l ∷ k ∷ ls) a h =
    elim (or_cases (is_held (l.touched a)) (is_held_in (touch_outermost o (k ∷ ls)) a) h) [
      | inl here ↦ inl (or_left (is_held (l.touched a)) (is_held_in (k ∷ ls) a) here)
      | inr outer ↦ elim (touch_outermost_from o (k ∷ ls) a outer) [
        | inl before ↦ inl (or_right (is_held (l.touched a)) (is_held_in (k ∷ ls) a) before)
        | inr same ↦ inr same
      ]
    ]

-- what level 0 holds exclusively is held
pub outermost_held : (ls : List Level) (o : Object) → outermost_touched ls o ≡ Held.Exclusive → is_held_in ls o ≡ true
outermost_held [] o h = absurd cc
outermost_held (l ∷ []) o h = ap (λ x. is_held x || false) h
outermost_held (l ∷ k ∷ ls) o h = or_right (is_held (l.touched o)) (is_held_in (k ∷ ls) o) (outermost_held (k ∷ ls) o h)

-- ---- what is held exclusively

-- what is needed exclusively is held so once it is touched
pub touch_all_takes : (ns : List Need) (t : Touched) (a : Object) →
    is_needed_exclusively a ns ≡ true → touch_all ns t a ≡ Held.Exclusive
touch_all_takes [] t a h = absurd cc
touch_all_takes (n ∷ ns) t a h =
    elim (or_cases (is_exclusive n.mode && same_object a n.object) (is_needed_exclusively a ns) h) [
      | inl here ↦ touch_all_holds ns (touch n.object n.mode t) a (taken_by n.mode (same_object a n.object) refl here)
      | inr later ↦ touch_all_takes ns (touch n.object n.mode t) a later
    ]
  where
    taken_by : (mode : Mode) (b : Bool) → same_object a n.object ≡ b →
        (is_exclusive mode && b) ≡ true → touch n.object mode t a ≡ Held.Exclusive
    taken_by Mode.Exclusive true e h =
        ap (λ c. cond c (stronger (t a) Held.Exclusive) (t a)) e
        ∙ stronger_right (t a) Held.Exclusive refl
    taken_by Mode.Exclusive false e h = absurd cc
    taken_by Mode.Shared b e h = absurd cc

-- level 0 holds exclusively what it just touched
pub touch_outermost_takes : (o : Object) (l : Level) (ls : List Level) →
    is_changed_in (touch_outermost o (l ∷ ls)) o ≡ true
touch_outermost_takes o l [] = ap (λ h. is_held_exclusively h || false) (touch_here o l.touched)
touch_outermost_takes o l (k ∷ ls) =
    or_right (is_held_exclusively (l.touched o)) (is_changed_in (touch_outermost o (k ∷ ls)) o)
    (touch_outermost_takes o k ls)

-- what is held exclusively is held
exclusive_held : (h : Held) → is_held_exclusively h ≡ true → is_held h ≡ true
exclusive_held Held.Free e = absurd cc
exclusive_held Held.Shared e = refl
exclusive_held Held.Exclusive e = refl

pub changed_held : (ls : List Level) (o : Object) → is_changed_in ls o ≡ true → is_held_in ls o ≡ true
changed_held [] o h = h
changed_held (l ∷ ls) o h = elim (or_cases (is_held_exclusively (l.touched o)) (is_changed_in ls o) h) [
  | inl here ↦ or_left (is_held (l.touched o)) (is_held_in ls o) (exclusive_held (l.touched o) here)
  | inr outer ↦ or_right (is_held (l.touched o)) (is_held_in ls o) (changed_held ls o outer)
]

-- ---- what is held exclusively was held so, or is needed so

pub stronger_changed : (h k : Held) → is_held_exclusively (stronger h k) ≡ true →
    (is_held_exclusively h ≡ true) ⊎ (is_held_exclusively k ≡ true)
stronger_changed Held.Free k e = inr e
stronger_changed Held.Shared Held.Free e = absurd cc
stronger_changed Held.Shared Held.Shared e = absurd cc
stronger_changed Held.Shared Held.Exclusive e = inr refl
stronger_changed Held.Exclusive k e = inl refl

mode_exclusive : (mode : Mode) → is_held_exclusively (held_as mode) ≡ true → is_exclusive mode ≡ true
mode_exclusive Mode.Shared e = e
mode_exclusive Mode.Exclusive e = e

touch_changed : (o : Object) (mode : Mode) (t : Touched) (a : Object) →
    is_held_exclusively (touch o mode t a) ≡ true →
    (is_held_exclusively (t a) ≡ true) ⊎ ((is_exclusive mode && same_object a o) ≡ true)
touch_changed o mode t a h = changed_by (same_object a o) h
  where
    both_true : (a : Bool) → a ≡ true → (a && true) ≡ true
    both_true a e = ap (λ b. b && true) e

    changed_by : (b : Bool) →
        is_held_exclusively (cond b (stronger (t a) (held_as mode)) (t a)) ≡ true →
        (is_held_exclusively (t a) ≡ true) ⊎ ((is_exclusive mode && b) ≡ true)
    changed_by true h =
        elim (stronger_changed (t a) (held_as mode) h) [
          | inl before ↦ inl before
          | inr now ↦ inr (both_true (is_exclusive mode) (mode_exclusive mode now))
        ]
    changed_by false h = inl h

pub touch_all_changed : (ns : List Need) (t : Touched) (a : Object) →
    is_held_exclusively (touch_all ns t a) ≡ true →
    (is_held_exclusively (t a) ≡ true) ⊎ (is_needed_exclusively a ns ≡ true)
touch_all_changed [] t a h = inl h
touch_all_changed (n ∷ ns) t a h = elim (touch_all_changed ns (touch n.object n.mode t) a h) [
  | inl first ↦ elim (touch_changed n.object n.mode t a first) [
    | inl before ↦ inl before
    | inr same ↦ inr (or_left (is_exclusive n.mode && same_object a n.object) (is_needed_exclusively a ns) same)
  ]
  | inr later ↦ inr (or_right (is_exclusive n.mode && same_object a n.object) (is_needed_exclusively a ns) later)
]

pub touch_outermost_changed : (o : Object) (ls : List Level) (a : Object) →
    is_changed_in (touch_outermost o ls) a ≡ true →
    (is_changed_in ls a ≡ true) ⊎ (same_object a o ≡ true)
touch_outermost_changed o [] a h = inl h
touch_outermost_changed o (l ∷ []) a h =
    elim (or_cases (is_held_exclusively (touch o Mode.Exclusive l.touched a)) false h) [
      | inl here ↦ elim (touch_changed o Mode.Exclusive l.touched a here) [
        | inl before ↦ inl (or_left (is_held_exclusively (l.touched a)) false before)
        | inr same ↦ inr same
      ]
      | inr none ↦ absurd cc
    ]
touch_outermost_changed o (l ∷ k ∷ ls) a h =
    elim (or_cases (is_held_exclusively (l.touched a))
    (is_changed_in (touch_outermost o (k ∷ ls)) a) h) [
      | inl here ↦ inl (or_left (is_held_exclusively (l.touched a)) (is_changed_in (k ∷ ls) a) here)
      | inr outer ↦ elim (touch_outermost_changed o (k ∷ ls) a outer) [
        | inl before ↦ inl (or_right (is_held_exclusively (l.touched a)) (is_changed_in (k ∷ ls) a) before)
        | inr same ↦ inr same
      ]
    ]

-- ---- level 0

-- a level inside others leaves level 0
pub outermost_inside : (n : Level) (ks : List Level) (o : Object) →
    outermost_touched ks o ≡ Held.Exclusive → outermost_touched (n ∷ ks) o ≡ Held.Exclusive
outermost_inside n [] o h = absurd cc
outermost_inside n (k ∷ ks) o h = h

-- level 0 holds exclusively what it just touched
pub touch_outermost_outer : (o : Object) (l : Level) (ls : List Level) →
    outermost_touched (touch_outermost o (l ∷ ls)) o ≡ Held.Exclusive
touch_outermost_outer o l [] = touch_here o l.touched
touch_outermost_outer o l (k ∷ ls) = outermost_inside l (touch_outermost o (k ∷ ls)) o (touch_outermost_outer o k ls)
