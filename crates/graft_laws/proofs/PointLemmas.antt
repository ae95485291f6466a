-- What a point's objects tell.
use Rattle.std.specs.Prelude.{◌≡◌, ℕ, ◌==◌, ◌&&◌, ◌||◌, not, nat_lt, Bool, true, false, cond, List}
use Rattle.std.specs.Prelude.{[], ◌∷◌, ◌++◌, length, is_some, None}
use Rattle.std.specs.List.{AllByRecursion}
use Rattle.std.proofs.Common.{◌⊎◌, arith, refl, subst, sym, ap, ◌∙◌, inl, inr}
use Rattle.std.proofs.lemmas.Bool.Decides.{nat_tests}
use Rattle.kernel_model.specs.declared.Mode.TheVariants.{Shared}
use Rattle.kernel_model.specs.declared.Need.{Need}
use Rattle.kernel_model.specs.declared.Object.{Object}
use Rattle.kernel_model.specs.declared.Object.TheVariants.{OpenFile, Queue, Cache, Pol}
use Rattle.kernel_model.specs.World.{World}
use Rattle.kernel_model.specs.Objects.{Things, SameThing, same_object}
use Rattle.kernel_model.specs.SameObject.{same_object_self}
use Rattle.kernel_model.specs.Policies.{PointKind, Ahead, Victim, Next, Serve, Stream, kind_of}
use Rattle.kernel_model.specs.Policies.{ahead_default, victim_among, frames_of, is_owned, lives}
use Rattle.kernel_model.specs.Policies.{nice_of, open_blocks, or_zero, default_by, args_by}
use Rattle.kernel_model.specs.Policies.{valid_by}
use Rattle.kernel_model.specs.Access.{early_refusal, needed, asked_point, asked_objects}
use Rattle.kernel_model.specs.Levels.{Level}
use Rattle.kernel_model.specs.GraftStep.{is_vain_ask}
use Rattle.kernel_model.specs.Alike.{is_exclusive, is_needed, is_needed_exclusively, is_held_in}
use Rattle.kernel_model.specs.Laws.{answer_objects}
use Rattle.graft_laws.specs.Alike.{point_objects, AreHeldBy}
use Rattle.call_laws.specs.NeedGrafts.{or_cases}

-- things have the same values of each of these objects
abbrev pub AreSame : List Object → Things → Things → Type 0
AreSame os w u = AllByRecursion (λ o. SameThing o w u) os

-- objects that are held, where things agree on what is held
pub held_same : (ls : List Level) (os : List Object) (w u : Things) →
    ((o : Object) → is_held_in ls o ≡ true → SameThing o w u) → AreHeldBy ls os → AreSame os w u
held_same ls [] w u h held = tt
held_same ls (o ∷ os) w u h held = (h o held.0, held_same ls os w u h held.1)

-- ---- what is the same then

pub default_same : (k : PointKind) (v : World) (q pt : ℕ) (w u : Things) →
    AreSame (point_objects k q pt) w u → default_by k v w q pt ≡ default_by k v u q pt
default_same Ahead v q pt w u h =
    ap (λ o. ahead_default v (w.pol 0) o) h.0 ∙ ap (λ y. ahead_default v y (u.file q pt)) h.1.0
default_same Victim v q pt w u h =
    ap (λ c. (or_zero (victim_among (w.pol 1) c (frames_of c q)), 0)) h.0
    ∙ ap (λ y. (or_zero (victim_among y u.cache (frames_of u.cache q)), 0)) h.1.0
default_same Next v q pt w u h = refl
default_same Serve v q pt w u h = refl
default_same Stream v q pt w u h = refl

pub args_same : (k : PointKind) (v : World) (q pt : ℕ) (w u : Things) →
    AreSame (point_objects k q pt) w u → args_by k v w q pt ≡ args_by k v u q pt
args_same Ahead v q pt w u h =
    ap (λ o. let d = ahead_default v (w.pol 0) o in d.0 ∷ d.1 ∷ open_blocks v o ∷ pt ∷ []) h.0
    ∙ ap (λ y. let d = ahead_default v y (u.file q pt) in d.0 ∷ d.1 ∷ open_blocks v (u.file q pt) ∷ pt ∷ []) h.1.0
args_same Victim v q pt w u h =
    ap (λ c. or_zero (victim_among (w.pol 1) c (frames_of c q)) ∷ 0 ∷ length (frames_of c q) ∷ 0 ∷ []) h.0
    ∙ ap (λ y. or_zero (victim_among y u.cache (frames_of u.cache q)) ∷ 0 ∷ length (frames_of u.cache q) ∷ 0 ∷ []) h.1.0
args_same Next v q pt w u h = ap (λ rows. q ∷ nice_of rows q ∷ length rows ∷ 0 ∷ []) h.0.0
args_same Serve v q pt w u h = refl
args_same Stream v q pt w u h = refl

pub vain_same : (k : PointKind) (q pt : ℕ) (w u : Things) → AreSame (point_objects k q pt) w u →
    is_vain_ask k w q pt ≡ is_vain_ask k u q pt
vain_same Ahead q pt w u h = ap (λ o. not (is_some o)) h.0
vain_same Victim q pt w u h = ap (λ c. length (frames_of c q) == 0) h.0
vain_same Next q pt w u h = refl
vain_same Serve q pt w u h = refl
vain_same Stream q pt w u h = refl

pub valid_same : (k : PointKind) (q : ℕ) (args : List ℕ) (r0 r1 : ℕ) (w u : Things) →
    AreSame (answer_objects k) w u → valid_by k w q args r0 r1 ≡ valid_by k u q args r0 r1
valid_same Ahead q args r0 r1 w u h = refl
valid_same Victim q args r0 r1 w u h = ap (λ c. is_owned c q r0) h.0
valid_same Next q args r0 r1 w u h = ap (λ rows. lives rows r0) h.0.0
valid_same Serve q args r0 r1 w u h = refl
valid_same Stream q args r0 r1 w u h = refl

-- what a point looks at tells whether an answer of it is valid
pub answer_of_point : (k : PointKind) (q pt : ℕ) (w u : Things) →
    AreSame (point_objects k q pt) w u → AreSame (answer_objects k) w u
answer_of_point Ahead q pt w u h = tt
answer_of_point Victim q pt w u h = (h.0, tt)
answer_of_point Next q pt w u h = (h.0, tt)
answer_of_point Serve q pt w u h = tt
answer_of_point Stream q pt w u h = tt

-- ---- what an ask needs

pub or_left : (a b : Bool) → a ≡ true → (a || b) ≡ true
or_left a b h = ap (λ x. x || b) h

pub or_right : (a b : Bool) → b ≡ true → (a || b) ≡ true
or_right true b h = refl
or_right false b h = h

-- an object of a list is needed
pub needed_here : (n : Need) (ns : List Need) → is_needed n.object (n ∷ ns) ≡ true
needed_here n ns = ap (λ b. b || is_needed n.object ns) (same_object_self n.object)

pub needed_later : (o : Object) (n : Need) (ns : List Need) → is_needed o ns ≡ true → is_needed o (n ∷ ns) ≡ true
needed_later o n ns h = or_right (same_object o n.object) (is_needed o ns) h

-- an ask to read ahead that isn't refused by its arguments names a point of that kind
ahead_range : (highest r0 r1 q : ℕ) → early_refusal highest 13 r0 r1 q ≡ None → nat_lt r0 4 ≡ true
ahead_range highest r0 r1 q h = grind (arith, nat_tests)

-- the objects that an ask needs are those of its point
pub asked_each : (P : Object → Type 0) (highest id r0 r1 q : ℕ) →
    early_refusal highest id r0 r1 q ≡ None →
    ((o : Object) → is_needed o (asked_objects id r0 q) ≡ true → P o) →
    AllByRecursion P (point_objects (kind_of (asked_point id r0)) q (asked_point id r0))
asked_each P highest id r0 r1 q early h =
    each_by (id == 13) (id == 14) (λ e. ahead_range highest r0 r1 q
    (ap (λ i. early_refusal highest i r0 r1 q) (sym (is_it id e)) ∙ early)) h
  where
    is_it : (id : ℕ) → (id == 13) ≡ true → id ≡ 13
    is_it id e = grind (arith, nat_tests)

    each_by : (a b : Bool) → (a ≡ true → nat_lt r0 4 ≡ true) →
        ((o : Object) →
        is_needed o
        (cond a (needed (OpenFile q r0) Shared ∷ needed (Pol 0) Shared ∷ [])
        (cond b (needed Cache Shared ∷ needed (Pol 1) Shared ∷ [])
        (needed Queue Shared ∷ needed (Pol 2) Shared ∷ []))) ≡ true → P o) →
        let pt = cond a r0 (cond b 4 5) in AllByRecursion P (point_objects (kind_of pt) q pt)
    each_by true b low h =
        subst (λ c. AllByRecursion P (point_objects (cond c Ahead (cond (r0 == 4) Victim
        (cond (r0 == 5) Next (cond (nat_lt r0 14) Serve Stream)))) q r0)) (sym (low refl)) (
          h (OpenFile q r0) (needed_here (needed (OpenFile q r0) Shared) (needed (Pol 0) Shared ∷ [])),
          (
            h (Pol 0) (needed_later (Pol 0) (needed (OpenFile q r0) Shared)
                (needed (Pol 0) Shared ∷ []) (needed_here (needed (Pol 0) Shared) [])),
            tt,
          ),
        )
    each_by false true low h = (
      h Cache (needed_here (needed Cache Shared) (needed (Pol 1) Shared ∷ [])),
      (
        h (Pol 1) (needed_later (Pol 1) (needed Cache Shared)
            (needed (Pol 1) Shared ∷ []) (needed_here (needed (Pol 1) Shared) [])),
        tt,
      ),
    )
    each_by false false low h = (h Queue (needed_here (needed Queue Shared) (needed (Pol 2) Shared ∷ [])), tt)

-- a list of needs and one more
pub needed_before : (o : Object) (ns : List Need) (n : Need) → is_needed o ns ≡ true → is_needed o (ns ++ n ∷ []) ≡ true
needed_before o [] n h = absurd cc
needed_before o (k ∷ ns) n h = elim (or_cases (same_object o k.object) (is_needed o ns) h) [
  | inl here ↦ or_left (same_object o k.object) (is_needed o (ns ++ n ∷ [])) here
  | inr later ↦ or_right (same_object o k.object) (is_needed o (ns ++ n ∷ [])) (needed_before o ns n later)
]

pub needed_last : (ns : List Need) (n : Need) → is_needed n.object (ns ++ n ∷ []) ≡ true
needed_last [] n = needed_here n []
needed_last (k ∷ ns) n = needed_later n.object k (ns ++ n ∷ []) (needed_last ns n)

-- what is needed of such a list
pub needed_cases : (o : Object) (ns : List Need) (n : Need) → is_needed o (ns ++ n ∷ []) ≡ true →
    (is_needed o ns ≡ true) ⊎ (same_object o n.object ≡ true)
needed_cases o [] n h = elim (or_cases (same_object o n.object) false h) [ inl same ↦ inr same | inr none ↦ absurd cc ]
needed_cases o (k ∷ ns) n h = elim (or_cases (same_object o k.object) (is_needed o (ns ++ n ∷ [])) h) [
  | inl here ↦ inl (or_left (same_object o k.object) (is_needed o ns) here)
  | inr later ↦ elim (needed_cases o ns n later) [
    | inl before ↦ inl (or_right (same_object o k.object) (is_needed o ns) before)
    | inr same ↦ inr same
  ]
]

-- the same of what is needed exclusively
pub taken_before : (o : Object) (ns : List Need) (n : Need) → is_needed_exclusively o ns ≡ true →
    is_needed_exclusively o (ns ++ n ∷ []) ≡ true
taken_before o [] n h = absurd cc
taken_before o (k ∷ ns) n h =
    elim (or_cases (is_exclusive k.mode && same_object o k.object) (is_needed_exclusively o ns) h) [
      | inl here ↦ or_left (is_exclusive k.mode && same_object o k.object) (is_needed_exclusively o (ns ++ n ∷ [])) here
      | inr later ↦ or_right (is_exclusive k.mode && same_object o k.object)
          (is_needed_exclusively o (ns ++ n ∷ [])) (taken_before o ns n later)
    ]

pub taken_last : (ns : List Need) (n : Need) → is_exclusive n.mode ≡ true →
    is_needed_exclusively n.object (ns ++ n ∷ []) ≡ true
taken_last [] n e =
    ap (λ b. b && same_object n.object n.object || false) e
    ∙ ap (λ b. b || false) (same_object_self n.object)
taken_last (k ∷ ns) n e =
    or_right (is_exclusive k.mode && same_object n.object k.object)
    (is_needed_exclusively n.object (ns ++ n ∷ [])) (taken_last ns n e)
