-- What hinders a step: a user lock, or a level of another call that holds what is needed.
use Rattle.std.specs.Prelude.{◌≡◌, ◌≢◌, ℕ, ◌<◌, ◌≤◌, ◌==◌, ◌&&◌, nat_lt, Bool, true, false, cond}
use Rattle.std.specs.Prelude.{not, List, [], ◌∷◌, ◌++◌, length, find, is_some, Option, Some, None}
use Rattle.std.specs.Prelude.{Contains, ◌⊎◌}
use Rattle.std.proofs.Common.{arith, refl, sym, ap, ◌∙◌, inl, inr}
use Rattle.std.proofs.lemmas.Bool.{cases_Bool, and_parts}
use Rattle.std.proofs.lemmas.Bool.Decides.{nat_tests}
use Rattle.kernel_model.specs.declared.Cause.{Cause}
use Rattle.kernel_model.specs.declared.Held.{Held}
use Rattle.kernel_model.specs.declared.Mode.{Mode}
use Rattle.kernel_model.specs.declared.Need.{Need}
use Rattle.kernel_model.specs.declared.Object.{Object}
use Rattle.kernel_model.specs.declared.Object.TheVariants.{Graft, OpenFile, Queue, Cache, Pol}
use Rattle.kernel_model.specs.World.{World, ImageTable, processes}
use Rattle.kernel_model.specs.Objects.{Accounts, same_object}
use Rattle.kernel_model.specs.Access.{early_refusal, is_ask, needed, accessed, asked_point, asked_objects, asked_graft}
use Rattle.kernel_model.specs.Locks.{LockTable, Hindrance, conflicts, outermost_holding, hinders}
use Rattle.kernel_model.specs.Locks.{lowest_holder, user_of, user_hindrance, hindrance_by}
use Rattle.kernel_model.specs.Locks.{first_hindrance}
use Rattle.kernel_model.specs.Meaning.{Meaning}
use Rattle.kernel_model.specs.Levels.{Level, code_of, touched_at}
use Rattle.kernel_model.specs.GraftStep.{is_spent, call_needs, instruction_needs, next_needs}
use Rattle.kernel_model.specs.Machine.{next_call}
use Rattle.kernel_model.specs.Kernel.{Kernel}
use Rattle.kernel_model.specs.Blocking.{levels_of, holds}
use Rattle.graft_laws.proofs.InPlaceLemmas.{row_low, row_high}
use Rattle.graft_laws.proofs.SoundCallLemmas.{contains_first, contains_later}
use Rattle.graft_laws.proofs.BesideLemmas.{depth_none}
use Rattle.call_laws.specs.NeedModes.{OneMode, first_wanted, later_wanted}

-- ---- what a search finds

pub found_passes : (test : ℕ → Bool) (xs : List ℕ) (x : ℕ) → find test xs ≡ Some x → test x ≡ true
found_passes test [] x h = absurd cc
found_passes test (y ∷ ys) x h = elim (cases_Bool (test y)) [
  | inl passes ↦ ap test (sym (same_number y x (sym (ap (λ b. cond b (Some y) (find test ys)) passes) ∙ h))) ∙ passes
  | inr fails ↦ found_passes test ys x (sym (ap (λ b. cond b (Some y) (find test ys)) fails) ∙ h)
]
  where
    same_number : (a b : ℕ) → Some a ≡ Some b → a ≡ b
    same_number a b h = cc

-- ---- the need that is hindered

-- one of these needs is hindered: by a user lock, or by a holder of its object
pub record IsHindered (t : LockTable) (p : ℕ) (ns : List Need) (h : Hindrance) : Type 0 where
  pub need : Need
  pub among : Contains ns need
  pub object : h.object ≡ need.object
  pub by : (h.by_user ≡ true) ⊎ ((h.by_user ≡ false) × (lowest_holder t p need.object need.mode ≡ Some h.holder))

pub hindered_is : (t : LockTable) (users : ℕ → Option ℕ) (p q : ℕ) (ns : List Need)
    (h : Hindrance) → first_hindrance t users p q ns ≡ Some h → IsHindered t p ns h
hindered_is t users p q [] h e = absurd cc
hindered_is t users p q (n ∷ ns) h e =
    by_holder (lowest_holder t p n.object n.mode) refl (hindered_is t users p q ns h) e
  where
    same_hindrance : (x y : Hindrance) → Some x ≡ Some y → x ≡ y
    same_hindrance x y h = cc

    later : IsHindered t p ns h → IsHindered t p (n ∷ ns) h
    later x = record { need = x.need; among = contains_later n x.need ns x.among; object = x.object; by = x.by }

    by_lock : (x : Option ℕ) → (first_hindrance t users p q ns ≡ Some h → IsHindered t p ns h) →
        elim (user_hindrance q n.object x) as (λ _. Option Hindrance) [
          | Some h ↦ Some h
          | None ↦ first_hindrance t users p q ns
        ] ≡ Some h → IsHindered t p (n ∷ ns) h
    by_lock None more e = later (more e)
    by_lock (Some x) more e = by_same (x == q) e
      where
        by_same : (b : Bool) → elim (cond {A = Option Hindrance} b None
            (Some (record { object = n.object; holder = x; by_user = true }))) as (λ _.
            Option Hindrance) [
              | Some h ↦ Some h
              | None ↦ first_hindrance t users p q ns
            ] ≡ Some h → IsHindered t p (n ∷ ns) h
        by_same true e = later (more e)
        by_same false e =
            let same = same_hindrance (record { object = n.object; holder = x; by_user = true }) h e in
            record {
              need = n;
              among = contains_first n ns;
              object = ap (λ (y : Hindrance). y.object) (sym same);
              by = inl (ap (λ (y : Hindrance). y.by_user) (sym same));
            }

    by_user : (b : Bool) → (first_hindrance t users p q ns ≡ Some h → IsHindered t p ns h) →
        elim (cond b (user_hindrance q n.object (user_of users n.object)) None) as (λ _. Option
        Hindrance) [ Some h ↦ Some h | None ↦ first_hindrance t users p q ns ] ≡ Some h →
        IsHindered t p (n ∷ ns) h
    by_user true more e = by_lock (user_of users n.object) more e
    by_user false more e = later (more e)

    by_holder : (x : Option ℕ) → lowest_holder t p n.object n.mode ≡ x →
        (first_hindrance t users p q ns ≡ Some h → IsHindered t p ns h) →
        elim (hindrance_by users q n x) as (λ _. Option Hindrance) [
          | Some h ↦ Some h
          | None ↦ first_hindrance t users p q ns
        ] ≡ Some h → IsHindered t p (n ∷ ns) h
    by_holder None is more e = by_user n.by_user more e
    by_holder (Some x) is more e =
        let same = same_hindrance (record { object = n.object; holder = x; by_user = false }) h e in
        record {
          need = n;
          among = contains_first n ns;
          object = ap (λ (y : Hindrance). y.object) (sym same);
          by = inr (ap (λ (y : Hindrance). y.by_user) (sym same), is ∙ ap (λ (y : Hindrance). Some y.holder) same);
        }

-- ---- the level that holds

-- another call's level holds an object against a mode
pub record HoldsAgainst (m : Meaning) (k : Kernel) (p : ℕ) (o : Object) (mode : Mode) (x : ℕ) : Type 0 where
  pub other : x ≢ p
  pub level : ℕ
  pub outermost : outermost_holding o mode (holds m k x) ≡ Some level
  pub below : level < length (levels_of m k x)

pub holder_holds : (m : Meaning) (k : Kernel) (p : ℕ) (o : Object) (mode : Mode) (x : ℕ) →
    lowest_holder (holds m k) p o mode ≡ Some x → HoldsAgainst m k p o mode x
holder_holds m k p o mode x h =
    let both = and_parts (not (x == p)) (hinders o mode (holds m k x))
    (found_passes (λ q. not (q == p) && hinders o mode (holds m k q)) processes x h) in
    level_by (outermost_holding o mode (holds m k x)) refl (differs x p both.0) both.1
  where
    differs : (x p : ℕ) → not (x == p) ≡ true → x ≢ p
    differs x p h e = grind (arith, nat_tests)

    free_not : (h : Held) → h ≡ Held.Free → conflicts h mode ≡ true → ⊥
    free_not Held.Free e h = cc
    free_not Held.Shared e h = cc
    free_not Held.Exclusive e h = cc

    low_number : (x : ℕ) → nat_lt x 16 ≡ true → x < 16
    low_number x h = grind (arith, nat_tests)

    high_number : (x : ℕ) → nat_lt x 16 ≡ false → 16 ≤ x
    high_number x h = grind (arith, nat_tests)

    low_depth : (d n : ℕ) → nat_lt d n ≡ true → d < n
    low_depth d n h = grind (arith, nat_tests)

    high_depth : (d n : ℕ) → nat_lt d n ≡ false → n ≤ d
    high_depth d n h = grind (arith, nat_tests)

    below_by : (d : ℕ) → conflicts (holds m k x d o) mode ≡ true → d < length (levels_of m k x)
    below_by d h = elim (cases_Bool (nat_lt x 16)) [
      | inr high ↦ absurd (free_not (holds m k x d o) (ap (λ (ls : List Level). touched_at ls d o)
          (row_high (levels_of m k) x (high_number x high))) h)
      | inl low ↦ elim (cases_Bool (nat_lt d (length (levels_of m k x)))) [
        | inl near ↦ low_depth d (length (levels_of m k x)) near
        | inr far ↦ absurd (free_not (holds m k x d o)
            (ap (λ (ls : List Level). touched_at ls d o)
            (row_low (levels_of m k) x (low_number x low))
            ∙ depth_none (levels_of m k x) d o (high_depth d (length (levels_of m k x)) far)) h)
      ]
    ]

    level_by : (d : Option ℕ) → outermost_holding o mode (holds m k x) ≡ d → x ≢ p →
        is_some d ≡ true → HoldsAgainst m k p o mode x
    level_by None e ne some = absurd cc
    level_by (Some d) e ne some =
        record {
          other = ne;
          level = d;
          outermost = e;
          below = below_by d
              (found_passes (λ d. conflicts (holds m k x d o) mode) (0 ∷ 1 ∷ 2 ∷ 3 ∷ []) d e);
        }

-- ---- needs of instructions have one mode

three_modes : (a b c : Need) → same_object a.object b.object ≡ false →
    same_object a.object c.object ≡ false → same_object b.object c.object ≡ false →
    OneMode (a ∷ b ∷ c ∷ [])
three_modes a b c ab ac bc = (
  first_wanted a (b ∷ c ∷ []),
  (
    later_wanted a b (b ∷ c ∷ []) ab ∙ first_wanted b (c ∷ []),
    (
      later_wanted a c (b ∷ c ∷ []) ac
          ∙ later_wanted b c (c ∷ []) bc ∙ first_wanted c [],
      tt,
    ),
  ),
)

-- an ask's objects
asked_by : (a b : Bool) (r0 q pt : ℕ) →
    OneMode (cond a (needed (OpenFile q r0) Mode.Shared ∷ needed (Pol 0) Mode.Shared ∷ [])
    (cond b (needed Cache Mode.Shared ∷ needed (Pol 1) Mode.Shared ∷ []) (needed Queue Mode.Shared
    ∷ needed (Pol 2) Mode.Shared ∷ [])) ++ needed (Graft q pt) Mode.Exclusive ∷ [])
unfolding same_object
asked_by true b r0 q pt =
    three_modes (needed (OpenFile q r0) Mode.Shared) (needed (Pol 0) Mode.Shared)
    (needed (Graft q pt) Mode.Exclusive) refl refl refl
asked_by false true r0 q pt =
    three_modes (needed Cache Mode.Shared) (needed (Pol 1) Mode.Shared)
    (needed (Graft q pt) Mode.Exclusive) refl refl refl
asked_by false false r0 q pt =
    three_modes (needed Queue Mode.Shared) (needed (Pol 2) Mode.Shared)
    (needed (Graft q pt) Mode.Exclusive) refl refl refl

-- a call's objects
call_modes : (v : World) (l : Level) (id : ℕ) (x : Option Cause) → OneMode (call_needs v l id x)
call_modes v l id (Some cause) = tt
call_modes v l id None = modes_by (is_ask id)
  where
    modes_by : (b : Bool) →
        OneMode (cond b (asked_objects id (l.machine.regs 0) l.owner ++ asked_graft id
        (l.machine.regs 0) l.owner ∷ []) (accessed id (l.machine.regs 0) l.owner ∷ []))
    modes_by true = asked_by (id == 13) (id == 14) (l.machine.regs 0) l.owner (asked_point id (l.machine.regs 0))
    modes_by false = (first_wanted (accessed id (l.machine.regs 0) l.owner) [], tt)

-- an instruction's objects
pub instruction_modes : (v : World) (images : ImageTable) (a : Accounts) (ls : List Level) →
    OneMode (next_needs v images a ls)
instruction_modes v images a [] = tt
instruction_modes v images a (l ∷ ls) = modes_by (is_spent a l) (next_call (code_of images a l.owner l.point) l.machine)
  where
    modes_by : (b : Bool) (x : Option ℕ) → OneMode (cond b [] (instruction_needs v l x))
    modes_by true x = tt
    modes_by false None = tt
    modes_by false (Some id) =
        call_modes v l id
        (early_refusal v.callable id (l.machine.regs 0) (l.machine.regs 1) l.owner)
