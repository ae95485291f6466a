-- Where no call holds anything, nothing hinders a piece of a call that waits for no user lock of another process.
use Rattle.std.proofs.Common.{◌≡◌, ℕ, suc, Bool, true, false, cond, not, ◌&&◌, ◌==◌, List, [], ◌∷◌}
use Rattle.std.proofs.Common.{refl, ap, sym, ◌∙◌, arith, Option, Some, None}
use Rattle.std.specs.Prelude.{find, Contains}
use Rattle.kernel_data.specs.declared.Need.{Need}
use Rattle.kernel_data.specs.declared.Mode.{Mode}
use Rattle.kernel_data.specs.declared.Object.{Object}
use Rattle.kernel_data.specs.declared.Object.TheVariants.{Lock}
use Rattle.kernel_data.specs.declared.SysCall.{SysCall}
use Rattle.kernel_data.specs.declared.SysCall.TheVariants.{TakeLock}
use Rattle.kernel_model.specs.Alone.{is_lock}
use Rattle.kernel_data.specs.World.{processes}
use Rattle.kernel_model.specs.Laws.{waits_for_user}
use Rattle.running_kernel.specs.Idle.{IsFreeOfUsers}
use Rattle.graft_levels.specs.UserNeeds.{needs_no_user}
use Rattle.kernel_model.specs.Locks.{LockTable, Hindrance, no_locks, hinders, lowest_holder}
use Rattle.kernel_model.specs.Locks.{user_of, user_hindrance, hindrance_by, first_hindrance}

none_found : (test : ℕ → Bool) (xs : List ℕ) → ((x : ℕ) → test x ≡ false) → find test xs ≡ None
none_found test [] h = refl
none_found test (x ∷ xs) h = ap (λ b. cond b (Some x) (find test xs)) (h x) ∙ none_found test xs h

and_false : (b : Bool) → (b && false) ≡ false
and_false true = refl
and_false false = refl

-- nobody holds anything
nobody_holds : (p : ℕ) (o : Object) (mode : Mode) → lowest_holder no_locks p o mode ≡ None
nobody_holds p o mode =
    none_found (λ q. not (q == p) && hinders o mode (no_locks q)) processes
    (λ q. and_false (not (q == p)))

-- a need that nobody holds, and no user lock's holder hinders
free_need : (users : ℕ → Option ℕ) (p q : ℕ) (n : Need) (ns : List Need) (found : Option ℕ) →
    lowest_holder no_locks p n.object n.mode ≡ found → found ≡ None →
    cond n.by_user (user_hindrance q n.object (user_of users n.object)) None ≡ None →
    first_hindrance no_locks users p q (n ∷ ns) ≡ first_hindrance no_locks users p q ns
free_need users p q n ns found is none user =
    ap (λ (h : Option ℕ). by_found (hindrance_by users q n h)) (is ∙ none) ∙ ap by_found user
  where
    by_found : Option Hindrance → Option Hindrance
    by_found (Some h) = Some h
    by_found None = first_hindrance no_locks users p q ns

-- what hinders the first need, or else what hinders the rest
abbrev pub or_else : Option Hindrance → Option Hindrance → Option Hindrance
or_else (Some h) rest = Some h
or_else None rest = rest

-- the first of some needs, where nobody holds anything
pub user_first : (users : ℕ → Option ℕ) (p q : ℕ) (n : Need) (ns : List Need) →
    first_hindrance no_locks users p q (n ∷ ns)
    ≡ or_else (cond n.by_user (user_hindrance q n.object (user_of users n.object)) None)
    (first_hindrance no_locks users p q ns)
user_first users p q n ns =
    ap (λ (h : Option ℕ). by_found (hindrance_by users q n h)) (nobody_holds p n.object n.mode)
    ∙ same (cond n.by_user (user_hindrance q n.object (user_of users n.object)) None)
  where
    by_found : Option Hindrance → Option Hindrance
    by_found (Some h) = Some h
    by_found None = first_hindrance no_locks users p q ns

    same : (h : Option Hindrance) → by_found h ≡ or_else h (first_hindrance no_locks users p q ns)
    same (Some h) = refl
    same None = refl

-- needs of which no user lock's holder hinders one
free_hinders_none : (users : ℕ → Option ℕ) (p q : ℕ) (ns : List Need) →
    ((n : Need) → Contains ns n →
    cond n.by_user (user_hindrance q n.object (user_of users n.object)) None ≡ None) →
    first_hindrance no_locks users p q ns ≡ None
free_hinders_none users p q [] h = refl
free_hinders_none users p q (n ∷ ns) h =
    free_need users p q n ns None (nobody_holds p n.object n.mode) refl (h n (0, omega arith, refl))
    ∙ free_hinders_none users p q ns (λ m has. h m (suc has.0, omega (arith, has.1), has.2))

-- nothing, where what may stand is nothing
cond_none : (b : Bool) (x : Option Hindrance) → (b ≡ true → x ≡ None) → cond b x None ≡ None
cond_none true x h = h refl
cond_none false x h = refl

-- a need of a call that no user lock's holder hinders
unhindered : (users : ℕ → Option ℕ) (q : ℕ) (c : SysCall) (n : Need) → IsFreeOfUsers users q c →
    n.by_user ≡ waits_for_user c n.object →
    cond n.by_user (user_hindrance q n.object (user_of users n.object)) None ≡ None
unhindered users q c n free user =
    cond_none n.by_user (user_hindrance q n.object (user_of users n.object))
    (λ waits. of_object n.object (sym user ∙ waits))
  where
    of_object : (o : Object) → waits_for_user c o ≡ true → user_hindrance q o (user_of users o) ≡ None
    of_object (Lock u) waits = free u waits
    of_object o waits = refl

pub none_hinders : (t : LockTable) (users : ℕ → Option ℕ) (p q : ℕ) (c : SysCall) (ns : List Need) →
    t ≡ no_locks → IsFreeOfUsers users q c →
    ((n : Need) → Contains ns n → n.by_user ≡ waits_for_user c n.object) → None ≡ first_hindrance t users p q ns
none_hinders t users p q c ns none free user =
    sym (ap (λ (table : LockTable). first_hindrance table users p q ns) none
    ∙ free_hinders_none users p q ns (λ n has. unhindered users q c n free (user n has)))

-- no user lock's holder hinders a call that is no `lock`
pub other_free : (users : ℕ → Option ℕ) (p : ℕ) (c : SysCall) → is_lock c ≡ false → IsFreeOfUsers users p c
other_free users p c other u waits = absurd (clash c other waits)
  where
    clash : (c : SysCall) → is_lock c ≡ false → waits_for_user c (Lock u) ≡ true → ⊥
    clash (TakeLock l) h k = cc
    clash c h k = cc

-- needs of a step that no other call hinders, and none of which waits for a user lock
pub nobody_hinders : (t : LockTable) (users : ℕ → Option ℕ) (p q : ℕ) (ns : List Need) →
    ((o : Object) (mode : Mode) → lowest_holder t p o mode ≡ None) → needs_no_user ns ≡ true →
    None ≡ first_hindrance t users p q ns
nobody_hinders t users p q [] free none = refl
nobody_hinders t users p q (n ∷ ns) free none =
    nobody_hinders t users p q ns free (second (not n.by_user) (needs_no_user ns) none)
    ∙ sym (ap by_found (ap (hindrance_by users q n) (free n.object n.mode)
    ∙ ap (λ b. cond b (user_hindrance q n.object (user_of users n.object)) None)
    (first n.by_user (needs_no_user ns) none)))
  where
    by_found : Option Hindrance → Option Hindrance
    by_found (Some h) = Some h
    by_found None = first_hindrance t users p q ns

    first : (a b : Bool) → (not a && b) ≡ true → a ≡ false
    first true b h = absurd cc
    first false b h = refl

    second : (a b : Bool) → (a && b) ≡ true → b ≡ true
    second true b h = h
    second false b h = absurd cc
