-- The system calls need each object in one mode.
use Rattle.std.specs.Prelude.{◌≡◌, ℕ, zero, suc, ◌==◌, ◌||◌, nat_lt, Bool, true, false, cond, List}
use Rattle.std.specs.Prelude.{[], ◌∷◌, ◌++◌, length, map, Option, Some, None, Result, Ok, Err}
use Rattle.std.specs.List.{AllByRecursion, range_with_len}
use Rattle.std.proofs.Common.{refl, subst, sym, ap, ◌∙◌, inl, inr}
use Rattle.std.proofs.lemmas.Bool.{cases_Bool}
use Rattle.std.proofs.lemmas.List.{append_assoc}
use Rattle.kernel_model.specs.declared.Kind.{Kind}
use Rattle.kernel_model.specs.declared.Mode.{Mode}
use Rattle.kernel_model.specs.declared.Need.{Need}
use Rattle.kernel_model.specs.declared.Object.{Object}
use Rattle.kernel_model.specs.declared.Object.TheVariants.{Graft, Acct, OpenFile, Cache, Lock, Pol}
use Rattle.kernel_model.specs.declared.Refusal.{Refusal}
use Rattle.kernel_model.specs.declared.SysCall.{SysCall}
use Rattle.kernel_model.specs.declared.SysCall.TheVariants.{Spawn, Exit, Yield, OpenName, CloseFd}
use Rattle.kernel_model.specs.declared.SysCall.TheVariants.{Read, Write, Sync, TakeLock, FreeLock}
use Rattle.kernel_model.specs.declared.SysCall.TheVariants.{Poke, Peek, Tune, Choose, Give, Install}
use Rattle.kernel_model.specs.declared.SysCall.TheVariants.{Remove, Fund, Bill}
use Rattle.kernel_model.specs.World.{World}
use Rattle.kernel_model.specs.Objects.{Objects, Accounts, GraftValue, CacheValue, same_object}
use Rattle.kernel_model.specs.SameObject.{same_object_is, same_object_self}
use Rattle.kernel_model.specs.Policies.{next_process, lives}
use Rattle.kernel_model.specs.Needs.{shared, exclusive, payer_needs, point_needs, free_process}
use Rattle.kernel_model.specs.Needs.{file_block, ahead_block, candidate_for, owner_asked}
use Rattle.kernel_model.specs.Needs.{victim_needs, fetch_needs, spawn_needs, exit_needs}
use Rattle.kernel_model.specs.Needs.{slice_needs, yield_needs, read_needs, payment_needs}
use Rattle.kernel_model.specs.Needs.{give_needs, piece_needs}
use Rattle.kernel_model.specs.Events.{object_kind, wanted}
use Rattle.kernel_model.specs.Pieces.{plain_upto}
use Rattle.kernel_model.specs.Laws.{NeedsHaveOneMode}
use Rattle.call_laws.specs.NeedParts.{each_contains}

-- each of these needs has the mode of the first need of its object
abbrev pub OneMode : List Need → Type 0
OneMode ns = AllByRecursion (λ (n : Need). wanted n.object ns ≡ n.mode) ns

pub first_wanted : (n : Need) (ns : List Need) → wanted n.object (n ∷ ns) ≡ n.mode
first_wanted n ns =
    ap (λ b. elim b as (λ _. Mode) [ true ↦ n.mode | false ↦ wanted n.object ns ])
    (same_object_self n.object)

pub later_wanted : (x n : Need) (ns : List Need) → same_object x.object n.object ≡ false →
    wanted n.object (x ∷ ns) ≡ wanted n.object ns
later_wanted x n ns h =
    ap (λ b. elim b as (λ _. Mode) [ true ↦ x.mode | false ↦ wanted n.object ns ]) h

-- ---- a mode for each kind of object

-- each need has the mode of its object's kind
abbrev ByKind : (ℕ → Mode) → List Need → Type 0
ByKind f ns = AllByRecursion (λ (n : Need). n.mode ≡ f (object_kind n.object)) ns

-- the first need of an object has the mode of a later one
kind_wanted : (f : ℕ → Mode) (xs ys : List Need) (n : Need) → ByKind f xs →
    n.mode ≡ f (object_kind n.object) → wanted n.object (xs ++ n ∷ ys) ≡ n.mode
kind_wanted f [] ys n h e = first_wanted n ys
kind_wanted f (x ∷ xs) ys n h e = elim (cases_Bool (same_object x.object n.object)) [
  | inl same ↦ ap (λ b. elim b as (λ _. Mode) [
    | true ↦ x.mode
    | false ↦ wanted n.object (xs ++ n ∷ ys)
  ]) same
      ∙ h.0 ∙ ap (λ o. f (object_kind o)) (same_object_is x.object n.object same) ∙ sym e
  | inr other ↦ later_wanted x n (xs ++ n ∷ ys) other ∙ kind_wanted f xs ys n h.1 e
]

-- one more before
kind_more : (f : ℕ → Mode) (xs : List Need) (n : Need) → ByKind f xs →
    n.mode ≡ f (object_kind n.object) → ByKind f (xs ++ n ∷ [])
kind_more f [] n h e = (e, tt)
kind_more f (x ∷ xs) n h e = (h.0, kind_more f xs n h.1 e)

kind_from : (f : ℕ → Mode) (xs ns : List Need) → ByKind f xs → ByKind f ns →
    AllByRecursion (λ (n : Need). wanted n.object (xs ++ ns) ≡ n.mode) ns
kind_from f xs [] h k = tt
kind_from f xs (n ∷ ns) h k = (
  kind_wanted f xs ns n h k.0,
  subst (λ ys. AllByRecursion (λ (x : Need). wanted x.object ys ≡ x.mode) ns) (append_assoc xs (n ∷ []) ns)
      (kind_from f (xs ++ n ∷ []) ns (kind_more f xs n h k.0) k.1),
)

kind_modes : (f : ℕ → Mode) (ns : List Need) → ByKind f ns → OneMode ns
kind_modes f ns h = kind_from f [] ns tt h

-- lists end to end
kind_both : (f : ℕ → Mode) (xs ys : List Need) → ByKind f xs → ByKind f ys → ByKind f (xs ++ ys)
kind_both f [] ys h k = k
kind_both f (x ∷ xs) ys h k = (h.0, kind_both f xs ys h.1 k)

-- ---- the modes

-- all are exclusive
abbrev all_exclusive : ℕ → Mode
all_exclusive k = Mode.Exclusive

-- all but policies
abbrev but_policies : ℕ → Mode
but_policies k = cond (k == 7) Mode.Shared Mode.Exclusive

-- all but policies and open files
abbrev but_files : ℕ → Mode
but_files k = cond (k == 7 || k == 3) Mode.Shared Mode.Exclusive

-- all but the queue
abbrev but_queue : ℕ → Mode
but_queue k = cond (k == 4) Mode.Shared Mode.Exclusive

-- ---- the calls

each_exclusive : (object : ℕ → Object) (xs : List ℕ) →
    ByKind all_exclusive (map (λ x. exclusive (object x)) xs)
each_exclusive object [] = tt
each_exclusive object (x ∷ xs) = (refl, each_exclusive object xs)

-- the objects of a point are exclusive
payer_kind : (f : ℕ → Mode) (q : ℕ) (g : Option GraftValue) → f 1 ≡ Mode.Exclusive →
    ByKind f (payer_needs q g)
payer_kind f q None h = tt
payer_kind f q (Some g) h = (sym h, tt)

point_kind : (f : ℕ → Mode) (a : Accounts) (q pt : ℕ) → f 0 ≡ Mode.Exclusive →
    f 1 ≡ Mode.Exclusive → ByKind f (point_needs a q pt)
point_kind f a q pt h k = (sym h, payer_kind f q (a.graft q pt) k)

victim_kind : (f : ℕ → Mode) (a : Accounts) (c : CacheValue) (x : Option ℕ) → f 7 ≡ Mode.Shared →
    f 0 ≡ Mode.Exclusive → f 1 ≡ Mode.Exclusive → ByKind f (victim_needs a c x)
victim_kind f a c None h i j = tt
victim_kind f a c (Some y) h i j = (sym h, point_kind f a (owner_asked c y) 4 i j)

fetch_kind : (f : ℕ → Mode) (v : World) (s : Objects) (x : Result ℕ Refusal) →
    f 5 ≡ Mode.Exclusive → f 7 ≡ Mode.Shared → f 0 ≡ Mode.Exclusive → f 1 ≡ Mode.Exclusive →
    ByKind f (fetch_needs v s x)
fetch_kind f v s (Err refusal) g h i j = tt
fetch_kind f v s (Ok b) g h i j = (
  sym g,
  victim_kind f s.accounts s.things.cache
      (candidate_for v (s.things.pol 1) s.things.cache b) h i j,
)

spawn_kind : (x : Option ℕ) → ByKind all_exclusive (spawn_needs x)
spawn_kind None = (refl, tt)
spawn_kind (Some c) = (refl, (refl, tt))

exit_kind : (p : ℕ) → ByKind all_exclusive (exit_needs p)
exit_kind p =
    let grafts = map (λ pt. exclusive (Graft p pt)) (range_with_len 0 16) in
    let files = map (λ fd. exclusive (OpenFile p fd)) (range_with_len 0 4) in
    let cells = map (λ k. exclusive (Object.Cell p k)) (range_with_len 0 4) in (
      refl,
      (
        refl,
        (
          refl,
          (
            refl,
            kind_both all_exclusive (grafts ++ files
                ++ cells) (map (λ u. exclusive (Lock u)) (range_with_len 0 16))
                (kind_both all_exclusive (grafts ++ files) cells
                (kind_both all_exclusive grafts files
                (each_exclusive (λ pt. Graft p pt) (range_with_len 0 16))
                (each_exclusive (λ fd. OpenFile p fd) (range_with_len 0 4)))
                (each_exclusive (λ k. Object.Cell p k) (range_with_len 0 4)))
                (each_exclusive (λ u. Lock u) (range_with_len 0 16)),
          ),
        ),
      ),
    )

slice_kind : (a : Accounts) (x : Option ℕ) → ByKind but_policies (slice_needs a x)
slice_kind a None = tt
slice_kind a (Some c) = point_kind but_policies a c 5 refl refl

yield_kind : (n : ℕ) (s : Objects) → ByKind but_policies (yield_needs n s)
yield_kind zero s = (refl, tt)
yield_kind (suc n) s =
    (refl, (refl, slice_kind s.accounts (next_process (s.things.pol 2) s.things.queue)))

read_kind : (n : ℕ) (v : World) (s : Objects) (p fd i off len : ℕ) →
    ByKind but_policies (read_needs n v s p fd i off len)
read_kind zero v s p fd i off len = (
  refl,
  fetch_kind but_policies v s
      (file_block v (s.things.file p fd) i off len) refl refl refl refl,
)
read_kind (suc zero) v s p fd i off len =
    (refl, (refl, point_kind but_policies s.accounts p fd refl refl))
read_kind (suc (suc n)) v s p fd i off len =
    (refl, fetch_kind but_policies v s (ahead_block v (s.things.file p fd)) refl refl refl refl)

payment_kind : (a : Accounts) (p q : ℕ) (kind : Kind) (n : ℕ) →
    ByKind but_queue (payment_needs a p q kind n)
payment_kind a p q kind n = (refl, by_test (nat_lt ((a.acct p).balance kind) n))
  where
    by_test : (b : Bool) → ByKind but_queue (cond b [] (exclusive (Acct q) ∷ []))
    by_test true = tt
    by_test false = (refl, tt)

give_kind : (s : Objects) (p q : ℕ) (kind : Kind) (n : ℕ) →
    ByKind but_queue (give_needs s p q kind n)
give_kind s p q kind n = (refl, by_test (lives s.things.queue q))
  where
    by_test : (b : Bool) → ByKind but_queue (cond b (payment_needs s.accounts p q kind n) [])
    by_test true = payment_kind s.accounts p q kind n
    by_test false = tt

-- each call's pieces
call_modes : (c : SysCall) (n : ℕ) (v : World) (s : Objects) (p : ℕ) →
    OneMode (piece_needs c n v s p)
call_modes Spawn n v s p =
    kind_modes all_exclusive (piece_needs Spawn n v s p)
    (spawn_kind (free_process s.things.queue 16 0))
call_modes Exit n v s p = kind_modes all_exclusive (piece_needs Exit n v s p) (exit_kind p)
call_modes Yield n v s p = kind_modes but_policies (piece_needs Yield n v s p) (yield_kind n s)
call_modes (OpenName name) n v s p =
    kind_modes all_exclusive (piece_needs (OpenName name) n v s p)
    (each_exclusive (λ fd. OpenFile p fd) (range_with_len 0 4))
call_modes (CloseFd fd) n v s p = (first_wanted (exclusive (OpenFile p fd)) [], tt)
call_modes (Read fd i off len) n v s p =
    kind_modes but_policies (piece_needs (Read fd i off len) n v s p)
    (read_kind n v s p fd i off len)
call_modes (Write fd i off bytes) n v s p =
    kind_modes but_files (piece_needs (Write fd i off bytes) n v s p) (
      refl,
      fetch_kind but_files v s
          (file_block v (s.things.file p fd) i off (length bytes)) refl refl refl refl,
    )
call_modes Sync n v s p = (first_wanted (exclusive Cache) [], tt)
call_modes (TakeLock u) n v s p =
    (first_wanted (record { object = Lock u; mode = Mode.Exclusive; by_user = true }) [], tt)
call_modes (FreeLock u) n v s p = (first_wanted (exclusive (Lock u)) [], tt)
call_modes (Poke k x) n v s p = (first_wanted (exclusive (Object.Cell p k)) [], tt)
call_modes (Peek k) n v s p = (first_wanted (shared (Object.Cell p k)) [], tt)
call_modes (Tune kind k x) n v s p = (first_wanted (exclusive (Pol kind)) [], tt)
call_modes (Choose kind j) n v s p = (first_wanted (exclusive (Pol kind)) [], tt)
call_modes (Give q kind x) n v s p =
    kind_modes but_queue (piece_needs (Give q kind x) n v s p) (give_kind s p q kind x)
call_modes (Install pt i limit) n v s p = (first_wanted (exclusive (Graft p pt)) [], tt)
call_modes (Remove pt) n v s p =
    kind_modes all_exclusive (piece_needs (Remove pt) n v s p)
    (point_kind all_exclusive s.accounts p pt refl refl)
call_modes (Fund pt kind x) n v s p =
    kind_modes all_exclusive (piece_needs (Fund pt kind x) n v s p)
    (point_kind all_exclusive s.accounts p pt refl refl)
call_modes (Bill pt) n v s p = (first_wanted (exclusive (Graft p pt)) [], tt)
-- the calls of other tables are refused
call_modes c n v s p = tt

-- the system calls need each object in one mode
pub plain_needs_have_one_mode : (top : ℕ) → NeedsHaveOneMode (plain_upto top)
plain_needs_have_one_mode top v s p t n fits contained =
    each_contains (λ (x : Need). wanted x.object (piece_needs t.call t.piece v s p) ≡ x.mode)
    (piece_needs t.call t.piece v s p) n (call_modes t.call t.piece v s p) contained
