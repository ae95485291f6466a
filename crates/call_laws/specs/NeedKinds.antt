-- Whose the open files are that a piece needs, where a user lock's holder hinders, and how many
-- objects there are.
use Rattle.std.specs.Prelude.{◌≡◌, ℕ, zero, suc, ◌≤◌, Bool, true, false, cond, nat_lt, List, []}
use Rattle.std.specs.Prelude.{◌∷◌, length, Option, Some, None, Result, Ok, Err}
use Rattle.std.specs.List.{AllByRecursion, range_with_len}
use Rattle.std.proofs.Common.{arith, refl, sym, ◌∙◌}
use Rattle.std.proofs.lemmas.Bool.{eq-eqb}
use Rattle.kernel_model.specs.declared.Need.{Need}
use Rattle.kernel_model.specs.declared.Kind.{Kind}
use Rattle.kernel_model.specs.declared.Object.{Object}
use Rattle.kernel_model.specs.declared.Object.TheVariants.{Graft, Acct, OpenFile, Cache, Lock, Pol}
use Rattle.kernel_model.specs.declared.Refusal.{Refusal}
use Rattle.kernel_model.specs.declared.SysCall.{SysCall}
use Rattle.kernel_model.specs.declared.SysCall.TheVariants.{Spawn, Exit, Yield, OpenName, CloseFd}
use Rattle.kernel_model.specs.declared.SysCall.TheVariants.{Read, Write, Sync, TakeLock, FreeLock}
use Rattle.kernel_model.specs.declared.SysCall.TheVariants.{Poke, Peek, Tune, Choose, Give, Install}
use Rattle.kernel_model.specs.declared.SysCall.TheVariants.{Remove, Fund, Bill}
use Rattle.kernel_model.specs.World.{World}
use Rattle.kernel_model.specs.Objects.{Objects, Accounts, CacheValue, GraftValue}
use Rattle.kernel_model.specs.Policies.{lives, next_process}
use Rattle.kernel_model.specs.Needs.{exclusive, point_needs, payer_needs, free_process}
use Rattle.kernel_model.specs.Needs.{victim_needs, owner_asked, fetch_needs, candidate_for}
use Rattle.kernel_model.specs.Needs.{file_block, ahead_block, spawn_needs, exit_needs, slice_needs}
use Rattle.kernel_model.specs.Needs.{yield_needs, read_needs, payment_needs, give_needs}
use Rattle.kernel_model.specs.Needs.{piece_needs}
use Rattle.kernel_model.specs.Laws.{IsOwnFile, waits_for_user}
use Rattle.call_laws.specs.NeedParts.{each_map, each_either, each_of_point, each_of_slice}
use Rattle.call_laws.specs.NeedParts.{each_of_fetch, each_of_exit}
use Rattle.call_laws.specs.NeedGrafts.{each_any}

-- an open file that is needed is the caller's, and the holder of a user lock hinders only a call
-- that waits for one
pub record IsOwnNeed (c : SysCall) (p : ℕ) (n : Need) : Type 0 where
  pub file : IsOwnFile p n.object
  pub user : n.by_user ≡ waits_for_user c n.object

-- an object of a call that takes no lock, if an open file is the caller's
own : (c : SysCall) (p : ℕ) (n : Need) → n.by_user ≡ false → waits_for_user c n.object ≡ false →
    IsOwnFile p n.object → IsOwnNeed c p n
own c p n h k l = record { file = l; user = h ∙ sym k }

-- the objects of a spawn
own_spawn : (p : ℕ) (x : Option ℕ) → AllByRecursion (IsOwnNeed Spawn p) (spawn_needs x)
own_spawn p None = (own Spawn p _ refl refl tt, tt)
own_spawn p (Some c) = (own Spawn p _ refl refl tt, (own Spawn p _ refl refl tt, tt))

-- the objects of an exit
own_exit : (p : ℕ) → AllByRecursion (IsOwnNeed Exit p) (exit_needs p)
own_exit p =
    each_of_exit (IsOwnNeed Exit p) p (own Exit p _ refl refl tt) (own Exit p _ refl refl tt)
    (own Exit p _ refl refl tt) (own Exit p _ refl refl tt)
    (each_any (λ pt. IsOwnNeed Exit p (exclusive (Graft p pt)))
    (λ pt. own Exit p (exclusive (Graft p pt)) refl refl tt) (range_with_len 0 16))
    (each_any (λ fd. IsOwnNeed Exit p (exclusive (OpenFile p fd)))
    (λ fd. own Exit p (exclusive (OpenFile p fd)) refl refl refl) (range_with_len 0 4))
    (each_any (λ k. IsOwnNeed Exit p (exclusive (Object.Cell p k)))
    (λ k. own Exit p (exclusive (Object.Cell p k)) refl refl tt) (range_with_len 0 4))
    (each_any (λ u. IsOwnNeed Exit p (exclusive (Lock u)))
    (λ u. own Exit p (exclusive (Lock u)) refl refl tt) (range_with_len 0 16))

-- the objects of a yield
own_yield : (n p : ℕ) (s : Objects) → AllByRecursion (IsOwnNeed Yield p) (yield_needs n s)
own_yield zero p s = (own Yield p _ refl refl tt, tt)
own_yield (suc n) p s = (
  own Yield p _ refl refl tt,
  (
    own Yield p _ refl refl tt,
    each_of_slice (IsOwnNeed Yield p) s.accounts (next_process (s.things.pol 2) s.things.queue)
        (λ c e. (own Yield p _ refl refl tt, own Yield p _ refl refl tt)),
  ),
)

-- the objects of a fetch
own_fetch : (c : SysCall) (v : World) (s : Objects) (p : ℕ) (r : Result ℕ Refusal) →
    ((o : Object) → waits_for_user c o ≡ false) →
    AllByRecursion (IsOwnNeed c p) (fetch_needs v s r)
own_fetch c v s p r w =
    each_of_fetch (IsOwnNeed c p) v s r (own c p _ refl (w Cache) tt)
    (own c p _ refl (w (Pol 1)) tt)
    (λ f. (own c p _ refl (w _) tt, own c p _ refl (w _) tt))

-- the objects of a read
own_read : (n : ℕ) (v : World) (s : Objects) (p fd i off len : ℕ) →
    AllByRecursion (IsOwnNeed (Read fd i off len) p) (read_needs n v s p fd i off len)
own_read zero v s p fd i off len = (
  own (Read fd i off len) p _ refl refl refl,
  own_fetch (Read fd i off len) v s p (file_block v (s.things.file p fd) i off len)
      (λ o. refl),
)
own_read (suc zero) v s p fd i off len = (
  own (Read fd i off len) p _ refl refl refl,
  (
    own (Read fd i off len) p _ refl refl tt,
    each_of_point (IsOwnNeed (Read fd i off len) p) s.accounts p fd
        (own (Read fd i off len) p _ refl refl tt) (own (Read fd i off len) p _ refl refl tt),
  ),
)
own_read (suc (suc n)) v s p fd i off len = (
  own (Read fd i off len) p _ refl refl refl,
  own_fetch (Read fd i off len) v s p (ahead_block v (s.things.file p fd)) (λ o. refl),
)

-- the objects of a gift
own_give : (s : Objects) (p q : ℕ) (k : Kind) (n : ℕ) →
    AllByRecursion (IsOwnNeed (Give q k n) p) (give_needs s p q k n)
own_give s p q k n =
    let P = IsOwnNeed (Give q k n) p in (
      own (Give q k n) p _ refl refl tt,
      each_either P (lives s.things.queue q) (payment_needs s.accounts p q k n) [] (
        own (Give q k n) p _ refl refl tt,
        each_either P (nat_lt ((s.accounts.acct p).balance k) n) [] (exclusive (Acct q) ∷ []) tt
            (own (Give q k n) p _ refl refl tt, tt),
      ) tt,
    )

-- each object of each piece
pub own_piece : (c : SysCall) (n : ℕ) (v : World) (s : Objects) (p : ℕ) →
    AllByRecursion (IsOwnNeed c p) (piece_needs c n v s p)
own_piece Spawn n v s p = own_spawn p (free_process s.things.queue 16 0)
own_piece Exit n v s p = own_exit p
own_piece Yield n v s p = own_yield n p s
own_piece (OpenName name) n v s p =
    each_map (IsOwnNeed (OpenName name) p) (λ fd. exclusive (OpenFile p fd)) (range_with_len 0 4)
    (each_any (λ fd. IsOwnNeed (OpenName name) p (exclusive (OpenFile p fd)))
    (λ fd. own (OpenName name) p (exclusive (OpenFile p fd)) refl refl refl)
    (range_with_len 0 4))
own_piece (CloseFd fd) n v s p = (own (CloseFd fd) p _ refl refl refl, tt)
own_piece (Read fd i off len) n v s p = own_read n v s p fd i off len
own_piece (Write fd i off bytes) n v s p = (
  own (Write fd i off bytes) p _ refl refl refl,
  own_fetch (Write fd i off bytes) v s p (file_block v (s.things.file p fd) i off (length bytes))
      (λ o. refl),
)
own_piece Sync n v s p = (own Sync p _ refl refl tt, tt)
own_piece (TakeLock u) n v s p = (record { file = tt; user = sym (eq-eqb u u refl) }, tt)
own_piece (FreeLock u) n v s p = (own (FreeLock u) p _ refl refl tt, tt)
own_piece (Poke k x) n v s p = (own (Poke k x) p _ refl refl tt, tt)
own_piece (Peek k) n v s p = (own (Peek k) p _ refl refl tt, tt)
own_piece (Tune kind k x) n v s p = (own (Tune kind k x) p _ refl refl tt, tt)
own_piece (Choose kind j) n v s p = (own (Choose kind j) p _ refl refl tt, tt)
own_piece (Give q kind x) n v s p = own_give s p q kind x
own_piece (Install pt i limit) n v s p = (own (Install pt i limit) p _ refl refl tt, tt)
own_piece (Remove pt) n v s p =
    each_of_point (IsOwnNeed (Remove pt) p) s.accounts p pt (own (Remove pt) p _ refl refl tt)
    (own (Remove pt) p _ refl refl tt)
own_piece (Fund pt kind x) n v s p =
    each_of_point (IsOwnNeed (Fund pt kind x) p) s.accounts p pt
    (own (Fund pt kind x) p _ refl refl tt) (own (Fund pt kind x) p _ refl refl tt)
own_piece (Bill pt) n v s p = (own (Bill pt) p _ refl refl tt, tt)
-- the calls of other tables are refused
own_piece c n v s p = tt

-- ---- how many

-- at most one account pays
pub payer_few : (q : ℕ) (g : Option GraftValue) → length (payer_needs q g) ≤ 1
payer_few q None = omega arith
payer_few q (Some g) = omega arith

-- a point has at most two objects
point_few : (a : Accounts) (q pt : ℕ) → length (point_needs a q pt) ≤ 2
point_few a q pt = let l = payer_few q (a.graft q pt) in omega (arith, l)

-- so has a candidate for the processor
slice_few : (a : Accounts) (x : Option ℕ) → length (slice_needs a x) ≤ 2
slice_few a None = omega arith
slice_few a (Some c) = point_few a c 5

-- a victim has at most three
victim_few : (a : Accounts) (c : CacheValue) (x : Option ℕ) → length (victim_needs a c x) ≤ 3
victim_few a c None = omega arith
victim_few a c (Some f) = let l = point_few a (owner_asked c f) 4 in omega (arith, l)

-- a fetch has at most four
fetch_few : (v : World) (s : Objects) (r : Result ℕ Refusal) → length (fetch_needs v s r) ≤ 4
fetch_few v s (Err why) = omega arith
fetch_few v s (Ok b) = let l =
    victim_few s.accounts s.things.cache (candidate_for v (s.things.pol 1) s.things.cache b) in
    omega (arith, l)

-- a read has at most five
read_few : (n : ℕ) (v : World) (s : Objects) (p fd i off len : ℕ) →
    length (read_needs n v s p fd i off len) ≤ 5
read_few zero v s p fd i off len = let l =
    fetch_few v s (file_block v (s.things.file p fd) i off len) in omega (arith, l)
read_few (suc zero) v s p fd i off len = let l = point_few s.accounts p fd in omega (arith, l)
read_few (suc (suc n)) v s p fd i off len = let l =
    fetch_few v s (ahead_block v (s.things.file p fd)) in omega (arith, l)

-- a yield has at most four
yield_few : (n : ℕ) (s : Objects) → length (yield_needs n s) ≤ 4
yield_few zero s = omega arith
yield_few (suc n) s = let l = slice_few s.accounts (next_process (s.things.pol 2) s.things.queue) in
    omega (arith, l)

-- a spawn has at most two
spawn_few : (x : Option ℕ) → length (spawn_needs x) ≤ 2
spawn_few None = omega arith
spawn_few (Some c) = omega arith

-- one object or none
either_few : (b : Bool) (n : Need) → length (cond b [] (n ∷ [])) ≤ 1
either_few true n = omega arith
either_few false n = omega arith

-- a list or none
given_few : (b : Bool) (ns : List Need) (most : ℕ) → length ns ≤ most → length (cond b ns []) ≤ most
given_few true ns most l = l
given_few false ns most l = omega arith

-- a gift has at most three
give_few : (s : Objects) (p q : ℕ) (k : Kind) (n : ℕ) → length (give_needs s p q k n) ≤ 3
give_few s p q k n =
    let one = either_few (nat_lt ((s.accounts.acct p).balance k) n) (exclusive (Acct q)) in
    let l = given_few (lives s.things.queue q) (payment_needs s.accounts p q k n) 2
    (omega (arith, one)) in omega (arith, l)

-- a piece needs at most 255 objects
pub piece_few : (c : SysCall) (n : ℕ) (v : World) (s : Objects) (p : ℕ) →
    length (piece_needs c n v s p) ≤ 255
piece_few Spawn n v s p = let l = spawn_few (free_process s.things.queue 16 0) in omega (arith, l)
piece_few Yield n v s p = let l = yield_few n s in omega (arith, l)
piece_few (Read fd i off len) n v s p = let l = read_few n v s p fd i off len in omega (arith, l)
piece_few (Write fd i off bytes) n v s p = let l =
    fetch_few v s (file_block v (s.things.file p fd) i off (length bytes)) in omega (arith, l)
piece_few (Give q kind x) n v s p = let l = give_few s p q kind x in omega (arith, l)
piece_few (Remove pt) n v s p = let l = point_few s.accounts p pt in omega (arith, l)
piece_few (Fund pt kind x) n v s p = let l = point_few s.accounts p pt in omega (arith, l)
piece_few c n v s p = omega arith
