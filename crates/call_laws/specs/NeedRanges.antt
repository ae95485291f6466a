-- The numbers of the objects that a piece needs are in their ranges.
use Rattle.std.specs.Prelude.{◌≡◌, ℕ, zero, suc, ◌+◌, ◌<◌, not, ◌||◌, ◌==◌, nat_lt, nat_le, [], ◌∷◌}
use Rattle.std.specs.Prelude.{length, Option, Some, None, is_some, Result}
use Rattle.std.specs.List.{AllByRecursion, range_with_len}
use Rattle.std.proofs.Common.{arith, refl}
use Rattle.std.proofs.lemmas.Bool.{or_parts}
use Rattle.kernel_model.specs.declared.Need.{Need}
use Rattle.kernel_model.specs.declared.Kind.{Kind}
use Rattle.kernel_model.specs.declared.Object.TheVariants.{Acct, OpenFile}
use Rattle.kernel_model.specs.declared.Refusal.{Refusal}
use Rattle.kernel_model.specs.declared.Refusal.TheVariants.{NoProcess, Denied, BadPoint, BadFd, BadIndex, NoImage}
use Rattle.kernel_model.specs.declared.SysCall.{SysCall}
use Rattle.kernel_model.specs.declared.SysCall.TheVariants.{Spawn, Exit, Yield, OpenName, CloseFd}
use Rattle.kernel_model.specs.declared.SysCall.TheVariants.{Read, Write, Sync, TakeLock, FreeLock}
use Rattle.kernel_model.specs.declared.SysCall.TheVariants.{Poke, Peek, Tune, Choose, Give, Install}
use Rattle.kernel_model.specs.declared.SysCall.TheVariants.{Remove, Fund, Bill}
use Rattle.kernel_model.specs.World.{World, ImageTable}
use Rattle.kernel_model.specs.Objects.{Objects}
use Rattle.kernel_model.specs.Policies.{lives, next_process}
use Rattle.kernel_model.specs.Early.{policy_count, refused}
use Rattle.kernel_model.specs.Needs.{exclusive, free_process, fetch_needs, file_block, ahead_block}
use Rattle.kernel_model.specs.Needs.{spawn_needs, exit_needs, yield_needs, read_needs}
use Rattle.kernel_model.specs.Needs.{payment_needs, give_needs, piece_needs}
use Rattle.kernel_model.specs.Sound.{IsSoundStore}
use Rattle.kernel_model.specs.Laws.{IsInRange}
use Rattle.call_laws.specs.GrantedCalls.{PieceStands}
use Rattle.call_laws.specs.Granted.{granted_unless, granted_next, granted_below, below_next}
use Rattle.call_laws.specs.NeedParts.{each_map, each_either, each_of_point, each_of_slice}
use Rattle.call_laws.specs.NeedParts.{each_of_fetch, each_of_exit}
use Rattle.call_laws.specs.Numbers.{free_process_below, next_below, owner_below}

-- the numbers of a needed object are in their ranges
abbrev pub NeedIsInRange : Need → Type 0
NeedIsInRange n = IsInRange n.object

-- the objects of a spawn
spawn_ranges : (x : Option ℕ) → ((c : ℕ) → x ≡ Some c → c < 16) → AllByRecursion NeedIsInRange (spawn_needs x)
spawn_ranges None h = (tt, tt)
spawn_ranges (Some c) h = (tt, (h c refl, tt))

-- the objects of an exit
exit_ranges : (p : ℕ) → p < 16 → AllByRecursion NeedIsInRange (exit_needs p)
exit_ranges p l =
    each_of_exit NeedIsInRange p tt tt l (omega arith) (omega arith) (omega arith) (omega arith)
    (omega arith)

-- the objects of a yield
yield_ranges : (v : World) (s : Objects) (n : ℕ) → IsSoundStore v s →
    AllByRecursion NeedIsInRange (yield_needs n s)
yield_ranges v s zero sound = (tt, tt)
yield_ranges v s (suc n) sound = (
  tt,
  (
    omega arith,
    each_of_slice NeedIsInRange s.accounts (next_process (s.things.pol 2) s.things.queue)
        (λ c e. let l = next_below v s (s.things.pol 2) c sound e in ((l, omega arith), l)),
  ),
)

-- the objects of a fetch
fetch_ranges : (v : World) (s : Objects) (r : Result ℕ Refusal) → IsSoundStore v s →
    AllByRecursion NeedIsInRange (fetch_needs v s r)
fetch_ranges v s r sound =
    each_of_fetch NeedIsInRange v s r tt (omega arith) (λ f. let l = owner_below v s f sound in
    ((l, omega arith), l))

-- the objects of a read
read_ranges : (n : ℕ) (v : World) (s : Objects) (p fd i off len : ℕ) → IsSoundStore v s → p < 16 →
    fd < 4 → AllByRecursion NeedIsInRange (read_needs n v s p fd i off len)
read_ranges zero v s p fd i off len sound l m =
    ((l, m), fetch_ranges v s (file_block v (s.things.file p fd) i off len) sound)
read_ranges (suc zero) v s p fd i off len sound l m =
    ((l, m), (omega arith, each_of_point NeedIsInRange s.accounts p fd (l, omega arith) l))
read_ranges (suc (suc n)) v s p fd i off len sound l m =
    ((l, m), fetch_ranges v s (ahead_block v (s.things.file p fd)) sound)

-- the objects of a gift
give_ranges : (s : Objects) (p q : ℕ) (k : Kind) (n : ℕ) → p < 16 → q < 16 →
    AllByRecursion NeedIsInRange (give_needs s p q k n)
give_ranges s p q k n l m = (
  tt,
  each_either NeedIsInRange (lives s.things.queue q) (payment_needs s.accounts p q k n) [] (
    l,
    each_either NeedIsInRange (nat_lt ((s.accounts.acct p).balance k) n) []
        (exclusive (Acct q) ∷ []) tt (m, tt),
  ) tt,
)

-- the numbers of each object of each piece
pub piece_ranges : (v : World) (images : ImageTable) (s : Objects) (p : ℕ) (c : SysCall) (n : ℕ) →
    PieceStands c n v images s p →
    AllByRecursion NeedIsInRange (piece_needs c n v s p)
piece_ranges v images s p Spawn n c =
    spawn_ranges (free_process s.things.queue 16 0)
    (λ q e. let l = free_process_below s.things.queue 16 0 q e in omega (arith, l))
piece_ranges v images s p Exit n c = exit_ranges p (c.store.numbers p c.caller)
piece_ranges v images s p Yield n c = yield_ranges v s n c.store
piece_ranges v images s p (OpenName name) n c =
    let l = c.store.numbers p c.caller in
    each_map NeedIsInRange (λ fd. exclusive (OpenFile p fd)) (range_with_len 0 4) (omega (arith, l))
piece_ranges v images s p (CloseFd fd) n c =
    ((c.store.numbers p c.caller, granted_below (CloseFd fd) 3 fd BadFd None c.granted.granted), tt)
piece_ranges v images s p (Read fd i off len) n c =
    read_ranges n v s p fd i off len c.store (c.store.numbers p c.caller)
    (granted_below (Read fd i off len) 3 fd BadFd
    (refused (nat_lt 512 (off + len)) BadIndex None) c.granted.granted)
piece_ranges v images s p (Write fd i off bytes) n c = (
  (
    c.store.numbers p c.caller,
    granted_below (Write fd i off bytes) 3 fd BadFd
        (refused (nat_lt 512 (off + length bytes)) BadIndex None) c.granted.granted,
  ),
  fetch_ranges v s (file_block v (s.things.file p fd) i off (length bytes)) c.store,
)
piece_ranges v images s p Sync n c = (tt, tt)
piece_ranges v images s p (TakeLock u) n c =
    (granted_below (TakeLock u) 15 u BadIndex None c.granted.granted, tt)
piece_ranges v images s p (FreeLock u) n c =
    (granted_below (FreeLock u) 15 u BadIndex None c.granted.granted, tt)
piece_ranges v images s p (Poke k x) n c =
    ((c.store.numbers p c.caller, granted_below (Poke k x) 3 k BadIndex None c.granted.granted), tt)
piece_ranges v images s p (Peek k) n c =
    ((c.store.numbers p c.caller, granted_below (Peek k) 3 k BadIndex None c.granted.granted), tt)
piece_ranges v images s p (Tune kind k x) n c = (
  granted_below (Tune kind k x) 2 kind BadPoint None
      (granted_next (Tune kind k x) (not (p == 0)) Denied
      (refused (nat_lt 2 kind) BadPoint None) c.granted.granted),
  tt,
)
piece_ranges v images s p (Choose kind j) n c = (
  below_next 2 kind (or_parts (nat_lt 2 kind) (nat_le (policy_count kind) j)
      (granted_unless (Choose kind j) (nat_lt 2 kind || nat_le (policy_count kind) j) BadPoint None
      (granted_next (Choose kind j) (not (p == 0)) Denied
      (refused (nat_lt 2 kind || nat_le (policy_count kind) j) BadPoint None)
      c.granted.granted))).0,
  tt,
)
piece_ranges v images s p (Give q kind x) n c =
    give_ranges s p q kind x (c.store.numbers p c.caller)
    (granted_below (Give q kind x) 15 q NoProcess None c.granted.granted)
piece_ranges v images s p (Install pt i limit) n c =
    let l = c.store.numbers p c.caller in
    let m = granted_below (Install pt i limit) c.granted.top pt BadPoint
    (refused (limit == 0 || nat_lt 65536 limit) BadIndex
    (refused (nat_lt 31 i || not (is_some (images i))) NoImage None)) c.granted.granted in
    (let most = c.granted.most in omega (arith, l, m, most), tt)
piece_ranges v images s p (Remove pt) n c =
    let l = c.store.numbers p c.caller in let m =
    granted_below (Remove pt) c.granted.top pt BadPoint None c.granted.granted in
    each_of_point NeedIsInRange s.accounts p pt (let most = c.granted.most in
    omega (arith, l, m, most)) l
piece_ranges v images s p (Fund pt kind x) n c =
    let l = c.store.numbers p c.caller in let m =
    granted_below (Fund pt kind x) c.granted.top pt BadPoint None c.granted.granted in
    each_of_point NeedIsInRange s.accounts p pt (let most = c.granted.most in
    omega (arith, l, m, most)) l
piece_ranges v images s p (Bill pt) n c =
    let l = c.store.numbers p c.caller in let m =
    granted_below (Bill pt) c.granted.top pt BadPoint None c.granted.granted in
    (let most = c.granted.most in omega (arith, l, m, most), tt)
-- the calls of other tables are refused
piece_ranges v images s p call n c = tt
