-- The system calls need grafts exclusively.
use Rattle.std.specs.Prelude.{◌≡◌, ◌⊎◌, ℕ, zero, suc, ◌&&◌, ◌||◌, nat_lt, Bool, true, false, List}
use Rattle.std.specs.Prelude.{[], ◌∷◌, length, Option, Some, None, Result, ⊤}
use Rattle.std.specs.List.{AllByRecursion, range_with_len}
use Rattle.std.proofs.Common.{refl, subst, sym, ap, ◌∙◌, inl, inr}
use Rattle.std.proofs.lemmas.Bool.{or_left, or_right}
use Rattle.kernel_model.specs.declared.Kind.{Kind}
use Rattle.kernel_model.specs.declared.Mode.{Mode}
use Rattle.kernel_model.specs.declared.Need.{Need}
use Rattle.kernel_model.specs.declared.Object.{Object}
use Rattle.kernel_model.specs.declared.Object.TheVariants.{Graft, Acct, OpenFile, Lock}
use Rattle.kernel_model.specs.declared.Refusal.{Refusal}
use Rattle.kernel_model.specs.declared.SysCall.{SysCall}
use Rattle.kernel_model.specs.declared.SysCall.TheVariants.{Spawn, Exit, Yield, OpenName, CloseFd}
use Rattle.kernel_model.specs.declared.SysCall.TheVariants.{Read, Write, Sync, TakeLock, FreeLock}
use Rattle.kernel_model.specs.declared.SysCall.TheVariants.{Poke, Peek, Tune, Choose, Give, Install}
use Rattle.kernel_model.specs.declared.SysCall.TheVariants.{Remove, Fund, Bill}
use Rattle.kernel_model.specs.World.{World}
use Rattle.kernel_model.specs.Objects.{Objects, same_object}
use Rattle.kernel_model.specs.SameObject.{same_object_is}
use Rattle.kernel_model.specs.Policies.{lives, next_process}
use Rattle.kernel_model.specs.Needs.{exclusive, free_process, fetch_needs, file_block, ahead_block}
use Rattle.kernel_model.specs.Needs.{spawn_needs, yield_needs, read_needs, payment_needs}
use Rattle.kernel_model.specs.Needs.{give_needs, piece_needs}
use Rattle.kernel_model.specs.Alike.{is_exclusive, is_needed, is_needed_exclusively}
use Rattle.kernel_model.specs.Pieces.{plain_upto}
use Rattle.kernel_model.specs.Laws.{NeedsGraftsExclusively}
use Rattle.call_laws.specs.NeedParts.{each_map, each_either, each_of_point, each_of_slice}
use Rattle.call_laws.specs.NeedParts.{each_of_fetch, each_of_exit}

pub or_cases : (a b : Bool) → (a || b) ≡ true → (a ≡ true) ⊎ (b ≡ true)
or_cases true b h = inl refl
or_cases false b h = inr h

-- a graft is needed exclusively
abbrev IsTaken : Object → Mode → Type 0
IsTaken (Graft q pt) mode = is_exclusive mode ≡ true
IsTaken o mode = ⊤

abbrev TakesGraft : Need → Type 0
TakesGraft n = IsTaken n.object n.mode

pub each_any : (P : ℕ → Type 0) → ((x : ℕ) → P x) → (xs : List ℕ) → AllByRecursion P xs
each_any P h [] = tt
each_any P h (x ∷ xs) = (h x, each_any P h xs)

taken_spawn : (x : Option ℕ) → AllByRecursion TakesGraft (spawn_needs x)
taken_spawn None = (tt, tt)
taken_spawn (Some c) = (tt, (tt, tt))

taken_yield : (n : ℕ) (s : Objects) → AllByRecursion TakesGraft (yield_needs n s)
taken_yield zero s = (tt, tt)
taken_yield (suc n) s = (
  tt,
  (
    tt,
    each_of_slice TakesGraft s.accounts (next_process (s.things.pol 2) s.things.queue)
        (λ c e. (refl, tt)),
  ),
)

taken_fetch : (v : World) (s : Objects) (r : Result ℕ Refusal) → AllByRecursion TakesGraft (fetch_needs v s r)
taken_fetch v s r = each_of_fetch TakesGraft v s r tt tt (λ f. (refl, tt))

taken_read : (n : ℕ) (v : World) (s : Objects) (p fd i off len : ℕ) →
    AllByRecursion TakesGraft (read_needs n v s p fd i off len)
taken_read zero v s p fd i off len =
    (tt, taken_fetch v s (file_block v (s.things.file p fd) i off len))
taken_read (suc zero) v s p fd i off len =
    (tt, (tt, each_of_point TakesGraft s.accounts p fd refl tt))
taken_read (suc (suc n)) v s p fd i off len =
    (tt, taken_fetch v s (ahead_block v (s.things.file p fd)))

taken_give : (s : Objects) (p q : ℕ) (k : Kind) (n : ℕ) → AllByRecursion TakesGraft (give_needs s p q k n)
taken_give s p q k n = (
  tt,
  each_either TakesGraft (lives s.things.queue q) (payment_needs s.accounts p q k n) [] (
    tt,
    each_either TakesGraft (nat_lt ((s.accounts.acct p).balance k) n) []
        (exclusive (Acct q) ∷ []) tt (tt, tt),
  ) tt,
)

taken_piece : (c : SysCall) (n : ℕ) (v : World) (s : Objects) (p : ℕ) →
    AllByRecursion TakesGraft (piece_needs c n v s p)
taken_piece Spawn n v s p = taken_spawn (free_process s.things.queue 16 0)
taken_piece Exit n v s p =
    each_of_exit TakesGraft p tt tt tt tt
    (each_any (λ pt. TakesGraft (exclusive (Graft p pt))) (λ pt. refl) (range_with_len 0 16))
    (each_any (λ fd. TakesGraft (exclusive (OpenFile p fd))) (λ fd. tt) (range_with_len 0 4))
    (each_any (λ k. TakesGraft (exclusive (Object.Cell p k))) (λ k. tt) (range_with_len 0 4))
    (each_any (λ u. TakesGraft (exclusive (Lock u))) (λ u. tt) (range_with_len 0 16))
taken_piece Yield n v s p = taken_yield n s
taken_piece (OpenName name) n v s p =
    each_map TakesGraft (λ fd. exclusive (OpenFile p fd)) (range_with_len 0 4)
    (each_any (λ fd. TakesGraft (exclusive (OpenFile p fd))) (λ fd. tt) (range_with_len 0 4))
taken_piece (CloseFd fd) n v s p = (tt, tt)
taken_piece (Read fd i off len) n v s p = taken_read n v s p fd i off len
taken_piece (Write fd i off bytes) n v s p =
    (tt, taken_fetch v s (file_block v (s.things.file p fd) i off (length bytes)))
taken_piece Sync n v s p = (tt, tt)
taken_piece (TakeLock u) n v s p = (tt, tt)
taken_piece (FreeLock u) n v s p = (tt, tt)
taken_piece (Poke k x) n v s p = (tt, tt)
taken_piece (Peek k) n v s p = (tt, tt)
taken_piece (Tune kind k x) n v s p = (tt, tt)
taken_piece (Choose kind j) n v s p = (tt, tt)
taken_piece (Give q kind x) n v s p = taken_give s p q kind x
taken_piece (Install pt i limit) n v s p = (refl, tt)
taken_piece (Remove pt) n v s p = each_of_point TakesGraft s.accounts p pt refl tt
taken_piece (Fund pt kind x) n v s p = each_of_point TakesGraft s.accounts p pt refl tt
taken_piece (Bill pt) n v s p = (refl, tt)
-- the calls of other tables are refused
taken_piece c n v s p = tt

-- a graft of such a list
graft_taken : (q pt : ℕ) (ns : List Need) → AllByRecursion TakesGraft ns → is_needed (Graft q pt) ns ≡ true →
    is_needed_exclusively (Graft q pt) ns ≡ true
graft_taken q pt [] each h = h
graft_taken q pt (n ∷ ns) each h =
    elim (or_cases (same_object (Graft q pt) n.object) (is_needed (Graft q pt) ns) h) [
      | inl here ↦ or_left (is_exclusive n.mode
          && same_object (Graft q pt) n.object) (is_needed_exclusively (Graft q pt) ns)
          (ap (λ b. b && same_object (Graft q pt) n.object)
          (subst (λ o. IsTaken o n.mode) (sym (same_object_is (Graft q pt) n.object here)) each.0)
          ∙ here)
      | inr later ↦ or_right (is_exclusive n.mode && same_object (Graft q pt) n.object)
          (is_needed_exclusively (Graft q pt) ns) (graft_taken q pt ns each.1 later)
    ]

pub calls_take_grafts : (top : ℕ) → NeedsGraftsExclusively (plain_upto top)
calls_take_grafts top v s p t q pt fits h =
    graft_taken q pt (piece_needs t.call t.piece v s p) (taken_piece t.call t.piece v s p) h
