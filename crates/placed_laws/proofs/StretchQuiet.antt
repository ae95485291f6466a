-- What a quiet instruction is: it goes on and calls nothing, or it only reads.
use Rattle.std.proofs.Common.{◌≡◌, ◌⊎◌, ℕ, suc, ◌==◌, ◌&&◌, not, Bool, true, false, cond, Option}
use Rattle.std.proofs.Common.{Some, None, arith, refl, inl, inr}
use Rattle.std.specs.Prelude.{is_none, option_map}
use Rattle.std.proofs.lemmas.Bool.Decides.{nat_tests}
use Rattle.kernel_model.specs.declared.Cause.{Cause}
use Rattle.kernel_model.specs.declared.Held.{Held}
use Rattle.kernel_model.specs.declared.Mode.{Mode}
use Rattle.kernel_model.specs.Machine.{Machine, Done, seg_step}
use Rattle.kernel_model.specs.Policies.{Victim}
use Rattle.kernel_model.specs.Access.{Access, Gives, Changes, Refuses, access, accessed, early_refusal, is_ask}
use Rattle.kernel_model.specs.Locks.{is_held}
use Rattle.kernel_model.specs.Levels.{answered}
use Rattle.placed_laws.specs.Stretch.{Setting, given, shares_held, is_read, after_quiet, quiet, quiet_on}
use Rattle.kernel_model.specs.Quiet.{both_hold}

-- a call from m that only reads, with the machine after it
pub record Reads (s : Setting) (m j : Machine) : Type 0 where
  pub id : ℕ
  pub k : Machine
  pub result : ℕ
  pub called : seg_step s.code m ≡ Done.Called id k
  pub early : early_refusal s.callable id (m.regs 0) (m.regs 1) s.owner ≡ None
  pub no_ask : is_ask id ≡ false
  pub shared : (accessed id (m.regs 0) s.owner).mode ≡ Mode.Shared
  pub held : is_held (s.touched (accessed id (m.regs 0) s.owner).object) ≡ true
  pub gives : access id (m.regs 0) (m.regs 1) (m.regs 2) s.owner s.things ≡ Gives result
  pub is : answered Victim result 0 k ≡ j

none_is : (x : Option Cause) → is_none x ≡ true → x ≡ None
none_is None h = refl
none_is (Some c) h = absurd cc

not_is : (b : Bool) → not b ≡ true → b ≡ false
not_is true h = absurd cc
not_is false h = refl

shares : (mode : Mode) (h : Held) → shares_held mode h ≡ true → (mode ≡ Mode.Shared) × (is_held h ≡ true)
shares Mode.Shared h e = (refl, e)
shares Mode.Exclusive h e = absurd cc

module _ (s : Setting) (m j : Machine) (id : ℕ) (k : Machine) (called : seg_step s.code m ≡ Done.Called id k) where
  by_access : (a : Access) → access id (m.regs 0) (m.regs 1) (m.regs 2) s.owner s.things ≡ a → is_read s id m ≡ true →
      option_map (λ result. answered Victim result 0 k) (given a) ≡ Some j → Reads s m j
  by_access (Gives result) gives reads e =
      let first = both_hold (is_none (early_refusal s.callable id (m.regs 0) (m.regs 1) s.owner))
      (not (is_ask id) && shares_held (accessed id (m.regs 0) s.owner).mode
      (s.touched (accessed id (m.regs 0) s.owner).object)) reads in
      let second = both_hold (not (is_ask id)) (shares_held (accessed id (m.regs 0) s.owner).mode
      (s.touched (accessed id (m.regs 0) s.owner).object)) first.1 in
      let third = shares (accessed id (m.regs 0) s.owner).mode
      (s.touched (accessed id (m.regs 0) s.owner).object) second.1 in
      record {
        id = id;
        k = k;
        result = result;
        called = called;
        early = none_is (early_refusal s.callable id (m.regs 0) (m.regs 1) s.owner) first.0;
        no_ask = not_is (is_ask id) second.0;
        shared = third.0;
        held = third.1;
        gives = gives;
        is = cc;
      }
  by_access (Changes result inverse things) gives reads e = absurd cc
  by_access (Refuses cause) gives reads e = absurd cc

  by_test : (b : Bool) → is_read s id m ≡ b →
      cond b (option_map (λ result. answered Victim result 0 k)
      (given (access id (m.regs 0) (m.regs 1) (m.regs 2) s.owner s.things))) None ≡ Some j →
      Reads s m j
  by_test true reads e = by_access (access id (m.regs 0) (m.regs 1) (m.regs 2) s.owner s.things) refl reads e
  by_test false reads e = absurd cc

pub quiet_cases : (s : Setting) (m j : Machine) → quiet s m ≡ Some j → (seg_step s.code m ≡ Done.Went j) ⊎ Reads s m j
quiet_cases s m j h = by_done (seg_step s.code m) refl h
  where
    by_done : (d : Done) → seg_step s.code m ≡ d → after_quiet s m d ≡ Some j →
        (seg_step s.code m ≡ Done.Went j) ⊎ Reads s m j
    by_done (Done.Went k) is e = let same : k ≡ j = cc in inl (rw same at is)
    by_done (Done.Called id k) is e = inr (by_test s m j id k is (is_read s id m) refl e)
    by_done Done.Returned is e = absurd cc
    by_done Done.DividedByZero is e = absurd cc
    by_done (Done.Trapped code) is e = absurd cc
    by_done Done.Outside is e = absurd cc
    by_done Done.PastEnd is e = absurd cc

-- the last of some instructions
pub record Last (s : Setting) (n : ℕ) (first m : Machine) : Type 0 where
  pub k : Machine
  pub before : quiet_on s n first ≡ Some k
  pub step : quiet s k ≡ Some m

pub last : (s : Setting) (n : ℕ) (first m : Machine) → quiet_on s (suc n) first ≡ Some m → Last s n first m
last s n first m h = by_case (quiet_on s n first) refl h
  where
    by_case : (o : Option Machine) → quiet_on s n first ≡ o →
        elim o as (λ _. Option Machine) [ None ↦ None | Some k ↦ quiet s k ] ≡ Some m →
        Last s n first m
    by_case None is e = absurd cc
    by_case (Some k) is e = record { k = k; before = is; step = e }

-- what is needed shared is no user lock
pub no_user : (id r0 q : ℕ) → (accessed id r0 q).mode ≡ Mode.Shared → (accessed id r0 q).by_user ≡ false
no_user id r0 q shared = grind (arith, nat_tests, shared)

pub no_lock : (id r0 q : ℕ) → (accessed id r0 q).mode ≡ Mode.Shared → (id == 12) ≡ false
no_lock id r0 q shared = grind (arith, nat_tests, shared)
