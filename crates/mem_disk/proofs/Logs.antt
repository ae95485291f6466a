-- Lists of calls that go on, and blocks that are told.
use Rattle.std.specs.Prelude.{◌≡◌, ℕ, zero, suc, ◌+◌, ◌-◌, ◌^◌, ◌<◌, ◌≤◌, ◌==◌, min, Bool, true}
use Rattle.std.specs.Prelude.{false, cond, List, [], ◌∷◌, ◌++◌, length, option_map, Option, Some}
use Rattle.std.specs.Prelude.{None, Result, Ok, Err, is_ok, slice_get, slice_set, slice_index_or}
use Rattle.std.specs.Result.{is_err, OnOk}
use Rattle.std.proofs.Common.{arith, refl, sym, ap, ◌∙◌, subst}
use Rattle.std.proofs.lemmas.Bool.Decides.{nat_tests}
use Rattle.std.proofs.lemmas.List.{get_or-set_same, get_or-set_other}
use Rattle.std.proofs.lemmas.List.Sums.{sum_by-append}
use Rattle.std.proofs.lemmas.Option.{get_or_from_slice_get}
use mathlib.Core.Path.{fun_ext}
use Rattle.vino_base.specs.Calls.{Plan, after_call, call_fails}
use Rattle.vino_base.specs.Faults.{HasCause}
use Rattle.vino_base.specs.Disks.{DiskSeen, blocks_written}
use Rattle.kernel_data.specs.World.{Blocks}
use Rattle.kernel_data.specs.Objects.{at}
use Rattle.mem_disk.specs.Calls.{blocks_in, Knows, failures, planned, plan_after, Made, CallsExtend}

-- what an option holds
held : {A : Type 0} {a b : A} → Some a ≡ Some b → a ≡ b
held e = grind (arith, e)

-- a read leaves the told blocks, and gives one of them
pub read_tells : {T E : Type 0} (known known_new : Option (List (List ℕ))) (result : Result T E)
    (b : ℕ) (to : List ℕ) (blocks : Blocks) → known_new ≡ known →
    ((bs : List (List ℕ)) → known ≡ Some bs → OnOk result (slice_get bs b ≡ Some to)) →
    Knows known blocks → Knows known_new blocks × OnOk result (to ≡ blocks b)
read_tells None known_new result b to blocks same given tells = absurd cc
read_tells (Some bs) known_new (Ok x) b to blocks same given tells = (
  ap (option_map blocks_in) same ∙ tells,
  sym (get_or_from_slice_get bs b to [] (given bs refl)) ∙ ap (λ (f : Blocks). f b) (held tells),
)
read_tells (Some bs) known_new (Err e) b to blocks same given tells =
    (ap (option_map blocks_in) same ∙ tells, given bs refl)

-- a block of the list is replaced
set_block : (bs : List (List ℕ)) (b : ℕ) (bytes : List ℕ) → b < length bs →
    blocks_in (slice_set bs b bytes) ≡ at b bytes (blocks_in bs)
set_block bs b bytes below = fun_ext (λ j. by_test j (j == b) refl)
  where
    by_test : (j : ℕ) (t : Bool) → (j == b) ≡ t →
        slice_index_or (slice_set bs b bytes) j [] ≡ cond (j == b) bytes (slice_index_or bs j [])
    by_test j true h = grind (arith, nat_tests, get_or-set_same)
    by_test j false h = grind (arith, nat_tests, get_or-set_other)

-- a write that doesn't fail replaces one of the told blocks
pub write_tells : {T E : Type 0} (known known_new : Option (List (List ℕ))) (result : Result T E)
    (b count : ℕ) (bytes : List ℕ) (blocks : Blocks) → b < count →
    ((bs : List (List ℕ)) → known ≡ Some bs → length bs ≡ count) →
    known_new ≡ option_map (blocks_written b bytes (is_err result)) known → Knows known blocks →
    Knows known_new (cond (is_ok result) (at b bytes blocks) blocks)
write_tells None known_new result b count bytes blocks below long after tells = absurd cc
write_tells (Some bs) known_new (Ok x) b count bytes blocks below long after tells =
    ap (option_map blocks_in) after
    ∙ ap (λ (f : Blocks). Some f) (set_block bs b bytes (subst (λ n. b < n) (sym (long bs refl))
    below) ∙ ap (at b bytes) (held tells))
write_tells (Some bs) known_new (Err e) b count bytes blocks below long after tells =
    ap (option_map blocks_in) after ∙ tells

-- ---- lists of calls

-- what the next calls of a plan do, and one more
planned_more : (n : ℕ) (p : Plan) → planned (suc n) p ≡ planned n p ++ call_fails (plan_after n p) ∷ []
planned_more zero p = refl
planned_more (suc n) p = ap (λ io. call_fails p ∷ io) (planned_more n (after_call p))

-- a plan after so many calls, and one more
plan_after_more : (n : ℕ) (p : Plan) → plan_after (suc n) p ≡ after_call (plan_after n p)
plan_after_more zero p = refl
plan_after_more (suc n) p = plan_after_more n (after_call p)

-- one call more in a list
length_more : (io : List Bool) (x : Bool) → length (io ++ x ∷ []) ≡ suc (length io)
length_more [] x = refl
length_more (y ∷ io) x = ap suc (length_more io x)

-- its failures
failures_more : (io : List Bool) (x : Bool) → failures (io ++ x ∷ []) ≡ failures io + cond x 1 0
failures_more io x = sum_by-append (λ failed. cond failed 1 0) io (x ∷ []) ∙ ap (λ n. failures io + n) (alone x)
  where
    alone : (x : Bool) → failures (x ∷ []) ≡ cond x 1 0
    alone true = refl
    alone false = refl

-- a failed call is counted
counted_more : {T E : Type 0} (f before now n : ℕ) (result : Result T E) →
    min (f + n) (2 ^ 64 - 1) ≤ before → HasCause before now result →
    min (f + (n + cond (is_err result) 1 0)) (2 ^ 64 - 1) ≤ now
counted_more f before now n (Ok x) h cause = let later = cause.later in grind (arith, nat_tests)
counted_more f before now n (Err e) h cause =
    let later = cause.later in
    let rose = cause.failed in
    grind (arith, nat_tests)

-- a list of calls with one call more
made_more : {T E : Type 0} (first d e : DiskSeen) (io : List Bool) (result : Result T E) →
    e.size ≡ d.size → HasCause d.faults e.faults result →
    e.plan ≡ option_map after_call d.plan →
    ((q : Plan) → d.plan ≡ Some q → is_err result ≡ call_fails q) →
    Made first d io → Made first e (io ++ is_err result ∷ [])
made_more first d e io result size cause plan fails made =
    record {
      size = size ∙ made.size;
      later = let a = made.later in let b = cause.later in grind (arith);
      counted =
          subst (λ n. min (first.faults + n) (2 ^ 64 - 1) ≤ e.faults)
          (sym (failures_more io (is_err result)))
          (counted_more first.faults d.faults e.faults (failures io) result made.counted cause);
      calls = λ q is.
          let next = fails (plan_after (length io) q) (made.plan_is q is) in
          ap (λ (xs : List Bool). xs ++ is_err result ∷ []) (made.calls q is)
          ∙ ap (λ x. planned (length io) q ++ x ∷ []) next
          ∙ sym (planned_more (length io) q)
          ∙ ap (λ n. planned n q) (sym (length_more io (is_err result)));
      plan_is = λ q is.
          plan
          ∙ ap (option_map after_call) (made.plan_is q is)
          ∙ ap (λ r. Some r) (sym (plan_after_more (length io) q))
          ∙ ap (λ n. Some (plan_after n q)) (sym (length_more io (is_err result)));
    }

-- A call of a disk and its entry in the list.
pub call_extends : {T E : Type 0} (d e : DiskSeen) (io io_new : List Bool)
    (result : Result T E) → io_new ≡ io ++ is_err result ∷ [] → e.size ≡ d.size →
    HasCause d.faults e.faults result → e.plan ≡ option_map after_call d.plan →
    ((q : Plan) → d.plan ≡ Some q → is_err result ≡ call_fails q) → CallsExtend d e io io_new
call_extends d e io io_new result noted size cause plan fails =
    record {
      size = size;
      made = λ first made. subst (λ (xs : List Bool). Made first e xs) (sym noted)
          (made_more first d e io result size cause plan fails made);
    }
