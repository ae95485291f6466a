-- Lists of calls, one after the other.
use Rattle.std.specs.Prelude.{◌≡◌, ℕ, zero, suc, ◌+◌, ◌-◌, ◌^◌, ◌≤◌, min, Bool, List, [], ◌∷◌, ◌++◌}
use Rattle.std.specs.Prelude.{length, Option, Some}
use Rattle.std.proofs.Common.{arith, refl, sym, ap, ◌∙◌, subst}
use Rattle.std.proofs.lemmas.Bool.Decides.{nat_tests}
use Rattle.std.proofs.lemmas.List.Sums.{sum_by-append}
use Rattle.std.specs.Prelude.{cond}
use Rattle.vino_base.specs.Calls.{Plan, after_call, call_fails}
use Rattle.vino_base.specs.Disks.{DiskSeen}
use Rattle.mem_disk.specs.Calls.{failures, planned, plan_after, Made, CallsExtend}

-- no calls
pub made_none : (d : DiskSeen) → Made d d []
made_none d =
    record {
      size = refl;
      later = grind (arith);
      counted = grind (arith, nat_tests);
      calls = λ q e. refl;
      plan_is = λ q e. e;
    }

-- sums from the front
none_and : (n : ℕ) → 0 + n ≡ n
none_and n = grind (arith)

more_and : (m n : ℕ) → suc m + n ≡ suc (m + n)
more_and m n = grind (arith)

-- what the next calls of a plan do, in two parts
planned_joined : (m n : ℕ) (p : Plan) →
    planned (m + n) p ≡ planned m p ++ planned n (plan_after m p)
planned_joined zero n p = ap (λ k. planned k p) (none_and n)
planned_joined (suc m) n p = ap (λ k. planned k p) (more_and m n)
    ∙ ap (λ io. call_fails p ∷ io) (planned_joined m n (after_call p))

-- a plan after calls in two parts
plan_after_joined : (m n : ℕ) (p : Plan) → plan_after (m + n) p ≡ plan_after n (plan_after m p)
plan_after_joined zero n p = ap (λ k. plan_after k p) (none_and n)
plan_after_joined (suc m) n p = ap (λ k. plan_after k p) (more_and m n)
    ∙ plan_after_joined m n (after_call p)

-- how many calls there are in two lists
length_joined : (xs ys : List Bool) → length (xs ++ ys) ≡ length xs + length ys
length_joined [] ys = sym (none_and (length ys))
length_joined (x ∷ xs) ys = ap suc (length_joined xs ys) ∙ sym (more_and (length xs) (length ys))

-- two counts of failures
counted_joined : (f g h m n : ℕ) → min (f + m) (2 ^ 64 - 1) ≤ g → min (g + n) (2 ^ 64 - 1) ≤ h →
    min (f + (m + n)) (2 ^ 64 - 1) ≤ h
counted_joined f g h m n first second = grind (arith, nat_tests)

-- Two lists of calls, one after the other, are one list.
pub made_joined : (d e f : DiskSeen) (xs ys : List Bool) → Made d e xs → Made e f ys →
    Made d f (xs ++ ys)
made_joined d e f xs ys first second =
    record {
      size = second.size ∙ first.size;
      later = let a = first.later in let b = second.later in grind (arith);
      counted =
          subst (λ n. min (d.faults + n) (2 ^ 64 - 1) ≤ f.faults)
          (sym (sum_by-append (λ failed. cond failed 1 0) xs ys))
          (counted_joined d.faults e.faults f.faults (failures xs) (failures ys) first.counted
          second.counted);
      calls = λ x e.
          ap (λ (io : List Bool). io ++ ys) (first.calls x e)
          ∙ ap (λ (io : List Bool). planned (length xs) x
          ++ io) (second.calls (plan_after (length xs) x) (first.plan_is x e))
          ∙ sym (planned_joined (length xs) (length ys) x)
          ∙ ap (λ n. planned n x) (sym (length_joined xs ys));
      plan_is = λ x e.
          second.plan_is (plan_after (length xs) x) (first.plan_is x e)
          ∙ ap (λ y. Some y) (sym (plan_after_joined (length xs) (length ys) x))
          ∙ ap (λ n. Some (plan_after n x)) (sym (length_joined xs ys));
    }

-- A list of calls that nothing was added to goes on with a disk that wasn't called.
pub extends_none : (d : DiskSeen) (io : List Bool) → CallsExtend d d io io
extends_none d io = record { size = refl; made = λ first made. made }

-- A list of calls goes on with what a disk did in two parts.
pub extends_then : (d e f : DiskSeen) (x y z : List Bool) → CallsExtend d e x y →
    CallsExtend e f y z → CallsExtend d f x z
extends_then d e f x y z one two =
    record {
      size = two.size ∙ one.size;
      made = λ first made. two.made first (one.made first made);
    }

-- A list of calls that began empty is what the disk did.
pub made_alone : (d e : DiskSeen) (x y : List Bool) → x ≡ [] → CallsExtend d e x y → Made d e y
made_alone d e x y empty goes =
    goes.made d (subst (λ (io : List Bool). Made d d io) (sym empty) (made_none d))
