-- Processes in turn, and what their calls hold.
use Rattle.std.proofs.Common.{◌≡◌, ℕ, zero, suc, ◌<◌, ◌≤◌, ◌+◌, Bool, true, false, cond, List, [], ◌∷◌, ◌++◌, map, drop, find}
use Rattle.std.proofs.Common.{Option, Some, None, is_some, nat_lt, refl, sym, ap, ◌∙◌, append_assoc, append-nil, ◌==◌, ◌&&◌, not, arith}
use Rattle.std.proofs.lemmas.Bool.Decides.{nat_tests}
use Rattle.std.proofs.lemmas.List.{drop_all}
use Rattle.kernel_model.specs.World.{processes}
use Rattle.kernel_model.specs.History.{Mark, Trace, replay}
use Rattle.kernel_model.specs.Kernel.{Kernel, Call, has_level}
use Rattle.kernel_model.specs.AllCalls.{all_calls}
use Rattle.kernel_model.specs.Levels.{Level, touched_at}
use Rattle.kernel_model.specs.Blocking.{config_in, levels_in, levels_of, locks_from, holds, trace_of}
use Rattle.kernel_model.specs.declared.Object.{Object}
use Rattle.kernel_model.specs.declared.Mode.{Mode}
use Rattle.kernel_model.specs.Locks.{Touched, outermost_holding, hinders}
use Rattle.audit_kernel.proofs.Places.{past_end}
use Rattle.audit_kernel.specs.Holders.{AreHolders}
use Rattle.audit_kernel.specs.Runs.{leads}

-- what a process's call holds, in the table of all
pub locks_at : (f : ℕ → List Level) (q : ℕ) → q < 16 → locks_from (map f processes) q ≡ touched_at (f q)
locks_at f zero lt = refl
locks_at f (suc zero) lt = refl
locks_at f (suc (suc zero)) lt = refl
locks_at f (suc (suc (suc zero))) lt = refl
locks_at f (suc (suc (suc (suc zero)))) lt = refl
locks_at f (suc (suc (suc (suc (suc zero))))) lt = refl
locks_at f (suc (suc (suc (suc (suc (suc zero)))))) lt = refl
locks_at f (suc (suc (suc (suc (suc (suc (suc zero))))))) lt = refl
locks_at f (suc (suc (suc (suc (suc (suc (suc (suc zero)))))))) lt = refl
locks_at f (suc (suc (suc (suc (suc (suc (suc (suc (suc zero))))))))) lt = refl
locks_at f (suc (suc (suc (suc (suc (suc (suc (suc (suc (suc zero)))))))))) lt = refl
locks_at f (suc (suc (suc (suc (suc (suc (suc (suc (suc (suc (suc zero))))))))))) lt = refl
locks_at f (suc (suc (suc (suc (suc (suc (suc (suc (suc (suc (suc (suc zero)))))))))))) lt = refl
locks_at f (suc (suc (suc (suc (suc (suc (suc (suc (suc (suc (suc (suc (suc zero))))))))))))) lt = refl
locks_at f (suc (suc (suc (suc (suc (suc (suc (suc (suc (suc (suc (suc (suc (suc zero)))))))))))))) lt = refl
locks_at f (suc (suc (suc (suc (suc (suc (suc (suc (suc (suc (suc (suc (suc (suc (suc zero))))))))))))))) lt = refl
locks_at f (suc (suc (suc (suc (suc (suc (suc (suc (suc (suc (suc (suc (suc (suc (suc (suc n)))))))))))))))) lt = absurd (omega (arith, lt))

-- the processes from one on
pub from_one : (q : ℕ) → q < 16 → drop q processes ≡ q ∷ drop (q + 1) processes
from_one zero lt = refl
from_one (suc zero) lt = refl
from_one (suc (suc zero)) lt = refl
from_one (suc (suc (suc zero))) lt = refl
from_one (suc (suc (suc (suc zero)))) lt = refl
from_one (suc (suc (suc (suc (suc zero))))) lt = refl
from_one (suc (suc (suc (suc (suc (suc zero)))))) lt = refl
from_one (suc (suc (suc (suc (suc (suc (suc zero))))))) lt = refl
from_one (suc (suc (suc (suc (suc (suc (suc (suc zero)))))))) lt = refl
from_one (suc (suc (suc (suc (suc (suc (suc (suc (suc zero))))))))) lt = refl
from_one (suc (suc (suc (suc (suc (suc (suc (suc (suc (suc zero)))))))))) lt = refl
from_one (suc (suc (suc (suc (suc (suc (suc (suc (suc (suc (suc zero))))))))))) lt = refl
from_one (suc (suc (suc (suc (suc (suc (suc (suc (suc (suc (suc (suc zero)))))))))))) lt = refl
from_one (suc (suc (suc (suc (suc (suc (suc (suc (suc (suc (suc (suc (suc zero))))))))))))) lt = refl
from_one (suc (suc (suc (suc (suc (suc (suc (suc (suc (suc (suc (suc (suc (suc zero)))))))))))))) lt = refl
from_one (suc (suc (suc (suc (suc (suc (suc (suc (suc (suc (suc (suc (suc (suc (suc zero))))))))))))))) lt = refl
from_one (suc (suc (suc (suc (suc (suc (suc (suc (suc (suc (suc (suc (suc (suc (suc (suc n)))))))))))))))) lt = absurd (omega (arith, lt))

-- one that doesn't pass a test can be left out
skipped : (test : ℕ → Bool) (xs : List ℕ) (q : ℕ) (ys : List ℕ) → test q ≡ false →
    find test (xs ++ q ∷ ys) ≡ find test (xs ++ ys)
skipped test [] q ys e = ap (λ (b : Bool). cond b (Some q) (find test ys)) e
skipped test (x ∷ xs) q ys e = ap (λ (r : Option ℕ). cond (test x) (Some x) r) (skipped test xs q ys e)

-- the processes with a level among those before one, with all from that one on
abbrev pub AreSoFar : Kernel → List ℕ → ℕ → Type 0
AreSoFar k hs q =
    (test : ℕ → Bool) → ((p : ℕ) → has_level (k.call p) ≡ false → test p ≡ false) →
    find test (hs ++ drop q processes) ≡ find test processes

-- one more process is looked at
pub one_more : (k : Kernel) (hs more : List ℕ) (q : ℕ) → q < 16 →
    more ≡ hs ++ cond (has_level (k.call q)) (q ∷ []) [] → AreSoFar k hs q → AreSoFar k more (q + 1)
one_more k hs more q lt is so test less = by (has_level (k.call q)) refl
  where
    before : find test (hs ++ q ∷ drop (q + 1) processes) ≡ find test processes
    before = ap (λ (xs : List ℕ). find test (hs ++ xs)) (sym (from_one q lt)) ∙ so test less

    by : (b : Bool) → has_level (k.call q) ≡ b → find test (more ++ drop (q + 1) processes) ≡ find test processes
    by true e =
        ap (λ (xs : List ℕ). find test (xs ++ drop (q + 1) processes))
        (is ∙ ap (λ (b : Bool). hs ++ cond b (q ∷ []) []) e)
        ∙ ap (find test) (append_assoc hs (q ∷ []) (drop (q + 1) processes)) ∙ before
    by false e =
        ap (λ (xs : List ℕ). find test (xs ++ drop (q + 1) processes))
        (is ∙ ap (λ (b : Bool). hs ++ cond b (q ∷ []) []) e ∙ append-nil hs)
        ∙ sym (skipped test hs q (drop (q + 1) processes) (less q e)) ∙ before

-- all were looked at
pub all_seen : (k : Kernel) (hs : List ℕ) (q : ℕ) → 16 ≤ q → AreSoFar k hs q → AreHolders k hs
all_seen k hs q le so test less =
    ap (find test) (sym (append-nil hs))
    ∙ sym (ap (λ (xs : List ℕ). find test (hs ++ xs)) (drop_all q processes le)) ∙ so test less

-- the same of an equal list
pub same_list : (k : Kernel) (hs xs : List ℕ) → xs ≡ hs → AreHolders k hs → AreHolders k xs
same_list k hs xs e so test less = ap (find test) e ∙ so test less

-- where a history leads, of a kernel
pub leads_is : (k : Kernel) (p : ℕ) (c : Option Call) → leads k.world k.images k.objects p c ≡ trace_of all_calls k p c
leads_is k p None = refl
leads_is k p (Some c) = refl

-- where the history of a call leads, by its marks
abbrev led : Kernel → ℕ → Call → Option (List Mark) → Option Trace
led k q c ks =
    elim ks [ None ↦ None | Some ms ↦ replay all_calls k.world k.images k.objects q c.stage ms ]

-- a call without a history has no level
pub level_less : (k : Kernel) (q : ℕ) → has_level (k.call q) ≡ false → levels_of all_calls k q ≡ []
level_less k q bare = ap (λ (t : Option Trace). levels_in (config_in t)) (nowhere (k.call q) bare)
  where
    nowhere : (c : Option Call) → has_level c ≡ false → trace_of all_calls k q c ≡ None
    nowhere None h = refl
    nowhere (Some c) h = by c.marks refl
      where
        by : (ks : Option (List Mark)) → c.marks ≡ ks → trace_of all_calls k q (Some c) ≡ None
        by None e = ap (led k q c) e
        by (Some ks) e = absurd (grind (arith, h, e))

-- no process above 15 holds anything
pub held_by_none : (f : ℕ → List Level) (q : ℕ) (o : Object) (mode : Mode) → 16 ≤ q →
    outermost_holding o mode (locks_from (map f processes) q) ≡ None
held_by_none f q o mode le =
    ap (λ (ls : List Level). outermost_holding o mode (touched_at ls))
    (past_end (map f processes) q [] le)

-- a process whose call has no level holds nothing
pub bare_holds_nothing : (k : Kernel) (p q : ℕ) (o : Object) (mode : Mode) → has_level (k.call q) ≡ false →
    (not (q == p) && hinders o mode (holds all_calls k q)) ≡ false
bare_holds_nothing k p q o mode bare = by (q == p)
  where
    none : outermost_holding o mode (holds all_calls k q) ≡ None
    none = place (nat_lt q 16) refl
      where
        place : (b : Bool) → nat_lt q 16 ≡ b → outermost_holding o mode (holds all_calls k q) ≡ None
        place true e =
            ap (λ (t : ℕ → Touched). outermost_holding o mode t)
            (locks_at (levels_of all_calls k) q (grind (arith, nat_tests, e)))
            ∙ ap (λ (ls : List Level). outermost_holding o mode (touched_at ls)) (level_less k q bare)
        place false e = held_by_none (levels_of all_calls k) q o mode (grind (arith, nat_tests, e))

    by : (b : Bool) → (not b && hinders o mode (holds all_calls k q)) ≡ false
    by true = refl
    by false = ap is_some none
