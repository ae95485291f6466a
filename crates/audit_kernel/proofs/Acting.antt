-- What a tick does for those that have waited too long, one after another.
use Rattle.std.proofs.Common.{◌≡◌, ℕ, suc, true, false, List, Option, Some, None, refl, sym, ap, ◌∙◌, arith}
use Rattle.kernel_data.specs.declared.Cause.{Cause}
use Rattle.kernel_data.specs.declared.Cause.TheVariants.{TimeOut}
use Rattle.kernel_model.specs.Blocking.{levels_of, number_of_call}
use Rattle.kernel_model.specs.History.{Mark}
use Rattle.kernel_model.specs.Kernel.{Blocker, Call, Waiter, Run, has_level}
use Rattle.kernel_model.specs.AllCalls.{all_calls}
use Rattle.kernel_model.specs.Settle.{settled}
use Rattle.kernel_model.specs.Events.{actions, entry_action, expired, drop_call, innermost, times_out, waiter_action}

-- actions from here, where this is the first that has waited too long
abbrev from_here : ℕ → Run → Option Waiter → Run
from_here n r x = elim x [
  | None ↦ r
  | Some e ↦ actions all_calls n (settled all_calls (entry_action all_calls e e.blocker r))
]

-- none has waited too long
pub none_over : (n m : ℕ) (r t : Run) → m ≡ suc n → None ≡ expired r.kernel r.kernel.order →
    actions all_calls m r ≡ t → r ≡ t
none_over n m r t m_is none rest =
    ap (from_here n r) none ∙ sym (ap (λ (k : ℕ). actions all_calls k r) m_is) ∙ rest

-- one action was taken, and what is left is what was left before
pub one_acted : (n m : ℕ) (e : Waiter) (r s u t : Run) → m ≡ suc n →
    Some e ≡ expired r.kernel r.kernel.order → s ≡ entry_action all_calls e e.blocker r →
    u ≡ settled all_calls s → actions all_calls m r ≡ t → actions all_calls n u ≡ t
one_acted n m e r s u t m_is found s_is u_is rest =
    ap (actions all_calls n) (u_is ∙ ap (settled all_calls) s_is) ∙ ap (from_here n r) found
    ∙ sym (ap (λ (k : ℕ). actions all_calls k r) m_is) ∙ rest

-- a process that has no call waits for nothing
pub nobody_waits : (p : ℕ) (b : Blocker) (o : Option Call) (r : Run) → None ≡ number_of_call o →
    r ≡ waiter_action all_calls p b o r
nobody_waits p b None r is = refl
nobody_waits p b (Some c) r is = absurd (grind (arith, is))

-- what is done for a waiter, by the history of its call
abbrev choice : ℕ → Blocker → Call → Run → Option (List Mark) → Run
choice p b c r ks = elim ks [
  | None ↦ times_out all_calls p b c r
  | Some ms ↦ drop_call all_calls p (Some c) (innermost (levels_of all_calls r.kernel p))
      (TimeOut b.object b.holder) r
]

-- a waiter without a level ends
pub ends : (p n : ℕ) (b : Blocker) (o : Option Call) (r s : Run) → Some n ≡ number_of_call o →
    has_level o ≡ false → ((c : Call) → c.number ≡ n → s ≡ times_out all_calls p b c r) →
    s ≡ waiter_action all_calls p b o r
ends p n b None r s is h made = absurd (grind (arith, is))
ends p n b (Some c) r s is h made = by c.marks refl
  where
    by : (ks : Option (List Mark)) → c.marks ≡ ks → s ≡ waiter_action all_calls p b (Some c) r
    by None e = made c (grind (arith, is)) ∙ sym (ap (choice p b c r) e)
    by (Some ks) e = absurd (grind (arith, h, e))

-- a waiter with levels loses the innermost
pub loses_level : (p : ℕ) (d : Option ℕ) (b : Blocker) (o : Option Call) (r s : Run) →
    has_level o ≡ true → d ≡ innermost (levels_of all_calls r.kernel p) →
    s ≡ drop_call all_calls p o d (TimeOut b.object b.holder) r →
    s ≡ waiter_action all_calls p b o r
loses_level p d b None r s h is made = absurd (grind (arith, h))
loses_level p d b (Some c) r s h is made = by c.marks refl
  where
    cause : Cause
    cause = TimeOut b.object b.holder

    by : (ks : Option (List Mark)) → c.marks ≡ ks → s ≡ waiter_action all_calls p b (Some c) r
    by None e = absurd (grind (arith, h, e))
    by (Some ks) e =
        made ∙ ap (λ (x : Option ℕ). drop_call all_calls p (Some c) x cause r) is
        ∙ sym (ap (choice p b c r) e)
