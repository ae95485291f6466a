-- Steps of settling, and rest.
use Rattle.std.proofs.Common.{◌≡◌, ℕ, suc, List, [], ◌∷◌, map, Option, Some, None, refl, sym, ap, ◌∙◌}
use Rattle.kernel_model.specs.Kernel as model
use Rattle.kernel_model.specs.AllCalls.{all_calls}
use Rattle.kernel_model.specs.Blocking.{holds}
use Rattle.kernel_model.specs.Settle.{first_free, first_free_in, order_in, rested_order, rested, settle, step}
use Rattle.audit_kernel.specs.declared.Waiter.{Waiter}
use Rattle.audit_kernel.specs.Runs.{waiter_of}

-- the first in the order that nothing blocks, by the table of what calls hold
pub first_free_is : (k : model.Kernel) (es : List model.Waiter) →
    first_free_in all_calls k (holds all_calls k) es ≡ first_free all_calls k es
first_free_is k [] = refl
first_free_is k (e ∷ es) = refl

-- the same of the entries of a list of the code
pub free_of : (k : model.Kernel) (es fs : List Waiter) (p : Option ℕ) →
    p ≡ first_free_in all_calls k (holds all_calls k) (map waiter_of es) → es ≡ fs →
    p ≡ first_free all_calls k (map waiter_of fs)
free_of k es fs p is same =
    is ∙ ap (λ (xs : List Waiter). first_free_in all_calls k (holds all_calls k) (map waiter_of xs)) same
    ∙ first_free_is k (map waiter_of fs)

-- the order with its blockers, by the table of what calls hold
pub rested_is : (k : model.Kernel) (es : List model.Waiter) →
    order_in all_calls k (holds all_calls k) es ≡ rested_order all_calls k es
rested_is k [] = refl
rested_is k (e ∷ es) = refl

-- settling from here, where this is the first that nothing blocks
abbrev from_here : ℕ → model.Run → Option ℕ → model.Run
from_here n r x = elim x [ None ↦ rested all_calls r | Some q ↦ settle all_calls n (step all_calls q r) ]

-- the step was taken, and as much is left as was before
pub step_taken : (n m p : ℕ) (r s t : model.Run) → m ≡ suc n →
    Some p ≡ first_free all_calls r.kernel r.kernel.order → s ≡ step all_calls p r →
    settle all_calls m r ≡ t → settle all_calls n s ≡ t
step_taken n m p r s t m_is free s_is rest =
    ap (settle all_calls n) s_is ∙ ap (from_here n r) free
    ∙ sym (ap (λ (k : ℕ). settle all_calls k r) m_is) ∙ rest

-- no step is left to take
pub none_taken : (n m : ℕ) (r s t : model.Run) → m ≡ suc n →
    None ≡ first_free all_calls r.kernel r.kernel.order → s ≡ rested all_calls r →
    settle all_calls m r ≡ t → s ≡ t
none_taken n m r s t m_is free s_is rest =
    s_is ∙ ap (from_here n r) free ∙ sym (ap (λ (k : ℕ). settle all_calls k r) m_is) ∙ rest
