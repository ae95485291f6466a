-- Instructions of one call, one after another.
use Rattle.std.proofs.Common.{◌≡◌, ℕ, suc, ◌&&◌, not, Bool, true, false, Option, Some, None, sym, ap, ◌∙◌}
use Rattle.kernel_model.specs.Kernel.{Blocker, Run, has_level, joins}
use Rattle.kernel_model.specs.AllCalls.{all_calls}
use Rattle.kernel_model.specs.Blocking.{blocker}
use Rattle.kernel_model.specs.Settle.{settled, step}
use Rattle.kernel_model.specs.Events.{in_order, steps}

-- the test of one turn
abbrev pub goes_on : ℕ → Run → Bool
goes_on p r = has_level (r.kernel.call p) && not (in_order p r.kernel.order)

-- one turn, by its test and its blocker
abbrev turn : (p n taken : ℕ) → Run → Bool → Option Blocker → ℕ × Run
turn p n taken r t b = elim t [
  | false ↦ (taken, r)
  | true ↦ elim b [
    | Some x ↦ (taken, settled all_calls (joins p r))
    | None ↦ steps all_calls p n (suc taken) (settled all_calls (step all_calls p r))
  ]
]

pub at_end : (p n m taken : ℕ) (r : Run) (x : ℕ × Run) → m ≡ suc n → goes_on p r ≡ false →
    steps all_calls p m taken r ≡ x → (taken, r) ≡ x
at_end p n m taken r x m_is t rest =
    sym (ap (λ (b : Bool). turn p n taken r b (blocker all_calls r.kernel p)) t)
    ∙ sym (ap (λ (k : ℕ). steps all_calls p k taken r) m_is) ∙ rest

pub at_blocker : (p n m taken : ℕ) (r s : Run) (b : Blocker) (x : ℕ × Run) → m ≡ suc n →
    goes_on p r ≡ true → blocker all_calls r.kernel p ≡ Some b → s ≡ settled all_calls (joins p r) →
    steps all_calls p m taken r ≡ x → (taken, s) ≡ x
at_blocker p n m taken r s b x m_is t is s_is rest =
    ap (λ (u : Run). (taken, u)) s_is ∙ sym (ap (λ (o : Option Blocker). turn p n taken r true o) is)
    ∙ sym (ap (λ (e : Bool). turn p n taken r e (blocker all_calls r.kernel p)) t)
    ∙ sym (ap (λ (k : ℕ). steps all_calls p k taken r) m_is) ∙ rest

pub at_step : (p n m taken more : ℕ) (r s : Run) (x : ℕ × Run) → m ≡ suc n → more ≡ suc taken →
    goes_on p r ≡ true → blocker all_calls r.kernel p ≡ None →
    s ≡ settled all_calls (step all_calls p r) →
    steps all_calls p m taken r ≡ x → steps all_calls p n more s ≡ x
at_step p n m taken more r s x m_is more_is t is s_is rest =
    ap (λ (k : ℕ). steps all_calls p n k s) more_is
    ∙ ap (steps all_calls p n (suc taken)) s_is
    ∙ sym (ap (λ (o : Option Blocker). turn p n taken r true o) is)
    ∙ sym (ap (λ (e : Bool). turn p n taken r e (blocker all_calls r.kernel p)) t)
    ∙ sym (ap (λ (k : ℕ). steps all_calls p k taken r) m_is) ∙ rest

-- settling after a change
pub settles : {r s t : Run} → t ≡ settled all_calls s → s ≡ r → t ≡ settled all_calls r
settles t_is s_is = t_is ∙ ap (settled all_calls) s_is
