-- The order of waiting.
use Rattle.std.proofs.Common.{◌≡◌, ℕ, Bool, true, false, cond, not, ◌==◌, List, [], ◌∷◌, map, filter, refl, ap}
use Rattle.kernel_model.specs.Kernel as model
use Rattle.audit_kernel.specs.declared.Waiter.{Waiter}
use Rattle.audit_kernel.specs.Runs.{waiter_of}

-- the entries of others are those that a test of the process lets through
pub left_out : (p : ℕ) (es : List Waiter) →
    map waiter_of (filter (λ (e : Waiter). not (e.process == p)) es)
    ≡ model.less_entry p (map waiter_of es)
left_out p [] = refl
left_out p (e ∷ es) =
    by (not (e.process == p)) (filter (λ (f : Waiter). not (f.process == p)) es)
    (model.less_entry p (map waiter_of es)) (left_out p es)
  where
    by : (b : Bool) (xs : List Waiter) (ys : List model.Waiter) → map waiter_of xs ≡ ys →
        map waiter_of (cond b (e ∷ xs) xs) ≡ cond b (waiter_of e ∷ ys) ys
    by true xs ys same = ap (λ (zs : List model.Waiter). waiter_of e ∷ zs) same
    by false xs ys same = same
