use Rattle.std.proofs.Common.{◌≡◌, ◌==◌, ℕ, Bool, true, false, cond, Some, None, option_map, refl, sym, ap, ◌∙◌, arith}
use Rattle.std.proofs.lemmas.Bool.Decides.{nat_tests}
use Rattle.kernel_model.specs.Access.{param_top}
use Rattle.audit_state.specs.Things.{things_of}
use Rattle.audit_kernel.proofs.rows.parameter_of.Goals as goal

-- a policy that isn't the first has a parameter
with_parameter : (kind policy v : ℕ) → (policy == 0) ≡ false →
    Some v ≡ option_map (λ (top : ℕ). v) (param_top kind policy)
with_parameter kind policy v other =
    by (kind == 0) (kind == 1)
    ∙ sym (ap (λ (b : Bool). option_map (λ (top : ℕ). v) (cond b None (cond (kind == 0) (Some 8)
    (cond (kind == 1) (Some 255) (Some 39))))) other)
  where
    by : (a b : Bool) → Some v ≡ option_map (λ (top : ℕ). v) (cond a (Some 8) (cond b (Some 255) (Some 39)))
    by true b = refl
    by false true = refl
    by false false = refl

pub returns-else-policy-eq0 : goal.returns-else-policy-eq0
returns-else-policy-eq0 c = λ bytes.
    let param : ℕ → ℕ → ℕ = λ k j. ((things_of bytes c.args.things.now).pol k).param j in
    let other : (c.args.policy == 0) ≡ false = grind (arith, nat_tests) in
    ap (λ (v : ℕ). Some v) (c.param.ensures bytes
    ∙ ap (λ (k : ℕ). param k c.from-else-policy-eq0.result) c.from.ensures
    ∙ ap (λ (j : ℕ). param c.args.kind j) c.from-else-policy-eq0.ensures)
    ∙ with_parameter c.args.kind c.args.policy (param c.args.kind c.args.policy) other
