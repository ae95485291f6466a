-- What accessors come to, by the accessor that it is.
use Rattle.std.proofs.Common.{◌≡◌, ℕ, List, Option, None, Some, Result, IfOk, subst, sym}
use Rattle.kernel_model.specs.declared.Cause.TheVariants.{BadArgument}
use Rattle.kernel_model.specs.declared.OpenRow.{OpenRow}
use Rattle.kernel_model.specs.Objects.{Things}
use Rattle.kernel_model.specs.Access as model
use Rattle.audit_state.specs.declared.Accessed.{Accessed}
use Rattle.audit_state.specs.declared.Callable.{Callable}
use Rattle.audit_state.specs.Access.{access_of, callable_of}

-- what the window of an open file comes to, if one is open
abbrev pub window_of : ℕ → Option OpenRow → model.Access
window_of id o = elim o [ None ↦ model.Refuses (BadArgument id) | Some r ↦ model.Gives r.window ]

-- what is said of one accessor is said of the accessor that it is
pub kind_is : {E : Type 0} (r : Result Accessed E) (old now : (ℕ → List ℕ) → Things)
    (k l : Callable) (id r0 r1 r2 q : ℕ) → k ≡ l →
    IfOk r (λ a. (bytes : ℕ → List ℕ) → access_of a (now bytes)
    ≡ model.access_by (callable_of l) id r0 r1 r2 q (old bytes)) →
    IfOk r (λ a. (bytes : ℕ → List ℕ) → access_of a (now bytes)
    ≡ model.access_by (callable_of k) id r0 r1 r2 q (old bytes))
kind_is {E} r old now k l id r0 r1 r2 q e h =
    let P : Callable → Type 0 =
    λ x. IfOk r (λ a. (bytes : ℕ → List ℕ) → access_of a (now bytes)
    ≡ model.access_by (callable_of x) id r0 r1 r2 q (old bytes)) in
    subst P (sym e) h
