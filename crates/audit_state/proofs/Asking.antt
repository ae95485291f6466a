-- The arguments of a point, by the kind that it is.
use Rattle.std.proofs.Common.{◌≡◌, ℕ, List, Result, Ok, Err, IfOk, subst, sym}
use Rattle.kernel_model.specs.Objects.{Things}
use Rattle.kernel_model.specs.Policies as model
use Rattle.kernel_model.specs.World.{World}
use Rattle.audit_state.specs.declared.PointKind.{PointKind}
use Rattle.audit_state.specs.Points.{point_kind}

-- what is said of one kind is said of the kind that it is
pub point_is : {E : Type 0} (r : Result (List ℕ) E) (v : World) (w : (ℕ → List ℕ) → Things)
    (q pt : ℕ) (k l : PointKind) → k ≡ l →
    IfOk r (λ args. (bytes : ℕ → List ℕ) → args ≡ model.args_by (point_kind l) v (w bytes) q pt) →
    IfOk r (λ args. (bytes : ℕ → List ℕ) → args ≡ model.args_by (point_kind k) v (w bytes) q pt)
point_is {E} r v w q pt k l e h =
    let P : PointKind → Type 0 =
    λ x. IfOk r (λ args. (bytes : ℕ → List ℕ) → args ≡ model.args_by (point_kind x) v (w bytes) q pt) in
    subst P (sym e) h

-- whatever bytes the frames hold
pub rows_is : {E : Type 0} (r : Result (List ℕ) E) (xs : List ℕ) → IfOk r (λ args. args ≡ xs) →
    IfOk r (λ args. (bytes : ℕ → List ℕ) → args ≡ xs)
rows_is (Ok args) xs h = λ bytes. h
rows_is (Err e) xs h = tt
