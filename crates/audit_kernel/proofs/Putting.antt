-- A process gets a call.
use Rattle.std.proofs.Common.{◌≡◌, ℕ, ◌==◌, Bool, true, false, cond, List, Option, refl, sym, ap, subst, ◌∙◌, arith}
use Rattle.std.proofs.Math.Path.{fun_ext}
use Rattle.std.proofs.lemmas.Bool.Decides.{nat_tests}
use Rattle.kernel_model.specs.Objects.{at}
use Rattle.kernel_model.specs.Kernel.{Run, Call, with_call}
use Rattle.audit_pieces.specs.declared.Store.{Store}
use Rattle.audit_kernel.specs.declared.Flight.{Flight}
use Rattle.audit_kernel.specs.declared.Setting.{Setting}
use Rattle.audit_kernel.specs.Runs.{IsKept, AreAllKept}
use Rattle.audit_kernel.proofs.Rerunning.{there, IsIn}

-- a run whose calls are those in which one changed
pub called : (r : Run) (p : ℕ) (c : Option Call) (calls : ℕ → Option Call) →
    ((x : ℕ) → calls x ≡ at p c r.kernel.call x) →
    (let s : Run = record r { kernel = record (r.kernel) { call = calls } } in s) ≡ with_call p c r
called r p c calls is =
    ap (λ (f : ℕ → Option Call). let s : Run = record r { kernel = record (r.kernel) { call = f } } in s)
    (fun_ext is)

-- all are kept, where the one that was put is
pub kept_put : (s : Setting) (t : Store) (old new : List (Option Flight)) (p : ℕ) (f : Option Flight) →
    AreAllKept s t old → IsKept s t p f → IsIn p f old new → AreAllKept s t new
kept_put s t old new p f kept here put q = go (q == p) refl
  where
    go : (b : Bool) → (q == p) ≡ b → IsKept s t q (there new q)
    go true h =
        let same : p ≡ q = grind (arith, nat_tests, h) in
        let is : there new q ≡ f = put q ∙ ap (λ (b : Bool). cond b f (there old q)) h in
        subst (λ (x : Option Flight). IsKept s t q x) (sym is) (subst (λ (x : ℕ). IsKept s t x f) same here)
    go false h =
        let is : there new q ≡ there old q = put q ∙ ap (λ (b : Bool). cond b f (there old q)) h in
        subst (λ (x : Option Flight). IsKept s t q x) (sym is) (kept q)
