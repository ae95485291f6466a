-- A call that is taken out of its place, and what is done with it where it stands there again.
use Rattle.std.proofs.Common.{◌≡◌, ℕ, ◌==◌, Bool, false, cond, List, Option, Some, None, option_map, refl, sym, ap, ◌∙◌}
use Rattle.std.proofs.Math.Path.{fun_ext}
use Rattle.kernel_model.specs.declared.Cause.{Cause}
use Rattle.kernel_model.specs.Objects.{at}
use Rattle.kernel_model.specs.AllCalls.{all_calls}
use Rattle.kernel_model.specs.Blocking.{trace_of}
use Rattle.kernel_model.specs.Events.{drop_call, drop_marked}
use Rattle.kernel_model.specs.History.{Mark, Trace}
use Rattle.kernel_model.specs.Kernel.{Run, Call, with_call}
use Rattle.audit_pieces.specs.declared.Store.{Store}
use Rattle.audit_kernel.specs.declared.Flight.{Flight}
use Rattle.audit_kernel.specs.declared.Setting.{Setting}
use Rattle.audit_kernel.specs.Runs.{call_of, call_at, AreAllKept}
use Rattle.audit_kernel.proofs.Finishing.{put_call}
use Rattle.audit_kernel.proofs.Hiding.{put_back}
use Rattle.audit_kernel.proofs.Putting.{kept_put}
use Rattle.audit_kernel.proofs.Rerunning.{there, IsOut}

-- a run with these calls
abbrev pub with_calls : (ℕ → Option Call) → Run → Run
with_calls calls r = record r { kernel = record (r.kernel) { call = calls } }

-- those that are left are kept
pub kept_taken : (s : Setting) (t : Store) (old new : List (Option Flight)) (p : ℕ) →
    AreAllKept s t old → IsOut p old new → AreAllKept s t new
kept_taken s t old new p kept out = kept_put s t old new p None kept refl out

-- where there was none, none was taken
none_left : (old new : List (Option Flight)) (p : ℕ) → None ≡ there old p → IsOut p old new →
    call_at new ≡ call_at old
none_left old new p none out =
    let without : call_at new ≡ at p None (call_at old) = fun_ext (put_call old new p None None out refl) in
    let had : call_at old p ≡ None = ap (λ (f : Option Flight). option_map call_of f) (sym none) in
    without ∙ put_back p None (call_at old) (call_at old) had (λ q h. refl)

pub none_taken : (F : Option Call → Run → Run) (r : Run) (old new : List (Option Flight)) (p : ℕ) →
    ((z : Run) → F None z ≡ z) → None ≡ there old p → IsOut p old new →
    with_calls (call_at new) r ≡ F (call_at old p) (with_calls (call_at old) r)
none_taken F r old new p stays none out =
    let s = with_calls (call_at old) r in
    ap (λ (f : ℕ → Option Call). with_calls f r) (none_left old new p none out) ∙ sym (stays s)
    ∙ ap (λ (f : Option Flight). F (option_map call_of f) s) none

-- a call that was taken out stands in its place again
pub taken : (F : Option Call → Run → Run) (r s : Run) (old new : List (Option Flight)) (p : ℕ) (f : Flight) →
    Some f ≡ there old p → IsOut p old new →
    s ≡ F (Some (call_of f)) (with_call p (Some (call_of f)) (with_calls (call_at new) r)) →
    s ≡ F (call_at old p) (with_calls (call_at old) r)
taken F r s old new p f took out made =
    let call : Option Call = Some (call_of f) in
    let others : (q : ℕ) → (q == p) ≡ false → call_at new q ≡ call_at old q = λ q h.
    put_call old new p None None out refl q ∙ ap (λ (b : Bool). cond b None (call_at old q)) h in
    let had : call_at old p ≡ call = ap (λ (g : Option Flight). option_map call_of g) (sym took) in
    made
    ∙ ap (λ (g : ℕ → Option Call). F call (with_calls g r)) (put_back p call (call_at old) (call_at new) had others)
    ∙ ap (λ (c : Option Call). F c (with_calls (call_at old) r)) (sym had)

-- no level is dropped
pub no_level : (p : ℕ) (c : Option Call) (cause : Cause) (r : Run) → drop_call all_calls p c None cause r ≡ r
no_level p None cause r = refl
no_level p (Some c) cause r = by c.marks (trace_of all_calls r.kernel p (Some c))
  where
    by : (ks : Option (List Mark)) (t : Option Trace) → drop_marked all_calls p c ks t None cause r ≡ r
    by None None = refl
    by None (Some t) = refl
    by (Some ks) None = refl
    by (Some ks) (Some t) = refl
