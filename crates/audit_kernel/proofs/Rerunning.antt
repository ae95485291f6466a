-- Calls in flight of which one is taken out and put back, or of which all histories are run again.
use Rattle.std.proofs.Common.{◌≡◌, ℕ, ◌+◌, ◌<◌, ◌≤◌, ◌==◌, nat_lt, Bool, true, false, cond}
use Rattle.std.proofs.Common.{List, Option, Some, None, length, option_map, slice_index_or}
use Rattle.std.proofs.Common.{refl, sym, ap, ◌∙◌, subst, arith}
use Rattle.std.proofs.lemmas.Bool.Decides.{nat_tests}
use Rattle.kernel_model.specs.History.{Trace}
use Rattle.kernel_model.specs.Kernel.{has_level}
use Rattle.graft_loader.specs.Slots.{table_of}
use Rattle.audit_state.specs.Worlds.{world_of}
use Rattle.audit_needs.specs.Stages.{stage_of}
use Rattle.audit_pieces.specs.declared.Store.{Store}
use Rattle.audit_pieces.specs.Stores.{objects_of, page_of}
use Rattle.audit_kernel.specs.declared.Flight.{Flight}
use Rattle.audit_kernel.specs.declared.History.{History}
use Rattle.audit_kernel.specs.declared.Setting.{Setting}
use Rattle.audit_kernel.specs.Runs.{call_of, leads, marks_of, trace_in, IsKept, AreAllKept}
use Rattle.audit_kernel.proofs.Places.{past_end}

-- the call at a place
abbrev pub there : List (Option Flight) → ℕ → Option Flight
there flights p = slice_index_or flights p None

-- one call is out of its place, and the others stay
abbrev pub IsOut : (p : ℕ) → (old new : List (Option Flight)) → Type 0
IsOut p old new = (q : ℕ) → there new q ≡ cond (q == p) None (there old q)

-- one place has this call, and the others stay
abbrev pub IsIn : (p : ℕ) → Option Flight → (old new : List (Option Flight)) → Type 0
IsIn p f old new = (q : ℕ) → there new q ≡ cond (q == p) f (there old q)

-- where the history of a call leads, which may be none
abbrev led : Setting → Store → ℕ → Flight → Option History → Option Trace
led s t p f h =
    leads (world_of s.world) (table_of s.images) (objects_of t) p
    (Some (record { number = f.number; stage = stage_of f.stage; marks = marks_of h }))

-- a call without a history needs no trace
pub kept_without : (s : Setting) (t : Store) (p : ℕ) (f : Option Flight) →
    has_level (option_map call_of f) ≡ false → IsKept s t p f
kept_without s t p None bare = refl
kept_without s t p (Some f) bare = by f.graft refl
  where
    by : (h : Option History) → f.graft ≡ h → IsKept s t p (Some f)
    by None e =
        ap (trace_in (page_of t)) e ∙ sym (ap (led s t p f) e)
    by (Some h) e = absurd (grind (arith, bare, e))

-- one call more is kept
pub kept_more : (s : Setting) (t : Store) (old new : List (Option Flight)) (i p : ℕ) → p ≡ i →
    ((q : ℕ) → q < i → IsKept s t q (there old q)) → IsKept s t p (there new p) →
    ((q : ℕ) → (q == p) ≡ false → there new q ≡ there old q) →
    (q : ℕ) → q < i + 1 → IsKept s t q (there new q)
kept_more s t old new i p is kept here others q lt = go (q == p) refl
  where
    go : (b : Bool) → (q == p) ≡ b → IsKept s t q (there new q)
    go true h =
        let same : p ≡ q = grind (arith, nat_tests, h) in
        subst (λ (x : ℕ). IsKept s t x (there new x)) same here
    go false h =
        let less : q < i = grind (arith, nat_tests, h, is, lt) in
        subst (λ (f : Option Flight). IsKept s t q f) (sym (others q h)) (kept q less)

-- all are kept, where those of all places are
pub all_kept : (s : Setting) (t : Store) (flights : List (Option Flight)) (n : ℕ) →
    length flights ≤ n → ((q : ℕ) → q < n → IsKept s t q (there flights q)) → AreAllKept s t flights
all_kept s t flights n size kept p = go (nat_lt p n) refl
  where
    go : (b : Bool) → nat_lt p n ≡ b → IsKept s t p (there flights p)
    go true h = kept p (grind (arith, nat_tests, h))
    go false h =
        let past : length flights ≤ p = grind (arith, nat_tests, h, size) in
        subst (λ (f : Option Flight). IsKept s t p f) (sym (past_end flights p None past)) refl
