-- The levels of a chain in place are those of the kernel in place, and so are the holds of the lock table.
use Rattle.std.proofs.Common.{◌≡◌, ℕ, suc, ◌≤◌, ◌<◌, Bool, true, false, cond, List, [], ◌∷◌, map}
use Rattle.std.proofs.Common.{length, refl, ap, sym, ◌∙◌, arith}
use Rattle.std.specs.Prelude.{nat_lt, slice_index_or, ◌&&◌}
use Rattle.std.proofs.Math.Path.{fun_ext}
use Rattle.std.proofs.lemmas.List.FromFn.{get_or-map-range_with_len}
use Rattle.std.proofs.lemmas.List.{get_or_past}
use Rattle.kernel_data.specs.declared.Held.{Held}
use Rattle.kernel_data.specs.declared.Object.{Object}
use Rattle.kernel_data.specs.Objects.{Things}
use Rattle.kernel_data.specs.World.{processes}
use Rattle.kernel_model.specs.Locks.{LockTable, untouched}
use Rattle.kernel_model.specs.Levels.{Level, touched_at}
use Rattle.kernel_model.specs.Blocking.{locks_from}
use Rattle.graft_levels.specs.UndoLevels.{Logged, innermost}
use Rattle.graft_levels.specs.declared.GraftLevel.{GraftLevel}
use Rattle.graft_levels.specs.Chains.{put_back, levels_in, level_in, outer, levels_of, call_of}
use Rattle.lock_table.specs.declared.Holds.{Holds}
use Rattle.lock_table.specs.Masks.{held, levels_at, masks_of}
use Rattle.lock_table.specs.Numbers.{number_of, is_in_range}
use Rattle.call_pieces.specs.Stores.{objects_of}
use Rattle.running_kernel.specs.declared.running.Running.{Running}
use Rattle.running_kernel.specs.Views.{placed_of, chain_of, IsRunning}
use Rattle.std.proofs.lemmas.Bool.Decides.{nat_tests}
use Rattle.placed_laws.specs.Placed.{bare, levels_with, placed_config, placed_levels, placed_holds}
use Rattle.graft_levels.proofs.Views.{level_count}

-- levels without what they found have found it again
pub levels_again : (p : ℕ) (ram : List ℕ) (t : LockTable) (gs : List GraftLevel)
    (log : List (List Logged)) (w : Things) →
    levels_with w (map bare (levels_in p ram t gs log w)) ≡ levels_in p ram t gs log w
levels_again p ram t [] log w = refl
levels_again p ram t (g ∷ gs) log w =
    ap (λ ls. level_in p (length gs) ram t g (innermost log) (put_back (innermost log) w) ∷ ls)
    (levels_again p ram t gs (outer log) (put_back (innermost log) w))

-- a level holds what the table says
holds_below : (p d : ℕ) (ram : List ℕ) (t : LockTable) (gs : List GraftLevel)
    (log : List (List Logged)) (w : Things) → d < length gs →
    touched_at (levels_in p ram t gs log w) d ≡ t p d
holds_below p d ram t [] log w h = absurd (omega (arith, h))
holds_below p d ram t (g ∷ gs) log w h =
    grind (
      arith,
      nat_tests,
      level_count p ram t gs (outer log) (put_back (innermost log) w),
      holds_below p d ram t gs (outer log) (put_back (innermost log) w),
    )

-- and beyond the levels nothing is held
holds_beyond : (p d : ℕ) (ram : List ℕ) (t : LockTable) (gs : List GraftLevel)
    (log : List (List Logged)) (w : Things) → length gs ≤ d →
    touched_at (levels_in p ram t gs log w) d ≡ untouched
holds_beyond p d ram t [] log w h = refl
holds_beyond p d ram t (g ∷ gs) log w h =
    grind (
      arith,
      nat_tests,
      level_count p ram t gs (outer log) (put_back (innermost log) w),
      holds_beyond p d ram t gs (outer log) (put_back (innermost log) w),
    )

-- ---- the table of all calls

-- a process's levels in the list of all
levels_listed : (f : ℕ → List Level) (p : ℕ) → p < 16 → slice_index_or (map f processes) p [] ≡ f p
levels_listed f p h = get_or-map-range_with_len f 0 16 p p [] h (omega arith)

-- and none beyond
none_listed : (f : ℕ → List Level) (p : ℕ) → 16 ≤ p → slice_index_or (map f processes) p [] ≡ []
none_listed f p h = get_or_past (map f processes) p [] h

-- a table that is what the levels of each process hold
holds_at : (t : LockTable) (f : ℕ → List Level) (p d : ℕ) → (p < 16 → touched_at (f p) d ≡ t p d) →
    (16 ≤ p → t p d ≡ untouched) → (b : Bool) → nat_lt p 16 ≡ b →
    locks_from (map f processes) p d ≡ t p d
holds_at t f p d inner outer true h =
    let small : p < 16 = grind (arith, nat_tests) in
    ap (λ ls. touched_at ls d) (levels_listed f p small) ∙ inner small
holds_at t f p d inner outer false h =
    let large : 16 ≤ p = grind (arith, nat_tests) in
    ap (λ ls. touched_at ls d) (none_listed f p large) ∙ sym (outer large)

-- the levels of a chain hold what the lock table says
chain_holds : (p d : ℕ) (ram : List ℕ) (t : LockTable) (gs : List GraftLevel) (log : List (List Logged)) (w : Things) →
    ((e : ℕ) (o : Object) → length gs ≤ e → t p e o ≡ Held.Free) → (b : Bool) →
    nat_lt d (length gs) ≡ b → touched_at (levels_in p ram t gs log w) d ≡ t p d
chain_holds p d ram t gs log w unheld true h = holds_below p d ram t gs log w (grind (arith, nat_tests))
chain_holds p d ram t gs log w unheld false h =
    let large : length gs ≤ d = grind (arith, nat_tests) in
    holds_beyond p d ram t gs log w large ∙ fun_ext (λ o. sym (unheld d o large))

-- nothing is held by processes that there aren't
pub none_held : (t : List (List Holds)) (p d : ℕ) → 16 ≤ p → held t p d ≡ untouched
none_held t p d h =
    let no : nat_lt p 16 ≡ false = grind (arith, nat_tests) in
    fun_ext (λ o. ap
    (λ b. cond (b && is_in_range o) (levels_at (masks_of t p) (number_of o) d) Held.Free) no)

-- ---- a running kernel

-- a process's graft call
pub config_in_place : {C B M : Type 0} {P : _} (x : Running C B M P) (p : ℕ) →
    placed_config (placed_of x) p ≡ call_of x.store x.locks (chain_of x p) p
config_in_place x p =
    ap (λ ls. record { now = objects_of x.store; levels = ls }) (levels_again p x.store.ram
    (held x.locks) (chain_of x p).levels (chain_of x p).undo (objects_of x.store).things)

-- its levels
pub levels_in_place : {C B M : Type 0} {P : _} (x : Running C B M P) (p : ℕ) →
    placed_levels (placed_of x) p ≡ levels_of x.store x.locks (chain_of x p) p
levels_in_place x p =
    levels_again p x.store.ram (held x.locks) (chain_of x p).levels (chain_of x p).undo
    (objects_of x.store).things

-- what all calls hold
pub holds_in_place : {C B M : Type 0} {P : _} (x : Running C B M P) → IsRunning x →
    placed_holds (placed_of x) ≡ held x.locks
holds_in_place x r = fun_ext (λ p. fun_ext (λ d.
    holds_at (held x.locks) (placed_levels (placed_of x)) p d
    (λ small. ap (λ ls. touched_at ls d) (levels_in_place x p)
    ∙ chain_holds p d x.store.ram (held x.locks) (chain_of x p).levels
    (chain_of x p).undo (objects_of x.store).things (r.placed p small).unheld
    (nat_lt d (length (chain_of x p).levels)) refl)
    (λ large. none_held x.locks p d large) (nat_lt p 16) refl))
