-- Undoing all that the calls in flight did leads back to what is committed.
use Rattle.std.specs.Prelude.{◌≡◌, ℕ, suc, ◌<◌, ◌==◌, Bool, true, false, cond, nat_lt, List, []}
use Rattle.std.specs.Prelude.{◌∷◌, length, Option, Some, None, is_some}
use Rattle.std.specs.List.{list_all}
use Rattle.std.proofs.Common.{arith, refl, sym, ap, subst, ◌∙◌}
use Rattle.std.proofs.lemmas.Bool.Decides.{nat_tests}
use Rattle.kernel_model.specs.declared.Object.{Object}
use Rattle.kernel_model.specs.declared.Object.TheVariants.{Graft, Acct, Cell, OpenFile, Queue, Cache, Lock, Pol}
use Rattle.kernel_model.specs.World.{processes}
use Rattle.kernel_model.specs.Objects.{Objects, Things, SameThing, mix}
use Rattle.kernel_model.specs.Levels.{Level, Config, level_at}
use Rattle.kernel_model.specs.Meaning.{Meaning}
use Rattle.kernel_model.specs.Blocking.{config_of}
use Rattle.kernel_model.specs.InPlace.{is_changed_in, kept_of, cut_state, over, store_below, store_with, undo_cut}
use Rattle.kernel_model.specs.Kernel.{Kernel}
use Rattle.kernel_model.specs.Laws.{Laws}
use Rattle.placed_laws.specs.Placed.{Placed, placed_levels}
use Rattle.placed_laws.specs.Undone.{cut_all, cut_calls, placed_undone, CallsUndoToCommitted}
use Rattle.placed_laws.specs.Undone.{UndoneInPlace, UndoneIsCommitted}
use Rattle.placed_laws.proofs.BeginLemmas.{BeganWith, ConfigBegan, calls_began}
use Rattle.kernel_laws.proofs.FrameLemmas.{thing_self, thing_then}
use Rattle.graft_laws.proofs.ObjectLemmas.{same_thing}

-- the outermost level is level 0
outermost_kept : (w : Things) (ls : List Level) (now : Things) (l : Level) → BeganWith w (l ∷ ls) →
    kept_of (level_at 0 (l ∷ ls)) now ≡ w
outermost_kept w [] now l h = h
outermost_kept w (k ∷ ls) now l h =
    ap (λ b. kept_of (elim b as (λ _. Option Level) [ true ↦ Some l | false ↦ level_at 0 (k ∷ ls) ])
    now) (further (length ls))
    ∙ outermost_kept w ls now k h
  where
    further : (n : ℕ) → (suc n == 0) ≡ false
    further n = grind (arith, nat_tests)

-- a call without levels holds nothing
mixed_none : (o : Object) (u s : Objects) → SameThing o (mix (is_changed_in []) u s).things s.things
mixed_none (Graft q pt) u s = refl
mixed_none (Acct q) u s = tt
mixed_none (Cell q k) u s = refl
mixed_none (OpenFile q fd) u s = refl
mixed_none Queue u s = (refl, refl)
mixed_none Cache u s = refl
mixed_none (Lock n) u s = refl
mixed_none (Pol k) u s = refl

-- one of two that are alike
either : {A : Type 0} (b : Bool) (x y z : A) → x ≡ z → y ≡ z → cond b x y ≡ z
either true x y z h k = h
either false x y z h k = k

-- what two states have alike, their mixture has
mixed_alike : (o : Object) (test : Object → Bool) (u s : Objects) (w : Things) → SameThing o u.things w →
    SameThing o s.things w → SameThing o (mix test u s).things w
mixed_alike (Graft q pt) test u s w h k =
    either (test (Graft q pt)) (u.things.segment q pt) (s.things.segment q pt) (w.segment q pt) h k
mixed_alike (Acct q) test u s w h k = tt
mixed_alike (Cell q i) test u s w h k =
    either (test (Cell q i)) (u.things.cell q i) (s.things.cell q i) (w.cell q i) h k
mixed_alike (OpenFile q fd) test u s w h k =
    either (test (OpenFile q fd)) (u.things.file q fd) (s.things.file q fd) (w.file q fd) h k
mixed_alike Queue test u s w h k = (
  either (test Queue) u.things.queue s.things.queue w.queue h.0 k.0,
  either (test Queue) u.things.handlers s.things.handlers w.handlers h.1 k.1,
)
mixed_alike Cache test u s w h k = either (test Cache) u.things.cache s.things.cache w.cache h k
mixed_alike (Lock n) test u s w h k = either (test (Lock n)) (u.things.lock n) (s.things.lock n) (w.lock n) h k
mixed_alike (Pol i) test u s w h k = either (test (Pol i)) (u.things.pol i) (s.things.pol i) (w.pol i) h k

-- a call that is cut at its outermost level leaves what is committed
cut_call : (o : Object) (x : Option Config) (s : Objects) (w : Things) → ConfigBegan w x →
    SameThing o s.things w → SameThing o (over x (Some 0) s).things w
cut_call o None s w began h = h
cut_call o (Some c) s w began h = by_levels c.levels began
  where
    by_levels : (ls : List Level) → BeganWith w ls →
        SameThing o (mix (is_changed_in ls) (cut_state (Some 0) (record { now = c.now; levels = ls })) s).things w
    by_levels [] began =
        thing_then o (mix (is_changed_in [])
        (cut_state (Some 0) (record { now = c.now; levels = [] })) s).things s.things w
        (mixed_none o (cut_state (Some 0) (record { now = c.now; levels = [] })) s) h
    by_levels (l ∷ ls) began =
        let cut : Objects = cut_state (Some 0) (record { now = c.now; levels = l ∷ ls }) in
        mixed_alike o (is_changed_in (l ∷ ls)) cut s w
        (subst (λ (x : Things). SameThing o x w) (sym (outermost_kept w ls c.now.things l began)) (thing_self o w)) h

-- all calls cut at their outermost levels leave what is committed
pub undone_is_committed : (m : Meaning) → UndoneIsCommitted m
undone_is_committed m k o = all processes
  where
    all : (ps : List ℕ) → SameThing o (store_with m k cut_all ps).things k.objects.things
    all [] = thing_self o k.objects.things
    all (p ∷ ps) =
        cut_call o (config_of m k p) (store_with m k cut_all ps) k.objects.things
        (calls_began m k p) (all ps)

-- ---- in the one store

-- the calls of processes that can be are cut alike
same_cuts : (m : Meaning) (k : Kernel) (ps : List ℕ) → list_all (λ p. nat_lt p 16) ps ≡ true →
    store_with m k cut_calls ps ≡ store_with m k cut_all ps
same_cuts m k [] h = refl
same_cuts m k (p ∷ ps) h =
    ap (λ b. over (config_of m k p) (cond b (Some 0) None) (store_with m k cut_calls ps)) first
    ∙ ap (over (config_of m k p) (Some 0)) (same_cuts m k ps further)
  where
    first : nat_lt p 16 ≡ true
    first = grind (arith, h)

    further : list_all (λ q. nat_lt q 16) ps ≡ true
    further = grind (arith, h)

-- a process whose call is cut can be
cut_can_be : (p : ℕ) → is_some (cut_calls p) ≡ true → p < 16
cut_can_be p h = grind (arith, nat_tests, h)

-- undoing changes no account
accounts_stay : (x : Placed) (ps : List ℕ) → (placed_undone x cut_calls ps).accounts ≡ x.objects.accounts
accounts_stay x [] = refl
accounts_stay x (p ∷ ps) = by_cut (cut_calls p) ∙ accounts_stay x ps
  where
    by_cut : (d : Option ℕ) → (undo_cut d (placed_levels x p)
        (placed_undone x cut_calls ps)).accounts ≡ (placed_undone x cut_calls ps).accounts
    by_cut None = refl
    by_cut (Some d) = refl

-- undoing all calls leads back to what is committed
pub undoes_to_committed : (m : Meaning) → Laws m → UndoneInPlace m → UndoneIsCommitted m → CallsUndoToCommitted m
undoes_to_committed m laws in_place committed x =
    record {
      things = λ k ps o stands range once all.
          thing_then o (placed_undone x cut_calls ps).things (store_below m k cut_calls).things k.objects.things
          (same_thing o (placed_undone x cut_calls ps) (store_below m k cut_calls) (in_place x k
          cut_calls ps o laws stands range once (λ p cut. all p (cut_can_be p cut))))
          (subst (λ (s : Objects). SameThing o s.things k.objects.things)
          (sym (same_cuts m k processes refl)) (committed k o));
      accounts = accounts_stay x;
    }
