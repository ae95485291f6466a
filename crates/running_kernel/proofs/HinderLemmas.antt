-- What hinders the step of a call, by its needs, is what hinders it in place.
use Rattle.std.proofs.Common.{◌≡◌, ℕ, ◌<◌, true, cond, List, [], ◌∷◌, map, length, drop, refl, ap}
use Rattle.std.proofs.Common.{sym, subst, ◌∙◌, arith, Option, Some, None}
use Rattle.std.specs.Prelude.{is_some, option_map, slice_index_or, Contains, All}
use Rattle.std.proofs.lemmas.List.Elements.{All-contains_itself}
use Rattle.kernel_data.specs.declared.Need.{Need}
use Rattle.kernel_data.specs.World.{World, ImageTable}
use Rattle.kernel_data.specs.Objects.{Objects, Things}
use Rattle.kernel_model.specs.Meaning.{Meaning, Stage}
use Rattle.kernel_model.specs.Laws.{Laws, IsStanding, IsInRange}
use Rattle.kernel_model.specs.Locks.{LockTable, first_hindrance}
use Rattle.kernel_model.specs.Levels.{Level}
use Rattle.kernel_model.specs.GraftStep.{next_needs, lock_user}
use Rattle.graft_levels.specs.UndoLevels.{Logged}
use Rattle.lock_table.specs.Masks.{held}
use Rattle.call_pieces.specs.Stores.{world_of_store, objects_of}
use Rattle.call_pieces.specs.Works.{IsDue, stage_of}
use Rattle.graft_levels.specs.Slots.{table_of}
use Rattle.graft_levels.specs.declared.GraftLevel.{GraftLevel}
use Rattle.graft_levels.specs.Chains.{levels_in, levels_of}
use Rattle.placed_laws.specs.Placed.{PlacedCall, PlacedLevel, Placed, bare, has_some, levels_with}
use Rattle.placed_laws.specs.Placed.{placed_levels, placed_holds, placed_needs, placed_needs_in}
use Rattle.placed_laws.specs.Placed.{placed_needs_at, placed_blocker_from}
use Rattle.placed_laws.specs.Soundness.{SoundInPlace}
use Rattle.running_kernel.specs.declared.blocking.Hindrance.{Hindrance}
use Rattle.running_kernel.specs.declared.running.InFlight.{InFlight}
use Rattle.running_kernel.specs.declared.running.Flight.{Flight}
use Rattle.running_kernel.specs.declared.running.Running.{Running}
use Rattle.running_kernel.specs.Hindered.{hindrance_of, blocking_by}
use Rattle.running_kernel.specs.Views.{placed_of, flight_of, chain_of, call_at, call_in_place}
use Rattle.running_kernel.specs.Views.{levels_at, IsRunning, HasAbstraction}
use Rattle.running_kernel.proofs.ViewLemmas.{levels_in_place, holds_in_place}

-- ---- the next piece

-- a call in flight stands at its stage
pub stands : {C B M : Type 0} {P : _} (m : Meaning) → SoundInPlace m → (x : Running C B M P) (p : ℕ) (f : InFlight) →
    IsRunning x → HasAbstraction m (placed_of x) → (flight_of x.calls.items p).call ≡ Some f →
    IsStanding m (world_of_store x.store) (table_of x.images) (objects_of x.store) f.work.caller (stage_of f.work)
stands m sound x p f r abstraction is =
    subst (λ q. IsStanding m (world_of_store x.store) (table_of x.images) (objects_of x.store) q
    (stage_of f.work)) (sym (r.callers p f is))
    (sound.standing (placed_of x) abstraction.kernel p (call_in_place f) abstraction.stands
    (ap (option_map call_in_place) is))

-- so its next piece may come
pub may_come : (m : Meaning) → Laws m →
    (v : World) (images : ImageTable) (s : Objects) (p : ℕ) (t : Stage) →
    IsStanding m v images s p t → IsDue m v s p t
may_come m laws v images s p t h =
    record {
      images = images;
      alive = h.caller;
      granted = h.granted;
      fits = h.fits;
      left = (laws.stages.some_left v images s p t h).0;
    }

-- what holds of each element of a list holds of each of an equal one
pub all_of : (ns ms : List Need) → ns ≡ ms → ((n : Need) → Contains ms n → IsInRange n.object) →
    All (λ (n : Need). IsInRange n.object) ns
all_of ns ms is h =
    subst (λ (xs : List Need). All (λ (n : Need). IsInRange n.object) xs) (sym is)
    (λ k d small. h (slice_index_or ms k d) (All-contains_itself ms k d small))

-- ---- levels, or none

no_levels : (p : ℕ) (ram : List ℕ) (t : LockTable) (gs : List GraftLevel) (log : List (List Logged))
    (w : Things) → length gs ≡ 0 → map bare (levels_in p ram t gs log w) ≡ []
no_levels p ram t [] log w h = refl
no_levels p ram t (g ∷ gs) log w h = absurd (omega (arith, h))

pub some_levels : (p : ℕ) (ram : List ℕ) (t : LockTable) (gs : List GraftLevel)
    (log : List (List Logged)) (w : Things) → 0 < length gs →
    has_some (map bare (levels_in p ram t gs log w)) ≡ true
some_levels p ram t [] log w h = absurd (omega (arith, h))
some_levels p ram t (g ∷ gs) log w h = refl

-- a call with levels needs what its next instruction does
graft_needs : (m : Meaning) (x : Placed) (p : ℕ) (c : PlacedCall) (ls : List PlacedLevel) → has_some ls ≡ true →
    placed_needs_at m x p c ls ≡ next_needs x.world x.images x.objects.accounts (placed_levels x p)
graft_needs m x p c [] h = grind (arith, h)
graft_needs m x p c (l ∷ ls) h = refl

-- ---- what the next step needs

pub piece_needs : {C B M : Type 0} {P : _} (m : Meaning) (x : Running C B M P) (p : ℕ) (f : InFlight) →
    IsRunning x → (flight_of x.calls.items p).call ≡ Some f → length (chain_of x p).levels ≡ 0 →
    m.need (world_of_store x.store) (objects_of x.store) f.work.caller (stage_of f.work)
    ≡ placed_needs m (placed_of x) p
piece_needs m x p f r is none =
    let y = placed_of x in
    let bare_none : y.levels p ≡ [] = no_levels p x.store.ram (held x.locks)
    (chain_of x p).levels (chain_of x p).undo (objects_of x.store).things none in
    ap (λ q. m.need (world_of_store x.store) (objects_of x.store) q (stage_of f.work)) (r.callers p f is)
    ∙ sym (ap (placed_needs_in m y p) (ap (option_map call_in_place) is)
    ∙ ap (placed_needs_at m y p (call_in_place f)) bare_none)

pub graft_needs_are : {C B M : Type 0} {P : _} (m : Meaning) (x : Running C B M P) (p : ℕ) (f : InFlight) →
    (flight_of x.calls.items p).call ≡ Some f → 0 < length (chain_of x p).levels →
    next_needs (world_of_store x.store) (table_of x.images) (objects_of x.store).accounts
    (levels_of x.store x.locks (chain_of x p) p) ≡ placed_needs m (placed_of x) p
graft_needs_are m x p f is some =
    let y = placed_of x in
    let s = objects_of x.store in
    let has : has_some (y.levels p) ≡ true = some_levels p x.store.ram (held x.locks)
    (chain_of x p).levels (chain_of x p).undo s.things some in
    ap (λ (ks : List Level). next_needs (world_of_store x.store) (table_of x.images) s.accounts ks)
    (sym (levels_in_place x p))
    ∙ sym (ap (placed_needs_in m y p) (ap (option_map call_in_place) is)
    ∙ graft_needs m y p (call_in_place f) (y.levels p) has)

-- a call in flight that there is
flying : (o : Option InFlight) → is_some (option_map call_in_place o) ≡ true → (f : InFlight) × (o ≡ Some f)
flying None h = absurd cc
flying (Some f) h = (f, refl)

-- levels in place are levels of the chain
pub some_levels_there : (p : ℕ) (ram : List ℕ) (t : LockTable)
    (gs : List GraftLevel) (log : List (List Logged)) (w : Things) →
    has_some (map bare (levels_in p ram t gs log w)) ≡ true → 0 < length gs
some_levels_there p ram t [] log w h = absurd cc
some_levels_there p ram t (g ∷ gs) log w h = omega arith

pub needs_there : {C B M : Type 0} {P : _} (m : Meaning) (x : Running C B M P) (p : ℕ) →
    is_some (call_at x p) ≡ true → has_some (levels_at x p) ≡ true →
    next_needs (world_of_store x.store) (table_of x.images) (objects_of x.store).accounts
    (levels_of x.store x.locks (chain_of x p) p) ≡ placed_needs m (placed_of x) p
needs_there m x p call some =
    let f = flying (flight_of x.calls.items p).call call in
    graft_needs_are m x p f.0 f.1 (some_levels_there p x.store.ram (held x.locks)
    (chain_of x p).levels (chain_of x p).undo (objects_of x.store).things some)

-- the user locks of a call in no graft are its process's
pub own_user : {C B M : Type 0} {P : _} (x : Running C B M P) (p : ℕ) → length (chain_of x p).levels ≡ 0 →
    lock_user p (placed_levels (placed_of x) p) ≡ p
own_user x p none =
    ap (λ ls. lock_user p (levels_with (objects_of x.store).things ls)) (no_levels p x.store.ram (held x.locks)
    (chain_of x p).levels (chain_of x p).undo (objects_of x.store).things none)

-- ---- what hinders

pub piece_hindered : {C B M : Type 0} {P : _} (m : Meaning) (x : Running C B M P) (p : ℕ) (f : InFlight) →
    IsRunning x → (flight_of x.calls.items p).call ≡ Some f → length (chain_of x p).levels ≡ 0 →
    first_hindrance (held x.locks) (objects_of x.store).things.lock p p
    (m.need (world_of_store x.store) (objects_of x.store) f.work.caller (stage_of f.work))
    ≡ first_hindrance (placed_holds (placed_of x)) (objects_of x.store).things.lock p
    (lock_user p (placed_levels (placed_of x) p)) (placed_needs m (placed_of x) p)
piece_hindered m x p f r is none =
    let y = placed_of x in
    let users = (objects_of x.store).things.lock in
    let h = placed_holds y in
    let v = world_of_store x.store in
    let s = objects_of x.store in
    let t = stage_of f.work in
    let bare_none : y.levels p ≡ [] = no_levels p x.store.ram (held x.locks)
    (chain_of x p).levels (chain_of x p).undo s.things none in
    let needs_are : placed_needs m y p ≡ m.need v s p t =
    ap (placed_needs_in m y p) (ap (option_map call_in_place) is)
    ∙ ap (placed_needs_at m y p (call_in_place f)) bare_none in
    let user : lock_user p (placed_levels y p) ≡ p = ap (λ ls. lock_user p (levels_with s.things ls)) bare_none in
    ap (λ (table : LockTable). first_hindrance table users p p (m.need v s f.work.caller t)) (sym (holds_in_place x r))
    ∙ ap (λ q. first_hindrance h users p p (m.need v s q t)) (r.callers p f is)
    ∙ ap (λ q. first_hindrance h users p q (m.need v s p t)) (sym user)
    ∙ ap (first_hindrance h users p (lock_user p (placed_levels y p))) (sym needs_are)

pub graft_hindered : {C B M : Type 0} {P : _} (m : Meaning) (x : Running C B M P) (p : ℕ) (f : InFlight) →
    IsRunning x → (flight_of x.calls.items p).call ≡ Some f → 0 < length (chain_of x p).levels →
    let ls = levels_of x.store x.locks (chain_of x p) p in
    first_hindrance (held x.locks) (objects_of x.store).things.lock p (lock_user p ls)
    (next_needs (world_of_store x.store) (table_of x.images) (objects_of x.store).accounts ls)
    ≡ first_hindrance (placed_holds (placed_of x)) (objects_of x.store).things.lock p
    (lock_user p (placed_levels (placed_of x) p)) (placed_needs m (placed_of x) p)
graft_hindered m x p f r is some =
    let y = placed_of x in
    let users = (objects_of x.store).things.lock in
    let h = placed_holds y in
    let v = world_of_store x.store in
    let s = objects_of x.store in
    let ls = levels_of x.store x.locks (chain_of x p) p in
    let has : has_some (y.levels p) ≡ true = some_levels p x.store.ram (held x.locks)
    (chain_of x p).levels (chain_of x p).undo s.things some in
    let needs_are : placed_needs m y p ≡ next_needs v (table_of x.images) s.accounts (placed_levels y p) =
    ap (placed_needs_in m y p) (ap (option_map call_in_place) is)
    ∙ graft_needs m y p (call_in_place f) (y.levels p) has in
    ap (λ (table : LockTable). first_hindrance table users p (lock_user p ls)
    (next_needs v (table_of x.images) s.accounts ls)) (sym (holds_in_place x r))
    ∙ ap (λ (ks : List Level). first_hindrance h users p (lock_user p ks)
    (next_needs v (table_of x.images) s.accounts ks)) (sym (levels_in_place x p))
    ∙ ap (first_hindrance h users p (lock_user p (placed_levels y p))) (sym needs_are)

-- what hinders an instruction, by what it needs and whose user locks don't hinder it
pub needs_hinder : {C B M : Type 0} {P : _} (m : Meaning) (x : Running C B M P) (p user : ℕ)
    (needs : List Need) (f : Flight) →
    IsRunning x → f ≡ flight_of x.calls.items p →
    user ≡ lock_user p (levels_of x.store x.locks f.chain p) →
    needs ≡ placed_needs m (placed_of x) p →
    first_hindrance (held x.locks) (objects_of x.store).things.lock p user needs
    ≡ first_hindrance (placed_holds (placed_of x)) (objects_of x.store).things.lock p
    (lock_user p (placed_levels (placed_of x) p)) (placed_needs m (placed_of x) p)
needs_hinder m x p user needs f r is user_is needs_are =
    let y = placed_of x in
    let users = (objects_of x.store).things.lock in
    let chain = ap (λ (l : Flight). lock_user p (levels_of x.store x.locks l.chain p)) is in
    let levels = ap (λ (ls : List Level). lock_user p ls) (sym (levels_in_place x p)) in
    ap (λ (table : LockTable). first_hindrance table users p user needs) (sym (holds_in_place x r))
    ∙ ap (λ q. first_hindrance (placed_holds y) users p q needs) (user_is ∙ chain ∙ levels)
    ∙ ap (first_hindrance (placed_holds y) users p (lock_user p (placed_levels y p))) needs_are

-- ---- what blocks

-- ---- the search over the needs

-- the needs before number k hinder nothing
pub record HasPassed (t : LockTable) (s : Objects) (p q : ℕ) (needs : List Need) (k : ℕ) : Type 0 where
  pub rest : first_hindrance t s.things.lock p q (drop k needs) ≡ first_hindrance t s.things.lock p q needs
