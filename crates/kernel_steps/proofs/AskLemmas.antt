-- The piece of a call that is in no graft: it asks a point at which a graft stands, or it is done by default.
use Rattle.std.proofs.Common.{◌≡◌, ℕ, ◌<◌, Bool, true, false, List, [], refl, ap, sym, ◌∙◌, arith, Option, Some, None}
use Rattle.std.specs.Prelude.{option_map, is_some}
use Rattle.kernel_model.specs.declared.Note.{Note}
use Rattle.kernel_model.specs.declared.Point.{Point}
use Rattle.kernel_model.specs.World.{World, Blocks}
use Rattle.kernel_model.specs.Objects.{Objects, GraftValue}
use Rattle.kernel_model.specs.Policies.{lives}
use Rattle.kernel_model.specs.Meaning.{Meaning}
use Rattle.kernel_model.specs.Laws.{IsReady}
use Rattle.kernel_model.specs.Levels.{Config}
use Rattle.kernel_model.specs.History.{begin_at}
use Rattle.kernel_model.specs.Sound.{IsSoundStore}
use Rattle.call_pieces.specs.Disks.{DiskSeen}
use Rattle.call_pieces.specs.Stores.{world_of_store, objects_of}
use Rattle.graft_levels.specs.Slots.{table_of}
use Rattle.placed_laws.specs.Owners.{OwnersStay}
use Rattle.placed_laws.specs.Placed.{PlacedCall}
use Rattle.placed_laws.specs.PlacedSteps.{placed_call_step, placed_piece_at, placed_piece_step}
use Rattle.placed_laws.specs.PlacedSteps.{placed_step_by, with_config}
use Rattle.placed_laws.specs.Soundness.{ReadyInPlace}
use Rattle.call_pieces.specs.Works.{stage_of}
use Rattle.running_kernel.specs.declared.running.InFlight.{InFlight}
use Rattle.running_kernel.specs.declared.running.Running.{Running}
use Rattle.kernel_steps.specs.Moves.{come_to, Moved}
use Rattle.kernel_steps.specs.Steps.{finishes, StepDone}
use Rattle.kernel_steps.specs.Moments.{kernel_moment}
use Rattle.running_kernel.specs.Views.{placed_of, flight_of, chain_of, call_in_place, run_of, IsRunning, HasAbstraction}
use Rattle.kernel_steps.proofs.PartLemmas.{levels_come, none_at}
use Rattle.kernel_steps.proofs.StepLemmas.{alone_moved, done_as, moved_done, nothing_done, of_one}

-- ---- what the definitions say

module _ {C B M : Type 0} {P : _} (m : Meaning) (x : Running C B M P) (p : ℕ) (c : PlacedCall)
    (none : (chain_of x p).levels ≡ []) where
  -- the step of a call without levels is a piece
  piece_is : (blocks : Blocks) (notes : List Note) (io : List Bool) → let r = run_of (placed_of x) blocks notes io in
      placed_call_step m p (Some c) r ≡ placed_piece_step m p c
      (m.asks (world_of_store x.store) (objects_of x.store) p c.stage) r
  piece_is blocks notes io =
      ap (λ ls. placed_step_by m p c ls (run_of (placed_of x) blocks notes io)) (none_at x p none)

  -- it asks no point
  pub asks_none : m.asks (world_of_store x.store) (objects_of x.store) p c.stage ≡ None →
      (blocks : Blocks) (notes : List Note) (io : List Bool) → let r =
      run_of (placed_of x) blocks notes io in
      placed_call_step m p (Some c) r ≡ finishes m p c None r
  asks_none asks blocks notes io =
      piece_is blocks notes io
      ∙ ap (λ o. placed_piece_step m p c o (run_of (placed_of x) blocks notes io)) asks

  -- it asks one where this stands
  asks_there : (a : Point) (g : Option GraftValue) →
      m.asks (world_of_store x.store) (objects_of x.store) p c.stage ≡ Some a →
      (objects_of x.store).accounts.graft a.installer a.point ≡ g →
      (blocks : Blocks) (notes : List Note) (io : List Bool) →
      let r = run_of (placed_of x) blocks notes io in
      placed_call_step m p (Some c) r ≡ placed_piece_at m p c a g r
  asks_there a g asks stands blocks notes io =
      piece_is blocks notes io ∙ ap (λ o. placed_piece_step m p c o (run_of (placed_of x) blocks notes io)) asks
      ∙ ap (λ o. placed_piece_at m p c a o (run_of (placed_of x) blocks notes io)) stands

  -- no graft stands there
  pub asks_empty : (a : Point) →
      m.asks (world_of_store x.store) (objects_of x.store) p c.stage ≡ Some a →
      is_some ((objects_of x.store).accounts.graft a.installer a.point) ≡ false →
      (blocks : Blocks) (notes : List Note) (io : List Bool) →
      let r = run_of (placed_of x) blocks notes io in
      placed_call_step m p (Some c) r ≡ finishes m p c None r
  asks_empty a asks empty blocks notes io =
      asks_there a None asks
      (none_is ((objects_of x.store).accounts.graft a.installer a.point) empty) blocks notes io
    where
      none_is : (g : Option GraftValue) → is_some g ≡ false → g ≡ None
      none_is None h = refl
      none_is (Some g) h = grind (arith, h)

  -- no graft stands anywhere
  pub asks_nowhere : ((q pt : ℕ) → (objects_of x.store).accounts.graft q pt ≡ None) →
      (blocks : Blocks) (notes : List Note) (io : List Bool) → let r =
      run_of (placed_of x) blocks notes io in
      placed_call_step m p (Some c) r ≡ finishes m p c None r
  asks_nowhere nowhere blocks notes io = by_value (m.asks (world_of_store x.store) (objects_of x.store) p c.stage) refl
    where
      by_value : (o : Option Point) →
          m.asks (world_of_store x.store) (objects_of x.store) p c.stage ≡ o →
          let r = run_of (placed_of x) blocks notes io in
          placed_call_step m p (Some c) r ≡ finishes m p c None r
      by_value None asks = asks_none asks blocks notes io
      by_value (Some a) asks = asks_there a None asks (nowhere a.installer a.point) blocks notes io

  -- a graft stands there
  pub asks_graft : (a : Point) →
      m.asks (world_of_store x.store) (objects_of x.store) p c.stage ≡ Some a →
      is_some ((objects_of x.store).accounts.graft a.installer a.point) ≡ true →
      (blocks : Blocks) (notes : List Note) (io : List Bool) → let r = run_of (placed_of x) blocks notes io in
      placed_call_step m p (Some c) r
      ≡ with_config p (begin_at (table_of x.images) (objects_of x.store) p
      (m.need (world_of_store x.store) (objects_of x.store) p c.stage) (m.feed c.stage) a) r
  asks_graft a asks there blocks notes io =
      by_value ((objects_of x.store).accounts.graft a.installer a.point) there
      (λ g stands. asks_there a g asks stands blocks notes io) refl
    where
      by_value : (g : Option GraftValue) → is_some g ≡ true →
          ((h : Option GraftValue) → (objects_of x.store).accounts.graft a.installer a.point ≡ h →
          let r = run_of (placed_of x) blocks notes io in
          placed_call_step m p (Some c) r ≡ placed_piece_at m p c a h r) →
          g ≡ (objects_of x.store).accounts.graft a.installer a.point → let r = run_of (placed_of x) blocks notes io in
          placed_call_step m p (Some c) r
          ≡ with_config p (begin_at (table_of x.images) (objects_of x.store) p
          (m.need (world_of_store x.store) (objects_of x.store) p c.stage) (m.feed c.stage) a) r
      by_value None h then is = grind (arith, h)
      by_value (Some g) h then is = then (Some g) (sym is)

-- ---- what was done

-- the graft of a point that is asked, where it stands, has an installer that lives
pub asked_lives : (v : World) (s : Objects) (q pt : ℕ) → IsSoundStore v s →
    is_some (s.accounts.graft q pt) ≡ true → lives s.things.queue q ≡ true
asked_lives v s q pt sound there = by_value (s.accounts.graft q pt) refl there
  where
    by_value : (g : Option GraftValue) → s.accounts.graft q pt ≡ g →
        is_some (s.accounts.graft q pt) ≡ true → lives s.things.queue q ≡ true
    by_value None e h = grind (arith, e, h)
    by_value (Some g) e h = (sound.grafts q pt g e).1

-- a piece is ready by default
pub ready_at_once : {C B M : Type 0} {P : _} (m : Meaning) → ReadyInPlace m →
    (x : Running C B M P) (p : ℕ) (f : InFlight) → HasAbstraction m (placed_of x) →
    (flight_of x.calls.items p).call ≡ Some f →
    IsReady m (world_of_store x.store) (table_of x.images) (objects_of x.store) p (stage_of f.work) None
ready_at_once m ready x p f abstraction is =
    ready.at_once (placed_of x) abstraction.kernel p (call_in_place f) abstraction.stands
    (ap (option_map call_in_place) is)

-- the call entered a graft
pub entered_done : {C B M : Type 0} {P : _} (m : Meaning) → OwnersStay →
    (x y : Running C B M P) (p : ℕ) (c : PlacedCall) (a : Point) (kept : List Note) (d : DiskSeen) →
    IsRunning x → p < 16 →
    (chain_of x p).levels ≡ [] →
    m.asks (world_of_store x.store) (objects_of x.store) p c.stage ≡ Some a →
    is_some ((objects_of x.store).accounts.graft a.installer a.point) ≡ true → Moved x y p →
    placed_of y ≡ come_to p (begin_at (table_of x.images) (objects_of x.store) p (m.need
    (world_of_store x.store) (objects_of x.store) p c.stage) (m.feed c.stage) a) (placed_of x) →
    StepDone (λ r. placed_call_step m p (Some c) r) p (kernel_moment x kept d) (kernel_moment y kept d)
entered_done m law x y p c a kept d r small none asks there moved come =
    let ns = m.need (world_of_store x.store) (objects_of x.store) p c.stage in
    let f : Config = begin_at (table_of x.images) (objects_of x.store) p ns (m.feed c.stage) a in
    let own = of_one y p a.installer f.levels (levels_come x y p f come)
    (law.begins (table_of x.images) (objects_of x.store) p ns (m.feed c.stage) a) in
    done_as (λ r. placed_call_step m p (Some c) r) (λ r. with_config p f r) x y p kept kept d d
    (asks_graft m x p c none a asks there)
    (moved_done f (λ r. r) x y y p kept kept d d moved come
    (nothing_done y p kept d (alone_moved x y p r small moved own)))

-- what is told of a graft by a test
pub there_is : {A : Type 0} (b : Bool) (g : Option A) → b ≡ is_some g → b ≡ true → is_some g ≡ true
there_is b g is h = sym is ∙ h

pub not_there : {A : Type 0} (b : Bool) (g : Option A) → b ≡ is_some g → b ≡ false → is_some g ≡ false
not_there b g is h = sym is ∙ h
