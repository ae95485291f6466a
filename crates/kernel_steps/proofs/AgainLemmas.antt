-- A running kernel is one again after a step, where what the other calls hold exclusively stays.
use Rattle.std.proofs.Common.{◌≡◌, ◌≢◌, ℕ, suc, zero, ◌≤◌, ◌<◌, ◌==◌, ◌||◌, Bool, true, false}
use Rattle.std.proofs.Common.{nat_lt, List, [], ◌∷◌, map, length, refl, ap, sym, subst, ◌∙◌, arith}
use Rattle.std.proofs.Common.{inl, inr, ◌⊎◌}
use Rattle.std.specs.Prelude.{Contains, Option, Some, None, is_some, cond}
use Rattle.std.proofs.lemmas.Bool.{eqb-true}
use Rattle.std.proofs.lemmas.Bool.Decides.{nat_tests}
use Rattle.kernel_model.specs.declared.Held.{Held}
use Rattle.kernel_model.specs.declared.Object.{Object}
use Rattle.kernel_model.specs.declared.Object.TheVariants.{Graft}
use Rattle.kernel_model.specs.declared.QueueRow.{QueueRow}
use Rattle.kernel_model.specs.World.{World, ImageTable}
use Rattle.kernel_model.specs.Objects.{Objects, Accounts, Things, GraftValue}
use Rattle.kernel_model.specs.Policies.{lives}
use Rattle.kernel_model.specs.Meaning.{Meaning}
use Rattle.kernel_model.specs.Access.{Found, changed_by}
use Rattle.kernel_model.specs.InPlace.{is_changed_in}
use Rattle.kernel_model.specs.Locks.{LockTable, is_held_exclusively}
use Rattle.kernel_model.specs.Levels.{Level, Config, outermost_touched}
use Rattle.kernel_model.specs.Kernel.{Waiter}
use Rattle.kernel_model.specs.Sound.{AreRecorded, IsSoundConfig, ImagesAreLoaded}
use Rattle.graft_levels.specs.UndoLevels.{Logged, found_of, innermost}
use Rattle.graft_levels.specs.Masks.{held}
use Rattle.call_pieces.specs.Stores.{world_of_store, objects_of, queue_of}
use Rattle.graft_levels.specs.Slots.{table_of}
use Rattle.graft_levels.specs.declared.GraftLevel.{GraftLevel}
use Rattle.graft_levels.specs.declared.Chain.{Chain}
use Rattle.graft_levels.specs.Chains.{put_back, level_in, levels_in, outer, call_of}
use Rattle.graft_levels.specs.Calls.{AreSound, IsPlaced, AreInside, AllUndoable}
use Rattle.placed_laws.specs.Placed.{Placed}
use Rattle.placed_laws.specs.Soundness.{SoundInPlace}
use Rattle.running_kernel.specs.declared.running.InFlight.{InFlight}
use Rattle.running_kernel.specs.declared.running.Running.{Running}
use Rattle.running_kernel.specs.Orders.{order_of, counts_within, are_processes, are_once, numbers_of}
use Rattle.running_kernel.specs.Views.{placed_of, flight_of, chain_of, run_of, IsRunning, HasAbstraction}
use Rattle.running_kernel.specs.WholeBlocks.{some_blocks, blocks_are_whole}
use Rattle.kernel_steps.specs.Moves.{StaysInPlace, HeldStays}
use Rattle.running_kernel.specs.Owned.{AreOwned}
use Rattle.kernel_steps.specs.Steps.{Stepped}
use Rattle.running_kernel.proofs.ViewLemmas.{config_in_place}
use Rattle.running_kernel.proofs.HinderLemmas.{some_levels}
use Rattle.kernel_steps.proofs.StayLemmas.{all_still, inside_still, sound_still}

-- ---- what levels hold

-- an element is the first or a later one
found_in : {A : Type 0} (x y : A) (xs : List A) → Contains (x ∷ xs) y → (x ≡ y) ⊎ Contains xs y
found_in x y xs (zero, less, is) = inl is
found_in x y xs (suc k, less, is) = inr (k, omega (arith, less), is)

-- what some level holds exclusively the table has
held_by : (h : Held) → is_held_exclusively h ≡ true → h ≡ Held.Exclusive
held_by Held.Free is = absurd cc
held_by Held.Shared is = absurd cc
held_by Held.Exclusive is = refl

touch_of : (t : LockTable) (q n : ℕ) (o : Object) (further b : Bool) →
    is_held_exclusively (t q n o) ≡ b → (further ≡ true → (d : ℕ) × (t q d o ≡ Held.Exclusive)) →
    (b || further) ≡ true →
    (d : ℕ) × (t q d o ≡ Held.Exclusive)
touch_of t q n o further true is rest some = (n, held_by (t q n o) is)
touch_of t q n o further false is rest some = rest some

touch_at : (q : ℕ) (ram : List ℕ) (t : LockTable) (gs : List GraftLevel) (log : List (List Logged))
    (w : Things) (o : Object) → is_changed_in (levels_in q ram t gs log w) o ≡ true →
    (d : ℕ) × (t q d o ≡ Held.Exclusive)
touch_at q ram t [] log w o some = absurd cc
touch_at q ram t (g ∷ gs) log w o some =
    let ls = levels_in q ram t gs (outer log) (put_back (innermost log) w) in
    touch_of t q (length gs) o (is_changed_in ls o) (is_held_exclusively (t q (length gs) o)) refl
    (touch_at q ram t gs (outer log) (put_back (innermost log) w) o) some

-- so the table has the object of each record held exclusively
recorded_of : (q : ℕ) (ram : List ℕ) (t : LockTable) (g : GraftLevel) (gs : List GraftLevel)
    (log : List (List Logged)) (w : Things) (l : Level) (i : Found) →
    ((j : Found) → Contains (map found_of (innermost log)) j → (d : ℕ) × (t q d (changed_by j) ≡ Held.Exclusive)) →
    (Contains (levels_in q ram t gs (outer log) (put_back (innermost log) w)) l →
    (d : ℕ) × (t q d (changed_by i) ≡ Held.Exclusive)) → Contains l.records i →
    (level_in q (length gs) ram t g (innermost log) (put_back (innermost log) w) ≡ l)
    ⊎ Contains (levels_in q ram t gs (outer log) (put_back (innermost log) w)) l →
    (d : ℕ) × (t q d (changed_by i) ≡ Held.Exclusive)
recorded_of q ram t g gs log w l i here further own (inl is) =
    here i (subst (λ (k : Level). Contains k.records i) (sym is) own)
recorded_of q ram t g gs log w l i here further own (inr rest) = further rest

recorded_at : (q : ℕ) (ram : List ℕ) (t : LockTable) (gs : List GraftLevel)
    (log : List (List Logged)) (w : Things) → AreRecorded (levels_in q ram t gs log w) →
    (l : Level) (i : Found) →
    Contains (levels_in q ram t gs log w) l → Contains l.records i → (d : ℕ) × (t q d (changed_by i) ≡ Held.Exclusive)
recorded_at q ram t [] log w all l i has own = absurd (omega (arith, has.1))
recorded_at q ram t (g ∷ gs) log w all l i has own =
    recorded_of q ram t g gs log w l i (λ j in_it. touch_at q ram t (g ∷ gs) log w (changed_by j) (all.0 j in_it))
    (λ rest. recorded_at q ram t gs (outer log) (put_back (innermost log) w) all.1 l i rest own) own
    (found_in (level_in q (length gs) ram t g (innermost log) (put_back (innermost log) w)) l
    (levels_in q ram t gs (outer log) (put_back (innermost log) w)) has)

-- level 0 holds what the table says
outermost_is : (q : ℕ) (ram : List ℕ) (t : LockTable) (gs : List GraftLevel)
    (log : List (List Logged)) (w : Things) → 0 < length gs →
    outermost_touched (levels_in q ram t gs log w) ≡ t q 0
outermost_is q ram t [] log w h = absurd (omega (arith, h))
outermost_is q ram t (g ∷ []) log w h = refl
outermost_is q ram t (g ∷ k ∷ gs) log w h =
    outermost_is q ram t (k ∷ gs) (outer log) (put_back (innermost log) w) (omega arith)

-- ---- another call stays in place

none_undoable : (log : List (List Logged)) (w : Things) → length log ≡ 0 → AllUndoable log w
none_undoable [] w h = tt
none_undoable (is ∷ log) w h = absurd (omega (arith, h))

none_inside : (images : ImageTable) (a : Accounts) (q : ℕ) (gs : List GraftLevel) → length gs ≡ 0 →
    AreInside images a q gs
none_inside images a q [] h = tt
none_inside images a q (g ∷ gs) h = absurd (omega (arith, h))

none_sound : (queue : List QueueRow) (gs : List GraftLevel) → length gs ≡ 0 → AreSound queue gs
none_sound queue [] h = tt
none_sound queue (g ∷ gs) h = absurd (omega (arith, h))

-- a graft call is sound on what stands for a kernel, whatever the order of waiting
config_of : {C B M : Type 0} {P : _} (m : Meaning) → SoundInPlace m →
    (x : Running C B M P) (es : List Waiter) (q : ℕ) →
    HasAbstraction m (record (placed_of x) { order = es }) →
    0 < length (chain_of x q).levels → IsSoundConfig (world_of_store x.store) (call_of x.store x.locks (chain_of x q) q)
config_of m sound x es q abstraction some =
    subst (IsSoundConfig (world_of_store x.store)) (config_in_place x q)
    (sound.configs (record (placed_of x) { order = es }) abstraction.kernel q abstraction.stands
    (some_levels q x.store.ram (held x.locks) (chain_of x q).levels (chain_of x q).undo
    (objects_of x.store).things some))

-- the graft of a level stands, so its installer lives
installer_lives : (v : World) (c : Config) (l : Level) → IsSoundConfig v c → Contains c.levels l →
    lives c.now.things.queue l.owner ≡ true
installer_lives v c l h has = by_value (c.now.accounts.graft l.owner l.point) refl (h.grafts l has)
  where
    by_value : (g : Option GraftValue) → c.now.accounts.graft l.owner l.point ≡ g →
        is_some (c.now.accounts.graft l.owner l.point) ≡ true →
        lives c.now.things.queue l.owner ≡ true
    by_value None e some = grind (arith, e, some)
    by_value (Some g) e some = (h.now.grafts l.owner l.point g e).1

-- the owner of levels lives
owner_lives : (v : World) (s : Objects) (o q : ℕ) (ram : List ℕ)
    (t : LockTable) (gs : List GraftLevel) (log : List (List Logged)) →
    IsSoundConfig v (record { now = s; levels = levels_in q ram t gs log s.things }) →
    AreOwned o gs log → 0 < length gs →
    lives s.things.queue o ≡ true
owner_lives v s o q ram t [] log h own some = absurd (omega (arith, some))
owner_lives v s o q ram t (g ∷ gs) log h own some =
    let l : Level = level_in q (length gs) ram t g (innermost log) (put_back (innermost log) s.things) in
    ap (lives s.things.queue) (sym own.0)
    ∙ installer_lives v (record { now = s; levels = levels_in q ram t (g ∷ gs) log s.things }) l h
    (0, omega arith, refl)

-- with no level there is nothing to keep
stays_without : {C B M : Type 0} {P : _} (x y : Running C B M P) (q : ℕ) → IsRunning x →
    chain_of y q ≡ chain_of x q → q < 16 →
    length (chain_of x q).levels ≡ 0 → StaysInPlace y q
stays_without x y q r chain small none =
    let few : length (chain_of y q).levels ≡ 0 = ap (λ (c : Chain). length c.levels) chain ∙ none in
    record {
      levels = none_sound (queue_of y.store) (chain_of y q).levels few;
      undoable =
          none_undoable (chain_of y q).undo (objects_of y.store).things
          (ap (λ (c : Chain). length c.undo) chain ∙ (r.placed q small).as_many ∙ none);
      inside = none_inside (table_of y.images) (objects_of y.store).accounts q (chain_of y q).levels few;
    }

-- with levels, what it holds exclusively stays
stays_with : {C B M : Type 0} {P : _} (m : Meaning) → SoundInPlace m →
    (x y : Running C B M P) (es : List Waiter) (q : ℕ) → IsRunning x →
    HasAbstraction m (placed_of x) → HasAbstraction m (record (placed_of y) { order = es }) →
    chain_of y q ≡ chain_of x q → y.images ≡ x.images → q < 16 → HeldStays x y q →
    0 < length (chain_of x q).levels → StaysInPlace y q
stays_with m sound x y es q r abstraction after chain images small stays some =
    let gs = (chain_of x q).levels in
    let log = (chain_of x q).undo in
    let s = objects_of x.store in
    let u = objects_of y.store in
    let t = held x.locks in
    let old = r.placed q small in
    let config = config_of m sound x (order_of x.order) q abstraction some in
    let later = subst (λ (c : Chain). IsSoundConfig (world_of_store y.store) (call_of y.store y.locks c q)) chain
    (config_of m sound y es q after (subst (λ (c : Chain). 0 < length c.levels) (sym chain) some)) in
    let live = owner_lives (world_of_store y.store) u (r.owner q) q y.store.ram (held y.locks) gs
    log later (r.own q small) some in
    record {
      levels =
          subst (λ (c : Chain). AreSound (queue_of y.store) c.levels) (sym chain) (sound_still
          (r.owner q) (queue_of x.store) (queue_of y.store) gs log (r.own q small) live old.levels);
      undoable = subst (λ (c : Chain). AllUndoable c.undo u.things) (sym chain)
          (all_still (r.owner q) q x.store.ram t gs log s.things s u old.as_many (r.own q small) live
          (λ l i has own. let e = recorded_at q x.store.ram t gs log s.things config.recorded l i
          has own in stays e.0 (changed_by i) e.1) old.undoable);
      inside = subst (λ (c : Chain). AreInside (table_of y.images) u.accounts q c.levels) (sym chain)
          (subst (λ i. AreInside (table_of i) u.accounts q gs) (sym images)
          (inside_still (table_of x.images) s.accounts u.accounts q x.store.ram t gs log s.things
          (λ l has. (stays 0 (Graft l.owner l.point) (sym (ap (λ f. f (Graft l.owner l.point))
          (outermost_is q x.store.ram t gs log s.things some)) ∙ (config.paid l has).0)).0)
          (r.inside q small)));
    }

stays_in_place : {C B M : Type 0} {P : _} (m : Meaning) → SoundInPlace m →
    (x y : Running C B M P) (es : List Waiter) (q : ℕ) → IsRunning x →
    HasAbstraction m (placed_of x) → HasAbstraction m (record (placed_of y) { order = es }) →
    chain_of y q ≡ chain_of x q → y.images ≡ x.images → q < 16 → HeldStays x y q → (b : Bool) →
    nat_lt 0 (length (chain_of x q).levels) ≡ b → StaysInPlace y q
stays_in_place m sound x y es q r abstraction after chain images small stays true h =
    stays_with m sound x y es q r abstraction after chain images small stays (grind (arith, nat_tests, h))
stays_in_place m sound x y es q r abstraction after chain images small stays false h =
    stays_without x y q r chain small (grind (arith, nat_tests, h))

-- ---- the kernel runs again

-- what holds of p and of every other holds of all
pub all_hold : (p : ℕ) (P : ℕ → Type 0) → P p → ((q : ℕ) → q ≢ p → P q) → (q : ℕ) (b : Bool) → (q == p) ≡ b → P q
all_hold p P own others q true h = subst P (sym (eqb-true q p h)) own
all_hold p P own others q false h = others q (grind (arith, nat_tests, h))

-- whose the levels are
pub owners_at : (p o : ℕ) (f : ℕ → ℕ) (P : ℕ → ℕ → Type 0) → P o p → ((q : ℕ) → q ≢ p → P (f q) q) →
    (q : ℕ) (b : Bool) → (q == p) ≡ b → P (cond b o (f q)) q
owners_at p o f P own others q true h = subst (P o) (sym (eqb-true q p h)) own
owners_at p o f P own others q false h = others q (grind (arith, nat_tests, h))

placed_again : {C B M : Type 0} {P : _} (x y : Running C B M P) (p q : ℕ) → IsRunning x →
    Stepped x y p → q < 16 → q ≢ p → StaysInPlace y q →
    IsPlaced y.store y.locks q (chain_of y q).levels (chain_of y q).undo
placed_again x y p q r step small other stay =
    let chain : chain_of y q ≡ chain_of x q = step.chains q other in
    let old = r.placed q small in
    record {
      process = small;
      few = subst (λ (c : Chain). length c.levels ≤ 4) (sym chain) old.few;
      as_many = subst (λ (c : Chain). length c.undo ≡ length c.levels) (sym chain) old.as_many;
      unheld =
          λ d o le. ap (λ f. f o) (step.locks q d other)
          ∙ old.unheld d o (subst (λ (c : Chain). length c.levels ≤ d) chain le);
      levels = stay.levels;
      undoable = stay.undoable;
    }

-- the images of what stands for a kernel are loaded, whatever the order of waiting
loaded_of : (m : Meaning) → SoundInPlace m → (x : Placed) (es : List Waiter) →
    HasAbstraction m (record x { order = es }) → ImagesAreLoaded x.images x.objects.accounts
loaded_of m sound x es abstraction =
    sound.images_loaded (run_of (record x { order = es }) some_blocks [] [])
    (record { kernel = abstraction.kernel; blocks = some_blocks; notes = []; io = [] })
    (record {
      kernel = abstraction.stands;
      blocks = refl;
      notes = refl;
      io = refl;
      whole = blocks_are_whole abstraction.kernel.world;
    })

pub runs_again : {C B M : Type 0} {P : _} (m : Meaning) → SoundInPlace m →
    (x y : Running C B M P) (es : List Waiter) (p o : ℕ) → IsRunning x → p < 16 →
    HasAbstraction m (placed_of x) → HasAbstraction m (record (placed_of y) { order = es }) →
    Stepped x y p → AreOwned o (chain_of y p).levels (chain_of y p).undo →
    ((q : ℕ) → q ≢ p → HeldStays x y q) → IsRunning y
runs_again m sound x y es p o r low abstraction after step own held =
    let stay : (q : ℕ) → q ≢ p → q < 16 → StaysInPlace y q =
    λ q other small. stays_in_place m sound x y es q r abstraction after (step.chains q other)
    step.images small (held q other) (nat_lt 0 (length (chain_of x q).levels)) refl in
    record {
      sixteen = step.sixteen ∙ r.sixteen;
      callers =
          λ q f is. all_hold p (λ q. (f : InFlight) →
          (flight_of y.calls.items q).call ≡ Some f → f.work.caller ≡ q) step.caller_is
          (λ q other f is. r.callers q f (sym (step.calls q other) ∙ is)) q (q == p) refl f is;
      placed =
          λ q small. all_hold p
          (λ q. q < 16 → IsPlaced y.store y.locks q (chain_of y q).levels (chain_of y q).undo)
          (λ small. step.placed) (λ q other small. placed_again x y p q r step small other
          (stay q other small)) q (q == p) refl small;
      inside =
          λ q small. all_hold p (λ q. q < 16 →
          AreInside (table_of y.images) (objects_of y.store).accounts q (chain_of y q).levels)
          (λ small. step.inside) (λ q other small. (stay q other small).inside) q
          (q == p) refl small;
      counts = ap (λ n. counts_within n y.order) step.clock ∙ ap (counts_within x.clock) step.order ∙ r.counts;
      order = ap are_processes step.order ∙ r.order;
      once = ap (λ ws. are_once (numbers_of ws)) step.order ∙ r.once;
      loaded = loaded_of m sound (placed_of y) es after;
      owner = λ q. cond (q == p) o (r.owner q);
      own =
          λ q small. owners_at p o r.owner
          (λ n q. q < 16 → AreOwned n (chain_of y q).levels (chain_of y q).undo) (λ small. own)
          (λ q other small. subst (λ (c : Chain). AreOwned (r.owner q) c.levels c.undo)
          (sym (step.chains q other)) (r.own q small)) q (q == p) refl small;
    }
