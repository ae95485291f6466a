-- A kernel that begins again, and one with more images.
use Rattle.std.proofs.Common.{◌≡◌, ℕ, ◌≤◌, ◌==◌, Bool, true, false, cond, List, [], ◌∷◌, ◌*◌}
use Rattle.std.proofs.Common.{length, refl, ap, sym, ◌∙◌, arith, subst, Option, Some, None}
use Rattle.std.specs.Prelude.{is_some, ◌+◌, option_map, map}
use Rattle.std.proofs.Math.Path.{fun_ext}
use Rattle.std.proofs.lemmas.Bool.Decides.{nat_tests}
use Rattle.kernel_model.specs.Boxed.{IsInside}
use Rattle.kernel_model.specs.Levels.{code_in, code_of, image_of}
use Rattle.kernel_data.specs.declared.FileRow.{FileRow}
use Rattle.kernel_data.specs.World.{World, Image, ImageTable, file_row}
use Rattle.kernel_data.specs.Objects.{Objects, at, Accounts, GraftValue}
use Rattle.kernel_data.specs.Directory.{lies_on_disk}
use Rattle.kernel_model.specs.Meaning.{Meaning}
use Rattle.kernel_model.specs.Kernel.{Kernel, Waiter}
use Rattle.kernel_model.specs.Opening.{opening_kernel, opening_objects, opening_things}
use Rattle.kernel_model.specs.ImageLines as image_lines
use Rattle.kernel_model.specs.Sound.{IsSoundWorld, FitsDisk, ImagesAreLoaded, IsAtRest}
use Rattle.kernel_model.specs.Alike.{Extends}
use Rattle.lock_table.specs.Masks.{held}
use Rattle.call_pieces.specs.Stores.{world_of_store, objects_of}
use Rattle.kernel_laws.specs.Soundness.{OpeningKernelIsSound}
use Rattle.graft_levels.specs.declared.Chain.{Chain}
use Rattle.graft_levels.specs.declared.GraftLevel.{GraftLevel}
use Rattle.graft_levels.specs.Cpu.{machine_of}
use Rattle.graft_levels.specs.Calls.{IsPlaced, AreInside, RunsInside}
use Rattle.graft_levels.specs.Chains.{levels_of}
use Rattle.graft_levels.specs.Slots.{table_of}
use Rattle.placed_laws.specs.Placed.{Placed, PlacedCall, PlacedLevel, bare}
use Rattle.placed_laws.specs.Keeping.{QuietKernelsStand, OthersStand, ImagesKeepRest, quietly_placed}
use Rattle.placed_laws.specs.Stands.{StandsFor, RunStandsFor}
use Rattle.running_kernel.specs.declared.running.Flight.{Flight}
use Rattle.running_kernel.specs.declared.running.Running.{Running}
use Rattle.running_kernel.specs.Orders.{order_of, counts_within, are_processes, are_once, numbers_of}
use Rattle.running_kernel.specs.Owned.{AreOwned}
use Rattle.running_kernel.specs.Views.{placed_of, call_at, levels_at, call_in_place, flight_of}
use Rattle.running_kernel.specs.Views.{no_flight, chain_of, run_of, IsRunning}
use Rattle.running_kernel.specs.WholeBlocks.{some_blocks, blocks_are_whole}

-- ---- the beginning

-- the same parts make the same kernel in place
parts_of : (v : World) (images : ImageTable) (s : Objects) (n : ℕ) (call : ℕ → Option PlacedCall)
    (levels : ℕ → List PlacedLevel) (order : List Waiter) (k : Kernel) →
    v ≡ k.world → images ≡ k.images → s ≡ k.objects → n ≡ k.clock → call ≡ (λ p. None) →
    levels ≡ (λ p. []) → order ≡ k.order →
    ◌≡◌ {A = Placed} (record {
      world = v;
      images = images;
      objects = s;
      clock = n;
      call = call;
      levels = levels;
      order = order;
    }) (quietly_placed k)
parts_of v images s n call levels order k v_is images_are s_is n_is call_is levels_are order_is =
    rw (v_is, images_are, s_is, n_is, call_is, levels_are, order_is) refl

-- a kernel in which no call is in flight
pub quiet_is : {C B M : Type 0} {P : _} (x : Running C B M P) (k : Kernel) →
    world_of_store x.store ≡ k.world → table_of x.images ≡ k.images →
    objects_of x.store ≡ k.objects → x.clock ≡ k.clock →
    ((p : ℕ) → flight_of x.calls.items p ≡ no_flight) → order_of x.order ≡ k.order → placed_of x ≡ quietly_placed k
quiet_is x k v_is images_are s_is n_is none order_is =
    parts_of (world_of_store x.store) (table_of x.images) (objects_of x.store) x.clock (call_at x)
    (levels_at x) (order_of x.order) k v_is images_are s_is n_is
    (fun_ext (λ p. ap (λ (f : Flight). option_map call_in_place f.call) (none p)))
    (fun_ext (λ p. ap (λ (f : Flight). map bare (levels_of x.store x.locks f.chain p)) (none p)))
    order_is

-- a file of the directory ends on the disk
ends_on : (size : ℕ) (r : FileRow) → lies_on_disk size r ≡ true → r.start + r.blocks ≤ size
ends_on size r h = grind (arith, nat_tests, h)

-- the kernel after boot stands
pub opened : {C B M : Type 0} {P : _} (m : Meaning) → OpeningKernelIsSound m → QuietKernelsStand m →
    (x : Running C B M P) (v : World) →
    2 ≤ v.frames → v.frames ≤ 64 → length v.directory ≤ 16 →
    1 ≤ v.disk_size → v.disk_size ≤ 4096 → v.callable ≡ 15 →
    ((n : ℕ) (r : FileRow) → file_row v n ≡ Some r → lies_on_disk v.disk_size r ≡ true) →
    world_of_store x.store ≡ v → (table_of x.images ≡ λ slot. None) →
    objects_of x.store ≡ opening_objects v.grant → x.clock ≡ 0 →
    ((p : ℕ) → flight_of x.calls.items p ≡ no_flight) → x.order ≡ [] → StandsFor m (placed_of x) (opening_kernel v)
opened m sound stand x v least most rows some size callable files v_is images_are s_is n_is none order =
    let world : IsSoundWorld v = record {
      frames_some = least;
      frames_most = most;
      entries = rows;
      files = λ n r is. omega (arith, ends_on v.disk_size r (files n r is), size);
      callable = omega (arith, callable);
    } in
    let disk : FitsDisk v opening_things.cache = record {
      some = some;
      most = size;
      files = λ n r is. ends_on v.disk_size r (files n r is);
      frames = λ f b is. absurd cc;
    } in
    subst (λ (y : Placed). StandsFor m y (opening_kernel v))
    (sym (quiet_is x (opening_kernel v) v_is images_are s_is n_is none (ap order_of order)))
    (stand (opening_kernel v) (sound v world disk) (λ p. refl))

-- and it runs
pub runs_again : {C B M : Type 0} {P : _} (x y : Running C B M P) (grant : ℕ) →
    IsRunning x → ((p : ℕ) → flight_of x.calls.items p ≡ no_flight) → y.calls ≡ x.calls →
    y.locks ≡ x.locks → y.order ≡ [] →
    objects_of y.store ≡ opening_objects grant → IsRunning y
runs_again x y grant r none calls locks order s_is =
    let before : (p : ℕ) → chain_of x p ≡ record { levels = []; undo = [] } =
    λ p. ap (λ (f : Flight). f.chain) (none p) in
    let flight : (p : ℕ) → flight_of y.calls.items p ≡ no_flight =
    λ p. ap (λ fs. flight_of fs.items p) calls ∙ none p in
    let now : (p : ℕ) → chain_of y p ≡ record { levels = []; undo = [] } =
    λ p. ap (λ (f : Flight). f.chain) (flight p) in
    record {
      sixteen = ap (λ fs. length fs.items) calls ∙ r.sixteen;
      callers = λ p f is. grind (arith, is, flight p);
      placed = λ p h.
          let old = subst (λ (chain : Chain). IsPlaced x.store x.locks p chain.levels chain.undo)
          (before p) (r.placed p h) in
          subst (λ (chain : Chain). IsPlaced y.store y.locks p chain.levels chain.undo) (sym (now p))
          (record {
            process = h;
            few = omega arith;
            as_many = refl;
            unheld = λ d o le. ap (λ t. held t p d o) locks ∙ old.unheld d o le;
            levels = tt;
            undoable = tt;
          });
      inside =
          λ p h. subst (λ (chain : Chain). AreInside (table_of y.images)
          (objects_of y.store).accounts p chain.levels) (sym (now p)) tt;
      counts = ap (counts_within y.clock) order;
      order = ap are_processes order;
      once = ap (λ ws. are_once (numbers_of ws)) order;
      loaded =
          subst (λ (a : Accounts). ImagesAreLoaded (table_of y.images) a)
          (ap (λ (s : Objects). s.accounts) (sym s_is)) (λ q pt g is. absurd cc);
      owner = λ p. 0;
      own = λ p h. subst (λ (chain : Chain). AreOwned 0 chain.levels chain.undo) (sym (now p)) tt;
    }

-- ---- more images

-- what stood in a slot that isn't this free one
still_there : (b : Bool) (o found : Option Image) (i : Image) → (b ≡ true → found ≡ None) →
    found ≡ Some i → cond b o found ≡ Some i
still_there true o found i free is = absurd (some_none (sym is ∙ free refl))
  where
    some_none : Some i ≡ None → ⊥
    some_none e = absurd cc
still_there false o found i free is = is

-- a table with an image in a free slot extends the table
pub extends_at : (slot : ℕ) (image : Image) (t : ImageTable) → t slot ≡ None → Extends t (at slot (Some image) t)
extends_at slot image t free n i is =
    still_there (n == slot) (Some image) (t n) i (λ same. ap t (same_number n slot same) ∙ free) is
  where
    same_number : (a b : ℕ) → (a == b) ≡ true → a ≡ b
    same_number a b h = grind (arith, nat_tests, h)

-- the image of a graft that stands is the same
image_stays : (images more : ImageTable) → Extends images more → (o : Option GraftValue) →
    ((g : GraftValue) → o ≡ Some g → is_some (images g.image) ≡ true) →
    image_of more o ≡ image_of images o
image_stays images more extends None loaded = refl
image_stays images more extends (Some g) loaded = found (images g.image) refl (loaded g refl)
  where
    found : (o : Option Image) → images g.image ≡ o → is_some o ≡ true → more g.image ≡ images g.image
    found None is some = absurd cc
    found (Some i) is some = extends g.image i is ∙ sym is

-- so is its code
code_stays : (images more : ImageTable) (a : Accounts) (q pt : ℕ) → Extends images more →
    ImagesAreLoaded images a → code_of more a q pt ≡ code_of images a q pt
code_stays images more a q pt extends loaded =
    ap code_in (image_stays images more extends (a.graft q pt) (λ g is. loaded q pt g is))

-- levels that run go on
still_inside : (images more : ImageTable) (a : Accounts) (p : ℕ) (gs : List GraftLevel) →
    Extends images more → ImagesAreLoaded images a → AreInside images a p gs → AreInside more a p gs
still_inside images more a p [] extends loaded h = tt
still_inside images more a p (g ∷ gs) extends loaded h =
    let first : RunsInside more a p (length gs) g =
    record {
      count = h.0.count;
      inside = λ ram. subst (λ code. IsInside code (4 * p + length gs) (machine_of g.machine ram))
          (sym (code_stays images more a g.owner g.point extends loaded)) (h.0.inside ram);
    } in
    (first, still_inside images more a p gs extends loaded h.1)

-- the image of each graft that stands is still loaded
still_loaded : (images more : ImageTable) (a : Accounts) → Extends images more →
    ImagesAreLoaded images a → ImagesAreLoaded more a
still_loaded images more a extends loaded = λ q pt g is. found (images g.image) g refl (loaded q pt g is)
  where
    found : (o : Option Image) (g : GraftValue) → images g.image ≡ o → is_some o ≡ true → is_some (more g.image) ≡ true
    found None g is some = absurd cc
    found (Some i) g is some = ap is_some (extends g.image i is)

-- a running kernel runs with more images
pub runs_with_more : {C B M : Type 0} {P : _} (x : Running C B M P) (slots : List (Option Image)) →
    IsRunning x → Extends (table_of x.images) (table_of slots) → IsRunning (record x { images = slots })
runs_with_more x slots r extends =
    record {
      sixteen = r.sixteen;
      callers = r.callers;
      placed = r.placed;
      inside =
          λ p h. still_inside (table_of x.images) (table_of slots) (objects_of x.store).accounts p
          (chain_of x p).levels extends r.loaded (r.inside p h);
      counts = r.counts;
      order = r.order;
      once = r.once;
      loaded = still_loaded (table_of x.images) (table_of slots) (objects_of x.store).accounts extends r.loaded;
      owner = r.owner;
      own = r.own;
    }

-- and stands
pub stands_with_more : (m : Meaning) → OthersStand m →
    (x : Placed) (k : Kernel) (more : ImageTable) → StandsFor m x k → Extends x.images more →
    StandsFor m (record x { images = more }) (record k { images = more })
stands_with_more m others x k more stands extends =
    let r : RunStandsFor m (run_of x some_blocks [] [])
    (record { kernel = k; blocks = some_blocks; notes = []; io = [] }) =
    record { kernel = stands; blocks = refl; notes = refl; io = refl; whole = blocks_are_whole k.world } in
    (others.images (run_of x some_blocks [] [])
    (record { kernel = k; blocks = some_blocks; notes = []; io = [] }) more r extends).kernel

-- an image in a free slot is added
pub stands_added : (m : Meaning) → OthersStand m →
    (x : Placed) (k : Kernel) (slot : ℕ) (image : Image) (more : ImageTable) →
    more ≡ at slot (Some image) x.images → x.images slot ≡ None →
    StandsFor m x k → StandsFor m (record x { images = more }) (image_lines.add_image slot image k)
stands_added m others x k slot image more more_is free stands =
    let extends = subst (λ (t : ImageTable). Extends x.images t) (sym more_is) (extends_at slot image x.images free) in
    subst (λ (t : ImageTable). StandsFor m (record x { images = more }) (record k { images = t }))
    (more_is ∙ ap (at slot (Some image)) stands.images)
    (stands_with_more m others x k more stands extends)

-- and what rests goes on to rest
pub rests_added : (m : Meaning) → ImagesKeepRest m →
    (x : Placed) (k : Kernel) (slot : ℕ) (image : Image) → x.images slot ≡ None → StandsFor m x k →
    IsAtRest m k → IsAtRest m (image_lines.add_image slot image k)
rests_added m keep x k slot image free stands rests =
    keep k (at slot (Some image) k.images) stands.kernel (extends_at slot image k.images
    (ap (λ (t : ImageTable). t slot) (sym stands.images) ∙ free)) rests
