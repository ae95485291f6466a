-- A kernel in place in which one call's levels moved.
use Rattle.std.proofs.Common.{◌≡◌, ◌≢◌, ℕ, suc, zero, ◌+◌, ◌≤◌, ◌<◌, ◌==◌, Bool, true, false, cond}
use Rattle.std.proofs.Common.{nat_lt, List, [], ◌∷◌, map, length, slice_index, refl, ap, sym}
use Rattle.std.proofs.Common.{subst, ◌∙◌, arith, Option, inl, inr}
use Rattle.std.specs.Prelude.{option_map, slice_set, slice_index_or}
use Rattle.std.proofs.Math.Path.{fun_ext}
use Rattle.std.proofs.lemmas.Bool.{eqb-true}
use Rattle.std.proofs.lemmas.Bool.Decides.{nat_tests}
use Rattle.std.proofs.lemmas.Grind.{common_steps}
use Rattle.kernel_model.specs.World.{World, ImageTable}
use Rattle.kernel_model.specs.Objects.{Objects, Things, at}
use Rattle.kernel_model.specs.Sound.{ImagesAreLoaded}
use Rattle.kernel_model.specs.Locks.{LockTable, Touched}
use Rattle.kernel_model.specs.Levels.{Level, Config, Outcome, base_of}
use Rattle.kernel_model.specs.Kernel.{Waiter}
use Rattle.kernel_model.specs.Runs.{segment_of}
use Rattle.graft_levels.specs.UndoLevels.{Logged, found_of, innermost}
use Rattle.graft_levels.specs.Masks.{held}
use Rattle.graft_levels.specs.Cpu.{by_place}
use Rattle.call_pieces.specs.Stores.{objects_of}
use Rattle.graft_levels.specs.Slots.{table_of}
use Rattle.graft_levels.specs.declared.GraftLevel.{GraftLevel}
use Rattle.graft_levels.specs.declared.Chain.{Chain}
use Rattle.kernel_model.specs.declared.Micro.{Micro}
use Rattle.graft_levels.specs.Chains.{put_back, came, levels_in, outer, levels_of, call_of, HasAnswer}
use Rattle.graft_levels.specs.Calls.{IsBeyond, IsPlaced, AreInside, IsInPlace, IsElsewhereSame}
use Rattle.placed_laws.specs.Placed.{PlacedCall, PlacedLevel, bare, placed_config, placed_levels}
use Rattle.running_kernel.specs.declared.running.Flight.{Flight}
use Rattle.running_kernel.specs.declared.running.Running.{Running}
use Rattle.running_kernel.specs.Orders.{order_of}
use Rattle.running_kernel.specs.Views.{placed_of, flight_of, no_flight, chain_of, levels_at, call_in_place, IsRunning}
use Rattle.kernel_steps.specs.Moves.{come_to, Moved}
use Rattle.running_kernel.proofs.ViewLemmas.{config_in_place}

-- ---- the memory of other processes' levels

-- a place of another process's segment is in none of those of p
beyond : (p q d i : ℕ) → q ≢ p → d < 4 → i < 4096 → (b : Bool) → nat_lt q p ≡ b → IsBeyond p (base_of q d + i)
beyond p q d i other few small true h =
    let less : q < p = grind (arith, nat_tests, h) in
    inl (omega (arith, less, few, small))
beyond p q d i other few small false h =
    let more : p < q = grind (arith, nat_tests, h, other) in
    inr (omega (arith, more, few, small))

-- so it has the same byte
byte_same : (p q d i : ℕ) (s u : List ℕ) → q ≢ p → d < 4 →
    ((a : ℕ) → IsBeyond p a → slice_index u a ≡ slice_index s a) → (b : Bool) → nat_lt i 4096 ≡ b →
    segment_of (base_of q d) (by_place u) i ≡ segment_of (base_of q d) (by_place s) i
byte_same p q d i s u other few same true h =
    let small : i < 4096 = grind (arith, nat_tests, h) in
    ap (λ v. cond (nat_lt i 4096) v 0) (same (base_of q d + i) (beyond p q d i other few small (nat_lt q p) refl))
byte_same p q d i s u other few same false h =
    ap (λ b. cond b (by_place u (base_of q d + i)) 0) h ∙ sym (ap (λ b. cond b (by_place s (base_of q d + i)) 0) h)

-- and so have all
segment_same : (p q d : ℕ) (s u : List ℕ) → q ≢ p → d < 4 →
    ((a : ℕ) → IsBeyond p a → slice_index u a ≡ slice_index s a) →
    segment_of (base_of q d) (by_place u) ≡ segment_of (base_of q d) (by_place s)
segment_same p q d s u other few same = fun_ext (λ i. byte_same p q d i s u other few same (nat_lt i 4096) refl)

-- ---- the levels of other processes

-- a level without what it found
abbrev pub bare_in : (t : Touched) → (memory : ℕ → ℕ) → GraftLevel → List Logged → PlacedLevel
bare_in t memory g is =
    record {
      owner = g.owner;
      point = g.point;
      machine = record { regs = by_place g.machine.regs; pc = g.machine.pc; memory = memory };
      count = g.count;
      touched = t;
      args = g.args;
      records = map found_of is;
    }

-- where they hold the same and memory elsewhere is the same, the levels are the same
pub others_same : (p q : ℕ) (s u : List ℕ) (t r : LockTable) (gs : List GraftLevel)
    (log : List (List Logged)) (w z : Things) → q ≢ p → length gs ≤ 4 →
    ((d : ℕ) → r q d ≡ t q d) → ((a : ℕ) → IsBeyond p a → slice_index u a ≡ slice_index s a) →
    map bare (levels_in q u r gs log z) ≡ map bare (levels_in q s t gs log w)
others_same p q s u t r [] log w z other few holds memory = refl
others_same p q s u t r (g ∷ gs) log w z other few holds memory =
    ap (λ (touched : Touched). bare_in touched (segment_of (base_of q (length gs)) (by_place u)) g
    (innermost log) ∷ map bare (levels_in q u r gs (outer log) (put_back (innermost log) z)))
    (holds (length gs))
    ∙ ap (λ (memory : ℕ → ℕ). bare_in (t q (length gs)) memory g (innermost log) ∷ map bare
    (levels_in q u r gs (outer log) (put_back (innermost log) z)))
    (segment_same p q (length gs) s u other (omega (arith, few)) memory)
    ∙ ap (λ (ls : List PlacedLevel). bare_in (t q (length gs))
    (segment_of (base_of q (length gs)) (by_place s)) g (innermost log) ∷ ls)
    (others_same p q s u t r gs (outer log) (put_back (innermost log) w)
    (put_back (innermost log) z) other (omega (arith, few)) holds memory)

-- ---- the whole

-- a process that can't be has no level
no_chain : (fs : List Flight) (q : ℕ) → length fs ≡ 16 → 16 ≤ q → length (flight_of fs q).chain.levels ≡ 0
no_chain fs q n h = grind (arith, common_steps, n, h)

-- so each has few
pub few_levels : {C B M : Type 0} {P : _} (x : Running C B M P) → IsRunning x → (q : ℕ) →
    (b : Bool) → nat_lt q 16 ≡ b → length (chain_of x q).levels ≤ 4
few_levels x r q true h = (r.placed q (grind (arith, nat_tests, h))).few
few_levels x r q false h = omega (arith, no_chain x.calls.items q r.sixteen (grind (arith, nat_tests, h)))

-- the levels of a process after a move
levels_moved : {C B M : Type 0} {P : _} (x y : Running C B M P) (p : ℕ) (c : Config) → IsRunning x → Moved x y p →
    call_of y.store y.locks (chain_of y p) p ≡ c → (q : ℕ) (b : Bool) → (q == p) ≡ b →
    levels_at y q ≡ at p (map bare c.levels) (levels_at x) q
levels_moved x y p c r moved is q true h =
    ap (levels_at y) (eqb-true q p h) ∙ ap (λ (f : Config). map bare f.levels) is
    ∙ sym (ap (λ b. cond b (map bare c.levels) (levels_at x q)) h)
levels_moved x y p c r moved is q false h =
    let other : q ≢ p = grind (arith, nat_tests, h) in
    ap (λ (chain : Chain). map bare (levels_of y.store y.locks chain q)) (moved.chains q other)
    ∙ others_same p q x.store.ram y.store.ram (held x.locks) (held y.locks) (chain_of x q).levels
    (chain_of x q).undo (objects_of x.store).things (objects_of y.store).things
    other (few_levels x r q (nat_lt q 16) refl) (λ d. moved.elsewhere.others q d other) moved.elsewhere.memory
    ∙ sym (ap (λ b. cond b (map bare c.levels) (levels_at x q)) h)

-- the kernel in place after a move
pub placed_moved : {C B M : Type 0} {P : _} (x y : Running C B M P) (p : ℕ) (c : Config) → IsRunning x → Moved x y p →
    call_of y.store y.locks (chain_of y p) p ≡ c → placed_of y ≡ come_to p c (placed_of x)
placed_moved x y p c r moved is =
    let z = placed_of y in
    let o = placed_of x in
    ap (λ (v : World). record z { world = v }) moved.elsewhere.world
    ∙ ap (λ (i : ImageTable). record z { world = o.world; images = i }) (ap table_of moved.images)
    ∙ ap (λ (s : Objects). record z { world = o.world; images = o.images; objects = s }) (ap (λ (f : Config). f.now) is)
    ∙ ap (λ (n : ℕ). record z { world = o.world; images = o.images; objects = c.now; clock = n }) moved.clock
    ∙ ap (λ (calls : ℕ → Option PlacedCall). record z {
      world = o.world;
      images = o.images;
      objects = c.now;
      clock = o.clock;
      call = calls;
    })
    (fun_ext (λ q. ap (option_map call_in_place) (moved.calls q)))
    ∙ ap (λ (levels : ℕ → List PlacedLevel). record z {
      world = o.world;
      images = o.images;
      objects = c.now;
      clock = o.clock;
      call = o.call;
      levels = levels;
    })
    (fun_ext (λ q. levels_moved x y p c r moved is q (q == p) refl))
    ∙ ap (λ (es : List Waiter). record z {
      world = o.world;
      images = o.images;
      objects = c.now;
      clock = o.clock;
      call = o.call;
      levels = at p (map bare c.levels) o.levels;
      order = es;
    }) (ap order_of moved.order)

-- ---- a list of flights in which one chain changed

pub calls_of_chain : (fs : List Flight) (p : ℕ) (c : Chain) → p < length fs → (q : ℕ) →
    (flight_of (slice_set fs p (record (flight_of fs p) { chain = c })) q).call ≡ (flight_of fs q).call
calls_of_chain fs p c h q = grind (arith, nat_tests, common_steps)

pub chains_of_chain : (fs : List Flight) (p : ℕ) (c : Chain) → p < length fs → (q : ℕ) → q ≢ p →
    (flight_of (slice_set fs p (record (flight_of fs p) { chain = c })) q).chain ≡ (flight_of fs q).chain
chains_of_chain fs p c h q other = grind (arith, nat_tests, common_steps, other)

pub chain_of_chain : (fs : List Flight) (p : ℕ) (c : Chain) → p < length fs →
    (flight_of (slice_set fs p (record (flight_of fs p) { chain = c })) p).chain ≡ c
chain_of_chain fs p c h = grind (arith, nat_tests, common_steps)

still_long : {A : Type 0} (fs gs : List A) (p : ℕ) (v : A) → gs ≡ slice_set fs p v → length gs ≡ length fs
still_long fs gs p v is = grind (arith, common_steps, is)

-- ---- a move of one chain

-- the chain after the move
pub chain_by : {C B M : Type 0} {P : _} (x y : Running C B M P) (p : ℕ) (fl : Flight) (ch : Chain) →
    length x.calls.items ≡ 16 → p < 16 →
    fl ≡ flight_of x.calls.items p →
    y.calls.items ≡ slice_set x.calls.items p (record { call = fl.call; chain = ch }) →
    chain_of y p ≡ ch
chain_by x y p fl ch n small fl_is is =
    ap (λ fs. (flight_of fs p).chain) (is ∙ ap (λ (f : Flight). slice_set x.calls.items p
    (record { call = f.call; chain = ch })) fl_is)
    ∙ chain_of_chain x.calls.items p ch (omega (arith, n, small))

-- what was moved
pub moved_by : {C B M : Type 0} {P : _} (x y : Running C B M P) (p : ℕ) (fl : Flight) (ch : Chain) →
    length x.calls.items ≡ 16 → p < 16 →
    fl ≡ flight_of x.calls.items p → y.calls.items ≡ slice_set x.calls.items p (record { call = fl.call; chain = ch }) →
    IsElsewhereSame x.store y.store x.locks y.locks p →
    IsPlaced y.store y.locks p ch.levels ch.undo →
    AreInside (table_of y.images) (objects_of y.store).accounts p ch.levels →
    ImagesAreLoaded (table_of y.images) (objects_of y.store).accounts → y.images ≡ x.images →
    y.clock ≡ x.clock → y.order ≡ x.order → Moved x y p
moved_by x y p fl ch n small fl_is is elsewhere placed inside loaded images clock order =
    let within : p < length x.calls.items = omega (arith, n, small) in
    let whole : y.calls.items ≡ slice_set x.calls.items p (record (flight_of x.calls.items p) { chain = ch }) =
    is ∙ ap (λ (f : Flight). slice_set x.calls.items p (record { call = f.call; chain = ch })) fl_is in
    let own : chain_of y p ≡ ch = chain_by x y p fl ch n small fl_is is in
    record {
      elsewhere = elsewhere;
      placed = subst (λ (chain : Chain). IsPlaced y.store y.locks p chain.levels chain.undo) (sym own) placed;
      inside =
          subst (λ (chain : Chain). AreInside (table_of y.images)
          (objects_of y.store).accounts p chain.levels) (sym own) inside;
      loaded = loaded;
      calls = λ q. ap (λ fs. (flight_of fs q).call) whole ∙ calls_of_chain x.calls.items p ch within q;
      chains = λ q other. ap (λ fs. (flight_of fs q).chain) whole ∙ chains_of_chain x.calls.items p ch within q other;
      sixteen = still_long x.calls.items y.calls.items p (record (flight_of x.calls.items p) { chain = ch }) whole;
      images = images;
      clock = clock;
      order = order;
    }

-- the config to which it came, where the chain before it was that of p
pub came_by : {C B M : Type 0} {P : _} (x : Running C B M P) (p : ℕ) (fl : Flight) (f : Config →
    Outcome) (said : Micro) (c : Config) →
    fl ≡ flight_of x.calls.items p → came (f (call_of x.store x.locks fl.chain p)) ≡ (said, c) →
    came (f (placed_config (placed_of x) p)) ≡ (said, c)
came_by x p fl f said c fl_is step =
    ap (λ (e : Config). came (f e)) (config_in_place x p)
    ∙ sym (ap (λ (l : Flight). came (f (call_of x.store x.locks l.chain p))) fl_is) ∙ step

-- what was said, and the kernel in place
pub said_by : (o : Outcome) (said : Micro) (c : Config) → came o ≡ (said, c) → said ≡ o.said
said_by o said c h = sym (ap (λ (z : Micro × Config). z.0) h)

-- what an answer gives, where the chain that gave it was that of p
pub answer_by : {C B M : Type 0} {P : _} (x : Running C B M P) (p : ℕ) (fl : Flight) (said : Micro)
    (ram : List ℕ) → fl ≡ flight_of x.calls.items p →
    HasAnswer said ram p (levels_of x.store x.locks fl.chain p) → HasAnswer said ram p (placed_levels (placed_of x) p)
answer_by x p fl said ram is gives =
    subst (λ (ls : List Level). HasAnswer said ram p ls)
    (ap (λ (l : Flight). levels_of x.store x.locks l.chain p) is
    ∙ sym (ap (λ (c : Config). c.levels) (config_in_place x p))) gives

pub config_by : {C B M : Type 0} {P : _} (x y : Running C B M P) (p : ℕ) (ch : Chain) (o : Outcome)
    (said : Micro) → IsRunning x → Moved x y p →
    chain_of y p ≡ ch → came o ≡ (said, call_of y.store y.locks ch p) → placed_of y ≡ come_to p o.config (placed_of x)
config_by x y p ch o said r moved own h =
    placed_moved x y p o.config r moved
    (ap (λ (chain : Chain). call_of y.store y.locks chain p) own ∙ sym (ap (λ (z : Micro × Config). z.1) h))

-- a flight that was found at a place, whatever stands for none
pub any_default : {A : Type 0} (xs : List A) (i : ℕ) (d e : A) → i < length xs →
    slice_index_or xs i d ≡ slice_index_or xs i e
any_default [] i d e h = absurd (omega (arith, h))
any_default (x ∷ xs) zero d e h = refl
any_default (x ∷ xs) (suc i) d e h = any_default xs i d e (omega (arith, h))

pub fetched : (fs : List Flight) (p : ℕ) (f : Flight) → length fs ≡ 16 → p < 16 →
    f ≡ slice_index_or fs p f → f ≡ flight_of fs p
fetched fs p f n small is = is ∙ any_default fs p f no_flight (omega (arith, n, small))

-- a call in place goes on from its chain
pub in_place_of : {C B M : Type 0} {P : _} (x : Running C B M P) (p : ℕ) (f : Flight) →
    IsRunning x → p < 16 → f ≡ flight_of x.calls.items p →
    IsInPlace x.store x.locks (table_of x.images) p f.chain.levels f.chain.undo
in_place_of x p f r small is =
    subst (λ (l : Flight). IsInPlace x.store x.locks
    (table_of x.images) p l.chain.levels l.chain.undo) (sym is)
    (record { placed = r.placed p small; inside = r.inside p small; loaded = r.loaded })
