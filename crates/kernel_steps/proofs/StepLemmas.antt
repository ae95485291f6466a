-- What a step of a call, and each of its parts, came to.
use Rattle.std.proofs.Common.{append-nil, ◌≡◌, ◌≢◌, ℕ, zero, suc, ◌≤◌, ◌<◌, ◌==◌, Bool, true}
use Rattle.std.proofs.Common.{false, cond, nat_lt, List, [], ◌∷◌, ◌++◌, map, length, refl, ap, sym}
use Rattle.std.proofs.Common.{subst, ◌∙◌, arith, Option, Some, None}
use Rattle.std.specs.Prelude.{option_map, ⊤}
use Rattle.std.proofs.lemmas.Bool.{eqb-true}
use Rattle.std.proofs.lemmas.Bool.Decides.{nat_tests}
use Rattle.std.proofs.Math.Path.{fun_ext}
use Rattle.kernel_model.specs.declared.Micro.{Micro}
use Rattle.kernel_model.specs.declared.Note.{Note}
use Rattle.kernel_model.specs.declared.Note.TheVariants.{Dropped}
use Rattle.kernel_model.specs.World.{Blocks}
use Rattle.kernel_model.specs.Objects.{Things, at}
use Rattle.kernel_model.specs.Meaning.{Meaning, Answer, Piece}
use Rattle.kernel_model.specs.Levels.{Level, Config, Outcome}
use Rattle.kernel_model.specs.Locks.{LockTable}
use Rattle.call_pieces.specs.Works.{answer_seen}
use Rattle.graft_levels.specs.UndoLevels.{Logged, innermost}
use Rattle.graft_levels.specs.Masks.{held}
use Rattle.call_pieces.specs.Disks.{DiskSeen}
use Rattle.call_pieces.specs.Stores.{world_of_store, objects_of, SegmentsStay}
use Rattle.graft_levels.specs.Slots.{table_of}
use Rattle.graft_levels.specs.declared.GraftLevel.{GraftLevel}
use Rattle.graft_levels.specs.declared.Chain.{Chain}
use Rattle.graft_levels.specs.Calls.{IsPlaced, AreInside}
use Rattle.graft_levels.specs.Chains.{put_back, levels_in, outer, HasAnswer}
use Rattle.placed_laws.specs.Owners.{AreOwn, AreOfOwner}
use Rattle.placed_laws.specs.Placed.{PlacedCall, PlacedLevel, PlacedRun, bare, placed_levels}
use Rattle.placed_laws.specs.PlacedSteps.{placed_finish, placed_finish_on, placed_noted}
use Rattle.placed_laws.specs.PlacedSteps.{placed_after_outcome, placed_outcome, with_config}
use Rattle.running_kernel.specs.declared.running.InFlight.{InFlight}
use Rattle.running_kernel.specs.declared.running.Running.{Running}
use Rattle.kernel_steps.specs.Moves.{come_to, Moved}
use Rattle.running_kernel.specs.Owned.{AreOwned}
use Rattle.kernel_steps.specs.Steps.{finishes, after_drop, after_said, answer_of_drop, answer_said}
use Rattle.kernel_steps.specs.Steps.{IsOfOne, StepsAlone, Stepped, StepDone}
use Rattle.kernel_steps.specs.Moments.{kernel_moment}
use Rattle.kernel_steps.specs.Faults.{fault_notes}
use Rattle.kernel_steps.specs.Refines.{Adds, PieceDone}
use Rattle.running_kernel.specs.Views.{placed_of, flight_of, chain_of, no_chain, levels_at}
use Rattle.running_kernel.specs.Views.{call_in_place, run_of, IsRunning}
use Rattle.kernel_steps.proofs.CallLemmas.{with_call, call_of_changed, chain_of_changed, still_sixteen}
use Rattle.kernel_steps.specs.Composing.{adds_none, did_nothing, did_as, did_purely, did_then}
use Rattle.kernel_steps.specs.Composing.{reaches_as, reaches_behind, reaches_purely}
use Rattle.running_kernel.specs.WholeBlocks.{some_blocks, blocks_are_whole}
use Rattle.kernel_steps.proofs.FinishLemmas.{placed_finished, finish_did, finish_reaches}
use Rattle.kernel_steps.proofs.MoveLemmas.{few_levels}
use Rattle.running_kernel.proofs.PlainLemmas.{no_level}

-- ---- a piece

-- a chain without levels has no records
pub none_in : {C B M : Type 0} {P : _} (x : Running C B M P) (p : ℕ) →
    IsPlaced x.store x.locks p (chain_of x p).levels (chain_of x p).undo →
    (chain_of x p).levels ≡ [] → chain_of x p ≡ no_chain
none_in x p placed none =
    ap (λ gs. record { levels = gs; undo = (chain_of x p).undo }) none
    ∙ ap (λ log. record { levels = []; undo = log }) (no_level (chain_of x p).undo (placed.as_many ∙ ap length none))

-- the call of another process
other_call : (v w : Option InFlight) (p q : ℕ) → q ≢ p → cond (q == p) v w ≡ w
other_call v w p q other = grind (arith, nat_tests, other)

own_call : (v w : Option InFlight) (p : ℕ) → cond (p == p) v w ≡ v
own_call v w p = grind (arith, nat_tests)

pub finish_done : {C B M : Type 0} {P : _} (m : Meaning) (x y : Running C B M P) (p : ℕ)
    (c : PlacedCall) (f : InFlight) (v : Option InFlight) (answer : Option Answer)
    (kept kept_new : List Note) (d e : DiskSeen) →
    StepsAlone x p → (chain_of x p).levels ≡ [] → p < 16 →
    (flight_of x.calls.items p).call ≡ Some f → call_in_place f ≡ c →
    y.calls.items ≡ with_call x.calls.items p v → y.locks ≡ x.locks → y.images ≡ x.images →
    y.clock ≡ x.clock → y.order ≡ x.order →
    world_of_store y.store ≡ world_of_store x.store → SegmentsStay x.store.ram y.store.ram →
    ((g : InFlight) → v ≡ Some g → g.work.caller ≡ f.work.caller) →
    PieceDone m (world_of_store x.store) f.work.caller (call_in_place f)
    (option_map call_in_place v) answer (kernel_moment (objects_of x.store) kept d)
    (kernel_moment (objects_of y.store) kept_new e) →
    StepDone (finishes m p c answer) p (kernel_moment x kept d) (kernel_moment y kept_new e)
finish_done m x y p c f v answer kept kept_new d e alone none small is c_is calls locks images clock
    order world memory caller_is done =
    let within : p < length x.calls.items = omega (arith, alone.sixteen, small) in
    let nothing = none_in x p alone.placed none in
    let here = placed_finished x y p v within nothing calls locks memory world images clock order in
    let whole : PieceDone m (world_of_store x.store) p c (option_map call_in_place v)
    answer (kernel_moment (objects_of x.store) kept d)
    (kernel_moment (objects_of y.store) kept_new e) =
    subst (λ b. PieceDone m (world_of_store x.store) p b (option_map call_in_place v) answer
    (kernel_moment (objects_of x.store) kept d) (kernel_moment (objects_of y.store) kept_new e))
    c_is
    (subst (λ q. PieceDone m (world_of_store x.store) q (call_in_place f)
    (option_map call_in_place v) answer (kernel_moment (objects_of x.store) kept d)
    (kernel_moment (objects_of y.store) kept_new e)) (alone.caller_is f is) done) in
    let chains : (q : ℕ) → chain_of y q ≡ chain_of x q = λ q.
    ap (λ fs. (flight_of fs q).chain) calls ∙ chain_of_changed x.calls.items p v within q in
    let own : chain_of y p ≡ no_chain = chains p ∙ nothing in
    let call_then : (q : ℕ) →
    (flight_of y.calls.items q).call ≡ at p v (λ r. (flight_of x.calls.items r).call) q =
    λ q. ap (λ fs. (flight_of fs q).call) calls ∙ call_of_changed x.calls.items p v within q in
    record {
      refines =
          finish_did m (placed_of x) (placed_of y) p c (objects_of y.store)
          (option_map call_in_place v) answer kept kept_new d e here whole;
      reaches =
          finish_reaches m (placed_of x) (placed_of y) p c (objects_of y.store)
          (option_map call_in_place v) answer kept kept_new d e here whole;
      stepped = record {
        world = world;
        sixteen = still_sixteen x.calls.items p v y.calls.items calls;
        caller_is =
            λ g there.
            caller_is g (sym (call_then p ∙ own_call v (flight_of x.calls.items p).call p) ∙ there)
            ∙ alone.caller_is f is;
        calls = λ q other. call_then q ∙ other_call v (flight_of x.calls.items q).call p q other;
        chains = λ q other. chains q;
        locks = λ q d other. ap (λ t. held t q d) locks;
        placed = subst (λ (chain : Chain). IsPlaced y.store y.locks p chain.levels chain.undo) (sym own)
            (record {
              process = small;
              few = omega arith;
              as_many = refl;
              unheld =
                  λ d o le. ap (λ t. held t p d o) locks ∙ alone.placed.unheld d o
                  (subst (λ n. n ≤ d) (sym (ap length none)) (omega arith));
              levels = tt;
              undoable = tt;
            });
        inside =
            subst (λ (chain : Chain). AreInside (table_of y.images)
            (objects_of y.store).accounts p chain.levels) (sym own) tt;
        images = images;
        clock = clock;
        order = order;
      };
      own = subst IsOfOne (sym own) (record { owner = 0; own = tt });
    }

-- ---- what was said

-- nothing is left to do
stepped_same : {C B M : Type 0} {P : _} (x : Running C B M P) (p : ℕ) → StepsAlone x p → Stepped x x p
stepped_same x p alone =
    record {
      world = refl;
      sixteen = refl;
      caller_is = alone.caller_is;
      calls = λ q other. refl;
      chains = λ q other. refl;
      locks = λ q d other. refl;
      placed = alone.placed;
      inside = alone.inside;
      images = refl;
      clock = refl;
      order = refl;
    }

pub nothing_done : {C B M : Type 0} {P : _} (x : Running C B M P) (p : ℕ) (kept : List Note)
    (d : DiskSeen) → StepsAlone x p →
    StepDone (λ r. r) p (kernel_moment x kept d) (kernel_moment x kept d)
nothing_done x p kept d alone =
    record {
      refines = did_nothing (placed_of x) kept d;
      reaches =
          reaches_purely (λ r. r) (placed_of x) (placed_of x) [] some_blocks
          (blocks_are_whole (world_of_store x.store))
          (λ blocks notes io. nil_right blocks notes io);
      stepped = stepped_same x p alone;
      own = alone.own;
    }
  where
    nil_right : (blocks : Blocks) (notes : List Note) (io : List Bool) →
        run_of (placed_of x) blocks notes io ≡ run_of (placed_of x) blocks (notes ++ []) io
    nil_right blocks notes io = ap (λ ns. run_of (placed_of x) blocks ns io) (sym (append-nil notes))

-- a note, and then this
pub noted_done : {C B M : Type 0} {P : _} (g : PlacedRun → PlacedRun) (x y : Running C B M P)
    (p : ℕ) (note : Note) (kept mid kept_new : List Note) (d e : DiskSeen) →
    Adds (note ∷ []) kept mid → fault_notes (note ∷ []) ≡ 0 →
    StepDone g p (kernel_moment x mid d) (kernel_moment y kept_new e) → StepDone
    (λ r. g (placed_noted note r)) p (kernel_moment x kept d) (kernel_moment y kept_new e)
noted_done g x y p note kept mid kept_new d e adds none h =
    let o = placed_of x in
    record {
      refines =
          did_then (placed_noted note) g o o (placed_of y) kept mid kept_new d d e
          (did_purely (placed_noted note) o o kept mid (note ∷ []) d (λ blocks notes io. refl) adds
          none) h.refines;
      reaches =
          reaches_behind (placed_noted note) g o o (placed_of y) (note ∷ []) refl
          (λ blocks notes io. refl) h.reaches;
      stepped = h.stepped;
      own = h.own;
    }

-- ---- a move, and what it leaves to do

-- what an instruction, or the drop of a level, can say
abbrev pub EndsAs : Micro → List Level → Type 0
EndsAs Micro.Went ls = ⊤
EndsAs (Micro.Blocked object holder by_user) ls = ⊥
EndsAs (Micro.Completed answer) ls = ls ≡ []
EndsAs (Micro.Dropped d q pt cause) ls = length ls ≡ d

-- the place of p changed twice
twice : {A : Type 0} (p : ℕ) (a b : A) (f : ℕ → A) → at p a (at p b f) ≡ at p a f
twice p a b f =
    fun_ext (λ q. elim (q == p) as (λ t. cond t a (cond t b (f q)) ≡ cond t a (f q)) [
      | true ↦ refl
      | false ↦ refl
    ])

-- the place of p
pub same_place : {A : Type 0} (p : ℕ) (a : A) (f : ℕ → A) → at p a f p ≡ a
same_place p a f =
    elim (p == p) as (λ b. b ≡ true → cond b a (f p) ≡ a) [
      | true ↦ λ h. refl
      | false ↦ λ h. grind (arith, h)
    ] (grind (arith, nat_tests))

-- the piece finishes on the config as it does behind it
finish_behind : (m : Meaning) (p : ℕ) (c : PlacedCall) (f : Config) (answer : Option Answer) (r :
    PlacedRun) → placed_finish_on m p c f.now answer r ≡ finishes m p c answer (with_config p f r)
finish_behind m p c f answer r =
    let q : Piece = m.piece r.placed.world r.placed.images f.now r.blocks p c.stage answer r.io in
    ap (λ ls. record (placed_finish p c q r) {
      placed =
          record ((placed_finish p c q r).placed) { levels = ls };
    })
    (sym (twice p [] (map bare f.levels) r.placed.levels))

outcome_by : (m : Meaning) (ram : List ℕ) (p : ℕ) (c : PlacedCall) (f : Config) (r : PlacedRun)
    (s : Micro) → EndsAs s f.levels → HasAnswer s ram p (placed_levels r.placed p) →
    placed_after_outcome m p c f s r ≡ after_said m ram p c s (with_config p f r)
outcome_by m ram p c f r Micro.Went ends has = refl
outcome_by m ram p c f r (Micro.Blocked object holder by_user) ends has = absurd ends
outcome_by m ram p c f r (Micro.Completed answer) ends has =
    ap (λ (a : Answer). placed_finish_on m p c f.now (Some a) r) (has answer refl)
    ∙ finish_behind m p c f (answer_seen ram p (Some answer)) r
outcome_by m ram p c f r (Micro.Dropped zero q pt cause) ends has =
    finish_behind m p c f None (placed_noted (Dropped c.number q pt cause) r)
outcome_by m ram p c f r (Micro.Dropped (suc d) q pt cause) ends has = refl

pub outcome_behind : (m : Meaning) (ram : List ℕ) (p : ℕ) (c : PlacedCall) (o : Outcome) (r :
    PlacedRun) → EndsAs o.said o.config.levels → HasAnswer o.said ram p (placed_levels r.placed p) →
    placed_outcome m p c o r ≡ after_said m ram p c o.said (with_config p o.config r)
outcome_behind m ram p c o r ends has = outcome_by m ram p c o.config r o.said ends has

-- with an answer the call has no level
pub ends_bare : (s : Micro) (ls : List Level) (answer : Option (List ℕ)) → EndsAs s ls →
    answer_said s ≡ Some answer → ls ≡ []
ends_bare Micro.Went ls answer ends h = grind (arith, h)
ends_bare (Micro.Blocked object holder by_user) ls answer ends h = absurd ends
ends_bare (Micro.Completed a) ls answer ends h = ends
ends_bare (Micro.Dropped zero q pt cause) ls answer ends h = no_level ls ends
  where
    no_level : (ls : List Level) → length ls ≡ 0 → ls ≡ []
    no_level [] e = refl
    no_level (l ∷ ls) e = absurd (omega (arith, e))
ends_bare (Micro.Dropped (suc d) q pt cause) ls answer ends h = grind (arith, h)

-- ---- the levels of a chain

no_levels : (p : ℕ) (ram : List ℕ) (t : LockTable) (gs : List GraftLevel) (log : List (List Logged))
    (w : Things) → map bare (levels_in p ram t gs log w) ≡ [] → gs ≡ []
no_levels p ram t [] log w h = refl
no_levels p ram t (g ∷ gs) log w h = grind (arith, h)

-- a chain whose levels are none has none
pub none_of_bare : {C B M : Type 0} {P : _} (x : Running C B M P) (p : ℕ) → levels_at x p ≡ [] →
    (chain_of x p).levels ≡ []
none_of_bare x p h =
    no_levels p x.store.ram (held x.locks) (chain_of x p).levels (chain_of x p).undo
    (objects_of x.store).things h

-- what two equal lists begin with
same_first : {A : Type 0} (a b : A) (xs ys : List A) → a ∷ xs ≡ b ∷ ys → (a ≡ b) × (xs ≡ ys)
same_first a b xs ys h = (grind (arith, h), grind (arith, h))

-- whose levels they are by those without what they found
owned_by : (q p : ℕ) (ram : List ℕ) (t : LockTable) (gs : List GraftLevel)
    (log : List (List Logged)) (w : Things) (ls : List Level) →
    map bare (levels_in p ram t gs log w) ≡ map bare ls → AreOfOwner q ls → AreOwned q gs log
owned_by q p ram t [] log w ls h own = tt
owned_by q p ram t (g ∷ gs) log w [] h own = grind (arith, h)
owned_by q p ram t (g ∷ gs) log w (l ∷ ls) h own =
    let both = same_first _ _ _ _ h in (
      ap (λ (b : PlacedLevel). b.owner) both.0 ∙ own.0,
      subst (AreOwn q) (sym (ap (λ (b : PlacedLevel). b.records) both.0)) own.1,
      owned_by q p ram t gs (outer log) (put_back (innermost log) w) ls both.1 own.2,
    )

pub of_one : {C B M : Type 0} {P : _} (x : Running C B M P) (p q : ℕ) (ls : List Level) →
    levels_at x p ≡ map bare ls → AreOfOwner q ls → IsOfOne (chain_of x p)
of_one x p q ls h own =
    record {
      owner = q;
      own = owned_by q p x.store.ram (held x.locks) (chain_of x p).levels (chain_of x p).undo
          (objects_of x.store).things ls h own;
    }

-- and the other way round
pub owner_of : (q p : ℕ) (ram : List ℕ) (t : LockTable) (gs : List GraftLevel) (log : List
    (List Logged)) (w : Things) → AreOwned q gs log → AreOfOwner q (levels_in p ram t gs log w)
owner_of q p ram t [] log w own = tt
owner_of q p ram t (g ∷ gs) log w own =
    (own.0, own.1, owner_of q p ram t gs (outer log) (put_back (innermost log) w) own.2)

-- ---- a move

-- what must hold of p's call for the rest of its step
pub alone_at : {C B M : Type 0} {P : _} (x : Running C B M P) (p : ℕ) → IsRunning x → p < 16 → StepsAlone x p
alone_at x p r small =
    record {
      sixteen = r.sixteen;
      few = λ q. few_levels x r q (nat_lt q 16) refl;
      caller_is = λ f is. r.callers p f is;
      placed = r.placed p small;
      inside = r.inside p small;
      own = record { owner = r.owner p; own = r.own p small };
    }

few_moved : {C B M : Type 0} {P : _} (x y : Running C B M P) (p : ℕ) → IsRunning x → Moved x y p →
    (q : ℕ) (b : Bool) → (q == p) ≡ b → length (chain_of y q).levels ≤ 4
few_moved x y p r moved q true h = subst (λ k. length (chain_of y k).levels ≤ 4) (sym (eqb-true q p h)) moved.placed.few
few_moved x y p r moved q false h =
    subst (λ (c : Chain). length c.levels ≤ 4) (sym (moved.chains q (grind (arith, nat_tests, h))))
    (few_levels x r q (nat_lt q 16) refl)

pub alone_moved : {C B M : Type 0} {P : _} (x y : Running C B M P) (p : ℕ) → IsRunning x → p < 16 →
    Moved x y p → IsOfOne (chain_of y p) → StepsAlone y p
alone_moved x y p r small moved own =
    record {
      sixteen = moved.sixteen ∙ r.sixteen;
      few = λ q. few_moved x y p r moved q (q == p) refl;
      caller_is = λ f is. r.callers p f (sym (moved.calls p) ∙ is);
      placed = moved.placed;
      inside = moved.inside;
      own = own;
    }

stepped_moved : {C B M : Type 0} {P : _} (x y z : Running C B M P) (p : ℕ) → Moved x y p → Stepped y z p → Stepped x z p
stepped_moved x y z p moved step =
    record {
      world = step.world ∙ moved.elsewhere.world;
      sixteen = step.sixteen ∙ moved.sixteen;
      caller_is = step.caller_is;
      calls = λ q other. step.calls q other ∙ moved.calls q;
      chains = λ q other. step.chains q other ∙ moved.chains q other;
      locks = λ q d other. step.locks q d other ∙ moved.elsewhere.others q d other;
      placed = step.placed;
      inside = step.inside;
      images = step.images ∙ moved.images;
      clock = step.clock ∙ moved.clock;
      order = step.order ∙ moved.order;
    }

-- a move to a config, and then this
pub moved_done : {C B M : Type 0} {P : _} (f : Config) (g : PlacedRun → PlacedRun)
    (x y z : Running C B M P) (p : ℕ) (kept kept_new : List Note) (d e : DiskSeen) →
    Moved x y p → placed_of y ≡ come_to p f (placed_of x) →
    StepDone g p (kernel_moment y kept d) (kernel_moment z kept_new e) → StepDone
    (λ r. g (with_config p f r)) p (kernel_moment x kept d) (kernel_moment z kept_new e)
moved_done f g x y z p kept kept_new d e moved come h =
    let o = placed_of x in
    let same : (blocks : Blocks) (notes : List Note) (io : List Bool) →
    with_config p f (run_of o blocks notes io) ≡ run_of (placed_of y) blocks (notes ++ []) io =
    λ blocks notes io. ap (λ w. run_of w blocks notes io) (sym come)
    ∙ ap (λ ns. run_of (placed_of y) blocks ns io) (sym (append-nil notes)) in
    record {
      refines = did_then (with_config p f) g o (placed_of y) (placed_of z) kept kept kept_new d d e
          (did_purely (with_config p f) o (placed_of y) kept kept [] d same (adds_none kept) refl) h.refines;
      reaches =
          reaches_behind (with_config p f) g o (placed_of y) (placed_of z) [] moved.elsewhere.world
          same h.reaches;
      stepped = stepped_moved x y z p moved h.stepped;
      own = h.own;
    }

-- another change that comes to the same from here
pub done_as : {C B M : Type 0} {P : _} (f g : PlacedRun → PlacedRun) (x y : Running C B M P) (p : ℕ)
    (kept kept_new : List Note) (d e : DiskSeen) →
    ((blocks : Blocks) (notes : List Note) (io : List Bool) →
    f (run_of (placed_of x) blocks notes io) ≡ g (run_of (placed_of x) blocks notes io)) →
    StepDone g p (kernel_moment x kept d) (kernel_moment y kept_new e) →
    StepDone f p (kernel_moment x kept d) (kernel_moment y kept_new e)
done_as f g x y p kept kept_new d e same h =
    record {
      refines = did_as f g (placed_of x) (placed_of y) kept kept_new d e same h.refines;
      reaches = reaches_as f g (placed_of x) (placed_of y) same h.reaches;
      stepped = h.stepped;
      own = h.own;
    }

-- the call that stands in place is one in flight
pub record CallThere (o : Option InFlight) (c : PlacedCall) : Type 0 where
  pub flight : InFlight
  pub is : o ≡ Some flight
  pub stands : call_in_place flight ≡ c

pub call_there : (o : Option InFlight) (c : PlacedCall) → option_map call_in_place o ≡ Some c → CallThere o c
call_there None c h = grind (arith, h)
call_there (Some f) c h = record { flight = f; is = refl; stands = same_one (call_in_place f) c h }
  where
    same_one : (a b : PlacedCall) → Some a ≡ Some b → a ≡ b
    same_one a b h = cc

-- ---- the drop of a level

pub drop_noted : {C B M : Type 0} {P : _} (m : Meaning) (x : Running C B M P) (p d : ℕ)
    (c : PlacedCall) (note : Note) (kept mid : List Note) (e : DiskSeen) → 0 < d →
    Adds (note ∷ []) kept mid → fault_notes (note ∷ []) ≡ 0 → StepsAlone x p → StepDone (λ r.
    after_drop m p c d (placed_noted note r)) p (kernel_moment x kept e) (kernel_moment x mid e)
drop_noted m x p zero c note kept mid e h adds none alone = absurd (omega (arith, h))
drop_noted m x p (suc d) c note kept mid e h adds none alone =
    noted_done (λ r. r) x x p note kept mid mid e e adds none (nothing_done x p mid e alone)

pub drop_finished : {C B M : Type 0} {P : _} (m : Meaning) (x y : Running C B M P) (p d : ℕ)
    (c : PlacedCall) (note : Note) (kept mid kept_new : List Note) (e l : DiskSeen) → d ≤ 0 →
    Adds (note ∷ []) kept mid → fault_notes (note ∷ []) ≡ 0 →
    StepDone (finishes m p c None) p (kernel_moment x mid e) (kernel_moment y kept_new l) →
    StepDone (λ r. after_drop m p c d (placed_noted note r)) p (kernel_moment x kept e)
    (kernel_moment y kept_new l)
drop_finished m x y p zero c note kept mid kept_new e l h adds none done =
    noted_done (finishes m p c None) x y p note kept mid kept_new e l adds none done
drop_finished m x y p (suc d) c note kept mid kept_new e l h adds none done = absurd (omega (arith, h))

-- with level 0 the piece finishes by default
pub answer_zero : (d : ℕ) → d ≤ 0 → answer_of_drop d ≡ Some None
answer_zero zero h = refl
answer_zero (suc d) h = absurd (omega (arith, h))

-- by what was said
pub said_done : {C B M : Type 0} {P : _} (m : Meaning) (ram : List ℕ) (x y : Running C B M P)
    (p : ℕ) (c : PlacedCall) (s t : Micro) (kept kept_new : List Note) (d e : DiskSeen) → s ≡ t →
    StepDone (after_said m ram p c t) p (kernel_moment x kept d) (kernel_moment y kept_new e) →
    StepDone (after_said m ram p c s) p (kernel_moment x kept d) (kernel_moment y kept_new e)
said_done m ram x y p c s t kept kept_new d e is h =
    subst (λ u. StepDone (after_said m ram p c u) p (kernel_moment x kept d)
    (kernel_moment y kept_new e)) (sym is) h

-- the number of a call that stands in place
pub number_is : (o : Option InFlight) (c : PlacedCall) (n : ℕ) →
    Some n ≡ option_map (λ (f : InFlight). f.number) o →
    option_map call_in_place o ≡ Some c → n ≡ c.number
number_is None c n h is = grind (arith, h)
number_is (Some f) c n h is = same_one n f.number h ∙ ap number_or (is)
  where
    same_one : (a b : ℕ) → Some a ≡ Some b → a ≡ b
    same_one a b e = cc

    number_or : Option PlacedCall → ℕ
    number_or None = 0
    number_or (Some b) = b.number

-- what two calls in place are equal by
same_placed : (a b : PlacedCall) → Some a ≡ Some b → a ≡ b
same_placed a b h = cc

-- the call in place is that of the one in flight
pub same_call : (f : InFlight) (c : PlacedCall) → option_map call_in_place (Some f) ≡ Some c → call_in_place f ≡ c
same_call f c h = same_placed (call_in_place f) c h
