-- The parts of a step: an instruction, the drop of a level, and a piece.
use Rattle.std.proofs.Common.{◌≡◌, ℕ, zero, suc, ◌<◌, true, List, [], ◌∷◌, map, length, refl, ap}
use Rattle.std.proofs.Common.{sym, subst, ◌∙◌, arith, Option, Some, None}
use Rattle.std.specs.Prelude.{option_map}
use Rattle.kernel_model.specs.declared.Cause.{Cause}
use Rattle.kernel_model.specs.declared.Micro.{Micro}
use Rattle.kernel_model.specs.declared.Note.{Note}
use Rattle.kernel_model.specs.GraftStep.{micro}
use Rattle.kernel_model.specs.Meaning.{Meaning, Stage, Answer}
use Rattle.kernel_model.specs.Laws.{IsReady}
use Rattle.kernel_model.specs.Levels.{Level, Config, Outcome, drop_level}
use Rattle.call_pieces.specs.Works.{answer_seen, stage_of}
use Rattle.graft_levels.specs.Masks.{held}
use Rattle.call_pieces.specs.Disks.{DiskSeen}
use Rattle.call_pieces.specs.Stores.{world_of_store, objects_of}
use Rattle.graft_levels.specs.Slots.{table_of}
use Rattle.graft_levels.specs.Chains.{levels_of, HasAnswer}
use Rattle.placed_laws.specs.Owners.{AreOfOwner, OwnersStay}
use Rattle.placed_laws.specs.Placed.{Placed, PlacedCall, PlacedLevel, PlacedRun, bare, has_some}
use Rattle.placed_laws.specs.Placed.{placed_config, placed_levels}
use Rattle.placed_laws.specs.PlacedSteps.{placed_call_step, placed_outcome, placed_step_by, with_config}
use Rattle.placed_laws.specs.Soundness.{ReadyInPlace}
use Rattle.running_kernel.specs.declared.running.InFlight.{InFlight}
use Rattle.running_kernel.specs.declared.running.Running.{Running}
use Rattle.kernel_steps.specs.Moves.{come_to, Moved}
use Rattle.kernel_steps.specs.Steps.{after_said, answer_said, IsOfOne, StepsAlone, StepDone}
use Rattle.kernel_steps.specs.Moments.{kernel_moment}
use Rattle.running_kernel.specs.Views.{placed_of, flight_of, chain_of, levels_at, call_at}
use Rattle.running_kernel.specs.Views.{call_in_place, run_of, IsRunning, HasAbstraction}
use Rattle.kernel_steps.proofs.EndLemmas.{micro_ends, drop_ends, drop_answer, drop_has_answer, same_inner}
use Rattle.running_kernel.proofs.HinderLemmas.{some_levels}
use Rattle.running_kernel.proofs.ViewLemmas.{config_in_place}
use Rattle.kernel_steps.proofs.StepLemmas.{EndsAs, alone_moved, done_as, ends_bare, moved_done}
use Rattle.kernel_steps.proofs.StepLemmas.{none_of_bare, of_one, outcome_behind, owner_of}
use Rattle.kernel_steps.proofs.StepLemmas.{same_place}
use Rattle.graft_levels.proofs.Views.{level_count}
use Rattle.running_kernel.proofs.PlainLemmas.{no_level}

-- ---- a move to a config

-- the levels of p after it
pub levels_come : {C B M : Type 0} {P : _} (x y : Running C B M P) (p : ℕ) (f : Config) →
    placed_of y ≡ come_to p f (placed_of x) → levels_at y p ≡ map bare f.levels
levels_come x y p f come = ap (λ (z : Placed). z.levels p) come ∙ same_place p (map bare f.levels) (levels_at x)

-- what was said, the piece finishes with it
answer_same : (s t : Micro) (answer : Option (List ℕ)) → s ≡ t → answer_said s ≡ Some answer →
    answer_said t ≡ Some answer
answer_same s t answer is h = sym (ap answer_said is) ∙ h

-- a call whose piece finishes has no level
pub move_ends : {C B M : Type 0} {P : _} (x y : Running C B M P) (p : ℕ) (o : Outcome)
    (said : Micro) (answer : Option (List ℕ)) → placed_of y ≡ come_to p o.config (placed_of x) →
    said ≡ o.said → EndsAs o.said o.config.levels → answer_said said ≡ Some answer → (chain_of y p).levels ≡ []
move_ends x y p o said answer come is ends h =
    none_of_bare y p (levels_come x y p o.config come ∙ ap (map bare)
    (ends_bare o.said o.config.levels answer ends (answer_same said o.said answer is h)))

-- the levels are of one owner where they were
move_owned : {C B M : Type 0} {P : _} (x y : Running C B M P) (p q : ℕ) (f : Config) →
    placed_of y ≡ come_to p f (placed_of x) → AreOfOwner q f.levels → IsOfOne (chain_of y p)
move_owned x y p q f come own = of_one y p q f.levels (levels_come x y p f come) own

-- whose levels the config has
config_owned : {C B M : Type 0} {P : _} (x : Running C B M P) (p : ℕ) (r : IsRunning x) → p < 16 →
    AreOfOwner (r.owner p) (placed_config (placed_of x) p).levels
config_owned x p r small =
    subst (λ (c : Config). AreOfOwner (r.owner p) c.levels) (sym (config_in_place x p))
    (owner_of (r.owner p) p x.store.ram (held x.locks) (chain_of x p).levels (chain_of x p).undo
    (objects_of x.store).things (r.own p small))

-- the piece is ready on what the move left
ready_come : {C B M : Type 0} {P : _} (m : Meaning) (x y : Running C B M P) (p : ℕ) (t : Stage)
    (f : Config) (answer : Option Answer) → Moved x y p → placed_of y ≡ come_to p f (placed_of x) →
    IsReady m (world_of_store x.store) (table_of x.images) f.now p t answer →
    IsReady m (world_of_store y.store) (table_of y.images) (objects_of y.store) p t answer
ready_come m x y p t f answer moved come h =
    subst (λ (z : Placed). IsReady m z.world z.images z.objects p t answer) (sym come) h

-- ---- an instruction

pub micro_alone : {C B M : Type 0} {P : _} → OwnersStay → (x y : Running C B M P) (p : ℕ) →
    IsRunning x → p < 16 → Moved x y p →
    placed_of y ≡ come_to p (micro (world_of_store x.store) (table_of x.images) p
    (placed_config (placed_of x) p)).config (placed_of x) → StepsAlone y p
micro_alone law x y p r small moved come =
    let o : Outcome = micro (world_of_store x.store) (table_of x.images) p (placed_config (placed_of x) p) in
    alone_moved x y p r small moved
    (move_owned x y p (r.owner p) o.config come (law.instructions (world_of_store x.store) (table_of
    x.images) p (r.owner p) (placed_config (placed_of x) p) (config_owned x p r small)))

pub micro_ready : {C B M : Type 0} {P : _} (m : Meaning) → ReadyInPlace m →
    (x y : Running C B M P) (p : ℕ) (f : InFlight) (said : Micro) (answer : Option (List ℕ)) →
    HasAbstraction m (placed_of x) →
    0 < length (chain_of x p).levels → Moved x y p →
    placed_of y ≡ come_to p (micro (world_of_store x.store) (table_of x.images) p
    (placed_config (placed_of x) p)).config (placed_of x) →
    said ≡ (micro (world_of_store x.store) (table_of x.images) p
    (placed_config (placed_of x) p)).said → answer_said said ≡ Some answer →
    HasAnswer said y.store.ram p (placed_levels (placed_of x) p) →
    (flight_of y.calls.items p).call ≡ Some f →
    IsReady m (world_of_store y.store) (table_of y.images) (objects_of y.store) p (stage_of f.work)
    (answer_seen y.store.ram p answer)
micro_ready m ready x y p f said answer abstraction some moved come is h gives there =
    let z = placed_of x in
    let o : Outcome = micro (world_of_store x.store) (table_of x.images) p (placed_config z p) in
    let c : PlacedCall = call_in_place f in
    let call : z.call p ≡ Some c = ap (option_map call_in_place) (sym (moved.calls p) ∙ there) in
    let has : has_some (z.levels p) ≡ true = some_levels p x.store.ram (held x.locks)
    (chain_of x p).levels (chain_of x p).undo (objects_of x.store).things some in
    ready_come m x y p (stage_of f.work) o.config (answer_seen y.store.ram p answer) moved come
    (by_answer o.said answer (answer_same said o.said answer is h) refl
    (λ a e.
    subst (λ (b : Answer). IsReady m (world_of_store x.store)
    (table_of x.images) o.config.now p (stage_of f.work) (Some b)) (gives a (is ∙ e))
    (ready.completed z abstraction.kernel p c a abstraction.stands call has e))
    (ready.lost z abstraction.kernel p c abstraction.stands call has))
  where
    by_answer : (s : Micro) (answer : Option (List ℕ)) → answer_said s ≡ Some answer → (micro
        (world_of_store x.store) (table_of x.images) p (placed_config (placed_of x) p)).said ≡ s →
        ((a : List ℕ) → (micro (world_of_store x.store)
        (table_of x.images) p (placed_config (placed_of x) p)).said ≡ Micro.Completed a →
        IsReady m (world_of_store x.store) (table_of x.images) (micro (world_of_store x.store)
        (table_of x.images) p (placed_config (placed_of x) p)).config.now p (stage_of f.work)
        (answer_seen y.store.ram p (Some a))) →
        IsReady m (world_of_store x.store) (table_of x.images) (micro (world_of_store x.store)
        (table_of x.images) p (placed_config (placed_of x) p)).config.now p
        (stage_of f.work) None →
        IsReady m (world_of_store x.store) (table_of x.images) (micro (world_of_store x.store)
        (table_of x.images) p (placed_config (placed_of x) p)).config.now p (stage_of f.work)
        (answer_seen y.store.ram p answer)
    by_answer Micro.Went answer e s done lost = grind (arith, e)
    by_answer (Micro.Blocked object holder by_user) answer e s done lost = grind (arith, e)
    by_answer (Micro.Completed a) answer e s done lost =
        subst (λ b. IsReady m (world_of_store x.store) (table_of x.images)
        (micro (world_of_store x.store) (table_of x.images) p (placed_config (placed_of x)
        p)).config.now p (stage_of f.work) (answer_seen y.store.ram p b))
        (same_inner (Some a) answer e) (done a s)
    by_answer (Micro.Dropped zero q pt cause) answer e s done lost =
        subst (λ b. IsReady m (world_of_store x.store) (table_of x.images) (micro (world_of_store
        x.store) (table_of x.images) p (placed_config (placed_of x) p)).config.now p
        (stage_of f.work) (answer_seen y.store.ram p b)) (same_inner None answer e) lost
    by_answer (Micro.Dropped (suc d) q pt cause) answer e s done lost = grind (arith, e)

pub micro_done : {C B M : Type 0} {P : _} (m : Meaning) (x y z : Running C B M P) (p : ℕ)
    (c : PlacedCall) (said : Micro) (kept kept_new : List Note) (d e : DiskSeen) → Moved x y p →
    placed_of y ≡ come_to p (micro (world_of_store x.store) (table_of x.images) p
    (placed_config (placed_of x) p)).config (placed_of x) →
    said ≡ (micro (world_of_store x.store) (table_of x.images)
    p (placed_config (placed_of x) p)).said →
    HasAnswer said y.store.ram p (placed_levels (placed_of x) p) → StepDone (after_said m
    y.store.ram p c said) p (kernel_moment y kept d) (kernel_moment z kept_new e) →
    StepDone (λ r. placed_outcome m p c (micro r.placed.world r.placed.images p
    (placed_config r.placed p)) r) p (kernel_moment x kept d) (kernel_moment z kept_new e)
micro_done m x y z p c said kept kept_new d e moved come is gives h =
    let w = placed_of x in
    let o : Outcome = micro (world_of_store x.store) (table_of x.images) p (placed_config w p) in
    done_as (λ r. placed_outcome m p c
    (micro r.placed.world r.placed.images p (placed_config r.placed p)) r)
    (λ r. after_said m y.store.ram p c said (with_config p o.config r)) x z p kept kept_new d e
    (λ blocks notes io. outcome_behind m y.store.ram p c o (run_of w blocks notes io)
    (micro_ends (world_of_store x.store) (table_of x.images) p (objects_of x.store)
    (placed_config w p).levels) (λ registers e. gives registers (is ∙ e))
    ∙ ap (λ s. after_said m y.store.ram p c s (with_config p o.config (run_of w blocks notes io))) (sym is))
    (moved_done o.config (after_said m y.store.ram p c said) x y z p kept kept_new d e moved come h)

-- ---- the drop of a level

pub drop_alone : {C B M : Type 0} {P : _} → OwnersStay →
    (x y : Running C B M P) (p n : ℕ) (cause : Cause) → IsRunning x → p < 16 → Moved x y p →
    placed_of y ≡ come_to p (drop_level (world_of_store x.store) (objects_of x.store)
    (placed_levels (placed_of x) p) n cause).config (placed_of x) → StepsAlone y p
drop_alone law x y p n cause r small moved come =
    let o : Outcome = drop_level (world_of_store x.store) (objects_of x.store)
    (placed_levels (placed_of x) p) n cause in
    alone_moved x y p r small moved
    (move_owned x y p (r.owner p) o.config come (law.drops (world_of_store x.store) (objects_of
    x.store) (placed_levels (placed_of x) p) n (r.owner p) cause (config_owned x p r small)))

pub drop_ready : {C B M : Type 0} {P : _} (m : Meaning) → ReadyInPlace m → (x y : Running C B M P)
    (p n : ℕ) (cause : Cause) (f : InFlight) (said : Micro) (answer : Option (List ℕ)) →
    HasAbstraction m (placed_of x) →
    n < length (levels_at x p) → Moved x y p →
    placed_of y ≡ come_to p (drop_level (world_of_store x.store) (objects_of x.store)
    (placed_levels (placed_of x) p) n cause).config (placed_of x) →
    said ≡ (drop_level (world_of_store x.store) (objects_of x.store) (placed_levels (placed_of x) p)
    n cause).said → answer_said said ≡ Some answer → (flight_of y.calls.items p).call ≡ Some f →
    IsReady m (world_of_store y.store) (table_of y.images) (objects_of y.store) p (stage_of f.work)
    (answer_seen y.store.ram p answer)
drop_ready m ready x y p n cause f said answer abstraction low moved come is h there =
    let z = placed_of x in
    let o : Outcome = drop_level (world_of_store x.store) (objects_of x.store) (placed_levels z p) n cause in
    ready_come m x y p (stage_of f.work) o.config (answer_seen y.store.ram p answer) moved come
    (subst (λ b. IsReady m (world_of_store x.store) (table_of x.images)
    o.config.now p (stage_of f.work) (answer_seen y.store.ram p b))
    (drop_answer (world_of_store x.store) (objects_of x.store) (placed_levels z p) n cause
    answer (answer_same said o.said answer is h))
    (ready.dropped z abstraction.kernel p (call_in_place f) n cause abstraction.stands
    (ap (option_map call_in_place) (sym (moved.calls p) ∙ there)) low))

pub drop_done : {C B M : Type 0} {P : _} (m : Meaning) (x y z : Running C B M P) (p n : ℕ)
    (cause : Cause) (c : PlacedCall) (said : Micro) (kept kept_new : List Note) (d e : DiskSeen) →
    Moved x y p →
    placed_of y ≡ come_to p (drop_level (world_of_store x.store) (objects_of x.store)
    (placed_levels (placed_of x) p) n cause).config (placed_of x) →
    said ≡ (drop_level (world_of_store x.store) (objects_of x.store) (placed_levels (placed_of x) p)
    n cause).said → StepDone (after_said m y.store.ram p c said) p (kernel_moment y kept d)
    (kernel_moment z kept_new e) →
    StepDone (λ r. placed_outcome m p c
    (drop_level r.placed.world r.placed.objects (placed_config r.placed p).levels n cause) r) p
    (kernel_moment x kept d) (kernel_moment z kept_new e)
drop_done m x y z p n cause c said kept kept_new d e moved come is h =
    let w = placed_of x in
    let o : Outcome = drop_level (world_of_store x.store) (objects_of x.store) (placed_levels w p) n cause in
    done_as (λ r. placed_outcome m p c
    (drop_level r.placed.world r.placed.objects (placed_config r.placed p).levels n cause) r)
    (λ r. after_said m y.store.ram p c said (with_config p o.config r)) x z p kept kept_new d e
    (λ blocks notes io. outcome_behind m y.store.ram p c o (run_of w blocks notes io) (drop_ends
    (world_of_store x.store) (objects_of x.store) (placed_levels w p) n cause) (drop_has_answer
    (world_of_store x.store) (objects_of x.store) (placed_levels w p) n cause y.store.ram p)
    ∙ ap (λ s. after_said m y.store.ram p c s (with_config p o.config (run_of w blocks notes io))) (sym is))
    (moved_done o.config (after_said m y.store.ram p c said) x y z p kept kept_new d e moved come h)

-- there are as many levels in place as in the chain
pub levels_many : {C B M : Type 0} {P : _} (x : Running C B M P) (p : ℕ) →
    length (levels_at x p) ≡ length (chain_of x p).levels
levels_many x p =
    bare_many (levels_of x.store x.locks (chain_of x p) p)
    ∙ level_count p x.store.ram (held x.locks) (chain_of x p).levels (chain_of x p).undo (objects_of x.store).things
  where
    bare_many : (ls : List Level) → length (map bare ls) ≡ length ls
    bare_many [] = refl
    bare_many (l ∷ ls) = ap suc (bare_many ls)

-- ---- a step by where the call stands

-- a call in a graft takes an instruction
graft_is : (m : Meaning) (p : ℕ) (c : PlacedCall) (ls : List PlacedLevel) (r : PlacedRun) →
    has_some ls ≡ true → placed_step_by m p c ls r
    ≡ placed_outcome m p c (micro r.placed.world r.placed.images p (placed_config r.placed p)) r
graft_is m p c [] r h = grind (arith, h)
graft_is m p c (l ∷ ls) r h = refl

pub at_graft : {C B M : Type 0} {P : _} (m : Meaning) (x y : Running C B M P) (p : ℕ) (c :
    PlacedCall) (kept kept_new : List Note) (d e : DiskSeen) → 0 < length (chain_of x p).levels →
    StepDone (λ r. placed_outcome m p c (micro r.placed.world r.placed.images p
    (placed_config r.placed p)) r) p (kernel_moment x kept d) (kernel_moment y kept_new e) →
    StepDone (λ r. placed_call_step m p (Some c) r) p (kernel_moment x kept d)
    (kernel_moment y kept_new e)
at_graft m x y p c kept kept_new d e some h =
    done_as (λ r. placed_call_step m p (Some c) r) (λ r. placed_outcome m p c (micro r.placed.world
    r.placed.images p (placed_config r.placed p)) r) x y p kept kept_new d e
    (λ blocks notes io. graft_is m p c (levels_at x p) (run_of (placed_of x) blocks notes io)
    (some_levels p x.store.ram (held x.locks) (chain_of x p).levels (chain_of x p).undo
    (objects_of x.store).things some)) h

-- by which call it is
pub at_call : {C B M : Type 0} {P : _} (m : Meaning) (x y : Running C B M P) (p : ℕ)
    (c : PlacedCall) (kept kept_new : List Note) (d e : DiskSeen) → call_at x p ≡ Some c →
    StepDone (λ r. placed_call_step m p (Some c) r) p (kernel_moment x kept d)
    (kernel_moment y kept_new e) → StepDone (placed_call_step m p (call_at x p)) p
    (kernel_moment x kept d) (kernel_moment y kept_new e)
at_call m x y p c kept kept_new d e is h =
    subst (λ o. StepDone (λ r. placed_call_step m p o r) p (kernel_moment x kept d)
    (kernel_moment y kept_new e)) (sym is) h

-- a chain without levels has none in place
pub none_at : {C B M : Type 0} {P : _} (x : Running C B M P) (p : ℕ) → (chain_of x p).levels ≡ [] → levels_at x p ≡ []
none_at x p none = no_level (levels_at x p) (levels_many x p ∙ ap length none)
