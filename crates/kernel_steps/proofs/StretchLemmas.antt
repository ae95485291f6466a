-- A running kernel after a stretch of one of its calls.
use Rattle.std.proofs.Common.{◌≡◌, ◌≢◌, ℕ, ◌<◌, ◌==◌, true, false, cond, List, [], ◌∷◌, map}
use Rattle.std.proofs.Common.{length, refl, ap, sym, subst, ◌∙◌, arith}
use Rattle.kernel_model.specs.declared.QueueRow.{QueueRow}
use Rattle.kernel_model.specs.Events.{in_order}
use Rattle.kernel_model.specs.Objects.{Things}
use Rattle.kernel_model.specs.Policies.{lives}
use Rattle.kernel_model.specs.Meaning.{Meaning}
use Rattle.kernel_model.specs.Levels.{Config}
use Rattle.kernel_model.specs.Locks.{LockTable}
use Rattle.graft_levels.specs.UndoLevels.{Logged}
use Rattle.graft_levels.specs.Masks.{held}
use Rattle.call_pieces.specs.Stores.{world_of_store, objects_of, queue_of}
use Rattle.graft_levels.specs.Slots.{table_of}
use Rattle.graft_levels.specs.declared.GraftLevel.{GraftLevel}
use Rattle.graft_levels.specs.declared.Chain.{Chain}
use Rattle.graft_levels.specs.Chains.{levels_in, call_of}
use Rattle.graft_levels.specs.Calls.{AreSound, IsPlaced, AreInside, AllUndoable}
use Rattle.graft_calls.specs.Stretch.{gone_on, HasGoneOn, StillRun}
use Rattle.placed_laws.specs.Agreeing.{SameShown}
use Rattle.placed_laws.specs.Owners.{AreOfOwner}
use Rattle.placed_laws.specs.Placed.{Placed, bare, has_some}
use Rattle.placed_laws.specs.Stretch.{IsStretched, Stretches}
use Rattle.running_kernel.specs.declared.running.Flight.{Flight}
use Rattle.running_kernel.specs.declared.running.Running.{Running}
use Rattle.kernel_steps.specs.Moves.{come_to, Moved}
use Rattle.running_kernel.specs.Orders.{counts_within, are_processes, are_once, numbers_of}
use Rattle.running_kernel.specs.Owned.{AreOwned}
use Rattle.kernel_steps.specs.Steps.{IsOfOne}
use Rattle.running_kernel.specs.Views.{placed_of, flight_of, chain_of, levels_at, run_of, IsRunning, HasAbstraction}
use Rattle.running_kernel.specs.WholeBlocks.{some_blocks, blocks_are_whole}
use Rattle.kernel_steps.proofs.AgainLemmas.{all_hold, owners_at}
use Rattle.kernel_steps.proofs.MoveLemmas.{placed_moved}
use Rattle.kernel_steps.proofs.PartLemmas.{levels_come}
use Rattle.kernel_steps.proofs.StepLemmas.{of_one, owner_of}
use Rattle.kernel_steps.proofs.WholeLemmas.{has_call, call_is}
use Rattle.graft_levels.proofs.Conditions.{still_sound}
use Rattle.running_kernel.proofs.HinderLemmas.{some_levels_there}

pub some_chain : {C B M : Type 0} {P : _} (x : Running C B M P) (p : ℕ) →
    has_some (levels_at x p) ≡ true → 0 < length (chain_of x p).levels
some_chain x p h =
    some_levels_there p x.store.ram (held x.locks) (chain_of x p).levels (chain_of x p).undo
    (objects_of x.store).things h

-- the graft call of p went on, where the chain before was that of p, and so is the one after
pub gone_by : {C B M : Type 0} {P : _} (x y : Running C B M P) (p n : ℕ) (fl : Flight)
    (ch : Chain) → fl ≡ flight_of x.calls.items p → chain_of y p ≡ ch →
    HasGoneOn (world_of_store x.store) (table_of x.images) n (call_of x.store x.locks fl.chain p)
    (call_of y.store y.locks ch p) → HasGoneOn (world_of_store x.store) (table_of x.images) n
    (call_of x.store x.locks (chain_of x p) p) (call_of y.store y.locks (chain_of y p) p)
gone_by x y p n fl ch fl_is own h =
    subst (λ (l : Flight). HasGoneOn (world_of_store x.store) (table_of x.images) n
    (call_of x.store x.locks l.chain p) (call_of y.store y.locks (chain_of y p) p)) fl_is
    (subst (λ (c : Chain). HasGoneOn (world_of_store x.store) (table_of x.images) n
    (call_of x.store x.locks fl.chain p) (call_of y.store y.locks c p)) (sym own) h)

module _ {C B M : Type 0} {P : _} (x y : Running C B M P) (p n : ℕ) (r : IsRunning x) (small : p < 16)
    (moved : Moved x y p) (gone : HasGoneOn (world_of_store x.store) (table_of x.images) n
    (call_of x.store x.locks (chain_of x p) p) (call_of y.store y.locks (chain_of y p) p))
    (locks : y.locks ≡ x.locks) (still : StillRun (table_of x.images)
    (objects_of x.store).accounts (objects_of y.store).accounts) where
  abbrev far : Config
  far = gone_on n gone.machine gone.level gone.outer (call_of x.store x.locks (chain_of x p) p)

  come : placed_of y ≡ come_to p far (placed_of x)
  come = placed_moved x y p far r moved gone.is

  -- the kernel in place has gone on
  pub is_stretched : IsStretched (placed_of x) (placed_of y) p n
  is_stretched =
      record {
        process = small;
        level = bare gone.level;
        outer = map bare gone.outer;
        machine = gone.machine;
        levels = ap (map bare) gone.levels;
        went = gone.went;
        limit = gone.limit;
        paid = gone.paid;
        is = come;
      }

  things : (objects_of y.store).things ≡ (objects_of x.store).things
  things = ap (λ (c : Config). c.now.things) gone.is

  owned : IsOfOne (chain_of y p)
  owned =
      of_one y p (r.owner p) far.levels (levels_come x y p far come)
      (same_owner (subst (AreOfOwner (r.owner p)) gone.levels
      (owner_of (r.owner p) p x.store.ram (held x.locks) (chain_of x p).levels
      (chain_of x p).undo (objects_of x.store).things (r.own p small))))
    where
      same_owner : AreOfOwner (r.owner p) (gone.level ∷ gone.outer) → AreOfOwner (r.owner p) far.levels
      same_owner h = (h.0, h.1, h.2)

  placed_still : (q : ℕ) → q ≢ p → q < 16 → IsPlaced y.store y.locks q (chain_of y q).levels (chain_of y q).undo
  placed_still q other low =
      subst (λ (c : Chain). IsPlaced y.store y.locks q c.levels c.undo) (sym (moved.chains q other))
      (let old = r.placed q low in record {
        process = low;
        few = old.few;
        as_many = old.as_many;
        unheld = λ d o le. ap (λ t. held t q d o) locks ∙ old.unheld d o le;
        levels =
            still_sound (queue_of x.store) (queue_of y.store) (chain_of x q).levels
            moved.elsewhere.living old.levels;
        undoable = subst (AllUndoable (chain_of x q).undo) (sym things) old.undoable;
      })

  inside_still : (q : ℕ) → q ≢ p → q < 16 →
      AreInside (table_of y.images) (objects_of y.store).accounts q (chain_of y q).levels
  inside_still q other low =
      subst (λ (c : Chain). AreInside (table_of y.images) (objects_of y.store).accounts q c.levels)
      (sym (moved.chains q other))
      (subst (λ i. AreInside (table_of i) (objects_of y.store).accounts q (chain_of x q).levels)
      (sym moved.images) (still q (chain_of x q).levels (r.inside q low)))

  -- the kernel runs
  pub runs_stretched : IsRunning y
  runs_stretched =
      record {
        sixteen = moved.sixteen ∙ r.sixteen;
        callers = λ q f is. r.callers q f (sym (moved.calls q) ∙ is);
        placed =
            λ q low. all_hold p
            (λ q. q < 16 → IsPlaced y.store y.locks q (chain_of y q).levels (chain_of y q).undo)
            (λ low. moved.placed) placed_still q (q == p) refl low;
        inside =
            λ q low. all_hold p (λ q. q < 16 →
            AreInside (table_of y.images) (objects_of y.store).accounts q (chain_of y q).levels)
            (λ low. moved.inside) inside_still q (q == p) refl low;
        counts = ap (λ n. counts_within n y.order) moved.clock ∙ ap (counts_within x.clock) moved.order ∙ r.counts;
        order = ap are_processes moved.order ∙ r.order;
        once = ap (λ ws. are_once (numbers_of ws)) moved.order ∙ r.once;
        loaded = moved.loaded;
        owner = λ q. cond (q == p) owned.owner (r.owner q);
        own =
            λ q low. owners_at p owned.owner r.owner (λ n q. q < 16 →
            AreOwned n (chain_of y q).levels (chain_of y q).undo) (λ low. owned.own)
            (λ q other low. subst (λ (c : Chain). AreOwned (r.owner q) c.levels c.undo)
            (sym (moved.chains q other)) (r.own q low)) q (q == p) refl low;
      }

-- and it stands for some abstract kernel
pub stood_stretched : (m : Meaning) → SameShown m → Stretches m → (x y : Placed) (p n : ℕ) →
    HasAbstraction m x → has_some (x.levels p) ≡ true → in_order p x.order ≡ false →
    IsStretched x y p n → HasAbstraction m y
stood_stretched m shown law x y p n s some away h =
    let call = call_is (x.call p) (has_call m shown x p s some) in
    let after = law (run_of x some_blocks [] []) y
    (record { kernel = s.kernel; blocks = some_blocks; notes = []; io = [] }) call.0 p n
    (record {
      kernel = s.stands;
      blocks = refl;
      notes = refl;
      io = refl;
      whole = blocks_are_whole s.kernel.world;
    }) call.1 away h in
    record { kernel = after.run.kernel; stands = after.stands.kernel }
