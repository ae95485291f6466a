-- All grafts of a run take at most the grant's instructions, and one for each drop.
use Rattle.std.specs.Prelude.{◌≡◌, ℕ, suc, ◌+◌, ◌<◌, ◌≤◌, Bool, true, false, cond, List, [], ◌∷◌, ◌++◌}
use Rattle.std.specs.Prelude.{map, length, Option, Some, None, ⊤}
use Rattle.std.proofs.Common.{arith, refl, subst, sym, ap, ◌∙◌}
use Rattle.script_model.specs.declared.Cause.{Cause}
use Rattle.script_model.specs.declared.Event.{Event}
use Rattle.script_model.specs.declared.Kind.{Kind}
use Rattle.script_model.specs.declared.Kind.TheVariants.{Steps as StepKind}
use Rattle.script_model.specs.declared.Note.{Note}
use Rattle.script_model.specs.declared.Note.TheVariants.{Refused}
use Rattle.script_model.specs.declared.Object.TheVariants.{Acct}
use Rattle.script_model.specs.declared.Refusal.TheVariants.{TimedOut}
use Rattle.script_model.specs.World.{World, Image, Blocks}
use Rattle.script_model.specs.Objects.{Objects, AcctValue, at}
use Rattle.script_model.specs.Events.{drop_call, ticked, times_out, event}
use Rattle.script_model.specs.ImageLines.{add_image}
use Rattle.script_model.specs.InPlace.{in_place}
use Rattle.script_model.specs.Kernel.{Call, Blocker, Waiter, Kernel, Run, noted, joins, with_call}
use Rattle.script_model.specs.Blocking.{config_in, levels_in, levels_of, trace_of}
use Rattle.script_model.specs.Laws.{Laws}
use Rattle.script_model.specs.Levels.{Level}
use Rattle.script_model.specs.Meaning.{Meaning}
use Rattle.script_model.specs.Opening.{opening_kernel, opening_objects}
use Rattle.script_model.specs.Session.{whole}
use Rattle.script_model.specs.Settle.{rested, step}
use Rattle.script_model.specs.Sound.{once_if, HasWholeBlocks}
use Rattle.call_laws.specs.Ledgers.{sum_same, sum_zero}
use Rattle.graft_laws.specs.Kernels.{IsSoundRun}
use Rattle.graft_laws.specs.Notes.{is_drop, note_count}
use Rattle.graft_laws.proofs.MoveLemmas.{count_more}
use Rattle.placed_laws.specs.Placed.{PlacedRun, bare}
use Rattle.placed_laws.specs.PlacedSteps.{placed_step, placed_drop}
use Rattle.placed_laws.specs.Stands.{without_history, StandsFor, RunStandsFor}
use Rattle.placed_laws.proofs.AlignLemmas.{over_store, run_over, aligned, aligned_run}
use Rattle.placed_laws.proofs.Laws.{quiet_kernels_stand, drops_stand, others_stand, same_stages}
use Rattle.placed_laws.proofs.Laws.{same_blockers, same_shown}
use Rattle.placed_laws.proofs.SettleLemmas.{step_there}
use Rattle.session_laws.specs.Spending.{steps_of}
use Rattle.session_laws.proofs.SoundLineLemmas.{extends_at}
use Rattle.run_laws.specs.Grants.{steps_spent, all_spent, SpentWithinGrant, SpendsNoSteps, move_count, is_instruction}
use Rattle.run_laws.specs.Grants.{is_charged, GrantsBoundGrafts, GrantsBoundAllGrafts}
use Rattle.run_laws.specs.Moves.{Move, Steps, Acts, event_moves}
use Rattle.run_laws.proofs.GrantLemmas.{spent_within, IsPaid, step_paid, time_out_paid}
use Rattle.run_laws.proofs.MoveLemmas.{new_call, Kept, event_kept}
use Rattle.run_laws.proofs.RunLemmas.{run_at, IsKept, runs_kept}
use Rattle.run_laws.proofs.PieceSpendingLemmas.{all_calls_spend_no_steps}

-- ---- counts

moves_more : (test : Move → Bool) (xs : List Move) (y : Move) →
    move_count test (xs ++ y ∷ []) ≡ move_count test xs + once_if (test y)
moves_more test [] y = last (test y)
  where
    last : (b : Bool) → cond b (suc 0) 0 ≡ 0 + once_if b
    last true = refl
    last false = refl
moves_more test (x ∷ xs) y =
    more_by (test x) (move_count test (xs ++ y ∷ [])) (move_count test xs) (once_if (test y)) (moves_more test xs y)
  where
    more_by : (b : Bool) (n x y : ℕ) → n ≡ x + y → cond b (suc n) n ≡ cond b (suc x) x + y
    more_by true n x y e = omega arith
    more_by false n x y e = e

-- ---- what is counted

-- What moves and drops come to, where so many drops were told before and these after.
pub record Counts (m : Meaning) (before : ℕ) (l : List Move) (after : ℕ) (w : Objects) : Type 0 where
  pub spent : steps_spent w.accounts ≡ move_count (is_charged m) l
  pub taken : move_count is_instruction l ≤ move_count (is_charged m) l + (before + after)

-- a store in place stands for the run, and the counts are right where pieces spend no step
pub record Spends (m : Meaning) (before : ℕ) (l : List Move) (r : Run) : Type 0 where
  pub store : Objects
  pub stands : RunStandsFor m (run_over m store r) r
  pub counts : SpendsNoSteps m → Counts m before l (note_count is_drop r.notes) store

-- an event under way in place that stands for another run, with as much in its store
restand : (m : Meaning) (before : ℕ) (l : List Move) (y : PlacedRun) (u : Run) → RunStandsFor m y u →
    (SpendsNoSteps m → Counts m before l (note_count is_drop u.notes) y.placed.objects) → Spends m before l u
restand m before l y u h counts =
    record {
      store = y.placed.objects;
      stands = subst (λ z. RunStandsFor m z u) (aligned_run m y u h) h;
      counts = counts;
    }

module _ (m : Meaning) (laws : Laws m) (before : ℕ) where
  -- what a move that is paid for leaves
  counts_after : (l : List Move) (y : Move) (x u : PlacedRun) → IsPaid x u (is_charged m y) (is_instruction y) →
      Counts m before l (note_count is_drop x.notes) x.placed.objects →
      Counts m before (l ++ y ∷ []) (note_count is_drop u.notes) u.placed.objects
  counts_after l y x u paid h =
      record {
        spent =
            both (steps_spent u.placed.objects.accounts) (steps_spent x.placed.objects.accounts)
            (once_if (is_charged m y)) (move_count (is_charged m) l) (move_count (is_charged m) (l ++ y ∷ []))
            paid.steps h.spent (moves_more (is_charged m) l y);
        taken =
            all (move_count is_instruction (l ++ y ∷ [])) (move_count is_instruction l) (once_if (is_instruction y))
            (move_count (is_charged m) (l ++ y ∷ [])) (move_count (is_charged m) l) (once_if (is_charged m y))
            (note_count is_drop x.notes) (note_count is_drop u.notes) (moves_more is_instruction l y)
            (moves_more (is_charged m) l y) paid.drops h.taken;
      }
    where
      both : (a b c n k : ℕ) → a ≡ b + c → b ≡ n → k ≡ n + c → a ≡ k
      both a b c n k e f g = omega arith

      all : (i j a n k b x y : ℕ) → i ≡ j + a → n ≡ k + b → x + a ≤ y + b → j ≤ k + (before + x) → i ≤ n + (before + y)
      all i j a n k b x y e f g h = omega arith

  -- a move that does nothing of the kind
  counts_same : (l : List Move) (e : Waiter) (r : Run) (n : ℕ) (w : Objects) → Counts m before l n w →
      Counts m before (l ++ Acts e r ∷ []) n w
  counts_same l e r n w h =
      record {
        spent = h.spent ∙ sym (moves_more (is_charged m) l (Acts e r) ∙ no_more (move_count (is_charged m) l));
        taken =
            same (move_count is_instruction (l ++ Acts e r ∷ [])) (move_count is_instruction l)
            (move_count (is_charged m) (l ++ Acts e r ∷ [])) (move_count (is_charged m) l)
            (moves_more is_instruction l (Acts e r)) (moves_more (is_charged m) l (Acts e r)) h.taken;
      }
    where
      no_more : (n : ℕ) → n + 0 ≡ n
      no_more n = omega arith

      same : (i j a k : ℕ) → i ≡ j + 0 → a ≡ k + 0 → j ≤ k + (before + n) → i ≤ a + (before + n)
      same i j a k e f h = omega arith

  -- notes that tell no drop
  note_none : (x : Note) (r : Run) → is_drop x ≡ false →
      note_count is_drop r.notes ≡ note_count is_drop (r.notes ++ x ∷ [])
  note_none x r other =
      sym (count_more is_drop r.notes (x ∷ []) ∙ none (is_drop x) other (note_count is_drop r.notes))
    where
      none : (b : Bool) → b ≡ false → (n : ℕ) → n + cond b (suc 0) 0 ≡ n
      none true e n = absurd cc
      none false e n = omega arith

  spends_kept : Kept m (Spends m before)
  spends_kept = record {
    steps = λ l p c r sound is free h.
        let x = run_over m h.store r in
        restand m before (l ++ Steps p r ∷ []) (placed_step m p x) (step m p r)
        (step_there m laws x r p c h.stands is free)
        (λ spends. subst (λ n. Counts m before (l ++ Steps p r ∷ []) n (placed_step m p x).placed.objects)
        (ap (note_count is_drop) (step_there m laws x r p c h.stands is free).notes)
        (counts_after l (Steps p r) x (placed_step m p x)
        (step_paid m laws spends r h.store h.stands p c is) (h.counts spends)));
    drops = λ l e p n cause r sound low does h.
        let x = run_over m h.store r in
        let there = drop_there r h.store h.stands p n cause low in
        let c = call_there r p n low in
        restand m before (l ++ Acts e r ∷ []) (placed_drop m p n cause x)
        (drop_call m p (r.kernel.call p) (Some n) cause r) there
        (λ spends. subst (λ i. Counts m before (l ++ Acts e r ∷ []) i (placed_drop m p n cause x).placed.objects)
        (ap (note_count is_drop) there.notes)
        (counts_after l (Acts e r) x (placed_drop m p n cause x)
        (time_out_paid m laws spends r h.store h.stands p c.0 c.1 n cause low) (h.counts spends)));
    ends = λ l e p b c r sound is none does h. ended l e p b c r is none h;
    idle = λ l e r does h. record {
      store = h.store;
      stands = h.stands;
      counts = λ spends. counts_same l e r (note_count is_drop r.notes) h.store (h.counts spends);
    };
    notes = λ l x r other h. restand m before l (run_over m h.store (noted x r)) (noted x r)
        ((others_stand m laws).notes (run_over m h.store r) r x h.stands)
        (λ spends. subst (λ n. Counts m before l n h.store) (note_none x r other) (h.counts spends));
    begins = λ l number p call t r sound none alive early h. restand m before l _
        (joins p (with_call p (Some (new_call number t)) r))
        ((others_stand m laws).beginning (run_over m h.store r) r p number call t h.stands (ap without_history none)
        ((same_stages m laws).living (over_store m h.store r.kernel) r.kernel p h.stands.kernel ∙ alive) early)
        h.counts;
    joined = λ l p b r sound level away blocked h. restand m before l _ (joins p r)
        ((others_stand m laws).joining (run_over m h.store r) r p b h.stands
        (sym ((same_shown m laws).level (over_store m h.store r.kernel) r.kernel p h.stands.kernel) ∙ level) away
        ((same_blockers m laws).blockers (over_store m h.store r.kernel) r.kernel p h.stands.kernel ∙ blocked))
        h.counts;
    rests = λ l r sound h. restand m before l _ (rested m r)
        ((others_stand m laws).resting (run_over m h.store r) r h.stands) h.counts;
    ticks = λ l number r sound h. restand m before l _ (ticked number r)
        ((others_stand m laws).ticking (run_over m h.store r) r number h.stands)
        (λ spends. subst (λ n. Counts m before l n h.store)
        (none_told r (suc r.kernel.clock) number) (h.counts spends));
  }
    where
      length_bare : (xs : List Level) → length (map bare xs) ≡ length xs
      length_bare [] = refl
      length_bare (k ∷ ks) = ap suc (length_bare ks)

      drop_there : (r : Run) (w : Objects) → RunStandsFor m (run_over m w r) r → (p n : ℕ) (cause : Cause) →
          n < length (levels_of m r.kernel p) →
          RunStandsFor m (placed_drop m p n cause (run_over m w r)) (drop_call m p (r.kernel.call p) (Some n) cause r)
      drop_there r w stands p n cause low =
          drops_stand m laws (run_over m w r) r p n cause stands
          (subst (λ i. n < i) (sym (length_bare (levels_of m r.kernel p))) low)

      call_there : (r : Run) (p n : ℕ) → n < length (levels_of m r.kernel p) → (c : Call) × (r.kernel.call p ≡ Some c)
      call_there r p n low = by_call (r.kernel.call p) refl
        where
          none_lower : (i : ℕ) → n < i → i ≡ 0 → ⊥
          none_lower i h e = omega arith

          by_call : (y : Option Call) → r.kernel.call p ≡ y → (c : Call) × (r.kernel.call p ≡ Some c)
          by_call None is =
              absurd (none_lower (length (levels_of m r.kernel p)) low
              (ap (λ y. length (levels_in (config_in (trace_of m r.kernel p y)))) is))
          by_call (Some c) is = (c, is)

      none_told : (r : Run) (clock number : ℕ) → note_count is_drop r.notes
          ≡ note_count is_drop (ticked number r).notes
      none_told r clock number = sym (count_more is_drop r.notes _ ∙ none (note_count is_drop r.notes))
        where
          none : (n : ℕ) → n + 0 ≡ n
          none n = omega arith

      ended : (l : List Move) (e : Waiter) (p : ℕ) (b : Blocker) (c : Call) (r : Run) → r.kernel.call p ≡ Some c →
          c.marks ≡ None → Spends m before l r → Spends m before (l ++ Acts e r ∷ []) (times_out m p b c r)
      ended l e p b c r is none h =
          let x = Refused c.number (TimedOut b.object b.holder) in
          restand m before (l ++ Acts e r ∷ []) _ (times_out m p b c r)
          ((others_stand m laws).ending (run_over m h.store r) r p (record { number = c.number; stage = c.stage }) x
          h.stands (ap without_history is) (ap (λ (xs : List Level). map bare xs) no_levels))
          (λ spends. subst (λ n. Counts m before (l ++ Acts e r ∷ []) n h.store) (note_none x r refl)
          (counts_same l e r (note_count is_drop r.notes) h.store (h.counts spends)))
        where
          no_trace : c.marks ≡ None → trace_of m r.kernel p (Some c) ≡ None
          no_trace marked = rw marked refl

          no_levels : levels_of m r.kernel p ≡ []
          no_levels =
              ap (λ y. levels_in (config_in (trace_of m r.kernel p y))) is ∙ ap levels_in (ap config_in (no_trace none))

-- ---- runs

-- the same of a kernel behind a run's notes
pub record SpendsSoFar (m : Meaning) (l : List Move) (notes : List Note) (k : Kernel) (blocks : Blocks) : Type 0 where
  pub store : Objects
  pub stands : StandsFor m (over_store m store k) k
  pub whole : HasWholeBlocks k.world blocks
  pub counts : SpendsNoSteps m → Counts m 0 l (note_count is_drop notes) store

-- whatever the blocks are before boot
abbrev none_before : Blocks → Type 0
none_before blocks = ⊤

module _ (m : Meaning) (laws : Laws m) where
  -- an event begins in place
  begins_in : (k : Kernel) (blocks : Blocks) (io : List Bool) (w : Objects) → StandsFor m (over_store m w k) k →
      HasWholeBlocks k.world blocks → RunStandsFor m (run_over m w (run_at k blocks io)) (run_at k blocks io)
  begins_in k blocks io w stands whole =
      record { kernel = stands; blocks = refl; notes = refl; io = refl; whole = whole }

  -- the drops of earlier events
  counts_begin : (l : List Move) (n : ℕ) (w : Objects) → Counts m 0 l n w → Counts m n l 0 w
  counts_begin l n w h =
      record { spent = h.spent; taken = later (move_count is_instruction l) (move_count (is_charged m) l) h.taken }
    where
      later : (a b : ℕ) → a ≤ b + (0 + n) → a ≤ b + (n + 0)
      later a b h = omega arith

  counts_end : (l : List Move) (n more all : ℕ) (w : Objects) → all ≡ n + more → Counts m n l more w →
      Counts m 0 l all w
  counts_end l n more all w e h =
      record { spent = h.spent; taken = later (move_count is_instruction l) (move_count (is_charged m) l) h.taken }
    where
      later : (a b : ℕ) → a ≤ b + (n + more) → a ≤ b + (0 + all)
      later a b h = omega arith

  opens : (v : World) (blocks : Blocks) → IsSoundRun m (run_at (opening_kernel v) blocks []) →
      SpendsSoFar m [] [] (opening_kernel v) blocks
  opens v blocks sound =
      let quiet = quiet_kernels_stand m (opening_kernel v) sound.kernel (λ p. refl) in
      record {
        store = opening_objects v.grant;
        stands = subst (λ x. StandsFor m x (opening_kernel v)) (aligned m _ (opening_kernel v) quiet) quiet;
        whole = sound.blocks;
        counts = λ spends. record {
          spent = sum_zero 16 (steps_of (opening_objects v.grant).accounts) (λ i low. none_spent i);
          taken = none;
        };
      }
    where
      none : 0 ≤ 0 + (0 + 0)
      none = omega arith

      none_spent : (i : ℕ) → steps_of (opening_objects v.grant).accounts i ≡ 0
      none_spent i = refl

  image_spends : (l : List Move) (notes : List Note) (k : Kernel) (blocks : Blocks) (slot : ℕ) (i : Image) →
      k.images slot ≡ None → SpendsSoFar m l notes k blocks → SpendsSoFar m l notes (add_image slot i k) blocks
  image_spends l notes k blocks slot i free h =
      let r = run_at k blocks [] in
      let more = at slot (Some i) k.images in
      let stands = (others_stand m laws).images (run_over m h.store r) r more
      (begins_in k blocks [] h.store h.stands h.whole) (extends_at slot i k.images free) in
      record {
        store = h.store;
        stands = subst (λ x. StandsFor m x (add_image slot i k)) (aligned m _ (add_image slot i k) stands.kernel)
            stands.kernel;
        whole = h.whole;
        counts = h.counts;
      }

  event_spends : (l : List Move) (notes : List Note) (k : Kernel) (blocks : Blocks) (number : ℕ) (e : Event)
      (io : List Bool) → IsSoundRun m (run_at k blocks io) → SpendsSoFar m l notes k blocks →
      SpendsSoFar m (l ++ event_moves m number e (run_at k blocks io)) (notes ++ (event m k blocks number e io).notes)
      (event m k blocks number e io).kernel (event m k blocks number e io).blocks
  event_spends l notes k blocks number e io sound h =
      let n = note_count is_drop notes in
      let u = event m k blocks number e io in
      let done = (event_kept m laws (Spends m n) (spends_kept m laws n) number e l (run_at k blocks io) (
        sound,
        record {
          store = h.store;
          stands = begins_in k blocks io h.store h.stands h.whole;
          counts = λ spends. counts_begin l n h.store (h.counts spends);
        },
      )).1 in
      record {
        store = done.store;
        stands = done.stands.kernel;
        whole = done.stands.whole;
        counts = λ spends. counts_end (l ++ event_moves m number e (run_at k blocks io)) n
            (note_count is_drop u.notes) (note_count is_drop (notes ++ u.notes)) done.store
            (count_more is_drop notes u.notes) (done.counts spends);
      }

  spends_so_far : IsKept m none_before (SpendsSoFar m)
  spends_so_far = record {
    opens = λ v blocks sound before. opens v blocks sound;
    images = λ l notes k blocks slot i sound free h. image_spends l notes k blocks slot i free h;
    events = λ l notes k blocks number e io sound h. event_spends l notes k blocks number e io (sound io) h;
  }

-- what is spent in place
spent_there : (m : Meaning) (k : Kernel) (w : Objects) → StandsFor m (over_store m w k) k →
    (kind : Kind) (q : ℕ) → q < 16 → ((in_place m k).accounts.acct q).spent kind ≡ (w.accounts.acct q).spent kind
spent_there m k w stands kind q low = ap (λ (a : AcctValue). a.spent kind) (sym (stands.objects (Acct q) low))

pub spent_within_grant : SpentWithinGrant
spent_within_grant b keys d texts ios k kind h is =
    let so = runs_kept b keys d texts ios k none_before (SpendsSoFar b.meaning) (spends_so_far b.meaning h.laws) h
    tt is in
    subst (λ n. n ≤ k.world.grant)
    (sym (sum_same 16 (λ q. ((in_place b.meaning k).accounts.acct q).spent kind)
    (λ q. (so.store.accounts.acct q).spent kind) (λ q low. spent_there b.meaning k so.store so.stands kind q low)))
    (spent_within k.world so.store kind so.stands.store)

pub grants_bound_grafts : GrantsBoundGrafts
grants_bound_grafts b keys d texts ios k spends h is =
    let so = runs_kept b keys d texts ios k none_before (SpendsSoFar b.meaning) (spends_so_far b.meaning h.laws) h
    tt is in
    let counts = so.counts spends in
    let all : all_spent b.meaning k ≡ steps_spent so.store.accounts =
    sum_same 16 (steps_of (in_place b.meaning k).accounts) (steps_of so.store.accounts)
    (λ q low. spent_there b.meaning k so.store so.stands StepKind q low) in
    let most = subst (λ n. n ≤ k.world.grant) counts.spent (spent_within k.world so.store StepKind so.stands.store) in
    record {
      charged = all ∙ counts.spent;
      most = most;
      taken = within _ _ k.world.grant _ most counts.taken;
    }
  where
    within : (a b g n : ℕ) → b ≤ g → a ≤ b + (0 + n) → a ≤ g + n
    within a b g n h k = omega arith

pub grants_bound_all_grafts : GrantsBoundAllGrafts
grants_bound_all_grafts keys d texts ios k h is =
    grants_bound_grafts whole keys d texts ios k all_calls_spend_no_steps h is
