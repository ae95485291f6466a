-- Settling keeps runs sound, and so does a call that begins or times out.
use Rattle.std.specs.Prelude.{◌≡◌, ◌≢◌, ℕ, zero, suc, ◌<◌, ◌==◌, ◌||◌, Bool, true, false, cond}
use Rattle.std.specs.Prelude.{List, [], ◌∷◌, ◌++◌, length, Contains, Option, Some, None, Result}
use Rattle.std.specs.Prelude.{Ok, Err}
use Rattle.std.specs.List.{AllByRecursion}
use Rattle.std.specs.Result.{is_ok}
use Rattle.std.proofs.Common.{arith, refl, subst, sym, ap, ◌∙◌}
use Rattle.std.proofs.lemmas.Bool.Decides.{nat_tests}
use Rattle.std.proofs.lemmas.List.Elements.{Contains-append_right}
use Rattle.kernel_model.specs.declared.Note.{Note}
use Rattle.kernel_model.specs.declared.Note.TheVariants.{Refused}
use Rattle.kernel_model.specs.declared.Refusal.{Refusal}
use Rattle.kernel_model.specs.declared.Reply.{Reply}
use Rattle.kernel_model.specs.declared.SysCall.{SysCall}
use Rattle.kernel_model.specs.Objects.{SameThing, at}
use Rattle.kernel_model.specs.Policies.{lives}
use Rattle.kernel_model.specs.Meaning.{Meaning, Stage, After, Continues, EndsWith}
use Rattle.kernel_model.specs.Locks.{LockTable}
use Rattle.kernel_model.specs.Levels.{Level}
use Rattle.kernel_model.specs.Kernel.{Call, Blocker, Waiter, Kernel, Run, call_after, noted, joins}
use Rattle.kernel_model.specs.Kernel.{with_call, is_at_piece, less_entry, new_entry}
use Rattle.kernel_model.specs.Blocking.{config_in, levels_of, trace_of, holds, blocker, blocker_in, same_blocker}
use Rattle.kernel_model.specs.Settle.{entry_with, first_free_in, first_free, order_in}
use Rattle.kernel_model.specs.Settle.{rested_order, rested, settle, settled, step}
use Rattle.kernel_model.specs.Events.{in_order, waits_note, graft_note, last_note, last, begun, times_out}
use Rattle.kernel_model.specs.Sound.{IsSoundKernel}
use Rattle.kernel_model.specs.Alike.{LevelsAlike}
use Rattle.kernel_model.specs.Laws.{Laws, NeedsGraftsExclusively}
use Rattle.kernel_model.specs.Claims.{IsStable}
use Rattle.call_laws.specs.Ledgers.{at_here, at_other}
use Rattle.graft_laws.specs.Kernels.{IsSoundRun}
use Rattle.graft_laws.proofs.ShapeLemmas.{contrary}
use Rattle.graft_laws.proofs.GraftEndLemmas.{thing_self}
use Rattle.graft_laws.proofs.StabilityLemmas.{caller_low}
use Rattle.graft_laws.proofs.KernelLemmas.{processes_in}
use Rattle.graft_laws.proofs.KeptKernelLemmas.{order_after, kept_kernel}
use Rattle.graft_laws.proofs.OwnCallLemmas.{PieceEnds, after_piece, own_piece, nothing_free, all_replayed}
use Rattle.graft_laws.proofs.KernelStepLemmas.{step_sound}
use Rattle.graft_laws.proofs.OrderLemmas.{same_entries_sound, entry_called, uncalled_away, less_away}
use Rattle.call_laws.specs.FileChanges.{same_self}

-- ---- calls that are alike to themselves

pub levels_alike_self : (ls : List Level) → LevelsAlike ls ls
levels_alike_self [] = tt
levels_alike_self (l ∷ ls) = (refl, levels_alike_self ls)

-- a note more
pub noted_sound : (m : Meaning) (x : Note) (r : Run) → IsSoundRun m r → IsSoundRun m (noted x r)
noted_sound m x r h = record { kernel = h.kernel; blocks = h.blocks }

-- a test that an entry is of a process
pub away_from : (p : ℕ) (es : List Waiter) → in_order p es ≡ false → AllByRecursion (λ (e : Waiter). e.process ≢ p) es
away_from p [] h = tt
away_from p (e ∷ es) h =
    let b = neither (e.process == p) (in_order p es) h in
    (differ e.process p b.0, away_from p es b.1)
  where
    neither : (a b : Bool) → (a || b) ≡ false → (a ≡ false) × (b ≡ false)
    neither true b h = contrary h
    neither false b h = (refl, h)

    differ : (x y : ℕ) → (x == y) ≡ false → x ≢ y
    differ x y h = λ e. differs x y h e
      where
        differs : (x y : ℕ) → (x == y) ≡ false → x ≡ y → ⊥
        differs x y h e = grind (arith, nat_tests)

-- the first of a list is contained
first_in : (e : Waiter) (es : List Waiter) → Contains (e ∷ es) e
first_in e es = (0, below_suc (length es), refl)
  where
    below_suc : (n : ℕ) → 0 < suc n
    below_suc n = omega arith

module _ (m : Meaning) (laws : Laws m) (owns : NeedsGraftsExclusively m) where
  -- ---- settling

  rested_same : (k : Kernel) (es : List Waiter) → processes_in (rested_order m k es) ≡ processes_in es
  rested_same k [] = refl
  rested_same k (e ∷ es) = mapped_same (holds m k) (e ∷ es)
    where
      one_same : (e : Waiter) (b : Option Blocker) → (entry_with e b).process ≡ e.process
      one_same e b = by_same (same_blocker e.blocker b)
        where
          by_same : (s : Bool) → (elim s as (λ _. Waiter) [
            | true ↦ e
            | false ↦ record { process = e.process; blocker = b; count = 0 }
          ]).process ≡ e.process
          by_same true = refl
          by_same false = refl

      mapped_same : (locks : LockTable) (es : List Waiter) → processes_in (order_in m k locks es) ≡ processes_in es
      mapped_same locks [] = refl
      mapped_same locks (e ∷ es) =
          ap (λ p. p ∷ processes_in (order_in m k locks es)) (one_same e
          (blocker_in m k locks e.process)) ∙ ap (λ ps. e.process ∷ ps) (mapped_same locks es)

  pub rested_sound : (r : Run) → IsSoundRun m r → IsSoundRun m (rested m r)
  rested_sound r h =
      record {
        kernel =
            same_entries_sound m r.kernel r.kernel.clock (rested_order m r.kernel r.kernel.order)
            h.kernel (rested_same r.kernel r.kernel.order);
        blocks = h.blocks;
      }

  -- the first that is free is one of the order, and nothing blocks it
  free_in : (k : Kernel) (locks : LockTable) (es : List Waiter) (p : ℕ) →
      first_free_in m k locks es ≡ Some p →
      (e : Waiter) × Contains es e × (e.process ≡ p) × (blocker_in m k locks p ≡ None)
  free_in k locks [] p h = absurd cc
  free_in k locks (e ∷ es) p h = by_blocker (blocker_in m k locks e.process) refl h (free_in k locks es p)
    where
      is_it : (a b : ℕ) → Some a ≡ Some b → a ≡ b
      is_it a b e = cc

      by_blocker : (b : Option Blocker) → blocker_in m k locks e.process ≡ b →
          elim b as (λ _. Option ℕ) [
            | None ↦ Some e.process
            | Some x ↦ first_free_in m k locks es
          ] ≡ Some p →
          (first_free_in m k locks es ≡ Some p →
          (e : Waiter) × Contains es e × (e.process ≡ p) × (blocker_in m k locks p ≡ None)) →
          (x : Waiter) × Contains (e ∷ es) x × (x.process ≡ p) × (blocker_in m k locks p ≡ None)
      by_blocker None f h rest =
          let same = is_it e.process p h in
          (e, first_in e es, same, ap (blocker_in m k locks) (sym same) ∙ f)
      by_blocker (Some b) f h rest = let x = rest h in (x.0, Contains-append_right (e ∷ []) es x.0 x.1, x.2, x.3)

  pub first_free_is : (k : Kernel) (es : List Waiter) (p : ℕ) → first_free m k es ≡ Some p →
      (e : Waiter) × Contains es e × (e.process ≡ p) × (blocker m k p ≡ None)
  first_free_is k [] p h = absurd cc
  first_free_is k (e ∷ es) p h = free_in k (holds m k) (e ∷ es) p h

  pub settle_sound : (n : ℕ) (r : Run) → IsSoundRun m r → IsSoundRun m (settle m n r)
  settle_sound zero r h = rested_sound r h
  settle_sound (suc n) r h = by_free (first_free m r.kernel r.kernel.order) refl (settle_sound n)
    where
      by_free : (x : Option ℕ) → first_free m r.kernel r.kernel.order ≡ x →
          ((u : Run) → IsSoundRun m u → IsSoundRun m (settle m n u)) →
          IsSoundRun m (elim x as (λ _. Run) [ None ↦ rested m r | Some p ↦ settle m n (step m p r) ])
      by_free None e rest = rested_sound r h
      by_free (Some p) e rest =
          let f = first_free_is r.kernel r.kernel.order p e in
          let c = entry_called m r.kernel f.0 h.kernel f.1 in
          rest (step m p r) (step_sound m laws owns r p c.0 h (ap r.kernel.call (sym f.2) ∙ c.1) f.3)

  pub settled_sound : (r : Run) → IsSoundRun m r → IsSoundRun m (settled m r)
  settled_sound r h = settle_sound 256 r h

  -- ---- a call changes, and the objects stay

  -- the trace of another call
  trace_beside : (k : Kernel) (call : ℕ → Option Call) (es : List Waiter) (p : ℕ) (x : Option Call) →
      trace_of m (record k { call = call; order = es }) p x ≡ trace_of m k p x
  trace_beside k call es p None = refl
  trace_beside k call es p (Some c) = refl

  pub call_sound : (r : Run) (q : ℕ) (c : Call) (a : After) → IsSoundRun m r → q < 16 →
      PieceEnds m r.kernel q c r.kernel.objects a →
      IsSoundKernel m (after_piece m r.kernel q c r.kernel.objects (order_after m q r.kernel
      r.kernel.objects (at q (call_after c a) r.kernel.call) r.kernel.clock) a)
  call_sound r q c a h low ends =
      let k = r.kernel in
      let call = at q (call_after c a) k.call in
      let es = order_after m q k k.objects call k.clock in
      kept_kernel m q k k.objects call k.clock laws owns h.kernel (λ p ne. at_other q p
      (call_after c a) k.call ne) h.kernel.state (λ p ne alive. alive) (λ p ne fd. refl)
      (all_replayed m laws owns r h.kernel h.blocks)
      (λ p ne. beside k call es p (at_other q p (call_after c a) k.call ne)) []
      (own_piece m k q c k.objects es [] a ends) low (nothing_free m q k)
    where
      level_is : (x y : Level) → Some x ≡ Some y → x ≡ y
      level_is x y e = cc

      beside : (k : Kernel) (call : ℕ → Option Call) (es : List Waiter) (p : ℕ) → call p ≡ k.call p →
          IsStable m k (record k { call = call; order = es }) p
      beside k call es p same d e = (
        d,
        ap (λ x. config_in (trace_of m (record k { call = call; order = es }) p x)) same
            ∙ ap config_in (trace_beside k call es p (k.call p)) ∙ e,
        record {
          levels = levels_alike_self d.levels;
          now = λ o held. same_self o d.now;
          kept =
              λ n l x o f g held. subst (λ (y : Level). SameThing o l.kept y.kept)
              (level_is l x (sym f ∙ g)) (thing_self m laws owns o l.kept);
        },
      )

  -- a waiter for a user lock ends
  pub timed_out_sound : (p : ℕ) (b : Blocker) (c : Call) (r : Run) → IsSoundRun m r →
      r.kernel.call p ≡ Some c → IsSoundRun m (times_out m p b c r)
  timed_out_sound p b c r h e =
      record {
        kernel =
            call_sound r p c (EndsWith Reply.Plain) h
            (caller_low m laws owns r p c h.kernel e) (record {
              caller = λ t f. absurd (ends_not t f);
              granted = λ t f. absurd (ends_not t f);
              fits = λ t f. absurd (ends_not t f);
            });
        blocks = h.blocks;
      }
    where
      ends_not : (t : Stage) → EndsWith Reply.Plain ≡ Continues t → ⊥
      ends_not t f = cc

  -- a call begins and joins the order
  pub joined_call_sound : (number p : ℕ) (call : SysCall) (t : Stage) (r : Run) → IsSoundRun m r →
      r.kernel.call p ≡ None → lives r.kernel.objects.things.queue p ≡ true →
      m.early r.kernel.world r.kernel.images p call ≡ Ok t → IsSoundRun m
      (joins p (with_call p (Some (record { number = number; stage = t; marks = None })) r))
  joined_call_sound number p call t r h none alive e =
      let k = r.kernel in
      let c : Call = record { number = number; stage = t; marks = None } in
      let calls = at p (Some c) k.call in
      let sound = call_sound r p c (Continues t) h (h.kernel.state.store.numbers p alive) (record {
        caller = λ u f. alive;
        granted =
            λ u f. ap (λ (y : Stage). is_ok (m.early k.world k.images p y.call))
            (sym (stage_is u f)) ∙ ap (λ y. is_ok (m.early k.world k.images p y))
            (laws.stages.same_call k.world k.images p call t e) ∙ ap is_ok e;
        fits =
            λ u f. ap (m.fits k.world k.objects p) (sym (stage_is u f))
            ∙ laws.stages.first k.world k.images k.objects p call t e;
      }) in
      let order : order_after m p k k.objects calls k.clock ≡ k.order ++ new_entry p ∷ [] =
      ap (λ y. less_entry p k.order ++ cond (is_at_piece y) (new_entry p ∷ []) []) (at_here p (Some c) k.call)
      ∙ ap (λ es. es ++ new_entry p ∷ []) (less_away p k.order (uncalled_away m k p h.kernel none)) in
      record {
        kernel = subst (λ es. IsSoundKernel m (after_piece m k p c k.objects es (Continues t)))
            order sound;
        blocks = h.blocks;
      }
    where
      stage_is : (u : Stage) → Continues t ≡ Continues u → t ≡ u
      stage_is u f = cc

  -- a call begins, or is refused
  pub begun_sound : (number p : ℕ) (call : SysCall) (x : Result Stage Refusal) (r : Run) →
      IsSoundRun m r → r.kernel.call p ≡ None → lives r.kernel.objects.things.queue p ≡ true →
      m.early r.kernel.world r.kernel.images p call ≡ x → IsSoundRun m (begun m number p x r)
  begun_sound number p call (Err refusal) r h none alive e = noted_sound m (Refused number refusal) r h
  begun_sound number p call (Ok t) r h none alive e =
      settled_sound
      (joins p (with_call p (Some (record { number = number; stage = t; marks = None })) r))
      (joined_call_sound number p call t r h none alive e)

  -- ---- notes

  pub last_sound : (p : ℕ) (r : Run) → IsSoundRun m r → IsSoundRun m (last m p r)
  last_sound p r h = by_call (r.kernel.call p)
    where
      by_blocker : (n : ℕ) (x : Option Blocker) → IsSoundRun m (waits_note n x r)
      by_blocker n None = h
      by_blocker n (Some b) = record { kernel = h.kernel; blocks = h.blocks }

      by_levels : (n : ℕ) (ls : List Level) → IsSoundRun m (graft_note n ls r)
      by_levels n [] = h
      by_levels n (l ∷ ls) = record { kernel = h.kernel; blocks = h.blocks }

      by_order : (c : Call) (b : Bool) →
          IsSoundRun m (elim b as (λ _. Run) [
            | true ↦ waits_note c.number (blocker m r.kernel p) r
            | false ↦ graft_note c.number (levels_of m r.kernel p) r
          ])
      by_order c true = by_blocker c.number (blocker m r.kernel p)
      by_order c false = by_levels c.number (levels_of m r.kernel p)

      by_call : (x : Option Call) → IsSoundRun m (last_note m p x r)
      by_call None = h
      by_call (Some c) = by_order c (in_order p r.kernel.order)
