-- Events keep runs sound.
use Rattle.std.specs.Prelude.{◌≡◌, ℕ, zero, suc, ◌<◌, ◌≤◌, ◌&&◌, not, nat_lt, nat_le, Bool, true}
use Rattle.std.specs.Prelude.{false, List, [], ◌∷◌, length, find, option_map, Option, Some, None}
use Rattle.std.specs.Prelude.{is_some}
use Rattle.std.proofs.Common.{arith, refl, subst, sym, ap, ◌∙◌, inl, inr}
use Rattle.std.proofs.lemmas.Bool.{cases_Bool, and_parts}
use Rattle.std.proofs.lemmas.Bool.Decides.{nat_tests}
use Rattle.kernel_model.specs.declared.Cause.{Cause}
use Rattle.kernel_model.specs.declared.Cause.TheVariants.{TimeOut}
use Rattle.kernel_model.specs.declared.Event.{Event}
use Rattle.kernel_model.specs.declared.Event.TheVariants.{Tick, Step, Sys}
use Rattle.kernel_model.specs.declared.Held.{Held}
use Rattle.kernel_model.specs.declared.Mode.{Mode}
use Rattle.kernel_model.specs.declared.Need.{Need}
use Rattle.kernel_model.specs.declared.Object.{Object}
use Rattle.kernel_model.specs.declared.Note.TheVariants.{Refused, Ran}
use Rattle.kernel_model.specs.declared.Refusal.TheVariants.{NoProcess, BadIndex}
use Rattle.kernel_model.specs.declared.SysCall.{SysCall}
use Rattle.kernel_model.specs.Policies.{lives}
use Rattle.kernel_model.specs.Meaning.{Meaning}
use Rattle.kernel_model.specs.Locks.{Touched, Hindrance, conflicts, outermost_holding, first_hindrance}
use Rattle.kernel_model.specs.Levels.{Level, level_at}
use Rattle.kernel_model.specs.GraftStep.{lock_user}
use Rattle.kernel_model.specs.History.{Mark, Trace}
use Rattle.kernel_model.specs.Kernel.{Call, Blocker, Waiter, Kernel, Run, noted, joins, has_level, is_at_piece}
use Rattle.kernel_model.specs.Blocking.{config_in, levels_in, levels_of, trace_of, holds, needs, blocker, blocker_from}
use Rattle.kernel_model.specs.Settle.{settled, step}
use Rattle.kernel_model.specs.Events.{in_order, expired, counted, ticked, wanted, innermost, begun}
use Rattle.kernel_model.specs.Events.{sys_event, steps, step_event, drop_marked, drop_call}
use Rattle.kernel_model.specs.Events.{times_out, waiter_action, holder_action, action}
use Rattle.kernel_model.specs.Events.{entry_action, actions, event_on, MOST_STEPS}
use Rattle.kernel_model.specs.Laws.{Laws, NeedsGraftsExclusively}
use Rattle.graft_laws.specs.Kernels.{IsSoundRun, SettlingStaysSound, EventsStaySound}
use Rattle.graft_laws.proofs.ShapeLemmas.{contrary}
use Rattle.graft_laws.proofs.HolderLemmas.{holds_of}
use Rattle.graft_laws.proofs.KernelLemmas.{processes_in, holds_beyond}
use Rattle.graft_laws.proofs.OwnCallLemmas.{touched_beyond, all_replayed}
use Rattle.graft_laws.proofs.KernelStepLemmas.{step_sound, drop_sound}
use Rattle.graft_laws.proofs.OrderLemmas.{same_entries_sound, joined_sound}
use Rattle.graft_laws.proofs.SettleSoundLemmas.{noted_sound, away_from, settled_sound}
use Rattle.graft_laws.proofs.SettleSoundLemmas.{timed_out_sound, begun_sound, last_sound}

module _ (m : Meaning) (laws : Laws m) (owns : NeedsGraftsExclusively m) where
  -- ---- steps

  -- a blocked call in a graft joins the order
  pub joins_sound : (p : ℕ) (b : Blocker) (r : Run) → IsSoundRun m r →
      has_level (r.kernel.call p) ≡ true → in_order p r.kernel.order ≡ false →
      blocker m r.kernel p ≡ Some b → IsSoundRun m (joins p r)
  joins_sound p b r h level away blocked =
      let k = r.kernel in
      let g = graft_there k p (k.call p) refl level in
      record {
        kernel =
            joined_sound m k p h.kernel (not_piece (k.call p) level) (away_from p k.order away)
            (some_levels g.0 g.1 g.2 g.3)
            (some_needs (needs m k p) (lock_user p (levels_of m k p))
            (unmapped (first_hindrance (holds m k) k.objects.things.lock p
            (lock_user p (levels_of m k p)) (needs m k p)) blocked));
        blocks = h.blocks;
      }
    where
      not_piece : (x : Option Call) → has_level x ≡ true → is_at_piece x ≡ false
      not_piece None e = contrary (sym e)
      not_piece (Some c) e = by_marks c.marks e
        where
          by_marks : (y : Option (List Mark)) →
              elim y as (λ _. Bool) [ None ↦ false | Some ks ↦ true ] ≡ true →
              elim y as (λ _. Bool) [ None ↦ true | Some ks ↦ false ] ≡ false
          by_marks None e = contrary (sym e)
          by_marks (Some ks) e = refl

      graft_there : (k : Kernel) (p : ℕ) (x : Option Call) → k.call p ≡ x → has_level x ≡ true →
          (c : Call) × (ks : List Mark) × (k.call p ≡ Some c) × (c.marks ≡ Some ks)
      graft_there k p None f e = contrary (sym e)
      graft_there k p (Some c) f e = by_marks c.marks refl e
        where
          by_marks : (y : Option (List Mark)) → c.marks ≡ y →
              elim y as (λ _. Bool) [ None ↦ false | Some ks ↦ true ] ≡ true →
              (c : Call) × (ks : List Mark) × (k.call p ≡ Some c) × (c.marks ≡ Some ks)
          by_marks None g e = contrary (sym e)
          by_marks (Some ks) g e = (c, ks, f, g)

      some_levels : (c : Call) (ks : List Mark) → r.kernel.call p ≡ Some c → c.marks ≡ Some ks →
          1 ≤ length (levels_of m r.kernel p)
      some_levels c ks e f = by_trace (trace_of m r.kernel p (Some c)) refl (h.kernel.runs p c ks e f)
        where
          by_trace : (t : Option Trace) → trace_of m r.kernel p (Some c) ≡ t → is_some t ≡ true →
              1 ≤ length (levels_of m r.kernel p)
          by_trace None g some = contrary (sym some)
          by_trace (Some t) g some =
              let config = ap (λ x. config_in (trace_of m r.kernel p x)) e ∙ ap config_in g in
              subst (λ ls. 1 ≤ length ls) (sym (ap levels_in config))
              (all_replayed m laws owns r h.kernel h.blocks p t.config config).sound.some

      unmapped : (x : Option Hindrance) → option_map (blocker_from r.kernel) x ≡ Some b → (y : Hindrance) × (x ≡ Some y)
      unmapped None e = absurd cc
      unmapped (Some y) e = (y, refl)

      some_needs : (ns : List Need) (u : ℕ) → (y : Hindrance) × (first_hindrance (holds m r.kernel)
          r.kernel.objects.things.lock p u ns ≡ Some y) → 1 ≤ length ns
      some_needs [] u y = absurd (none_some y.0 y.1)
        where
          none_some : (y : Hindrance) → None ≡ Some y → ⊥
          none_some y e = cc
      some_needs (n ∷ ns) u y = one_more (length ns)
        where
          one_more : (n : ℕ) → 1 ≤ suc n
          one_more n = omega arith

  steps_sound : (p n taken : ℕ) (r : Run) → IsSoundRun m r → IsSoundRun m (steps m p n taken r).1
  steps_sound p zero taken r h = h
  steps_sound p (suc n) taken r h =
      by_test (has_level (r.kernel.call p) && not (in_order p r.kernel.order)) refl
      (blocker m r.kernel p) refl (steps_sound p n (suc taken))
    where
      level_call : (x : Option Call) → has_level x ≡ true → (c : Call) × (x ≡ Some c)
      level_call None e = contrary (sym e)
      level_call (Some c) e = (c, refl)

      not_is : (b : Bool) → not b ≡ true → b ≡ false
      not_is true e = contrary (sym e)
      not_is false e = refl

      by_test : (b : Bool) → (has_level (r.kernel.call p) && not (in_order p r.kernel.order)) ≡ b →
          (x : Option Blocker) → blocker m r.kernel p ≡ x →
          ((u : Run) → IsSoundRun m u → IsSoundRun m (steps m p n (suc taken) u).1) →
          IsSoundRun m (elim b as (λ _. ℕ × Run) [
            | false ↦ (taken, r)
            | true ↦ elim x as (λ _. ℕ × Run) [
              | Some y ↦ (taken, settled m (joins p r))
              | None ↦ steps m p n (suc taken) (settled m (step m p r))
            ]
          ]).1
      by_test false e x f rest = h
      by_test true e None f rest =
          let both = and_parts (has_level (r.kernel.call p)) (not (in_order p r.kernel.order)) e in
          let c = level_call (r.kernel.call p) both.0 in
          rest (settled m (step m p r))
          (settled_sound m laws owns (step m p r) (step_sound m laws owns r p c.0 h c.1 f))
      by_test true e (Some b) f rest =
          let both = and_parts (has_level (r.kernel.call p)) (not (in_order p r.kernel.order)) e in
          settled_sound m laws owns (joins p r)
          (joins_sound p b r h both.0 (not_is (in_order p r.kernel.order) both.1) f)

  -- ---- ticks

  pub ticked_sound : (number : ℕ) (r : Run) → IsSoundRun m r → IsSoundRun m (ticked number r)
  ticked_sound number r h =
      record {
        kernel = same_entries_sound m r.kernel (suc r.kernel.clock) (counted r.kernel.order)
            h.kernel (counted_same r.kernel.order);
        blocks = h.blocks;
      }
    where
      counted_same : (es : List Waiter) → processes_in (counted es) ≡ processes_in es
      counted_same [] = refl
      counted_same (e ∷ es) = ap (λ ps. e.process ∷ ps) (counted_same es)

  -- a level of a call, if there is one
  drop_if_sound : (r : Run) (p : ℕ) (d : Option ℕ) (cause : Cause) →
      IsSoundRun m r → ((n : ℕ) → d ≡ Some n → n < length (levels_of m r.kernel p)) →
      IsSoundRun m (drop_call m p (r.kernel.call p) d cause r)
  drop_if_sound r p (Some n) cause h low = drop_sound m laws owns r p n cause h (low n refl)
  drop_if_sound r p None cause h low = by_call (r.kernel.call p)
    where
      by_marks : (c : Call) (x : Option (List Mark)) (t : Option Trace) →
          IsSoundRun m (drop_marked m p c x t None cause r)
      by_marks c (Some ks) (Some t) = h
      by_marks c (Some ks) None = h
      by_marks c None t = h

      by_call : (x : Option Call) → IsSoundRun m (drop_call m p x None cause r)
      by_call None = h
      by_call (Some c) = by_marks c c.marks (trace_of m r.kernel p (Some c))

  waiter_sound : (p : ℕ) (b : Blocker) (r : Run) → IsSoundRun m r →
      IsSoundRun m (waiter_action m p b (r.kernel.call p) r)
  waiter_sound p b r h = by_call (r.kernel.call p) refl
    where
      is_top : (ls : List Level) (n : ℕ) → innermost ls ≡ Some n → n < length ls
      is_top [] n e = absurd cc
      is_top (l ∷ ls) n e = top (length ls) n (is_it (length ls) n e)
        where
          is_it : (a b : ℕ) → Some a ≡ Some b → a ≡ b
          is_it a b e = cc

          top : (a n : ℕ) → a ≡ n → n < suc a
          top a n e = omega arith

      by_marks : (c : Call) → r.kernel.call p ≡ Some c → (x : Option (List Mark)) →
          IsSoundRun m (elim x as (λ _. Run) [
            | None ↦ times_out m p b c r
            | Some ks ↦ drop_call m p (Some c) (innermost (levels_of m r.kernel p))
                (TimeOut b.object b.holder) r
          ])
      by_marks c e None = timed_out_sound m laws owns p b c r h e
      by_marks c e (Some ks) =
          subst (λ x. IsSoundRun m (drop_call m p x (innermost (levels_of m r.kernel p))
          (TimeOut b.object b.holder) r)) e
          (drop_if_sound r p (innermost (levels_of m r.kernel p)) (TimeOut b.object b.holder) h
          (λ n f. is_top (levels_of m r.kernel p) n f))

      by_call : (x : Option Call) → r.kernel.call p ≡ x → IsSoundRun m (waiter_action m p b x r)
      by_call None e = h
      by_call (Some c) e = by_marks c e c.marks

  -- a level that holds an object so is there
  pub held_level : (r : Run) (q : ℕ) (o : Object) (mode : Mode) (n : ℕ) →
      outermost_holding o mode (holds m r.kernel q) ≡ Some n → n < length (levels_of m r.kernel q)
  held_level r q o mode n e =
      is_level mode n
      (found_passes (λ d. conflicts (holds m r.kernel q d o) mode) (0 ∷ 1 ∷ 2 ∷ 3 ∷ []) n e)
    where
      found_passes : (test : ℕ → Bool) (ns : List ℕ) (n : ℕ) → find test ns ≡ Some n → test n ≡ true
      found_passes test [] n e = absurd cc
      found_passes test (x ∷ ns) n e = by_test (test x) refl e (found_passes test ns n)
        where
          is_it : (a b : ℕ) → Some a ≡ Some b → a ≡ b
          is_it a b e = cc

          by_test : (c : Bool) → test x ≡ c → find test (x ∷ ns) ≡ Some n →
              (find test ns ≡ Some n → test n ≡ true) → test n ≡ true
          by_test true f e rest = let k = rw f at e in ap test (sym (is_it x n k)) ∙ f
          by_test false f e rest = let k = rw f at e in rest k

      free_not : (mode : Mode) → conflicts Held.Free mode ≡ true → ⊥
      free_not mode e = cc

      is_level : (mode : Mode) (n : ℕ) → conflicts (holds m r.kernel q n o) mode ≡ true →
          n < length (levels_of m r.kernel q)
      is_level mode n e = elim (cases_Bool (nat_lt q 16)) [
        | inr out ↦ absurd (free_not mode (ap (λ (t : Touched). conflicts (t o) mode)
            (sym (holds_beyond m r.kernel q n (beyond q out))) ∙ e))
        | inl within ↦ elim (cases_Bool (nat_lt n (length (levels_of m r.kernel q)))) [
          | inl inside ↦ below n (length (levels_of m r.kernel q)) inside
          | inr over ↦
              let ls = levels_of m r.kernel q in
              absurd (free_not mode (ap (λ (t : Touched). conflicts (t o) mode)
              (sym (holds_of m r.kernel q n (below q 16 within)
              ∙ touched_beyond ls n (level_at n ls) (at_least n (length ls) over) refl)) ∙ e))
        ]
      ]
        where
          beyond : (p : ℕ) → nat_lt p 16 ≡ false → 16 ≤ p
          beyond p h = grind (arith, nat_tests)

          below : (p k : ℕ) → nat_lt p k ≡ true → p < k
          below p k h = grind (arith, nat_tests)

          at_least : (n k : ℕ) → nat_lt n k ≡ false → k ≤ n
          at_least n k h = grind (arith, nat_tests)

  holder_sound : (p : ℕ) (b : Blocker) (r : Run) → IsSoundRun m r → IsSoundRun m (holder_action m p b r)
  holder_sound p b r h =
      let mode = wanted b.object (needs m r.kernel p) in
      drop_if_sound r b.holder (outermost_holding b.object mode (holds m r.kernel b.holder))
      (TimeOut b.object p) h (λ n e. held_level r b.holder b.object mode n e)

  entry_sound : (e : Waiter) (x : Option Blocker) (r : Run) → IsSoundRun m r → IsSoundRun m (entry_action m e x r)
  entry_sound e None r h = h
  entry_sound e (Some b) r h = by_call b.call
    where
      by_call : (x : Option ℕ) → IsSoundRun m (action m e.process b x r)
      by_call None = waiter_sound e.process b r h
      by_call (Some n) = holder_sound e.process b r h

  actions_sound : (n : ℕ) (r : Run) → IsSoundRun m r → IsSoundRun m (actions m n r)
  actions_sound zero r h = h
  actions_sound (suc n) r h = by_expired (expired r.kernel r.kernel.order) (actions_sound n)
    where
      by_expired : (x : Option Waiter) → ((u : Run) → IsSoundRun m u → IsSoundRun m (actions m n u)) →
          IsSoundRun m (elim x as (λ _. Run) [
            | None ↦ r
            | Some e ↦ actions m n (settled m (entry_action m e e.blocker r))
          ])
      by_expired None rest = h
      by_expired (Some e) rest =
          rest (settled m (entry_action m e e.blocker r))
          (settled_sound m laws owns (entry_action m e e.blocker r) (entry_sound e e.blocker r h))

  -- ---- events

  sys_sound : (number p : ℕ) (call : SysCall) (x : Option Call) (r : Run) →
      IsSoundRun m r → r.kernel.call p ≡ x → lives r.kernel.objects.things.queue p ≡ true →
      IsSoundRun m (sys_event m number p call x r)
  sys_sound number p call (Some c) r h e alive = record { kernel = h.kernel; blocks = h.blocks }
  sys_sound number p call None r h e alive =
      last_sound m laws owns p (begun m number p (m.early r.kernel.world r.kernel.images p call) r)
      (begun_sound m laws owns number p call (m.early r.kernel.world r.kernel.images p call) r
      h e alive refl)

  pub event_sound : (number : ℕ) (e : Event) (r : Run) → IsSoundRun m r → IsSoundRun m (event_on m number e r)
  event_sound number Tick r h = actions_sound 288 (ticked number r) (ticked_sound number r h)
  event_sound number (Step p n) r h = by_lives (lives r.kernel.objects.things.queue p)
    where
      by_range : (b : Bool) → IsSoundRun m (elim b as (λ _. Run) [
        | true ↦ step_event m number p n r
        | false ↦ noted (Refused number BadIndex) r
      ])
      by_range true =
          let s = steps m p n 0 r in
          last_sound m laws owns p (noted (Ran number s.0) s.1)
          (noted_sound m (Ran number s.0) s.1 (steps_sound p n 0 r h))
      by_range false = noted_sound m (Refused number BadIndex) r h

      by_lives : (b : Bool) →
          IsSoundRun m (elim b as (λ _. Run) [
            | false ↦ noted (Refused number NoProcess) r
            | true ↦ elim (nat_le 1 n && nat_le n MOST_STEPS) as (λ _. Run) [
              | true ↦ step_event m number p n r
              | false ↦ noted (Refused number BadIndex) r
            ]
          ])
      by_lives true = by_range (nat_le 1 n && nat_le n MOST_STEPS)
      by_lives false = noted_sound m (Refused number NoProcess) r h
  event_sound number (Sys p call) r h = by_lives (lives r.kernel.objects.things.queue p) refl
    where
      by_lives : (b : Bool) → lives r.kernel.objects.things.queue p ≡ b →
          IsSoundRun m (elim b as (λ _. Run) [
            | false ↦ noted (Refused number NoProcess) r
            | true ↦ sys_event m number p call (r.kernel.call p) r
          ])
      by_lives true e = sys_sound number p call (r.kernel.call p) r h refl e
      by_lives false e = noted_sound m (Refused number NoProcess) r h

pub settling_stays_sound : (m : Meaning) → SettlingStaysSound m
settling_stays_sound m r laws h = settled_sound m laws laws.need.grafts r h

pub events_stay_sound : (m : Meaning) → EventsStaySound m
events_stay_sound m k blocks number e io laws h whole =
    event_sound m laws laws.need.grafts number e
    (record { kernel = k; blocks = blocks; notes = []; io = io })
    (record { kernel = h; blocks = whole })
