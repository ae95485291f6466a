-- Whole events, in place and in the abstract kernel.
use Rattle.std.specs.Prelude.{◌≡◌, ℕ, zero, suc, ◌<◌, ◌≤◌, not, ◌&&◌, nat_le, Bool, true, false}
use Rattle.std.specs.Prelude.{List, [], ◌∷◌, length, map, Option, Some, None, is_some}
use Rattle.std.specs.Prelude.{Result, Ok, Err}
use Rattle.std.specs.List.{AllByRecursion}
use Rattle.std.proofs.Common.{arith, refl, subst, sym, ap, ◌∙◌}
use Rattle.std.proofs.lemmas.Bool.{and_parts}
use mathlib.Core.Path.{fun_ext}
use Rattle.kernel_model.specs.declared.Cause.{Cause}
use Rattle.kernel_model.specs.declared.Cause.TheVariants.{TimeOut}
use Rattle.kernel_model.specs.declared.Event.{Event}
use Rattle.kernel_model.specs.declared.Event.TheVariants.{Tick, Step, Sys}
use Rattle.kernel_model.specs.declared.Note.{Note}
use Rattle.kernel_model.specs.declared.Note.TheVariants.{Refused, Ran, Waits, InGraft}
use Rattle.kernel_model.specs.declared.Refusal.{Refusal}
use Rattle.kernel_model.specs.declared.Refusal.TheVariants.{NoProcess, Busy, BadIndex, TimedOut}
use Rattle.kernel_model.specs.declared.SysCall.{SysCall}
use Rattle.kernel_model.specs.Policies.{lives}
use Rattle.kernel_model.specs.Meaning.{Meaning, Stage}
use Rattle.kernel_model.specs.Levels.{Level, Config}
use Rattle.kernel_model.specs.Locks.{outermost_holding}
use Rattle.kernel_model.specs.History.{Mark, Trace}
use Rattle.kernel_model.specs.Kernel.{Call, Blocker, Waiter, Kernel, Run, noted, joins, with_call, has_level}
use Rattle.kernel_model.specs.Blocking.{levels_in, config_of, levels_of, trace_of, holds, needs, blocker}
use Rattle.kernel_model.specs.Settle.{settled, step}
use Rattle.kernel_model.specs.Events.{MOST_STEPS, in_order, waits_note, graft_note, is_over}
use Rattle.kernel_model.specs.Events.{expired, counted, ticked, wanted, innermost, last_note, last}
use Rattle.kernel_model.specs.Events.{begun, sys_event, steps, step_event, drop_marked, drop_call}
use Rattle.kernel_model.specs.Events.{times_out, waiter_action, holder_action, action}
use Rattle.kernel_model.specs.Events.{entry_action, actions, event_on}
use Rattle.kernel_model.specs.Sound.{IsAtRest}
use Rattle.kernel_model.specs.Laws.{Laws}
use Rattle.graft_laws.proofs.EventLemmas.{held_level}
use Rattle.placed_laws.specs.Placed.{Placed, PlacedRun, has_some, bare, placed_holds, placed_needs, placed_blocker}
use Rattle.placed_laws.specs.PlacedSteps.{placed_noted, placed_joins, with_placed_call}
use Rattle.placed_laws.specs.PlacedSteps.{placed_ticked, placed_step, placed_drop}
use Rattle.placed_laws.specs.PlacedEvents.{placed_waits_note, placed_graft_note, is_over_by}
use Rattle.placed_laws.specs.PlacedEvents.{expired_by, placed_settled, placed_last_note}
use Rattle.placed_laws.specs.PlacedEvents.{placed_last, placed_begun, placed_sys_event}
use Rattle.placed_laws.specs.PlacedEvents.{placed_steps, placed_step_event, placed_drop_if}
use Rattle.placed_laws.specs.PlacedEvents.{placed_waiter_by, placed_waiter, placed_holder}
use Rattle.placed_laws.specs.PlacedEvents.{placed_action, placed_entry_action, placed_actions}
use Rattle.placed_laws.specs.PlacedEvents.{placed_event_on}
use Rattle.placed_laws.specs.Stands.{without_history, RunStandsFor}
use Rattle.placed_laws.specs.Keeping.{EventsStand, OthersStand}
use Rattle.placed_laws.proofs.GraftedLemmas.{grafted}
use Rattle.placed_laws.proofs.SourceLemmas.{living}
use Rattle.placed_laws.proofs.AlignLemmas.{run_over, over_store, aligned, aligned_run, placed_of}
use Rattle.placed_laws.proofs.BlockerLemmas.{modes_are, same_holds}
use Rattle.placed_laws.proofs.FreeLemmas.{StandsWhere, AtPiece, InGraft, stands_where}
use Rattle.placed_laws.proofs.PieceLemmas.{level_is}
use Rattle.placed_laws.proofs.OtherLemmas.{blocker_there, others_stand}
use Rattle.placed_laws.proofs.StandLemmas.{drops_stand}
use Rattle.placed_laws.proofs.SettleLemmas.{RunsAtRest, step_there, settled_stands}
use Rattle.placed_laws.proofs.LevelLemmas.{length_bare}
use Rattle.kernel_laws.proofs.LevelLemmas.{each_contains, each_from}
use Rattle.graft_laws.proofs.TickLemmas.{expired_is}

-- ---- the order

-- the first entry whose count has reached the patience is the same
expired_same : (k : Kernel) (es : List Waiter) → expired_by k.world es ≡ expired k es
expired_same k [] = refl
expired_same k (e ∷ es) =
    ap (λ (b : Bool). elim b as (λ _. Option Waiter) [
      | true ↦ Some e
      | false ↦ expired_by k.world es
    ]) (over_same e.blocker)
    ∙ ap (λ (y : Option Waiter). elim (is_over k e e.blocker) as (λ _. Option Waiter) [
      | true ↦ Some e
      | false ↦ y
    ]) (expired_same k es)
  where
    over_same : (b : Option Blocker) → is_over_by k.world e b ≡ is_over k e b
    over_same None = refl
    over_same (Some b) = refl

module _ (m : Meaning) (laws : Laws m) where
  others : OthersStand m
  others = others_stand m laws

  -- a kernel at rest is at rest when the counts rise
  counted_rests : (r : Run) (number : ℕ) → IsAtRest m r.kernel → IsAtRest m (ticked number r).kernel
  counted_rests r number rests e contained =
      each_contains (λ (e : Waiter). (is_some e.blocker ≡ true)
      × (blocker m r.kernel e.process ≡ e.blocker)) (counted r.kernel.order) e
      (counted_each r.kernel.order (each_from (λ (e : Waiter). (is_some e.blocker ≡ true)
      × (blocker m r.kernel e.process ≡ e.blocker)) r.kernel.order rests)) contained
    where
      counted_each : (es : List Waiter) → AllByRecursion (λ (e : Waiter). (is_some e.blocker ≡ true)
          × (blocker m r.kernel e.process ≡ e.blocker)) es →
          AllByRecursion (λ (e : Waiter). (is_some e.blocker ≡ true)
          × (blocker m r.kernel e.process ≡ e.blocker)) (counted es)
      counted_each [] h = tt
      counted_each (e ∷ es) h = (h.0, counted_each es h.1)

  -- ---- one run over its store

  -- what holds of a run in place by its store holds of it
  by_store : (x : PlacedRun) (r : Run) → RunStandsFor m x r → (f : PlacedRun → PlacedRun) (u : Run) →
      (RunStandsFor m (run_over m x.placed.objects r) r →
      RunStandsFor m (f (run_over m x.placed.objects r)) u) → RunStandsFor m (f x) u
  by_store x r h f u on =
      subst (λ (y : PlacedRun). RunStandsFor m (f y) u) (sym (aligned_run m x r h))
      (on (subst (λ (y : PlacedRun). RunStandsFor m y r) (aligned_run m x r h) h))

  -- ---- the last line

  last_stands : (p : ℕ) (x : PlacedRun) (r : Run) → RunStandsFor m x r → RunStandsFor m (placed_last m p x) (last m p r)
  last_stands p x r h = by_store x r h (placed_last m p) (last m p r) (λ on. by_call on (r.kernel.call p))
    where
      waits : (n : ℕ) (b : Option Blocker) → RunStandsFor m (run_over m x.placed.objects r) r →
          RunStandsFor m (placed_waits_note n b (run_over m x.placed.objects r)) (waits_note n b r)
      waits n None on = on
      waits n (Some b) on = others.notes (run_over m x.placed.objects r) r (Waits n b.object b.holder) on

      in_graft : (n : ℕ) (ls : List Level) → RunStandsFor m (run_over m x.placed.objects r) r →
          RunStandsFor m (placed_graft_note n (map bare ls) (run_over m x.placed.objects r))
          (graft_note n ls r)
      in_graft n [] on = on
      in_graft n (l ∷ ls) on =
          subst (λ i. RunStandsFor m
          (placed_noted (InGraft n l.owner l.point (suc i)) (run_over m x.placed.objects r))
          (noted (InGraft n l.owner l.point (suc (length ls))) r)) (sym (length_bare ls))
          (others.notes (run_over m x.placed.objects r) r (InGraft n l.owner l.point (suc (length ls))) on)

      by_order : (c : Call) (b : Bool) → RunStandsFor m (run_over m x.placed.objects r) r →
          RunStandsFor m (elim b as (λ _. PlacedRun) [
            | true ↦ placed_waits_note c.number (placed_blocker m
                (over_store m x.placed.objects r.kernel) p) (run_over m x.placed.objects r)
            | false ↦ placed_graft_note c.number (map bare (levels_of m r.kernel p)) (run_over m x.placed.objects r)
          ]) (elim b as (λ _. Run) [
            | true ↦ waits_note c.number (blocker m r.kernel p) r
            | false ↦ graft_note c.number (levels_of m r.kernel p) r
          ])
      by_order c true on =
          subst (λ b. RunStandsFor m (placed_waits_note c.number b (run_over m x.placed.objects r))
          (waits_note c.number (blocker m r.kernel p) r))
          (sym (blocker_there m laws (run_over m x.placed.objects r) r p on))
          (waits c.number (blocker m r.kernel p) on)
      by_order c false on = in_graft c.number (levels_of m r.kernel p) on

      by_call : RunStandsFor m (run_over m x.placed.objects r) r → (c : Option Call) →
          RunStandsFor m (placed_last_note m p (without_history c) (run_over m x.placed.objects r))
          (last_note m p c r)
      by_call on None = on
      by_call on (Some c) = by_order c (in_order p r.kernel.order) on

  -- the last line leaves the kernel as it is
  last_rests : (p : ℕ) (r : Run) → IsAtRest m r.kernel → IsAtRest m (last m p r).kernel
  last_rests p r rests = by_call (r.kernel.call p)
    where
      waits : (n : ℕ) (b : Option Blocker) → IsAtRest m (waits_note n b r).kernel
      waits n None = rests
      waits n (Some b) = rests

      in_graft : (n : ℕ) (ls : List Level) → IsAtRest m (graft_note n ls r).kernel
      in_graft n [] = rests
      in_graft n (l ∷ ls) = rests

      by_order : (c : Call) (b : Bool) → IsAtRest m (elim b as (λ _. Run) [
        | true ↦ waits_note c.number (blocker m r.kernel p) r
        | false ↦ graft_note c.number (levels_of m r.kernel p) r
      ]).kernel
      by_order c true = waits c.number (blocker m r.kernel p)
      by_order c false = in_graft c.number (levels_of m r.kernel p)

      by_call : (c : Option Call) → IsAtRest m (last_note m p c r).kernel
      by_call None = rests
      by_call (Some c) = by_order c (in_order p r.kernel.order)

  last_both : (p : ℕ) (x : PlacedRun) (r : Run) → RunsAtRest m x r → RunsAtRest m (placed_last m p x) (last m p r)
  last_both p x r h = record { stands = last_stands p x r h.stands; rests = last_rests p r h.rests }

  -- ---- system calls

  noted_both : (x : PlacedRun) (r : Run) (n : Note) → RunsAtRest m x r → RunsAtRest m (placed_noted n x) (noted n r)
  noted_both x r n h = record { stands = others.notes x r n h.stands; rests = h.rests }

  begun_both :
      (number p : ℕ) (call : SysCall) (y : Result Stage Refusal) (x : PlacedRun) (r : Run) →
      RunsAtRest m x r → x.placed.call p ≡ None → lives x.placed.objects.things.queue p ≡ true →
      m.early x.placed.world x.placed.images p call ≡ y →
      RunsAtRest m (placed_begun m number p y x) (begun m number p y r)
  begun_both number p call (Err refusal) x r h none alive early = noted_both x r (Refused number refusal) h
  begun_both number p call (Ok t) x r h none alive early =
      settled_stands m laws
      (placed_joins p (with_placed_call p (Some (record { number = number; stage = t })) x))
      (joins p (with_call p (Some (record { number = number; stage = t; marks = None })) r))
      (others.beginning x r p number call t h.stands none alive early)

  -- by the call that the process has
  sys_both : (number p : ℕ) (call : SysCall) (x : PlacedRun) (r : Run) (y : Option Call) →
      RunsAtRest m x r → r.kernel.call p ≡ y → lives x.placed.objects.things.queue p ≡ true →
      RunsAtRest m (placed_sys_event m number p call (without_history y) x) (sys_event m number p call y r)
  sys_both number p call x r (Some c) h e alive = noted_both x r (Refused number (Busy c.number)) h
  sys_both number p call x r None h e alive =
      let k = h.stands.kernel in
      let early : m.early x.placed.world x.placed.images p call ≡ m.early r.kernel.world r.kernel.images p call =
      ap (λ v. m.early v x.placed.images p call) k.world ∙ ap (λ i. m.early r.kernel.world i p call) k.images in
      let begins = begun_both number p call (m.early r.kernel.world r.kernel.images p call) x r h
      (k.calls p ∙ ap without_history e) alive early in
      last_both p (placed_begun m number p (m.early x.placed.world x.placed.images p call) x)
      (begun m number p (m.early r.kernel.world r.kernel.images p call) r)
      (subst (λ y. RunsAtRest m (placed_begun m number p y x)
      (begun m number p (m.early r.kernel.world r.kernel.images p call) r)) (sym early) begins)

  -- ---- instructions

  -- how many were taken up, and the runs
  record StepsBoth (x : ℕ × PlacedRun) (r : ℕ × Run) : Type 0 where
    taken : x.0 ≡ r.0
    runs : RunsAtRest m x.1 r.1

  steps_both : (p n taken : ℕ) (x : PlacedRun) (r : Run) → RunsAtRest m x r →
      StepsBoth (placed_steps m p n taken x) (steps m p n taken r)
  steps_both p zero taken x r h = record { taken = refl; runs = h }
  steps_both p (suc n) taken x r h =
      let k = h.stands.kernel in
      let test : (has_some (x.placed.levels p) && not (in_order p x.placed.order))
      ≡ (has_level (r.kernel.call p) && not (in_order p r.kernel.order)) =
      ap (λ b. b && not (in_order p x.placed.order))
      (sym (level_is m laws r.kernel k.kernel p ∙ ap has_some (sym (k.levels p))))
      ∙ ap (λ es. has_level (r.kernel.call p) && not (in_order p es)) k.order in
      by_test (has_level (r.kernel.call p) && not (in_order p r.kernel.order))
      (has_some (x.placed.levels p) && not (in_order p x.placed.order)) (blocker m r.kernel p)
      (placed_blocker m x.placed p)
      refl test refl (blocker_there m laws x r p h.stands) (steps_both p n (suc taken))
    where
      call_there : (c : Option Call) → has_level c ≡ true → (d : Call) × (c ≡ Some d)
      call_there None e = absurd cc
      call_there (Some d) e = (d, refl)

      not_is : (b : Bool) → not b ≡ true → b ≡ false
      not_is true e = absurd cc
      not_is false e = refl

      by_test : (b c : Bool) (y z : Option Blocker) →
          (has_level (r.kernel.call p) && not (in_order p r.kernel.order)) ≡ b →
          c ≡ (has_level (r.kernel.call p) && not (in_order p r.kernel.order)) →
          blocker m r.kernel p ≡ y → z ≡ blocker m r.kernel p →
          ((x : PlacedRun) (r : Run) → RunsAtRest m x r →
          StepsBoth (placed_steps m p n (suc taken) x) (steps m p n (suc taken) r)) →
          StepsBoth (elim c as (λ _. ℕ × PlacedRun) [
            | false ↦ (taken, x)
            | true ↦ elim z as (λ _. ℕ × PlacedRun) [
              | Some o ↦ (taken, placed_settled m (placed_joins p x))
              | None ↦ placed_steps m p n (suc taken) (placed_settled m (placed_step m p x))
            ]
          ]) (elim b as (λ _. ℕ × Run) [
            | false ↦ (taken, r)
            | true ↦ elim y as (λ _. ℕ × Run) [
              | Some o ↦ (taken, settled m (joins p r))
              | None ↦ steps m p n (suc taken) (settled m (step m p r))
            ]
          ])
      by_test false true y z e f g i again = absurd (bad (f ∙ e))
        where
          bad : true ≡ false → ⊥
          bad h = cc
      by_test true false y z e f g i again = absurd (bad (f ∙ e))
        where
          bad : false ≡ true → ⊥
          bad h = cc
      by_test false false y z e f g i again = record { taken = refl; runs = h }
      by_test true true None (Some o) e f g i again = absurd (bad (i ∙ g))
        where
          bad : Some o ≡ None → ⊥
          bad h = cc
      by_test true true (Some o) None e f g i again = absurd (bad (i ∙ g))
        where
          bad : None ≡ Some o → ⊥
          bad h = cc
      by_test true true None None e f g i again =
          let both = and_parts (has_level (r.kernel.call p)) (not (in_order p r.kernel.order)) e in
          let c = call_there (r.kernel.call p) both.0 in
          again (placed_settled m (placed_step m p x)) (settled m (step m p r)) (settled_stands m
          laws (placed_step m p x) (step m p r) (step_there m laws x r p c.0 h.stands c.1 g))
      by_test true true (Some o) (Some q) e f g i again =
          let k = h.stands.kernel in
          let both = and_parts (has_level (r.kernel.call p)) (not (in_order p r.kernel.order)) e in
          record {
            taken = refl;
            runs = settled_stands m laws (placed_joins p x) (joins p r)
                (others.joining x r p o h.stands
                (ap has_some (k.levels p) ∙ sym (level_is m laws r.kernel k.kernel p) ∙ both.0)
                (ap (in_order p) k.order ∙ not_is (in_order p r.kernel.order) both.1)
                (blocker_there m laws x r p h.stands ∙ g));
          }

  step_both : (number p n : ℕ) (x : PlacedRun) (r : Run) → RunsAtRest m x r →
      RunsAtRest m (placed_step_event m number p n x) (step_event m number p n r)
  step_both number p n x r h =
      let s = placed_steps m p n 0 x in
      let t = steps m p n 0 r in
      let both = steps_both p n 0 x r h in
      last_both p (placed_noted (Ran number s.0) s.1) (noted (Ran number t.0) t.1)
      (subst (λ i. RunsAtRest m (placed_noted (Ran number i) s.1) (noted (Ran number t.0) t.1))
      (sym both.taken) (noted_both s.1 t.1 (Ran number t.0) both.runs))

  -- ---- time-outs

  -- no drop
  drop_nothing : (p : ℕ) (c : Option Call) (cause : Cause) (r : Run) → drop_call m p c None cause r ≡ r
  drop_nothing p None cause r = refl
  drop_nothing p (Some c) cause r = by_marks c.marks (trace_of m r.kernel p (Some c))
    where
      by_marks : (y : Option (List Mark)) (t : Option Trace) → drop_marked m p c y t None cause r ≡ r
      by_marks None t = refl
      by_marks (Some ks) None = refl
      by_marks (Some ks) (Some t) = refl

  drop_if_stands : (p : ℕ) (d : Option ℕ) (cause : Cause) (x : PlacedRun) (r : Run) →
      RunStandsFor m x r → ((n : ℕ) → d ≡ Some n → n < length (levels_of m r.kernel p)) →
      RunStandsFor m (placed_drop_if m p d cause x) (drop_call m p (r.kernel.call p) d cause r)
  drop_if_stands p None cause x r h low =
      subst (λ (u : Run). RunStandsFor m x u) (sym (drop_nothing p (r.kernel.call p) cause r)) h
  drop_if_stands p (Some n) cause x r h low =
      drops_stand m laws x r p n cause h (subst (λ i. n < i)
      (sym (ap length (h.kernel.levels p) ∙ length_bare (levels_of m r.kernel p))) (low n refl))

  waiter_stands : (p : ℕ) (b : Blocker) (x : PlacedRun) (r : Run) (y : Option Call) →
      RunStandsFor m x r → r.kernel.call p ≡ y →
      RunStandsFor m (placed_waiter m p b (without_history y) x) (waiter_action m p b y r)
  waiter_stands p b x r None h e = h
  waiter_stands p b x r (Some c) h e =
      by_where (stands_where m r.kernel p c e (λ ks marked. h.kernel.kernel.runs p c ks e marked))
    where
      in_graft : (f : Config) (ks : List Mark) → c.marks ≡ Some ks →
          config_of m r.kernel p ≡ Some f → (ls : List Level) → levels_of m r.kernel p ≡ ls →
          1 ≤ length ls →
          RunStandsFor m (placed_waiter_by m p b (record { number = c.number; stage = c.stage })
          (map bare ls) x) (drop_call m p (Some c) (innermost ls) (TimeOut b.object b.holder) r)
      in_graft f ks marked is [] same some = absurd (none_some some)
        where
          none_some : 1 ≤ 0 → ⊥
          none_some h = omega arith
      in_graft f ks marked is (l ∷ ls) same some =
          subst (λ n. RunStandsFor m (placed_drop m p n (TimeOut b.object b.holder) x) (drop_call m
          p (Some c) (Some (length ls)) (TimeOut b.object b.holder) r)) (sym (length_bare ls))
          (subst (λ z. RunStandsFor m (placed_drop m p (length ls) (TimeOut b.object b.holder) x)
          (drop_call m p z (Some (length ls)) (TimeOut b.object b.holder) r)) e
          (drops_stand m laws x r p (length ls) (TimeOut b.object b.holder) h
          (subst (λ i. length ls < i) (sym (ap length (h.kernel.levels p) ∙ length_bare (levels_of m
          r.kernel p) ∙ ap (λ (zs : List Level). length zs) same)) (below (length ls)))))
        where
          below : (n : ℕ) → n < suc n
          below n = omega arith

      by_where : StandsWhere m r.kernel p c → RunStandsFor m (placed_waiter m p b
          (Some (record { number = c.number; stage = c.stage })) x) (waiter_action m p b (Some c) r)
      by_where (AtPiece marked none needed) =
          let bare_none = h.kernel.levels p ∙ ap (map bare) none in
          subst (λ (y : Option (List Mark)). RunStandsFor m (placed_waiter_by m p b
          (record { number = c.number; stage = c.stage }) (x.placed.levels p) x)
          (elim y as (λ _. Run) [
            | None ↦ times_out m p b c r
            | Some ks ↦ drop_call m p (Some c) (innermost (levels_of m r.kernel p))
                (TimeOut b.object b.holder) r
          ])) (sym marked)
          (subst (λ bs. RunStandsFor m (placed_waiter_by m p b (record {
            number = c.number;
            stage = c.stage;
          }) bs x) (times_out m p b c r)) (sym bare_none)
          (others.ending x r p (record { number = c.number; stage = c.stage }) (Refused c.number
          (TimedOut b.object b.holder)) h (h.kernel.calls p ∙ ap without_history e) bare_none))
      by_where (InGraft f ks marked is needed) =
          let some = (grafted m laws r.kernel h.kernel.kernel p f is).replayed.sound.some in
          subst (λ (y : Option (List Mark)). RunStandsFor m (placed_waiter_by m p b
          (record { number = c.number; stage = c.stage }) (x.placed.levels p) x)
          (elim y as (λ _. Run) [
            | None ↦ times_out m p b c r
            | Some ks ↦ drop_call m p (Some c) (innermost (levels_of m r.kernel p))
                (TimeOut b.object b.holder) r
          ])) (sym marked)
          (subst (λ bs. RunStandsFor m (placed_waiter_by m p b (record {
            number = c.number;
            stage = c.stage;
          }) bs x) (drop_call m p (Some c) (innermost (levels_of m r.kernel p))
          (TimeOut b.object b.holder) r)) (sym (h.kernel.levels p))
          (in_graft f ks marked is (levels_of m r.kernel p) refl
          (subst (λ n. 1 ≤ n) (sym (ap (λ y. length (levels_in y)) is)) some)))

  holder_stands : (p : ℕ) (b : Blocker) (x : PlacedRun) (r : Run) → RunStandsFor m x r →
      blocker m r.kernel p ≡ Some b → RunStandsFor m (placed_holder m p b x) (holder_action m p b r)
  holder_stands p b x r h blocked =
      let k = r.kernel in
      let w = x.placed.objects in
      let here = placed_of m x.placed k h.kernel in
      let mode = wanted b.object (needs m k p) in
      let same = aligned m x.placed k h.kernel in
      let modes = ap (λ (y : Placed). wanted b.object (placed_needs m y p)) same
      ∙ modes_are m laws k w here p b blocked in
      let held = ap (λ (y : Placed). placed_holds y b.holder) same
      ∙ fun_ext (λ d. fun_ext (λ o. same_holds m laws k w here b.holder d o)) in
      let level = ap (λ i. outermost_holding b.object i (placed_holds x.placed b.holder)) modes
      ∙ ap (outermost_holding b.object mode) held in
      subst (λ d. RunStandsFor m (placed_drop_if m b.holder d (TimeOut b.object p) x)
      (holder_action m p b r)) (sym level)
      (drop_if_stands b.holder (outermost_holding b.object mode (holds m k b.holder))
      (TimeOut b.object p) x r h
      (λ n e. held_level m laws laws.need.grafts r b.holder b.object mode n e))

  entry_stands : (e : Waiter) (y : Option Blocker) (x : PlacedRun) (r : Run) →
      RunStandsFor m x r → blocker m r.kernel e.process ≡ y →
      RunStandsFor m (placed_entry_action m e y x) (entry_action m e y r)
  entry_stands e None x r h blocked = h
  entry_stands e (Some b) x r h blocked = by_call b.call
    where
      by_call : (y : Option ℕ) → RunStandsFor m (placed_action m e.process b y x) (action m e.process b y r)
      by_call None =
          subst (λ z. RunStandsFor m (placed_waiter m e.process b z x) (waiter_action m e.process b
          (r.kernel.call e.process) r)) (sym (h.kernel.calls e.process))
          (waiter_stands e.process b x r (r.kernel.call e.process) h refl)
      by_call (Some n) = holder_stands e.process b x r h blocked

  actions_both : (n : ℕ) (x : PlacedRun) (r : Run) → RunsAtRest m x r →
      RunsAtRest m (placed_actions m n x) (actions m n r)
  actions_both zero x r h = h
  actions_both (suc n) x r h =
      let k = h.stands.kernel in
      let same = ap (λ v. expired_by v x.placed.order) k.world
      ∙ ap (expired_by r.kernel.world) k.order ∙ expired_same r.kernel r.kernel.order in
      subst (λ (y : Option Waiter). RunsAtRest m (elim y as (λ _. PlacedRun) [
        | None ↦ x
        | Some e ↦ placed_actions m n (placed_settled m (placed_entry_action m e e.blocker x))
      ]) (actions m (suc n) r)) (sym same)
      (by_expired (expired r.kernel r.kernel.order) refl (actions_both n))
    where
      by_expired : (y : Option Waiter) → expired r.kernel r.kernel.order ≡ y →
          ((x : PlacedRun) (r : Run) → RunsAtRest m x r →
          RunsAtRest m (placed_actions m n x) (actions m n r)) →
          RunsAtRest m (elim y as (λ _. PlacedRun) [
            | None ↦ x
            | Some e ↦ placed_actions m n (placed_settled m (placed_entry_action m e e.blocker x))
          ])
          (elim y as (λ _. Run) [ None ↦ r | Some e ↦ actions m n (settled m (entry_action m e e.blocker r)) ])
      by_expired None f again = h
      by_expired (Some e) f again =
          let rest = h.rests e (expired_is r.kernel r.kernel.order e f) in
          again (placed_settled m (placed_entry_action m e e.blocker x)) (settled m (entry_action m e e.blocker r))
          (settled_stands m laws (placed_entry_action m e e.blocker x)
          (entry_action m e e.blocker r) (entry_stands e e.blocker x r h.stands rest.1))

  -- ---- any event

  event_both : (x : PlacedRun) (r : Run) (number : ℕ) (e : Event) → RunsAtRest m x r →
      RunsAtRest m (placed_event_on m number e x) (event_on m number e r)
  event_both x r number Tick h =
      actions_both 288 (placed_ticked number x) (ticked number r) (record {
        stands = others.ticking x r number h.stands;
        rests = counted_rests r number h.rests;
      })
  event_both x r number (Step p n) h =
      subst (λ (b : Bool). RunsAtRest m (elim b as (λ _. PlacedRun) [
        | false ↦ placed_noted (Refused number NoProcess) x
        | true ↦ elim (nat_le 1 n && nat_le n MOST_STEPS) as (λ _. PlacedRun) [
          | true ↦ placed_step_event m number p n x
          | false ↦ placed_noted (Refused number BadIndex) x
        ]
      ]) (event_on m number (Step p n) r)) (sym (living m laws r.kernel
      x.placed.objects (placed_of m x.placed r.kernel h.stands.kernel) p))
      (by_lives (lives r.kernel.objects.things.queue p))
    where
      by_range : (b : Bool) → RunsAtRest m (elim b as (λ _. PlacedRun) [
        | true ↦ placed_step_event m number p n x
        | false ↦ placed_noted (Refused number BadIndex) x
      ])
          (elim b as (λ _. Run) [ true ↦ step_event m number p n r | false ↦ noted (Refused number BadIndex) r ])
      by_range true = step_both number p n x r h
      by_range false = noted_both x r (Refused number BadIndex) h

      by_lives : (b : Bool) → RunsAtRest m (elim b as (λ _. PlacedRun) [
        | false ↦ placed_noted (Refused number NoProcess) x
        | true ↦ elim (nat_le 1 n && nat_le n MOST_STEPS) as (λ _. PlacedRun) [
          | true ↦ placed_step_event m number p n x
          | false ↦ placed_noted (Refused number BadIndex) x
        ]
      ]) (elim b as (λ _. Run) [
        | false ↦ noted (Refused number NoProcess) r
        | true ↦ elim (nat_le 1 n && nat_le n MOST_STEPS) as (λ _. Run) [
          | true ↦ step_event m number p n r
          | false ↦ noted (Refused number BadIndex) r
        ]
      ])
      by_lives true = by_range (nat_le 1 n && nat_le n MOST_STEPS)
      by_lives false = noted_both x r (Refused number NoProcess) h
  event_both x r number (Sys p call) h =
      by_lives (lives r.kernel.objects.things.queue p) (lives x.placed.objects.things.queue p)
      refl same refl
    where
      same : lives x.placed.objects.things.queue p ≡ lives r.kernel.objects.things.queue p
      same = living m laws r.kernel x.placed.objects (placed_of m x.placed r.kernel h.stands.kernel) p

      by_lives : (b c : Bool) → lives r.kernel.objects.things.queue p ≡ b →
          c ≡ lives r.kernel.objects.things.queue p → lives x.placed.objects.things.queue p ≡ c →
          RunsAtRest m (elim c as (λ _. PlacedRun) [
            | false ↦ placed_noted (Refused number NoProcess) x
            | true ↦ placed_sys_event m number p call (x.placed.call p) x
          ])
          (elim b as (λ _. Run) [
            | false ↦ noted (Refused number NoProcess) r
            | true ↦ sys_event m number p call (r.kernel.call p) r
          ])
      by_lives true false e f g = absurd (bad (f ∙ e))
        where
          bad : false ≡ true → ⊥
          bad h = cc
      by_lives false true e f g = absurd (bad (f ∙ e))
        where
          bad : true ≡ false → ⊥
          bad h = cc
      by_lives false false e f g = noted_both x r (Refused number NoProcess) h
      by_lives true true e f g =
          subst (λ y. RunsAtRest m (placed_sys_event m number p call y x)
          (sys_event m number p call (r.kernel.call p) r)) (sym (h.stands.kernel.calls p))
          (sys_both number p call x r (r.kernel.call p) h refl g)

  pub events_stand : EventsStand m
  events_stand x r number e h rests =
      let both = event_both x r number e (record { stands = h; rests = rests }) in
      (both.stands, both.rests)
