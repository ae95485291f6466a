-- What is kept through each move, and through what else befalls calls and their order, is kept through lines.
use Rattle.std.specs.Prelude.{◌≡◌, ℕ, zero, suc, ◌<◌, ◌&&◌, not, nat_le, Bool, true, false, List, [], ◌∷◌, ◌++◌}
use Rattle.std.specs.Prelude.{length, Option, Some, None, Result, Ok, Err}
use Rattle.std.proofs.Common.{arith, refl, subst, sym, ap, ◌∙◌}
use Rattle.std.proofs.lemmas.Bool.{and_parts}
use Rattle.std.proofs.lemmas.List.{append-nil, append_assoc}
use Rattle.script_model.specs.declared.Cause.{Cause}
use Rattle.script_model.specs.declared.Cause.TheVariants.{TimeOut}
use Rattle.script_model.specs.declared.Event.{Event}
use Rattle.script_model.specs.declared.Event.TheVariants.{Tick, Step, Sys}
use Rattle.script_model.specs.declared.Note.{Note}
use Rattle.script_model.specs.declared.Note.TheVariants.{Refused, Ran, Waits, InGraft}
use Rattle.script_model.specs.declared.Refusal.{Refusal}
use Rattle.script_model.specs.declared.Refusal.TheVariants.{NoProcess, Busy, BadIndex}
use Rattle.script_model.specs.declared.SysCall.{SysCall}
use Rattle.script_model.specs.Policies.{lives}
use Rattle.script_model.specs.Meaning.{Meaning, Stage}
use Rattle.script_model.specs.Levels.{Level}
use Rattle.script_model.specs.Locks.{outermost_holding}
use Rattle.script_model.specs.History.{Mark, Trace}
use Rattle.script_model.specs.Kernel.{Call, Blocker, Waiter, Run, noted, joins, with_call, has_level}
use Rattle.script_model.specs.Blocking.{trace_of, levels_of, holds, needs, blocker}
use Rattle.script_model.specs.Settle.{first_free, rested, settle, settled, step}
use Rattle.script_model.specs.Events.{MOST_STEPS, in_order, innermost, wanted, expired, ticked, waits_note, graft_note}
use Rattle.script_model.specs.Events.{last_note, last, begun, sys_event, steps, step_event, drop_marked, drop_call}
use Rattle.script_model.specs.Events.{times_out, waiter_action, holder_action, action, entry_action, actions, event_on}
use Rattle.script_model.specs.Laws.{Laws}
use Rattle.graft_laws.specs.Kernels.{IsSoundRun}
use Rattle.graft_laws.specs.Notes.{is_drop}
use Rattle.graft_laws.proofs.EventLemmas.{joins_sound, ticked_sound, held_level}
use Rattle.graft_laws.proofs.KernelStepLemmas.{step_sound, drop_sound}
use Rattle.graft_laws.proofs.OrderLemmas.{entry_called}
use Rattle.graft_laws.proofs.SettleSoundLemmas.{noted_sound, rested_sound, first_free_is, timed_out_sound}
use Rattle.graft_laws.proofs.SettleSoundLemmas.{joined_call_sound}
use Rattle.run_laws.specs.Moves.{Move, Steps, Acts, settle_moves, settled_moves, begun_moves, sys_moves}
use Rattle.run_laws.specs.Moves.{steps_moves, actions_moves, event_moves}

-- a call that has just begun
abbrev pub new_call : ℕ → Stage → Call
new_call number t = record { number = number; stage = t; marks = None }

-- What is kept of the moves so far and the run that they led to: through each move, and through what else an event
-- does to calls and their order.
pub record Kept (m : Meaning) (Q : List Move → Run → Type 0) : Type 0 where
  -- a step of a call that nothing blocks
  pub steps : (l : List Move) (p : ℕ) (c : Call) (r : Run) → IsSoundRun m r → r.kernel.call p ≡ Some c →
      blocker m r.kernel p ≡ None → Q l r → Q (l ++ Steps p r ∷ []) (step m p r)
  -- an action that drops a level
  pub drops : (l : List Move) (e : Waiter) (p n : ℕ) (cause : Cause) (r : Run) → IsSoundRun m r →
      n < length (levels_of m r.kernel p) →
      entry_action m e e.blocker r ≡ drop_call m p (r.kernel.call p) (Some n) cause r → Q l r →
      Q (l ++ Acts e r ∷ []) (drop_call m p (r.kernel.call p) (Some n) cause r)
  -- one that ends a call without a level
  pub ends : (l : List Move) (e : Waiter) (p : ℕ) (b : Blocker) (c : Call) (r : Run) → IsSoundRun m r →
      r.kernel.call p ≡ Some c → c.marks ≡ None → entry_action m e e.blocker r ≡ times_out m p b c r → Q l r →
      Q (l ++ Acts e r ∷ []) (times_out m p b c r)
  -- one that does nothing
  pub idle : (l : List Move) (e : Waiter) (r : Run) → entry_action m e e.blocker r ≡ r → Q l r →
      Q (l ++ Acts e r ∷ []) r
  -- a note that tells no drop
  pub notes : (l : List Move) (x : Note) (r : Run) → is_drop x ≡ false → Q l r → Q l (noted x r)
  -- a call that begins
  pub begins : (l : List Move) (number p : ℕ) (call : SysCall) (t : Stage) (r : Run) → IsSoundRun m r →
      r.kernel.call p ≡ None → lives r.kernel.objects.things.queue p ≡ true →
      m.early r.kernel.world r.kernel.images p call ≡ Ok t → Q l r →
      Q l (joins p (with_call p (Some (new_call number t)) r))
  -- a blocked call in a graft that joins the order
  pub joined : (l : List Move) (p : ℕ) (b : Blocker) (r : Run) → IsSoundRun m r →
      has_level (r.kernel.call p) ≡ true → in_order p r.kernel.order ≡ false → blocker m r.kernel p ≡ Some b →
      Q l r → Q l (joins p r)
  -- an order that is told its blockers
  pub rests : (l : List Move) (r : Run) → IsSoundRun m r → Q l r → Q l (rested m r)
  -- the clock and the counts
  pub ticks : (l : List Move) (number : ℕ) (r : Run) → IsSoundRun m r → Q l r → Q l (ticked number r)

level_call : (x : Option Call) → has_level x ≡ true → (c : Call) × (x ≡ Some c)
level_call None e = absurd cc
level_call (Some c) e = (c, refl)

not_is : (b : Bool) → not b ≡ true → b ≡ false
not_is true e = absurd cc
not_is false e = refl

module _ (m : Meaning) (laws : Laws m) (Q : List Move → Run → Type 0) (kept : Kept m Q) where
  -- the run is sound, and it holds
  abbrev pub On : List Move → Run → Type 0
  On l r = IsSoundRun m r × Q l r

  nothing_more : (l : List Move) (r : Run) → On l r → On (l ++ []) r
  nothing_more l r h = subst (λ x. On x r) (sym (append-nil l)) h

  both : (l a b : List Move) (r : Run) → On ((l ++ a) ++ b) r → On (l ++ (a ++ b)) r
  both l a b r h = subst (λ x. On x r) (append_assoc l a b) h

  -- ---- settling

  one_step : (l : List Move) (p : ℕ) (c : Call) (r : Run) → r.kernel.call p ≡ Some c → blocker m r.kernel p ≡ None →
      On l r → On (l ++ Steps p r ∷ []) (step m p r)
  one_step l p c r is free h =
      (step_sound m laws laws.need.grafts r p c h.0 is free, kept.steps l p c r h.0 is free h.1)

  rest_kept : (l : List Move) (r : Run) → On l r → On l (rested m r)
  rest_kept l r h = (rested_sound m laws laws.need.grafts r h.0, kept.rests l r h.0 h.1)

  settle_kept : (n : ℕ) (l : List Move) (r : Run) → On l r → On (l ++ settle_moves m n r) (settle m n r)
  settle_kept zero l r h = nothing_more l (rested m r) (rest_kept l r h)
  settle_kept (suc n) l r h = by_free (first_free m r.kernel r.kernel.order) refl (settle_kept n)
    where
      by_free : (x : Option ℕ) → first_free m r.kernel r.kernel.order ≡ x →
          ((k : List Move) (u : Run) → On k u → On (k ++ settle_moves m n u) (settle m n u)) →
          On (l ++ elim x as (λ _. List Move) [ None ↦ [] | Some p ↦ Steps p r ∷ settle_moves m n (step m p r) ])
          (elim x as (λ _. Run) [ None ↦ rested m r | Some p ↦ settle m n (step m p r) ])
      by_free None e rest = nothing_more l (rested m r) (rest_kept l r h)
      by_free (Some p) e rest =
          let f = first_free_is m laws laws.need.grafts r.kernel r.kernel.order p e in
          let c = entry_called m r.kernel f.0 h.0.kernel f.1 in
          both l (Steps p r ∷ []) (settle_moves m n (step m p r)) (settle m n (step m p r))
          (rest (l ++ Steps p r ∷ []) (step m p r)
          (one_step l p c.0 r (ap r.kernel.call (sym f.2) ∙ c.1) f.3 h))

  settled_kept : (l : List Move) (r : Run) → On l r → On (l ++ settled_moves m r) (settled m r)
  settled_kept l r h = settle_kept 256 l r h

  -- ---- instructions

  steps_kept : (p n taken : ℕ) (l : List Move) (r : Run) → On l r →
      On (l ++ steps_moves m p n r) (steps m p n taken r).1
  steps_kept p zero taken l r h = nothing_more l r h
  steps_kept p (suc n) taken l r h =
      by_test (has_level (r.kernel.call p) && not (in_order p r.kernel.order)) refl (blocker m r.kernel p) refl
      (steps_kept p n (suc taken))
    where
      by_test : (t : Bool) → (has_level (r.kernel.call p) && not (in_order p r.kernel.order)) ≡ t →
          (x : Option Blocker) → blocker m r.kernel p ≡ x →
          ((k : List Move) (u : Run) → On k u → On (k ++ steps_moves m p n u) (steps m p n (suc taken) u).1) →
          On (l ++ elim t as (λ _. List Move) [
            | false ↦ []
            | true ↦ elim x as (λ _. List Move) [
              | Some b ↦ settled_moves m (joins p r)
              | None ↦ Steps p r ∷ (settled_moves m (step m p r) ++ steps_moves m p n (settled m (step m p r)))
            ]
          ])
          (elim t as (λ _. ℕ × Run) [
            | false ↦ (taken, r)
            | true ↦ elim x as (λ _. ℕ × Run) [
              | Some b ↦ (taken, settled m (joins p r))
              | None ↦ steps m p n (suc taken) (settled m (step m p r))
            ]
          ]).1
      by_test false e x f rest = nothing_more l r h
      by_test true e None f rest =
          let parts = and_parts (has_level (r.kernel.call p)) (not (in_order p r.kernel.order)) e in
          let c = level_call (r.kernel.call p) parts.0 in
          let u = settled m (step m p r) in
          let last = (steps m p n (suc taken) u).1 in
          both l (Steps p r ∷ []) (settled_moves m (step m p r) ++ steps_moves m p n u) last
          (both (l ++ Steps p r ∷ []) (settled_moves m (step m p r)) (steps_moves m p n u) last
          (rest ((l ++ Steps p r ∷ []) ++ settled_moves m (step m p r)) u
          (settled_kept (l ++ Steps p r ∷ []) (step m p r) (one_step l p c.0 r c.1 f h))))
      by_test true e (Some b) f rest =
          let parts = and_parts (has_level (r.kernel.call p)) (not (in_order p r.kernel.order)) e in
          let away = not_is (in_order p r.kernel.order) parts.1 in
          settled_kept l (joins p r)
          (joins_sound m laws laws.need.grafts p b r h.0 parts.0 away f, kept.joined l p b r h.0 parts.0 away f h.1)

  -- ---- ticks

  module _ (l : List Move) (e : Waiter) (r : Run) (h : On l r) where
    -- it holds after the action that leaves a run
    abbrev Acted : Run → Type 0
    Acted u = On (l ++ Acts e r ∷ []) u

    idle_kept : (u : Run) → entry_action m e e.blocker r ≡ u → u ≡ r → Acted u
    idle_kept u does same = subst Acted (sym same) (h.0, kept.idle l e r (does ∙ same) h.1)

    drop_kept : (p : ℕ) (d : Option ℕ) (cause : Cause) →
        ((n : ℕ) → d ≡ Some n → n < length (levels_of m r.kernel p)) →
        entry_action m e e.blocker r ≡ drop_call m p (r.kernel.call p) d cause r →
        Acted (drop_call m p (r.kernel.call p) d cause r)
    drop_kept p (Some n) cause low does = (
      drop_sound m laws laws.need.grafts r p n cause h.0 (low n refl),
      kept.drops l e p n cause r h.0 (low n refl) does h.1,
    )
    drop_kept p None cause low does =
        idle_kept (drop_call m p (r.kernel.call p) None cause r) does (by_call (r.kernel.call p))
      where
        by_marks : (c : Call) (x : Option (List Mark)) (t : Option Trace) → drop_marked m p c x t None cause r ≡ r
        by_marks c (Some ks) (Some t) = refl
        by_marks c (Some ks) None = refl
        by_marks c None t = refl

        by_call : (x : Option Call) → drop_call m p x None cause r ≡ r
        by_call None = refl
        by_call (Some c) = by_marks c c.marks (trace_of m r.kernel p (Some c))

    innermost_low : (ls : List Level) (n : ℕ) → innermost ls ≡ Some n → n < length ls
    innermost_low [] n f = absurd cc
    innermost_low (x ∷ ls) n f = low (length ls) n (is_it (length ls) n f)
      where
        is_it : (a b : ℕ) → Some a ≡ Some b → a ≡ b
        is_it a b f = cc

        low : (a n : ℕ) → a ≡ n → n < suc a
        low a n f = omega arith

    waiter_kept : (p : ℕ) (b : Blocker) → entry_action m e e.blocker r ≡ waiter_action m p b (r.kernel.call p) r →
        Acted (waiter_action m p b (r.kernel.call p) r)
    waiter_kept p b does = by_call (r.kernel.call p) refl does
      where
        by_marks : (c : Call) → r.kernel.call p ≡ Some c → (x : Option (List Mark)) → c.marks ≡ x →
            let u = elim x as (λ _. Run) [
              | None ↦ times_out m p b c r
              | Some ks ↦ drop_call m p (Some c) (innermost (levels_of m r.kernel p)) (TimeOut b.object b.holder) r
            ] in
            entry_action m e e.blocker r ≡ u → Acted u
        by_marks c is None none does =
            (timed_out_sound m laws laws.need.grafts p b c r h.0 is, kept.ends l e p b c r h.0 is none does h.1)
        by_marks c is (Some ks) some does =
            let d = innermost (levels_of m r.kernel p) in
            let cause = TimeOut b.object b.holder in
            subst (λ x. entry_action m e e.blocker r ≡ drop_call m p x d cause r → Acted (drop_call m p x d cause r)) is
            (drop_kept p d cause (innermost_low (levels_of m r.kernel p))) does

        by_call : (x : Option Call) → r.kernel.call p ≡ x → entry_action m e e.blocker r ≡ waiter_action m p b x r →
            Acted (waiter_action m p b x r)
        by_call None is does = idle_kept r does refl
        by_call (Some c) is does = by_marks c is c.marks refl does

    holder_kept : (p : ℕ) (b : Blocker) → entry_action m e e.blocker r ≡ holder_action m p b r →
        Acted (holder_action m p b r)
    holder_kept p b does =
        let mode = wanted b.object (needs m r.kernel p) in
        drop_kept b.holder (outermost_holding b.object mode (holds m r.kernel b.holder)) (TimeOut b.object p)
        (λ n f. held_level m laws laws.need.grafts r b.holder b.object mode n f) does

    action_kept : Acted (entry_action m e e.blocker r)
    action_kept = by_blocker e.blocker refl
      where
        by_holder : (b : Blocker) (x : Option ℕ) → entry_action m e e.blocker r ≡ action m e.process b x r →
            Acted (action m e.process b x r)
        by_holder b None does = waiter_kept e.process b does
        by_holder b (Some n) does = holder_kept e.process b does

        by_blocker : (x : Option Blocker) → e.blocker ≡ x → Acted (entry_action m e x r)
        by_blocker None f = idle_kept r (ap (λ x. entry_action m e x r) f) refl
        by_blocker (Some b) f = by_holder b b.call (ap (λ x. entry_action m e x r) f)

  actions_kept : (n : ℕ) (l : List Move) (r : Run) → On l r → On (l ++ actions_moves m n r) (actions m n r)
  actions_kept zero l r h = nothing_more l r h
  actions_kept (suc n) l r h = by_expired (expired r.kernel r.kernel.order) (actions_kept n)
    where
      by_expired : (x : Option Waiter) →
          ((k : List Move) (u : Run) → On k u → On (k ++ actions_moves m n u) (actions m n u)) →
          On (l ++ elim x as (λ _. List Move) [
            | None ↦ []
            | Some e ↦ Acts e r ∷ (settled_moves m (entry_action m e e.blocker r)
                ++ actions_moves m n (settled m (entry_action m e e.blocker r)))
          ])
          (elim x as (λ _. Run) [
            | None ↦ r
            | Some e ↦ actions m n (settled m (entry_action m e e.blocker r))
          ])
      by_expired None rest = nothing_more l r h
      by_expired (Some e) rest =
          let a = entry_action m e e.blocker r in
          let u = settled m a in
          both l (Acts e r ∷ []) (settled_moves m a ++ actions_moves m n u) (actions m n u)
          (both (l ++ Acts e r ∷ []) (settled_moves m a) (actions_moves m n u) (actions m n u)
          (rest ((l ++ Acts e r ∷ []) ++ settled_moves m a) u
          (settled_kept (l ++ Acts e r ∷ []) a (action_kept l e r h))))

  -- ---- events

  note_kept : (l : List Move) (x : Note) (r : Run) → is_drop x ≡ false → On l r → On l (noted x r)
  note_kept l x r other h = (noted_sound m x r h.0, kept.notes l x r other h.1)

  last_kept : (p : ℕ) (l : List Move) (r : Run) → On l r → On l (last m p r)
  last_kept p l r h = by_call (r.kernel.call p)
    where
      by_blocker : (n : ℕ) (b : Option Blocker) → On l (waits_note n b r)
      by_blocker n None = h
      by_blocker n (Some b) = note_kept l (Waits n b.object b.holder) r refl h

      by_levels : (n : ℕ) (ls : List Level) → On l (graft_note n ls r)
      by_levels n [] = h
      by_levels n (x ∷ ls) = note_kept l (InGraft n x.owner x.point (suc (length ls))) r refl h

      by_place : (c : Call) (b : Bool) →
          On l (elim b as (λ _. Run) [
            | true ↦ waits_note c.number (blocker m r.kernel p) r
            | false ↦ graft_note c.number (levels_of m r.kernel p) r
          ])
      by_place c true = by_blocker c.number (blocker m r.kernel p)
      by_place c false = by_levels c.number (levels_of m r.kernel p)

      by_call : (x : Option Call) → On l (last_note m p x r)
      by_call None = h
      by_call (Some c) = by_place c (in_order p r.kernel.order)

  begun_kept : (number p : ℕ) (call : SysCall) (x : Result Stage Refusal) (l : List Move) (r : Run) →
      r.kernel.call p ≡ None → lives r.kernel.objects.things.queue p ≡ true →
      m.early r.kernel.world r.kernel.images p call ≡ x → On l r →
      On (l ++ begun_moves m number p x r) (begun m number p x r)
  begun_kept number p call (Err refusal) l r none alive early h =
      nothing_more l (noted (Refused number refusal) r) (note_kept l (Refused number refusal) r refl h)
  begun_kept number p call (Ok t) l r none alive early h =
      settled_kept l (joins p (with_call p (Some (new_call number t)) r)) (
        joined_call_sound m laws laws.need.grafts number p call t r h.0 none alive early,
        kept.begins l number p call t r h.0 none alive early h.1,
      )

  -- any event
  pub event_kept : (number : ℕ) (e : Event) (l : List Move) (r : Run) → On l r →
      On (l ++ event_moves m number e r) (event_on m number e r)
  event_kept number Tick l r h =
      actions_kept 288 l (ticked number r)
      (ticked_sound m laws laws.need.grafts number r h.0, kept.ticks l number r h.0 h.1)
  event_kept number (Step p n) l r h = by_life (lives r.kernel.objects.things.queue p)
    where
      refused : (why : Refusal) → On (l ++ []) (noted (Refused number why) r)
      refused why = nothing_more l (noted (Refused number why) r) (note_kept l (Refused number why) r refl h)

      by_range : (b : Bool) →
          On (l ++ elim b as (λ _. List Move) [ true ↦ steps_moves m p n r | false ↦ [] ])
          (elim b as (λ _. Run) [ true ↦ step_event m number p n r | false ↦ noted (Refused number BadIndex) r ])
      by_range false = refused BadIndex
      by_range true =
          let s = steps m p n 0 r in
          let k = l ++ steps_moves m p n r in
          last_kept p k (noted (Ran number s.0) s.1)
          (note_kept k (Ran number s.0) s.1 refl (steps_kept p n 0 l r h))

      by_life : (b : Bool) →
          On (l ++ elim b as (λ _. List Move) [
            | false ↦ []
            | true ↦ elim (nat_le 1 n && nat_le n MOST_STEPS) as (λ _. List Move)
                [ true ↦ steps_moves m p n r | false ↦ [] ]
          ])
          (elim b as (λ _. Run) [
            | false ↦ noted (Refused number NoProcess) r
            | true ↦ elim (nat_le 1 n && nat_le n MOST_STEPS) as (λ _. Run)
                [ true ↦ step_event m number p n r | false ↦ noted (Refused number BadIndex) r ]
          ])
      by_life false = refused NoProcess
      by_life true = by_range (nat_le 1 n && nat_le n MOST_STEPS)
  event_kept number (Sys p call) l r h = by_life (lives r.kernel.objects.things.queue p) refl
    where
      by_call : (x : Option Call) → r.kernel.call p ≡ x → lives r.kernel.objects.things.queue p ≡ true →
          On (l ++ sys_moves m number p call x r) (sys_event m number p call x r)
      by_call (Some c) is alive =
          nothing_more l (noted (Refused number (Busy c.number)) r)
          (note_kept l (Refused number (Busy c.number)) r refl h)
      by_call None is alive =
          let x = m.early r.kernel.world r.kernel.images p call in
          last_kept p (l ++ begun_moves m number p x r) (begun m number p x r)
          (begun_kept number p call x l r is alive refl h)

      by_life : (b : Bool) → lives r.kernel.objects.things.queue p ≡ b →
          On (l ++ elim b as (λ _. List Move)
          [ false ↦ [] | true ↦ sys_moves m number p call (r.kernel.call p) r ])
          (elim b as (λ _. Run) [
            | false ↦ noted (Refused number NoProcess) r
            | true ↦ sys_event m number p call (r.kernel.call p) r
          ])
      by_life false e =
          nothing_more l (noted (Refused number NoProcess) r) (note_kept l (Refused number NoProcess) r refl h)
      by_life true e = by_call (r.kernel.call p) refl e
