-- What is kept through each end of a step is kept through an event, with what it shows.
use Rattle.std.specs.Prelude.{◌≡◌, ℕ, zero, suc, Bool, true, false, ◌&&◌, nat_le, List, [], ◌∷◌}
use Rattle.std.specs.Prelude.{length, Option, Some, None, Result, Ok, Err}
use Rattle.std.proofs.Common.{refl, sym, ap, subst, ◌∙◌}
use Rattle.script_model.specs.declared.Event.{Event}
use Rattle.script_model.specs.declared.Event.TheVariants.{Tick, Step, Sys}
use Rattle.script_model.specs.declared.Note.{Note}
use Rattle.script_model.specs.declared.Note.TheVariants.{Ticked, Refused, Ran, Waits, InGraft}
use Rattle.script_model.specs.declared.Point.{Point}
use Rattle.script_model.specs.declared.Cause.{Cause}
use Rattle.script_model.specs.declared.Cause.TheVariants.{TimeOut}
use Rattle.script_model.specs.declared.Refusal.{Refusal}
use Rattle.script_model.specs.declared.Refusal.TheVariants.{NoProcess, Busy, BadIndex, TimedOut}
use Rattle.script_model.specs.declared.SysCall.{SysCall}
use Rattle.script_model.specs.Objects.{at}
use Rattle.script_model.specs.Policies.{lives}
use Rattle.script_model.specs.Meaning.{Meaning, Stage, Answer}
use Rattle.script_model.specs.Locks.{outermost_holding}
use Rattle.script_model.specs.Levels.{Level, drop_level}
use Rattle.script_model.specs.History.{Mark, Trace}
use Rattle.script_model.specs.Kernel.{Call, Blocker, Waiter, Run, joins, noted, with_call}
use Rattle.script_model.specs.Blocking.{levels_of, blocker, trace_of, needs, holds}
use Rattle.script_model.specs.Settle.{after_outcome, settled}
use Rattle.script_model.specs.Events.{MOST_STEPS, in_order, waits_note, graft_note, expired}
use Rattle.script_model.specs.Events.{ticked, last_note, last, begun, sys_event, steps, step_event}
use Rattle.script_model.specs.Events.{drop_at, drop_marked, drop_call, wanted, times_out}
use Rattle.script_model.specs.Events.{waiter_action, innermost, action, entry_action, actions}
use Rattle.script_model.specs.Events.{event_on}
use Rattle.session_laws.specs.Shown.{sys_shows}
use Rattle.session_laws.specs.Sent.{step_taken, with_handler, step_answers, step_completed}
use Rattle.session_laws.specs.Served.{MeansServe}
use Rattle.session_laws.proofs.ShownLemmas.{Shown, and_then, then_nothing, new_call, settled_shown}
use Rattle.session_laws.proofs.ShownLemmas.{steps_shown, actions_shown, begun_shown, event_shown}
use Rattle.session_laws.proofs.ShownLemmas.{expired_shows, life_shows, range_shows}
use Rattle.session_laws.proofs.ShownLemmas.{step_life_shows}
use Rattle.session_laws.proofs.ServeKeptLemmas.{IsKept, asks_of_trace, drop_completes_none}
use Rattle.session_laws.proofs.ServeKeptLemmas.{outcome_kept, shows_both, settled_kept, steps_kept}

module _ (m : Meaning) (serves : MeansServe m) (Q : Shown → (ℕ → Option Call) → List Note → Type 0)
    (kept : IsKept m Q) where
  -- it holds of a run
  abbrev On : Shown → Run → Type 0
  On l r = Q l r.kernel.call r.notes

  -- ---- where a call stands at the end

  last_kept : (p : ℕ) (r : Run) (l : Shown) → On l r → On l (last m p r)
  last_kept p r l h = by_call (r.kernel.call p)
    where
      by_blocker : (n : ℕ) (b : Option Blocker) → On l (waits_note n b r)
      by_blocker n None = h
      by_blocker n (Some b) = kept.lines l r.kernel.call r.notes (Waits n b.object b.holder) refl h

      by_levels : (n : ℕ) (ls : List Level) → On l (graft_note n ls r)
      by_levels n [] = h
      by_levels n (x ∷ ls) = kept.lines l r.kernel.call r.notes (InGraft n x.owner x.point (suc (length ls))) refl h

      by_place : (c : Call) (b : Bool) →
          On l (elim b as (λ _. Run) [
            | true ↦ waits_note c.number (blocker m r.kernel p) r
            | false ↦ graft_note c.number (levels_of m r.kernel p) r
          ])
      by_place c true = by_blocker c.number (blocker m r.kernel p)
      by_place c false = by_levels c.number (levels_of m r.kernel p)

      by_call : (x : Option Call) → On l (last_note m p x r)
      by_call None = h
      by_call (Some c) = by_place c (in_order p r.kernel.order)

  step_event_kept : (number p n : ℕ) (r : Run) (l : Shown) → On l r →
      On (and_then l (steps_shown m p n r)) (step_event m number p n r)
  step_event_kept number p n r l h =
      let s = steps m p n 0 r in
      let k = and_then l (steps_shown m p n r) in
      last_kept p (noted (Ran number s.0) s.1) k
      (kept.lines k s.1.kernel.call s.1.notes (Ran number s.0) refl (steps_kept m serves Q kept p n 0 r l h))

  -- ---- time-outs

  drop_at_kept : (p : ℕ) (c : Call) (ks : List Mark) (t : Trace) (d : Option ℕ) (cause : Cause)
      (a : Point) (r : Run) (l : Shown) →
      r.kernel.call p ≡ Some c → m.asks r.kernel.world r.kernel.objects p c.stage ≡ Some a → On l r →
      On l (drop_at m p c ks t d cause r)
  drop_at_kept p c ks t None cause a r l e f h = h
  drop_at_kept p c ks t (Some d) cause a r l e f h =
      let o = drop_level r.kernel.world t.config.now t.config.levels d cause in
      let u = after_outcome m p c t ks o o.said r in
      let none : List (ℕ × (ℕ × ℕ)) = [] in
      subst (λ y. On y u)
      (ap (λ (xs : List (ℕ × Answer)). and_then l
      (record { answers = xs; completed = with_handler (Some a) xs; taken = none }))
      (drop_completes_none c t r.kernel.world t.config.now t.config.levels d cause) ∙ then_nothing l)
      (outcome_kept m serves Q kept p c t ks o o.said a r l e f h)

  drop_marked_kept : (p : ℕ) (c : Call) (ks : Option (List Mark)) (t : Option Trace) (d : Option ℕ)
      (cause : Cause) (r : Run) (l : Shown) →
      r.kernel.call p ≡ Some c → trace_of m r.kernel p (Some c) ≡ t → On l r → On l (drop_marked m p c ks t d cause r)
  drop_marked_kept p c (Some ks) (Some t) d cause r l e f h =
      let (a, asks) = asks_of_trace m r.kernel p c t f in drop_at_kept p c ks t d cause a r l e asks h
  drop_marked_kept p c None t d cause r l e f h = h
  drop_marked_kept p c (Some ks) None d cause r l e f h = h

  drop_call_kept : (p : ℕ) (x : Option Call) (d : Option ℕ) (cause : Cause) (r : Run) (l : Shown) →
      r.kernel.call p ≡ x →
      On l r → On l (drop_call m p x d cause r)
  drop_call_kept p None d cause r l e h = h
  drop_call_kept p (Some c) d cause r l e h =
      drop_marked_kept p c c.marks (trace_of m r.kernel p (Some c)) d cause r l e refl h

  waiter_kept : (p : ℕ) (b : Blocker) (x : Option Call) (r : Run) (l : Shown) → r.kernel.call p ≡ x → On l r →
      On l (waiter_action m p b x r)
  waiter_kept p b None r l e h = h
  waiter_kept p b (Some c) r l e h = by_marks c.marks
    where
      by_marks : (ks : Option (List Mark)) →
          On l (elim ks as (λ _. Run) [
            | None ↦ times_out m p b c r
            | Some x ↦ drop_call m p (Some c) (innermost (levels_of m r.kernel p)) (TimeOut b.object b.holder) r
          ])
      by_marks None =
          kept.lines l (at p None r.kernel.call) r.notes (Refused c.number (TimedOut b.object b.holder)) refl
          (kept.ends l r.kernel.call r.notes p h)
      by_marks (Some ks) =
          drop_call_kept p (Some c) (innermost (levels_of m r.kernel p)) (TimeOut b.object b.holder) r l e h

  action_kept : (p : ℕ) (b : Blocker) (n : Option ℕ) (r : Run) (l : Shown) → On l r → On l (action m p b n r)
  action_kept p b None r l h = waiter_kept p b (r.kernel.call p) r l refl h
  action_kept p b (Some n) r l h =
      drop_call_kept b.holder (r.kernel.call b.holder)
      (outermost_holding b.object (wanted b.object (needs m r.kernel p))
      (holds m r.kernel b.holder)) (TimeOut b.object p) r l
      refl h

  entry_kept : (e : Waiter) (b : Option Blocker) (r : Run) (l : Shown) → On l r → On l (entry_action m e b r)
  entry_kept e None r l h = h
  entry_kept e (Some b) r l h = action_kept e.process b b.call r l h

  actions_by : (n : ℕ) (r : Run) (l : Shown) →
      ((q : Run) (k : Shown) → On k q → On (and_then k (actions_shown m n q)) (actions m n q)) →
      On l r → (x : Option Waiter) →
      On (and_then l (record {
        answers = expired_shows m (step_answers m) n r x;
        completed = expired_shows m (step_completed m) n r x;
        taken = expired_shows m step_taken n r x;
      }))
      (elim x as (λ _. Run) [ None ↦ r | Some e ↦ actions m n (settled m (entry_action m e e.blocker r)) ])
  actions_by n r l go h None = subst (λ y. On y r) (sym (then_nothing l)) h
  actions_by n r l go h (Some e) =
      let u = entry_action m e e.blocker r in
      shows_both m serves Q kept l (settled_shown m u) (actions_shown m n (settled m u)) (actions m n (settled m u))
      (go (settled m u) (and_then l (settled_shown m u))
      (settled_kept m serves Q kept u l (entry_kept e e.blocker r l h)))

  actions_kept : (n : ℕ) (r : Run) (l : Shown) → On l r → On (and_then l (actions_shown m n r)) (actions m n r)
  actions_kept zero r l h = subst (λ y. On y r) (sym (then_nothing l)) h
  actions_kept (suc n) r l h = actions_by n r l (actions_kept n) h (expired r.kernel r.kernel.order)

  -- ---- events

  begun_kept : (number p : ℕ) (x : Result Stage Refusal) (r : Run) (l : Shown) → On l r →
      ((t : Stage) → x ≡ Ok t → On l (with_call p (Some (new_call number t)) r)) →
      On (and_then l (begun_shown m number p x r)) (begun m number p x r)
  begun_kept number p (Err refusal) r l h begins =
      subst (λ y. On y (noted (Refused number refusal) r)) (sym (then_nothing l))
      (kept.lines l r.kernel.call r.notes (Refused number refusal) refl h)
  begun_kept number p (Ok t) r l h begins =
      settled_kept m serves Q kept (joins p (with_call p (Some (new_call number t)) r)) l (begins t refl)

  -- a system call, where a call of its number may begin
  pub sys_kept : (number p : ℕ) (call : SysCall) (r : Run) (l : Shown) → On l r →
      ((t : Stage) → m.early r.kernel.world r.kernel.images p call ≡ Ok t →
      On l (with_call p (Some (new_call number t)) r)) →
      On (and_then l (event_shown m number (Sys p call) r)) (event_on m number (Sys p call) r)
  sys_kept number p call r l h begins = by_life (lives r.kernel.objects.things.queue p)
    where
      by_call : (x : Option Call) →
          On (and_then l (record {
            answers = sys_shows m (step_answers m) number p call x r;
            completed = sys_shows m (step_completed m) number p call x r;
            taken = sys_shows m step_taken number p call x r;
          })) (sys_event m number p call x r)
      by_call (Some c) =
          subst (λ y. On y (noted (Refused number (Busy c.number)) r)) (sym (then_nothing l))
          (kept.lines l r.kernel.call r.notes (Refused number (Busy c.number)) refl h)
      by_call None =
          let x = m.early r.kernel.world r.kernel.images p call in
          last_kept p (begun m number p x r) (and_then l (begun_shown m number p x r))
          (begun_kept number p x r l h begins)

      by_life : (b : Bool) →
          On (and_then l (record {
            answers = life_shows m (step_answers m) number p call r b;
            completed = life_shows m (step_completed m) number p call r b;
            taken = life_shows m step_taken number p call r b;
          }))
          (elim b as (λ _. Run) [
            | false ↦ noted (Refused number NoProcess) r
            | true ↦ sys_event m number p call (r.kernel.call p) r
          ])
      by_life false =
          subst (λ y. On y (noted (Refused number NoProcess) r)) (sym (then_nothing l))
          (kept.lines l r.kernel.call r.notes (Refused number NoProcess) refl h)
      by_life true = by_call (r.kernel.call p)

  step_kept_by_life : (number p n : ℕ) (r : Run) (l : Shown) → On l r →
      On (and_then l (event_shown m number (Step p n) r)) (event_on m number (Step p n) r)
  step_kept_by_life number p n r l h = by_life (lives r.kernel.objects.things.queue p)
    where
      by_range : (b : Bool) →
          On (and_then l (record {
            answers = range_shows m (step_answers m) p n r b;
            completed = range_shows m (step_completed m) p n r b;
            taken = range_shows m step_taken p n r b;
          }))
          (elim b as (λ _. Run) [ true ↦ step_event m number p n r | false ↦ noted (Refused number BadIndex) r ])
      by_range true = step_event_kept number p n r l h
      by_range false =
          subst (λ y. On y (noted (Refused number BadIndex) r)) (sym (then_nothing l))
          (kept.lines l r.kernel.call r.notes (Refused number BadIndex) refl h)

      by_life : (b : Bool) →
          On (and_then l (record {
            answers = step_life_shows m (step_answers m) p n r b;
            completed = step_life_shows m (step_completed m) p n r b;
            taken = step_life_shows m step_taken p n r b;
          }))
          (elim b as (λ _. Run) [
            | false ↦ noted (Refused number NoProcess) r
            | true ↦ elim (nat_le 1 n && nat_le n MOST_STEPS) as (λ _. Run)
                [ true ↦ step_event m number p n r | false ↦ noted (Refused number BadIndex) r ]
          ])
      by_life false =
          subst (λ y. On y (noted (Refused number NoProcess) r)) (sym (then_nothing l))
          (kept.lines l r.kernel.call r.notes (Refused number NoProcess) refl h)
      by_life true = by_range (nat_le 1 n && nat_le n MOST_STEPS)

  -- any event, where a call of its number may begin
  pub event_kept : (number : ℕ) (e : Event) (r : Run) (l : Shown) → On l r →
      ((p : ℕ) (t : Stage) → On l (with_call p (Some (new_call number t)) r)) →
      On (and_then l (event_shown m number e r)) (event_on m number e r)
  event_kept number Tick r l h begins =
      actions_kept 288 (ticked number r) l
      (kept.lines l r.kernel.call r.notes (Ticked number (suc r.kernel.clock)) refl h)
  event_kept number (Step p n) r l h begins = step_kept_by_life number p n r l h
  event_kept number (Sys p call) r l h begins = sys_kept number p call r l h (λ t e. begins p t)
