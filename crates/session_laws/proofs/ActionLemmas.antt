-- What holds of a run through the steps and drops of an event.
use Rattle.std.specs.Prelude.{◌≡◌, ℕ, zero, suc, ◌<◌, ◌&&◌, Bool, true, false, not, List, [], ◌∷◌}
use Rattle.std.specs.Prelude.{length, Option, Some, None}
use Rattle.std.proofs.Common.{arith, refl, subst}
use Rattle.script_model.specs.declared.Cause.{Cause}
use Rattle.script_model.specs.declared.Cause.TheVariants.{TimeOut}
use Rattle.script_model.specs.Meaning.{Meaning}
use Rattle.script_model.specs.Levels.{Level}
use Rattle.script_model.specs.Locks.{outermost_holding}
use Rattle.script_model.specs.History.{Mark, Trace}
use Rattle.script_model.specs.Kernel.{Call, Blocker, Waiter, Run, has_level, joins, requeue}
use Rattle.script_model.specs.Blocking.{trace_of, levels_of, holds, needs, blocker}
use Rattle.script_model.specs.Settle.{call_step, first_free, rested_order, rested, settle, settled, step}
use Rattle.script_model.specs.Events.{in_order, innermost, wanted, expired, steps, drop_marked}
use Rattle.script_model.specs.Events.{drop_call, times_out, waiter_action, holder_action, action}
use Rattle.script_model.specs.Events.{entry_action, actions}
use Rattle.script_model.specs.Laws.{Laws}
use Rattle.graft_laws.proofs.EventLemmas.{held_level}
use Rattle.session_laws.proofs.TellingLemmas.{Tells, step_tells, drop_tells, end_tells}
use Rattle.script_model.specs.Quiet.{both_hold}

-- a run with another order
abbrev pub with_order : List Waiter → Run → Run
with_order es r = record r { kernel = record (r.kernel) { order = es } }

fails : (b : Bool) → not b ≡ true → b ≡ false
fails true h = absurd cc
fails false h = refl

module _ (m : Meaning) where
  -- ---- instructions

  -- what stays once all has settled after an instruction that is taken, and after one that is blocked
  pub record StepsKeep (P : Run → Type 0) : Type 0 where
    pub taken : (p : ℕ) (r : Run) → has_level (r.kernel.call p) ≡ true → blocker m r.kernel p ≡ None →
        P r → P (settled m (step m p r))
    pub blocked : (p : ℕ) (b : Blocker) (r : Run) → has_level (r.kernel.call p) ≡ true →
        in_order p r.kernel.order ≡ false → blocker m r.kernel p ≡ Some b →
        P r → P (settled m (joins p r))

  pub steps_keep : (P : Run → Type 0) → StepsKeep P → (p n taken : ℕ) (r : Run) → P r →
      P (steps m p n taken r).1
  steps_keep P on p zero taken r h = h
  steps_keep P on p (suc n) taken r h =
      by_test (has_level (r.kernel.call p) && not (in_order p r.kernel.order)) refl (blocker m r.kernel p)
      refl (steps_keep P on p n (suc taken))
    where
      by_test : (test : Bool) → (has_level (r.kernel.call p) && not (in_order p r.kernel.order)) ≡ test →
          (x : Option Blocker) → blocker m r.kernel p ≡ x →
          ((u : Run) → P u → P (steps m p n (suc taken) u).1) →
          P (elim test as (λ _. ℕ × Run) [
            | false ↦ (taken, r)
            | true ↦ elim x as (λ _. ℕ × Run) [
              | Some b ↦ (taken, settled m (joins p r))
              | None ↦ steps m p n (suc taken) (settled m (step m p r))
            ]
          ]).1
      by_test false e x f rest = h
      by_test true e None f rest =
          let both = both_hold (has_level (r.kernel.call p)) (not (in_order p r.kernel.order)) e in
          rest (settled m (step m p r)) (on.taken p r both.0 f h)
      by_test true e (Some b) f rest =
          let both = both_hold (has_level (r.kernel.call p)) (not (in_order p r.kernel.order)) e in
          on.blocked p b r both.0 (fails (in_order p r.kernel.order) both.1) f h

  -- ---- time-outs

  -- what stays after the loss of a level, and after the end of a waiter without one
  pub record Loses (P : Run → Type 0) : Type 0 where
    pub drops : (p n : ℕ) (cause : Cause) (r : Run) → n < length (levels_of m r.kernel p) → P r →
        P (drop_call m p (r.kernel.call p) (Some n) cause r)
    pub ends : (p : ℕ) (b : Blocker) (c : Call) (r : Run) → r.kernel.call p ≡ Some c → P r →
        P (times_out m p b c r)

  module _ (laws : Laws m) (P : Run → Type 0) (loses : Loses P) where
    -- a level of a call, if there is one
    drop_keeps : (p : ℕ) (d : Option ℕ) (cause : Cause) (r : Run) →
        ((n : ℕ) → d ≡ Some n → n < length (levels_of m r.kernel p)) → P r →
        P (drop_call m p (r.kernel.call p) d cause r)
    drop_keeps p (Some n) cause r low h = loses.drops p n cause r (low n refl) h
    drop_keeps p None cause r low h = by_call (r.kernel.call p)
      where
        by_marks : (c : Call) (x : Option (List Mark)) (t : Option Trace) →
            P (drop_marked m p c x t None cause r)
        by_marks c (Some ks) (Some t) = h
        by_marks c (Some ks) None = h
        by_marks c None t = h

        by_call : (x : Option Call) → P (drop_call m p x None cause r)
        by_call None = h
        by_call (Some c) = by_marks c c.marks (trace_of m r.kernel p (Some c))

    innermost_low : (ls : List Level) (n : ℕ) → innermost ls ≡ Some n → n < length ls
    innermost_low [] n e = absurd cc
    innermost_low (l ∷ ls) n e = low (length ls) n (is_it (length ls) n e)
      where
        is_it : (a b : ℕ) → Some a ≡ Some b → a ≡ b
        is_it a b e = cc

        low : (a n : ℕ) → a ≡ n → n < suc a
        low a n e = omega arith

    waiter_keeps : (p : ℕ) (b : Blocker) (r : Run) → P r →
        P (waiter_action m p b (r.kernel.call p) r)
    waiter_keeps p b r h = by_call (r.kernel.call p) refl
      where
        by_marks : (c : Call) → r.kernel.call p ≡ Some c → (x : Option (List Mark)) →
            P (elim x as (λ _. Run) [
              | None ↦ times_out m p b c r
              | Some ks ↦ drop_call m p (Some c) (innermost (levels_of m r.kernel p)) (TimeOut b.object b.holder) r
            ])
        by_marks c e None = loses.ends p b c r e h
        by_marks c e (Some ks) =
            let d = innermost (levels_of m r.kernel p) in
            subst (λ x. P (drop_call m p x d (TimeOut b.object b.holder) r)) e
            (drop_keeps p d (TimeOut b.object b.holder) r (innermost_low (levels_of m r.kernel p)) h)

        by_call : (x : Option Call) → r.kernel.call p ≡ x → P (waiter_action m p b x r)
        by_call None e = h
        by_call (Some c) e = by_marks c e c.marks

    holder_keeps : (p : ℕ) (b : Blocker) (r : Run) → P r → P (holder_action m p b r)
    holder_keeps p b r h =
        let mode = wanted b.object (needs m r.kernel p) in
        drop_keeps b.holder (outermost_holding b.object mode (holds m r.kernel b.holder))
        (TimeOut b.object p) r (λ n e. held_level m laws laws.need.grafts r b.holder b.object mode n e) h

    pub entry_keeps : (e : Waiter) (x : Option Blocker) (r : Run) → P r → P (entry_action m e x r)
    entry_keeps e None r h = h
    entry_keeps e (Some b) r h = by_holder b.call
      where
        by_holder : (x : Option ℕ) → P (action m e.process b x r)
        by_holder None = waiter_keeps e.process b r h
        by_holder (Some n) = holder_keeps e.process b r h

  -- all actions of a tick
  pub actions_keep : (P : Run → Type 0) →
      ((e : Waiter) (r : Run) → P r → P (settled m (entry_action m e e.blocker r))) →
      (n : ℕ) (r : Run) → P r → P (actions m n r)
  actions_keep P act zero r h = h
  actions_keep P act (suc n) r h =
      by_expired (expired r.kernel r.kernel.order) (actions_keep P act n)
    where
      by_expired : (x : Option Waiter) → ((u : Run) → P u → P (actions m n u)) →
          P (elim x as (λ _. Run)
          [ None ↦ r | Some e ↦ actions m n (settled m (entry_action m e e.blocker r)) ])
      by_expired None rest = h
      by_expired (Some e) rest = rest (settled m (entry_action m e e.blocker r)) (act e r h)

  -- ---- what hangs on notes and calls alone

  -- what stays where a call tells something, and in any order
  pub record IsKept (P : Run → Type 0) : Type 0 where
    pub told : (q : ℕ) (c : Call) (r u : Run) → r.kernel.call q ≡ Some c → Tells q c r u → P r → P u
    pub ordered : (es : List Waiter) (r : Run) → P r → P (with_order es r)

  module _ (P : Run → Type 0) (kept : IsKept P) where
    step_keeps : (q : ℕ) (r : Run) → P r → P (step m q r)
    step_keeps q r h = by_call (r.kernel.call q) refl
      where
        by_call : (x : Option Call) → r.kernel.call q ≡ x → P (requeue q (call_step m q x r))
        by_call None e = kept.ordered (requeue q r).kernel.order r h
        by_call (Some c) e =
            kept.told q c r (requeue q (call_step m q (Some c) r)) e (step_tells m q c r e) h

    settle_keeps : (n : ℕ) (r : Run) → P r → P (settle m n r)
    settle_keeps zero r h = kept.ordered (rested_order m r.kernel r.kernel.order) r h
    settle_keeps (suc n) r h = by_free (first_free m r.kernel r.kernel.order) (settle_keeps n)
      where
        by_free : (x : Option ℕ) → ((u : Run) → P u → P (settle m n u)) →
            P (elim x as (λ _. Run) [ None ↦ rested m r | Some q ↦ settle m n (step m q r) ])
        by_free None rest = kept.ordered (rested_order m r.kernel r.kernel.order) r h
        by_free (Some q) rest = rest (step m q r) (step_keeps q r h)

    pub settled_keeps : (r : Run) → P r → P (settled m r)
    settled_keeps r h = settle_keeps 256 r h

    pub all_steps_keep : (p n taken : ℕ) (r : Run) → P r → P (steps m p n taken r).1
    all_steps_keep p n taken r h =
        steps_keep P (record {
          taken = λ p r level free h. settled_keeps (step m p r) (step_keeps p r h);
          blocked = λ p b r level away f h. settled_keeps (joins p r) (kept.ordered (joins p r).kernel.order r h);
        }) p n taken r h

    pub all_actions_keep : Laws m → (n : ℕ) (r : Run) → P r → P (actions m n r)
    all_actions_keep laws n r h =
        actions_keep P
        (λ e r h. settled_keeps (entry_action m e e.blocker r) (entry_keeps laws P loses e e.blocker r h)) n r h
      where
        dropped : (p n : ℕ) (cause : Cause) (r : Run) → P r → (x : Option Call) → r.kernel.call p ≡ x →
            P (drop_call m p x (Some n) cause r)
        dropped p n cause r h None e = h
        dropped p n cause r h (Some c) e =
            kept.told p c r (drop_call m p (Some c) (Some n) cause r) e (drop_tells m p c (Some n) cause r e) h

        loses : Loses P
        loses = record {
          drops = λ p n cause r low h. dropped p n cause r h (r.kernel.call p) refl;
          ends = λ p b c r e h. kept.told p c r (times_out m p b c r) e (end_tells p b c m r) h;
        }
