-- What many steps and drops leave and write together.
use Rattle.std.specs.Prelude.{◌≡◌, ℕ, zero, suc, ◌+◌, ◌≤◌, ◌&&◌, Bool, true, false, not, List, []}
use Rattle.std.specs.Prelude.{◌∷◌, ◌++◌, Option, Some, None, is_some}
use Rattle.std.specs.Result.{is_ok}
use Rattle.std.proofs.Common.{arith, refl, subst, sym, ap, ◌∙◌, inl, inr}
use Rattle.std.proofs.lemmas.Bool.{cases_eq}
use Rattle.std.proofs.lemmas.List.{append_assoc, append-nil}
use Rattle.kernel_model.specs.declared.Cause.{Cause}
use Rattle.kernel_model.specs.declared.Note.{Note}
use Rattle.kernel_model.specs.declared.Note.TheVariants.{Refused}
use Rattle.kernel_model.specs.declared.Refusal.TheVariants.{TimedOut}
use Rattle.kernel_model.specs.World.{World, ImageTable}
use Rattle.kernel_model.specs.Objects.{Objects}
use Rattle.kernel_model.specs.Policies.{lives}
use Rattle.kernel_model.specs.Meaning.{Meaning}
use Rattle.kernel_model.specs.History.{Mark, Trace}
use Rattle.kernel_model.specs.Kernel.{Call, Blocker, Waiter, Run, has_level, noted, with_call}
use Rattle.kernel_model.specs.Blocking.{trace_of, levels_of, holds, needs, blocker}
use Rattle.kernel_model.specs.Locks.{outermost_holding}
use Rattle.kernel_model.specs.Settle.{call_step, step, first_free, rested, settle, settled}
use Rattle.kernel_model.specs.Events.{in_order, innermost, wanted, expired, steps, drop_at}
use Rattle.kernel_model.specs.Events.{drop_marked, drop_call, times_out, waiter_action, action}
use Rattle.kernel_model.specs.Events.{entry_action, actions}
use Rattle.kernel_model.specs.declared.Cause.TheVariants.{TimeOut}
use Rattle.kernel_model.specs.Kernel.{joins}
use Rattle.kernel_model.specs.Sound.{once_if, sum_below}
use Rattle.kernel_model.specs.Laws.{Laws, slices_in}
use Rattle.kernel_model.specs.Claims.{EffectsStaySound}
use Rattle.call_laws.specs.Ledgers.{at_here, at_other, sum_one}
use Rattle.kernel_laws.specs.Soundness.{InstructionsWork, HistoriesWork}
use Rattle.graft_laws.specs.Notes.{is_end, is_data, is_line, note_count}
use Rattle.graft_laws.proofs.MoveLemmas.{count_more, Stands, StandsAt, IsOn, OwnAfter, Moves}
use Rattle.graft_laws.proofs.StepMoveLemmas.{call_moves, drop_moves}
use Rattle.kernel_laws.proofs.SettleLemmas.{left_of, left_of_same}

-- ---- what is left

-- how many pieces all calls have left
abbrev pub pieces_left : Meaning → World → Objects → (ℕ → Option Call) → ℕ
pieces_left m v s call = sum_below 16 (λ p. left_of m v s p (call p))

-- how many calls are in flight
abbrev pub calls_left : (ℕ → Option Call) → ℕ
calls_left call = sum_below 16 (λ p. once_if (is_some (call p)))

-- all slices, where each call in flight counts as one
abbrev pub slices_due : Run → ℕ
slices_due r = slices_in r.kernel.objects.things.queue + calls_left r.kernel.call

-- what a run goes on to: each call in flight still stands, pieces and calls pay for notes, and calls for slices
pub record Goes (m : Meaning) (r u : Run) : Type 0 where
  pub stands : StandsAt m u
  pub new : List Note
  pub notes : u.notes ≡ r.notes ++ new
  pub data_notes : note_count is_data new + pieces_left m u.kernel.world u.kernel.objects
      u.kernel.call ≤ pieces_left m r.kernel.world r.kernel.objects r.kernel.call
  pub ends : note_count is_end new + calls_left u.kernel.call ≤ calls_left r.kernel.call
  pub lines : note_count is_line new ≡ 0
  pub slices : slices_due u ≤ slices_due r

-- a run goes on to itself, and on from where it went
pub goes_self : (m : Meaning) (r : Run) → StandsAt m r → Goes m r r
goes_self m r h =
    record {
      stands = h;
      new = [];
      notes = sym (append-nil r.notes);
      data_notes = itself (pieces_left m r.kernel.world r.kernel.objects r.kernel.call);
      ends = itself (calls_left r.kernel.call);
      lines = refl;
      slices = no_more (slices_due r);
    }
  where
    itself : (n : ℕ) → 0 + n ≤ n
    itself n = omega arith

    no_more : (n : ℕ) → n ≤ n
    no_more n = omega arith

pub goes_then : (m : Meaning) (r u x : Run) → Goes m r u → Goes m u x → Goes m r x
goes_then m r u x h k =
    record {
      stands = k.stands;
      new = h.new ++ k.new;
      notes = k.notes ∙ ap (λ ns. ns ++ k.new) h.notes ∙ append_assoc r.notes h.new k.new;
      data_notes = together (note_count is_data (h.new ++ k.new)) (note_count is_data h.new) (note_count is_data k.new)
          (pieces_left m x.kernel.world x.kernel.objects x.kernel.call)
          (pieces_left m u.kernel.world u.kernel.objects u.kernel.call)
          (pieces_left m r.kernel.world r.kernel.objects r.kernel.call)
          (count_more is_data h.new k.new) k.data_notes h.data_notes;
      ends =
          together (note_count is_end (h.new ++ k.new)) (note_count is_end h.new)
          (note_count is_end k.new) (calls_left x.kernel.call) (calls_left u.kernel.call)
          (calls_left r.kernel.call) (count_more is_end h.new k.new) k.ends h.ends;
      lines =
          none (note_count is_line (h.new ++ k.new)) (note_count is_line h.new)
          (note_count is_line k.new) (count_more is_line h.new k.new) h.lines k.lines;
      slices = at_most (slices_due x) (slices_due u) (slices_due r) k.slices h.slices;
    }
  where
    at_most : (a b c : ℕ) → a ≤ b → b ≤ c → a ≤ c
    at_most a b c e f = omega arith

    together : (n a b x y z : ℕ) → n ≡ a + b → b + x ≤ y → a + y ≤ z → n + x ≤ z
    together n a b x y z e f g = omega arith

    none : (n a b : ℕ) → n ≡ a + b → a ≡ 0 → b ≡ 0 → n ≡ 0
    none n a b e f g = omega arith

-- the order doesn't matter
pub goes_order : (m : Meaning) (r u : Run) (es : List Waiter) → Goes m r u →
    Goes m r (record u { kernel = record (u.kernel) { order = es } })
goes_order m r u es h =
    record {
      stands = h.stands;
      new = h.new;
      notes = h.notes;
      data_notes = h.data_notes;
      ends = h.ends;
      lines = h.lines;
      slices = h.slices;
    }

module _ (m : Meaning) (laws : Laws m) where
  -- ---- one move

  -- what stands where there is a call
  on_call : (v : World) (images : ImageTable) (p : ℕ) (u : Objects) (x : Option Call) (d : Call) →
      OwnAfter m v images p u x → x ≡ Some d → IsOn m v images p u d
  on_call v images p u x d own e = subst (OwnAfter m v images p u) e own

  -- each call in flight stands after a move
  stands_after : (p : ℕ) (r u : Run) → StandsAt m r → Moves m p r u →
      Stands m r.kernel.world r.kernel.images u.kernel.objects u.blocks u.kernel.call
  stands_after p r u h k =
      let v = r.kernel.world in
      let mine = λ (q : ℕ) (d : Call) (same : q ≡ p) (e : u.kernel.call q ≡ Some d).
      on_call v r.kernel.images p u.kernel.objects (u.kernel.call p) d k.own
      (ap u.kernel.call (sym same) ∙ e) in
      record {
        store = k.store;
        disk = k.disk;
        whole = k.whole;
        callers = λ q d e. elim (cases_eq q p) [
          | inl same ↦ ap (lives u.kernel.objects.things.queue) same ∙ (mine q d same e).caller
          | inr ne ↦ k.live q ne (h.callers q d (sym (k.calls q ne) ∙ e))
        ];
        granted = λ q d e. elim (cases_eq q p) [
          | inl same ↦ ap (λ i. is_ok (m.early v r.kernel.images i d.stage.call)) same ∙ (mine q d same e).granted
          | inr ne ↦ h.granted q d (sym (k.calls q ne) ∙ e)
        ];
        fit = λ q d e. elim (cases_eq q p) [
          | inl same ↦ ap (λ i. m.fits v u.kernel.objects i d.stage) same ∙ (mine q d same e).fits
          | inr ne ↦ sym (laws.stages.fits_same v r.kernel.objects u.kernel.objects q d.stage
              (k.files q ne)) ∙ h.fit q d (sym (k.calls q ne) ∙ e)
        ];
      }

  -- a move of a call in flight
  pub move_goes : (p : ℕ) (c : Call) (r u : Run) → StandsAt m r → r.kernel.call p ≡ Some c → Moves m p r u → Goes m r u
  move_goes p c r u h e k =
      let v = r.kernel.world in
      let low = h.store.numbers p (h.callers p c e) in
      let after = stands_after p r u h k in
      let pieces = sum_one 16 p (λ q. left_of m v u.kernel.objects q (u.kernel.call q))
      (λ q. left_of m v r.kernel.objects q (r.kernel.call q)) low
      (λ q less ne. ap (left_of m v u.kernel.objects q) (k.calls q ne)
      ∙ left_of_same m laws v r.kernel.objects u.kernel.objects q (r.kernel.call q) (k.files q ne)) in
      let calls = sum_one 16 p (λ q. once_if (is_some (u.kernel.call q)))
      (λ q. once_if (is_some (r.kernel.call q))) low
      (λ q less ne. ap (λ x. once_if (is_some x)) (k.calls q ne)) in
      record {
        stands = subst (λ w. Stands m w u.kernel.images u.kernel.objects u.blocks u.kernel.call) (sym k.world)
            (subst (λ i. Stands m v i u.kernel.objects u.blocks u.kernel.call) (sym k.images) after);
        new = k.new;
        notes = k.notes;
        data_notes =
            subst (λ w. note_count is_data k.new + pieces_left m w u.kernel.objects u.kernel.call
            ≤ pieces_left m v r.kernel.objects r.kernel.call) (sym k.world)
            (paid (note_count is_data k.new) (pieces_left m v u.kernel.objects u.kernel.call)
            (pieces_left m v r.kernel.objects r.kernel.call)
            (left_of m v u.kernel.objects p (u.kernel.call p))
            (left_of m v r.kernel.objects p (r.kernel.call p)) pieces k.data_notes);
        ends =
            paid (note_count is_end k.new) (calls_left u.kernel.call)
            (calls_left r.kernel.call) (once_if (is_some (u.kernel.call p)))
            (once_if (is_some (r.kernel.call p))) calls k.ends;
        lines = k.lines;
        slices = fewer (slices_in u.kernel.objects.things.queue) (slices_in r.kernel.objects.things.queue)
            (calls_left u.kernel.call) (calls_left r.kernel.call) (once_if (is_some (u.kernel.call p)))
            (once_if (is_some (r.kernel.call p))) calls k.slices;
      }
    where
      fewer : (s t x y a b : ℕ) → x + b ≡ y + a → s + a ≤ t + b → s + x ≤ t + y
      fewer s t x y a b e h = omega arith

      paid : (n x y a b : ℕ) → x + b ≡ y + a → n + a ≤ b → n + x ≤ y
      paid n x y a b e h = omega arith

  module _ (instructions : InstructionsWork) (histories : HistoriesWork m) where
    -- ---- steps

    -- a step of a process, if it has a call
    pub step_goes : (p : ℕ) (r : Run) → StandsAt m r → Goes m r (step m p r)
    step_goes p r h =
        goes_order m r (call_step m p (r.kernel.call p) r) (step m p r).kernel.order
        (step_by (r.kernel.call p) refl)
      where
        step_by : (x : Option Call) → r.kernel.call p ≡ x → Goes m r (call_step m p (r.kernel.call p) r)
        step_by None e = subst (λ x. Goes m r (call_step m p x r)) (sym e) (goes_self m r h)
        step_by (Some c) e =
            move_goes p c r (call_step m p (r.kernel.call p) r) h e
            (call_moves m laws instructions histories p c r h e)

    pub settle_goes : (n : ℕ) (r : Run) → StandsAt m r → Goes m r (settle m n r)
    settle_goes zero r h = goes_order m r r (rested m r).kernel.order (goes_self m r h)
    settle_goes (suc n) r h = settle_by (first_free m r.kernel r.kernel.order) (λ p. settle_goes n (step m p r))
      where
        settle_by : (x : Option ℕ) →
            ((p : ℕ) → StandsAt m (step m p r) → Goes m (step m p r) (settle m n (step m p r))) →
            Goes m r (elim x as (λ _. Run) [ None ↦ rested m r | Some p ↦ settle m n (step m p r) ])
        settle_by None more = goes_order m r r (rested m r).kernel.order (goes_self m r h)
        settle_by (Some p) more =
            let one = step_goes p r h in
            goes_then m r (step m p r) (settle m n (step m p r)) one (more p one.stands)

    -- settling, after a move
    pub settled_goes : (r u : Run) → Goes m r u → Goes m r (settled m u)
    settled_goes r u h = goes_then m r u (settled m u) h (settle_goes 256 u h.stands)

    pub steps_go : (p n taken : ℕ) (r : Run) → StandsAt m r → Goes m r (steps m p n taken r).1
    steps_go p zero taken r h = goes_self m r h
    steps_go p (suc n) taken r h =
        steps_by (has_level (r.kernel.call p) && not (in_order p r.kernel.order))
        (blocker m r.kernel p) (λ u. steps_go p n (suc taken) u)
      where
        steps_by : (b : Bool) (x : Option Blocker) →
            ((u : Run) → StandsAt m u → Goes m u (steps m p n (suc taken) u).1) →
            Goes m r (elim b as (λ _. ℕ × Run) [
              | false ↦ (taken, r)
              | true ↦ elim x as (λ _. ℕ × Run) [
                | Some b ↦ (taken, settled m (joins p r))
                | None ↦ steps m p n (suc taken) (settled m (step m p r))
              ]
            ]).1
        steps_by false x more = goes_self m r h
        steps_by true (Some b) more =
            settled_goes r (joins p r) (goes_order m r r (joins p r).kernel.order (goes_self m r h))
        steps_by true None more =
            let one = settled_goes r (step m p r) (step_goes p r h) in
            goes_then m r (settled m (step m p r)) (steps m p n (suc taken)
            (settled m (step m p r))).1 one (more (settled m (step m p r)) one.stands)

    -- ---- time-outs

    module _ (effects : EffectsStaySound) where
      drop_goes : (p : ℕ) (c : Call) (ks : Option (List Mark)) (x : Option Trace) (d : Option ℕ)
          (cause : Cause) (r : Run) → StandsAt m r → r.kernel.call p ≡ Some c →
          c.marks ≡ ks → trace_of m r.kernel p (Some c) ≡ x → Goes m r (drop_marked m p c ks x d cause r)
      drop_goes p c None x d cause r h e marked is = goes_self m r h
      drop_goes p c (Some ks) None d cause r h e marked is = goes_self m r h
      drop_goes p c (Some ks) (Some t) None cause r h e marked is = goes_self m r h
      drop_goes p c (Some ks) (Some t) (Some d) cause r h e marked is =
          let u = drop_at m p c ks t (Some d) cause r in
          goes_order m r _ u.kernel.order (move_goes p c r _ h e
          (drop_moves m laws instructions histories effects p c ks t d cause r h e marked is))

      pub call_drop_goes : (p : ℕ) (x : Option Call) (d : Option ℕ) (cause : Cause) (r : Run) →
          StandsAt m r → r.kernel.call p ≡ x → Goes m r (drop_call m p x d cause r)
      call_drop_goes p None d cause r h e = goes_self m r h
      call_drop_goes p (Some c) d cause r h e =
          drop_goes p c c.marks (trace_of m r.kernel p (Some c)) d cause r h e refl refl

      -- a waiter without a level ends
      pub ends_moves : (p : ℕ) (b : Blocker) (c : Call) (r : Run) → StandsAt m r → r.kernel.call p ≡ Some c →
          Moves m p r (noted (Refused c.number (TimedOut b.object b.holder)) (with_call p None r))
      ends_moves p b c r h e =
          let here = at_here p None r.kernel.call in
          record {
            world = refl;
            images = refl;
            order = refl;
            store = h.store;
            disk = h.disk;
            whole = h.whole;
            calls = λ q ne. at_other p q None r.kernel.call ne;
            live = λ q ne alive. alive;
            files = λ q ne fd. refl;
            own = subst (OwnAfter m r.kernel.world r.kernel.images p r.kernel.objects) (sym here) tt;
            new = Refused c.number (TimedOut b.object b.holder) ∷ [];
            notes = refl;
            drops = none_most (once_if (has_level (r.kernel.call p)));
            data_notes =
                none_left (left_of m r.kernel.world r.kernel.objects p _)
                (left_of m r.kernel.world r.kernel.objects p (r.kernel.call p))
                (ap (left_of m r.kernel.world r.kernel.objects p) here);
            ends =
                one_end (once_if (is_some _)) (once_if (is_some (r.kernel.call p)))
                (ap (λ x. once_if (is_some x)) here) (ap (λ x. once_if (is_some x)) e);
            lines = refl;
            slices = ended (slices_in r.kernel.objects.things.queue) (once_if (is_some _))
                (once_if (is_some (r.kernel.call p))) (ap (λ x. once_if (is_some x)) here);
          }
        where
          ended : (s x n : ℕ) → x ≡ 0 → s + x ≤ s + n
          ended s x n e = omega arith

          none_most : (n : ℕ) → 0 ≤ n
          none_most n = omega arith

          none_left : (x n : ℕ) → x ≡ 0 → 0 + x ≤ n
          none_left x n e = omega arith

          one_end : (x n : ℕ) → x ≡ 0 → n ≡ 1 → 1 + x ≤ n
          one_end x n e f = omega arith

      pub ends_goes : (p : ℕ) (b : Blocker) (c : Call) (r : Run) → StandsAt m r →
          r.kernel.call p ≡ Some c → Goes m r (times_out m p b c r)
      ends_goes p b c r h e =
          let u = noted (Refused c.number (TimedOut b.object b.holder)) (with_call p None r) in
          goes_order m r u (times_out m p b c r).kernel.order (move_goes p c r u h e (ends_moves p b c r h e))

      waiter_goes : (p : ℕ) (b : Blocker) (x : Option Call) (r : Run) → StandsAt m r →
          r.kernel.call p ≡ x → Goes m r (waiter_action m p b x r)
      waiter_goes p b None r h e = goes_self m r h
      waiter_goes p b (Some c) r h e = waiter_by c.marks
        where
          waiter_by : (ks : Option (List Mark)) → Goes m r (elim ks as (λ _. Run) [
            | None ↦ times_out m p b c r
            | Some ks ↦ drop_call m p (Some c) (innermost (levels_of m r.kernel p)) (TimeOut b.object b.holder) r
          ])
          waiter_by None = ends_goes p b c r h e
          waiter_by (Some ks) =
              call_drop_goes p (Some c) (innermost (levels_of m r.kernel p))
              (TimeOut b.object b.holder) r h e

      pub entry_goes : (e : Waiter) (x : Option Blocker) (r : Run) → StandsAt m r → Goes m r (entry_action m e x r)
      entry_goes e None r h = goes_self m r h
      entry_goes e (Some b) r h = action_by b.call
        where
          action_by : (n : Option ℕ) → Goes m r (action m e.process b n r)
          action_by None = waiter_goes e.process b (r.kernel.call e.process) r h refl
          action_by (Some n) =
              call_drop_goes b.holder (r.kernel.call b.holder)
              (outermost_holding b.object (wanted b.object (needs m r.kernel e.process))
              (holds m r.kernel b.holder)) (TimeOut b.object e.process) r h refl

      pub actions_go : (n : ℕ) (r : Run) → StandsAt m r → Goes m r (actions m n r)
      actions_go zero r h = goes_self m r h
      actions_go (suc n) r h = actions_by (expired r.kernel r.kernel.order) (λ u. actions_go n u)
        where
          actions_by : (x : Option Waiter) → ((u : Run) → StandsAt m u → Goes m u (actions m n u)) →
              Goes m r (elim x as (λ _. Run) [
                | None ↦ r
                | Some e ↦ actions m n (settled m (entry_action m e e.blocker r))
              ])
          actions_by None more = goes_self m r h
          actions_by (Some e) more =
              let u = entry_action m e e.blocker r in
              let one = settled_goes r u (entry_goes e e.blocker r h) in
              goes_then m r (settled m u) (actions m n (settled m u)) one (more (settled m u) one.stands)
