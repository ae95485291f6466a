-- A sound kernel stays sound over steps, drops, settling and time-outs, where replays of other calls stay alike.
use Rattle.std.specs.Prelude.{◌≡◌, ◌≢◌, ℕ, ◌<◌, List, [], length, is_some, Option, Some, None}
use Rattle.std.proofs.Common.{refl, subst, sym, ap, ◌∙◌}
use Rattle.kernel_model.specs.declared.Cause.{Cause}
use Rattle.kernel_model.specs.declared.Need.{Need}
use Rattle.kernel_model.specs.declared.Point.{Point}
use Rattle.kernel_model.specs.Objects.{GraftValue}
use Rattle.kernel_model.specs.Locks.{untouched}
use Rattle.kernel_model.specs.Meaning.{Meaning}
use Rattle.kernel_model.specs.Levels.{drop_level}
use Rattle.kernel_model.specs.GraftStep.{micro}
use Rattle.kernel_model.specs.History.{Mark, Trace, begin_at, begin_with, first_trace, replay}
use Rattle.kernel_model.specs.Kernel.{Call, Run}
use Rattle.kernel_model.specs.Blocking.{config_in, levels_in, trace_of, config_of, levels_of}
use Rattle.kernel_model.specs.Blocking.{needs_at, needs_in, needs, blocker}
use Rattle.kernel_model.specs.Settle.{finish_on, piece_at, piece_step, graft_step, marked_step, call_step}
use Rattle.kernel_model.specs.Events.{drop_marked}
use Rattle.kernel_model.specs.Sound.{IsSoundKernel, HasWholeBlocks}
use Rattle.kernel_model.specs.Claims.{IsStable}
use Rattle.graft_laws.proofs.HistoryHoldLemmas.{NeedsOk, touch_all_ok}
use Rattle.graft_laws.proofs.MoveLemmas.{StandsAt}
use Rattle.graft_laws.proofs.StepMoveLemmas.{stands_on}
use Rattle.graft_laws.proofs.NoteLemmas.{sound_stands}
use Rattle.graft_laws.proofs.BesideLemmas.{may_hold, unblocked_ok}
use Rattle.graft_laws.proofs.HistoryKernelStepLemmas.{Known, StaysSound, May, finish_sound, marks_sound, stay_sound}
use Rattle.graft_laws.proofs.OutcomeLemmas.{outcome_sound, instruction_likely, drop_likely}
use Rattle.kernel_laws.proofs.SettleLemmas.{alike_self}

module _ (m : Meaning) (know : Known m) where
  -- ---- one step

  module _ (r : Run) (sound : IsSoundKernel m r.kernel)
      (whole : HasWholeBlocks r.kernel.world r.blocks) (p : ℕ) (c : Call)
      (is : r.kernel.call p ≡ Some c) where
    -- what stands of the run
    here : StandsAt m r
    here = sound_stands m r.kernel r.blocks sound whole

    -- a piece by default
    default_sound : StaysSound m know r sound p (finish_on m p c r.kernel.objects None r)
    default_sound =
        finish_sound m know r sound p c r.kernel.objects None r.notes
        (record {
          standing = stands_on m know.laws p c r.kernel.objects r here is sound.state.store
              (alike_self r.kernel.objects);
          disk = sound.state.disk;
          right = tt;
          body = tt;
        })
        sound.state.images_loaded

    module _ (free : blocker m r.kernel p ≡ None) where
      -- a history begins
      begins_sound : (a : Point) (g : GraftValue) → c.marks ≡ None →
          m.asks r.kernel.world r.kernel.objects p c.stage ≡ Some a →
          r.kernel.objects.accounts.graft a.installer a.point ≡ Some g →
          StaysSound m know r sound p (piece_at m p c (Some g) r)
      begins_sound a g marked asked stands =
          let v = r.kernel.world in
          let s = r.kernel.objects in
          let f = begin_at r.kernel.images s p (m.need v s p c.stage) (m.feed c.stage) a in
          let needed : needs m r.kernel p ≡ m.need v s p c.stage =
          ap (needs_in m r.kernel p) is ∙ ap (λ (y : Option (List Mark)). elim y as (λ _. List Need)
          [ None ↦ m.need v s p c.stage | Some z ↦ needs_of z ]) marked in
          marks_sound m know r sound p c [] r.notes f
          (ap (λ ask. config_in
          (elim (begin_with r.kernel.images s p (m.need v s p c.stage) (m.feed c.stage)
          ask) as (λ _. Option Trace) [ None ↦ None | Some x ↦ Some (first_trace x) ])) asked)
          (ap is_some stands, tt) (
            touch_all_ok (May m know r sound p) (may_hold m know.laws know.histories r.kernel sound
                p) (m.need v s p c.stage) untouched
                ((may_hold m know.laws know.histories r.kernel sound p).free)
                (subst (NeedsOk (May m know r sound p)) needed
                (unblocked_ok m know.laws know.histories r.kernel sound p free)),
            tt,
          )
        where
          needs_of : List Mark → List Need
          needs_of z = needs_at m r.kernel (config_of m r.kernel p)

      piece_sound : (ask : Option Point) → c.marks ≡ None →
          m.asks r.kernel.world r.kernel.objects p c.stage ≡ ask →
          StaysSound m know r sound p (piece_step m p c ask r)
      piece_sound None marked asked = default_sound
      piece_sound (Some a) marked asked = piece_by (r.kernel.objects.accounts.graft a.installer a.point) refl
        where
          piece_by : (g : Option GraftValue) →
              r.kernel.objects.accounts.graft a.installer a.point ≡ g →
              StaysSound m know r sound p (piece_at m p c g r)
          piece_by None e = default_sound
          piece_by (Some g) e = begins_sound a g marked asked e

      graft_sound : (ks : List Mark) (x : Option Trace) → c.marks ≡ Some ks →
          replay m r.kernel.world r.kernel.images r.kernel.objects p c.stage ks ≡ x →
          StaysSound m know r sound p (graft_step m p c ks x r)
      graft_sound ks None marked leads = stay_sound m know r sound p r.notes
      graft_sound ks (Some t) marked leads =
          let o = micro r.kernel.world r.kernel.images p t.config in
          outcome_sound m know r sound whole here p c ks t is marked leads o o.said refl
          (instruction_likely m know r sound whole here p c ks t is marked leads free)

      marked_sound : (x : Option (List Mark)) → c.marks ≡ x → StaysSound m know r sound p (marked_step m p c x r)
      marked_sound None marked = piece_sound (m.asks r.kernel.world r.kernel.objects p c.stage) marked refl
      marked_sound (Some ks) marked =
          let same : replay m r.kernel.world r.kernel.images r.kernel.objects p c.stage ks
          ≡ trace_of m r.kernel p (Some c) =
          ap (λ (x : Option (List Mark)). elim x as (λ _. Option Trace) [
            | None ↦ None
            | Some y ↦ replay m r.kernel.world r.kernel.images r.kernel.objects p c.stage y
          ]) (sym marked) in
          graft_sound ks (trace_of m r.kernel p (Some c)) marked same

      pub call_sound : StaysSound m know r sound p (call_step m p (r.kernel.call p) r)
      call_sound = subst (λ x. StaysSound m know r sound p (call_step m p x r)) (sym is) (marked_sound c.marks refl)

    -- ---- one drop

    pub marked_drop_sound : (x : Option (List Mark)) (y : Option Trace) (d : Option ℕ)
        (cause : Cause) → c.marks ≡ x → trace_of m r.kernel p (Some c) ≡ y →
        ((n : ℕ) → d ≡ Some n → n < length (levels_of m r.kernel p)) → StandsAt m (drop_marked m p c x y d cause r) →
        ((q : ℕ) → q ≢ p → IsStable m r.kernel (drop_marked m p c x y d cause r).kernel q) →
        IsSoundKernel m (drop_marked m p c x y d cause r).kernel
    marked_drop_sound None y d cause marked leads low stands steady = sound
    marked_drop_sound (Some ks) None d cause marked leads low stands steady = sound
    marked_drop_sound (Some ks) (Some t) None cause marked leads low stands steady = sound
    marked_drop_sound (Some ks) (Some t) (Some n) cause marked leads low stands steady =
        let same : replay m r.kernel.world r.kernel.images r.kernel.objects p c.stage ks
        ≡ trace_of m r.kernel p (Some c) =
        ap (λ (x : Option (List Mark)). elim x as (λ _. Option Trace) [
          | None ↦ None
          | Some y ↦ replay m r.kernel.world r.kernel.images r.kernel.objects p c.stage y
        ]) (sym marked) in
        let o = drop_level r.kernel.world t.config.now t.config.levels n cause in
        let levels : levels_of m r.kernel p ≡ t.config.levels =
        ap (λ x. levels_in (config_in (trace_of m r.kernel p x))) is
        ∙ ap (λ x. levels_in (config_in x)) leads in
        outcome_sound m know r sound whole here p c ks t is marked (same ∙ leads) o o.said refl
        (drop_likely m know r sound whole here p c ks t is marked (same ∙ leads) n cause
        (subst (λ ls. n < length ls) levels (low n refl))) stands steady
