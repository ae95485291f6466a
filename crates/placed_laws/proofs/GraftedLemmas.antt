-- What is known of a call in a graft of a sound kernel.
use Rattle.std.specs.Prelude.{◌≡◌, ℕ, ◌<◌, true, false, List, Option, Some, None}
use Rattle.std.proofs.Common.{subst, sym, ◌∙◌}
use Rattle.kernel_model.specs.declared.Object.{Object}
use Rattle.kernel_model.specs.declared.Point.{Point}
use Rattle.kernel_model.specs.World.{World, ImageTable}
use Rattle.kernel_model.specs.Objects.{Objects}
use Rattle.kernel_model.specs.Locks.{touch_all, untouched, is_held}
use Rattle.kernel_model.specs.Meaning.{Meaning, Stage}
use Rattle.kernel_model.specs.Levels.{Config}
use Rattle.kernel_model.specs.History.{Mark, Trace, first_trace, begin_at, begin_with, marks_on, replay}
use Rattle.kernel_model.specs.Kernel.{Call, Kernel}
use Rattle.kernel_model.specs.Blocking.{config_of}
use Rattle.kernel_model.specs.InPlace.{is_changed_in}
use Rattle.kernel_model.specs.Sound.{IsSoundKernel}
use Rattle.kernel_model.specs.Alike.{is_needed, is_needed_exclusively, is_held_in}
use Rattle.kernel_model.specs.Laws.{Laws, IsStanding}
use Rattle.kernel_laws.specs.Soundness.{WorksOn}
use Rattle.kernel_laws.proofs.UndoingLemmas.{inverses_undo, changes_are_of_one_object}
use Rattle.graft_laws.specs.Alike.{AnswerIsHeld}
use Rattle.graft_laws.specs.Histories.{IsReplayed}
use Rattle.graft_laws.proofs.PointLemmas.{or_left}
use Rattle.graft_laws.proofs.HoldLemmas.{touch_all_gives}
use Rattle.graft_laws.proofs.MarkLemmas.{replay_split}
use Rattle.graft_laws.proofs.AnswerLemmas.{histories_hold_answers}
use Rattle.graft_laws.proofs.AlikeHistoryLemmas.{marks_hold}
use Rattle.graft_laws.proofs.GraftEndLemmas.{in_graft}
use Rattle.graft_laws.proofs.StepCommitLemmas.{trace_is, config_is}
use Rattle.graft_laws.proofs.StabilityLemmas.{HasGraft, has_graft}
use Rattle.graft_laws.proofs.RecordLemmas.{FoundByUndoing}
use Rattle.graft_laws.proofs.InPlaceLemmas.{call_undoable}

-- a process's call in a graft, with this config
pub record Grafted (m : Meaning) (k : Kernel) (p : ℕ) (c : Config) : Type 0 where
  pub has : HasGraft m k p c
  pub standing : IsStanding m k.world k.images k.objects p has.call.stage
  pub point : Point
  pub asks : m.asks k.world k.objects p has.call.stage ≡ Some point
  pub works : WorksOn k.world k.objects point c
  pub replayed : IsReplayed k.world k.objects c
  -- what the piece needs the call holds
  pub base : (o : Object) →
      is_needed_exclusively o (m.need k.world k.objects p has.call.stage) ≡ true →
      is_changed_in c.levels o ≡ true
  pub needed : (o : Object) → is_needed o (m.need k.world k.objects p has.call.stage) ≡ true →
      is_held_in c.levels o ≡ true
  pub answer : AnswerIsHeld c.levels
  pub undoable : FoundByUndoing c.now.things c.levels
  pub low : p < 16

-- a call of a sound kernel stands
pub call_stands : (m : Meaning) (k : Kernel) (p : ℕ) (c : Call) → IsSoundKernel m k →
    k.call p ≡ Some c → IsStanding m k.world k.images k.objects p c.stage
call_stands m k p c sound e =
    record {
      store = sound.state.store;
      caller = sound.callers p c e;
      granted = sound.granted p c e;
      fits = sound.fit p c e;
    }

-- what a piece needs its call holds, wherever the history leads
pub needs_held : (m : Meaning) (v : World) (images : ImageTable) (s : Objects) (p : ℕ) (t : Stage)
    (ks : List Mark) (now : Trace) (o : Object) → replay m v images s p t ks ≡ Some now →
    is_needed o (m.need v s p t) ≡ true → is_held_in now.config.levels o ≡ true
needs_held m v images s p t ks now o e need =
    let f = replay_split m v images s p t ks now e in
    by_asks (m.asks v s p t) f.0 f.1 f.2
  where
    is_it : (c d : Config) → Some c ≡ Some d → c ≡ d
    is_it c d h = cc

    by_asks : (x : Option Point) (c : Config) →
        begin_with images s p (m.need v s p t) (m.feed t) x ≡ Some c →
        marks_on v images p ks (first_trace c) ≡ Some now → is_held_in now.config.levels o ≡ true
    by_asks None c h marks = absurd cc
    by_asks (Some a) c h marks =
        let begun = begin_at images s p (m.need v s p t) (m.feed t) a in
        marks_hold v images p ks (first_trace begun) now o
        (subst (λ (x : Config). marks_on v images p ks (first_trace x) ≡ Some now)
        (sym (is_it begun c h)) marks)
        (or_left (is_held (touch_all (m.need v s p t) untouched o)) false
        (touch_all_gives (m.need v s p t) untouched o need))

module _ (m : Meaning) (laws : Laws m) (k : Kernel) (sound : IsSoundKernel m k) where
  pub grafted : (p : ℕ) (c : Config) → config_of m k p ≡ Some c → Grafted m k p c
  grafted p c is =
      let g = has_graft m k p c is in
      let owns = laws.need.grafts in
      let standing = call_stands m k p g.call sound g.is in
      let leads = trace_is m laws owns k p g.call g.marks g.marked ∙ g.leads in
      let i = in_graft m laws owns k.world k.images k.objects p g.call.stage g.marks g.trace standing leads
      (λ l among. sound.grafts p g.trace.config l (config_is m laws owns k p g.call g.trace g.is g.leads) among) in
      record {
        has = g;
        standing = standing;
        point = i.point;
        asks = i.asks;
        works = subst (WorksOn k.world k.objects i.point) g.config i.works;
        replayed = subst (IsReplayed k.world k.objects) g.config i.replayed;
        base = λ o need. subst (λ (x : Config). is_changed_in x.levels o ≡ true) g.config (i.base o need);
        needed =
            λ o need. subst (λ (x : Config). is_held_in x.levels o ≡ true) g.config
            (needs_held m k.world k.images k.objects p g.call.stage g.marks g.trace o leads need);
        answer =
            subst (λ (x : Config). AnswerIsHeld x.levels) g.config (histories_hold_answers m k.world
            k.images k.objects p g.call.stage g.marks g.trace laws standing leads);
        undoable = (call_undoable m k sound laws inverses_undo changes_are_of_one_object p c is).found;
        low = sound.state.store.numbers p standing.caller;
      }
