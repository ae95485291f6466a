-- What each step of a call, and each drop of a level, leaves and writes.
use Rattle.std.specs.Prelude.{◌≡◌, ℕ, zero, suc, ◌≤◌, ◌==◌, ◌&&◌, Bool, true, false, List, [], ◌∷◌}
use Rattle.std.specs.Prelude.{◌++◌, length, Option, Some, None, is_some, ⊤}
use Rattle.std.proofs.Common.{arith, refl, subst, sym, ap, ◌∙◌}
use Rattle.std.proofs.lemmas.List.{append-nil}
use Rattle.kernel_model.specs.declared.Cause.{Cause}
use Rattle.kernel_model.specs.declared.Held.{Held}
use Rattle.kernel_model.specs.declared.Micro.{Micro}
use Rattle.kernel_model.specs.declared.Note.TheVariants.{Dropped}
use Rattle.kernel_model.specs.declared.Point.{Point}
use Rattle.kernel_model.specs.World.{World}
use Rattle.kernel_model.specs.Objects.{Objects, Things, GraftValue, with_accounts}
use Rattle.kernel_model.specs.Machine.{first_machine}
use Rattle.kernel_model.specs.Charges.{removed, removed_by}
use Rattle.kernel_model.specs.Meaning.{Meaning, Answer, HasWholeBody, registers_of}
use Rattle.kernel_model.specs.Levels.{Level, Config, Removed, Outcome, answer_of, drop_innermost, drop_level}
use Rattle.kernel_model.specs.GraftStep.{micro}
use Rattle.kernel_model.specs.History.{Mark, Stepped, Trace, config_if, effect, fallen, replay}
use Rattle.kernel_model.specs.Kernel.{Call, Run, has_level, with_marks}
use Rattle.kernel_model.specs.Blocking.{trace_of}
use Rattle.kernel_model.specs.Settle.{lost_objects, finish_on, piece_at, piece_step, after_outcome}
use Rattle.kernel_model.specs.Settle.{outcome_step, graft_step, marked_step, call_step}
use Rattle.kernel_model.specs.Sound.{IsSoundStore, once_if}
use Rattle.kernel_model.specs.Alike.{AreAlike}
use Rattle.kernel_model.specs.Laws.{Laws, IsStanding, IsRightAnswer}
use Rattle.kernel_model.specs.Claims.{EffectsStaySound}
use Rattle.kernel_laws.specs.Soundness.{WorksOn, AnswersRightly, ReplayWorks, InstructionsWork, HistoriesWork}
use Rattle.kernel_laws.proofs.BodyLemmas.{AnswersWholly, answer_right, micro_wholly}
use Rattle.kernel_laws.proofs.StepLemmas.{niceless_lives, alike_disk, right_answer}
use Rattle.graft_laws.proofs.MoveLemmas.{ArePartOf, no_part, StandsAt, Moves}
use Rattle.graft_laws.proofs.MoveLemmas.{marks_move, stays, finish_moves}
use Rattle.kernel_laws.proofs.SettleLemmas.{alike_self}

-- ---- grafts taken out

-- a level that holds everything
abbrev holds_all : Level
holds_all =
    record {
      owner = 0;
      point = 0;
      machine = first_machine 0 [] (λ i. 0);
      count = 0;
      touched = λ o. Held.Exclusive;
      args = [];
      records = [];
      kept =
          record {
            cell = λ q k. 0;
            file = λ q k. None;
            queue = [];
            cache = record { frame = λ f. None; lru = [] };
            lock = λ u. None;
            pol = λ k. record { chosen = 0; param = λ j. 0 };
            segment = λ q pt. None;
            handlers = [];
          };
    }

-- a store without a graft is sound
pub remove_sound : EffectsStaySound → (v : World) (w : Objects) (q pt : ℕ) → IsSoundStore v w →
    IsSoundStore v (with_accounts (removed q pt w.accounts) w)
remove_sound effects v w q pt h = removed_if (w.accounts.graft q pt) refl
  where
    removed_if : (g : Option GraftValue) → w.accounts.graft q pt ≡ g →
        IsSoundStore v (with_accounts (removed_by q pt g w.accounts) w)
    removed_if None e = h
    removed_if (Some g) e =
        let c : Config = record { now = w; levels = holds_all ∷ [] } in
        let d : Config = record { now = with_accounts (removed q pt w.accounts) w; levels = holds_all ∷ [] } in
        let made : effect q (Removed pt) c ≡ Some d = ap (λ x. config_if (is_some x && true) d) e in
        subst (λ x. IsSoundStore v (with_accounts (removed_by q pt x w.accounts) w)) e
        (effects v q (Removed pt) c d h made)

-- what a lost level 0 leaves is alike to the state
pub alike_lost : (w s : Objects) → AreAlike s (lost_objects w s)
alike_lost w s =
    record {
      files = λ p fd. refl;
      queue = refl;
      handlers = refl;
      lru = refl;
      frames = λ f. refl;
      locks = λ l. refl;
      policies = λ kind. refl;
    }

-- where a call completed, its working state is sound and alike, and its answer a right one
abbrev pub WhereCompleted : (m : Meaning) (v : World) (s : Objects) (p : ℕ) (c : Call)
    (ls : List Level) (w : Objects) → Micro → Type 0
WhereCompleted m v s p c ls w (Micro.Completed answer) =
    let whole : Option Answer = Some (answer_of answer ls) in
    IsSoundStore v w × AreAlike s w × IsRightAnswer w (m.asks v w p c.stage) (registers_of whole) × HasWholeBody whole
WhereCompleted m v s p c ls w said = ⊤

module _ (m : Meaning) (laws : Laws m) where
  -- ---- steps

  -- a call stands on a state that is alike to the committed one
  pub stands_on : (p : ℕ) (c : Call) (w : Objects) (r : Run) → StandsAt m r →
      r.kernel.call p ≡ Some c → IsSoundStore r.kernel.world w → AreAlike r.kernel.objects w →
      IsStanding m r.kernel.world r.kernel.images w p c.stage
  stands_on p c w r h e sound alike =
      record {
        store = sound;
        caller = sym (niceless_lives r.kernel.objects.things.queue w.things.queue p alike.queue) ∙ h.callers p c e;
        granted = h.granted p c e;
        fits = sym (laws.stages.fits_same r.kernel.world r.kernel.objects w p c.stage (alike.files p)) ∙ h.fit p c e;
      }

  -- a run with no more notes is the run
  plain_run : (p : ℕ) (r : Run) (f : Run → Run) →
      Moves m p r (f (record r { notes = r.notes ++ [] })) → Moves m p r (f r)
  plain_run p r f h = subst (λ ns. Moves m p r (f (record r { notes = ns }))) (append-nil r.notes) h

  -- the default finishes a piece
  default_moves : (p : ℕ) (c : Call) (r : Run) → StandsAt m r → r.kernel.call p ≡ Some c →
      Moves m p r (finish_on m p c r.kernel.objects None r)
  default_moves p c r h e =
      plain_run p r (finish_on m p c r.kernel.objects None)
      (finish_moves m laws p c r.kernel.objects None r [] h e (no_part (once_if (has_level (r.kernel.call p))))
      (record {
        standing = stands_on p c r.kernel.objects r h e h.store (alike_self r.kernel.objects);
        disk = h.disk;
        right = tt;
        body = tt;
      }) (alike_self r.kernel.objects))

  marks_moves : (p : ℕ) (c : Call) (ks : List Mark) (r : Run) → StandsAt m r →
      r.kernel.call p ≡ Some c → Moves m p r (with_marks p c ks r)
  marks_moves p c ks r h e =
      plain_run p r (with_marks p c ks)
      (marks_move m laws p c ks r [] h e (no_part (once_if (has_level (r.kernel.call p)))))

  piece_at_moves : (p : ℕ) (c : Call) (g : Option GraftValue) (r : Run) → StandsAt m r →
      r.kernel.call p ≡ Some c → Moves m p r (piece_at m p c g r)
  piece_at_moves p c None r h e = default_moves p c r h e
  piece_at_moves p c (Some g) r h e = marks_moves p c [] r h e

  piece_moves : (p : ℕ) (c : Call) (a : Option Point) (r : Run) → StandsAt m r →
      r.kernel.call p ≡ Some c → Moves m p r (piece_step m p c a r)
  piece_moves p c None r h e = default_moves p c r h e
  piece_moves p c (Some a) r h e = piece_at_moves p c (r.kernel.objects.accounts.graft a.installer a.point) r h e

  -- the note of a drop stands before those of a piece of a call that had a level
  drop_part : (p : ℕ) (c : Call) (ks : List Mark) (n q pt : ℕ) (cause : Cause) (r : Run) →
      r.kernel.call p ≡ Some c → c.marks ≡ Some ks →
      ArePartOf (once_if (has_level (r.kernel.call p))) (Dropped n q pt cause ∷ [])
  drop_part p c ks n q pt cause r e marked =
      record {
        drops = one_most (once_if (has_level (r.kernel.call p)))
            (ap (λ x. once_if (has_level x)) e ∙ ap (λ (x : Option (List Mark)). once_if
            (elim x as (λ _. Bool) [ None ↦ false | Some y ↦ true ])) marked);
        ends = refl;
        data_notes = refl;
        lines = refl;
      }
    where
      one_most : (n : ℕ) → n ≡ 1 → 1 ≤ n
      one_most n e = omega arith

  -- an outcome
  pub outcome_moves : (p : ℕ) (c : Call) (t : Trace) (ks : List Mark) (o : Outcome) (said : Micro)
      (r : Run) → StandsAt m r → r.kernel.call p ≡ Some c → c.marks ≡ Some ks →
      IsSoundStore r.kernel.world (lost_objects o.config.now r.kernel.objects) →
      WhereCompleted m r.kernel.world r.kernel.objects p c t.config.levels o.config.now said →
      Moves m p r (after_outcome m p c t ks o said r)
  outcome_moves p c t ks o Micro.Went r h e marked base completed = marks_moves p c (ks ++ Stepped ∷ []) r h e
  outcome_moves p c t ks o (Micro.Blocked object holder by_user) r h e marked base completed = stays m laws p c r h e
  outcome_moves p c t ks o (Micro.Completed answer) r h e marked base completed =
      let w = o.config.now in
      plain_run p r (finish_on m p c w (Some (answer_of answer t.config.levels)))
      (finish_moves m laws p c w (Some (answer_of answer t.config.levels)) r [] h e
      (no_part (once_if (has_level (r.kernel.call p))))
      (record {
        standing = stands_on p c w r h e completed.0 completed.1;
        disk = alike_disk r.kernel.world r.kernel.objects w completed.1 h.disk;
        right = completed.2;
        body = completed.3;
      }) completed.1)
  outcome_moves p c t ks o (Micro.Dropped zero q pt cause) r h e marked base completed =
      let w = lost_objects o.config.now r.kernel.objects in
      finish_moves m laws p c w None r (Dropped c.number q pt cause ∷ []) h e
      (drop_part p c ks c.number q pt cause r e marked)
      (record {
        standing = stands_on p c w r h e base (alike_lost o.config.now r.kernel.objects);
        disk = h.disk;
        right = tt;
        body = tt;
      }) (alike_lost o.config.now r.kernel.objects)
  outcome_moves p c t ks o (Micro.Dropped (suc d) q pt cause) r h e marked base completed =
      marks_move m laws p c (fallen t ks o.effects (suc d)) r (Dropped c.number q pt cause ∷ []) h e
      (drop_part p c ks c.number q pt cause r e marked)

  -- what a right answer of an instruction is to the call
  pub completes : (p : ℕ) (c : Call) (a : Point) (ls : List Level) (o : Outcome) (said : Micro)
      (r : Run) → StandsAt m r → r.kernel.call p ≡ Some c →
      m.asks r.kernel.world r.kernel.objects p c.stage ≡ Some a →
      WorksOn r.kernel.world r.kernel.objects a o.config →
      AnswersRightly a o.config.now.things said →
      AnswersWholly ls said → WhereCompleted m r.kernel.world r.kernel.objects p c ls o.config.now said
  completes p c a ls o Micro.Went r h e asked works right whole = tt
  completes p c a ls o (Micro.Blocked object holder by_user) r h e asked works right whole = tt
  completes p c a ls o (Micro.Dropped d q pt cause) r h e asked works right whole = tt
  completes p c a ls o (Micro.Completed answer) r h e asked works right whole =
      let now = works.works.1.0 in
      let registers = right_answer m laws r.kernel.world r.kernel.objects o.config.now p c.stage a
      answer (h.fit p c e) now.alike asked right in (
        now.store,
        now.alike,
        answer_right o.config.now
            (m.asks r.kernel.world o.config.now p c.stage) answer ls registers,
        whole,
      )

  module _ (instructions : InstructionsWork) (histories : HistoriesWork m) where
    graft_moves : (p : ℕ) (c : Call) (ks : List Mark) (x : Option Trace) (ask : Option Point)
        (r : Run) → StandsAt m r → r.kernel.call p ≡ Some c →
        c.marks ≡ Some ks → m.asks r.kernel.world r.kernel.objects p c.stage ≡ ask →
        ReplayWorks r.kernel.world r.kernel.objects ask x →
        Moves m p r (graft_step m p c ks x r)
    graft_moves p c ks None ask r h e marked asked works = stays m laws p c r h e
    graft_moves p c ks (Some t) None r h e marked asked works = absurd works
    graft_moves p c ks (Some t) (Some a) r h e marked asked works =
        let o = micro r.kernel.world r.kernel.images p t.config in
        let k = instructions r.kernel.world r.kernel.images p r.kernel.objects a t.config works in
        outcome_moves p c t ks o o.said r h e marked k.0.works.0.store
        (completes p c a t.config.levels o o.said r h e asked k.0 k.1
        (micro_wholly r.kernel.world r.kernel.images p t.config))

    -- where the history of a call leads
    trace_works : (p : ℕ) (c : Call) (ks : List Mark) (r : Run) → StandsAt m r → c.marks ≡ Some ks →
        ReplayWorks r.kernel.world r.kernel.objects
        (m.asks r.kernel.world r.kernel.objects p c.stage) (trace_of m r.kernel p (Some c))
    trace_works p c ks r h marked =
        let v = r.kernel.world in
        let s = r.kernel.objects in
        let same : replay m v r.kernel.images s p c.stage ks ≡ trace_of m r.kernel p (Some c) =
        ap (λ (x : Option (List Mark)). elim x as (λ _. Option Trace) [
          | None ↦ None
          | Some y ↦ replay m v r.kernel.images s p c.stage y
        ]) (sym marked) in
        subst (ReplayWorks v s (m.asks v s p c.stage)) same (histories v r.kernel.images s p c.stage ks h.store)

    marked_moves : (p : ℕ) (c : Call) (ks : Option (List Mark)) (r : Run) → StandsAt m r →
        r.kernel.call p ≡ Some c → c.marks ≡ ks → Moves m p r (marked_step m p c ks r)
    marked_moves p c None r h e marked = piece_moves p c (m.asks r.kernel.world r.kernel.objects p c.stage) r h e
    marked_moves p c (Some ks) r h e marked =
        graft_moves p c ks (trace_of m r.kernel p (Some c)) (m.asks r.kernel.world r.kernel.objects
        p c.stage) r h e marked refl (trace_works p c ks r h marked)

    -- a step of a call in flight
    pub call_moves : (p : ℕ) (c : Call) (r : Run) → StandsAt m r → r.kernel.call p ≡ Some c →
        Moves m p r (call_step m p (r.kernel.call p) r)
    call_moves p c r h e = subst (λ x. Moves m p r (call_step m p x r)) (sym e) (marked_moves p c c.marks r h e refl)

    -- ---- drops

    module _ (effects : EffectsStaySound) where
      -- a store with these accounts without the graft of a dropped level
      pub dropped_base : (v : World) (w : Objects) (ls : List Level) (d : ℕ) (cause : Cause)
          (x : Things) → IsSoundStore v (record { accounts = w.accounts; things = x }) →
          IsSoundStore v (record { accounts = (drop_level v w ls d cause).config.now.accounts; things = x })
      dropped_base v w [] d cause x h = h
      dropped_base v w (l ∷ ls) d cause x h = base_by (length ls == d) (dropped_base v w ls d cause x h)
        where
          base_by : (b : Bool) → IsSoundStore v
              (record { accounts = (drop_level v w ls d cause).config.now.accounts; things = x }) →
              let o : Outcome = elim b as (λ _. Outcome) [
                | true ↦ drop_innermost v w l ls cause
                | false ↦ drop_level v w ls d cause
              ] in
              IsSoundStore v (record { accounts = o.config.now.accounts; things = x })
          base_by true further = remove_sound effects v (record { accounts = w.accounts; things = x }) l.owner l.point h
          base_by false further = further

      -- nothing completes by a drop
      pub none_completes : (v : World) (w s u : Objects) (p : ℕ) (c : Call) (xs ls : List Level)
          (d : ℕ) (cause : Cause) → WhereCompleted m v s p c xs u (drop_level v w ls d cause).said
      none_completes v w s u p c xs [] d cause = tt
      none_completes v w s u p c xs (l ∷ ls) d cause =
          none_by (length ls == d) (none_completes v w s u p c xs ls d cause)
        where
          none_by : (b : Bool) → WhereCompleted m v s p c xs u (drop_level v w ls d cause).said →
              WhereCompleted m v s p c xs u (elim b as (λ _. Outcome) [
                | true ↦ drop_innermost v w l ls cause
                | false ↦ drop_level v w ls d cause
              ]).said
          none_by true further = tt
          none_by false further = further

      -- what works on the state has a sound base
      pub base_of : (r : Run) (ask : Option Point) (t : Trace) →
          ReplayWorks r.kernel.world r.kernel.objects ask (Some t) →
          IsSoundStore r.kernel.world (lost_objects t.config.now r.kernel.objects)
      base_of r None t works = absurd works
      base_of r (Some a) t works = works.works.0.store

      -- the drop of a level of a call
      pub drop_moves : (p : ℕ) (c : Call) (ks : List Mark) (t : Trace) (d : ℕ) (cause : Cause)
          (r : Run) → StandsAt m r → r.kernel.call p ≡ Some c → c.marks ≡ Some ks →
          trace_of m r.kernel p (Some c) ≡ Some t → Moves m p r (outcome_step m p c t ks
          (drop_level r.kernel.world t.config.now t.config.levels d cause) r)
      drop_moves p c ks t d cause r h e marked is =
          let v = r.kernel.world in
          let s = r.kernel.objects in
          let o = drop_level v t.config.now t.config.levels d cause in
          let works = subst (ReplayWorks v s (m.asks v s p c.stage)) is (trace_works p c ks r h marked) in
          outcome_moves p c t ks o o.said r h e marked
          (dropped_base v t.config.now t.config.levels d cause s.things (base_of r (m.asks v s p c.stage) t works))
          (none_completes v t.config.now s o.config.now p c t.config.levels t.config.levels d cause)
