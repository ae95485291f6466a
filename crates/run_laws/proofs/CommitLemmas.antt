-- What a step, or the drop of a level, commits: a piece that is done on a state that is alike to the committed one, or
-- nothing.
use Rattle.std.specs.Prelude.{◌≡◌, ℕ, zero, suc, List, [], ◌∷◌, ◌++◌, Option, Some, None}
use Rattle.std.proofs.Common.{refl, subst, sym, ap, ◌∙◌, inl, inr}
use Rattle.std.proofs.lemmas.Bool.{cases_eq}
use Rattle.std.proofs.lemmas.List.{append-nil}
use Rattle.script_model.specs.declared.Cause.{Cause}
use Rattle.script_model.specs.declared.Micro.{Micro}
use Rattle.script_model.specs.declared.Note.{Note}
use Rattle.script_model.specs.declared.Note.TheVariants.{Dropped}
use Rattle.script_model.specs.declared.Point.{Point}
use Rattle.script_model.specs.Alike.{AreAlike}
use Rattle.script_model.specs.Blocking.{trace_of}
use Rattle.script_model.specs.Events.{drop_marked, drop_call}
use Rattle.script_model.specs.GraftStep.{micro}
use Rattle.script_model.specs.History.{Mark, Stepped, Trace, replay, fallen}
use Rattle.script_model.specs.Kernel.{Call, Run, call_after, gave_note, after_note, with_marks, requeue}
use Rattle.script_model.specs.Laws.{Laws, IsReady}
use Rattle.script_model.specs.Levels.{Outcome, answer_of, drop_level}
use Rattle.script_model.specs.Meaning.{Meaning, Answer, Piece}
use Rattle.script_model.specs.Objects.{Objects, GraftValue, at}
use Rattle.script_model.specs.Settle.{lost_objects, finish_on, piece_at, piece_step, after_outcome, outcome_step}
use Rattle.script_model.specs.Settle.{graft_step, marked_step, call_step, step}
use Rattle.script_model.specs.Sound.{IsSoundStore}
use Rattle.call_laws.specs.Ledgers.{at_here, at_other}
use Rattle.kernel_laws.specs.Soundness.{ReplayWorks}
use Rattle.kernel_laws.proofs.BodyLemmas.{micro_wholly}
use Rattle.kernel_laws.proofs.Laws.{instructions_work, histories_work, effects_stay_sound}
use Rattle.kernel_laws.proofs.SettleLemmas.{alike_self}
use Rattle.kernel_laws.proofs.StepLemmas.{alike_disk}
use Rattle.graft_laws.specs.Kernels.{IsSoundRun}
use Rattle.graft_laws.proofs.MoveLemmas.{StandsAt}
use Rattle.graft_laws.proofs.NoteLemmas.{sound_stands}
use Rattle.graft_laws.proofs.StepMoveLemmas.{alike_lost, WhereCompleted, stands_on, completes, dropped_base}
use Rattle.graft_laws.proofs.StepMoveLemmas.{none_completes, base_of}
use Rattle.session_laws.specs.Sent.{completed_by, graft_answers, marked_answers, call_answers}
use Rattle.session_laws.proofs.ServeKeptLemmas.{drop_completes_none}
use Rattle.run_laws.specs.Moves.{Steps}
use Rattle.run_laws.specs.Streams.{answer_in, answer_given}

-- the piece of a call on a state
abbrev pub piece_on : Meaning → ℕ → Call → Objects → Option Answer → Run → Piece
piece_on m p c w answer r =
    m.piece r.kernel.world r.kernel.images w r.blocks p c.stage answer r.io

-- what a move of the call of p commits, from one run to another, where this is the answer of the graft call that it
-- completes
pub data Commits (m : Meaning) (p : ℕ) (c : Call) (x : Option Answer) (r u : Run) : Type 0 where
  -- its piece, behind some notes
  Done : (w : Objects) (answer : Option Answer) (pre : List Note) → answer ≡ x →
      IsReady m r.kernel.world r.kernel.images w p c.stage answer → AreAlike r.kernel.objects w →
      u.kernel.objects ≡ (piece_on m p c w answer r).objects → u.blocks ≡ (piece_on m p c w answer r).blocks →
      u.kernel.call ≡ at p (call_after c (piece_on m p c w answer r).after) r.kernel.call →
      u.notes ≡ ((r.notes ++ pre) ++ gave_note c.number (piece_on m p c w answer r).gave)
      ++ after_note c.number (piece_on m p c w answer r).after → Commits m p c x r u
  -- nothing: the call stays at its stage
  Stays : u.kernel.objects ≡ r.kernel.objects → u.blocks ≡ r.blocks →
      ((q : ℕ) (d : Call) → u.kernel.call q ≡ Some d →
      (e : Call) × (r.kernel.call q ≡ Some e) × (d.stage ≡ e.stage)) →
      ((q : ℕ) (e : Call) → r.kernel.call q ≡ Some e → (d : Call) × (u.kernel.call q ≡ Some d)) →
      Commits m p c x r u

-- the order of waiting doesn't matter
requeued : (m : Meaning) (p : ℕ) (c : Call) (x : Option Answer) (r u : Run) → Commits m p c x r u →
    Commits m p c x r (requeue p u)
requeued m p c x r u (Done w answer pre given ready alike objects blocks calls notes) =
    Done w answer pre given ready alike objects blocks calls notes
requeued m p c x r u (Stays objects blocks calls stand) = Stays objects blocks calls stand

module _ (m : Meaning) (laws : Laws m) where
  finished : (p : ℕ) (c : Call) (w : Objects) (answer : Option Answer) (r : Run) (pre : List Note) →
      IsReady m r.kernel.world r.kernel.images w p c.stage answer → AreAlike r.kernel.objects w →
      Commits m p c answer r (finish_on m p c w answer (record r { notes = r.notes ++ pre }))
  finished p c w answer r pre ready alike = Done w answer pre refl ready alike refl refl refl refl

  finished_plain : (p : ℕ) (c : Call) (w : Objects) (answer : Option Answer) (r : Run) →
      IsReady m r.kernel.world r.kernel.images w p c.stage answer → AreAlike r.kernel.objects w →
      Commits m p c answer r (finish_on m p c w answer r)
  finished_plain p c w answer r ready alike =
      subst (λ ns. Commits m p c answer r (finish_on m p c w answer (record r { notes = ns }))) (append-nil r.notes)
      (finished p c w answer r [] ready alike)

  call_is : (a b : Call) → Some a ≡ Some b → a ≡ b
  call_is a b e = cc

  -- a call with this history
  marked_stays : (p : ℕ) (c : Call) (x : Option Answer) (ks : List Mark) (r : Run) (notes : List Note) →
      r.kernel.call p ≡ Some c → Commits m p c x r (with_marks p c ks (record r { notes = notes }))
  marked_stays p c x ks r notes e = Stays refl refl same stands
    where
      new : Call
      new = record c { marks = Some ks }

      same : (q : ℕ) (d : Call) → at p (Some new) r.kernel.call q ≡ Some d →
          (e : Call) × (r.kernel.call q ≡ Some e) × (d.stage ≡ e.stage)
      same q d is = elim (cases_eq q p) [
        | inl here ↦ (
          c,
          ap r.kernel.call here ∙ e,
          ap (λ (x : Call). x.stage) (sym (call_is new d (sym (ap (at p (Some new) r.kernel.call) here
              ∙ at_here p (Some new) r.kernel.call) ∙ is))),
        )
        | inr ne ↦ (d, sym (at_other p q (Some new) r.kernel.call ne) ∙ is, refl)
      ]

      stands : (q : ℕ) (d : Call) → r.kernel.call q ≡ Some d →
          (f : Call) × (at p (Some new) r.kernel.call q ≡ Some f)
      stands q d is = elim (cases_eq q p) [
        | inl here ↦ (new, ap (at p (Some new) r.kernel.call) here ∙ at_here p (Some new) r.kernel.call)
        | inr ne ↦ (d, at_other p q (Some new) r.kernel.call ne ∙ is)
      ]

  self_stays : (p : ℕ) (c : Call) (x : Option Answer) (r : Run) → Commits m p c x r r
  self_stays p c x r = Stays refl refl (λ q d is. (d, is, refl)) (λ q d is. (d, is))

  -- ---- pieces

  default_commits : (p : ℕ) (c : Call) (r : Run) → StandsAt m r → r.kernel.call p ≡ Some c →
      Commits m p c None r (finish_on m p c r.kernel.objects None r)
  default_commits p c r h e =
      finished_plain p c r.kernel.objects None r
      (record {
        standing = stands_on m laws p c r.kernel.objects r h e h.store (alike_self r.kernel.objects);
        disk = h.disk;
        right = tt;
        body = tt;
      }) (alike_self r.kernel.objects)

  piece_at_commits : (p : ℕ) (c : Call) (g : Option GraftValue) (r : Run) → StandsAt m r →
      r.kernel.call p ≡ Some c → Commits m p c None r (piece_at m p c g r)
  piece_at_commits p c None r h e = default_commits p c r h e
  piece_at_commits p c (Some g) r h e = marked_stays p c None [] r r.notes e

  piece_commits : (p : ℕ) (c : Call) (a : Option Point) (r : Run) → StandsAt m r → r.kernel.call p ≡ Some c →
      Commits m p c None r (piece_step m p c a r)
  piece_commits p c None r h e = default_commits p c r h e
  piece_commits p c (Some a) r h e = piece_at_commits p c (r.kernel.objects.accounts.graft a.installer a.point) r h e

  -- ---- outcomes

  outcome_commits : (p : ℕ) (c : Call) (t : Trace) (ks : List Mark) (o : Outcome) (said : Micro) (r : Run) →
      StandsAt m r → r.kernel.call p ≡ Some c →
      IsSoundStore r.kernel.world (lost_objects o.config.now r.kernel.objects) →
      WhereCompleted m r.kernel.world r.kernel.objects p c t.config.levels o.config.now said →
      Commits m p c (answer_in (completed_by c t said)) r (after_outcome m p c t ks o said r)
  outcome_commits p c t ks o Micro.Went r h e base completed = marked_stays p c None (ks ++ Stepped ∷ []) r r.notes e
  outcome_commits p c t ks o (Micro.Blocked object holder by_user) r h e base completed = self_stays p c None r
  outcome_commits p c t ks o (Micro.Completed answer) r h e base completed =
      let w = o.config.now in
      finished_plain p c w (Some (answer_of answer t.config.levels)) r
      (record {
        standing = stands_on m laws p c w r h e completed.0 completed.1;
        disk = alike_disk r.kernel.world r.kernel.objects w completed.1 h.disk;
        right = completed.2;
        body = completed.3;
      }) completed.1
  outcome_commits p c t ks o (Micro.Dropped zero q pt cause) r h e base completed =
      let w = lost_objects o.config.now r.kernel.objects in
      finished p c w None r (Dropped c.number q pt cause ∷ [])
      (record {
        standing = stands_on m laws p c w r h e base (alike_lost o.config.now r.kernel.objects);
        disk = h.disk;
        right = tt;
        body = tt;
      }) (alike_lost o.config.now r.kernel.objects)
  outcome_commits p c t ks o (Micro.Dropped (suc d) q pt cause) r h e base completed =
      marked_stays p c None (fallen t ks o.effects (suc d)) r (r.notes ++ Dropped c.number q pt cause ∷ []) e

  trace_works : (p : ℕ) (c : Call) (ks : List Mark) (r : Run) → StandsAt m r → c.marks ≡ Some ks →
      ReplayWorks r.kernel.world r.kernel.objects
      (m.asks r.kernel.world r.kernel.objects p c.stage) (trace_of m r.kernel p (Some c))
  trace_works p c ks r h marked =
      let v = r.kernel.world in
      let s = r.kernel.objects in
      let same : replay m v r.kernel.images s p c.stage ks ≡ trace_of m r.kernel p (Some c) =
      ap (λ (x : Option (List Mark)). elim x as (λ _. Option Trace) [
        | None ↦ None
        | Some y ↦ replay m v r.kernel.images s p c.stage y
      ]) (sym marked) in
      subst (ReplayWorks v s (m.asks v s p c.stage)) same
      (histories_work m v r.kernel.images s p c.stage ks h.store)

  graft_commits : (p : ℕ) (c : Call) (ks : List Mark) (x : Option Trace) (ask : Option Point) (r : Run) →
      StandsAt m r → r.kernel.call p ≡ Some c → m.asks r.kernel.world r.kernel.objects p c.stage ≡ ask →
      ReplayWorks r.kernel.world r.kernel.objects ask x →
      Commits m p c (answer_in (graft_answers m p c x r)) r (graft_step m p c ks x r)
  graft_commits p c ks None ask r h e asked works = self_stays p c None r
  graft_commits p c ks (Some t) None r h e asked works = absurd works
  graft_commits p c ks (Some t) (Some a) r h e asked works =
      let o = micro r.kernel.world r.kernel.images p t.config in
      let k = instructions_work r.kernel.world r.kernel.images p r.kernel.objects a t.config works in
      outcome_commits p c t ks o o.said r h e k.0.works.0.store
      (completes m laws p c a t.config.levels o o.said r h e asked k.0 k.1
      (micro_wholly r.kernel.world r.kernel.images p t.config))

  marked_commits : (p : ℕ) (c : Call) (ks : Option (List Mark)) (r : Run) → StandsAt m r →
      r.kernel.call p ≡ Some c → c.marks ≡ ks →
      Commits m p c (answer_in (marked_answers m p c ks r)) r (marked_step m p c ks r)
  marked_commits p c None r h e marked =
      piece_commits p c (m.asks r.kernel.world r.kernel.objects p c.stage) r h e
  marked_commits p c (Some ks) r h e marked =
      graft_commits p c ks (trace_of m r.kernel p (Some c)) (m.asks r.kernel.world r.kernel.objects p c.stage) r h e
      refl (trace_works p c ks r h marked)

  -- a step of a call
  pub step_commits : (p : ℕ) (c : Call) (r : Run) → IsSoundRun m r → r.kernel.call p ≡ Some c →
      Commits m p c (answer_given m (Steps p r)) r (step m p r)
  step_commits p c r sound e =
      let h = sound_stands m r.kernel r.blocks sound.kernel sound.blocks in
      requeued m p c (answer_given m (Steps p r)) r (call_step m p (r.kernel.call p) r)
      (subst (λ x. Commits m p c (answer_in (call_answers m p x r)) r (call_step m p x r)) (sym e)
      (marked_commits p c c.marks r h e refl))

  -- the drop of one of its levels
  pub drop_commits : (p : ℕ) (c : Call) (n : ℕ) (cause : Cause) (r : Run) → IsSoundRun m r →
      r.kernel.call p ≡ Some c → Commits m p c None r (drop_call m p (r.kernel.call p) (Some n) cause r)
  drop_commits p c n cause r sound e =
      subst (λ x. Commits m p c None r (drop_call m p x (Some n) cause r)) (sym e)
      (by_marks c.marks refl (trace_of m r.kernel p (Some c)) refl)
    where
      h : StandsAt m r
      h = sound_stands m r.kernel r.blocks sound.kernel sound.blocks

      by_marks : (x : Option (List Mark)) → c.marks ≡ x → (y : Option Trace) → trace_of m r.kernel p (Some c) ≡ y →
          Commits m p c None r (drop_marked m p c x y (Some n) cause r)
      by_marks None marked y is = self_stays p c None r
      by_marks (Some ks) marked None is = self_stays p c None r
      by_marks (Some ks) marked (Some t) is =
          let v = r.kernel.world in
          let s = r.kernel.objects in
          let o = drop_level v t.config.now t.config.levels n cause in
          let works = subst (ReplayWorks v s (m.asks v s p c.stage)) is (trace_works p c ks r h marked) in
          requeued m p c None r (outcome_step m p c t ks o r)
          (subst (λ xs. Commits m p c (answer_in xs) r (outcome_step m p c t ks o r))
          (drop_completes_none c t v t.config.now t.config.levels n cause)
          (outcome_commits p c t ks o o.said r h e
          (dropped_base m laws instructions_work (histories_work m) effects_stay_sound v t.config.now t.config.levels
          n cause s.things (base_of m laws instructions_work (histories_work m) effects_stay_sound r
          (m.asks v s p c.stage) t works))
          (none_completes m laws instructions_work (histories_work m) effects_stay_sound v t.config.now s o.config.now
          p c t.config.levels t.config.levels n cause)))
