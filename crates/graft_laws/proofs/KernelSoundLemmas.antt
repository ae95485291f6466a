-- A step of a call that nothing blocks, and a drop, keep a kernel sound.
use Rattle.std.specs.Prelude.{◌≡◌, ◌≢◌, ℕ, zero, suc, ◌≤◌, ◌||◌, Bool, true, false, List, [], ◌∷◌}
use Rattle.std.specs.Prelude.{◌++◌, length, Contains, Option, Some, None, is_some}
use Rattle.std.specs.Result.{is_ok}
use Rattle.std.proofs.Common.{◌⊎◌, arith, refl, subst, sym, ap, ◌∙◌, inl, inr}
use Rattle.kernel_model.specs.declared.Cause.{Cause}
use Rattle.kernel_model.specs.declared.Held.{Held}
use Rattle.kernel_model.specs.declared.Micro.{Micro}
use Rattle.kernel_model.specs.declared.Need.{Need}
use Rattle.kernel_model.specs.declared.Note.{Note}
use Rattle.kernel_model.specs.declared.Note.TheVariants.{Dropped}
use Rattle.kernel_model.specs.declared.Object.{Object}
use Rattle.kernel_model.specs.declared.Point.{Point}
use Rattle.kernel_model.specs.World.{World, ImageTable}
use Rattle.kernel_model.specs.Objects.{Objects, GraftValue}
use Rattle.kernel_model.specs.Meaning.{Meaning, Stage, Answer}
use Rattle.kernel_model.specs.Locks.{is_held, is_held_exclusively, touch_all, untouched}
use Rattle.kernel_model.specs.Levels.{Level, Config, Outcome, is_going_on, answer_of}
use Rattle.kernel_model.specs.GraftStep.{micro, micro_on, next_needs}
use Rattle.kernel_model.specs.History.{Mark, Stepped, Trace, trace_after, begin_at, begin_with}
use Rattle.kernel_model.specs.History.{fallen, first_trace, replay, marks_on}
use Rattle.kernel_model.specs.Kernel.{Call, Run, noted, with_marks, requeue}
use Rattle.kernel_model.specs.Blocking.{config_in, levels_of, trace_of, needs}
use Rattle.kernel_model.specs.Settle.{lost_objects, finish_on, piece_at, piece_step, after_outcome}
use Rattle.kernel_model.specs.InPlace.{is_changed_in}
use Rattle.kernel_model.specs.Sound.{IsSoundKernel, HasWholeBlocks}
use Rattle.kernel_model.specs.Alike.{is_held_in, is_needed, is_needed_exclusively}
use Rattle.kernel_model.specs.Laws.{Laws, IsReady, continues, NeedsGraftsExclusively}
use Rattle.kernel_laws.proofs.BodyLemmas.{answer_whole, answer_right}
use Rattle.kernel_laws.proofs.LevelLemmas.{each_contains}
use Rattle.kernel_laws.proofs.StepLemmas.{alike_disk, right_answer}
use Rattle.kernel_laws.proofs.SoundConfigLemmas.{configs_stay_sound}
use Rattle.graft_laws.proofs.HoldLemmas.{touch_all_from, touch_all_changed}
use Rattle.graft_laws.proofs.GrownLemmas.{AreGrown}
use Rattle.graft_laws.proofs.TurnParts.{IsEnded, not_going}
use Rattle.graft_laws.proofs.TurnLemmas.{levels_turn}
use Rattle.graft_laws.proofs.MarkLemmas.{replay_split, replay_join, stepped_join, marks_join}
use Rattle.graft_laws.proofs.ReplayLemmas.{instructions_replay}
use Rattle.graft_laws.proofs.HistoryReplayLemmas.{marks_stood}
use Rattle.graft_laws.proofs.BeginningLemmas.{all_stand, beginnings_stand}
use Rattle.graft_laws.proofs.FallLemmas.{falls_replay}
use Rattle.graft_laws.proofs.RootLemmas.{marks_both}
use Rattle.graft_laws.proofs.GraftOriginLemmas.{ComeFrom, come_self, come_then, images_from, micro_come, marks_come}
use Rattle.graft_laws.proofs.CommitLemmas.{Stands, EndsWell, stands_on}
use Rattle.graft_laws.proofs.GraftEndLemmas.{IsInGraft, micro_ends}
use Rattle.graft_laws.proofs.StepCommitLemmas.{stands_in, trace_is, config_is, levels_are, graft_of_call}
use Rattle.graft_laws.proofs.OwnCallLemmas.{own_piece, own_marks, Kept}

module _ (m : Meaning) (laws : Laws m) (owns : NeedsGraftsExclusively m) where
  -- ---- the ends of a step

  -- a piece is done, on a state whose grafts come from the committed one
  finish_kept : (q : ℕ) (c : Call) (w : Objects) (answer : Option Answer) (ns : List Need)
      (r : Run) → IsSoundKernel m r.kernel →
      IsReady m r.kernel.world r.kernel.images w q c.stage answer →
      ComeFrom r.kernel.objects.accounts w.accounts → Kept m q ns r (finish_on m q c w answer r)
  finish_kept q c w answer ns r h ready come =
      let k = r.kernel in
      let x = m.piece k.world k.images w r.blocks q c.stage answer r.io in
      record {
        order = refl;
        images =
            laws.piece.images_loaded k.world k.images w r.blocks q c.stage answer r.io ready
            (images_from k.images k.objects.accounts w.accounts come h.state.images_loaded);
        own = own_piece m k q c x.objects (requeue q (finish_on m q c w answer r)).kernel.order ns x.after (record {
          caller =
              λ t e. laws.piece.caller_lives k.world k.images w r.blocks q c.stage answer r.io ready
              (ap continues e);
          granted =
              λ t e. ap (λ y. is_ok (m.early k.world k.images q y)) (laws.stages.same_call_next
              k.world k.images w r.blocks q c.stage t answer r.io ready e) ∙ ready.standing.granted;
          fits = λ t e. laws.stages.next k.world k.images w r.blocks q c.stage t answer r.io ready e;
        });
      }

  -- a call has another history, which leads to a config
  pub marks_kept : (q : ℕ) (c : Call) (hs : List Mark) (z : Config) (ns : List Need) (r : Run) →
      IsSoundKernel m r.kernel → r.kernel.call q ≡ Some c →
      config_in (replay m r.kernel.world r.kernel.images r.kernel.objects q c.stage hs) ≡ Some z →
      ((l : Level) → Contains z.levels l →
      is_some (z.now.accounts.graft l.owner l.point) ≡ true) →
      ((o : Object) → is_held_in z.levels o ≡ true →
      (is_held_in (levels_of m r.kernel q) o ≡ true) ⊎ (is_needed o ns ≡ true)) →
      ((o : Object) → is_changed_in z.levels o ≡ true →
      (is_changed_in (levels_of m r.kernel q) o ≡ true) ⊎ (is_needed_exclusively o ns ≡ true)) →
      Kept m q ns r (with_marks q c hs r)
  marks_kept q c hs z ns r h e leads stand held changed =
      record {
        order = refl;
        images = h.state.images_loaded;
        own =
            own_marks m r.kernel q c hs (requeue q (with_marks q c hs r)).kernel.order ns z h e
            leads stand held changed;
      }

  -- with a note before it
  noted_kept : (q : ℕ) (x : Note) (ns : List Need) (r u : Run) → Kept m q ns (noted x r) u → Kept m q ns r u
  noted_kept q x ns r u h =
      record {
        order = h.order;
        images = h.images;
        own = record {
          callers = h.own.callers;
          granted = h.own.granted;
          fit = h.own.fit;
          runs = h.own.runs;
          grafts = h.own.grafts;
          held = h.own.held;
          changed = h.own.changed;
        };
      }

  -- ---- a piece

  default_kept : (q : ℕ) (c : Call) (ns : List Need) (r : Run) → IsSoundKernel m r.kernel →
      HasWholeBlocks r.kernel.world r.blocks → r.kernel.call q ≡ Some c →
      Kept m q ns r (finish_on m q c r.kernel.objects None r)
  default_kept q c ns r h whole e =
      let stands = stands_in m laws owns r q c h whole e in
      finish_kept q c r.kernel.objects None ns r h
      (record { standing = stands.standing; disk = stands.disk; right = tt; body = tt })
      (come_self r.kernel.objects.accounts)

  -- a history begins
  begun_kept : (q : ℕ) (c : Call) (a : Point) (g : GraftValue) (r : Run) →
      IsSoundKernel m r.kernel → r.kernel.call q ≡ Some c →
      m.asks r.kernel.world r.kernel.objects q c.stage ≡ Some a →
      r.kernel.objects.accounts.graft a.installer a.point ≡ Some g →
      Kept m q (m.need r.kernel.world r.kernel.objects q c.stage) r (with_marks q c [] r)
  begun_kept q c a g r h e asks stands =
      let k = r.kernel in
      let base = m.need k.world k.objects q c.stage in
      let z = begin_at k.images k.objects q base (m.feed c.stage) a in
      marks_kept q c [] z base r h e
      (ap (λ x. config_in (elim (begin_with k.images k.objects q base (m.feed c.stage) x) as (λ _.
      Option Trace) [ None ↦ None | Some d ↦ marks_on k.world k.images q [] (first_trace d) ]))
      asks)
      (λ l i. each_contains (λ (x : Level). is_some (z.now.accounts.graft x.owner x.point) ≡ true)
      z.levels l (ap is_some stands, tt) i)
      (λ o held. inr (needed_of base o (touch_all_from base untouched o (only_held (touch_all base untouched o) held))))
      (λ o changed. inr (taken_of base o
      (touch_all_changed base untouched o (only_changed (touch_all base untouched o) changed))))
    where
      needed_of : (ns : List Need) (o : Object) →
          (is_held (untouched o) ≡ true) ⊎ (is_needed o ns ≡ true) → is_needed o ns ≡ true
      needed_of ns o (inl none) = not_going none
      needed_of ns o (inr some) = some

      taken_of : (ns : List Need) (o : Object) →
          (is_held_exclusively (untouched o) ≡ true) ⊎ (is_needed_exclusively o ns ≡ true) →
          is_needed_exclusively o ns ≡ true
      taken_of ns o (inl none) = not_going none
      taken_of ns o (inr some) = some

      only_held : (h : Held) → (is_held h || false) ≡ true → is_held h ≡ true
      only_held Held.Free e = e
      only_held Held.Shared e = e
      only_held Held.Exclusive e = e

      only_changed : (h : Held) → (is_held_exclusively h || false) ≡ true → is_held_exclusively h ≡ true
      only_changed Held.Free e = e
      only_changed Held.Shared e = e
      only_changed Held.Exclusive e = e

  piece_at_kept : (q : ℕ) (c : Call) (a : Point) (x : Option GraftValue) (r : Run) →
      IsSoundKernel m r.kernel → HasWholeBlocks r.kernel.world r.blocks → r.kernel.call q ≡ Some c →
      m.asks r.kernel.world r.kernel.objects q c.stage ≡ Some a →
      r.kernel.objects.accounts.graft a.installer a.point ≡ x →
      Kept m q (m.need r.kernel.world r.kernel.objects q c.stage) r (piece_at m q c x r)
  piece_at_kept q c a None r h whole e asks stands =
      default_kept q c (m.need r.kernel.world r.kernel.objects q c.stage) r h whole e
  piece_at_kept q c a (Some g) r h whole e asks stands = begun_kept q c a g r h e asks stands

  pub piece_kept : (q : ℕ) (c : Call) (x : Option Point) (r : Run) → IsSoundKernel m r.kernel →
      HasWholeBlocks r.kernel.world r.blocks → r.kernel.call q ≡ Some c →
      m.asks r.kernel.world r.kernel.objects q c.stage ≡ x →
      Kept m q (m.need r.kernel.world r.kernel.objects q c.stage) r (piece_step m q c x r)
  piece_kept q c None r h whole e asks = default_kept q c (m.need r.kernel.world r.kernel.objects q c.stage) r h whole e
  piece_kept q c (Some a) r h whole e asks =
      piece_at_kept q c a (r.kernel.objects.accounts.graft a.installer a.point) r h
      whole e asks refl

  -- ---- a graft call

  -- the history with one more instruction
  replay_more : (v : World) (images : ImageTable) (s : Objects) (p : ℕ) (stage : Stage)
      (ks : List Mark) (t : Trace) → replay m v images s p stage ks ≡ Some t →
      is_going_on (micro v images p t.config).said ≡ true → config_in (replay m v images s p stage
      (ks ++ Stepped ∷ [])) ≡ Some (micro v images p t.config).config
  replay_more v images s p stage ks t e went =
      let f = replay_split m v images s p stage ks t e in
      let r = micro v images p t.config in
      ap config_in (replay_join m v images s p stage (ks ++ Stepped ∷ []) f.0 f.1
      ∙ marks_both v images p (first_trace f.0) ks (Stepped ∷ []) (first_trace f.0) t f.2
      ∙ marks_join v images p Stepped [] t (trace_after t r) (stepped_join t r went))

  -- what grafts there are where a history leads
  pub history_come : (r : Run) (q : ℕ) (c : Call) (ks : List Mark) (t : Trace) →
      IsSoundKernel m r.kernel → HasWholeBlocks r.kernel.world r.blocks → r.kernel.call q ≡ Some c →
      c.marks ≡ Some ks →
      trace_of m r.kernel q (Some c) ≡ Some t → ComeFrom r.kernel.objects.accounts t.config.now.accounts
  history_come r q c ks t h whole e marked f =
      let k = r.kernel in
      let leads = trace_is m laws owns k q c ks marked ∙ f in
      let split = replay_split m k.world k.images k.objects q c.stage ks t leads in
      let g = graft_of_call m laws owns r q c ks t h whole e marked f in
      let all = all_stand t.config g.replayed.sound.grafts in
      let one = beginnings_stand m laws owns k.world k.images k.objects q c.stage split.0
      (stands_in m laws owns r q c h whole e).standing split.1
      (marks_stood k.world k.images q ks (first_trace split.0) t split.2 all) in
      subst (λ (x : Objects). ComeFrom x.accounts t.config.now.accounts)
      (begins_on k.images k.objects q (m.need k.world k.objects q c.stage) (m.feed c.stage)
      (m.asks k.world k.objects q c.stage) split.0 split.1)
      (marks_come k.world k.images q k.objects ks (first_trace split.0) t split.2 one all)
    where
      begins_on : (images : ImageTable) (s : Objects) (p : ℕ) (base : List Need) (feed : List ℕ)
          (x : Option Point) (c : Config) → begin_with images s p base feed x ≡ Some c → c.now ≡ s
      begins_on images s p base feed None c e = absurd cc
      begins_on images s p base feed (Some a) c e =
          sym (ap (λ (d : Config). d.now) (is_it (begin_at images s p base feed a) c e))
        where
          is_it : (x y : Config) → Some x ≡ Some y → x ≡ y
          is_it x y e = cc

  -- level 0 ended
  pub ended_kept : (q : ℕ) (c : Call) (t : Trace) (ks : List Mark) (a : Point) (o : Outcome)
      (ns : List Need) (free : Object → Type 0) (r : Run) → IsSoundKernel m r.kernel →
      Stands m q c r → m.asks r.kernel.world r.kernel.objects q c.stage ≡ Some a →
      1 ≤ length t.config.levels → ComeFrom r.kernel.objects.accounts o.config.now.accounts →
      ((answer : List ℕ) →
      EndsWell m laws r.kernel.world r.kernel.objects a free o (Micro.Completed answer) →
      Kept m q ns r (finish_on m q c o.config.now (Some (answer_of answer t.config.levels)) r))
      × ((g pt : ℕ) (cause : Cause) →
      EndsWell m laws r.kernel.world r.kernel.objects a free o (Micro.Dropped zero g pt cause) →
      Kept m q ns r (finish_on m q c (lost_objects o.config.now r.kernel.objects) None
      (noted (Dropped c.number g pt cause) r)))
  ended_kept q c t ks a o ns free r h stands asks some come =
      let k = r.kernel in (
        λ answer ends. finish_kept q c o.config.now (Some (answer_of answer t.config.levels)) ns r h (record {
          standing =
              stands_on m laws k.world k.images k.objects o.config.now q c.stage stands.standing
              ends.0.store ends.0.alike;
          disk = alike_disk k.world k.objects o.config.now ends.0.alike stands.disk;
          right = answer_right o.config.now (m.asks k.world o.config.now q c.stage) answer t.config.levels
              (right_answer m laws k.world k.objects o.config.now q c.stage a answer
              stands.standing.fits ends.0.alike asks ends.1);
          body = answer_whole answer t.config.levels some;
        }) come,
        λ g pt cause ends.
            let said = Dropped c.number g pt cause in
            let w = lost_objects o.config.now k.objects in
            noted_kept q said ns r (finish_on m q c w None (noted said r))
            (finish_kept q c w None ns (noted said r) h
            (record {
              standing = stands_on m laws k.world k.images k.objects w q c.stage stands.standing
                  ends.0.store ends.0.alike;
              disk = stands.disk;
              right = tt;
              body = tt;
            }) come),
      )

  -- an instruction
  pub micro_kept : (r : Run) (q : ℕ) (c : Call) (ks : List Mark) (t : Trace) →
      IsSoundKernel m r.kernel → HasWholeBlocks r.kernel.world r.blocks → r.kernel.call q ≡ Some c →
      c.marks ≡ Some ks →
      trace_of m r.kernel q (Some c) ≡ Some t → let o = micro r.kernel.world r.kernel.images q t.config in
      Kept m q (next_needs r.kernel.world r.kernel.images t.config.now.accounts t.config.levels) r
      (after_outcome m q c t ks o o.said r)
  micro_kept r q c ks t h whole e marked f =
      let k = r.kernel in
      let g = graft_of_call m laws owns r q c ks t h whole e marked f in
      by_said (micro k.world k.images q t.config).said refl g
      (micro_ends m laws owns k.world k.images k.objects q c.stage t g)
      (come_then k.objects.accounts t.config.now.accounts (micro k.world k.images q
      t.config).config.now.accounts (history_come r q c ks t h whole e marked f)
      (micro_come k.world k.images q k.objects t.config.now t.config.levels g.replayed))
    where
      none_some : {A : Type 0} → 1 ≤ 0 → A
      none_some h = absurd (bad h)
        where
          bad : 1 ≤ 0 → ⊥
          bad h = omega arith

      ns : List Need
      ns = next_needs r.kernel.world r.kernel.images t.config.now.accounts t.config.levels

      levels : levels_of m r.kernel q ≡ t.config.levels
      levels = levels_are m laws owns r.kernel q t.config (config_is m laws owns r.kernel q c t e f)

      held_by : (w : Objects) (ls : List Level) → 1 ≤ length ls → (o : Object) →
          is_held_in (micro_on r.kernel.world r.kernel.images q w ls).config.levels o ≡ true →
          (is_held_in ls o ≡ true) ⊎ (is_needed o (next_needs r.kernel.world r.kernel.images w.accounts ls) ≡ true)
      held_by w [] some o x = none_some some
      held_by w (l ∷ ls) some o x = (levels_turn r.kernel.world r.kernel.images q w l ls).held o x

      changed_by : (w : Objects) (ls : List Level) → 1 ≤ length ls → (o : Object) →
          is_changed_in (micro_on r.kernel.world r.kernel.images q w ls).config.levels o ≡ true →
          (is_changed_in ls o ≡ true) ⊎ (is_needed_exclusively o
          (next_needs r.kernel.world r.kernel.images w.accounts ls) ≡ true)
      changed_by w [] some o x = none_some some
      changed_by w (l ∷ ls) some o x = (levels_turn r.kernel.world r.kernel.images q w l ls).changed o x

      on_levels : (hs : List Mark) → 1 ≤ length t.config.levels →
          config_in (replay m r.kernel.world r.kernel.images r.kernel.objects q c.stage hs)
          ≡ Some (micro r.kernel.world r.kernel.images q t.config).config →
          ((l : Level) → Contains (micro r.kernel.world r.kernel.images q t.config).config.levels l →
          is_some ((micro r.kernel.world r.kernel.images q t.config).config.now.accounts.graft
          l.owner l.point) ≡ true) →
          Kept m q (next_needs r.kernel.world r.kernel.images t.config.now.accounts t.config.levels)
          r (with_marks q c hs r)
      on_levels hs some leads stand =
          marks_kept q c hs (micro r.kernel.world r.kernel.images q t.config).config
          (next_needs r.kernel.world r.kernel.images t.config.now.accounts t.config.levels) r
          h e leads stand
          (λ o x. elim (held_by t.config.now t.config.levels some o x) [
            | inl before ↦ inl (ap (λ ls. is_held_in ls o) levels ∙ before)
            | inr needs ↦ inr needs
          ])
          (λ o x. elim (changed_by t.config.now t.config.levels some o x) [
            | inl before ↦ inl (ap (λ ls. is_changed_in ls o) levels ∙ before)
            | inr needs ↦ inr needs
          ])

      never : (w : Objects) (ls : List Level) (o : Object) (p : ℕ) (b : Bool) → 1 ≤ length ls →
          (micro_on r.kernel.world r.kernel.images q w ls).said ≡ Micro.Blocked o p b → ⊥
      never w [] o p b some e = none_some some
      never w (l ∷ ls) o p b some e =
          subst
          (λ x. IsEnded ls x (micro_on r.kernel.world r.kernel.images q w (l ∷ ls)).config.levels) e
          (levels_turn r.kernel.world r.kernel.images q w l ls).ends

      left_some : (w : Objects) (ls : List Level) (d g pt : ℕ) (cause : Cause) →
          (micro_on r.kernel.world r.kernel.images q w ls).said ≡ Micro.Dropped (suc d) g pt cause →
          (micro_on r.kernel.world r.kernel.images q w ls).config.levels ≢ []
      left_some w [] d g pt cause e none = absurd cc
      left_some w (l ∷ ls) d g pt cause e none =
          let ended = subst (λ x. IsEnded ls x
          (micro_on r.kernel.world r.kernel.images q w (l ∷ ls)).config.levels) e
          (levels_turn r.kernel.world r.kernel.images q w l ls).ends in
          some_outer ls ended.0 (subst (λ xs. AreGrown xs ls) none ended.1)
        where
          some_outer : (ls : List Level) → suc d ≡ length ls → AreGrown [] ls → ⊥
          some_outer [] e grown = bad d e
            where
              bad : (d : ℕ) → suc d ≡ 0 → ⊥
              bad d e = omega arith
          some_outer (k ∷ ls) e grown = grown

      by_said : (said : Micro) → (micro r.kernel.world r.kernel.images q t.config).said ≡ said →
          (g : IsInGraft m r.kernel.world r.kernel.images r.kernel.objects q c.stage t) →
          EndsWell m laws r.kernel.world r.kernel.objects g.point
          (λ b. is_changed_in t.config.levels b ≡ false)
          (micro r.kernel.world r.kernel.images q t.config)
          (micro r.kernel.world r.kernel.images q t.config).said →
          ComeFrom r.kernel.objects.accounts
          (micro r.kernel.world r.kernel.images q t.config).config.now.accounts →
          Kept m q (next_needs r.kernel.world r.kernel.images t.config.now.accounts t.config.levels)
          r (after_outcome m q c t ks (micro r.kernel.world r.kernel.images q t.config) said r)
      by_said Micro.Went said g ends come =
          let k = r.kernel in
          let went = ap is_going_on said in
          on_levels (ks ++ Stepped ∷ []) g.replayed.sound.some (replay_more k.world k.images
          k.objects q c.stage ks t (trace_is m laws owns k q c ks marked ∙ f) went)
          (instructions_replay k.world k.images q k.objects t.config g.replayed went).sound.grafts
      by_said (Micro.Blocked o p b) said g ends come =
          absurd (never t.config.now t.config.levels o p b g.replayed.sound.some said)
      by_said (Micro.Completed answer) said g ends come =
          let k = r.kernel in
          let free = λ (b : Object). is_changed_in t.config.levels b ≡ false in
          let o = micro k.world k.images q t.config in
          (ended_kept q c t ks g.point o
          (next_needs k.world k.images t.config.now.accounts t.config.levels) free r h
          (stands_in m laws owns r q c h whole e) g.asks g.replayed.sound.some come).0 answer
          (subst (EndsWell m laws k.world k.objects g.point free o) said ends)
      by_said (Micro.Dropped zero i pt cause) said g ends come =
          let k = r.kernel in
          let free = λ (b : Object). is_changed_in t.config.levels b ≡ false in
          let o = micro k.world k.images q t.config in
          (ended_kept q c t ks g.point o (next_needs k.world k.images t.config.now.accounts
          t.config.levels) free r h (stands_in m laws owns r q c h whole e) g.asks
          g.replayed.sound.some come).1 i pt cause
          (subst (EndsWell m laws k.world k.objects g.point free o) said ends)
      by_said (Micro.Dropped (suc d) i pt cause) said g ends come =
          let k = r.kernel in
          let o = micro k.world k.images q t.config in
          let note = Dropped c.number i pt cause in
          let hs = fallen t ks o.effects (suc d) in
          let leads = falls_replay m k.world k.images k.objects q c.stage ks t o d i pt cause cause
          laws owns (stands_in m laws owns r q c h whole e).standing
          (trace_is m laws owns k q c ks marked ∙ f) g.replayed.sound.grafts (inl refl) said in
          let sound = configs_stay_sound k.world k.images q t.config g.replayed.sound
          (left_some t.config.now t.config.levels d i pt cause said) in
          let kept = on_levels hs g.replayed.sound.some leads sound.grafts in
          record { order = kept.order; images = kept.images; own = kept.own }
