-- How many pieces and levels a call can still lose, and that steps and drops leave no more.
use Rattle.std.specs.Prelude.{◌≡◌, ℕ, zero, suc, ◌+◌, ◌<◌, ◌≤◌, min, Bool, true, false, List, []}
use Rattle.std.specs.Prelude.{◌∷◌, ◌++◌, length, Option, Some, None, ◌⊎◌}
use Rattle.std.proofs.Common.{arith, refl, subst, sym, ap, ◌∙◌, inl, inr}
use Rattle.kernel_model.specs.declared.Cause.{Cause}
use Rattle.kernel_model.specs.declared.Held.{Held}
use Rattle.kernel_model.specs.declared.Micro.{Micro}
use Rattle.kernel_model.specs.declared.Note.{Note}
use Rattle.kernel_model.specs.declared.Note.TheVariants.{Dropped}
use Rattle.kernel_model.specs.declared.Object.{Object}
use Rattle.kernel_model.specs.declared.Point.{Point}
use Rattle.kernel_model.specs.World.{World, ImageTable}
use Rattle.kernel_model.specs.Objects.{Objects, GraftValue}
use Rattle.kernel_model.specs.Meaning.{Meaning, After, Continues, EndsWith, Fails, Answer}
use Rattle.kernel_model.specs.Levels.{Level, Config, Outcome, answer_of, drop_level}
use Rattle.kernel_model.specs.GraftStep.{micro, micro_on}
use Rattle.kernel_model.specs.History.{Mark, Stepped, Trace, begin_at, begin_with, first_trace, replay, fallen}
use Rattle.kernel_model.specs.Kernel.{Call, Kernel, Run, has_level, call_after, with_marks, requeue}
use Rattle.kernel_model.specs.Blocking.{config_in, levels_in, trace_of, levels_of, blocker}
use Rattle.kernel_model.specs.Settle.{lost_objects, finish_on, piece_at, piece_step, after_outcome, outcome_step}
use Rattle.kernel_model.specs.Sound.{IsSoundKernel, HasWholeBlocks}
use Rattle.kernel_model.specs.Alike.{AreAlike}
use Rattle.kernel_model.specs.Laws.{IsReady}
use Rattle.call_laws.specs.Ledgers.{at_here}
use Rattle.graft_laws.proofs.HistoryEffectLemmas.{levels_by, levels_length}
use Rattle.graft_laws.proofs.ActLemmas.{StaysIn, GoesDeeper, ComesBack, Next, instruction_acts}
use Rattle.graft_laws.proofs.HistoryShapeLemmas.{ShapeWhereWent, instruction_shape}
use Rattle.kernel_laws.proofs.StepLemmas.{alike_disk}
use Rattle.graft_laws.proofs.MoveLemmas.{StandsAt}
use Rattle.graft_laws.proofs.StepMoveLemmas.{WhereCompleted, alike_lost, stands_on}
use Rattle.graft_laws.proofs.SoundCallLemmas.{call_comes, call_has_come}
use Rattle.graft_laws.proofs.HistoryKernelStepLemmas.{Known}
use Rattle.graft_laws.proofs.OutcomeLemmas.{micro_fell, drops_level, IsLikely, own_graft}
use Rattle.graft_laws.proofs.OutcomeLemmas.{own_config, instruction_likely, drop_likely}
use Rattle.kernel_laws.proofs.SettleLemmas.{alike_self, left_of}

-- ---- shares

-- levels above the outermost
abbrev pub above : ℕ → ℕ
above zero = 0
above (suc n) = n

-- how many levels a call can lose that doesn't wait, or that waits and may go one deeper, but to four at most
abbrev pub depth_left : Bool → ℕ → ℕ
depth_left true n = min n 3
depth_left false n = above n

-- what a process can lose: pieces of its call, and levels
abbrev pub share : Meaning → Kernel → Bool → ℕ → ℕ
share m k waits p = left_of m k.world k.objects p (k.call p) + depth_left waits (length (levels_of m k p))

-- the same once it took its place after a step
abbrev pub own_share : Meaning → ℕ → Run → ℕ
own_share m p u = share m (requeue p u).kernel false p

-- ---- levels after a step

-- a call without a level
pub no_levels : (m : Meaning) (k : Kernel) (p : ℕ) → has_level (k.call p) ≡ false → levels_of m k p ≡ []
no_levels m k p h = none_by (k.call p) h
  where
    by_marks : (c : Call) (x : Option (List Mark)) → elim x as (λ _. Bool) [ None ↦ false | Some y ↦ true ] ≡ false →
        levels_in (config_in (elim x as (λ _. Option Trace) [
          | None ↦ None
          | Some ks ↦ replay m k.world k.images k.objects p c.stage ks
        ])) ≡ []
    by_marks c None h = refl
    by_marks c (Some y) h = absurd cc

    none_by : (x : Option Call) → has_level x ≡ false → levels_in (config_in (trace_of m k p x)) ≡ []
    none_by None h = refl
    none_by (Some c) h = by_marks c c.marks h

-- how many levels there are after an instruction
pub went_length : (v : World) (images : ImageTable) (p : ℕ) (w : Objects) (ls : List Level) →
    (micro_on v images p w ls).said ≡ Micro.Went →
    length (micro_on v images p w ls).config.levels ≤ suc (length ls)
went_length v images p w [] said = omega arith
went_length v images p w (l ∷ ls) said =
    let r = micro_on v images p w (l ∷ ls) in
    let acts = instruction_acts v (λ o. Held.Exclusive) images p w l ls refl in
    let next = subst (λ s. Next v l.owner l.point l.kept l.touched (levels_by l.owner r.effects ls)
    s r.config) said acts.next in
    by_next (levels_by l.owner r.effects ls) r.config (levels_length l.owner r.effects ls) next
  where
    stay_most : (n x k : ℕ) → n ≡ suc x → x ≡ k → n ≤ suc (suc k)
    stay_most n x k e f = omega arith

    deeper_most : (n x k : ℕ) → n ≡ suc (suc x) → x ≡ k → n ≤ suc (suc k)
    deeper_most n x k e f = omega arith

    back_most : (n x y k : ℕ) → n ≡ suc x → y ≡ suc x → y ≡ k → n ≤ suc (suc k)
    back_most n x y k e f g = omega arith

    by_next : (xs : List Level) (c : Config) → length xs ≡ length ls →
        StaysIn l.owner l.point l.kept l.touched xs c ⊎ GoesDeeper l.owner l.point l.kept l.touched
        xs c ⊎ ComesBack xs c → length c.levels ≤ suc (suc (length ls))
    by_next xs c e (inl s) = stay_most (length c.levels) (length xs) (length ls) (ap length s.levels) e
    by_next xs c e (inr (inl d)) = deeper_most (length c.levels) (length xs) (length ls) (ap length d.levels) e
    by_next xs c e (inr (inr x)) =
        back_most (length c.levels) (length x.rest) (length xs) (length ls) (ap length x.levels)
        (ap length x.outside) e

module _ (m : Meaning) (know : Known m) (r : Run) (sound : IsSoundKernel m r.kernel)
    (whole : HasWholeBlocks r.kernel.world r.blocks) (here : StandsAt m r) (p : ℕ) (c : Call)
    (is : r.kernel.call p ≡ Some c) where
  -- how many pieces are left before the step
  abbrev pub left_now : ℕ
  left_now = m.left r.kernel.world r.kernel.objects p c.stage

  -- a call has a piece left
  pub some_now : 1 ≤ left_now
  some_now =
      (know.laws.stages.some_left r.kernel.world r.kernel.images r.kernel.objects p c.stage
      (record {
        store = here.store;
        caller = here.callers p c is;
        granted = here.granted p c is;
        fits = here.fit p c is;
      })).0

  -- a piece is done
  finish_share : (w : Objects) (answer : Option Answer) (ns : List Note) →
      IsReady m r.kernel.world r.kernel.images w p c.stage answer → AreAlike r.kernel.objects w →
      suc (own_share m p (finish_on m p c w answer (record r { notes = ns }))) ≤ left_now
  finish_share w answer ns ready alike =
      let v = r.kernel.world in
      let q = m.piece v r.kernel.images w r.blocks p c.stage answer r.io in
      let u = finish_on m p c w answer (record r { notes = ns }) in
      let at_p = at_here p (call_after c q.after) r.kernel.call in
      fewer (left_of m v q.objects p (u.kernel.call p)) (left_of m v q.objects p
      (call_after c q.after)) (length (levels_of m (requeue p u).kernel p)) left_now
      (ap (left_of m v q.objects p) at_p)
      (ap length (no_levels m (requeue p u).kernel p (ap has_level at_p ∙ piece_ends q.after)))
      (left_falls q.after refl)
    where
      fewer : (a b n k : ℕ) → a ≡ b → n ≡ 0 → suc b ≤ k → suc (a + above n) ≤ k
      fewer a b n k e f h = less_by n f
        where
          none_more : (a b k : ℕ) → a ≡ b → suc b ≤ k → suc (a + 0) ≤ k
          none_more a b k e h = omega arith

          not_suc : (i : ℕ) → suc i ≡ 0 → ⊥
          not_suc i f = omega arith

          less_by : (i : ℕ) → i ≡ 0 → suc (a + above i) ≤ k
          less_by zero f = none_more a b k e h
          less_by (suc i) f = absurd (not_suc i f)

      piece_ends : (a : After) → has_level (call_after c a) ≡ false
      piece_ends (Continues t) = refl
      piece_ends (EndsWith reply) = refl
      piece_ends (Fails refusal) = refl

      left_falls : (a : After) → let q =
          m.piece r.kernel.world r.kernel.images w r.blocks p c.stage answer r.io in
          q.after ≡ a → suc (left_of m r.kernel.world q.objects p (call_after c a)) ≤ left_now
      left_falls (Continues t) e =
          let q = m.piece r.kernel.world r.kernel.images w r.blocks p c.stage answer r.io in
          strictly (m.left r.kernel.world q.objects p t) left_now
          (subst (λ n. m.left r.kernel.world q.objects p t < n) (sym (know.laws.stages.left_same
          r.kernel.world r.kernel.objects w p c.stage (alike.files p)))
          (know.laws.stages.left_falls r.kernel.world r.kernel.images w r.blocks p c.stage t answer r.io ready e))
        where
          strictly : (a b : ℕ) → a < b → suc a ≤ b
          strictly a b h = omega arith
      left_falls (EndsWith reply) e = some_now
      left_falls (Fails refusal) e = some_now

  -- the history becomes one that leads to this config
  marks_share : (ks : List Mark) (ns : List Note) (f : Config) →
      config_in (replay m r.kernel.world r.kernel.images r.kernel.objects p c.stage ks) ≡ Some f →
      own_share m p (with_marks p c ks (record r { notes = ns })) ≡ left_now + above (length f.levels)
  marks_share ks ns f leads =
      let d : Call = record c { marks = Some ks } in
      let u = with_marks p c ks (record r { notes = ns }) in
      let at_p = at_here p (Some d) r.kernel.call in
      ap (λ x. left_of m r.kernel.world r.kernel.objects p x + above (length (levels_of m (requeue p u).kernel p))) at_p
      ∙ ap (λ x. left_now
      + above (length (levels_in (config_in (trace_of m (requeue p u).kernel p x))))) at_p
      ∙ ap (λ x. left_now + above (length (levels_in x))) leads

  -- a step before which the call has a history
  module _ (ks : List Mark) (t : Trace) (marked : c.marks ≡ Some ks)
      (leads : replay m r.kernel.world r.kernel.images r.kernel.objects p c.stage ks ≡ Some t) where
    -- an outcome leaves less than the pieces and so many levels
    outcome_share : (o : Outcome) (said : Micro) (most : ℕ) → o.said ≡ said →
        IsLikely m know r sound whole here p c ks t is marked leads o →
        (said ≡ Micro.Went → suc (above (length o.config.levels)) ≤ most) →
        ((d q pt : ℕ) (cause : Cause) → said ≡ Micro.Dropped (suc d) q pt cause →
        suc (above (length o.config.levels)) ≤ most) →
        ((object : Object) (holder : ℕ) (by_user : Bool) → said
        ≡ Micro.Blocked object holder by_user → suc (above (length t.config.levels)) ≤ most) →
        suc (own_share m p (after_outcome m p c t ks o said r)) ≤ left_now + most
    outcome_share o Micro.Went most e h went fell stay =
        within (own_share m p (with_marks p c (ks ++ Stepped ∷ []) r))
        left_now (above (length o.config.levels)) most
        (marks_share (ks ++ Stepped ∷ []) r.notes o.config (h.went e)) (went refl)
      where
        within : (x a b n : ℕ) → x ≡ a + b → suc b ≤ n → suc x ≤ a + n
        within x a b n e h = omega arith
    outcome_share o (Micro.Blocked object holder by_user) most e h went fell stay =
        within (own_share m p r) left_now (above (length t.config.levels)) most
        (ap (λ x. left_of m r.kernel.world r.kernel.objects p x + above (length (levels_of m r.kernel p))) is
        ∙ ap (λ x. left_now + above (length (levels_in x))) (own_config m know r sound whole here p
        c ks t is marked leads)) (stay object holder by_user refl)
      where
        within : (x a b n : ℕ) → x ≡ a + b → suc b ≤ n → suc x ≤ a + n
        within x a b n e h = omega arith
    outcome_share o (Micro.Completed answer) most e h went fell stay =
        let w = o.config.now in
        let done = subst (WhereCompleted m r.kernel.world r.kernel.objects p c t.config.levels w) e h.completed in
        more (suc (own_share m p (finish_on m p c w (Some (answer_of answer t.config.levels)) r))) left_now most
        (finish_share w (Some (answer_of answer t.config.levels)) r.notes
        (record {
          standing = stands_on m know.laws p c w r here is done.0 done.1;
          disk = alike_disk r.kernel.world r.kernel.objects w done.1 here.disk;
          right = done.2;
          body = done.3;
        }) done.1)
      where
        more : (x a n : ℕ) → x ≤ a → x ≤ a + n
        more x a n h = omega arith
    outcome_share o (Micro.Dropped zero q pt cause) most e h went fell stay =
        let w = lost_objects o.config.now r.kernel.objects in
        let ns = r.notes ++ Dropped c.number q pt cause ∷ [] in
        more (suc (own_share m p (finish_on m p c w None (record r { notes = ns })))) left_now most
        (finish_share w None ns
        (record {
          standing =
              stands_on m know.laws p c w r here is h.base (alike_lost o.config.now r.kernel.objects);
          disk = here.disk;
          right = tt;
          body = tt;
        }) (alike_lost o.config.now r.kernel.objects))
      where
        more : (x a n : ℕ) → x ≤ a → x ≤ a + n
        more x a n h = omega arith
    outcome_share o (Micro.Dropped (suc d) q pt cause) most e h went fell stay =
        let ns = r.notes ++ Dropped c.number q pt cause ∷ [] in
        within (own_share m p (with_marks p c (fallen t ks o.effects (suc d))
        (record r { notes = ns }))) left_now (above (length o.config.levels)) most
        (marks_share (fallen t ks o.effects (suc d)) ns o.config (h.fell d q pt cause e)) (fell d q pt cause refl)
      where
        within : (x a b n : ℕ) → x ≡ a + b → suc b ≤ n → suc x ≤ a + n
        within x a b n e h = omega arith

    -- at most four levels
    few_now : length t.config.levels ≤ 4
    few_now =
        let config = own_config m know r sound whole here p c ks t is marked leads in
        let graft = own_graft m know r sound whole here p c ks t is marked leads in
        (call_has_come m know.laws know.histories r.kernel sound p t.config config graft (call_comes
        m know.laws know.histories r.kernel sound p t.config config graft)).shape.most

    -- an instruction of a call that waited leaves no more than what it could lose
    pub instruction_share : blocker m r.kernel p ≡ None →
        own_share m p (after_outcome m p c t ks (micro r.kernel.world r.kernel.images p t.config)
        (micro r.kernel.world r.kernel.images p t.config).said r)
        ≤ left_now + min (length t.config.levels) 3
    instruction_share free =
        let v = r.kernel.world in
        let o = micro v r.kernel.images p t.config in
        let likely = instruction_likely m know r sound whole here p c ks t is marked leads free in
        let config = own_config m know r sound whole here p c ks t is marked leads in
        let graft = own_graft m know r sound whole here p c ks t is marked leads in
        let x = call_comes m know.laws know.histories r.kernel sound p t.config config graft in
        let come = call_has_come m know.laws know.histories r.kernel sound p t.config config graft x in
        one_less (own_share m p (after_outcome m p c t ks o o.said r)) left_now (min (length t.config.levels) 3)
        (outcome_share o o.said (suc (min (length t.config.levels) 3)) refl likely
        (λ e. deeper_most (length o.config.levels) (length t.config.levels)
        (went_length v r.kernel.images p t.config.now t.config.levels e)
        (subst (λ y. ShapeWhereWent x.point.installer y o.config) e (instruction_shape v
        r.kernel.images p x.point.installer t.config.now t.config.levels come.shape)).most)
        (λ d q pt cause e. let f = micro_fell v r.kernel.images p t.config.now
        t.config.levels (suc d) q pt cause e in fell_most (length o.config.levels) (suc d)
        (length t.config.levels) f.left f.below few_now)
        (λ object holder by_user e. stay_most (length t.config.levels) few_now))
      where
        one_less : (x a n : ℕ) → suc x ≤ a + suc n → x ≤ a + n
        one_less x a n h = omega arith

        deeper_most : (n k : ℕ) → n ≤ suc k → n ≤ 4 → suc (above n) ≤ suc (min k 3)
        deeper_most zero k h few = omega arith
        deeper_most (suc n) k h few = omega arith

        fell_most : (n d k : ℕ) → n ≡ d → d < k → k ≤ 4 → suc (above n) ≤ suc (min k 3)
        fell_most zero d k e h few = omega arith
        fell_most (suc n) d k e h few = omega arith

        stay_most : (n : ℕ) → n ≤ 4 → suc (above n) ≤ suc (min n 3)
        stay_most zero h = omega arith
        stay_most (suc n) h = omega arith

    -- a drop leaves less than what the call could lose
    pub drop_share : (waits : Bool) (d : ℕ) (cause : Cause) → d < length t.config.levels → let o =
        drop_level r.kernel.world t.config.now t.config.levels d cause in
        suc (own_share m p (outcome_step m p c t ks o r)) ≤ left_now + depth_left waits (length t.config.levels)
    drop_share waits d cause low =
        let o = drop_level r.kernel.world t.config.now t.config.levels d cause in
        let likely = drop_likely m know r sound whole here p c ks t is marked leads d cause low in
        let f = drops_level r.kernel.world t.config.now t.config.levels d cause low in
        outcome_share o o.said (depth_left waits (length t.config.levels)) refl likely
        (λ e. absurd (not_went d f.level.owner f.level.point cause (sym e ∙ f.said)))
        (λ n q pt why e.
        let same = same_drop d (suc n) f.level.owner q f.level.point pt cause why (sym f.said ∙ e) in
        less_depth waits (length o.config.levels) n (length t.config.levels)
        (f.left ∙ same) (subst (λ i. i < length t.config.levels) same low) few_now)
        (λ object holder by_user e. absurd (not_blocked d f.level.owner f.level.point cause object
        holder by_user (sym e ∙ f.said)))
      where
        less_depth : (waits : Bool) (n d k : ℕ) → n ≡ suc d → suc d < k → k ≤ 4 → suc (above n) ≤ depth_left waits k
        less_depth true zero d k e h few = omega arith
        less_depth true (suc n) d k e h few = omega arith
        less_depth false zero d k e h few = absurd (none_suc d e)
          where
            none_suc : (d : ℕ) → 0 ≡ suc d → ⊥
            none_suc d e = omega arith
        less_depth false (suc n) d zero e h few = omega arith
        less_depth false (suc n) d (suc k) e h few = omega arith

        not_went : (d q pt : ℕ) (cause : Cause) → Micro.Went ≡ Micro.Dropped d q pt cause → ⊥
        not_went d q pt cause h = cc

        not_blocked : (d q pt : ℕ) (cause : Cause) (object : Object) (holder : ℕ) (by_user : Bool) →
            Micro.Blocked object holder by_user ≡ Micro.Dropped d q pt cause → ⊥
        not_blocked d q pt cause object holder by_user h = cc

        same_drop : (d e q r pt pu : ℕ) (c x : Cause) → Micro.Dropped d q pt c ≡ Micro.Dropped e r pu x → d ≡ e
        same_drop d e q r pt pu c x h = cc

  -- the call at a piece
  module _ (marked : c.marks ≡ None) where
    piece_default : suc (own_share m p (finish_on m p c r.kernel.objects None r)) ≤ left_now
    piece_default =
        finish_share r.kernel.objects None r.notes
        (record {
          standing = stands_on m know.laws p c r.kernel.objects r here is sound.state.store
              (alike_self r.kernel.objects);
          disk = sound.state.disk;
          right = tt;
          body = tt;
        }) (alike_self r.kernel.objects)

    -- a piece leaves no more than the pieces that were left
    pub piece_share : own_share m p (piece_step m p c (m.asks r.kernel.world r.kernel.objects p c.stage) r) ≤ left_now
    piece_share = by_ask (m.asks r.kernel.world r.kernel.objects p c.stage) refl
      where
        one_less : (x a : ℕ) → suc x ≤ a → x ≤ a
        one_less x a h = omega arith

        same_most : (x a : ℕ) → x ≡ a + 0 → x ≤ a
        same_most x a e = omega arith

        by_graft : (a : Point) (g : Option GraftValue) →
            m.asks r.kernel.world r.kernel.objects p c.stage ≡ Some a →
            own_share m p (piece_at m p c g r) ≤ left_now
        by_graft a None asked =
            one_less (own_share m p (finish_on m p c r.kernel.objects None r))
            left_now piece_default
        by_graft a (Some g) asked =
            same_most (own_share m p (with_marks p c [] r)) left_now
            (marks_share [] r.notes (begin_at r.kernel.images r.kernel.objects p
            (m.need r.kernel.world r.kernel.objects p c.stage) (m.feed c.stage) a)
            (ap (λ ask. config_in (elim (begin_with r.kernel.images r.kernel.objects p
            (m.need r.kernel.world r.kernel.objects p c.stage) (m.feed c.stage) ask)
            as (λ _. Option Trace) [ None ↦ None | Some x ↦ Some (first_trace x) ])) asked))

        by_ask : (ask : Option Point) → m.asks r.kernel.world r.kernel.objects p c.stage ≡ ask →
            own_share m p (piece_step m p c ask r) ≤ left_now
        by_ask None asked = one_less (own_share m p (finish_on m p c r.kernel.objects None r)) left_now piece_default
        by_ask (Some a) asked = by_graft a (r.kernel.objects.accounts.graft a.installer a.point) asked
