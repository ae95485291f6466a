-- What is known of an instruction's outcome, and of a drop's, for the kernel after it to be sound.
use Rattle.std.specs.Prelude.{◌≡◌, ◌≢◌, ℕ, zero, suc, ◌<◌, ◌≤◌, ◌==◌, true, false, List, [], ◌∷◌}
use Rattle.std.specs.Prelude.{◌++◌, length, is_some, Option, Some, None, Contains}
use Rattle.std.specs.List.{AllByRecursion}
use Rattle.std.proofs.Common.{arith, refl, subst, sym, ap, ◌∙◌, inl, inr}
use Rattle.std.proofs.lemmas.Bool.{cases_Bool, eqb-true}
use Rattle.std.proofs.lemmas.Bool.Decides.{nat_tests}
use Rattle.kernel_model.specs.declared.Cause.{Cause}
use Rattle.kernel_model.specs.declared.Held.{Held}
use Rattle.kernel_model.specs.declared.Micro.{Micro}
use Rattle.kernel_model.specs.declared.Note.TheVariants.{Dropped}
use Rattle.kernel_model.specs.World.{World, ImageTable}
use Rattle.kernel_model.specs.Objects.{Objects}
use Rattle.kernel_model.specs.Policies.{default_of}
use Rattle.kernel_model.specs.Charges.{removed}
use Rattle.kernel_model.specs.Meaning.{Meaning}
use Rattle.kernel_model.specs.Levels.{Level, Config, Outcome, is_going_on, answer_of, drop_innermost, drop_level}
use Rattle.kernel_model.specs.GraftStep.{micro, micro_on, next_needs}
use Rattle.kernel_model.specs.History.{Mark, Stepped, Trace, trace_after, stepped, replay, fallen}
use Rattle.kernel_model.specs.Kernel.{Call, Run}
use Rattle.kernel_model.specs.Blocking.{config_in, levels_in, trace_of, config_of, needs_at, needs_in, needs, blocker}
use Rattle.kernel_model.specs.Settle.{lost_objects, after_outcome}
use Rattle.kernel_model.specs.Sound.{IsSoundStore, IsSoundConfig, IsSoundKernel, HasWholeBlocks}
use Rattle.graft_laws.proofs.HistoryEffectLemmas.{levels_by, levels_length}
use Rattle.graft_laws.proofs.ActLemmas.{Next, instruction_acts}
use Rattle.graft_laws.proofs.RecordLemmas.{answer_many}
use Rattle.graft_laws.proofs.HistoryShapeLemmas.{HasShape, ShapeWhereWent, instruction_shape}
use Rattle.graft_laws.proofs.HistoryHoldLemmas.{AllOk, NeedsOk, level_drop_ok, instruction_ok}
use Rattle.graft_laws.proofs.FallenLemmas.{one_mark}
use Rattle.graft_laws.proofs.DropLemmas.{falls_replay}
use Rattle.graft_laws.proofs.MoveLemmas.{StandsAt}
use Rattle.kernel_laws.proofs.BodyLemmas.{micro_wholly}
use Rattle.kernel_laws.proofs.StepLemmas.{alike_disk}
use Rattle.graft_laws.proofs.StepMoveLemmas.{WhereCompleted, alike_lost, stands_on, completes}
use Rattle.graft_laws.proofs.StepMoveLemmas.{dropped_base, none_completes}
use Rattle.graft_laws.proofs.ComeLemmas.{went_accounts}
use Rattle.graft_laws.proofs.GraftLemmas.{GraftsFrom, removed_from}
use Rattle.graft_laws.proofs.SoundCallLemmas.{contains_first, contains_later, InGraft}
use Rattle.graft_laws.proofs.SoundCallLemmas.{call_comes, call_works, call_has_come, call_sound}
use Rattle.graft_laws.proofs.BesideLemmas.{may_hold, own_ok, unblocked_ok}
use Rattle.graft_laws.proofs.HistoryKernelStepLemmas.{Known, loaded_from, replay_more, StaysSound, May}
use Rattle.graft_laws.proofs.HistoryKernelStepLemmas.{finish_sound, marks_sound, stay_sound}
use Rattle.kernel_laws.proofs.LevelLemmas.{each_from}

-- ---- which level is dropped

-- the level of a graft that was dropped, of these
pub record FellAmong (ls : List Level) (d q pt : ℕ) (c : Config) : Type 0 where
  pub level : Level
  pub among : Contains ls level
  pub owner : q ≡ level.owner
  pub point : pt ≡ level.point
  pub left : length c.levels ≡ d
  pub below : d < length ls
  pub gone : is_some (c.now.accounts.graft q pt) ≡ false

pub micro_fell : (v : World) (images : ImageTable) (p : ℕ) (w : Objects) (ls : List Level)
    (d q pt : ℕ) (cause : Cause) → (micro_on v images p w ls).said ≡ Micro.Dropped d q pt cause →
    FellAmong ls d q pt (micro_on v images p w ls).config
micro_fell v images p w [] d q pt cause e = absurd (no_drop e)
  where
    no_drop : Micro.Went ≡ Micro.Dropped d q pt cause → ⊥
    no_drop h = cc
micro_fell v images p w (l ∷ ls) d q pt cause e =
    let r = micro_on v images p w (l ∷ ls) in
    let acts = instruction_acts v (λ o. Held.Exclusive) images p w l ls refl in
    let x = subst (λ s. Next v l.owner l.point l.kept l.touched (levels_by l.owner r.effects ls) s
    r.config) e acts.next in
    let y = default_of v l.kept l.owner l.point in
    record {
      level = l;
      among = contains_first l ls;
      owner = x.owner;
      point = x.point;
      left = ap length x.levels ∙ answer_many l.point y.0 y.1 (levels_by l.owner r.effects ls) ∙ sym x.level;
      below = below_next d (length ls) (x.level ∙ levels_length l.owner r.effects ls);
      gone =
          ap (λ i. is_some (r.config.now.accounts.graft i pt)) x.owner
          ∙ ap (λ i. is_some (r.config.now.accounts.graft l.owner i)) x.point ∙ x.gone;
    }
  where
    below_next : (d n : ℕ) → d ≡ n → d < suc n
    below_next d n e = omega arith

-- the drop of a level that there is
pub record DropsLevel (v : World) (w : Objects) (ls : List Level) (d : ℕ) (cause : Cause) (o : Outcome) : Type 0 where
  pub level : Level
  pub among : Contains ls level
  pub said : o.said ≡ Micro.Dropped d level.owner level.point cause
  pub accounts : o.config.now.accounts ≡ removed level.owner level.point w.accounts
  pub left : length o.config.levels ≡ d

pub drops_level : (v : World) (w : Objects) (ls : List Level) (d : ℕ) (cause : Cause) →
    d < length ls → DropsLevel v w ls d cause (drop_level v w ls d cause)
drops_level v w [] d cause low = absurd (none_lower d low)
  where
    none_lower : (d : ℕ) → d < 0 → ⊥
    none_lower d h = omega arith
drops_level v w (l ∷ ls) d cause low = elim (cases_Bool (length ls == d)) [
  | inl top ↦
      let o = drop_innermost v w l ls cause in
      let y = default_of v l.kept l.owner l.point in
      subst (DropsLevel v w (l ∷ ls) d cause) (sym
      (ap (λ x. elim x as (λ _. Outcome) [ true ↦ o | false ↦ drop_level v w ls d cause ]) top))
      (record {
        level = l;
        among = contains_first l ls;
        said = ap (λ n. Micro.Dropped n l.owner l.point cause) (eqb-true (length ls) d top);
        accounts = refl;
        left = answer_many l.point y.0 y.1 ls ∙ eqb-true (length ls) d top;
      })
  | inr inner ↦
      let rest = drops_level v w ls d cause (further (length ls) d low inner) in
      subst (DropsLevel v w (l ∷ ls) d cause) (sym (ap (λ x. elim x as (λ _. Outcome) [
        | true ↦ drop_innermost v w l ls cause
        | false ↦ drop_level v w ls d cause
      ]) inner))
      (record {
        level = rest.level;
        among = contains_later l rest.level ls rest.among;
        said = rest.said;
        accounts = rest.accounts;
        left = rest.left;
      })
]
  where
    further : (n d : ℕ) → d < suc n → (n == d) ≡ false → d < n
    further n d h e = grind (arith, nat_tests)

-- levels that are some
some_left : (ls : List Level) (d : ℕ) → length ls ≡ suc d → ls ≢ []
some_left [] d h e = none_suc d h
  where
    none_suc : (d : ℕ) → 0 ≡ suc d → ⊥
    none_suc d h = omega arith
some_left (l ∷ ls) d h e = cc

module _ (m : Meaning) (know : Known m) (r : Run) (sound : IsSoundKernel m r.kernel)
    (whole : HasWholeBlocks r.kernel.world r.blocks) (stands : StandsAt m r) (p : ℕ) (c : Call)
    (ks : List Mark) (t : Trace)
    (is : r.kernel.call p ≡ Some c) (marked : c.marks ≡ Some ks) (leads :
    replay m r.kernel.world r.kernel.images r.kernel.objects p c.stage ks ≡ Some t) where
  -- the grafts of these levels stand
  abbrev Standing : Config → Type 0
  Standing f = AllByRecursion (λ (x : Level). is_some (f.now.accounts.graft x.owner x.point) ≡ true) f.levels

  -- what has to be known of an outcome
  pub record IsLikely (o : Outcome) : Type 0 where
    pub grafts_from : GraftsFrom r.kernel.objects.accounts o.config.now.accounts
    pub base : IsSoundStore r.kernel.world (lost_objects o.config.now r.kernel.objects)
    pub completed : WhereCompleted m r.kernel.world r.kernel.objects p c t.config.levels o.config.now o.said
    pub ok : AllOk (May m know r sound p) o.config.levels
    pub went : o.said ≡ Micro.Went → config_in (replay m r.kernel.world r.kernel.images
        r.kernel.objects p c.stage (ks ++ Stepped ∷ [])) ≡ Some o.config
    pub went_stands : o.said ≡ Micro.Went → Standing o.config
    pub fell : (d q pt : ℕ) (cause : Cause) → o.said ≡ Micro.Dropped (suc d) q pt cause →
        config_in (replay m r.kernel.world r.kernel.images r.kernel.objects p c.stage
        (fallen t ks o.effects (suc d))) ≡ Some o.config
    pub fell_stands : (d q pt : ℕ) (cause : Cause) → o.said ≡ Micro.Dropped (suc d) q pt cause → Standing o.config

  -- the kernel after it is sound
  pub outcome_sound : (o : Outcome) (said : Micro) → o.said ≡ said → IsLikely o →
      StaysSound m know r sound p (after_outcome m p c t ks o said r)
  outcome_sound o Micro.Went e h =
      marks_sound m know r sound p c (ks ++ Stepped ∷ []) r.notes o.config (h.went e)
      (h.went_stands e) h.ok
  outcome_sound o (Micro.Blocked object holder by_user) e h = stay_sound m know r sound p r.notes
  outcome_sound o (Micro.Completed answer) e h =
      let w = o.config.now in
      let done = subst (WhereCompleted m r.kernel.world r.kernel.objects p c t.config.levels w) e h.completed in
      finish_sound m know r sound p c w (Some (answer_of answer t.config.levels)) r.notes
      (record {
        standing = stands_on m know.laws p c w r stands is done.0 done.1;
        disk = alike_disk r.kernel.world r.kernel.objects w done.1 stands.disk;
        right = done.2;
        body = done.3;
      })
      (loaded_from r.kernel.images r.kernel.objects.accounts w.accounts h.grafts_from sound.state.images_loaded)
  outcome_sound o (Micro.Dropped zero q pt cause) e h =
      let w = lost_objects o.config.now r.kernel.objects in
      finish_sound m know r sound p c w None (r.notes ++ Dropped c.number q pt cause ∷ [])
      (record {
        standing =
            stands_on m know.laws p c w r stands is h.base (alike_lost o.config.now r.kernel.objects);
        disk = stands.disk;
        right = tt;
        body = tt;
      })
      (loaded_from r.kernel.images r.kernel.objects.accounts w.accounts h.grafts_from sound.state.images_loaded)
  outcome_sound o (Micro.Dropped (suc d) q pt cause) e h =
      marks_sound m know r sound p c (fallen t ks o.effects (suc d))
      (r.notes ++ Dropped c.number q pt cause ∷ []) o.config (h.fell d q pt cause e)
      (h.fell_stands d q pt cause e) h.ok

  -- ---- the call as it stands

  -- where it is in its graft
  abbrev pub own_graft : InGraft m r.kernel p t.config
  own_graft = record { call = c; marks = ks; trace = t; is = is; marked = marked; leads = leads; config = refl }

  pub own_trace : trace_of m r.kernel p (Some c) ≡ Some t
  own_trace =
      ap (λ (x : Option (List Mark)). elim x as (λ _. Option Trace) [
        | None ↦ None
        | Some y ↦ replay m r.kernel.world r.kernel.images r.kernel.objects p c.stage y
      ]) marked ∙ leads

  pub own_config : config_of m r.kernel p ≡ Some t.config
  own_config = ap (λ x. config_in (trace_of m r.kernel p x)) is ∙ ap config_in own_trace

  own_sound : IsSoundConfig r.kernel.world t.config
  own_sound = call_sound m know.laws know.histories r.kernel sound p t.config own_config know.undoes know.own

  own_levels_ok : AllOk (May m know r sound p) t.config.levels
  own_levels_ok =
      subst (λ x. AllOk (May m know r sound p) (levels_in x)) own_config
      (own_ok m know.laws know.histories r.kernel sound p)

  stands_each : (f : Config) → IsSoundConfig r.kernel.world f → Standing f
  stands_each f h =
      each_from (λ (x : Level). is_some (f.now.accounts.graft x.owner x.point) ≡ true) f.levels
      (λ x contained. h.grafts x contained)

  -- ---- an instruction

  pub instruction_likely : blocker m r.kernel p ≡ None → IsLikely (micro r.kernel.world r.kernel.images p t.config)
  instruction_likely free =
      let v = r.kernel.world in
      let s = r.kernel.objects in
      let o = micro v r.kernel.images p t.config in
      let x = call_comes m know.laws know.histories r.kernel sound p t.config own_config own_graft in
      let come = call_has_come m know.laws know.histories r.kernel sound p t.config own_config own_graft x in
      let works = call_works m know.laws know.histories r.kernel sound p t.config own_config
      own_graft x.point x.asked in
      let after = know.instructions v r.kernel.images p s x.point t.config works in
      let needed : needs m r.kernel p ≡ next_needs v r.kernel.images t.config.now.accounts t.config.levels =
      ap (needs_in m r.kernel p) is
      ∙ ap (λ (y : Option (List Mark)). elim y as (λ _. _) [
        | None ↦ m.need v s p c.stage
        | Some z ↦ needs_at m r.kernel (config_of m r.kernel p)
      ]) marked
      ∙ ap (needs_at m r.kernel) own_config in
      record {
        grafts_from = went_accounts v r.kernel.images p s.accounts t.config.now t.config.levels x.grafts_from;
        base = after.0.works.0.store;
        completed =
            completes m know.laws p c x.point t.config.levels o o.said r stands is x.asked after.0
            after.1 (micro_wholly v r.kernel.images p t.config);
        ok =
            instruction_ok (May m know r sound p) (may_hold m know.laws know.histories r.kernel
            sound p) v r.kernel.images p t.config.now t.config.levels own_levels_ok
            (subst (NeedsOk (May m know r sound p)) needed
            (unblocked_ok m know.laws know.histories r.kernel sound p free));
        went =
            λ e. ap config_in (replay_more m v r.kernel.images s p c.stage ks (Stepped ∷ []) t leads
            ∙ one_mark v r.kernel.images p Stepped t ∙ stepped_on o e);
        went_stands =
            λ e. stands_each o.config (know.configs v r.kernel.images p t.config own_sound
            (shape_some x.point.installer o.config.levels
            (subst (λ y. ShapeWhereWent x.point.installer y o.config) e (instruction_shape v
            r.kernel.images p x.point.installer t.config.now t.config.levels come.shape))));
        fell = λ d q pt cause e.
            let f = micro_fell v r.kernel.images p t.config.now t.config.levels (suc d) q pt cause e in
            falls_replay m v r.kernel.images s p c.stage ks t o d q pt cause cause leads (inl refl) e
            (ap (λ i. is_some (t.config.now.accounts.graft i pt)) f.owner
            ∙ ap (λ i. is_some (t.config.now.accounts.graft f.level.owner i)) f.point
            ∙ own_sound.grafts f.level f.among);
        fell_stands = λ d q pt cause e.
            let f = micro_fell v r.kernel.images p t.config.now t.config.levels (suc d) q pt cause e in
            stands_each o.config (know.configs v r.kernel.images p t.config own_sound
            (some_left o.config.levels d f.left));
      }
    where
      stepped_on : (o : Outcome) → o.said ≡ Micro.Went → stepped t o ≡ Some (trace_after t o)
      stepped_on o e =
          ap (λ said. elim (is_going_on said) as (λ _. Option Trace) [
            | true ↦ Some (trace_after t o)
            | false ↦ None
          ]) e

      shape_some : (q : ℕ) (ls : List Level) → HasShape q ls → ls ≢ []
      shape_some q [] h e = none_some h.some
        where
          none_some : 1 ≤ 0 → ⊥
          none_some h = omega arith
      shape_some q (l ∷ ls) h e = cc

  -- ---- a drop

  pub drop_likely : (d : ℕ) (cause : Cause) → d < length t.config.levels →
      IsLikely (drop_level r.kernel.world t.config.now t.config.levels d cause)
  drop_likely d cause low =
      let v = r.kernel.world in
      let s = r.kernel.objects in
      let o = drop_level v t.config.now t.config.levels d cause in
      let x = call_comes m know.laws know.histories r.kernel sound p t.config own_config own_graft in
      let works = call_works m know.laws know.histories r.kernel sound p t.config own_config
      own_graft x.point x.asked in
      let f = drops_level v t.config.now t.config.levels d cause low in
      record {
        grafts_from =
            subst (GraftsFrom s.accounts) (sym f.accounts) (removed_from s.accounts
            t.config.now.accounts f.level.owner f.level.point x.grafts_from);
        base =
            dropped_base m know.laws know.instructions know.histories know.effects v t.config.now
            t.config.levels d cause s.things works.works.0.store;
        completed =
            none_completes m know.laws know.instructions know.histories know.effects v t.config.now
            s o.config.now p c t.config.levels t.config.levels d cause;
        ok =
            level_drop_ok (May m know r sound p) (may_hold m know.laws know.histories r.kernel sound
            p) v t.config.now t.config.levels d cause own_levels_ok;
        went = λ e. absurd (not_went d f.level.owner f.level.point cause (sym e ∙ f.said));
        went_stands = λ e. absurd (not_went d f.level.owner f.level.point cause (sym e ∙ f.said));
        fell = λ n q pt why e.
            let same = same_drop d (suc n) f.level.owner q f.level.point pt cause why (sym f.said ∙ e) in
            falls_replay m v r.kernel.images s p c.stage ks t o n q pt why cause leads
            (inr (ap (λ i. drop_level v t.config.now t.config.levels i cause) same.0)) e
            (ap (λ i. is_some (t.config.now.accounts.graft i pt)) (sym same.1)
            ∙ ap (λ i. is_some (t.config.now.accounts.graft f.level.owner i)) (sym same.2)
            ∙ own_sound.grafts f.level f.among);
        fell_stands = λ n q pt why e.
            let same = same_drop d (suc n) f.level.owner q f.level.point pt cause why (sym f.said ∙ e) in
            stands_each o.config (know.drops v t.config d cause own_sound
            (some_left o.config.levels n (f.left ∙ same.0)));
      }
    where
      not_went : (d q pt : ℕ) (cause : Cause) → Micro.Went ≡ Micro.Dropped d q pt cause → ⊥
      not_went d q pt cause h = cc

      same_drop : (d e q r pt pu : ℕ) (c x : Cause) →
          Micro.Dropped d q pt c ≡ Micro.Dropped e r pu x → (d ≡ e) × (q ≡ r) × (pt ≡ pu)
      same_drop d e q r pt pu c x h = (cc, cc, cc)
