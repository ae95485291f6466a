-- What stands for a sound kernel is sound in place, and its pieces are ready.
use Rattle.std.specs.Prelude.{◌≡◌, ◌<◌, ℕ, suc, true, List, [], ◌∷◌, length, map, Option, Some, None}
use Rattle.std.proofs.Common.{arith, refl, subst, sym, ap, ◌∙◌, inl, inr}
use Rattle.kernel_model.specs.declared.Cause.{Cause}
use Rattle.kernel_model.specs.declared.Micro.{Micro}
use Rattle.kernel_model.specs.declared.Object.TheVariants.{Graft}
use Rattle.kernel_model.specs.Objects.{Objects, Things}
use Rattle.kernel_model.specs.Meaning.{Meaning, Stage}
use Rattle.kernel_model.specs.Levels.{Level, Config, answer_of, drop_level}
use Rattle.kernel_model.specs.GraftStep.{micro}
use Rattle.kernel_model.specs.UndoLog.{undo_all}
use Rattle.kernel_model.specs.Kernel.{Call, Kernel, Run}
use Rattle.kernel_model.specs.Blocking.{levels_in, config_of, levels_of}
use Rattle.kernel_model.specs.Sound.{IsSoundStore, FitsDisk, ImagesAreLoaded, HasWholeBlocks, IsSoundConfig}
use Rattle.kernel_model.specs.Alike.{AreAlike}
use Rattle.kernel_model.specs.Laws.{Laws, IsStanding, IsReady}
use Rattle.kernel_laws.specs.Soundness.{AnswersRightly}
use Rattle.kernel_laws.proofs.BodyLemmas.{AnswersWholly, answer_right, micro_wholly}
use Rattle.kernel_laws.proofs.InstructionLemmas.{instructions_work}
use Rattle.kernel_laws.proofs.StepLemmas.{alike_disk}
use Rattle.graft_laws.proofs.GraftOriginLemmas.{images_from}
use Rattle.graft_laws.proofs.KernelSoundLemmas.{history_come}
use Rattle.graft_laws.proofs.StabilityLemmas.{has_graft}
use Rattle.graft_laws.proofs.InPlaceLemmas.{in_place_reads, changer, changer_config}
use Rattle.placed_laws.specs.Placed.{PlacedCall, Placed, has_some, bare, placed_levels, placed_config}
use Rattle.placed_laws.specs.Soundness.{SoundInPlace, ReadyInPlace}
use Rattle.placed_laws.specs.Stands.{without_history, StandsFor}
use Rattle.placed_laws.proofs.LevelLemmas.{relaid}
use Rattle.placed_laws.proofs.GraftedLemmas.{grafted}
use Rattle.placed_laws.proofs.SourceLemmas.{IsPlaced, fits_disk}
use Rattle.placed_laws.proofs.AlignLemmas.{over_store, aligned, placed_of}
use Rattle.placed_laws.proofs.ConfigLemmas.{laid_over, laid_config_sound}
use Rattle.placed_laws.proofs.WorkLemmas.{laid_works, near_after}
use Rattle.placed_laws.proofs.OutcomeLemmas.{drop_placed}
use Rattle.placed_laws.proofs.PointLemmas.{point_on}
use Rattle.placed_laws.proofs.GraftEndLemmas.{store_stands, alike_stands}
use Rattle.placed_laws.proofs.StandLemmas.{call_there}

module _ (m : Meaning) (laws : Laws m) (k : Kernel) (w : Objects) (here : IsPlaced m k w) where
  -- levels in place are those of a config
  config_there : (p : ℕ) → has_some (map bare (levels_of m k p)) ≡ true → (f : Config) × (config_of m k p ≡ Some f)
  config_there p some = by_config (config_of m k p) some
    where
      by_config : (y : Option Config) → has_some (map bare (levels_in y)) ≡ true → (f : Config) × (y ≡ Some f)
      by_config None h = absurd cc
      by_config (Some f) h = (f, refl)

  placed_is : (p : ℕ) (f : Config) → config_of m k p ≡ Some f → placed_config (over_store m w k) p ≡ laid_over w f
  placed_is p f is = ap (λ y. laid_over w (record { now = w; levels = levels_in y })) is

  config_sound : (p : ℕ) → has_some (map bare (levels_of m k p)) ≡ true →
      IsSoundConfig k.world (placed_config (over_store m w k) p)
  config_sound p some =
      let f = config_there p some in
      subst (IsSoundConfig k.world) (sym (placed_is p f.0 f.1)) (laid_config_sound m laws k w here p f.0 f.1)

  -- a state that is alike to the store
  alike_ready : (p : ℕ) (c : Call) → k.call p ≡ Some c → (d : Objects) → IsSoundStore k.world d →
      AreAlike w d → IsReady m k.world k.images d p c.stage None
  alike_ready p c e d sound alike =
      record {
        standing = alike_stands m laws k w here p c e d sound alike;
        disk = alike_disk k.world w d alike (fits_disk m laws k w here);
        right = tt;
        body = tt;
      }

  at_once : (p : ℕ) (c : Call) → k.call p ≡ Some c → IsReady m k.world k.images w p c.stage None
  at_once p c e =
      record {
        standing = store_stands m laws k w here p c e;
        disk = fits_disk m laws k w here;
        right = tt;
        body = tt;
      }

  -- after an instruction
  lost : (p : ℕ) (c : Call) → k.call p ≡ Some c → (f : Config) → config_of m k p ≡ Some f → IsReady
      m k.world k.images (micro k.world k.images p (laid_over w f)).config.now p c.stage None
  lost p c e f is =
      let g = grafted m laws k here.kernel p f is in
      let work = (instructions_work k.world k.images p w g.point (laid_over w f)
      (laid_works m laws k w here p f is)).0.works.1.0 in
      alike_ready p c e (micro k.world k.images p (laid_over w f)).config.now work.store work.alike

  completed : (p : ℕ) (c : Call) → k.call p ≡ Some c → (f : Config) → config_of m k p ≡ Some f →
      (answer : List ℕ) → (micro k.world k.images p (laid_over w f)).said ≡ Micro.Completed answer →
      IsReady m k.world k.images (micro k.world k.images p (laid_over w f)).config.now p c.stage
      (Some (answer_of answer (laid_over w f).levels))
  completed p c e f is answer said =
      let g = grafted m laws k here.kernel p f is in
      let works = instructions_work k.world k.images p w g.point (laid_over w f) (laid_works m laws k w here p f is) in
      let work = works.0.works.1.0 in
      let d = (micro k.world k.images p (laid_over w f)).config.now in
      let ready = lost p c e f is in
      let asks = subst (λ (y : Call). m.asks k.world k.objects p y.stage ≡ Some g.point)
      (is_it g.has.call c (sym g.has.is ∙ e)) g.asks in
      let point = point_on m laws k.world k.images k.objects d p c.stage g.point
      (here.kernel.fit p c e) asks (near_after m laws k w here d work.alike) ready.standing in
      record {
        standing = ready.standing;
        disk = ready.disk;
        right =
            answer_right d (m.asks k.world d p c.stage) answer (laid_over w f).levels
            (point.right answer (subst (AnswersRightly g.point d.things) said works.1));
        body = subst (AnswersWholly (laid_over w f).levels) said (micro_wholly k.world k.images p (laid_over w f));
      }
    where
      is_it : (a b : Call) → Some a ≡ Some b → a ≡ b
      is_it a b h = cc

  -- after the drop of a level
  length_laid : (y : Things) (ls : List Level) → length (map bare ls) ≡ length (relaid y ls)
  length_laid y [] = refl
  length_laid y (l ∷ ls) = ap suc (length_laid (undo_all l.records y) ls)

  dropped : (p : ℕ) (c : Call) → k.call p ≡ Some c → (d : ℕ) (cause : Cause) → d < length (map bare (levels_of m k p)) →
      IsReady m k.world k.images (drop_level k.world w (relaid w.things (levels_of m k p)) d
      cause).config.now p c.stage None
  dropped p c e d cause low =
      by_config (config_of m k p) refl
      (subst (λ n. d < n) (length_laid w.things (levels_of m k p)) low)
    where
      none_lower : {A : Type 0} → d < 0 → A
      none_lower h = absurd (bad d h)
        where
          bad : (d : ℕ) → d < 0 → ⊥
          bad d h = omega arith

      by_config : (y : Option Config) → config_of m k p ≡ y → d < length (relaid w.things (levels_in y)) →
          IsReady m k.world k.images (drop_level k.world w (relaid w.things (levels_in y)) d
          cause).config.now p c.stage None
      by_config None f low = none_lower low
      by_config (Some f) is low =
          let o = drop_placed m laws k w here p f is d cause low in
          alike_ready p c e (drop_level k.world w (relaid w.things f.levels) d cause).config.now o.store o.near

-- the images of grafts in the store
images_there : (m : Meaning) (laws : Laws m) (r : Run) (w : Objects) → IsPlaced m r.kernel w →
    HasWholeBlocks r.kernel.world r.blocks → ImagesAreLoaded r.kernel.images w.accounts
images_there m laws r w here whole q pt g e = elim (changer m r.kernel here.kernel (Graft q pt)) [
  | inl found ↦
      let k = r.kernel in
      let f = changer_config m k here.kernel found.0 (Graft q pt) found.1 in
      let h = has_graft m k found.0 f.0 f.1 in
      let come = history_come m laws laws.need.grafts r found.0 h.call h.marks h.trace here.kernel
      whole h.is h.marked h.leads in
      let loaded = images_from k.images k.objects.accounts h.trace.config.now.accounts come
      here.kernel.state.images_loaded in
      loaded q pt g (ap (λ (c : Config). c.now.accounts.graft q pt) h.config
      ∙ sym ((in_place_reads m).own k found.0 f.0 (Graft q pt) here.kernel f.1 f.2).0
      ∙ sym (here.objects (Graft q pt) tt).0 ∙ e)
  | inr none ↦ here.kernel.state.images_loaded q pt g (sym ((in_place_reads m).committed r.kernel
      (Graft q pt) none).0 ∙ sym (here.objects (Graft q pt) tt).0 ∙ e)
]

-- a call in place
call_is : (m : Meaning) (x : Placed) (k : Kernel) (p : ℕ) (c : PlacedCall) → StandsFor m x k →
    x.call p ≡ Some c → (d : Call) × (k.call p ≡ Some d) × (d.stage ≡ c.stage)
call_is m x k p c h e =
    let d = call_there (k.call p) c (sym (h.calls p) ∙ e) in
    (d.0, d.1, stage_is d.0 (ap without_history (sym d.1) ∙ sym (h.calls p) ∙ e))
  where
    stage_is : (d : Call) → Some (record { number = d.number; stage = d.stage }) ≡ Some c → d.stage ≡ c.stage
    stage_is d f = ap (λ (y : Option PlacedCall). elim y as (λ _. Stage) [ None ↦ c.stage | Some z ↦ z.stage ]) f

pub sound_in_place : (m : Meaning) → Laws m → SoundInPlace m
sound_in_place m laws =
    record {
      disk =
          λ x k h. subst (λ v. FitsDisk v x.objects.things.cache) (sym h.world)
          (fits_disk m laws k x.objects (placed_of m x k h));
      images_loaded =
          λ x r h. subst (λ i. ImagesAreLoaded i x.placed.objects.accounts) (sym h.kernel.images)
          (images_there m laws r x.placed.objects (placed_of m x.placed r.kernel h.kernel) h.whole);
      standing = λ x k p c h e.
          let d = call_is m x k p c h e in
          subst (λ (y : Placed). IsStanding m y.world y.images y.objects p c.stage) (sym (aligned m x k h))
          (subst (IsStanding m k.world k.images x.objects p) d.2
          (store_stands m laws k x.objects (placed_of m x k h) p d.0 d.1));
      configs = λ x k p h some.
          subst (λ (y : Placed). IsSoundConfig y.world (placed_config y p)) (sym (aligned m x k h))
          (config_sound m laws k x.objects (placed_of m x k h) p (ap has_some (sym (h.levels p)) ∙ some));
    }

pub ready_in_place : (m : Meaning) → Laws m → ReadyInPlace m
ready_in_place m laws =
    record {
      at_once = λ x k p c h e.
          let d = call_is m x k p c h e in
          subst (λ (y : Placed). IsReady m y.world y.images y.objects p c.stage None) (sym (aligned m x k h))
          (subst (λ t. IsReady m k.world k.images x.objects p t None) d.2
          (at_once m laws k x.objects (placed_of m x k h) p d.0 d.1));
      completed = λ x k p c answer h e some said.
          let here = placed_of m x k h in
          let d = call_is m x k p c h e in
          let f = config_there m laws k x.objects here p (ap has_some (sym (h.levels p)) ∙ some) in
          let there = placed_is m laws k x.objects here p f.0 f.1 in
          let same = aligned m x k h in
          subst (λ (y : Placed). IsReady m y.world y.images
          (micro y.world y.images p (placed_config y p)).config.now p c.stage
          (Some (answer_of answer (placed_levels y p)))) (sym same)
          (subst (λ (z : Config). IsReady m k.world k.images (micro k.world k.images p z).config.now
          p c.stage (Some (answer_of answer z.levels))) (sym there)
          (subst (λ t. IsReady m k.world k.images (micro k.world k.images p (laid_over x.objects
          f.0)).config.now p t (Some (answer_of answer (laid_over x.objects f.0).levels))) d.2
          (completed m laws k x.objects here p d.0 d.1 f.0 f.1 answer
          (ap (λ (z : Config). (micro k.world k.images p z).said) (sym there) ∙ ap (λ (y : Placed).
          (micro y.world y.images p (placed_config y p)).said) (sym same) ∙ said))));
      lost = λ x k p c h e some.
          let here = placed_of m x k h in
          let d = call_is m x k p c h e in
          let f = config_there m laws k x.objects here p (ap has_some (sym (h.levels p)) ∙ some) in
          subst (λ (y : Placed). IsReady m y.world y.images
          (micro y.world y.images p (placed_config y p)).config.now p c.stage None)
          (sym (aligned m x k h))
          (subst (λ (z : Config). IsReady m k.world k.images (micro k.world k.images p z).config.now
          p c.stage None) (sym (placed_is m laws k x.objects here p f.0 f.1))
          (subst (λ t. IsReady m k.world k.images (micro k.world k.images p (laid_over x.objects
          f.0)).config.now p t None) d.2 (lost m laws k x.objects here p d.0 d.1 f.0 f.1)));
      dropped = λ x k p c n cause h e low.
          let here = placed_of m x k h in
          let d = call_is m x k p c h e in
          subst (λ (y : Placed). IsReady m y.world y.images
          (drop_level y.world y.objects (placed_levels y p) n cause).config.now p c.stage None)
          (sym (aligned m x k h))
          (subst (λ t. IsReady m k.world k.images (drop_level k.world x.objects
          (relaid x.objects.things (levels_of m k p)) n cause).config.now p t None) d.2
          (dropped m laws k x.objects here p d.0 d.1 n cause (subst (λ i. n < i) (ap length (h.levels p)) low)));
    }
