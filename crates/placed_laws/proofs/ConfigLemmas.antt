-- A call's config over the one store: it is sound, and alike to the one to which the call's history leads.
use Rattle.std.specs.Prelude.{◌≡◌, ℕ, ◌≤◌, true, List, [], ◌∷◌, map, is_some, Some, Contains}
use Rattle.std.specs.List.{AllByRecursion}
use Rattle.std.proofs.Common.{subst, sym, ap, ◌∙◌, inl, inr}
use Rattle.std.proofs.lemmas.Bool.{cases_Bool}
use Rattle.kernel_model.specs.declared.Held.{Held}
use Rattle.kernel_model.specs.declared.Object.TheVariants.{Graft, Acct, Queue}
use Rattle.kernel_model.specs.Objects.{Objects}
use Rattle.kernel_model.specs.Policies.{lives}
use Rattle.kernel_model.specs.Meaning.{Meaning}
use Rattle.kernel_model.specs.Levels.{Level, Config, outermost_touched}
use Rattle.kernel_model.specs.Kernel.{Kernel}
use Rattle.kernel_model.specs.Blocking.{config_of}
use Rattle.kernel_model.specs.InPlace.{is_changed_in}
use Rattle.kernel_model.specs.Sound.{IsSoundStore, IsSoundConfig}
use Rattle.kernel_model.specs.Alike.{LevelsAlike, ConfigsAlike, AreAlike}
use Rattle.kernel_model.specs.Laws.{Laws}
use Rattle.kernel_laws.specs.Soundness.{IsGraftsWork, AreGraftsWork, found_by}
use Rattle.kernel_laws.proofs.StepLemmas.{niceless_lives}
use Rattle.graft_laws.proofs.ObjectLemmas.{same_thing}
use Rattle.graft_laws.proofs.HoldLemmas.{changed_held}
use Rattle.graft_laws.proofs.LevelsAlikeLemmas.{length_alike, records_alike}
use Rattle.graft_laws.proofs.ConfigAlikeLemmas.{kept_alike}
use Rattle.graft_laws.proofs.InverseLemmas.{thing_back}
use Rattle.placed_laws.proofs.LevelLemmas.{relaid, relaid_alike, laid_kept, laid_recorded}
use Rattle.placed_laws.proofs.GraftedLemmas.{Grafted, grafted}
use Rattle.placed_laws.proofs.MixedLemmas.{mixed_sound}
use Rattle.placed_laws.proofs.PairLemmas.{IsAlike, FoundAs, pair_each, alike_pairs, alike_at}
use Rattle.placed_laws.proofs.PairLemmas.{laid_found}
use Rattle.placed_laws.proofs.SourceLemmas.{IsPlaced, held_same, living}
use Rattle.placed_laws.specs.Placed.{bare}
use Rattle.graft_laws.proofs.AlikeEffectLemmas.{outermost_alike}
use Rattle.kernel_laws.proofs.LevelLemmas.{outer_changed, each_contains}
use Rattle.kernel_laws.proofs.FrameLemmas.{thing_self}

-- a config's levels over another store
abbrev pub laid_over : Objects → Config → Config
laid_over x c = record { now = x; levels = relaid x.things c.levels }

-- what each level found is a work on the committed state
pub found_works : (m : Meaning) (k : Kernel) (a : Objects) (ls : List Level) →
    AreGraftsWork k.world k.objects a.accounts (found_by ls) →
    AllByRecursion (λ (l : Level). IsGraftsWork k.world k.objects a.accounts l.kept) ls
found_works m k a [] h = tt
found_works m k a (l ∷ ls) h = (h.0, found_works m k a ls h.1)

module _ (m : Meaning) (laws : Laws m) (k : Kernel) (x : Objects) (here : IsPlaced m k x) (p : ℕ)
    (c : Config) (is : config_of m k p ≡ Some c) where
  g : Grafted m k p c
  g = grafted m laws k here.kernel p c is

  alike : LevelsAlike c.levels (relaid x.things c.levels)
  alike = relaid_alike x.things c.levels

  -- what is held has the same value on both
  pub laid_config_alike : ConfigsAlike c (laid_over x c)
  laid_config_alike =
      record {
        levels = alike;
        now = λ o held. held_same m laws k x here p c o is held;
        kept =
            λ n l i o e f held. kept_alike c.levels (relaid x.things c.levels) c.now.things x.things
            alike g.replayed.sound.kept (laid_kept x.things (map bare c.levels)) o
            (same_thing o c.now x (held_same m laws k x here p c o is held)) n l i e f;
      }

  -- each level has one of the call's
  of_level : (n : Level) → Contains (relaid x.things c.levels) n → (l : Level) × Contains c.levels l × IsAlike l n
  of_level n among =
      each_contains (λ (i : Level). (l : Level) × Contains c.levels l × IsAlike l i) (relaid x.things c.levels) n
      (pair_each IsAlike c.levels c.levels (relaid x.things c.levels)
      (λ l i. i) (alike_pairs c.levels (relaid x.things c.levels) alike)) among

  abbrev pub Found : Level → Level → Type 0
  Found = FoundAs (is_changed_in c.levels) x.things

  pub of_found : (n : Level) → Contains (relaid x.things c.levels) n → (l : Level) × Contains c.levels l × Found l n
  of_found n among =
      each_contains (λ (i : Level). (l : Level) × Contains c.levels l × Found l i) (relaid x.things c.levels) n
      (pair_each Found c.levels c.levels (relaid x.things c.levels) (λ l i. i)
      (laid_found (is_changed_in c.levels) x.things c.now.things x.things c.levels g.undoable (λ o h. h)
      (λ o h. same_thing o c.now x (held_same m laws k x here p c o is (changed_held c.levels o h)))
      (λ o h. thing_self o x.things))) among

  -- a level's graft stands in the store
  stands : (l : Level) → Contains c.levels l → is_some (x.accounts.graft l.owner l.point) ≡ true
  stands l among =
      ap is_some (sym (held_same m laws k x here p c (Graft l.owner l.point) is
      (changed_held c.levels (Graft l.owner l.point) (outer_changed c.levels
      (Graft l.owner l.point) (g.replayed.sound.paid l among).0))).0)
      ∙ g.replayed.sound.grafts l among

  -- what a level found over the store is sound with the store's accounts
  found_sound : (n : Level) → Contains (relaid x.things c.levels) n →
      IsSoundStore k.world (record x { things = n.kept })
  found_sound n among =
      let f = of_found n among in
      let work = each_contains (λ (l : Level). IsGraftsWork k.world k.objects c.now.accounts l.kept)
      c.levels f.0 (found_works m k c.now c.levels g.works.works.1.1) f.1 in
      let state : Objects = record { accounts = c.now.accounts; things = f.0.kept } in
      let lives_in : (q : ℕ) → lives x.things.queue q ≡ lives n.kept.queue q = λ q. living_by f.0 n f.2 work.alike q in
      mixed_sound k.world x n.kept here.store lives_in (λ o. elim (cases_Bool (is_changed_in c.levels o)) [
        | inl changed ↦ record {
          state = state;
          store = work.store;
          living =
              λ q. sym (niceless_lives k.objects.things.queue f.0.kept.queue q work.alike.queue)
              ∙ sym (living m laws k x here q) ∙ lives_in q;
          same = f.2.own o changed;
        }
        | inr free ↦ record {
          state = x;
          store = here.store;
          living = lives_in;
          same = thing_back o n.kept x.things (f.2.other o free);
        }
      ])
    where
      living_by : (l n : Level) → Found l n →
          AreAlike k.objects (record { accounts = c.now.accounts; things = l.kept }) → (q : ℕ) →
          lives x.things.queue q ≡ lives n.kept.queue q
      living_by l n f work q = elim (cases_Bool (is_changed_in c.levels Queue)) [
        | inl changed ↦ living m laws k x here q
            ∙ niceless_lives k.objects.things.queue l.kept.queue q work.queue
            ∙ ap (λ queue. lives queue q) (f.own Queue changed).0
        | inr free ↦ ap (λ queue. lives queue q) (sym (f.other Queue free).0)
      ]

  pub laid_config_sound : IsSoundConfig k.world (laid_over x c)
  laid_config_sound =
      let s = g.replayed.sound in
      let ks = relaid x.things c.levels in
      record {
        now = here.store;
        some = subst (λ n. 1 ≤ n) (length_alike c.levels ks alike) s.some;
        most = subst (λ n. n ≤ 4) (length_alike c.levels ks alike) s.most;
        grafts = λ n among.
            let l = of_level n among in
            subst (λ (i : Level). is_some (x.accounts.graft i.owner i.point) ≡ true) l.2 (stands l.0 l.1);
        different = λ d e l n atd ate owner point.
            let a = alike_at d c.levels ks l alike atd in
            let b = alike_at e c.levels ks n alike ate in
            s.different d e a.0 b.0 a.1 b.1
            (ap (λ (i : Level). i.owner) a.2 ∙ owner ∙ sym (ap (λ (i : Level). i.owner) b.2))
            (ap (λ (i : Level). i.point) a.2 ∙ point ∙ sym (ap (λ (i : Level). i.point) b.2));
        paid = λ n among.
            let l = of_level n among in
            let paid = s.paid l.0 l.1 in
            subst (λ (i : Level). (outermost_touched ks (Graft i.owner i.point) ≡ Held.Exclusive)
            × (outermost_touched ks (Acct i.owner) ≡ Held.Exclusive)) l.2 (
              sym (outermost_alike c.levels ks (Graft l.0.owner l.0.point) alike) ∙ paid.0,
              sym (outermost_alike c.levels ks (Acct l.0.owner) alike) ∙ paid.1,
            );
        recorded = laid_recorded x.things c.levels s.recorded;
        few = subst (λ n. n ≤ 64) (records_alike c.levels ks alike) s.few;
        found = found_sound;
        kept = laid_kept x.things (map bare c.levels);
      }
