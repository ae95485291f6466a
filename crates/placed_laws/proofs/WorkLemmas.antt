-- A graft call over the one store works on it.
use Rattle.std.specs.Prelude.{◌≡◌, ℕ, ◌<◌, nat_lt, Bool, true, false, cond, List, [], ◌∷◌, Some, Contains}
use Rattle.std.proofs.Common.{arith, refl, sym, ap, ◌∙◌, inl, inr}
use Rattle.std.proofs.lemmas.Bool.{cases_Bool}
use Rattle.std.proofs.lemmas.Bool.Decides.{nat_tests}
use Rattle.kernel_model.specs.declared.Object.TheVariants.{OpenFile, Queue, Cache, Lock, Pol}
use Rattle.kernel_model.specs.declared.Point.{Point}
use Rattle.kernel_model.specs.Objects.{Objects, Accounts, CacheValue, PolValue}
use Rattle.kernel_model.specs.Meaning.{Meaning}
use Rattle.kernel_model.specs.Levels.{Level, Config}
use Rattle.kernel_model.specs.Kernel.{Kernel}
use Rattle.kernel_model.specs.Blocking.{config_of}
use Rattle.kernel_model.specs.InPlace.{is_changed_in}
use Rattle.kernel_model.specs.Alike.{LevelsAlike, AreAlike, windowless, niceless, markless}
use Rattle.kernel_model.specs.Laws.{Laws}
use Rattle.kernel_laws.specs.Soundness.{IsGraftsWork, AreGraftsWork, IsAskedAt, WorksOn, found_by}
use Rattle.graft_laws.proofs.HoldLemmas.{changed_held}
use Rattle.graft_laws.proofs.SoundCallLemmas.{contains_first, contains_later}
use Rattle.placed_laws.proofs.LevelLemmas.{relaid, relaid_alike}
use Rattle.placed_laws.proofs.GraftedLemmas.{Grafted, grafted}
use Rattle.placed_laws.proofs.PairLemmas.{FoundAs}
use Rattle.placed_laws.proofs.SourceLemmas.{IsPlaced, shown, files, queue, lru, frames, locks, chosen, handlers}
use Rattle.placed_laws.proofs.ConfigLemmas.{laid_over, laid_config_sound, of_found, found_works}
use Rattle.kernel_laws.proofs.SettleLemmas.{alike_self}
use Rattle.kernel_laws.proofs.LevelLemmas.{each_contains}

-- the same level is asked
asked_alike : (a : Point) (ls ks : List Level) → LevelsAlike ls ks → IsAskedAt a ls → IsAskedAt a ks
asked_alike a [] [] h asked = tt
asked_alike a [] (k ∷ ks) h asked = absurd h
asked_alike a (l ∷ ls) [] h asked = absurd h
asked_alike a (l ∷ []) (k ∷ []) h asked = (
  sym (ap (λ (y : Level). y.owner) h.0) ∙ asked.0,
  sym (ap (λ (y : Level). y.point) h.0) ∙ asked.1,
  sym (ap (λ (y : Level). y.args) h.0) ∙ asked.2,
)
asked_alike a (l ∷ []) (k ∷ j ∷ js) h asked = absurd h.1
asked_alike a (l ∷ i ∷ ls) (k ∷ []) h asked = absurd h.1
asked_alike a (l ∷ i ∷ ls) (k ∷ j ∷ js) h asked = asked_alike a (i ∷ ls) (j ∷ js) h.1 asked

works_from : (m : Meaning) (k : Kernel) (x : Objects) (ls : List Level) →
    ((n : Level) → Contains ls n → IsGraftsWork k.world x x.accounts n.kept) →
    AreGraftsWork k.world x x.accounts (found_by ls)
works_from m k x [] h = tt
works_from m k x (l ∷ ls) h = (h l (contains_first l ls), works_from m k x ls (λ n c. h n (contains_later l n ls c)))

module _ (m : Meaning) (laws : Laws m) (k : Kernel) (x : Objects) (here : IsPlaced m k x) where
  -- what is alike to the store is alike to the committed state, policies out of range apart
  pub near_after : (y : Objects) → AreAlike x y → AreAlike k.objects (shown k.objects y)
  near_after y alike =
      record {
        files = λ p fd. files m laws k x here p fd ∙ alike.files p fd;
        queue = queue m laws k x here ∙ alike.queue;
        handlers = handlers m laws k x here ∙ alike.handlers;
        lru = lru m laws k x here ∙ alike.lru;
        frames = λ i. frames m laws k x here i ∙ alike.frames i;
        locks = λ u. locks m laws k x here u ∙ alike.locks u;
        policies = λ kind. chosen_same kind (nat_lt kind 3) refl;
      }
    where
      below : (kind : ℕ) → nat_lt kind 3 ≡ true → kind < 3
      below kind h = grind (arith, nat_tests)

      chosen_same : (kind : ℕ) (b : Bool) → nat_lt kind 3 ≡ b → (k.objects.things.pol kind).chosen
          ≡ (cond b (y.things.pol kind) (k.objects.things.pol kind)).chosen
      chosen_same kind true e = chosen m laws k x here kind (below kind e) ∙ alike.policies kind
      chosen_same kind false e = refl

  module _ (p : ℕ) (c : Config) (is : config_of m k p ≡ Some c) where
    g : Grafted m k p c
    g = grafted m laws k here.kernel p c is

    -- what a level found over the store is alike to it
    pub kept_near : (a : Accounts) (n : Level) → Contains (relaid x.things c.levels) n →
        AreAlike x (record { accounts = a; things = n.kept })
    kept_near a n among =
        let f = of_found m laws k x here p c is n among in
        let work = each_contains (λ (l : Level). IsGraftsWork k.world k.objects c.now.accounts
        l.kept) c.levels f.0 (found_works m k c.now c.levels g.works.works.1.1) f.1 in
        near_by f.0 f.2 work.alike
      where
        near_by : (l : Level) → FoundAs (is_changed_in c.levels) x.things l n →
            AreAlike k.objects (record { accounts = c.now.accounts; things = l.kept }) →
            AreAlike x (record { accounts = a; things = n.kept })
        near_by l f work =
            record {
              files = λ q fd. elim (cases_Bool (is_changed_in c.levels (OpenFile q fd))) [
                | inl changed ↦ sym (files m laws k x here q fd) ∙ work.files q fd
                    ∙ ap windowless (f.own (OpenFile q fd) changed)
                | inr free ↦ ap windowless (sym (f.other (OpenFile q fd) free))
              ];
              queue = elim (cases_Bool (is_changed_in c.levels Queue)) [
                | inl changed ↦ sym (queue m laws k x here) ∙ work.queue ∙ ap niceless (f.own Queue changed).0
                | inr free ↦ ap niceless (sym (f.other Queue free).0)
              ];
              handlers = elim (cases_Bool (is_changed_in c.levels Queue)) [
                | inl changed ↦ sym (handlers m laws k x here) ∙ work.handlers ∙ (f.own Queue changed).1
                | inr free ↦ sym (f.other Queue free).1
              ];
              lru = elim (cases_Bool (is_changed_in c.levels Cache)) [
                | inl changed ↦ sym (lru m laws k x here) ∙ work.lru
                    ∙ ap (λ (y : CacheValue). y.lru) (f.own Cache changed)
                | inr free ↦ ap (λ (y : CacheValue). y.lru) (sym (f.other Cache free))
              ];
              frames = λ i. elim (cases_Bool (is_changed_in c.levels Cache)) [
                | inl changed ↦ sym (frames m laws k x here i) ∙ work.frames i
                    ∙ ap (λ (y : CacheValue). markless (y.frame i)) (f.own Cache changed)
                | inr free ↦ ap (λ (y : CacheValue). markless (y.frame i)) (sym (f.other Cache free))
              ];
              locks = λ u. elim (cases_Bool (is_changed_in c.levels (Lock u))) [
                | inl changed ↦ sym (locks m laws k x here u) ∙ work.locks u ∙ f.own (Lock u) changed
                | inr free ↦ sym (f.other (Lock u) free)
              ];
              policies = λ kind. elim (cases_Bool (is_changed_in c.levels (Pol kind))) [
                | inl changed ↦ sym (chosen m laws k x here kind (g.replayed.ranges (Pol kind)
                    (changed_held c.levels (Pol kind) changed))) ∙ work.policies kind
                    ∙ ap (λ (y : PolValue). y.chosen) (f.own (Pol kind) changed)
                | inr free ↦ ap (λ (y : PolValue). y.chosen) (sym (f.other (Pol kind) free))
              ];
            }

    -- the call works on the store itself
    pub laid_works : WorksOn k.world x (grafted m laws k here.kernel p c is).point (laid_over x c)
    laid_works =
        let work : IsGraftsWork k.world x x.accounts x.things = record { store = here.store; alike = alike_self x } in
        record {
          works = (
            work,
            (
              work,
              works_from m k x (relaid x.things c.levels) (λ n among. record {
                store = (laid_config_sound m laws k x here p c is).found n among;
                alike = kept_near x.accounts n among;
              }),
            ),
          );
          asked =
              asked_alike (grafted m laws k here.kernel p c is).point c.levels
              (relaid x.things c.levels) (relaid_alike x.things c.levels)
              (grafted m laws k here.kernel p c is).works.asked;
        }
