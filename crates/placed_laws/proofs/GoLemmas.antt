-- A call that goes on in its graft: the store, and its levels over it.
use Rattle.std.specs.Prelude.{◌≡◌, ◌≢◌, ℕ, ◌==◌, Bool, true, false, cond, List, map, Option, Some}
use Rattle.std.proofs.Common.{arith, refl, subst, sym, ap, ◌∙◌, inl, inr}
use Rattle.std.proofs.lemmas.Bool.{cases_Bool}
use Rattle.std.proofs.lemmas.Bool.Decides.{nat_tests}
use Rattle.kernel_model.specs.declared.Object.{Object}
use Rattle.kernel_model.specs.Objects.{Objects, SameAt, at}
use Rattle.kernel_model.specs.Meaning.{Meaning}
use Rattle.kernel_model.specs.Levels.{Config, Outcome}
use Rattle.kernel_model.specs.History.{Mark}
use Rattle.kernel_model.specs.Kernel.{Call, Kernel, Run, with_marks, requeue}
use Rattle.kernel_model.specs.Blocking.{levels_in, config_of, levels_of}
use Rattle.kernel_model.specs.InPlace.{is_changed_in}
use Rattle.kernel_model.specs.Sound.{IsSoundKernel}
use Rattle.kernel_model.specs.Alike.{is_held_in}
use Rattle.kernel_model.specs.Laws.{Laws}
use Rattle.kernel_model.specs.Claims.{IsStable}
use Rattle.call_laws.specs.Ledgers.{at_here, at_other}
use Rattle.graft_laws.specs.Kernels.{IsSoundRun}
use Rattle.graft_laws.proofs.EffectLemmas.{same_back}
use Rattle.graft_laws.proofs.HoldLemmas.{changed_held}
use Rattle.graft_laws.proofs.OrderLemmas.{config_same}
use Rattle.graft_laws.proofs.ShapeLemmas.{contrary}
use Rattle.graft_laws.proofs.InPlaceLemmas.{others_apart}
use Rattle.placed_laws.specs.Placed.{bare}
use Rattle.placed_laws.specs.PlacedSteps.{with_config, placed_requeue}
use Rattle.placed_laws.specs.Stands.{without_history, RunStandsFor}
use Rattle.placed_laws.proofs.LevelLemmas.{bare_alike}
use Rattle.placed_laws.proofs.GraftedLemmas.{grafted}
use Rattle.placed_laws.proofs.SourceLemmas.{IsPlaced, committed, held_same, none_of}
use Rattle.placed_laws.proofs.AlignLemmas.{run_over}
use Rattle.placed_laws.proofs.AfterLemmas.{OwnPart, changed_alike, others_changed, stands_after}
use Rattle.placed_laws.proofs.OutcomeLemmas.{PlacedOutcome}
use Rattle.kernel_laws.proofs.FrameLemmas.{same_then}

-- what is told of a call without its history is told of each place
pub history_at : (p q : ℕ) (c : Option Call) (call : ℕ → Option Call) →
    at p (without_history c) (λ i. without_history (call i)) q ≡ without_history (at p c call q)
history_at p q c call = by_test (q == p)
  where
    by_test : (b : Bool) → cond b (without_history c) (without_history (call q)) ≡ without_history (cond b c (call q))
    by_test true = refl
    by_test false = refl

-- a place that isn't changed, in place and in the abstract kernel
pub same_history : (p q : ℕ) (c d : Call) (call : ℕ → Option Call) → call p ≡ Some c →
    without_history (Some d) ≡ without_history (Some c) →
    without_history (call q) ≡ without_history (at p (Some d) call q)
same_history p q c d call e same = by_test (q == p) refl
  where
    same_number : (q == p) ≡ true → q ≡ p
    same_number h = grind (arith, nat_tests)

    by_test : (b : Bool) → (q == p) ≡ b → without_history (call q) ≡ without_history (cond b (Some d) (call q))
    by_test true h = ap (λ i. without_history (call i)) (same_number h) ∙ ap without_history e ∙ sym same
    by_test false h = refl

module _ (m : Meaning) (laws : Laws m) (k : Kernel) (w : Objects) (here : IsPlaced m k w) (p : ℕ)
    (f : Config) (is : config_of m k p ≡ Some f) (o r : Outcome)
    (outcome : PlacedOutcome k w f o r) (l : Kernel) (after : IsSoundKernel m l) (calls : (q : ℕ) →
    q ≢ p → l.call q ≡ k.call q) (stable : (q : ℕ) → q ≢ p → IsStable m k l q)
    (leads : config_of m l p ≡ Some o.config) (objects : l.objects ≡ k.objects) where
  -- the levels after it
  same_changed : (b : Object) → is_changed_in r.config.levels b ≡ is_changed_in (levels_of m l p) b
  same_changed b =
      sym (changed_alike o.config.levels r.config.levels b outcome.alike.config.levels)
      ∙ ap (λ x. is_changed_in (levels_in x) b) (sym leads)

  goes_part : OwnPart m k w p r.config.now l
  goes_part =
      record {
        beside = λ b q range ne changed.
            outcome.frame b (ap (λ x. is_changed_in (levels_in x) b) (sym is)
            ∙ others_apart m k here.kernel q p b (λ e. ne (sym e)) changed)
            (same_changed b ∙ others_apart m l after q p b (λ e. ne (sym e))
            (others_changed m laws k w here l after p calls stable q b ne ∙ changed));
        own = λ c b there range changed.
            let e = is_config c there in
            same_back b c.now r.config.now (subst (λ (x : Config). SameAt b x.now r.config.now) e
            (outcome.alike.config.now b (changed_held o.config.levels b
            (subst (λ (x : Config). is_changed_in x.levels b ≡ true) (sym e) changed))));
        rest = λ b range none free. elim (cases_Bool (is_held_in f.levels b)) [
          | inl held ↦
              same_then b r.config.now o.config.now l.objects (same_back b o.config.now r.config.now
              (outcome.alike.keeps b (held_same m laws k w here p f b is held)))
              ((grafted m laws l after p o.config leads).replayed.now b
              (ap (λ x. is_changed_in (levels_in x) b) (sym leads) ∙ free))
          | inr away ↦
              let mine = unchanged b away in
              same_then b r.config.now w l.objects (outcome.frame b mine (same_changed b ∙ free))
              (subst (SameAt b w) (sym objects) (committed m laws k w here b range (none_of m laws k
              w here p b (ap (λ x. is_changed_in (levels_in x) b) is ∙ mine) none)))
        ];
      }
    where
      is_it : (c d : Config) → Some c ≡ Some d → c ≡ d
      is_it c d h = cc

      is_config : (c : Config) → config_of m l p ≡ Some c → o.config ≡ c
      is_config c there = is_it o.config c (sym leads ∙ there)

      unchanged : (b : Object) → is_held_in f.levels b ≡ false → is_changed_in f.levels b ≡ false
      unchanged b away =
          elim (cases_Bool (is_changed_in f.levels b)) [
            | inr none ↦ none
            | inl some ↦ contrary (sym (changed_held f.levels b some) ∙ away)
          ]

-- a call goes on
pub goes_stands : (m : Meaning) (laws : Laws m) (u : Run) (w : Objects) →
    (here : IsPlaced m u.kernel w) → (p : ℕ) (c : Call) → u.kernel.call p ≡ Some c → (f : Config) →
    config_of m u.kernel p ≡ Some f →
    (hs : List Mark) (o r : Outcome) → PlacedOutcome u.kernel w f o r →
    config_of m (with_marks p c hs u).kernel p ≡ Some o.config →
    IsSoundRun m (requeue p (with_marks p c hs u)) →
    ((q : ℕ) → q ≢ p → IsStable m u.kernel (requeue p (with_marks p c hs u)).kernel q) →
    RunStandsFor m (placed_requeue p (with_config p r.config (run_over m w u))) (requeue p (with_marks p c hs u))
goes_stands m laws u w here p c e f is hs o r outcome leads sound stable =
    let k = u.kernel in
    let n = with_marks p c hs u in
    let l = (requeue p n).kernel in
    let calls = λ (q : ℕ) (ne : q ≢ p). at_other p q (Some (record c { marks = Some hs })) k.call ne in
    let leads_on = config_same m n.kernel n.kernel.clock l.order p ∙ leads in
    stands_after m laws k w here p (with_config p r.config (run_over m w u)) n
    (record {
      world = refl;
      images = refl;
      clock = refl;
      order = refl;
      blocks = refl;
      notes = refl;
      io = refl;
      calls = λ q. same_history p q c (record c { marks = Some hs }) k.call e refl;
      levels = at_here p (map bare r.config.levels) (λ i. map bare (levels_of m k i))
          ∙ sym (bare_alike o.config.levels r.config.levels outcome.alike.config.levels)
          ∙ ap (λ x. map bare (levels_in x)) (sym leads);
      others = λ q ne. at_other p q (map bare r.config.levels) (λ i. map bare (levels_of m k i)) ne;
      store = outcome.store;
    }) sound (goes_part m laws k w here p f is o r outcome l sound.kernel calls stable leads_on refl) calls stable
