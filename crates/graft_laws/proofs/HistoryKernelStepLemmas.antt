-- A kernel stays sound over the steps of a call that isn't blocked, and over drops, where others' replays stay alike.
use Rattle.std.specs.Prelude.{◌≡◌, ◌≢◌, ℕ, Bool, true, false, List, ◌++◌, is_some, Option, Some, None}
use Rattle.std.specs.List.{AllByRecursion}
use Rattle.std.proofs.Common.{refl, subst, sym, ap, ◌∙◌}
use Rattle.kernel_model.specs.declared.Held.{Held}
use Rattle.kernel_model.specs.declared.Note.{Note}
use Rattle.kernel_model.specs.declared.Object.{Object}
use Rattle.kernel_model.specs.declared.Point.{Point}
use Rattle.kernel_model.specs.World.{World, ImageTable}
use Rattle.kernel_model.specs.Objects.{Objects, Accounts, GraftValue}
use Rattle.kernel_model.specs.Meaning.{Meaning, Stage, After, Continues, EndsWith, Fails, Answer}
use Rattle.kernel_model.specs.Levels.{Level, Config}
use Rattle.kernel_model.specs.History.{Mark, Trace, begin_at, begin_with, first_trace, marks_on, replay}
use Rattle.kernel_model.specs.Kernel.{Call, Kernel, Run, is_at_piece, has_level, call_after, with_marks, requeue}
use Rattle.kernel_model.specs.Blocking.{config_in, levels_in, trace_of, config_of}
use Rattle.kernel_model.specs.Settle.{finish_on}
use Rattle.kernel_model.specs.Sound.{ImagesAreLoaded, IsSoundKernel}
use Rattle.kernel_model.specs.Laws.{Laws, IsReady}
use Rattle.kernel_model.specs.Claims.{IsStable, EffectsStaySound, ConfigsStaySound}
use Rattle.call_laws.specs.Ledgers.{at_here, at_other}
use Rattle.kernel_laws.specs.Soundness.{InstructionsWork, HistoriesWork, DropsStaySound}
use Rattle.kernel_laws.specs.Undoing.{InversesUndo, ChangesAreOfOneObject}
use Rattle.graft_laws.proofs.HistoryHoldLemmas.{AllOk}
use Rattle.graft_laws.proofs.FallenLemmas.{no_trace, marks_more}
use Rattle.graft_laws.proofs.MoveLemmas.{StandsAt}
use Rattle.graft_laws.proofs.GraftLemmas.{GraftsFrom, GraftFrom}
use Rattle.graft_laws.proofs.SteadyLemmas.{moved}
use Rattle.graft_laws.proofs.BesideLemmas.{MayHold, own_ok}
use Rattle.graft_laws.proofs.HistoryKernelLemmas.{OwnIsSound, changed_sound}
use Rattle.graft_laws.proofs.HistoryEffectLemmas.{none_some}
use Rattle.kernel_laws.proofs.SettleLemmas.{order_after}
use Rattle.kernel_laws.proofs.LevelLemmas.{each_from}

-- what is known of the definitions
pub record Known (m : Meaning) : Type 0 where
  pub laws : Laws m
  pub instructions : InstructionsWork
  pub histories : HistoriesWork m
  pub effects : EffectsStaySound
  pub undoes : InversesUndo
  pub own : ChangesAreOfOneObject
  pub configs : ConfigsStaySound
  pub drops : DropsStaySound

-- the images of grafts that stood are loaded
pub loaded_from : (images : ImageTable) (s a : Accounts) → GraftsFrom s a →
    ImagesAreLoaded images s → ImagesAreLoaded images a
loaded_from images s a from loaded q pt g e =
    loaded_by (s.graft q pt) refl (subst (λ x. GraftFrom x (s.graft q pt)) e (from q pt))
  where
    loaded_by : (h : Option GraftValue) → s.graft q pt ≡ h → GraftFrom (Some g) h → is_some (images g.image) ≡ true
    loaded_by None is h = absurd h
    loaded_by (Some x) is h = ap (λ i. is_some (images i)) h ∙ loaded q pt x is

-- a history goes on from where it led
pub replay_more : (m : Meaning) (v : World) (images : ImageTable) (s : Objects) (p : ℕ) (t : Stage)
    (ks more : List Mark) (u : Trace) → replay m v images s p t ks ≡ Some u →
    replay m v images s p t (ks ++ more) ≡ marks_on v images p more u
replay_more m v images s p t ks more u e = more_by (m.asks v s p t) e
  where
    more_by : (ask : Option Point) →
        elim (begin_with images s p (m.need v s p t) (m.feed t) ask) as (λ _. Option Trace) [
          | None ↦ None
          | Some c ↦ marks_on v images p ks (first_trace c)
        ] ≡ Some u →
        elim (begin_with images s p (m.need v s p t) (m.feed t) ask) as (λ _. Option Trace) [
          | None ↦ None
          | Some c ↦ marks_on v images p (ks ++ more) (first_trace c)
        ]
        ≡ marks_on v images p more u
    more_by None e = absurd (no_trace u e)
    more_by (Some a) e =
        marks_more v images p ks more
        (first_trace (begin_at images s p (m.need v s p t) (m.feed t) a)) u e

module _ (m : Meaning) (know : Known m) (r : Run) (sound : IsSoundKernel m r.kernel) (p : ℕ) where
  -- others' replays stay alike in the kernel after a change of p's call and its new place in the order
  abbrev pub OthersSteady : Run → Type 0
  OthersSteady u = (q : ℕ) → q ≢ p → IsStable m r.kernel (requeue p u).kernel q

  -- that kernel is sound, where calls stand and others are steady
  abbrev pub StaysSound : Run → Type 0
  StaysSound u = StandsAt m (requeue p u) → OthersSteady u → IsSoundKernel m (requeue p u).kernel

  -- the states of p's call afterwards
  abbrev OwnAfter : Kernel → Type 0
  OwnAfter l = OwnIsSound m know.laws know.histories r.kernel sound p l

  abbrev pub May : Object → Held → Type 0
  May = MayHold m know.laws know.histories r.kernel sound p

  -- a call without a level
  pub own_none : (l : Kernel) → has_level (l.call p) ≡ false → OwnAfter l
  own_none l h =
      record {
        leads = λ c ks e marked. absurd (no_level c ks marked (sym (ap has_level e) ∙ h));
        stands = λ f is. absurd (none_some f (sym (none_by (l.call p) h) ∙ is));
        ok = subst (λ x. AllOk May (levels_in x)) (sym (none_by (l.call p) h)) tt;
      }
    where
      no_level : (c : Call) (ks : List Mark) → c.marks ≡ Some ks → has_level (Some c) ≡ false → ⊥
      no_level c ks marked h = by_marks c.marks marked h
        where
          by_marks : (x : Option (List Mark)) → x ≡ Some ks →
              elim x as (λ _. Bool) [ None ↦ false | Some y ↦ true ] ≡ false → ⊥
          by_marks None e h = cc
          by_marks (Some y) e h = cc

      none_by : (x : Option Call) → has_level x ≡ false → config_in (trace_of m l p x) ≡ None
      none_by None h = refl
      none_by (Some c) h = by_marks c.marks h
        where
          by_marks : (x : Option (List Mark)) → elim x as (λ _. Bool) [ None ↦ false | Some y ↦ true ] ≡ false →
              config_in (elim x as (λ _. Option Trace) [
                | None ↦ None
                | Some ks ↦ replay m l.world l.images l.objects p c.stage ks
              ]) ≡ None
          by_marks None h = refl
          by_marks (Some y) h = absurd cc

  -- ---- the three ends of a step

  -- a piece is done
  pub finish_sound : (c : Call) (w : Objects) (answer : Option Answer) (ns : List Note) →
      IsReady m r.kernel.world r.kernel.images w p c.stage answer →
      ImagesAreLoaded r.kernel.images w.accounts → StaysSound (finish_on m p c w answer (record r { notes = ns }))
  finish_sound c w answer ns ready loaded stands steady =
      let v = r.kernel.world in
      let q = m.piece v r.kernel.images w r.blocks p c.stage answer r.io in
      let call = λ (i : ℕ). (finish_on m p c w answer (record r { notes = ns })).kernel.call i in
      changed_sound m know.laws know.histories r.kernel sound p q.objects call q.blocks stands
      (know.laws.piece.images_loaded v r.kernel.images w r.blocks p c.stage answer r.io ready loaded)
      (λ i ne. at_other p i (call_after c q.after) r.kernel.call ne) steady
      (own_none
      (moved r.kernel q.objects call (order_after p (is_at_piece (call p)) r.kernel.order))
      (ap has_level (at_here p (call_after c q.after) r.kernel.call) ∙ piece_ends c q.after))
    where
      piece_ends : (c : Call) (a : After) → has_level (call_after c a) ≡ false
      piece_ends c (Continues t) = refl
      piece_ends c (EndsWith reply) = refl
      piece_ends c (Fails refusal) = refl

  -- the history becomes one that leads to this config
  pub marks_sound : (c : Call) (ks : List Mark) (ns : List Note) (f : Config) →
      config_in (replay m r.kernel.world r.kernel.images r.kernel.objects p c.stage ks) ≡ Some f →
      AllByRecursion (λ (x : Level). is_some (f.now.accounts.graft x.owner x.point) ≡ true) f.levels →
      AllOk May f.levels → StaysSound (with_marks p c ks (record r { notes = ns }))
  marks_sound c ks ns f leads grafts ok stands steady =
      let d : Call = record c { marks = Some ks } in
      let call = λ (i : ℕ). (with_marks p c ks (record r { notes = ns })).kernel.call i in
      let l = moved r.kernel r.kernel.objects call (order_after p (is_at_piece (call p)) r.kernel.order) in
      let here = at_here p (Some d) r.kernel.call in
      let is : config_of m l p ≡ Some f = ap (λ x. config_in (trace_of m l p x)) here ∙ leads in
      changed_sound m know.laws know.histories r.kernel sound p r.kernel.objects call r.blocks
      stands sound.state.images_loaded
      (λ i ne. at_other p i (Some d) r.kernel.call ne) steady (record {
        leads =
            λ e xs at_p marked. subst (λ (x : Call). is_some (trace_of m l p (Some x)) ≡ true)
            (same_call d e (sym here ∙ at_p)) (trace_some (trace_of m l p (Some d)) f leads);
        stands =
            λ g at_g. subst (λ (x : Config). AllByRecursion
            (λ (y : Level). is_some (x.now.accounts.graft y.owner y.point) ≡ true) x.levels)
            (same_config f g (sym is ∙ at_g)) grafts;
        ok = subst (λ x. AllOk May (levels_in x)) (sym is) ok;
      })
    where
      same_call : (x y : Call) → Some x ≡ Some y → x ≡ y
      same_call x y h = cc

      same_config : (x y : Config) → Some x ≡ Some y → x ≡ y
      same_config x y h = cc

      trace_some : (x : Option Trace) (c : Config) → config_in x ≡ Some c → is_some x ≡ true
      trace_some None c h = absurd (none_some c h)
      trace_some (Some t) c h = refl

  -- nothing changes but the order
  pub stay_sound : (ns : List Note) → StaysSound (record r { notes = ns })
  stay_sound ns stands steady =
      changed_sound m know.laws know.histories r.kernel sound p r.kernel.objects r.kernel.call
      r.blocks stands sound.state.images_loaded (λ i ne. refl) steady (record {
        leads = sound.runs p;
        stands =
            λ f is. each_from (λ (x : Level). is_some (f.now.accounts.graft x.owner x.point) ≡ true)
            f.levels (λ x contained. sound.grafts p f x is contained);
        ok = own_ok m know.laws know.histories r.kernel sound p;
      })
