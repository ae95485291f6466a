-- The graft calls of a sound kernel are sound.
use Rattle.std.specs.Prelude.{◌≡◌, ℕ, suc, ◌<◌, ◌≤◌, ◌==◌, Bool, true, false, List, []}
use Rattle.std.specs.Prelude.{◌∷◌, length, map, Option, Some, None, is_some, Contains}
use Rattle.std.specs.List.{AllByRecursion}
use Rattle.std.proofs.Common.{arith, refl, subst, sym, ap, ◌∙◌, inl, inr}
use Rattle.std.proofs.lemmas.Bool.{cases_Bool}
use Rattle.std.proofs.lemmas.Bool.Decides.{nat_tests}
use Rattle.std.proofs.lemmas.List.Elements.{Contains-append_right}
use Rattle.kernel_model.specs.declared.Held.{Held}
use Rattle.kernel_model.specs.declared.Object.{Object}
use Rattle.kernel_model.specs.declared.Object.TheVariants.{Graft, Acct}
use Rattle.kernel_model.specs.declared.Point.{Point}
use Rattle.kernel_model.specs.Objects.{Things, GraftValue}
use Rattle.kernel_model.specs.Access.{changed_by, Found}
use Rattle.kernel_model.specs.Locks.{Touched}
use Rattle.kernel_model.specs.Meaning.{Meaning}
use Rattle.kernel_model.specs.Levels.{Level, Config, level_at, outermost_touched}
use Rattle.kernel_model.specs.GraftStep.{is_running}
use Rattle.kernel_model.specs.InPlace.{is_changed_in}
use Rattle.kernel_model.specs.History.{Mark, Trace, replay}
use Rattle.kernel_model.specs.UndoLog.{undo_log, kept_by_log}
use Rattle.kernel_model.specs.Kernel.{Call, Kernel}
use Rattle.kernel_model.specs.Blocking.{config_in, trace_of, config_of}
use Rattle.kernel_model.specs.Sound.{AreRecorded, IsSoundStore, IsSoundConfig, IsSoundKernel}
use Rattle.kernel_model.specs.Laws.{Laws}
use Rattle.kernel_laws.specs.Soundness.{IsAskedAt, WorksOn, ReplayWorks, HistoriesWork}
use Rattle.kernel_laws.specs.Undoing.{InversesUndo, ChangesAreOfOneObject}
use Rattle.graft_laws.proofs.InverseLemmas.{AllPass}
use Rattle.graft_laws.proofs.RecordLemmas.{FoundByUndoing}
use Rattle.graft_laws.proofs.HistoryShapeLemmas.{AreGrafts}
use Rattle.graft_laws.proofs.ComeLemmas.{HasCome, Comes, replay_comes}
use Rattle.graft_laws.proofs.GraftLemmas.{from_stands}
use Rattle.graft_laws.proofs.InPlaceLemmas.{config_is, call_undoable}
use Rattle.kernel_laws.proofs.SoundConfigLemmas.{at_top, at_inner, at_running, works_sound}
use Rattle.graft_laws.proofs.HistoryEffectLemmas.{none_some as no_config}
use Rattle.kernel_laws.proofs.LevelLemmas.{each_contains}

-- ---- lists

pub contains_first : {A : Type 0} (x : A) (xs : List A) → Contains (x ∷ xs) x
contains_first x xs = (0, below_suc (length xs), refl)
  where
    below_suc : (n : ℕ) → 0 < suc n
    below_suc n = omega arith

pub contains_later : {A : Type 0} (x y : A) (xs : List A) → Contains xs y → Contains (x ∷ xs) y
contains_later x y xs c = Contains-append_right (x ∷ []) xs y c

-- ---- levels by number

-- two levels of one graft are one
different_from : (q : ℕ) (t : Touched) (ls : List Level) → AreGrafts q t ls →
    (d e : ℕ) (l n : Level) → level_at d ls ≡ Some l → level_at e ls ≡ Some n →
    l.owner ≡ n.owner → l.point ≡ n.point → d ≡ e
different_from q t [] h d e l n hd he o p = absurd (none_some l hd)
  where
    none_some : (l : Level) → None ≡ Some l → ⊥
    none_some l h = cc
different_from q t (k ∷ ks) h d e l n hd he o p = elim (cases_Bool (length ks == d)) [
  | inl dtop ↦ elim (cases_Bool (length ks == e)) [
    | inl etop ↦ same_top (length ks) d e dtop etop
    | inr einner ↦ absurd (running_not l n (sym (at_top d k ks dtop) ∙ hd) o p
        (at_running ks e n (sym (at_inner e k ks einner) ∙ he)))
  ]
  | inr dinner ↦ elim (cases_Bool (length ks == e)) [
    | inl etop ↦ absurd (running_not n l (sym (at_top e k ks etop) ∙ he) (sym o) (sym p)
        (at_running ks d l (sym (at_inner d k ks dinner) ∙ hd)))
    | inr einner ↦ different_from q t ks h.3 d e l n
        (sym (at_inner d k ks dinner) ∙ hd) (sym (at_inner e k ks einner) ∙ he) o p
  ]
]
  where
    same_top : (m d e : ℕ) → (m == d) ≡ true → (m == e) ≡ true → d ≡ e
    same_top m d e x y = grind (arith, nat_tests)

    contrary : true ≡ false → ⊥
    contrary h = cc

    running_not : (l n : Level) → Some k ≡ Some l → l.owner ≡ n.owner → l.point ≡ n.point →
        is_running ks n.owner n.point ≡ true → ⊥
    running_not l n e o p run =
        let owner : k.owner ≡ l.owner =
        ap (λ (x : Option Level). elim x as (λ _. ℕ) [ None ↦ k.owner | Some y ↦ y.owner ]) e in
        let point : k.point ≡ l.point =
        ap (λ (x : Option Level). elim x as (λ _. ℕ) [ None ↦ k.point | Some y ↦ y.point ]) e in
        contrary (sym run ∙ ap (λ i. is_running ks i n.point) (sym (sym h.0 ∙ owner ∙ o))
        ∙ ap (λ pt. is_running ks q pt) (sym (point ∙ p)) ∙ h.2)

-- ---- the fields of a sound graft call

-- a level's graft and its installer's account are held by level 0
paid_each : (q : ℕ) (t : Touched) (ls : List Level) → AreGrafts q t ls → t (Acct q) ≡ Held.Exclusive →
    AllByRecursion (λ (l : Level). (t (Graft l.owner l.point) ≡ Held.Exclusive)
    × (t (Acct l.owner) ≡ Held.Exclusive)) ls
paid_each q t [] h acct = tt
paid_each q t (l ∷ ls) h acct = (
  (ap (λ i. t (Graft i l.point)) h.0 ∙ h.1, ap (λ i. t (Acct i)) h.0 ∙ acct),
  paid_each q t ls h.3 acct,
)

pass_each : (test : Object → Bool) (is : List Found) → AllPass test is →
    AllByRecursion (λ i. test (changed_by i) ≡ true) is
pass_each test [] h = tt
pass_each test (i ∷ is) h = (h.0, pass_each test is h.1)

recorded_all : (w : Things) (ls : List Level) → FoundByUndoing w ls → AreRecorded ls
recorded_all w [] h = tt
recorded_all w (l ∷ ls) h = (
  λ i among. each_contains (λ i. is_changed_in (l ∷ ls) (changed_by i) ≡ true) l.records i
      (pass_each (is_changed_in (l ∷ ls)) l.records h.1) among,
  recorded_all l.kept ls h.2,
)

kept_told : (w : Things) (ls : List Level) → FoundByUndoing w ls →
    map (λ (l : Level). l.kept) ls ≡ kept_by_log w (undo_log ls)
kept_told w [] h = refl
kept_told w (l ∷ ls) h =
    ap (λ ws. l.kept ∷ ws) (kept_told l.kept ls h.2) ∙ ap (λ x. x ∷ kept_by_log x (undo_log ls)) h.0

-- level 0 is of the graft that was asked
outermost_is : (a : Point) (ls : List Level) → IsAskedAt a ls → 1 ≤ length ls →
    (l : Level) × Contains ls l × (l.owner ≡ a.installer) × (l.point ≡ a.point)
outermost_is a [] h some = absurd (none_some some)
  where
    none_some : 1 ≤ 0 → ⊥
    none_some h = omega arith
outermost_is a (l ∷ []) h some = (l, contains_first l [], h.0, h.1)
outermost_is a (l ∷ k ∷ ls) h some =
    let rest = outermost_is a (k ∷ ls) h (some_more (length ls)) in
    (rest.0, contains_later l rest.0 (k ∷ ls) rest.1, rest.2, rest.3)
  where
    some_more : (n : ℕ) → 1 ≤ suc n
    some_more n = omega arith

-- ---- calls of a sound kernel

-- what a call with a config has
pub record InGraft (m : Meaning) (k : Kernel) (p : ℕ) (c : Config) : Type 0 where
  pub call : Call
  pub marks : List Mark
  pub trace : Trace
  pub is : k.call p ≡ Some call
  pub marked : call.marks ≡ Some marks
  pub leads : replay m k.world k.images k.objects p call.stage marks ≡ Some trace
  pub config : trace.config ≡ c

pub in_graft : (m : Meaning) (k : Kernel) (p : ℕ) (c : Config) → config_of m k p ≡ Some c → InGraft m k p c
in_graft m k p c h = by_call (k.call p) refl h
  where
    by_marks : (call : Call) (x : Option (List Mark)) → k.call p ≡ Some call → call.marks ≡ x →
        config_in (elim x as (λ _. Option Trace) [
          | None ↦ None
          | Some ks ↦ replay m k.world k.images k.objects p call.stage ks
        ]) ≡ Some c → InGraft m k p c
    by_marks call None e marked h = absurd (no_config c h)
    by_marks call (Some ks) e marked h =
        let f = config_is (replay m k.world k.images k.objects p call.stage ks) c h in
        record { call = call; marks = ks; trace = f.0; is = e; marked = marked; leads = f.1; config = f.2 }

    by_call : (x : Option Call) → k.call p ≡ x → config_in (trace_of m k p x) ≡ Some c → InGraft m k p c
    by_call None e h = absurd (no_config c h)
    by_call (Some call) e h = by_marks call call.marks e refl h

module _ (m : Meaning) (laws : Laws m) (histories : HistoriesWork m) (k : Kernel)
    (sound : IsSoundKernel m k) (p : ℕ) (c : Config) (is : config_of m k p ≡ Some c) where
  -- where it comes from
  pub call_comes : (i : InGraft m k p c) → Comes m k.world k.objects p i.call.stage c
  call_comes i =
      subst (Comes m k.world k.objects p i.call.stage) i.config (replay_comes m laws k.world
      k.images k.objects p i.call.stage i.marks i.trace (sound.fit p i.call i.is) i.leads)

  -- it works on the committed state
  pub call_works : (i : InGraft m k p c) (a : Point) →
      m.asks k.world k.objects p i.call.stage ≡ Some a → WorksOn k.world k.objects a c
  call_works i a asked =
      subst (WorksOn k.world k.objects a) i.config
      (subst (λ x. ReplayWorks k.world k.objects x (Some i.trace)) asked
      (subst (ReplayWorks k.world k.objects (m.asks k.world k.objects p i.call.stage)) i.leads
      (histories k.world k.images k.objects p i.call.stage i.marks sound.state.store)))

  -- its levels have the shape, and grafts that it doesn't hold stand as they are committed
  pub call_has_come : (i : InGraft m k p c) (x : Comes m k.world k.objects p i.call.stage c) →
      HasCome k.objects.accounts x.point.installer c
  call_has_come i x = stands_by (k.objects.accounts.graft x.point.installer x.point.point) refl
    where
      stands_by : (g : Option GraftValue) →
          k.objects.accounts.graft x.point.installer x.point.point ≡ g →
          HasCome k.objects.accounts x.point.installer c
      stands_by (Some g) e = x.come g e
      stands_by None e =
          let works = call_works i x.point x.asked in
          let f = outermost_is x.point c.levels works.asked x.some in
          let stands = sound.grafts p c f.0 is f.1 in
          let here = ap (λ q. is_some (c.now.accounts.graft q x.point.point)) (sym f.2)
          ∙ ap (λ pt. is_some (c.now.accounts.graft f.0.owner pt)) (sym f.3) ∙ stands in
          absurd (not_none (k.objects.accounts.graft x.point.installer x.point.point) e
          (from_stands (c.now.accounts.graft x.point.installer x.point.point)
          (k.objects.accounts.graft x.point.installer x.point.point)
          (x.grafts_from x.point.installer x.point.point) here))
        where
          not_none : (g : Option GraftValue) → g ≡ None → is_some g ≡ true → ⊥
          not_none None e h = cc
          not_none (Some g) e h = cc

  -- it is sound
  pub call_sound : InversesUndo → ChangesAreOfOneObject → IsSoundConfig k.world c
  call_sound undoes own =
      let i = in_graft m k p c is in
      let x = call_comes i in
      let come = call_has_come i x in
      let works = call_works i x.point x.asked in
      let undo = call_undoable m k sound laws undoes own p c is in
      let q = x.point.installer in
      record {
        now = works.works.1.0.store;
        some = x.some;
        most = come.shape.most;
        grafts = λ l contained. sound.grafts p c l is contained;
        different = different_from q (outermost_touched c.levels) c.levels come.shape.grafts;
        paid =
            λ l contained. each_contains
            (λ (l : Level). (outermost_touched c.levels (Graft l.owner l.point) ≡ Held.Exclusive)
            × (outermost_touched c.levels (Acct l.owner) ≡ Held.Exclusive))
            c.levels l (paid_each q (outermost_touched c.levels) c.levels come.shape.grafts come.shape.acct) contained;
        recorded = recorded_all c.now.things c.levels undo.found;
        few = come.shape.few;
        found =
            λ l contained. each_contains (λ (l : Level). IsSoundStore k.world
            (record { accounts = c.now.accounts; things = l.kept })) c.levels l
            (works_sound k.world k.objects c.now.accounts c.levels works.works.1.1) contained;
        kept = kept_told c.now.things c.levels undo.found;
      }
