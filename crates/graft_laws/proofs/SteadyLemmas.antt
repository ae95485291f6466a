-- What a call keeps where another call's step leaves its replay alike.
use Rattle.std.specs.Prelude.{◌≡◌, ℕ, suc, ◌<◌, ◌==◌, ◌||◌, Bool, true, false, cond, List, [], ◌∷◌}
use Rattle.std.specs.Prelude.{length, Option, Some, None, is_some, Contains}
use Rattle.std.specs.List.{AllByRecursion}
use Rattle.std.proofs.Common.{arith, refl, subst, sym, ap, ◌∙◌}
use Rattle.kernel_model.specs.declared.Held.{Held}
use Rattle.kernel_model.specs.declared.Kind.TheVariants.{Steps}
use Rattle.kernel_model.specs.declared.Need.{Need}
use Rattle.kernel_model.specs.declared.Object.{Object}
use Rattle.kernel_model.specs.declared.Object.TheVariants.{Graft, Acct}
use Rattle.kernel_model.specs.World.{World, ImageTable}
use Rattle.kernel_model.specs.Objects.{Objects, Accounts, GraftValue, AcctValue}
use Rattle.kernel_model.specs.Machine.{next_call}
use Rattle.kernel_model.specs.Charges.{payer_balance}
use Rattle.kernel_model.specs.Locks.{Touched, is_held}
use Rattle.kernel_model.specs.Meaning.{Meaning}
use Rattle.kernel_model.specs.Levels.{Level, Config, image_of, code_in, limit_in, level_at}
use Rattle.kernel_model.specs.Levels.{touched_in, touched_at, outermost_touched}
use Rattle.kernel_model.specs.GraftStep.{instruction_needs, next_needs}
use Rattle.kernel_model.specs.History.{Mark, Trace, replay}
use Rattle.kernel_model.specs.Kernel.{Call, Waiter, Kernel}
use Rattle.kernel_model.specs.Blocking.{config_in, levels_in, trace_of, config_of, levels_of, needs_at, needs_in, needs}
use Rattle.kernel_model.specs.Sound.{IsSoundKernel}
use Rattle.kernel_model.specs.Alike.{LevelsAlike, ConfigsAlike}
use Rattle.kernel_model.specs.Laws.{Laws}
use Rattle.kernel_model.specs.Claims.{IsStable}
use Rattle.kernel_laws.specs.Soundness.{HistoriesWork}
use Rattle.graft_laws.proofs.HistoryShapeLemmas.{AreGrafts}
use Rattle.graft_laws.proofs.SoundCallLemmas.{in_graft, call_comes, call_has_come}
use Rattle.graft_laws.proofs.EffectLemmas.{outer_held}
use Rattle.graft_laws.proofs.HistoryEffectLemmas.{none_some as no_config}
use Rattle.kernel_laws.proofs.LevelLemmas.{each_contains, each_from}

-- ---- levels that are alike

-- as many levels, holding the same
pub alike_length : (ls ks : List Level) → LevelsAlike ls ks → length ks ≡ length ls
alike_length [] [] h = refl
alike_length (l ∷ ls) (k ∷ ks) h = ap suc (alike_length ls ks h.1)
alike_length [] (k ∷ ks) h = absurd h
alike_length (l ∷ ls) [] h = absurd h

pub alike_touched : (ls ks : List Level) (d : ℕ) (o : Object) → LevelsAlike ls ks →
    touched_at ks d o ≡ touched_at ls d o
alike_touched [] [] d o h = refl
alike_touched (l ∷ ls) (k ∷ ks) d o h =
    ap (λ n. touched_in
    (elim (n == d) as (λ _. Option Level) [ true ↦ Some k | false ↦ level_at d ks ]) o)
    (alike_length ls ks h.1)
    ∙ touched_by (length ls == d) (alike_touched ls ks d o h.1)
  where
    touched_by : (b : Bool) → touched_at ks d o ≡ touched_at ls d o →
        touched_in (elim b as (λ _. Option Level) [ true ↦ Some k | false ↦ level_at d ks ]) o
        ≡ touched_in (elim b as (λ _. Option Level) [ true ↦ Some l | false ↦ level_at d ls ]) o
    touched_by true further = ap (λ (x : Level). x.touched o) (sym h.0)
    touched_by false further = further
alike_touched [] (k ∷ ks) d o h = absurd h
alike_touched (l ∷ ls) [] d o h = absurd h

-- what holds of each by its graft holds of each
pub alike_each : (P : ℕ → ℕ → Type 0) (ls ks : List Level) → LevelsAlike ls ks →
    AllByRecursion (λ (l : Level). P l.owner l.point) ls → AllByRecursion (λ (l : Level). P l.owner l.point) ks
alike_each P [] [] h each = tt
alike_each P (l ∷ ls) (k ∷ ks) h each =
    (subst (λ (x : Level). P x.owner x.point) h.0 each.0, alike_each P ls ks h.1 each.1)
alike_each P [] (k ∷ ks) h each = absurd h
alike_each P (l ∷ ls) [] h each = absurd h

-- ---- the same needs

-- what a level's next instruction needs, by its graft and its installer's account
abbrev needs_by : World → ImageTable → Option GraftValue → AcctValue → Level → List Need
needs_by v images g x l =
    cond (l.count == limit_in g || payer_balance Steps x g == 0) []
    (instruction_needs v l (next_call (code_in (image_of images g)) l.machine))

same_needs : (v : World) (images : ImageTable) (a b : Accounts) (ls ks : List Level) → LevelsAlike ls ks →
    ((l : Level) → Contains ls l → (a.graft l.owner l.point ≡ b.graft l.owner l.point)
    × (a.acct l.owner ≡ b.acct l.owner)) → next_needs v images b ks ≡ next_needs v images a ls
same_needs v images a b [] [] h same = refl
same_needs v images a b (l ∷ ls) (k ∷ ks) h same =
    let s = same l (0, below_suc (length ls), refl) in
    ap (λ (x : Level). needs_by v images (b.graft x.owner x.point) (b.acct x.owner) x) (sym h.0)
    ∙ ap (λ g. needs_by v images g (b.acct l.owner) l) (sym s.0)
    ∙ ap (λ x. needs_by v images (a.graft l.owner l.point) x l) (sym s.1)
  where
    below_suc : (n : ℕ) → 0 < suc n
    below_suc n = omega arith
same_needs v images a b [] (k ∷ ks) h same = absurd h
same_needs v images a b (l ∷ ls) [] h same = absurd h

-- ---- one call

-- a kernel with other objects, calls and order
abbrev pub moved : Kernel → Objects → (ℕ → Option Call) → List Waiter → Kernel
moved k s call order = record k { objects = s; call = call; order = order }

module _ (m : Meaning) (laws : Laws m) (histories : HistoriesWork m) (k : Kernel)
    (sound : IsSoundKernel m k) (s : Objects) (call : ℕ → Option Call) (order : List Waiter) (q : ℕ)
    (same : call q ≡ k.call q) (stable : IsStable m k (moved k s call order) q) where
  -- where the call had no config it has none
  steady_none : config_of m k q ≡ None → config_of m (moved k s call order) q ≡ None
  steady_none none = ap (λ x. config_in (trace_of m (moved k s call order) q x)) same ∙ none_by (k.call q) refl none
    where
      none_some : (x : Option Trace) → is_some x ≡ true → config_in x ≡ None → ⊥
      none_some None h e = cc
      none_some (Some t) h e = cc

      by_marks : (c : Call) (x : Option (List Mark)) → k.call q ≡ Some c → c.marks ≡ x →
          config_in (elim x as (λ _. Option Trace) [
            | None ↦ None
            | Some ks ↦ replay m k.world k.images k.objects q c.stage ks
          ]) ≡ None →
          config_in (elim x as (λ _. Option Trace) [
            | None ↦ None
            | Some ks ↦ replay m k.world k.images s q c.stage ks
          ]) ≡ None
      by_marks c None e marked none = refl
      by_marks c (Some ks) e marked none =
          absurd (none_some (replay m k.world k.images k.objects q c.stage ks)
          (subst (λ x. is_some (elim x as (λ _. Option Trace) [
            | None ↦ None
            | Some y ↦ replay m k.world k.images k.objects q c.stage y
          ]) ≡ true) marked
          (sound.runs q c ks e marked)) none)

      none_by : (x : Option Call) → k.call q ≡ x → config_in (trace_of m k q x) ≡ None →
          config_in (trace_of m (moved k s call order) q x) ≡ None
      none_by None e none = refl
      none_by (Some c) e none = by_marks c c.marks e refl none

  -- its levels are alike
  pub steady_levels : LevelsAlike (levels_of m k q) (levels_of m (moved k s call order) q)
  steady_levels = alike_by (config_of m k q) refl
    where
      alike_by : (x : Option Config) → config_of m k q ≡ x →
          LevelsAlike (levels_in x) (levels_of m (moved k s call order) q)
      alike_by None e = subst (λ y. LevelsAlike [] (levels_in y)) (sym (steady_none e)) tt
      alike_by (Some c) e = let d = stable c e in subst (λ y. LevelsAlike c.levels (levels_in y)) (sym d.1) d.2.levels

  -- what a config of it comes from
  pub steady_from : (f : Config) → config_of m (moved k s call order) q ≡ Some f →
      (c : Config) × (config_of m k q ≡ Some c) × ConfigsAlike c f
  steady_from f e = from_by (config_of m k q) refl
    where
      same_config : (x y : Config) → Some x ≡ Some y → x ≡ y
      same_config x y h = cc

      from_by : (x : Option Config) → config_of m k q ≡ x → (c : Config) × (x ≡ Some c) × ConfigsAlike c f
      from_by None is = absurd (no_config f (sym (steady_none is) ∙ e))
      from_by (Some c) is =
          let d = stable c is in
          (c, refl, subst (ConfigsAlike c) (same_config d.0 f (sym d.1 ∙ e)) d.2)

  -- its history still leads somewhere
  pub steady_runs : (c : Call) (ks : List Mark) → call q ≡ Some c → c.marks ≡ Some ks →
      is_some (trace_of m (moved k s call order) q (Some c)) ≡ true
  steady_runs c ks e marked =
      let is = sym same ∙ e in
      let runs = sound.runs q c ks is marked in
      some_by (trace_of m k q (Some c)) (ap (λ x. config_in (trace_of m k q x)) is) runs
    where
      trace_some : (x : Option Trace) (c : Config) → config_in x ≡ Some c → is_some x ≡ true
      trace_some None c h = absurd (no_config c h)
      trace_some (Some t) c h = refl

      some_by : (x : Option Trace) → config_of m k q ≡ config_in x → is_some x ≡ true →
          is_some (trace_of m (moved k s call order) q (Some c)) ≡ true
      some_by None is some = absurd cc
      some_by (Some t) is some =
          let d = stable t.config is in
          trace_some (trace_of m (moved k s call order) q (Some c)) d.0
          (ap (λ x. config_in (trace_of m (moved k s call order) q x)) (sym e) ∙ d.1)

  -- the grafts and accounts of its levels are the same
  steady_values : (c f : Config) → config_of m k q ≡ Some c → ConfigsAlike c f → (l : Level) → Contains c.levels l →
      (c.now.accounts.graft l.owner l.point ≡ f.now.accounts.graft l.owner l.point)
      × (c.now.accounts.acct l.owner ≡ f.now.accounts.acct l.owner)
  steady_values c f is alike l contained =
      let i = in_graft m k q c is in
      let x = call_comes m laws histories k sound q c is i in
      let come = call_has_come m laws histories k sound q c is i x in
      let held = each_contains (λ (l : Level). (outermost_touched c.levels (Graft l.owner l.point)
      ≡ Held.Exclusive) × (outermost_touched c.levels (Acct l.owner) ≡ Held.Exclusive))
      c.levels l (paid x.point.installer (outermost_touched c.levels) c.levels come.shape.grafts
      come.shape.acct) contained in (
        (alike.now (Graft l.owner l.point)
            (outer_held c.levels (Graft l.owner l.point) (ap is_held held.0))).0,
        alike.now (Acct l.owner) (outer_held c.levels (Acct l.owner) (ap is_held held.1)),
      )
    where
      paid : (q : ℕ) (t : Touched) (ls : List Level) → AreGrafts q t ls → t (Acct q) ≡ Held.Exclusive →
          AllByRecursion (λ (l : Level). (t (Graft l.owner l.point) ≡ Held.Exclusive)
          × (t (Acct l.owner) ≡ Held.Exclusive)) ls
      paid q t [] h acct = tt
      paid q t (l ∷ ls) h acct = (
        (ap (λ i. t (Graft i l.point)) h.0 ∙ h.1, ap (λ i. t (Acct i)) h.0 ∙ acct),
        paid q t ls h.3 acct,
      )

  -- so they stand
  pub steady_stands : (f : Config) (l : Level) → config_of m (moved k s call order) q ≡ Some f →
      Contains f.levels l → is_some (f.now.accounts.graft l.owner l.point) ≡ true
  steady_stands f l e contained =
      let from = steady_from f e in
      let c = from.0 in
      each_contains (λ (l : Level). is_some (f.now.accounts.graft l.owner l.point) ≡ true) f.levels l
      (alike_each (λ i pt. is_some (f.now.accounts.graft i pt) ≡ true) c.levels f.levels from.2.levels
      (each_from (λ (l : Level). is_some (f.now.accounts.graft l.owner l.point) ≡ true) c.levels
      (λ l in_c. ap is_some (sym (steady_values c f from.1 from.2 l in_c).0)
      ∙ sound.grafts q c l from.1 in_c))) contained

  -- and it needs the same
  pub steady_needs : (c : Call) (ks : List Mark) → call q ≡ Some c → c.marks ≡ Some ks →
      needs m (moved k s call order) q ≡ needs m k q
  steady_needs c ks e marked =
      ap (needs_in m (moved k s call order) q) e
      ∙ ap (λ (x : Option (List Mark)). elim x as (λ _. List Need) [
        | None ↦ m.need k.world s q c.stage
        | Some y ↦ needs_at m (moved k s call order) (config_of m (moved k s call order) q)
      ]) marked
      ∙ same_by (config_of m k q) refl
      ∙ sym (ap (needs_in m k q) (sym same ∙ e)
      ∙ ap (λ (x : Option (List Mark)). elim x as (λ _. List Need) [
        | None ↦ m.need k.world k.objects q c.stage
        | Some y ↦ needs_at m k (config_of m k q)
      ]) marked)
    where
      same_by : (x : Option Config) → config_of m k q ≡ x →
          needs_at m (moved k s call order) (config_of m (moved k s call order) q) ≡ needs_at m k x
      same_by None is = ap (needs_at m (moved k s call order)) (steady_none is)
      same_by (Some f) is =
          let d = stable f is in
          ap (needs_at m (moved k s call order)) d.1 ∙ same_needs k.world k.images f.now.accounts
          d.0.now.accounts f.levels d.0.levels d.2.levels (steady_values f d.0 is d.2)
