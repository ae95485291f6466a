-- What the grafts of a call that comes from a history are, beside those of the state that it is replayed from.
use Rattle.std.specs.Prelude.{◌≡◌, ℕ, suc, ◌+◌, ◌≤◌, true, List, [], ◌∷◌, ◌++◌, length, Option}
use Rattle.std.specs.Prelude.{Some, None, is_some, ◌⊎◌}
use Rattle.std.proofs.Common.{arith, refl, subst, sym, ap, ◌∙◌, inl, inr}
use Rattle.kernel_model.specs.declared.Held.{Held}
use Rattle.kernel_model.specs.declared.Micro.{Micro}
use Rattle.kernel_model.specs.declared.Mode.{Mode}
use Rattle.kernel_model.specs.declared.Need.{Need}
use Rattle.kernel_model.specs.declared.Object.TheVariants.{Graft, Acct}
use Rattle.kernel_model.specs.declared.Point.{Point}
use Rattle.kernel_model.specs.World.{World, ImageTable}
use Rattle.kernel_model.specs.Objects.{Objects, Accounts, Things, GraftValue}
use Rattle.kernel_model.specs.Policies.{default_of}
use Rattle.kernel_model.specs.Locks.{Touched, touch, touch_all, untouched, is_held}
use Rattle.kernel_model.specs.Meaning.{Meaning, Stage}
use Rattle.kernel_model.specs.Levels.{Level, Config, Effect, outermost_touched, answer_innermost}
use Rattle.kernel_model.specs.GraftStep.{micro, micro_on}
use Rattle.kernel_model.specs.History.{Mark, Past, Stepped, Fell, Trace, begin_at, begin_with}
use Rattle.kernel_model.specs.History.{first_trace, stepped, effects_on, level_ends, owner_among}
use Rattle.kernel_model.specs.History.{mark_on, marks_on, replay}
use Rattle.kernel_model.specs.Laws.{Laws, needs_of_point, before_point}
use Rattle.kernel_model.specs.Needs.{payer_needs}
use Rattle.graft_laws.proofs.HistoryEffectLemmas.{levels_by, touched_by, accounts_by, levels_inside}
use Rattle.graft_laws.proofs.HistoryEffectLemmas.{levels_none, levels_above, levels_touched, held_on}
use Rattle.graft_laws.proofs.HistoryEffectLemmas.{config_with, have_been_made}
use Rattle.graft_laws.proofs.ActLemmas.{HoldsMore, StaysIn, GoesDeeper, ComesBack, Next}
use Rattle.graft_laws.proofs.ActLemmas.{NoneRemoved, WhereGoesOn, instruction_acts}
use Rattle.graft_laws.proofs.FallenLemmas.{marks_lead, no_trace, same_trace, went_where, fell_where}
use Rattle.graft_laws.proofs.HistoryPastLemmas.{HasPasts}
use Rattle.kernel_laws.proofs.LevelLemmas.{keep_answer}
use Rattle.graft_laws.proofs.HistoryShapeLemmas.{HasShape, ShapeWhereWent, keep_effects}
use Rattle.graft_laws.proofs.HistoryShapeLemmas.{shape_on, shape_outside, instruction_shape}
use Rattle.graft_laws.proofs.GraftLemmas.{GraftsFrom, graft_self, effects_from}
use Rattle.graft_laws.proofs.GraftLemmas.{none_removed_same, AsBeforeOrHeld, before_more}
use Rattle.graft_laws.proofs.GraftLemmas.{effects_before}
use Rattle.kernel_laws.proofs.LevelLemmas.{touch_all_holds, touch_here}

-- ---- what holds along a history

module _ (v : World) (images : ImageTable) (p : ℕ) (P : Config → Type 0) where
  -- what instructions keep where the call goes on, and ends of levels that just began keep, holds
  -- wherever a history leads
  pub marks_keep : ((c : Config) → P c → (micro v images p c).said ≡ Micro.Went → P (micro v images p c).config) →
      ((c d : Config) (es : List Effect) → P c → let u = (micro v images p c).config in
      (micro v images p c).said ≡ Micro.Went → length u.levels ≡ suc (length c.levels) →
      effects_on (owner_among u.levels) es u ≡ Some d → P (level_ends v d.now d.levels)) →
      (ks : List Mark) (t u : Trace) → P t.config → marks_on v images p ks t ≡ Some u → P u.config
  marks_keep went fell [] t u h e = subst (λ (x : Trace). P x.config) (same_trace t u e) h
  marks_keep went fell (k ∷ ks) t u h e = keep_by (mark_on v images p k t) refl (λ x. marks_keep went fell ks x u) e
    where
      mark_keeps : (k : Mark) (x : Trace) → mark_on v images p k t ≡ Some x → P x.config
      mark_keeps Stepped x is =
          let r = micro v images p t.config in
          let step = went_where t x r is in subst (λ (y : Trace). P y.config) step.1 (went t.config h step.0)
      mark_keeps (Fell es) x is =
          let r = micro v images p t.config in
          let f = fell_where v es (length t.config.levels) (stepped t r) x is in
          let step = went_where t f.asked r f.asks in
          subst (λ (y : Trace). P y.config) f.is
          (fell t.config f.made es h step.0 (ap (λ (y : Trace). length y.config.levels) step.1 ∙ f.deeper)
          (ap (λ (y : Trace). effects_on (owner_among y.config.levels) es y.config) step.1 ∙ f.effects))

      keep_by : (x : Option Trace) → mark_on v images p k t ≡ x →
          ((y : Trace) → P y.config → marks_on v images p ks y ≡ Some u → P u.config) →
          elim x as (λ _. Option Trace) [ None ↦ None | Some y ↦ marks_on v images p ks y ] ≡ Some u → P u.config
      keep_by None is again e = absurd (no_trace u e)
      keep_by (Some y) is again e = again y (mark_keeps k y is) e

-- ---- grafts along a history

-- where a graft call goes on its accounts are what its effects make of them
pub went_accounts :
    (v : World) (images : ImageTable) (p : ℕ) (s : Accounts) (w : Objects) (ls : List Level) →
    GraftsFrom s w.accounts → GraftsFrom s (micro_on v images p w ls).config.now.accounts
went_accounts v images p s w [] h = h
went_accounts v images p s w (l ∷ ls) h =
    let r = micro_on v images p w (l ∷ ls) in
    let acts = instruction_acts v (λ o. Held.Exclusive) images p w l ls refl in
    subst (GraftsFrom s) (sym acts.accounts) (effects_from s l.owner r.effects w.accounts h)

-- no level at all
none_some : 1 ≤ 0 → ⊥
none_some h = omega arith

ends_accounts : (v : World) (w : Objects) (ls : List Level) → (level_ends v w ls).now ≡ w
ends_accounts v w [] = refl
ends_accounts v w (l ∷ ls) = refl

fell_accounts : (v : World) (s : Accounts) (q : ℕ) (es : List Effect) (w : Objects)
    (ls : List Level) (d : Config) → GraftsFrom s w.accounts → 1 ≤ length ls →
    effects_on q es (record { now = w; levels = ls }) ≡ Some d → GraftsFrom s (level_ends v d.now d.levels).now.accounts
fell_accounts v s q es w [] d h some made = absurd (none_some some)
fell_accounts v s q es w (l ∷ ls) d h some made =
    let been = have_been_made q es w.accounts w.things l ls d made in
    subst (λ (x : Objects). GraftsFrom s x.accounts) (sym (ends_accounts v d.now d.levels))
    (subst (λ (c : Config). GraftsFrom s c.now.accounts) (sym been.leads) (effects_from s q es w.accounts h))

-- one level more is some
some_of : (n m : ℕ) → m ≡ suc n → 1 ≤ m
some_of n m e = omega arith

-- wherever marks lead, the grafts that stand did so at first
pub marks_from : (v : World) (images : ImageTable) (p : ℕ) (s : Accounts) (ks : List Mark)
    (t u : Trace) → GraftsFrom s t.config.now.accounts → marks_on v images p ks t ≡ Some u →
    GraftsFrom s u.config.now.accounts
marks_from v images p s =
    marks_keep v images p (λ c. GraftsFrom s c.now.accounts) (λ c h said. went_accounts v images p s c.now c.levels h)
    (λ c d es h said deeper made.
    let u = (micro v images p c).config in
    fell_accounts v s (owner_among u.levels) es u.now u.levels d (went_accounts v images p s c.now
    c.levels h) (some_of (length c.levels) (length u.levels) deeper) made)

-- ---- the shape along a history

-- the call's levels have the shape, and grafts that level 0 doesn't hold stand as they did
pub record HasCome (s : Accounts) (q : ℕ) (c : Config) : Type 0 where
  pub shape : HasShape q c.levels
  pub before : AsBeforeOrHeld s c.now.accounts (outermost_touched c.levels)

-- level 0 holds what it held, once the call goes on
outermost_more : (v : World) (q pt : ℕ) (kept : Things) (l : Level) (es : List Effect)
    (ls : List Level) (c : Config) → Next v q pt kept l.touched (levels_by q es ls) Micro.Went c →
    HoldsMore (outermost_touched c.levels) (outermost_touched (l ∷ ls))
outermost_more v q pt kept l es ls c next o h = by_next next
  where
    more_by : (own : Level) → HoldsMore own.touched l.touched →
        is_held (outermost_touched (own ∷ levels_by q es ls) o) ≡ true
    more_by own more = by_levels ls h
      where
        by_levels : (ks : List Level) → is_held (outermost_touched (l ∷ ks) o) ≡ true →
            is_held (outermost_touched (own ∷ levels_by q es ks) o) ≡ true
        by_levels [] h = none_by (levels_by q es []) (levels_none q es) (more o h)
          where
            none_by : (ks : List Level) → ks ≡ [] → is_held (own.touched o) ≡ true →
                is_held (outermost_touched (own ∷ ks) o) ≡ true
            none_by ks e h = subst (λ xs. is_held (outermost_touched (own ∷ xs) o) ≡ true) (sym e) h
        by_levels (k ∷ ks) h =
            let next = levels_inside q es k ks in
            subst (λ xs. is_held (outermost_touched (own ∷ xs) o) ≡ true) (sym next.1)
            (subst (λ xs. is_held (outermost_touched xs o) ≡ true) next.1
            (subst (λ (t : Touched). is_held (t o) ≡ true) (sym (levels_touched q es k ks))
            (held_on q es (outermost_touched (k ∷ ks)) o h)))

    back_by : (x : ComesBack (levels_by q es ls) c) → is_held (outermost_touched c.levels o) ≡ true
    back_by x =
        subst (λ ys. is_held (outermost_touched ys o) ≡ true) (sym x.levels)
        (rest_by x.rest (subst (λ ys. is_held (outermost_touched ys o) ≡ true) x.outside outer))
      where
        outer : is_held (outermost_touched (levels_by q es ls) o) ≡ true
        outer = outer_by ls x.outside h
          where
            no_asker : (k : Level) (ks : List Level) → [] ≡ k ∷ ks → ⊥
            no_asker k ks e = cc

            outer_by : (ks : List Level) → levels_by q es ks ≡ x.asker ∷ x.rest →
                is_held (outermost_touched (l ∷ ks) o) ≡ true →
                is_held (outermost_touched (levels_by q es ks) o) ≡ true
            outer_by [] e h = absurd (no_asker x.asker x.rest (sym (levels_none q es) ∙ e))
            outer_by (k ∷ ks) e h =
                subst (λ (t : Touched). is_held (t o) ≡ true) (sym (levels_touched q es k ks))
                (held_on q es (outermost_touched (k ∷ ks)) o h)

        rest_by : (rest : List Level) → is_held (outermost_touched (x.asker ∷ rest) o) ≡ true →
            is_held (outermost_touched (x.own ∷ rest) o) ≡ true
        rest_by [] h = x.more o h
        rest_by (k ∷ ks) h = h

    by_next : StaysIn q pt kept l.touched (levels_by q es ls) c
        ⊎ GoesDeeper q pt kept l.touched (levels_by q es ls) c ⊎ ComesBack (levels_by q es ls) c →
        is_held (outermost_touched c.levels o) ≡ true
    by_next (inl s) = subst (λ ys. is_held (outermost_touched ys o) ≡ true) (sym s.levels) (more_by s.own s.more)
    by_next (inr (inl d)) = subst (λ ys. is_held (outermost_touched ys o) ≡ true) (sym d.levels) (more_by d.own d.more)
    by_next (inr (inr x)) = back_by x

-- after an instruction
went_come : (v : World) (images : ImageTable) (p : ℕ) (s : Accounts) (q : ℕ) (w : Objects)
    (ls : List Level) → HasShape q ls → AsBeforeOrHeld s w.accounts (outermost_touched ls) →
    (micro_on v images p w ls).said ≡ Micro.Went → HasCome s q (micro_on v images p w ls).config
went_come v images p s q w [] shape before said = absurd (none_some shape.some)
went_come v images p s q w (l ∷ ls) shape before said =
    let r = micro_on v images p w (l ∷ ls) in
    let acts = instruction_acts v (λ o. Held.Exclusive) images p w l ls refl in
    let none = subst (λ x. WhereGoesOn x (NoneRemoved r.effects)) said acts.none in
    let next = subst (λ x. Next v l.owner l.point l.kept l.touched (levels_by l.owner r.effects ls)
    x r.config) said acts.next in
    record {
      shape = subst (λ x. ShapeWhereWent q x r.config) said (instruction_shape v images p q w (l ∷ ls) shape);
      before =
          before_more s w.accounts r.config.now.accounts
          (outermost_touched (l ∷ ls)) (outermost_touched r.config.levels)
          (λ i pt. ap (λ (a : Accounts). is_some (a.graft i pt)) acts.accounts
          ∙ none_removed_same l.owner r.effects w.accounts none i pt)
          (outermost_more v l.owner l.point l.kept l r.effects ls r.config next) before;
    }

-- levels with another machine are held as they were
answer_outermost : (pt r0 r1 : ℕ) (ls : List Level) →
    outermost_touched (answer_innermost pt r0 r1 ls) ≡ outermost_touched ls
answer_outermost pt r0 r1 [] = refl
answer_outermost pt r0 r1 (l ∷ []) = refl
answer_outermost pt r0 r1 (l ∷ k ∷ ls) = refl

-- after a fallen level's mark
fell_come : (v : World) (s : Accounts) (q i : ℕ) (es : List Effect) (w : Objects) (ls : List Level)
    (d : Config) → HasShape q ls → AsBeforeOrHeld s w.accounts (outermost_touched ls) →
    2 ≤ length ls → effects_on i es (record { now = w; levels = ls }) ≡ Some d →
    HasCome s q (level_ends v d.now d.levels)
fell_come v s q i es w [] d shape before some made = absurd (none_some shape.some)
fell_come v s q i es w (l ∷ []) d shape before some made = absurd (none_two some)
  where
    none_two : 2 ≤ 1 → ⊥
    none_two h = omega arith
fell_come v s q i es w (l ∷ k ∷ ks) d shape before some made =
    let been = have_been_made i es w.accounts w.things l (k ∷ ks) d made in
    let a = accounts_by i es w.accounts in
    let next = levels_inside i es k ks in
    let levels = levels_above i es l k ks ∙ ap (λ ys. l ∷ ys) next.1 in
    let all = subst (HasShape q) levels (shape_on q
    (levels_by i es (l ∷ k ∷ ks)) (l ∷ k ∷ ks) (keep_effects i es (l ∷ k ∷ ks)) shape) in
    let outer = next.0 ∷ levels_by i es ks in
    let e = default_of v w.things l.owner l.point in
    let touched : touched_by i es (outermost_touched (k ∷ ks))
    ≡ outermost_touched (answer_innermost l.point e.0 e.1 outer) =
    sym (levels_touched i es k ks) ∙ ap outermost_touched next.1 ∙ sym (answer_outermost l.point e.0 e.1 outer) in
    subst (λ (c : Config). HasCome s q (level_ends v c.now c.levels))
    (sym (been.leads ∙ ap (config_with a w.things) levels)) (record {
      shape =
          shape_on q (answer_innermost l.point e.0 e.1 outer) outer
          (keep_answer l.point e.0 e.1 outer) (shape_outside q l next.0 (levels_by i es ks) all);
      before =
          subst (AsBeforeOrHeld s a) touched
          (effects_before s i es w.accounts (outermost_touched (k ∷ ks)) been.made before);
    })

-- one level more is two
two_of : (n m : ℕ) → m ≡ suc n → 1 ≤ n → 2 ≤ m
two_of n m e h = omega arith

-- wherever marks lead from a call that has come, one has come
pub marks_come : (v : World) (images : ImageTable) (p : ℕ) (s : Accounts) (q : ℕ) (ks : List Mark)
    (t u : Trace) → HasCome s q t.config → marks_on v images p ks t ≡ Some u → HasCome s q u.config
marks_come v images p s q =
    marks_keep v images p (HasCome s q) (λ c h said. went_come v images p s q c.now c.levels h.shape h.before said)
    (λ c d es h said deeper made.
    let u = (micro v images p c).config in
    let come = went_come v images p s q c.now c.levels h.shape h.before said in
    fell_come v s q (owner_among u.levels) es u.now u.levels d come.shape come.before
    (two_of (length c.levels) (length u.levels) deeper h.shape.some) made)

-- ---- the beginning

-- objects touched one after another
touch_more : (xs ys : List Need) (t : Touched) → touch_all (xs ++ ys) t ≡ touch_all ys (touch_all xs t)
touch_more [] ys t = refl
touch_more (x ∷ xs) ys t = touch_more xs ys (touch x.object x.mode t)

-- level 0 holds the graft of the point
pub graft_held : (m : Meaning) → Laws m →
    (v : World) (s : Objects) (p : ℕ) (t : Stage) (a : Point) → m.fits v s p t ≡ true →
    m.asks v s p t ≡ Some a →
    touch_all (m.need v s p t) untouched (Graft a.installer a.point) ≡ Held.Exclusive
graft_held m laws v s p t a fits asked =
    let xs = before_point s a (m.need v s p t) in
    let o = Graft a.installer a.point in
    let u = touch o Mode.Exclusive (touch_all xs untouched) in
    ap (λ ns. touch_all ns untouched o) (laws.need.point v s p t a fits asked)
    ∙ ap (λ (x : Touched). x o) (touch_more xs (needs_of_point s a) untouched)
    ∙ touch_all_holds (payer_needs a.installer (s.accounts.graft a.installer a.point)) u o
    (touch_here o (touch_all xs untouched))

-- level 0 holds the graft of the point and its installer's account, where the graft stands
base_held : (m : Meaning) → Laws m →
    (v : World) (s : Objects) (p : ℕ) (t : Stage) (a : Point) (g : GraftValue) →
    m.fits v s p t ≡ true → m.asks v s p t ≡ Some a →
    s.accounts.graft a.installer a.point ≡ Some g →
    (touch_all (m.need v s p t) untouched (Graft a.installer a.point) ≡ Held.Exclusive)
    × (touch_all (m.need v s p t) untouched (Acct a.installer) ≡ Held.Exclusive)
base_held m laws v s p t a g fits asked stands =
    let xs = before_point s a (m.need v s p t) in
    let all = ap (λ ns. touch_all ns untouched) (laws.need.point v s p t a fits asked)
    ∙ touch_more xs (needs_of_point s a) untouched in
    let u = touch (Graft a.installer a.point) Mode.Exclusive (touch_all xs untouched) in (
      graft_held m laws v s p t a fits asked,
      ap (λ (x : Touched). x (Acct a.installer)) all
          ∙ ap (λ y. touch_all (payer_needs a.installer y) u (Acct a.installer)) stands
          ∙ touch_here (Acct a.installer) u,
    )

-- a call begins so
begins_come : (m : Meaning) → Laws m → (v : World) (images : ImageTable) (s : Objects) (p : ℕ)
    (t : Stage) (a : Point) (g : GraftValue) → m.fits v s p t ≡ true →
    m.asks v s p t ≡ Some a → s.accounts.graft a.installer a.point ≡ Some g →
    HasCome s.accounts a.installer (begin_at images s p (m.need v s p t) (m.feed t) a)
begins_come m laws v images s p t a g fits asked stands =
    let held = base_held m laws v s p t a g fits asked stands in
    record {
      shape =
          record {
            grafts = (refl, held.0, refl, tt);
            acct = held.1;
            few = zero_few;
            most = one_most;
            some = one_some;
          };
      before = λ q pt. inl refl;
    }
  where
    zero_few : 0 + 0 ≤ 64
    zero_few = omega arith

    one_most : 1 ≤ 4
    one_most = omega arith

    one_some : 1 ≤ 1
    one_some = omega arith

-- what a replay comes to
pub record Comes (m : Meaning) (v : World) (s : Objects) (p : ℕ) (t : Stage) (c : Config) : Type 0 where
  pub point : Point
  pub asked : m.asks v s p t ≡ Some point
  pub some : 1 ≤ length c.levels
  pub grafts_from : GraftsFrom s.accounts c.now.accounts
  pub come : (g : GraftValue) → s.accounts.graft point.installer point.point ≡ Some g →
      HasCome s.accounts point.installer c

pub replay_comes : (m : Meaning) → Laws m → (v : World) (images : ImageTable) (s : Objects) (p : ℕ)
    (t : Stage) (ks : List Mark) (u : Trace) → m.fits v s p t ≡ true →
    replay m v images s p t ks ≡ Some u → Comes m v s p t u.config
replay_comes m laws v images s p t ks u fits e = comes_by (m.asks v s p t) refl e
  where
    some_levels : (first : Trace) (q : ℕ) (ms : List Mark) (a : Accounts) (ls : List Level)
        (ps : List Past) → HasPasts v images p first q ms a [] ls ps → 1 ≤ length ls
    some_levels first q ms a [] ps h = absurd h
    some_levels first q ms a (l ∷ ls) ps h = some_more (length ls)
      where
        some_more : (n : ℕ) → 1 ≤ suc n
        some_more n = omega arith

    comes_by : (ask : Option Point) → m.asks v s p t ≡ ask →
        elim (begin_with images s p (m.need v s p t) (m.feed t) ask) as (λ _. Option Trace) [
          | None ↦ None
          | Some c ↦ marks_on v images p ks (first_trace c)
        ] ≡ Some u →
        Comes m v s p t u.config
    comes_by None asked e = absurd (no_trace u e)
    comes_by (Some a) asked e =
        let first = first_trace (begin_at images s p (m.need v s p t) (m.feed t) a) in
        record {
          point = a;
          asked = asked;
          some = some_levels first a.installer ([] ++ ks) u.config.now.accounts u.config.levels u.pasts
              (marks_lead v images p first a.installer [] ks first u
              (record { leads = refl; marks = refl; pasts = refl }) e).pasts;
          grafts_from = marks_from v images p s.accounts ks first u (λ q pt. graft_self (s.accounts.graft q pt)) e;
          come =
              λ g stands. marks_come v images p s.accounts a.installer ks first u
              (begins_come m laws v images s p t a g fits asked stands) e;
        }
