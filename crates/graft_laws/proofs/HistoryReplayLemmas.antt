-- Marks, whole histories, and drops: where they lead beside the state that a history is replayed from.
use Rattle.std.specs.Prelude.{◌≡◌, ℕ, suc, ◌<◌, ◌≤◌, Bool, true, List, [], ◌∷◌, length, Some}
use Rattle.std.proofs.Common.{arith, refl, subst, sym, ap, ◌∙◌}
use Rattle.kernel_model.specs.declared.Object.TheVariants.{Graft, Acct}
use Rattle.kernel_model.specs.World.{World, ImageTable}
use Rattle.kernel_model.specs.Objects.{Objects, Accounts, Things}
use Rattle.kernel_model.specs.Policies.{default_of}
use Rattle.kernel_model.specs.Locks.{is_held}
use Rattle.kernel_model.specs.Levels.{Level, Config, Effect, Asked, Charged, Removed, is_going_on}
use Rattle.kernel_model.specs.Levels.{touch_outermost, answer_innermost}
use Rattle.kernel_model.specs.GraftStep.{micro, micro_on}
use Rattle.kernel_model.specs.History.{Mark, Stepped, Fell, Trace, level_ends, effect, effects_on}
use Rattle.kernel_model.specs.History.{owner_among, mark_on, marks_on}
use Rattle.kernel_model.specs.Alike.{is_held_in}
use Rattle.graft_laws.specs.Histories.{IsReplayed}
use Rattle.graft_laws.proofs.PointLemmas.{or_right}
use Rattle.graft_laws.proofs.GrownLemmas.{AreGrown, grown_self, grown_answer, grown_touch, grown_then, grown_length}
use Rattle.graft_laws.proofs.TurnParts.{Shape, Goes, Begins, Joins, Ends, Falls, IsNew, StandsFrom}
use Rattle.graft_laws.proofs.TurnParts.{charged_stood, removed_stood, not_going}
use Rattle.graft_laws.proofs.TurnLemmas.{levels_turn}
use Rattle.graft_laws.proofs.StandLemmas.{AllStand, stand_grown, stand_from, micro_stands}
use Rattle.graft_laws.proofs.EffectLemmas.{Affected, effects_lead}
use Rattle.graft_laws.proofs.ReplayLemmas.{instructions_replay, fallen_replays}
use Rattle.graft_laws.proofs.MarkLemmas.{stepped_split, fell_split, marks_split, effects_split}
use Rattle.graft_laws.proofs.MarkLemmas.{charged_split, removed_split}
use Rattle.kernel_laws.proofs.LevelLemmas.{outer_changed}

-- ---- a level that begins

-- the levels after an instruction that made one more
pub record HasBegun (l : Level) (ls : List Level) (w : Things) (after : List Level) : Type 0 where
  pub new : Level
  pub asker : Level
  pub rest : List Level
  pub is : after ≡ new ∷ asker ∷ rest
  pub grown : AreGrown (asker ∷ rest) (l ∷ ls)
  pub fresh : IsNew new w

pub shape_begun : (l : Level) (ls : List Level) (w : Things) (went : Bool) (after : List Level) →
    Shape l l.touched ls w went after → went ≡ true →
    length after ≡ suc (length (l ∷ ls)) → HasBegun l ls w after
shape_begun l ls w went after (Goes g h) e more =
    absurd (too_long (length (l ∷ ls)) (sym (grown_length after (l ∷ ls) h) ∙ more))
  where
    too_long : (n : ℕ) → n ≡ suc n → ⊥
    too_long n e = omega arith
shape_begun l ls w went after (Begins n [] g f h new held) e more = absurd h
shape_begun l ls w went after (Begins n (k ∷ ks) g f h new held) e more =
    record { new = n; asker = k; rest = ks; is = f; grown = h; fresh = new }
shape_begun l ls w went after (Joins a b rest g f k h more_held) e more =
    absurd (too_long (length rest) (sym (ap length k) ∙ more ∙ ap (λ xs. suc (length (l ∷ xs))) f))
  where
    too_long : (n : ℕ) → suc n ≡ suc (suc (suc n)) → ⊥
    too_long n e = omega arith
shape_begun l ls w went after (Ends g f) e more = not_going (sym g ∙ e)
shape_begun l ls w went after (Falls g h) e more = not_going (sym g ∙ e)

-- ---- where a mark leads, its grafts stood before

-- effects put no graft in place
pub effects_stood : (q : ℕ) (es : List Effect) (c d : Config) → effects_on q es c ≡ Some d →
    StandsFrom c.now.accounts d.now.accounts × AreGrown d.levels c.levels
effects_stood q [] c d h =
    subst (λ (x : Config). StandsFrom c.now.accounts x.now.accounts × AreGrown x.levels c.levels)
    (some_is c d h) (λ r pu e. e, grown_self c.levels)
  where
    some_is : (c d : Config) → Some c ≡ Some d → c ≡ d
    some_is c d h = cc
effects_stood q (e ∷ es) c d h =
    let s = effects_split q e es c d h in
    let first = one_stood e c s.0 s.1 in
    let rest = effects_stood q es s.0 d s.2 in
    (λ r pu k. first.0 r pu (rest.0 r pu k), grown_then d.levels s.0.levels c.levels rest.1 first.1)
  where
    some_is : (c d : Config) → Some c ≡ Some d → c ≡ d
    some_is c d h = cc

    one_stood : (e : Effect) (c x : Config) → effect q e c ≡ Some x →
        StandsFrom c.now.accounts x.now.accounts × AreGrown x.levels c.levels
    one_stood (Asked pt) c x h =
        subst (λ (y : Config). StandsFrom c.now.accounts y.now.accounts × AreGrown y.levels
        c.levels) (some_is (record c { levels = touch_outermost (Graft q pt) c.levels }) x h)
        (λ r pu k. k, grown_touch (Graft q pt) c.levels)
    one_stood (Charged pt k) c x h =
        subst (λ (y : Config). StandsFrom c.now.accounts y.now.accounts
        × AreGrown y.levels c.levels) (charged_split q pt k c x h).2
        (charged_stood k q pt c.now.accounts, grown_self c.levels)
    one_stood (Removed pt) c x h =
        subst
        (λ (y : Config). StandsFrom c.now.accounts y.now.accounts × AreGrown y.levels c.levels)
        (removed_split q pt c x h).1 (removed_stood q pt c.now.accounts, grown_self c.levels)

-- the grafts of levels stood before a mark
pub mark_stood : (v : World) (images : ImageTable) (p : ℕ) (k : Mark) (t z : Trace) →
    mark_on v images p k t ≡ Some z → AllStand z.config.now.accounts z.config.levels →
    AllStand t.config.now.accounts t.config.levels
mark_stood v images p Stepped t z e stand =
    let s = stepped_split t (micro v images p t.config) z e in
    micro_stands v images p t.config.now t.config.levels s.0
    (subst (λ (y : Trace). AllStand y.config.now.accounts y.config.levels) (sym s.1) stand)
mark_stood v images p (Fell es) t z e stand =
    let f = fell_split v images p es t z e in
    by_levels t.config.now t.config.levels f.went f.more f.config f.effects
    (subst (λ (y : Trace). AllStand y.config.now.accounts y.config.levels) (sym f.result) stand)
  where
    ends_stood : (x : Objects) (a : Accounts) (js ks : List Level) (n : Level) →
        StandsFrom a x.accounts → AreGrown js (n ∷ ks) →
        AllStand (level_ends v x js).now.accounts (level_ends v x js).levels → AllStand a ks
    ends_stood x a [] ks n from grown stand = absurd grown
    ends_stood x a (j ∷ js) ks n from grown stand =
        let d = default_of v x.things j.owner j.point in
        stand_from a x.accounts ks from
        (stand_grown x.accounts js ks grown.1 (stand_grown x.accounts
        (answer_innermost j.point d.0 d.1 js) js (grown_answer j.point d.0 d.1 js) stand))

    by_levels : (w : Objects) (ls : List Level) →
        is_going_on (micro_on v images p w ls).said ≡ true →
        length (micro_on v images p w ls).config.levels ≡ suc (length ls) → (c : Config) →
        effects_on (owner_among (micro_on v images p w ls).config.levels) es (micro_on v images
        p w ls).config ≡ Some c → AllStand (level_ends v c.now c.levels).now.accounts
        (level_ends v c.now c.levels).levels →
        AllStand w.accounts ls
    by_levels w [] went more c effects stand = tt
    by_levels w (l ∷ ls) went more c effects stand =
        let o = micro_on v images p w (l ∷ ls) in
        let turn = levels_turn v images p w l ls in
        let begun = shape_begun l ls o.config.now.things (is_going_on o.said) o.config.levels turn.shape went more in
        let stood = effects_stood (owner_among o.config.levels) es o.config c effects in
        let outer = ends_stood c.now o.config.now.accounts c.levels (begun.asker ∷ begun.rest)
        begun.new stood.0 (subst (AreGrown c.levels) begun.is stood.1) stand in
        stand_from w.accounts o.config.now.accounts (l ∷ ls) turn.stands (stand_grown
        o.config.now.accounts (begun.asker ∷ begun.rest) (l ∷ ls) begun.grown outer)

pub marks_stood : (v : World) (images : ImageTable) (p : ℕ) (ks : List Mark) (t z : Trace) →
    marks_on v images p ks t ≡ Some z → AllStand z.config.now.accounts z.config.levels →
    AllStand t.config.now.accounts t.config.levels
marks_stood v images p [] t z e stand =
    subst (λ (y : Trace). AllStand y.config.now.accounts y.config.levels)
    (sym (some_is t z e)) stand
  where
    some_is : (t z : Trace) → Some t ≡ Some z → t ≡ z
    some_is t z h = cc
marks_stood v images p (k ∷ ks) t z e stand =
    let s = marks_split v images p k ks t z e in
    mark_stood v images p k t s.0 s.1 (marks_stood v images p ks s.0 z s.2 stand)

-- ---- where a mark leads

-- a fallen level's mark: the level that begins (new), the state and the levels outside it after its
-- effects, and the config that follows
pub record FellTo (v : World) (u : Objects) (after : List Level) (z : Config) : Type 0 where
  pub new : Level
  pub asker : Level
  pub rest : List Level
  pub is : after ≡ new ∷ asker ∷ rest
  pub fresh : IsNew new u.things
  pub now : Objects
  pub outer : List Level
  pub affected : Affected v u now (asker ∷ rest) outer
  pub result : record {
    now = now;
    levels = answer_innermost new.point (default_of v now.things new.owner new.point).0
        (default_of v now.things new.owner new.point).1 outer;
  } ≡ z

-- an instruction that began a level, on a call that was replayed
fell_leads : (v : World) (s u : Objects) (n k : Level) (ks : List Level) (es : List Effect)
    (c : Config) → IsReplayed v s (record { now = u; levels = n ∷ k ∷ ks }) → IsNew n u.things →
    effects_on n.owner es (record { now = u; levels = n ∷ k ∷ ks }) ≡ Some c →
    FellTo v u (n ∷ k ∷ ks) (level_ends v c.now c.levels)
fell_leads v s u n k ks es c h fresh effects =
    let acct = outer_changed (k ∷ ks) (Acct n.owner) (h.sound.paid n (0, below_suc (length (k ∷ ks)), refl)).1 in
    let leads = effects_lead v n.owner es u n k ks c
    (λ q pt e. h.grafts q pt (or_right (is_held (n.touched (Graft q pt)))
    (is_held_in (k ∷ ks) (Graft q pt)) e)) acct effects in
    record {
      new = n;
      asker = k;
      rest = ks;
      is = refl;
      fresh = fresh;
      now = leads.now;
      outer = leads.outer;
      affected = leads.affected;
      result = ap (λ (x : Config). level_ends v x.now x.levels) leads.is;
    }
  where
    below_suc : (n : ℕ) → 0 < suc n
    below_suc n = omega arith

pub mark_fell : (v : World) (images : ImageTable) (p : ℕ) (s : Objects) (es : List Effect)
    (t z : Trace) → mark_on v images p (Fell es) t ≡ Some z → IsReplayed v s t.config →
    FellTo v (micro v images p t.config).config.now (micro v images p t.config).config.levels z.config
mark_fell v images p s es t z e h =
    let f = fell_split v images p es t z e in
    let r = micro v images p t.config in
    subst (λ (y : Trace). FellTo v r.config.now r.config.levels y.config) f.result
    (by_levels t.config.now t.config.levels h f.went f.more f.config f.effects)
  where
    none_some : 1 ≤ 0 → ⊥
    none_some h = omega arith

    by_levels : (w : Objects) (ls : List Level) → IsReplayed v s (record { now = w; levels = ls }) →
        is_going_on (micro_on v images p w ls).said ≡ true →
        length (micro_on v images p w ls).config.levels ≡ suc (length ls) → (c : Config) →
        effects_on (owner_among (micro_on v images p w ls).config.levels) es
        (micro_on v images p w ls).config ≡ Some c →
        FellTo v (micro_on v images p w ls).config.now (micro_on v images p w ls).config.levels
        (level_ends v c.now c.levels)
    by_levels w [] h went more c effects = absurd (none_some h.sound.some)
    by_levels w (l ∷ ls) h went more c effects =
        let o = micro_on v images p w (l ∷ ls) in
        let turn = levels_turn v images p w l ls in
        let begun = shape_begun l ls o.config.now.things (is_going_on o.said) o.config.levels turn.shape went more in
        let after = instructions_replay v images p s (record { now = w; levels = l ∷ ls }) h went in
        subst (λ xs. FellTo v o.config.now xs (level_ends v c.now c.levels)) (sym begun.is)
        (fell_leads v s o.config.now begun.new begun.asker begun.rest es c (subst (λ xs. IsReplayed
        v s (record { now = o.config.now; levels = xs })) begun.is after) begun.fresh
        (subst (λ xs. effects_on (owner_among xs) es (record { now = o.config.now; levels = xs })
        ≡ Some c) begun.is effects))

-- a mark leads on
pub mark_replays : (v : World) (images : ImageTable) (p : ℕ) (s : Objects) (k : Mark)
    (t z : Trace) → mark_on v images p k t ≡ Some z → IsReplayed v s t.config →
    AllStand z.config.now.accounts z.config.levels → IsReplayed v s z.config
mark_replays v images p s Stepped t z e h stand =
    let f = stepped_split t (micro v images p t.config) z e in
    subst (λ (y : Trace). IsReplayed v s y.config) f.1 (instructions_replay v images p s t.config h f.0)
mark_replays v images p s (Fell es) t z e h stand =
    let split = fell_split v images p es t z e in
    let f = mark_fell v images p s es t z e h in
    let r = micro v images p t.config in
    let after = instructions_replay v images p s t.config h split.went in
    let d = default_of v f.now.things f.new.owner f.new.point in
    subst (IsReplayed v s) f.result
    (fallen_replays v s r.config.now f.now f.new f.asker f.rest f.outer f.new.point d.0 d.1
    (subst (λ xs. IsReplayed v s (record { now = r.config.now; levels = xs })) f.is after) f.fresh f.affected
    (subst (λ (y : Config). AllStand y.now.accounts y.levels) (sym f.result) stand))

pub marks_replay : (v : World) (images : ImageTable) (p : ℕ) (s : Objects) (ks : List Mark)
    (t z : Trace) → marks_on v images p ks t ≡ Some z → IsReplayed v s t.config →
    AllStand z.config.now.accounts z.config.levels → IsReplayed v s z.config
marks_replay v images p s [] t z e h stand = subst (λ (y : Trace). IsReplayed v s y.config) (some_is t z e) h
  where
    some_is : (t z : Trace) → Some t ≡ Some z → t ≡ z
    some_is t z h = cc
marks_replay v images p s (k ∷ ks) t z e h stand =
    let f = marks_split v images p k ks t z e in
    marks_replay v images p s ks f.0 z f.2
    (mark_replays v images p s k t f.0 f.1 h (marks_stood v images p ks f.0 z f.2 stand)) stand
