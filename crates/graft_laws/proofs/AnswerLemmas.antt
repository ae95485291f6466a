-- Level 0 of a graft call holds what tells whether the answer of its point is valid.
use Rattle.std.specs.Prelude.{◌≡◌, ℕ, true, false, List, [], ◌∷◌, Option, Some, None}
use Rattle.std.specs.List.{AllByRecursion}
use Rattle.std.proofs.Common.{refl, subst, sym}
use Rattle.kernel_model.specs.declared.Need.{Need}
use Rattle.kernel_model.specs.declared.Object.{Object}
use Rattle.kernel_model.specs.declared.Point.{Point}
use Rattle.kernel_model.specs.World.{World, ImageTable}
use Rattle.kernel_model.specs.Objects.{Objects}
use Rattle.kernel_model.specs.Policies.{kind_of, default_of}
use Rattle.kernel_model.specs.Locks.{touch_all, untouched, is_held}
use Rattle.kernel_model.specs.Meaning.{Meaning, Stage}
use Rattle.kernel_model.specs.Levels.{Level, Config, answer_innermost, new_level}
use Rattle.kernel_model.specs.GraftStep.{micro}
use Rattle.kernel_model.specs.History.{Mark, Stepped, Fell, Trace, begin_at, begin_with}
use Rattle.kernel_model.specs.History.{first_trace, level_ends, owner_among, mark_on, marks_on}
use Rattle.kernel_model.specs.Alike.{is_needed, is_held_in}
use Rattle.kernel_model.specs.Laws.{IsStanding, answer_objects, NeedsAnswers}
use Rattle.graft_laws.specs.Alike.{AreHeldBy, AnswerIsHeld}
use Rattle.graft_laws.specs.Points.{HistoriesHoldAnswers}
use Rattle.graft_laws.proofs.PointLemmas.{or_left}
use Rattle.graft_laws.proofs.HoldLemmas.{touch_all_gives}
use Rattle.graft_laws.proofs.GrownLemmas.{grown_answer, grown_answer_held}
use Rattle.graft_laws.proofs.ConfigAlikeLemmas.{answer_of_rest, points_stay_held}
use Rattle.graft_laws.proofs.MarkLemmas.{stepped_split, fell_split, marks_split, replay_split}
use Rattle.graft_laws.proofs.HistoryReplayLemmas.{effects_stood}

-- ---- histories

-- where a graft call begins
begin_holds : (m : Meaning) (needs : NeedsAnswers m) (v : World) (images : ImageTable) (s : Objects)
    (p : ℕ) (t : Stage) (x : Option Point) (c : Config) → IsStanding m v images s p t →
    m.asks v s p t ≡ x → begin_with images s p (m.need v s p t) (m.feed t) x ≡ Some c → AnswerIsHeld c.levels
begin_holds m needs v images s p t None c standing e f = absurd cc
begin_holds m needs v images s p t (Some a) c standing e f =
    subst (λ (d : Config). AnswerIsHeld d.levels) (is_it (begin_at images s p (m.need v s p t) (m.feed t) a) c f)
    (each_held (m.need v s p t) (new_level images s p 0 a.installer a.point a.args (m.feed t)
    (touch_all (m.need v s p t) untouched)) refl (answer_objects (kind_of a.point))
    (needs v images s p t a standing e))
  where
    is_it : (c d : Config) → Some c ≡ Some d → c ≡ d
    is_it c d h = cc

    each_held : (ns : List Need) (l : Level) → l.touched ≡ touch_all ns untouched →
        (os : List Object) → AllByRecursion (λ (o : Object). is_needed o ns ≡ true) os → AreHeldBy (l ∷ []) os
    each_held ns l same [] each = tt
    each_held ns l same (o ∷ os) each = (
      subst (λ h. is_held_in (record l { touched = h } ∷ []) o ≡ true) (sym same) (held_by ns l o each.0),
      each_held ns l same os each.1,
    )
      where
        held_by : (ns : List Need) (l : Level) (o : Object) → is_needed o ns ≡ true →
            is_held_in (record l { touched = touch_all ns untouched } ∷ []) o ≡ true
        held_by ns l o h = or_left (is_held (touch_all ns untouched o)) false (touch_all_gives ns untouched o h)

-- the levels without the innermost one
ends_hold : (v : World) (w : Objects) (ls : List Level) → AnswerIsHeld ls → AnswerIsHeld (level_ends v w ls).levels
ends_hold v w [] held = tt
ends_hold v w (l ∷ ls) held =
    let d = default_of v w.things l.owner l.point in
    grown_answer_held (answer_innermost l.point d.0 d.1 ls) ls (grown_answer l.point d.0 d.1 ls)
    (answer_of_rest l ls held)

mark_holds : (v : World) (images : ImageTable) (p : ℕ) (k : Mark) (t z : Trace) →
    mark_on v images p k t ≡ Some z → AnswerIsHeld t.config.levels → AnswerIsHeld z.config.levels
mark_holds v images p Stepped t z e held =
    subst (λ (x : Trace). AnswerIsHeld x.config.levels) (stepped_split t (micro v images p t.config)
    z e).1 ((points_stay_held v images p t.config).answer held)
mark_holds v images p (Fell es) t z e held =
    let f = fell_split v images p es t z e in
    let o = micro v images p t.config in
    let grown = (effects_stood (owner_among o.config.levels) es o.config f.config f.effects).1 in
    subst (λ (x : Trace). AnswerIsHeld x.config.levels) f.result
    (ends_hold v f.config.now f.config.levels (grown_answer_held f.config.levels o.config.levels
    grown ((points_stay_held v images p t.config).answer held)))

marks_hold : (v : World) (images : ImageTable) (p : ℕ) (ks : List Mark) (t z : Trace) →
    marks_on v images p ks t ≡ Some z → AnswerIsHeld t.config.levels → AnswerIsHeld z.config.levels
marks_hold v images p [] t z e held = subst (λ (x : Trace). AnswerIsHeld x.config.levels) (some_is t z e) held
  where
    some_is : (t z : Trace) → Some t ≡ Some z → t ≡ z
    some_is t z h = cc
marks_hold v images p (k ∷ ks) t z e held =
    let s = marks_split v images p k ks t z e in
    marks_hold v images p ks s.0 z s.2 (mark_holds v images p k t s.0 s.1 held)

pub histories_hold_answers : (m : Meaning) → HistoriesHoldAnswers m
histories_hold_answers m v images s p t ks z laws standing e =
    let f = replay_split m v images s p t ks z e in
    marks_hold v images p ks (first_trace f.0) z f.2
    (begin_holds m laws.need.answers v images s p t (m.asks v s p t) f.0 standing refl f.1)
