-- A mark on two traces that are alike leads to traces that are alike.
use Rattle.std.specs.Prelude.{◌≡◌, ℕ, suc, ◌+◌, ◌<◌, ◌≤◌, ◌||◌, Bool, true, false, List, [], ◌∷◌}
use Rattle.std.specs.Prelude.{length, Option, Some, is_some}
use Rattle.std.proofs.Common.{arith, refl, subst, sym, ap, ◌∙◌, inl, inr}
use Rattle.std.proofs.lemmas.Bool.{cases_Bool}
use Rattle.kernel_model.specs.declared.Held.{Held}
use Rattle.kernel_model.specs.declared.Object.{Object}
use Rattle.kernel_model.specs.declared.Object.TheVariants.{Graft, Acct}
use Rattle.kernel_model.specs.World.{World, ImageTable}
use Rattle.kernel_model.specs.Objects.{Objects, SameAt, with_accounts}
use Rattle.kernel_model.specs.Machine.{Done, Called, Returned, Trapped, Outside, PastEnd, seg_step}
use Rattle.kernel_model.specs.Policies.{kind_of, default_of, valid}
use Rattle.kernel_model.specs.declared.Kind.TheVariants.{Steps}
use Rattle.kernel_model.specs.Charges.{charge}
use Rattle.kernel_model.specs.Locks.{is_held}
use Rattle.kernel_model.specs.Levels.{Level, Config, Effect, Outcome, is_going_on, image_of}
use Rattle.kernel_model.specs.Levels.{keeps_in, code_of, outermost_touched, answer_innermost}
use Rattle.kernel_model.specs.GraftStep.{micro, micro_on, charged_step, is_spent, after_machine}
use Rattle.kernel_model.specs.GraftStep.{is_record_spent, after_keeping, after_answer}
use Rattle.kernel_model.specs.GraftStep.{after_return}
use Rattle.kernel_model.specs.History.{Trace, pasts_after, with_effects, trace_after, level_ends, effects_on}
use Rattle.kernel_model.specs.InPlace.{is_changed_in}
use Rattle.kernel_model.specs.Alike.{LevelsAlike, ConfigsAlike, is_held_in}
use Rattle.kernel_laws.proofs.LevelLemmas.{each_from, outer_changed as outermost_changed}
use Rattle.graft_laws.specs.Alike.{point_objects, AsksAreHeld, OutcomesAlike}
use Rattle.graft_laws.specs.Histories.{IsReplayed, TracesAlike}
use Rattle.graft_laws.proofs.ObjectLemmas.{same_thing}
use Rattle.graft_laws.proofs.PointLemmas.{AreSame, held_same, default_same, answer_of_point, or_right}
use Rattle.graft_laws.proofs.HoldLemmas.{changed_held, outermost_held}
use Rattle.graft_laws.proofs.LevelsAlikeLemmas.{length_alike, held_alike, answer_alike}
use Rattle.graft_laws.proofs.AlikeLemmas.{IsAnsweredAlike}
use Rattle.graft_laws.proofs.ConfigAlikeLemmas.{kept_alike, asked_alike, valid_alike, instruction_alike}
use Rattle.graft_laws.proofs.GrownLemmas.{AreGrown, grown_held, grown_answer}
use Rattle.graft_laws.proofs.TurnParts.{IsNew, not_going}
use Rattle.graft_laws.proofs.TurnLemmas.{levels_turn}
use Rattle.graft_laws.proofs.ShapeLemmas.{contrary, shape_held}
use Rattle.graft_laws.proofs.StandLemmas.{AllStand}
use Rattle.graft_laws.proofs.EffectLemmas.{same_back, effects_lead}
use Rattle.graft_laws.proofs.AlikeEffectLemmas.{stand_alike, effects_alike}
use Rattle.kernel_laws.proofs.FrameLemmas.{same_then}

-- ---- states

-- what isn't held isn't held exclusively
unheld_unchanged : (ls : List Level) (o : Object) → is_held_in ls o ≡ false → is_changed_in ls o ≡ false
unheld_unchanged ls o none = elim (cases_Bool (is_changed_in ls o)) [
  | inl some ↦ contrary (sym (changed_held ls o some) ∙ none)
  | inr same ↦ same
]

module _ (v : World) (s u : Objects) where
  -- two calls that were replayed from states that agree on an object agree on it
  pub now_agree : (c d : Config) → IsReplayed v s c → IsReplayed v u d → ConfigsAlike c d →
      (o : Object) → SameAt o s u → SameAt o c.now d.now
  now_agree c d first second alike o same = elim (cases_Bool (is_held_in c.levels o)) [
    | inl held ↦ alike.now o held
    | inr none ↦ same_then o c.now s d.now (first.now o (unheld_unchanged c.levels o none))
        (same_then o s u d.now same (same_back o d.now u (second.now o (unheld_unchanged d.levels o
        (sym (held_alike c.levels d.levels o alike.levels) ∙ none)))))
  ]

  -- calls with levels that are alike, which agree on what is held, are alike
  pub alike_from : (c d : Config) → IsReplayed v s c →
      IsReplayed v u d → LevelsAlike c.levels d.levels →
      ((o : Object) → is_held_in c.levels o ≡ true → SameAt o c.now d.now) → ConfigsAlike c d
  alike_from c d first second levels now =
      record {
        levels = levels;
        now = now;
        kept =
            λ n l k o x y e. kept_alike c.levels d.levels c.now.things d.now.things levels
            first.sound.kept second.sound.kept o (same_thing o c.now d.now (now o e)) n l k x y;
      }

  -- and the grafts of levels stand on both sides
  pub stand_other : (c d : Config) → IsReplayed v s c → LevelsAlike c.levels d.levels →
      ((o : Object) → is_held_in c.levels o ≡ true → SameAt o c.now d.now) →
      AllStand d.now.accounts d.levels
  stand_other c d first levels now =
      stand_alike c.now.accounts d.now.accounts c.levels d.levels levels
      (each_from (λ (l : Level). is_some (c.now.accounts.graft l.owner l.point) ≡ true) c.levels first.sound.grafts)
      (each_from (λ (l : Level). c.now.accounts.graft l.owner l.point ≡ d.now.accounts.graft l.owner l.point) c.levels
      (λ l k. (now (Graft l.owner l.point)
      (outermost_held c.levels (Graft l.owner l.point) (first.sound.paid l k).0)).0))

-- ---- an instruction that goes on

-- level 0's answer doesn't go on
module _ (v : World) (images : ImageTable) (p : ℕ) where
  answer_ends : (w : Objects) (l : Level) (d : Done) →
      seg_step (code_of images w.accounts l.owner l.point) l.machine ≡ d → d ≡ Returned →
      is_going_on (micro_on v images p w (l ∷ [])).said ≡ true → ⊥
  answer_ends w l d e f went = by_spent (is_spent w.accounts l) went
    where
      by_record : (x : Objects) (n : Level) (b : Bool) → is_going_on (after_keeping v x n [] b).said ≡ true → ⊥
      by_record x n true h = not_going h
      by_record x n false h = not_going h

      by_keep : (x : Objects) (n : Level) (b : Bool) → is_going_on (after_answer v x n [] b).said ≡ true → ⊥
      by_keep x n true h = by_record x n (is_record_spent x.accounts n []) h
      by_keep x n false h = not_going h

      by_valid : (x : Objects) (n : Level) (b : Bool) → is_going_on (after_return v images x n [] b).said ≡ true → ⊥
      by_valid x n true h = by_keep x n (keeps_in (image_of images (x.accounts.graft n.owner n.point))) h
      by_valid x n false h = not_going h

      returned : (x : Objects) (n : Level) (d : Done) → d ≡ Returned →
          is_going_on (after_machine v images p x n [] d).said ≡ true → ⊥
      returned x n d e h =
          by_valid x n (valid x.things n.owner n.point n.args (n.machine.regs 0) (n.machine.regs 1))
          (subst (λ (y : Done). is_going_on (after_machine v images p x n [] y).said ≡ true) e h)

      by_spent : (b : Bool) → is_going_on (charged_step v images p w l [] b).said ≡ true → ⊥
      by_spent true h = not_going h
      by_spent false h =
          returned (with_accounts (charge Steps l.owner l.point w.accounts) w)
          (record l { count = l.count + 1 })
          (seg_step (code_of images w.accounts l.owner l.point) l.machine) (e ∙ f) h

  went_answered : (w u : Objects) (l : Level) (ls : List Level) (d : Done) →
      seg_step (code_of images w.accounts l.owner l.point) l.machine ≡ d →
      is_going_on (micro_on v images p w (l ∷ ls)).said ≡ true →
      ((o : Object) → is_held_in (l ∷ ls) o ≡ true → SameAt o w u) → AsksAreHeld (l ∷ ls) →
      IsAnsweredAlike d w u l
  went_answered w u l [] Returned e went held asks = absurd (answer_ends w l Returned e refl went)
  went_answered w u l (m ∷ ls) Returned e went held asks =
      valid_alike Returned w u l (answer_of_point (kind_of l.point) l.owner l.point w.things
      u.things (asked_alike w u l m ls l.owner l.point held asks.0))
  went_answered w u l ls (Done.Went m) e went held asks = tt
  went_answered w u l ls (Called id m) e went held asks = tt
  went_answered w u l ls Done.DividedByZero e went held asks = tt
  went_answered w u l ls (Trapped code) e went held asks = tt
  went_answered w u l ls Outside e went held asks = tt
  went_answered w u l ls PastEnd e went held asks = tt

  -- two calls, replayed from states that agree on what is held after the instruction
  pub went_alike : (s u : Objects) (c d : Config) → IsReplayed v s c → IsReplayed v u d →
      ConfigsAlike c d → is_going_on (micro v images p c).said ≡ true →
      ((o : Object) → is_held_in (micro v images p c).config.levels o ≡ true → SameAt o s u) →
      OutcomesAlike c d (micro v images p c) (micro v images p d)
  went_alike s u c d first second alike went same = by_levels c.now c.levels first alike went same
    where
      none_some : 1 ≤ 0 → ⊥
      none_some h = omega arith

      by_levels : (w : Objects) (ls : List Level) →
          IsReplayed v s (record { now = w; levels = ls }) →
          ConfigsAlike (record { now = w; levels = ls }) d →
          is_going_on (micro_on v images p w ls).said ≡ true → ((o : Object) →
          is_held_in (micro_on v images p w ls).config.levels o ≡ true → SameAt o s u) →
          OutcomesAlike (record { now = w; levels = ls }) d (micro_on v images p w ls) (micro v images p d)
      by_levels w [] first alike went same = absurd (none_some first.sound.some)
      by_levels w (l ∷ ls) first alike went same =
          instruction_alike v images p w d.now l ls d.levels first.sound second.sound alike first.asks
          (went_answered w d.now l ls (seg_step (code_of images w.accounts l.owner l.point)
          l.machine) refl went alike.now first.asks)
          (λ o needs. now_agree v s u (record { now = w; levels = l ∷ ls }) d first second alike o
          (same o ((levels_turn v images p w l ls).gets went o needs)))

-- what is held stays held
pub went_holds : (v : World) (images : ImageTable) (p : ℕ) (w : Objects) (ls : List Level)
    (o : Object) → is_going_on (micro_on v images p w ls).said ≡ true → is_held_in ls o ≡ true →
    is_held_in (micro_on v images p w ls).config.levels o ≡ true
went_holds v images p w [] o went h = h
went_holds v images p w (l ∷ ls) o went h =
    let r = micro_on v images p w (l ∷ ls) in
    shape_held l ls r.config.now.things (is_going_on r.said) r.config.levels o
    (levels_turn v images p w l ls).shape went h

-- ---- pasts

pub after_alike : (t y : Trace) (o r : Outcome) → TracesAlike t y →
    OutcomesAlike t.config y.config o r → (trace_after t o).pasts ≡ (trace_after y r).pasts
after_alike t y o r alike same =
    ap (λ n. pasts_after n (length t.config.levels) (length o.config.levels)
    (with_effects o.effects t.pasts)) alike.marks
    ∙ ap (λ n. pasts_after y.marks n (length o.config.levels) (with_effects o.effects t.pasts))
    (length_alike t.config.levels y.config.levels alike.config.levels)
    ∙ ap (λ n. pasts_after y.marks (length y.config.levels) n (with_effects o.effects t.pasts))
    (length_alike o.config.levels r.config.levels same.config.levels)
    ∙ ap (λ es. pasts_after y.marks (length y.config.levels) (length r.config.levels)
    (with_effects es t.pasts)) same.effects
    ∙ ap (λ ps. pasts_after y.marks (length y.config.levels) (length r.config.levels)
    (with_effects r.effects ps)) alike.pasts

-- ---- a fallen level

-- where the other call comes to
pub record FellAlike (v : World) (c : Config) (x : Option Config) : Type 0 where
  pub config : Config
  pub is : x ≡ Some config
  pub levels : LevelsAlike (level_ends v c.now c.levels).levels (level_ends v config.now config.levels).levels
  pub now : (o : Object) → is_held_in (level_ends v c.now c.levels).levels o ≡ true →
      SameAt o (level_ends v c.now c.levels).now (level_ends v config.now config.levels).now

-- the innermost levels end, on states that agree on what is held then
ends_alike : (v : World) (x y : Objects) (n a : Level) (js bs : List Level) →
    LevelsAlike (n ∷ js) (a ∷ bs) →
    AreSame (point_objects (kind_of n.point) n.owner n.point) x.things y.things →
    LevelsAlike (level_ends v x (n ∷ js)).levels (level_ends v y (a ∷ bs)).levels
ends_alike v x y n a js bs levels same =
    let d = default_of v x.things n.owner n.point in
    subst (λ (m : Level). LevelsAlike (answer_innermost n.point d.0 d.1 js) (level_ends v y (m ∷ bs)).levels) levels.0
    (subst (λ (e : ℕ × ℕ). LevelsAlike (answer_innermost n.point d.0 d.1 js)
    (answer_innermost n.point e.0 e.1 bs))
    (default_same (kind_of n.point) v n.owner n.point x.things y.things same)
    (answer_alike n.point d.0 d.1 js bs levels.1))

pub fell_alike : (v : World) (s u w : Objects) (n k : Level) (ks : List Level) (es : List Effect)
    (c d : Config) → IsReplayed v s (record { now = w; levels = n ∷ k ∷ ks }) → IsReplayed v u d →
    ConfigsAlike (record { now = w; levels = n ∷ k ∷ ks }) d → IsNew n w.things →
    effects_on n.owner es (record { now = w; levels = n ∷ k ∷ ks }) ≡ Some c →
    ((o : Object) → is_held_in (level_ends v c.now c.levels).levels o ≡ true → SameAt o s u) →
    FellAlike v c (effects_on n.owner es d)
fell_alike v s u w n k ks es c d first second alike fresh effects same =
    let before : Config = record { now = w; levels = n ∷ k ∷ ks } in
    let acct = (first.sound.paid n (0, below_suc (length (k ∷ ks)), refl)).1 in
    let leads = effects_lead v n.owner es w n k ks c (λ q pt e. first.grafts q pt
    (or_right (is_held (n.touched (Graft q pt))) (is_held_in (k ∷ ks) (Graft q pt)) e))
    (outer_changed acct) effects in
    by_outer leads.now leads.outer leads.affected.grown leads.is acct
  where
    below_suc : (n : ℕ) → 0 < suc n
    below_suc n = omega arith

    outer_changed : outermost_touched (k ∷ ks) (Acct n.owner) ≡ Held.Exclusive →
        is_changed_in (k ∷ ks) (Acct n.owner) ≡ true
    outer_changed h = outermost_changed (k ∷ ks) (Acct n.owner) h

    fresh_held : (js : List Level) (o : Object) → is_held_in (n ∷ js) o ≡ true → is_held_in js o ≡ true
    fresh_held js o h = sym (ap (λ (x : Held). is_held x || is_held_in js o) (ap (λ t. t o) fresh.touched)) ∙ h

    by_outer : (x : Objects) (js : List Level) → AreGrown js (k ∷ ks) →
        record { now = x; levels = n ∷ js } ≡ c →
        outermost_touched (k ∷ ks) (Acct n.owner) ≡ Held.Exclusive →
        FellAlike v c (effects_on n.owner es d)
    by_outer x js grown is acct =
        let e = default_of v x.things n.owner n.point in
        let rs = answer_innermost n.point e.0 e.1 js in
        let answered = λ (o : Object) (h : is_held_in js o ≡ true).
        grown_held rs js o (grown_answer n.point e.0 e.1 js) h in
        let outer = λ (o : Object) (h : is_held_in (k ∷ ks) o ≡ true). answered o (grown_held js (k ∷ ks) o grown h) in
        let agree = subst (λ (y : Config). (o : Object) →
        is_held_in (level_ends v y.now y.levels).levels o ≡ true → SameAt o s u)
        (sym is) same in
        let other = effects_alike (λ o. is_held_in rs o ≡ true) n.owner
        (outer (Acct n.owner) (outermost_held (k ∷ ks) (Acct n.owner) acct)) es
        (record { now = w; levels = n ∷ k ∷ ks }) d (record { now = x; levels = n ∷ js }) alike.levels
        (λ o h. now_agree v s u (record { now = w; levels = n ∷ k ∷ ks }) d first second alike o
        (agree o h)) (λ o h. answered o (fresh_held js o h))
        (subst (λ (y : Config). effects_on n.owner es (record { now = w; levels = n ∷ k ∷ ks })
        ≡ Some y) (sym is) effects) in
        subst (λ (y : Config). FellAlike v y (effects_on n.owner es d)) is
        (by_levels x js other.config.now other.config.levels other.is other.levels other.same
        (held_same (k ∷ ks) (point_objects (kind_of n.point) n.owner n.point)
        x.things other.config.now.things
        (λ o h. same_thing o x other.config.now (other.same o (outer o h))) first.asks.0))
      where
        by_levels : (x : Objects) (js : List Level) (y : Objects) (ls : List Level) →
            effects_on n.owner es d ≡ Some (record { now = y; levels = ls }) →
            LevelsAlike (n ∷ js) ls →
            ((o : Object) → is_held_in (level_ends v x (n ∷ js)).levels o ≡ true → SameAt o x y) →
            AreSame (point_objects (kind_of n.point) n.owner n.point) x.things y.things →
            FellAlike v (record { now = x; levels = n ∷ js }) (effects_on n.owner es d)
        by_levels x js y [] is levels same points = absurd levels
        by_levels x js y (a ∷ bs) is levels same points =
            record {
              config = record { now = y; levels = a ∷ bs };
              is = is;
              levels = ends_alike v x y n a js bs levels points;
              now = same;
            }
