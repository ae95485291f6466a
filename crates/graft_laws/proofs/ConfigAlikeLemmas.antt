-- Instructions and drops of two graft calls that are alike.
use Rattle.std.specs.Prelude.{◌≡◌, ℕ, ◌≤◌, ◌==◌, Bool, true, false, List, [], ◌∷◌, length, Option, Some}
use Rattle.std.proofs.Common.{arith, refl, subst, sym, ap, inl, inr}
use Rattle.kernel_model.specs.declared.Cause.{Cause}
use Rattle.kernel_model.specs.declared.Object.{Object}
use Rattle.kernel_model.specs.declared.Object.TheVariants.{Graft, Acct}
use Rattle.kernel_model.specs.World.{World, ImageTable}
use Rattle.kernel_model.specs.Objects.{Objects, Things, SameAt, SameThing}
use Rattle.kernel_model.specs.Machine.{Done, Called, Returned, Trapped, Outside, PastEnd, seg_step}
use Rattle.kernel_model.specs.Policies.{kind_of, default_of}
use Rattle.kernel_model.specs.UndoLog.{undo_all, undo_log, kept_by_log}
use Rattle.kernel_model.specs.Locks.{is_held}
use Rattle.kernel_model.specs.Levels.{Level, Config, Outcome, is_going_on, code_of, level_at}
use Rattle.kernel_model.specs.Levels.{answer_innermost, drop_innermost, drop_level}
use Rattle.kernel_model.specs.GraftStep.{micro, micro_on, next_needs}
use Rattle.kernel_model.specs.Sound.{IsSoundConfig}
use Rattle.kernel_model.specs.Alike.{AgreeOn, LevelsAlike, ConfigsAlike, is_held_in}
use Rattle.kernel_model.specs.Laws.{answer_objects}
use Rattle.kernel_laws.specs.Soundness.{found_by}
use Rattle.kernel_laws.proofs.LevelLemmas.{AreHeld}
use Rattle.kernel_laws.proofs.ConfigLemmas.{first_of_found, outside_held, levels_held}
use Rattle.kernel_laws.proofs.SoundConfigLemmas.{sound_held, sound_once, drops_held}
use Rattle.graft_laws.specs.Alike.{point_objects, AreHeldBy, AsksAreHeld, AnswerIsHeld}
use Rattle.graft_laws.specs.Alike.{OutcomesAlike, InstructionsAlike, DropsAlike, PointsStayHeld}
use Rattle.graft_laws.proofs.ObjectLemmas.{undo_all_keeps, same_thing}
use Rattle.graft_laws.proofs.PointLemmas.{AreSame, held_same, default_same, valid_same, answer_of_point, or_right}
use Rattle.graft_laws.proofs.HoldLemmas.{outermost_held}
use Rattle.graft_laws.proofs.LevelsAlikeLemmas.{length_alike}
use Rattle.graft_laws.proofs.AlikeLemmas.{AreSameOutcomes, DefaultsAlike, IsAlike, IsAnsweredAlike}
use Rattle.graft_laws.proofs.AlikeLemmas.{drop_same, levels_same}
use Rattle.graft_laws.proofs.GrownLemmas.{AreGrown, grown_self, grown_asks, grown_answer_held}
use Rattle.graft_laws.proofs.TurnParts.{Shape, Goes, Begins, Joins, Ends, Falls}
use Rattle.graft_laws.proofs.TurnLemmas.{levels_turn}

-- ---- what levels found

-- levels that are alike found the same of what their states agree on now
pub kept_alike : (ls ks : List Level) (w u : Things) → LevelsAlike ls ks →
    found_by ls ≡ kept_by_log w (undo_log ls) → found_by ks ≡ kept_by_log u (undo_log ks) →
    (o : Object) → SameThing o w u → (n : ℕ) (l k : Level) → level_at n ls ≡ Some l →
    level_at n ks ≡ Some k → SameThing o l.kept k.kept
kept_alike [] [] w u levels x y o same n l k e d = absurd cc
kept_alike (a ∷ ls) (b ∷ ks) w u levels x y o same n l k e d =
    let before = undo_all a.records w in
    let other = undo_all b.records u in
    let first = first_of_found a.kept before (found_by ls) (kept_by_log before (undo_log ls)) x in
    let second = first_of_found b.kept other (found_by ks) (kept_by_log other (undo_log ks)) y in
    let both = subst (λ is. SameThing o before (undo_all is u))
    (ap (λ (m : Level). m.records) levels.0) (undo_all_keeps a.records o w u same) in
    let kept = subst (λ z. SameThing o a.kept z) (sym second) (subst (λ z. SameThing o z other) (sym first) both) in
    kept_by (length ls == n) (length ks == n) (ap (λ m. m == n) (length_alike ls ks levels.1)) kept
    (kept_alike ls ks before other levels.1
    (rest_same a.kept before (found_by ls) (kept_by_log before (undo_log ls)) x)
    (rest_same b.kept other (found_by ks) (kept_by_log other (undo_log ks)) y) o both n l k) e d
  where
    rest_same : (x y : Things) (xs ys : List Things) → x ∷ xs ≡ y ∷ ys → xs ≡ ys
    rest_same x y xs ys e = ap (λ (ws : List Things). elim ws as (λ _. List Things) [ [] ↦ xs | w ∷ rest ↦ rest ]) e

    is_it : (a b : Level) → Some a ≡ Some b → a ≡ b
    is_it a b e = cc

    kept_by : (c f : Bool) → c ≡ f → SameThing o a.kept b.kept →
        (level_at n ls ≡ Some l → level_at n ks ≡ Some k → SameThing o l.kept k.kept) →
        elim c as (λ _. Option Level) [ true ↦ Some a | false ↦ level_at n ls ] ≡ Some l →
        elim f as (λ _. Option Level) [ true ↦ Some b | false ↦ level_at n ks ] ≡ Some k →
        SameThing o l.kept k.kept
    kept_by true true g kept further e d =
        subst (λ (m : Level). SameThing o m.kept k.kept) (is_it a l e)
        (subst (λ (m : Level). SameThing o a.kept m.kept) (is_it b k d) kept)
    kept_by false false g kept further e d = further e d
    kept_by true false g kept further e d = absurd cc
    kept_by false true g kept further e d = absurd cc
kept_alike [] (b ∷ ks) w u levels x y o same n l k e d = absurd levels
kept_alike (a ∷ ls) [] w u levels x y o same n l k e d = absurd levels

-- ---- innermost levels that are alike

-- Two calls whose levels are held, on things x and y: levels alike, which agree on what is held; x
-- and y agree where the states do.
record AreAlike (w u : Objects) (x y : Things) (ls ks : List Level) : Type 0 where
  first : AreHeld (record { accounts = w.accounts; things = x }) ls
  second : AreHeld (record { accounts = u.accounts; things = y }) ks
  levels : LevelsAlike ls ks
  asks : AsksAreHeld ls
  held : (o : Object) → is_held_in ls o ≡ true → SameAt o w u
  things : (o : Object) → SameThing o w.things u.things → SameThing o x y

-- the innermost levels found the same of what the states agree on
found_alike : (w u : Objects) (x y : Things) (l k : Level) (ls ks : List Level) → AreAlike w u x y (l ∷ ls) (k ∷ ks) →
    (o : Object) → SameThing o w.things u.things → SameThing o l.kept k.kept
found_alike w u x y l k ls ks h o same =
    let before = undo_all l.records x in
    let other = undo_all k.records y in
    subst (λ z. SameThing o l.kept z) (sym
    (first_of_found k.kept other (found_by ks) (kept_by_log other (undo_log ks)) h.second.kept))
    (subst (λ z. SameThing o z other) (sym (first_of_found l.kept before (found_by ls)
    (kept_by_log before (undo_log ls)) h.first.kept))
    (subst (λ is. SameThing o before (undo_all is y)) (ap (λ (m : Level). m.records) h.levels.0)
    (undo_all_keeps l.records o x y (h.things o same))))

-- the objects of a point that was asked agree
pub asked_alike : (w u : Objects) (l m : Level) (ls : List Level) (q pt : ℕ) →
    ((o : Object) → is_held_in (l ∷ m ∷ ls) o ≡ true → SameAt o w u) →
    AreHeldBy (m ∷ ls) (point_objects (kind_of pt) q pt) → AreSame (point_objects (kind_of pt) q pt) w.things u.things
asked_alike w u l m ls q pt held asks =
    held_same (m ∷ ls) (point_objects (kind_of pt) q pt) w.things u.things
    (λ o e. same_thing o w u (held o (or_right (is_held (l.touched o)) (is_held_in (m ∷ ls) o) e))) asks

-- objects that agree now agreed when a level began
each_found : (os : List Object) (w u x y : Things) →
    ((o : Object) → SameThing o w u → SameThing o x y) → AreSame os w u → AreSame os x y
each_found [] w u x y h same = tt
each_found (o ∷ os) w u x y h same = (h o same.0, each_found os w u x y h same.1)

innermost_alike : (v : World) (w u : Objects) (x y : Things) (l k : Level) (ls ks : List Level) →
    AreAlike w u x y (l ∷ ls) (k ∷ ks) → IsAlike v w u l k.kept ls ks
innermost_alike v w u x y l k ls ks h =
    let found = found_alike w u x y l k ls ks h in
    record {
      levels = h.levels.1;
      graft = (h.held (Graft l.owner l.point) (outermost_held (l ∷ ls) (Graft l.owner l.point) h.first.each.0.graft)).0;
      segment =
          (h.held (Graft l.owner l.point)
          (outermost_held (l ∷ ls) (Graft l.owner l.point) h.first.each.0.graft)).1;
      acct = h.held (Acct l.owner) (outermost_held (l ∷ ls) (Acct l.owner) h.first.each.0.acct);
      kept = found;
      default = default_by ls h.held h.asks found;
    }
  where
    default_by : (ls : List Level) → ((o : Object) → is_held_in (l ∷ ls) o ≡ true → SameAt o w u) →
        AsksAreHeld (l ∷ ls) →
        ((o : Object) → SameThing o w.things u.things → SameThing o l.kept k.kept) →
        DefaultsAlike v l.kept k.kept l.owner l.point ls
    default_by [] held asks found = tt
    default_by (m ∷ ls) held asks found =
        let objects = point_objects (kind_of l.point) l.owner l.point in
        default_same (kind_of l.point) v l.owner l.point l.kept k.kept
        (each_found objects w.things u.things l.kept k.kept found (asked_alike w u l m ls l.owner l.point held asks.0))

-- an answer that is offered is valid on both sides or on none
answer_alike : (w u : Objects) (l : Level) (ls : List Level) →
    ((o : Object) → is_held_in (l ∷ ls) o ≡ true → SameAt o w u) → AsksAreHeld (l ∷ ls) →
    AnswerIsHeld (l ∷ ls) →
    AreSame (answer_objects (kind_of l.point)) w.things u.things
answer_alike w u l [] held asks answer =
    held_same (l ∷ []) (answer_objects (kind_of l.point)) w.things u.things
    (λ o e. same_thing o w u (held o e)) answer
answer_alike w u l (m ∷ ls) held asks answer =
    answer_of_point (kind_of l.point) l.owner l.point w.things u.things
    (asked_alike w u l m ls l.owner l.point held asks.0)

pub valid_alike : (d : Done) (w u : Objects) (l : Level) →
    AreSame (answer_objects (kind_of l.point)) w.things u.things → IsAnsweredAlike d w u l
valid_alike Returned w u l same =
    valid_same (kind_of l.point) l.owner l.args (l.machine.regs 0) (l.machine.regs 1)
    w.things u.things same
valid_alike (Done.Went m) w u l same = tt
valid_alike (Called id m) w u l same = tt
valid_alike Done.DividedByZero w u l same = tt
valid_alike (Trapped code) w u l same = tt
valid_alike Outside w u l same = tt
valid_alike PastEnd w u l same = tt

-- ---- whole configs

-- outcomes that are the same are alike, where all that is held then was the same before, and levels
-- are held on both sides
outcomes_alike : (c d : Config) (o r : Outcome) → AreSameOutcomes c.now d.now o r →
    AreHeld o.config.now o.config.levels → AreHeld r.config.now r.config.levels →
    ((a : Object) → is_held_in o.config.levels a ≡ true → SameAt a c.now d.now) → OutcomesAlike c d o r
outcomes_alike c d o r same first second held =
    record {
      said = same.said;
      effects = same.effects;
      config = record {
        levels = same.levels;
        now = λ a e. same.keeps a (held a e);
        kept =
            λ n l k a x y e. kept_alike o.config.levels r.config.levels o.config.now.things
            r.config.now.things same.levels first.kept second.kept a
            (same_thing a o.config.now r.config.now (same.keeps a (held a e))) n l k x y;
      };
      keeps = same.keeps;
    }

-- two sound configs that are alike
both_alike : (v : World) (w u : Objects) (ls ks : List Level) →
    IsSoundConfig v (record { now = w; levels = ls }) →
    IsSoundConfig v (record { now = u; levels = ks }) →
    ConfigsAlike (record { now = w; levels = ls }) (record { now = u; levels = ks }) →
    AsksAreHeld ls → AreAlike w u w.things u.things ls ks
both_alike v w u ls ks first second alike asks =
    record {
      first = sound_held v (record { now = w; levels = ls }) first;
      second = sound_held v (record { now = u; levels = ks }) second;
      levels = alike.levels;
      asks = asks;
      held = alike.now;
      things = λ o same. same;
    }

-- ---- instructions

-- whatever the innermost level offers
pub instruction_alike : (v : World) (images : ImageTable) (p : ℕ) (w u : Objects) (l : Level) (ls ks : List Level) →
    IsSoundConfig v (record { now = w; levels = l ∷ ls }) → IsSoundConfig v (record { now = u; levels = ks }) →
    ConfigsAlike (record { now = w; levels = l ∷ ls }) (record { now = u; levels = ks }) → AsksAreHeld (l ∷ ls) →
    IsAnsweredAlike (seg_step (code_of images w.accounts l.owner l.point) l.machine) w u l →
    AgreeOn (next_needs v images w.accounts (l ∷ ls)) w u →
    OutcomesAlike (record { now = w; levels = l ∷ ls }) (record { now = u; levels = ks })
    (micro_on v images p w (l ∷ ls)) (micro_on v images p u ks)
instruction_alike v images p w u l ls [] first second alike asks answer agree = absurd alike.levels
instruction_alike v images p w u l ls (k ∷ ks) first second alike asks answer agree =
    let c : Config = record { now = w; levels = l ∷ ls } in
    let d : Config = record { now = u; levels = k ∷ ks } in
    let both = both_alike v w u (l ∷ ls) (k ∷ ks) first second alike asks in
    let same = subst (λ (m : Level). AreSameOutcomes w u (micro_on v images p w (l ∷ ls))
    (micro_on v images p u (m ∷ ks))) alike.levels.0
    (levels_same v images p w u l k.kept ls ks (innermost_alike v w u w.things u.things l k ls ks both) agree answer) in
    outcomes_alike c d (micro v images p c) (micro v images p d) same
    (levels_held v images p w (l ∷ ls) both.first (sound_once v w first.now))
    (levels_held v images p u (k ∷ ks) both.second (sound_once v u second.now))
    (λ a e. elim ((levels_turn v images p w l ls).held a e) [
      | inl before ↦ alike.now a before
      | inr needs ↦ agree a needs
    ])

pub instructions_alike : InstructionsAlike
instructions_alike v images p c d first second alike asks answer agree =
    by_levels c.now d.now c.levels d.levels first second alike asks answer agree
  where
    none_some : 1 ≤ 0 → ⊥
    none_some h = omega arith

    by_levels : (w u : Objects) (ls ks : List Level) →
        IsSoundConfig v (record { now = w; levels = ls }) →
        IsSoundConfig v (record { now = u; levels = ks }) →
        ConfigsAlike (record { now = w; levels = ls }) (record { now = u; levels = ks }) →
        AsksAreHeld ls → AnswerIsHeld ls → AgreeOn (next_needs v images w.accounts ls) w u →
        OutcomesAlike (record { now = w; levels = ls }) (record { now = u; levels = ks })
        (micro_on v images p w ls) (micro_on v images p u ks)
    by_levels w u [] ks first second alike asks answer agree = absurd (none_some first.some)
    by_levels w u (l ∷ ls) ks first second alike asks answer agree =
        instruction_alike v images p w u l ls ks first second alike asks
        (valid_alike (seg_step (code_of images w.accounts l.owner l.point) l.machine) w u l
        (answer_alike w u l ls alike.now asks answer)) agree

-- ---- drops

drops_same : (v : World) (w u : Objects) (x y : Things) (ls ks : List Level) (n : ℕ)
    (cause : Cause) → AreAlike w u x y ls ks →
    AreSameOutcomes w u (drop_level v w ls n cause) (drop_level v u ks n cause)
drops_same v w u x y [] [] n cause h = record { said = refl; effects = refl; levels = tt; keeps = λ o e. e }
drops_same v w u x y (l ∷ ls) (k ∷ ks) n cause h =
    dropped_by (length ls == n) (length ks == n) (ap (λ m. m == n) (length_alike ls ks h.levels.1))
    (drops_same v w u l.kept k.kept ls ks n cause (record {
      first = outside_held (record { accounts = w.accounts; things = x }) l ls h.first;
      second = outside_held (record { accounts = u.accounts; things = y }) k ks h.second;
      levels = h.levels.1;
      asks = outer_asks l ls h.asks;
      held = λ o e. h.held o (or_right (is_held (l.touched o)) (is_held_in ls o) e);
      things = found_alike w u x y l k ls ks h;
    }))
  where
    outer_asks : (l : Level) (ls : List Level) → AsksAreHeld (l ∷ ls) → AsksAreHeld ls
    outer_asks l [] asks = tt
    outer_asks l (m ∷ ls) asks = asks.1

    dropped_by : (b c : Bool) → b ≡ c → AreSameOutcomes w u (drop_level v w ls n cause) (drop_level v u ks n cause) →
        AreSameOutcomes w u (elim b as (λ _. Outcome) [
          | true ↦ drop_innermost v w l ls cause
          | false ↦ drop_level v w ls n cause
        ])
        (elim c as (λ _. Outcome) [ true ↦ drop_innermost v u k ks cause | false ↦ drop_level v u ks n cause ])
    dropped_by true true e further =
        subst (λ (m : Level). AreSameOutcomes w u (drop_innermost v w l ls cause)
        (drop_innermost v u m ks cause)) h.levels.0
        (drop_same v w u l k.kept ls ks cause (innermost_alike v w u x y l k ls ks h))
    dropped_by false false e further = further
    dropped_by true false e further = absurd cc
    dropped_by false true e further = absurd cc
drops_same v w u x y [] (k ∷ ks) n cause h = absurd h.levels
drops_same v w u x y (l ∷ ls) [] n cause h = absurd h.levels

-- what is held after a drop was held before
drop_from : (v : World) (w : Objects) (ls : List Level) (n : ℕ) (cause : Cause) (o : Object) →
    is_held_in (drop_level v w ls n cause).config.levels o ≡ true → is_held_in ls o ≡ true
drop_from v w [] n cause o h = h
drop_from v w (l ∷ ls) n cause o h =
    or_right (is_held (l.touched o)) (is_held_in ls o)
    (from_by (length ls == n) h (drop_from v w ls n cause o))
  where
    answered_held : (pt r0 r1 : ℕ) (ls : List Level) →
        is_held_in (answer_innermost pt r0 r1 ls) o ≡ true → is_held_in ls o ≡ true
    answered_held pt r0 r1 [] h = h
    answered_held pt r0 r1 (k ∷ ls) h = h

    from_by : (b : Bool) → is_held_in (elim b as (λ _. Outcome) [
      | true ↦ drop_innermost v w l ls cause
      | false ↦ drop_level v w ls n cause
    ]).config.levels o ≡ true →
        (is_held_in (drop_level v w ls n cause).config.levels o ≡ true → is_held_in ls o ≡ true) →
        is_held_in ls o ≡ true
    from_by true h further = let d = default_of v l.kept l.owner l.point in answered_held l.point d.0 d.1 ls h
    from_by false h further = further h

pub drops_alike : DropsAlike
drops_alike v c d n cause first second alike asks =
    let both = both_alike v c.now d.now c.levels d.levels first second alike asks in
    outcomes_alike c d (drop_level v c.now c.levels n cause) (drop_level v d.now d.levels n cause)
    (drops_same v c.now d.now c.now.things d.now.things c.levels d.levels n cause both)
    (drops_held v c.now c.now.things c.levels n cause both.first)
    (drops_held v d.now d.now.things d.levels n cause both.second)
    (λ o e. alike.now o (drop_from v c.now c.levels n cause o e))

-- ---- what levels hold of their points

-- a level inside others
pub asks_of_rest : (l : Level) (ls : List Level) → AsksAreHeld (l ∷ ls) → AsksAreHeld ls
asks_of_rest l [] asks = tt
asks_of_rest l (m ∷ ls) asks = asks.1

pub answer_of_rest : (l : Level) (ls : List Level) → AnswerIsHeld (l ∷ ls) → AnswerIsHeld ls
answer_of_rest l [] held = tt
answer_of_rest l (m ∷ ls) held = held

asks_inside : (n : Level) (ks : List Level) →
    AreHeldBy ks (point_objects (kind_of n.point) n.owner n.point) → AsksAreHeld ks →
    AsksAreHeld (n ∷ ks)
asks_inside n [] held asks = tt
asks_inside n (k ∷ ks) held asks = (held, asks)

answer_inside : (n : Level) (l : Level) (ks ls : List Level) → AreGrown ks (l ∷ ls) →
    AnswerIsHeld ks → AnswerIsHeld (n ∷ ks)
answer_inside n l [] ls grown held = absurd grown
answer_inside n l (k ∷ ks) ls grown held = held

pub shape_asks : (l : Level) (ls : List Level) (w : Things) (went : Bool) (after : List Level) →
    Shape l l.touched ls w went after → AsksAreHeld (l ∷ ls) → AsksAreHeld after
shape_asks l ls w went after (Goes g h) asks = grown_asks after (l ∷ ls) h asks
shape_asks l ls w went after (Begins n ks g e h new held) asks =
    subst AsksAreHeld (sym e) (asks_inside n ks held (grown_asks ks (l ∷ ls) h asks))
shape_asks l ls w went after (Joins a b rest g e f h more) asks =
    subst AsksAreHeld (sym f) (grown_asks (b ∷ rest) (a ∷ rest) (h, grown_self rest)
    (subst AsksAreHeld e (asks_of_rest l ls asks)))
shape_asks l ls w went after (Ends g e) asks = subst AsksAreHeld (sym e) tt
shape_asks l ls w went after (Falls g h) asks = grown_asks after ls h (asks_of_rest l ls asks)

pub shape_answer : (l : Level) (ls : List Level) (w : Things) (went : Bool) (after : List Level) →
    Shape l l.touched ls w went after → AnswerIsHeld (l ∷ ls) → AnswerIsHeld after
shape_answer l ls w went after (Goes g h) held = grown_answer_held after (l ∷ ls) h held
shape_answer l ls w went after (Begins n ks g e h new _) held =
    subst AnswerIsHeld (sym e) (answer_inside n l ks ls h (grown_answer_held ks (l ∷ ls) h held))
shape_answer l ls w went after (Joins a b rest g e f h more) held =
    subst AnswerIsHeld (sym f) (grown_answer_held (b ∷ rest) (a ∷ rest) (h, grown_self rest)
    (subst AnswerIsHeld e (answer_of_rest l ls held)))
shape_answer l ls w went after (Ends g e) held = subst AnswerIsHeld (sym e) tt
shape_answer l ls w went after (Falls g h) held = grown_answer_held after ls h (answer_of_rest l ls held)

pub points_stay_held : PointsStayHeld
points_stay_held v images p c = record { asks = asks_by c.now c.levels; answer = answer_by c.now c.levels }
  where
    asks_by : (w : Objects) (ls : List Level) → AsksAreHeld ls → AsksAreHeld (micro_on v images p w ls).config.levels
    asks_by w [] asks = asks
    asks_by w (l ∷ ls) asks =
        let o = micro_on v images p w (l ∷ ls) in
        shape_asks l ls o.config.now.things (is_going_on o.said) o.config.levels
        (levels_turn v images p w l ls).shape asks

    answer_by : (w : Objects) (ls : List Level) → AnswerIsHeld ls →
        AnswerIsHeld (micro_on v images p w ls).config.levels
    answer_by w [] held = held
    answer_by w (l ∷ ls) held =
        let o = micro_on v images p w (l ∷ ls) in
        shape_answer l ls o.config.now.things (is_going_on o.said) o.config.levels
        (levels_turn v images p w l ls).shape held
