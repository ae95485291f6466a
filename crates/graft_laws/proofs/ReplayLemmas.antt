-- Wherever a history leads, the graft call is sound, and is as in the state but for what its levels hold exclusively.
use Rattle.std.specs.Prelude.{◌≡◌, ◌≢◌, ℕ, suc, ◌<◌, ◌≤◌, true, false, List, []}
use Rattle.std.specs.Prelude.{◌∷◌, length, Contains, Option, Some, None, is_some}
use Rattle.std.specs.List.{AllByRecursion}
use Rattle.std.proofs.Common.{arith, refl, subst, sym, ap, ◌∙◌, inl, inr}
use Rattle.kernel_model.specs.declared.Object.{Object}
use Rattle.kernel_model.specs.declared.Object.TheVariants.{Graft, Acct, Cell, OpenFile, Queue, Cache, Lock, Pol}
use Rattle.kernel_model.specs.World.{World, ImageTable}
use Rattle.kernel_model.specs.Objects.{Objects, Accounts, Things, GraftValue, SameAt}
use Rattle.kernel_model.specs.UndoLog.{undo_log, kept_by_log}
use Rattle.kernel_model.specs.Locks.{Touched, is_held, is_held_exclusively}
use Rattle.kernel_model.specs.Levels.{Level, Config, is_going_on, outermost_touched, answer_innermost}
use Rattle.kernel_model.specs.GraftStep.{micro_on, next_needs}
use Rattle.kernel_model.specs.InPlace.{is_changed_in}
use Rattle.kernel_model.specs.Sound.{IsSoundStore, IsSoundConfig}
use Rattle.kernel_model.specs.Alike.{is_held_in}
use Rattle.kernel_laws.proofs.LevelLemmas.{IsHeld, AreHeld, each_from, each_contains, keep_answer, keep_then, held_on}
use Rattle.kernel_laws.proofs.ConfigLemmas.{outside_held}
use Rattle.kernel_laws.proofs.SoundConfigLemmas.{sound_held, configs_stay_sound, AreDifferent}
use Rattle.kernel_laws.proofs.FrameLemmas.{changes_what_is_held, same_then}
use Rattle.graft_laws.specs.Histories.{HasRange, IsReplayed, InstructionsReplay}
use Rattle.graft_laws.proofs.ObjectLemmas.{same_thing}
use Rattle.graft_laws.proofs.PointLemmas.{or_right}
use Rattle.graft_laws.proofs.RangeLemmas.{reached_range, needs_range}
use Rattle.graft_laws.proofs.GrownLemmas.{AreGrown, grown_answer, grown_then, grown_asks}
use Rattle.graft_laws.proofs.GrownLemmas.{grown_outermost, grown_unchanged}
use Rattle.graft_laws.proofs.TurnParts.{IsNew, not_going}
use Rattle.graft_laws.proofs.TurnLemmas.{levels_turn}
use Rattle.graft_laws.proofs.ShapeLemmas.{shape_unchanged, shape_outer, shape_some, found_grown}
use Rattle.graft_laws.proofs.ShapeLemmas.{shape_found, new_unchanged, grown_at}
use Rattle.graft_laws.proofs.ShapeLemmas.{found_at_level, level_found}
use Rattle.graft_laws.proofs.StandLemmas.{AllStand}
use Rattle.graft_laws.proofs.EffectLemmas.{IsGraft, Affected}
use Rattle.graft_laws.proofs.ConfigAlikeLemmas.{shape_asks}
use Rattle.call_laws.specs.Exits.{needed_from_exclusively}
use Rattle.kernel_laws.proofs.SoundConfigLemmas.{at_more}

-- ---- one instruction

-- the owner of the innermost level lives
owner_low : (v : World) (w : Objects) (l : Level) (ls : List Level) →
    IsSoundConfig v (record { now = w; levels = l ∷ ls }) → l.owner < 16
owner_low v w l ls h = low_by (w.accounts.graft l.owner l.point) refl (h.grafts l (0, below_suc (length ls), refl))
  where
    below_suc : (n : ℕ) → 0 < suc n
    below_suc n = omega arith

    low_by : (g : Option GraftValue) → w.accounts.graft l.owner l.point ≡ g → is_some g ≡ true → l.owner < 16
    low_by None e some = not_going some
    low_by (Some g) e some = h.now.numbers l.owner (h.now.grafts l.owner l.point g e).1

-- after an instruction that goes on
instruction_replays : (v : World) (images : ImageTable) (p : ℕ) (s w : Objects) (l : Level)
    (ls : List Level) → IsReplayed v s (record { now = w; levels = l ∷ ls }) →
    is_going_on (micro_on v images p w (l ∷ ls)).said ≡ true → IsReplayed v s (micro_on v images p w (l ∷ ls)).config
instruction_replays v images p s w l ls h went =
    let c : Config = record { now = w; levels = l ∷ ls } in
    let o = micro_on v images p w (l ∷ ls) in
    let d = o.config in
    let turn = levels_turn v images p w l ls in
    let on = is_going_on o.said in
    let low = owner_low v w l ls h.sound in
    let now : (a : Object) → is_changed_in d.levels a ≡ false → SameAt a d.now s =
    λ a none.
    let before = shape_unchanged l ls d.now.things on d.levels a turn.shape went none in
    same_then a d.now w s (changes_what_is_held v images p c a h.sound before none) (h.now a before) in
    record {
      sound = configs_stay_sound v images p c h.sound (shape_some l ls d.now.things on d.levels turn.shape went);
      asks = shape_asks l ls d.now.things on d.levels turn.shape h.asks;
      grafts = λ q pt held. elim (turn.held (Graft q pt) held) [
        | inl before ↦ shape_outer l ls d.now.things on d.levels (Graft q pt) turn.shape went (h.grafts q pt before)
        | inr needs ↦ turn.outer went q pt needs
      ];
      accounts = λ q changed. elim (turn.changed (Acct q) changed) [
        | inl before ↦ shape_outer l ls d.now.things on d.levels (Acct q) turn.shape went (h.accounts q before)
        | inr needs ↦
            absurd (needs_range v images w.accounts l ls (Acct q) h.sound.now.world.callable low
            (needed_from_exclusively (Acct q) (next_needs v images w.accounts (l ∷ ls)) needs))
      ];
      ranges = λ a held. elim (turn.held a held) [
        | inl before ↦ h.ranges a before
        | inr needs ↦ reached_range a (needs_range v images w.accounts l ls a h.sound.now.world.callable low needs)
      ];
      now = now;
      kept = λ n k a e none. found_at_level s.things d.levels n k a
          (shape_found s.things l ls d.now.things on d.levels turn.shape went (λ b f. same_thing b
          d.now s (now b f)) (level_found s.things (l ∷ ls) h.kept)) e none;
    }

pub instructions_replay : InstructionsReplay
instructions_replay v images p s c h went = by_levels c.now c.levels h went
  where
    none_some : 1 ≤ 0 → ⊥
    none_some h = omega arith

    by_levels : (w : Objects) (ls : List Level) → IsReplayed v s (record { now = w; levels = ls }) →
        is_going_on (micro_on v images p w ls).said ≡ true →
        IsReplayed v s (micro_on v images p w ls).config
    by_levels w [] h went = absurd (none_some h.sound.some)
    by_levels w (l ∷ ls) h went = instruction_replays v images p s w l ls h went

-- ---- sound configs from their parts

grown_different : (ns ls : List Level) → AreGrown ns ls → AreDifferent ls → AreDifferent ns
grown_different ns ls h different d e x y hd he owner point =
    let a = grown_at d ns ls x h hd in
    let b = grown_at e ns ls y h he in
    different d e a.0 b.0 a.1 b.1 (sym a.2.owner ∙ owner ∙ b.2.owner) (sym a.2.point ∙ point ∙ b.2.point)

pub sound_from : (v : World) (w : Objects) (ls : List Level) → IsSoundStore v w → ls ≢ [] →
    AreHeld w ls → AreDifferent ls →
    AllByRecursion (λ (l : Level). IsSoundStore v (record { accounts = w.accounts; things = l.kept })) ls →
    IsSoundConfig v (record { now = w; levels = ls })
sound_from v w ls store some held different found =
    let each = λ (l : Level) (k : Contains ls l).
    each_contains (IsHeld (outermost_touched ls) w.accounts) ls l held.each k in
    record {
      now = store;
      some = some_levels ls some;
      most = held.most;
      grafts = λ l k. (each l k).stands;
      different = different;
      paid = λ l k. ((each l k).graft, (each l k).acct);
      recorded = held.recorded;
      few = held.few;
      found =
          λ l k. each_contains (λ (x : Level). IsSoundStore v
          (record { accounts = w.accounts; things = x.kept })) ls l found k;
      kept = held.kept;
    }
  where
    some_levels : (ls : List Level) → ls ≢ [] → 1 ≤ length ls
    some_levels [] h = absurd (h refl)
    some_levels (l ∷ ls) h = one_more (length ls)
      where
        one_more : (n : ℕ) → 1 ≤ suc n
        one_more n = omega arith

-- the same with other accounts, in which the grafts stand
each_standing : (t : Touched) (a b : Accounts) (ls : List Level) → AllByRecursion (IsHeld t a) ls →
    AllStand b ls → AllByRecursion (IsHeld t b) ls
each_standing t a b [] each stand = tt
each_standing t a b (l ∷ ls) each stand =
    (record { stands = stand.0; graft = each.0.graft; acct = each.0.acct }, each_standing t a b ls each.1 stand.1)

-- what levels that go on found
each_sound : (P : Things → Type 0) (ns ls : List Level) → AreGrown ns ls →
    AllByRecursion (λ (l : Level). P l.kept) ls → AllByRecursion (λ (l : Level). P l.kept) ns
each_sound P [] [] h each = tt
each_sound P (n ∷ ns) (l ∷ ls) h each = (subst P (sym h.0.kept) each.0, each_sound P ns ls h.1 each.1)
each_sound P [] (l ∷ ls) h each = absurd h
each_sound P (n ∷ ns) [] h each = absurd h

each_more : (P Q : Things → Type 0) (ls : List Level) → ((w : Things) → P w → Q w) →
    AllByRecursion (λ (l : Level). P l.kept) ls → AllByRecursion (λ (l : Level). Q l.kept) ls
each_more P Q [] h each = tt
each_more P Q (l ∷ ls) h each = (h l.kept each.0, each_more P Q ls h each.1)

-- ---- a fallen level

-- The config after the effects of a level that had just begun (n), which then ends; r0 and r1 are
-- the default that its asker gets.
pub fallen_replays : (v : World) (s w x : Objects) (n k : Level) (ks js : List Level)
    (pt r0 r1 : ℕ) → IsReplayed v s (record { now = w; levels = n ∷ k ∷ ks }) → IsNew n w.things →
    Affected v w x (k ∷ ks) js → AllStand x.accounts (answer_innermost pt r0 r1 js) →
    IsReplayed v s (record { now = x; levels = answer_innermost pt r0 r1 js })
fallen_replays v s w x n k ks js pt r0 r1 h new affected stand =
    let rs = answer_innermost pt r0 r1 js in
    let answered = grown_answer pt r0 r1 js in
    let grown = grown_then rs js (k ∷ ks) answered affected.grown in
    let inner = sound_held v (record { now = w; levels = n ∷ k ∷ ks }) h.sound in
    let outer : AreHeld w (k ∷ ks) =
    subst (λ y. AreHeld (record { accounts = w.accounts; things = y }) (k ∷ ks)) new.kept
    (outside_held w n (k ∷ ks) inner) in
    let held = held_on w rs (k ∷ ks) (keep_then rs js (k ∷ ks) (keep_answer pt r0 r1 js) affected.keep) outer in
    let now : (a : Object) → is_changed_in rs a ≡ false → SameAt a x s =
    λ a none.
    let outside = grown_unchanged rs js a answered none in
    let before = new_unchanged n (k ∷ ks) w.things a (ap (λ t. t a) new.touched)
    (grown_unchanged js (k ∷ ks) a affected.grown outside) in
    same_then a x w s (affected.frame a outside) (h.now a before) in
    record {
      sound =
          sound_from v x rs
          (subst (λ y. IsSoundStore v (record { accounts = x.accounts; things = y }))
          (sym affected.things) (affected.sounds w.things h.sound.now)) (some_grown rs k ks grown)
          (record {
            each = each_standing (outermost_touched rs) w.accounts x.accounts rs held.each stand;
            apart = held.apart;
            recorded = held.recorded;
            few = held.few;
            most = held.most;
            kept = held.kept ∙ ap (λ y. kept_by_log y (undo_log rs)) (sym affected.things);
          })
          (grown_different rs (k ∷ ks) grown (λ d e a b hd he owner point. h.sound.different d e a b
          (at_more d n a (k ∷ ks) hd) (at_more e n b (k ∷ ks) he) owner point))
          (each_more (λ y. IsSoundStore v (record { accounts = w.accounts; things = y })) (λ y.
          IsSoundStore v (record { accounts = x.accounts; things = y })) rs affected.sounds
          (each_sound (λ y. IsSoundStore v (record { accounts = w.accounts; things = y })) rs (k ∷ ks) grown
          (each_from
          (λ (l : Level). IsSoundStore v (record { accounts = w.accounts; things = l.kept }))
          (n ∷ k ∷ ks) (λ l c. h.sound.found l c)).1));
      asks = grown_asks rs (k ∷ ks) grown h.asks.1;
      grafts =
          λ q pu e. grown_outermost rs js (Graft q pu) answered
          (affected.grafts q pu (answered_held pt r0 r1 js (Graft q pu) e));
      accounts = λ q e. elim (affected.changed (Acct q) (answered_changed pt r0 r1 js (Acct q) e)) [
        | inl before ↦ grown_outermost rs (k ∷ ks) (Acct q) grown (h.accounts q (or_right
            (is_held_exclusively (n.touched (Acct q))) (is_changed_in (k ∷ ks) (Acct q)) before))
        | inr graft ↦ absurd graft
      ];
      ranges = λ a e. elim (affected.held a (answered_held pt r0 r1 js a e)) [
        | inl before ↦ h.ranges a (or_right (is_held (n.touched a)) (is_held_in (k ∷ ks) a) before)
        | inr graft ↦ graft_range a graft
      ];
      now = now;
      kept =
          λ d l a e none. found_at_level s.things rs d l a (found_grown s.things rs (k ∷ ks) grown
          (level_found s.things (n ∷ k ∷ ks) h.kept).1) e none;
    }
  where
    some_grown : (rs : List Level) (k : Level) (ks : List Level) → AreGrown rs (k ∷ ks) → rs ≢ []
    some_grown rs k ks grown none = subst (λ xs. AreGrown xs (k ∷ ks)) none grown

    answered_held : (pt r0 r1 : ℕ) (ls : List Level) (o : Object) →
        is_held_in (answer_innermost pt r0 r1 ls) o ≡ true → is_held_in ls o ≡ true
    answered_held pt r0 r1 [] o h = h
    answered_held pt r0 r1 (k ∷ ls) o h = h

    answered_changed : (pt r0 r1 : ℕ) (ls : List Level) (o : Object) →
        is_changed_in (answer_innermost pt r0 r1 ls) o ≡ true → is_changed_in ls o ≡ true
    answered_changed pt r0 r1 [] o h = h
    answered_changed pt r0 r1 (k ∷ ls) o h = h

    graft_range : (o : Object) → IsGraft o → HasRange o
    graft_range (Graft q pt) h = tt
    graft_range (Acct q) h = absurd h
    graft_range (Cell q k) h = absurd h
    graft_range (OpenFile q fd) h = absurd h
    graft_range Queue h = absurd h
    graft_range Cache h = absurd h
    graft_range (Lock u) h = absurd h
    graft_range (Pol k) h = absurd h
