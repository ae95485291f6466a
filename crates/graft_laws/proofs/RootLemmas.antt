-- Each level of a trace has a beginning in its history.
use Rattle.std.specs.Prelude.{◌≡◌, ℕ, suc, ◌+◌, ◌<◌, ◌≤◌, ◌==◌, true, false, cond, List, [], ◌∷◌}
use Rattle.std.specs.Prelude.{◌++◌, length, take, reverse, Contains, Option, Some, None}
use Rattle.std.proofs.Common.{arith, refl, subst, sym, ap, ◌∙◌}
use Rattle.std.proofs.lemmas.Bool.Decides.{nat_tests}
use Rattle.std.proofs.lemmas.List.{append_assoc, append-nil, length-append}
use Rattle.std.proofs.Math.Seq.{take-append_seam}
use Rattle.kernel_model.specs.declared.Held.{Held}
use Rattle.kernel_model.specs.declared.Object.{Object}
use Rattle.kernel_model.specs.declared.Object.TheVariants.{Graft}
use Rattle.kernel_model.specs.World.{World, ImageTable}
use Rattle.kernel_model.specs.Objects.{Objects, Accounts}
use Rattle.kernel_model.specs.Policies.{kind_of, default_of}
use Rattle.kernel_model.specs.Levels.{Level, Config, Effect, Outcome, is_going_on, with_machine}
use Rattle.kernel_model.specs.Levels.{answered, touch_outermost, outermost_touched}
use Rattle.kernel_model.specs.Levels.{answer_innermost}
use Rattle.kernel_model.specs.GraftStep.{micro, micro_on}
use Rattle.kernel_model.specs.History.{Mark, Stepped, Fell, Past, Trace, with_effects}
use Rattle.kernel_model.specs.History.{joined_pasts, pasts_after, trace_after, trace_fallen}
use Rattle.kernel_model.specs.History.{level_ends, outer_pasts, effects_on, owner_among, mark_on}
use Rattle.kernel_model.specs.History.{marks_on}
use Rattle.graft_laws.specs.Histories.{IsReplayed}
use Rattle.graft_laws.proofs.TurnParts.{not_going}
use Rattle.graft_laws.proofs.StandLemmas.{AllStand}
use Rattle.graft_laws.proofs.MarkLemmas.{stepped_split, fell_split, marks_split}
use Rattle.graft_laws.proofs.HistoryReplayLemmas.{mark_replays, marks_stood}
use Rattle.graft_laws.proofs.OuterLemmas.{IsSameGraft, touched_by, Outer, Stays, Starts, Answers}
use Rattle.graft_laws.proofs.OuterLemmas.{Lost, Over, Replays, levels_replay}
use Rattle.graft_laws.proofs.PastLemmas.{touch_points, Leads, effects_lead_to, HasRoot, AreRooted}
use Rattle.graft_laws.proofs.PastLemmas.{rooted_over, rooted_further, touched_splits, AreOf}
use Rattle.graft_laws.proofs.PastLemmas.{rooted_on}

-- ---- effects of an outcome

-- the points that were asked
abbrev points_of : Option ℕ → List ℕ
points_of None = []
points_of (Some pt) = pt ∷ []

touched_points : (q : ℕ) (asked : Option ℕ) (ls : List Level) →
    touched_by q asked ls ≡ touch_points q (points_of asked) ls
touched_points q None ls = refl
touched_points q (Some pt) ls = refl

touched_length : (q : ℕ) (pts : List ℕ) (ls : List Level) → length (touch_points q pts ls) ≡ length ls
touched_length q [] ls = refl
touched_length q (pt ∷ pts) ls = touched_length q pts (touch_outermost (Graft q pt) ls) ∙ one_length (Graft q pt) ls
  where
    one_length : (o : Object) (ls : List Level) → length (touch_outermost o ls) ≡ length ls
    one_length o [] = refl
    one_length o (l ∷ []) = refl
    one_length o (l ∷ k ∷ ls) = ap suc (one_length o (k ∷ ls))

-- an outcome's effects lead on
outcome_leads : (v : World) (w : Objects) (l : Level) (ls : List Level) (o : Outcome) →
    outermost_touched (l ∷ ls) (Graft l.owner l.point) ≡ Held.Exclusive →
    (h : Replays v w l ls o) → Leads l.owner o.effects w.accounts o.config.now.accounts
    (outermost_touched (l ∷ ls)) (points_of h.asked)
outcome_leads v w l ls o paid h =
    record {
      on = λ x n k ks e.
          h.effects x n k ks (ap (λ t. t (Graft l.owner l.point)) e ∙ paid)
          ∙ ap (λ xs. Some (record {
            now = record { accounts = o.config.now.accounts; things = x };
            levels = n ∷ xs;
          })) (touched_points l.owner h.asked (k ∷ ks));
    }

-- ---- pasts

pasts_same : (n before after : ℕ) (ps : List Past) → after ≡ before → pasts_after n before after ps ≡ ps
pasts_same n before after ps e =
    ap (λ b. cond b (record { began = n; effects = [] } ∷ ps)
    (cond (before == suc after) (joined_pasts ps) ps)) (not_more before after e)
    ∙ ap (λ b. cond b (joined_pasts ps) ps) (not_less before after e)
  where
    not_more : (i j : ℕ) → j ≡ i → (j == suc i) ≡ false
    not_more i j e = grind (arith, nat_tests)

    not_less : (i j : ℕ) → j ≡ i → (i == suc j) ≡ false
    not_less i j e = grind (arith, nat_tests)

pasts_more : (n before after : ℕ) (ps : List Past) → after ≡ suc before →
    pasts_after n before after ps ≡ record { began = n; effects = [] } ∷ ps
pasts_more n before after ps e =
    ap (λ b. cond b (record { began = n; effects = [] } ∷ ps)
    (cond (before == suc after) (joined_pasts ps) ps)) (one_more before after e)
  where
    one_more : (i j : ℕ) → j ≡ suc i → (j == suc i) ≡ true
    one_more i j e = grind (arith, nat_tests)

pasts_less : (n before after : ℕ) (ps : List Past) → before ≡ suc after →
    pasts_after n before after ps ≡ joined_pasts ps
pasts_less n before after ps e =
    ap (λ b. cond b (record { began = n; effects = [] } ∷ ps)
    (cond (before == suc after) (joined_pasts ps) ps)) (not_more before after e)
    ∙ ap (λ b. cond b (joined_pasts ps) ps) (one_less before after e)
  where
    not_more : (i j : ℕ) → i ≡ suc j → (j == suc i) ≡ false
    not_more i j e = grind (arith, nat_tests)

    one_less : (i j : ℕ) → i ≡ suc j → (i == suc j) ≡ true
    one_less i j e = grind (arith, nat_tests)

module _ (v : World) (images : ImageTable) (p : ℕ) (t0 : Trace) where
  -- ---- levels after effects

  of_touched : (q : ℕ) (pts : List ℕ) (ls : List Level) → AreOf v images p t0 q ls →
      AreOf v images p t0 q (touch_points q pts ls)
  of_touched q [] ls h = h
  of_touched q (pt ∷ pts) ls h = of_touched q pts (touch_outermost (Graft q pt) ls) (one_touched (Graft q pt) ls h)
    where
      one_touched : (o : Object) (ls : List Level) → AreOf v images p t0 q ls →
          AreOf v images p t0 q (touch_outermost o ls)
      one_touched o [] h = h
      one_touched o (l ∷ []) h = h
      one_touched o (l ∷ k ∷ ls) h = (h.0, one_touched o (k ∷ ls) h.1)

  -- effects come to the innermost past
  rooted_effects : (hs : List Mark) (q : ℕ) (fs : List Effect) (a b : Accounts) (pts : List ℕ)
      (l n : Level) (ls : List Level) (ps : List Past) → AreOf v images p t0 q (l ∷ ls) →
      Leads q fs a b (outermost_touched (l ∷ ls)) pts → IsSameGraft n l → AreRooted v images p t0 hs a [] (l ∷ ls) ps →
      AreRooted v images p t0 hs b [] (n ∷ touch_points q pts ls) (with_effects fs ps)
  rooted_effects hs q fs a b pts l n [] [] of leads same h = absurd h
  rooted_effects hs q fs a b pts l n (k ∷ ls) [] of leads same h = absurd h
  rooted_effects hs q fs a b pts l n ls (c ∷ ps) of leads same h =
      rooted_over v images p t0 hs b (reverse fs ++ []) [] (n ∷ touch_points q pts ls)
      c (record c { effects = reverse fs ++ c.effects }) ps
      (ap (λ es. es ++ c.effects) (append-nil (reverse fs))) refl
      (rooted_on v images p t0 hs q fs a b pts [] l n ls (c ∷ ps) of leads same h)

  -- a level of the same graft in the place of the innermost one
  rooted_same : (hs : List Mark) (q : ℕ) (a : Accounts) (es : List Effect) (l n : Level)
      (ls : List Level) (ps : List Past) → AreOf v images p t0 q (l ∷ ls) → IsSameGraft n l →
      AreRooted v images p t0 hs a es (l ∷ ls) ps → AreRooted v images p t0 hs a es (n ∷ ls) ps
  rooted_same hs q a es l n ls ps of same h =
      rooted_on v images p t0 hs q [] a a [] es l n ls ps of
      (record { on = λ x m k ks e. refl }) same h

  -- ---- a trace

  -- a trace to which these marks lead, and whose levels above 0 have their beginnings there
  pub record IsRooted (hs : List Mark) (t : Trace) : Type 0 where
    pub marks : t.marks ≡ length hs
    pub prefix : marks_on v images p hs t0 ≡ Some t
    pub rooted : AreRooted v images p t0 hs t.config.now.accounts [] t.config.levels t.pasts
    pub owner : ℕ
    pub of : AreOf v images p t0 owner t.config.levels

  pub marks_both : (xs ys : List Mark) (t z : Trace) → marks_on v images p xs t ≡ Some z →
      marks_on v images p (xs ++ ys) t ≡ marks_on v images p ys z
  marks_both [] ys t z e =
      ap (λ (x : Option Trace). elim x as (λ _. Option Trace) [
        | None ↦ None
        | Some y ↦ marks_on v images p ys y
      ]) e
  marks_both (k ∷ xs) ys t z e =
      let s = marks_split v images p k xs t z e in
      ap (λ (x : Option Trace). elim x as (λ _. Option Trace) [
        | None ↦ None
        | Some y ↦ marks_on v images p (xs ++ ys) y
      ]) s.1 ∙ marks_both xs ys s.0 z s.2

  prefix_more : (hs : List Mark) (k : Mark) (t z : Trace) → marks_on v images p hs t0 ≡ Some t →
      mark_on v images p k t ≡ Some z → marks_on v images p (hs ++ k ∷ []) t0 ≡ Some z
  prefix_more hs k t z e f =
      marks_both hs (k ∷ []) t0 t e
      ∙ ap (λ (x : Option Trace). elim x as (λ _. Option Trace) [ None ↦ None | Some y ↦ Some y ]) f

  marks_more : (hs : List Mark) (k : Mark) (n : ℕ) → n ≡ length hs → suc n ≡ length (hs ++ k ∷ [])
  marks_more hs k n e = ap suc e ∙ one_more (length hs) (length (hs ++ k ∷ [])) (length-append hs (k ∷ []))
    where
      one_more : (a b : ℕ) → b ≡ a + 1 → suc a ≡ b
      one_more a b e = omega arith

  -- ---- one instruction

  -- the beginning of a level that has just begun
  new_root : (hs : List Mark) (t : Trace) (n : Level) (rest : List Level) → t.marks ≡ length hs →
      marks_on v images p hs t0 ≡ Some t → is_going_on (micro v images p t.config).said ≡ true →
      length (micro v images p t.config).config.levels ≡ suc (length t.config.levels) →
      (micro v images p t.config).config.levels ≡ n ∷ rest →
      n.kept ≡ (micro v images p t.config).config.now.things →
      HasRoot v images p t0 (hs ++ Stepped ∷ []) (micro v images p t.config).config.now.accounts [] n rest t.marks
  new_root hs t n rest marks prefix went more begun kept =
      let r = (micro v images p t.config).config in
      record {
        low =
            subst (λ i. i ≤ length (hs ++ Stepped ∷ [])) (sym marks)
            (longer (length hs) (length (hs ++ Stepped ∷ [])) (length-append hs (Stepped ∷ [])));
        trace = t;
        prefix =
            ap (λ i. marks_on v images p (take i (hs ++ Stepped ∷ [])) t0) marks
            ∙ ap (λ ms. marks_on v images p ms t0) (take-append_seam hs (Stepped ∷ [])) ∙ prefix;
        went = went;
        more = more;
        new = n;
        rest = rest;
        begun = begun;
        owner = refl;
        point = refl;
        leads = ap (λ xs. Some (record { now = r.now; levels = xs })) begun
            ∙ ap (λ x. Some (record {
              now =
                  record { accounts = r.now.accounts; things = x };
              levels = n ∷ rest;
            })) (sym kept);
      }
    where
      longer : (a b : ℕ) → b ≡ a + 1 → a ≤ b
      longer a b e = omega arith

  -- an asker that gets an answer takes over the past of the level that gave it
  rooted_joined : (hs : List Mark) (a : Accounts) (l k : Level) (ls : List Level) (ps : List Past) →
      AreRooted v images p t0 hs a [] (l ∷ k ∷ ls) ps →
      AreRooted v images p t0 hs a [] (k ∷ ls) (joined_pasts ps)
  rooted_joined hs a l k ls [] h = absurd h
  rooted_joined hs a l k [] (c ∷ []) h = absurd h.1
  rooted_joined hs a l k (m ∷ ls) (c ∷ []) h = absurd h.1
  rooted_joined hs a l k ls (c ∷ d ∷ ps) h =
      rooted_over v images p t0 hs a c.effects [] (k ∷ ls) d
      (record d { effects = c.effects ++ d.effects }) ps refl refl h.1

  -- the levels after an instruction are rooted
  abbrev IsRootedAfter : List Mark → Trace → Objects → (before : List Level) → Outcome → Type 0
  IsRootedAfter hs t w before r =
      AreRooted v images p t0 (hs ++ Stepped ∷ []) r.config.now.accounts [] r.config.levels
      (pasts_after t.marks (length before) (length r.config.levels)
      (with_effects r.effects t.pasts))
      × ((q : ℕ) × AreOf v images p t0 q r.config.levels)

  module _ (hs : List Mark) (t : Trace) (w : Objects) (l : Level) (ls : List Level)
      (here : t.config ≡ record { now = w; levels = l ∷ ls }) (root : IsRooted hs t)
      (paid : outermost_touched (l ∷ ls) (Graft l.owner l.point) ≡ Held.Exclusive) where
    -- all levels are of one process
    own_levels : AreOf v images p t0 l.owner (l ∷ ls)
    own_levels =
        let of = subst (λ (c : Config). AreOf v images p t0 root.owner c.levels) here root.of in
        subst (λ q. AreOf v images p t0 q (l ∷ ls)) (sym of.0) of

    -- the levels with an instruction's effects, a level of the same graft being the innermost one
    at_outcome : (r : Outcome) (h : Replays v w l ls r) (n : Level) → IsSameGraft n l →
        AreRooted v images p t0 hs r.config.now.accounts []
        (n ∷ touch_points l.owner (points_of h.asked) ls) (with_effects r.effects t.pasts)
    at_outcome r h n same =
        rooted_effects hs l.owner r.effects w.accounts r.config.now.accounts (points_of h.asked) l n
        ls t.pasts own_levels (outcome_leads v w l ls r paid h) same
        (subst (λ (c : Config). AreRooted v images p t0 hs c.now.accounts [] c.levels t.pasts) here root.rooted)

    with_outcome : (r : Outcome) (h : Replays v w l ls r) (n : Level) → IsSameGraft n l →
        AreRooted v images p t0 (hs ++ Stepped ∷ []) r.config.now.accounts []
        (n ∷ touch_points l.owner (points_of h.asked) ls) (with_effects r.effects t.pasts)
    with_outcome r h n same =
        rooted_further v images p t0 hs (Stepped ∷ []) r.config.now.accounts []
        (n ∷ touch_points l.owner (points_of h.asked) ls) (with_effects r.effects t.pasts)
        (at_outcome r h n same)

    went_rooted : is_going_on (micro_on v images p w (l ∷ ls)).said ≡ true →
        (h : Replays v w l ls (micro_on v images p w (l ∷ ls))) →
        Outer v l ls h.asked (micro_on v images p w (l ∷ ls)).said (micro_on v images p w
        (l ∷ ls)).config → IsRootedAfter hs t w (l ∷ ls) (micro_on v images p w (l ∷ ls))
    went_rooted went h (Stays n said e same) =
        let r = micro_on v images p w (l ∷ ls) in
        let pts = points_of h.asked in
        let levels = e ∙ ap (λ xs. n ∷ xs) (touched_points l.owner h.asked ls) in
        let size = ap length levels ∙ ap suc (touched_length l.owner pts ls) in (
          subst (λ ps. AreRooted v images p t0 (hs ++ Stepped ∷ [])
              r.config.now.accounts [] r.config.levels ps) (sym (pasts_same t.marks
              (length (l ∷ ls)) (length r.config.levels) (with_effects r.effects t.pasts) size))
              (subst (λ xs. AreRooted v images p t0 (hs ++ Stepped ∷ []) r.config.now.accounts [] xs
              (with_effects r.effects t.pasts)) (sym levels) (with_outcome r h n same)),
          (
            l.owner,
            subst (AreOf v images p t0 l.owner) (sym levels)
                (same.owner, of_touched l.owner pts ls own_levels.1),
          ),
        )
    went_rooted went h (Starts n b said e same owner kept) =
        let r = micro_on v images p w (l ∷ ls) in
        let pts = points_of h.asked in
        let rest = b ∷ touch_points l.owner pts ls in
        let levels : r.config.levels ≡ n ∷ rest = e ∙ ap (λ xs. n ∷ b ∷ xs) (touched_points l.owner h.asked ls) in
        let size = ap length levels ∙ ap (λ i. suc (suc i)) (touched_length l.owner pts ls) in
        let back = sym here in
        let new = subst (λ (c : Config). HasRoot v images p t0 (hs ++ Stepped ∷ [])
        (micro v images p c).config.now.accounts [] n rest t.marks) here
        (new_root hs t n rest root.marks root.prefix
        (subst (λ (c : Config). is_going_on (micro v images p c).said ≡ true) back went)
        (subst (λ (c : Config). length (micro v images p c).config.levels ≡ suc (length c.levels))
        back size)
        (subst (λ (c : Config). (micro v images p c).config.levels ≡ n ∷ rest) back levels)
        (subst (λ (c : Config). n.kept ≡ (micro v images p c).config.now.things) back kept)) in (
          subst (λ ps. AreRooted v images p t0 (hs ++ Stepped ∷ [])
              r.config.now.accounts [] r.config.levels ps) (sym (pasts_more t.marks
              (length (l ∷ ls)) (length r.config.levels) (with_effects r.effects t.pasts) size))
              (subst (λ xs. AreRooted v images p t0 (hs ++ Stepped ∷ []) r.config.now.accounts [] xs
              (record { began = t.marks; effects = [] } ∷ with_effects r.effects t.pasts))
              (sym levels) (new, with_outcome r h b same)),
          (
            l.owner,
            subst (AreOf v images p t0 l.owner) (sym levels)
                (owner, (same.owner, of_touched l.owner pts ls own_levels.1)),
          ),
        )
    went_rooted went h (Answers a b rest said e none f same) =
        let r = micro_on v images p w (l ∷ ls) in
        let all =
        subst (λ asked. AreRooted v images p t0 (hs ++ Stepped ∷ []) r.config.now.accounts []
        (l ∷ touch_points l.owner (points_of asked) ls) (with_effects r.effects t.pasts)) none
        (with_outcome r h l (record { owner = refl; point = refl; kept = refl })) in
        let joined = rooted_joined (hs ++ Stepped ∷ []) r.config.now.accounts l a rest (with_effects r.effects t.pasts)
        (subst (λ xs. AreRooted v images p t0 (hs ++ Stepped ∷ []) r.config.now.accounts [] (l ∷ xs)
        (with_effects r.effects t.pasts)) e all) in
        let outer : AreOf v images p t0 l.owner (a ∷ rest) = subst (AreOf v images p t0 l.owner) e own_levels.1 in
        let size = ap (λ (xs : List Level). suc (length xs)) e ∙ sym (ap (λ (xs : List Level). suc (length xs)) f) in (
          subst (λ ps. AreRooted v images p t0 (hs ++ Stepped ∷ [])
              r.config.now.accounts [] r.config.levels ps) (sym (pasts_less t.marks
              (length (l ∷ ls)) (length r.config.levels) (with_effects r.effects t.pasts) size))
              (subst (λ xs. AreRooted v images p t0 (hs ++ Stepped ∷ []) r.config.now.accounts [] xs
              (joined_pasts (with_effects r.effects t.pasts))) (sym f)
              (rooted_same (hs ++ Stepped ∷ []) l.owner r.config.now.accounts [] a b rest
              (joined_pasts (with_effects r.effects t.pasts)) outer same joined)),
          (l.owner, subst (AreOf v images p t0 l.owner) (sym f) (same.owner ∙ outer.0, outer.1)),
        )
    went_rooted went h (Lost cause said e none) = not_going (sym (ap is_going_on said) ∙ went)
    went_rooted went h (Over answer said) = not_going (sym (ap is_going_on said) ∙ went)

    -- ---- a fallen level

    -- the levels after a level that began has fallen, with effects that lead on
    fell_rooted : (es : List Effect) (c : Config) →
        is_going_on (micro_on v images p w (l ∷ ls)).said ≡ true →
        length (micro_on v images p w (l ∷ ls)).config.levels ≡ suc (length (l ∷ ls)) →
        effects_on (owner_among (micro_on v images p w (l ∷ ls)).config.levels) es
        (micro_on v images p w (l ∷ ls)).config ≡ Some c →
        (h : Replays v w l ls (micro_on v images p w (l ∷ ls))) →
        Outer v l ls h.asked (micro_on v images p w (l ∷ ls)).said (micro_on v images p w (l ∷ ls)).config →
        AreRooted v images p t0 hs
        (level_ends v c.now c.levels).now.accounts [] (level_ends v c.now c.levels).levels
        (with_effects es (with_effects (micro_on v images p w (l ∷ ls)).effects t.pasts))
        × ((q : ℕ) × AreOf v images p t0 q (level_ends v c.now c.levels).levels)
    fell_rooted es c went more effects h (Stays n said e same) =
        absurd (too_long (length ls) (sym (ap length e ∙ ap suc (ap length (touched_points l.owner
        h.asked ls) ∙ touched_length l.owner (points_of h.asked) ls)) ∙ more))
      where
        too_long : (n : ℕ) → suc n ≡ suc (suc n) → ⊥
        too_long n e = omega arith
    fell_rooted es c went more effects h (Answers a b rest said e none f same) =
        absurd (too_long (length rest)
        (sym (ap length f) ∙ more ∙ ap (λ (xs : List Level). suc (suc (length xs))) e))
      where
        too_long : (n : ℕ) → suc n ≡ suc (suc (suc n)) → ⊥
        too_long n e = omega arith
    fell_rooted es c went more effects h (Lost cause said e none) = not_going (sym (ap is_going_on said) ∙ went)
    fell_rooted es c went more effects h (Over answer said) = not_going (sym (ap is_going_on said) ∙ went)
    fell_rooted es c went more effects h (Starts n b said e same owner kept) =
        let r = micro_on v images p w (l ∷ ls) in
        let outer = touch_points l.owner (points_of h.asked) ls in
        let levels : r.config.levels ≡ n ∷ b ∷ outer = e ∙ ap (λ xs. n ∷ b ∷ xs) (touched_points l.owner h.asked ls) in
        let on = subst (λ xs. effects_on (owner_among xs) es
        (record { now = r.config.now; levels = xs }) ≡ Some c) levels effects in
        let leads = effects_lead_to n.owner es r.config.now.accounts r.config.now.things n b outer c on in
        let split = touched_splits v images p t0 n.owner leads.points b outer in
        let d = default_of v r.config.now.things n.owner n.point in
        let asker = with_machine (answered (kind_of n.point) d.0 d.1 split.0.machine) split.0 in
        let same_asker : IsSameGraft asker b =
        record { owner = split.2.owner; point = split.2.point; kept = split.2.kept } in
        let of : AreOf v images p t0 n.owner (b ∷ outer) =
        subst (λ q. AreOf v images p t0 q (b ∷ outer)) (sym owner)
        (same.owner, of_touched l.owner (points_of h.asked) ls own_levels.1) in
        let rooted = rooted_effects hs n.owner es r.config.now.accounts leads.accounts
        leads.points b asker outer (with_effects r.effects t.pasts) of leads.leads same_asker
        (at_outcome r h b same) in
        let ends : level_ends v c.now c.levels ≡ record {
          now = record { accounts = leads.accounts; things = r.config.now.things };
          levels = asker ∷ touch_points n.owner leads.points outer;
        } =
        ap (λ (x : Config). level_ends v x.now x.levels) (sym leads.is)
        ∙ ap (λ xs. record {
          now = record { accounts = leads.accounts; things = r.config.now.things };
          levels = answer_innermost n.point d.0 d.1 xs;
        }) split.1 in (
          subst (λ (x : Config). AreRooted v images p t0 hs x.now.accounts [] x.levels
              (with_effects es (with_effects r.effects t.pasts))) (sym ends) rooted,
          (
            n.owner,
            subst (λ (x : Config). AreOf v images p t0 n.owner x.levels) (sym ends)
                (same_asker.owner ∙ of.0, of_touched n.owner leads.points outer of.1),
          ),
        )

  -- ---- marks

  below_suc : (n : ℕ) → 0 < suc n
  below_suc n = omega arith

  none_some : {A : Type 0} → 1 ≤ 0 → A
  none_some h = absurd (bad h)
    where
      bad : 1 ≤ 0 → ⊥
      bad h = omega arith

  stepped_rooted : (s : Objects) (hs : List Mark) (t z : Trace) (w : Objects) (ls : List Level) →
      t.config ≡ record { now = w; levels = ls } →
      IsReplayed v s (record { now = w; levels = ls }) → IsRooted hs t →
      is_going_on (micro_on v images p w ls).said ≡ true → IsRootedAfter hs t w ls (micro_on v images p w ls)
  stepped_rooted s hs t z w [] here h root went = none_some h.sound.some
  stepped_rooted s hs t z w (l ∷ ls) here h root went =
      let first : Contains (l ∷ ls) l = (0, below_suc (length ls), refl) in
      let r = levels_replay v images p w l ls (h.sound.grafts l first) in
      went_rooted hs t w l ls here root (h.sound.paid l first).0 went r r.outer

  fallen_rooted : (s : Objects) (hs : List Mark) (t : Trace) (w : Objects) (ls : List Level)
      (es : List Effect) (c : Config) → t.config ≡ record { now = w; levels = ls } →
      IsReplayed v s (record { now = w; levels = ls }) → IsRooted hs t →
      is_going_on (micro_on v images p w ls).said ≡ true →
      length (micro_on v images p w ls).config.levels ≡ suc (length ls) →
      effects_on (owner_among (micro_on v images p w ls).config.levels) es (micro_on v images p w ls).config ≡ Some c →
      AreRooted v images p t0 hs
      (level_ends v c.now c.levels).now.accounts [] (level_ends v c.now c.levels).levels
      (with_effects es (with_effects (micro_on v images p w ls).effects t.pasts))
      × ((q : ℕ) × AreOf v images p t0 q (level_ends v c.now c.levels).levels)
  fallen_rooted s hs t w [] es c here h root went more effects = none_some h.sound.some
  fallen_rooted s hs t w (l ∷ ls) es c here h root went more effects =
      let first : Contains (l ∷ ls) l = (0, below_suc (length ls), refl) in
      let r = levels_replay v images p w l ls (h.sound.grafts l first) in
      fell_rooted hs t w l ls here root (h.sound.paid l first).0 es c went more effects r r.outer

  mark_rooted : (s : Objects) (hs : List Mark) (k : Mark) (t z : Trace) →
      mark_on v images p k t ≡ Some z → IsReplayed v s t.config → IsRooted hs t →
      IsRooted (hs ++ k ∷ []) z
  mark_rooted s hs Stepped t z e h root =
      let f = stepped_split t (micro v images p t.config) z e in
      let after = stepped_rooted s hs t z t.config.now t.config.levels refl h root f.0 in
      let x = trace_after t (micro v images p t.config) in
      subst (IsRooted (hs ++ Stepped ∷ [])) f.1
      (record {
        marks = marks_more hs Stepped t.marks root.marks;
        prefix = prefix_more hs Stepped t x root.prefix (e ∙ ap Some (sym f.1));
        rooted = after.0;
        owner = after.1.0;
        of = after.1.1;
      })
  mark_rooted s hs (Fell es) t z e h root =
      let f = fell_split v images p es t z e in
      let r = micro v images p t.config in
      let after = fallen_rooted s hs t t.config.now t.config.levels es f.config refl h root f.went f.more f.effects in
      let x = trace_fallen v es (trace_after t r) f.config in
      let pasts : x.pasts ≡ with_effects es (with_effects r.effects t.pasts) =
      ap (λ ps. with_effects es (outer_pasts ps)) (pasts_more t.marks (length t.config.levels)
      (length r.config.levels) (with_effects r.effects t.pasts) f.more) in
      subst (IsRooted (hs ++ Fell es ∷ [])) f.result
      (record {
        marks = marks_more hs (Fell es) t.marks root.marks;
        prefix = prefix_more hs (Fell es) t x root.prefix (e ∙ ap Some (sym f.result));
        rooted = rooted_further v images p t0 hs (Fell es ∷ []) x.config.now.accounts [] x.config.levels x.pasts
            (subst (AreRooted v images p t0 hs x.config.now.accounts [] x.config.levels) (sym pasts) after.0);
        owner = after.1.0;
        of = after.1.1;
      })

  pub marks_rooted : (s : Objects) (ks hs : List Mark) (t z : Trace) →
      marks_on v images p ks t ≡ Some z → IsReplayed v s t.config →
      AllStand z.config.now.accounts z.config.levels → IsRooted hs t →
      IsRooted (hs ++ ks) z
  marks_rooted s [] hs t z e h stand root =
      subst (λ ms. IsRooted ms z) (sym (append-nil hs)) (subst (IsRooted hs) (is_it t z e) root)
    where
      is_it : (t z : Trace) → Some t ≡ Some z → t ≡ z
      is_it t z h = cc
  marks_rooted s (k ∷ ks) hs t z e h stand root =
      let f = marks_split v images p k ks t z e in
      let middle = mark_replays v images p s k t f.0 f.1 h (marks_stood v images p ks f.0 z f.2 stand) in
      subst (λ ms. IsRooted ms z) (append_assoc hs (k ∷ []) ks) (marks_rooted s ks
      (hs ++ k ∷ []) f.0 z f.2 middle stand (mark_rooted s hs k t f.0 f.1 h root))
