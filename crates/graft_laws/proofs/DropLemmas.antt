-- The history after the drop of a level above the outermost leads to the config that the drop gave.
use Rattle.std.specs.Prelude.{◌≡◌, ℕ, suc, ◌<◌, ◌≤◌, ◌==◌, nat_le, Bool, true, false, List, []}
use Rattle.std.specs.Prelude.{◌∷◌, ◌++◌, length, take, reverse, Option, Some, None, is_some, ◌⊎◌}
use Rattle.std.proofs.Common.{arith, refl, subst, sym, ap, ◌∙◌, inl, inr}
use Rattle.std.proofs.lemmas.Bool.{cases_Bool}
use Rattle.std.proofs.lemmas.Bool.Decides.{nat_tests}
use Rattle.std.proofs.lemmas.List.{append_assoc, append-nil}
use Rattle.kernel_model.specs.declared.Cause.{Cause}
use Rattle.kernel_model.specs.declared.Held.{Held}
use Rattle.kernel_model.specs.declared.Micro.{Micro}
use Rattle.kernel_model.specs.declared.Need.{Need}
use Rattle.kernel_model.specs.declared.Object.TheVariants.{Graft}
use Rattle.kernel_model.specs.declared.Point.{Point}
use Rattle.kernel_model.specs.World.{World, ImageTable}
use Rattle.kernel_model.specs.Objects.{Objects, Accounts, Things}
use Rattle.kernel_model.specs.Policies.{default_of}
use Rattle.kernel_model.specs.Locks.{is_held}
use Rattle.kernel_model.specs.Meaning.{Meaning}
use Rattle.kernel_model.specs.Levels.{Level, Config, Effect, Removed, Outcome, outermost_touched}
use Rattle.kernel_model.specs.Levels.{answer_innermost, drop_innermost, drop_level}
use Rattle.kernel_model.specs.GraftStep.{micro, micro_on}
use Rattle.kernel_model.specs.History.{Mark, Fell, Past, Trace, begin_at, begin_with, first_trace}
use Rattle.kernel_model.specs.History.{effects_on, owner_among, trace_fallen, fallen_if, fell_on}
use Rattle.kernel_model.specs.History.{mark_on, marks_on, effects_since, marks_before, fallen}
use Rattle.kernel_model.specs.Blocking.{config_in}
use Rattle.kernel_model.specs.Claims.{FallsReplay}
use Rattle.graft_laws.proofs.HistoryEffectLemmas.{levels_by, touched_by, accounts_by, CanBeMade}
use Rattle.graft_laws.proofs.HistoryEffectLemmas.{accounts_more, levels_more, made_more, levels_above}
use Rattle.graft_laws.proofs.HistoryEffectLemmas.{levels_length, levels_touched, config_with}
use Rattle.graft_laws.proofs.HistoryEffectLemmas.{made_again}
use Rattle.graft_laws.proofs.ActLemmas.{Next, WhereDropped, Acts, instruction_acts}
use Rattle.graft_laws.proofs.HistoryPastLemmas.{Began, HasPasts, trace_with}
use Rattle.graft_laws.proofs.FallenLemmas.{marks_lead, marks_more, one_mark, no_trace}
use Rattle.kernel_laws.proofs.SettleLemmas.{both_pass}

-- ---- numbers

number_is : (x y : ℕ) → x ≡ y → (x == y) ≡ true
number_is x y e = grind (arith, nat_tests)

module _ (v : World) (images : ImageTable) (p : ℕ) (first : Trace) (q : ℕ) where
  -- ---- the level that is dropped

  -- there are as many pasts as levels
  pasts_length : (ks : List Mark) (a : Accounts) (xs : List Effect) (ls : List Level)
      (ps : List Past) → HasPasts v images p first q ks a xs ls ps → length ps ≡ length ls
  pasts_length ks a xs [] ps h = absurd h
  pasts_length ks a xs (l ∷ []) [] h = absurd h
  pasts_length ks a xs (l ∷ []) (b ∷ []) h = refl
  pasts_length ks a xs (l ∷ []) (b ∷ c ∷ ps) h = absurd h
  pasts_length ks a xs (l ∷ k ∷ ls) [] h = absurd h
  pasts_length ks a xs (l ∷ k ∷ ls) (b ∷ ps) h = ap suc (pasts_length ks a (xs ++ b.effects) (k ∷ ls) ps h.2)

  -- no effects are of levels further inward than all
  none_since : (d : ℕ) (ps : List Past) → length ps ≤ d → effects_since d ps ≡ []
  none_since d [] h = refl
  none_since d (b ∷ ps) h =
      ap (λ x. elim x as (λ _. List Effect) [ true ↦ b.effects ++ effects_since d ps | false ↦ [] ])
      (too_far d (length ps) h)
    where
      too_far : (d n : ℕ) → suc n ≤ d → nat_le d n ≡ false
      too_far d n h = grind (arith, nat_tests)

  -- effects of a level that isn't the innermost
  since_more : (d : ℕ) (b : Past) (ps : List Past) → d ≤ length ps →
      effects_since d (b ∷ ps) ≡ b.effects ++ effects_since d ps
  since_more d b ps h =
      ap (λ x. elim x as (λ _. List Effect) [ true ↦ b.effects ++ effects_since d ps | false ↦ [] ])
      (within d (length ps) h)
    where
      within : (d n : ℕ) → d ≤ n → nat_le d n ≡ true
      within d n h = grind (arith, nat_tests)

  -- where the innermost level began
  began_top : (ks : List Mark) (a : Accounts) (xs : List Effect) (l k : Level) (ls : List Level)
      (b : Past) (ps : List Past) (d : ℕ) →
      HasPasts v images p first q ks a xs (l ∷ k ∷ ls) (b ∷ ps) → length (k ∷ ls) ≡ d →
      Began v images p first q ks a (marks_before d (b ∷ ps))
      (reverse (xs ++ effects_since d (b ∷ ps))) l.point l.kept (k ∷ ls)
  began_top ks a xs l k ls b ps d h top =
      let many : length ps ≡ d = pasts_length ks a (xs ++ b.effects) (k ∷ ls) ps h.2 ∙ top in
      let marks : b.began ≡ marks_before d (b ∷ ps) =
      ap (λ x. elim x as (λ _. ℕ) [ true ↦ b.began | false ↦ marks_before d ps ])
      (sym (number_is (length ps) d many)) in
      let since : effects_since d (b ∷ ps) ≡ b.effects =
      since_more d b ps (at_most (length ps) d many)
      ∙ ap (λ x. b.effects ++ x) (none_since d ps (at_least (length ps) d many))
      ∙ append-nil b.effects in
      subst (λ n. Began v images p first q ks a n (reverse (xs ++ effects_since d (b ∷ ps))) l.point
      l.kept (k ∷ ls)) marks
      (subst (λ es. Began v images p first q ks a b.began (reverse (xs ++ es)) l.point l.kept (k ∷ ls)) (sym since) h.1)
    where
      at_most : (n d : ℕ) → n ≡ d → d ≤ n
      at_most n d e = omega arith

      at_least : (n d : ℕ) → n ≡ d → n ≤ d
      at_least n d e = omega arith

  -- a level was dropped that began there
  pub record DroppedAt (ks : List Mark) (w : Objects) (n : ℕ) (es : List Effect) (o : Outcome)
      (cause : Cause) : Type 0 where
    pub level : Level
    pub outside : List Level
    pub is : o ≡ drop_innermost v w level outside cause
    pub owner : level.owner ≡ q
    pub began : Began v images p first q ks w.accounts n es level.point level.kept outside

  -- the drop of level d, which is above the outermost
  dropped_at : (ks : List Mark) (w : Objects) (xs : List Effect) (ls : List Level) (ps : List Past)
      (d : ℕ) (cause : Cause) →
      HasPasts v images p first q ks w.accounts xs ls ps → suc d < length ls →
      DroppedAt ks w (marks_before (suc d) ps) (reverse (xs ++ effects_since (suc d) ps))
      (drop_level v w ls (suc d) cause) cause
  dropped_at ks w xs [] ps d cause h low = absurd h
  dropped_at ks w xs (l ∷ []) ps d cause h low = absurd (none_lower d low)
    where
      none_lower : (d : ℕ) → suc d < 1 → ⊥
      none_lower d h = omega arith
  dropped_at ks w xs (l ∷ k ∷ ls) [] d cause h low = absurd h
  dropped_at ks w xs (l ∷ k ∷ ls) (b ∷ ps) d cause h low = elim (cases_Bool (length (k ∷ ls) == suc d)) [
    | inl top ↦ record {
      level = l;
      outside = k ∷ ls;
      is =
          ap (λ x. elim x as (λ _. Outcome) [
            | true ↦ drop_innermost v w l (k ∷ ls) cause
            | false ↦ drop_level v w (k ∷ ls) (suc d) cause
          ]) top;
      owner = h.0;
      began = began_top ks w.accounts xs l k ls b ps (suc d) h (same_number (length (k ∷ ls)) (suc d) top);
    }
    | inr inner ↦
        let far = further (length ls) d low inner in
        let many = pasts_length ks w.accounts (xs ++ b.effects) (k ∷ ls) ps h.2 in
        let rest = dropped_at ks w (xs ++ b.effects) (k ∷ ls) ps d cause h.2 far in
        let marks : marks_before (suc d) (b ∷ ps) ≡ marks_before (suc d) ps =
        ap (λ x. elim x as (λ _. ℕ) [ true ↦ b.began | false ↦ marks_before (suc d) ps ])
        (ap (λ n. n == suc d) many ∙ inner) in
        let since : (xs ++ b.effects) ++ effects_since (suc d) ps ≡ xs ++ effects_since (suc d) (b ∷ ps) =
        append_assoc xs b.effects (effects_since (suc d) ps) ∙ ap (λ es. xs ++ es)
        (sym (since_more (suc d) b ps (within (length ps) (length (k ∷ ls)) d many far))) in
        record {
          level = rest.level;
          outside = rest.outside;
          is =
              ap (λ x. elim x as (λ _. Outcome) [
                | true ↦ drop_innermost v w l (k ∷ ls) cause
                | false ↦ drop_level v w (k ∷ ls) (suc d) cause
              ]) inner ∙ rest.is;
          owner = rest.owner;
          began =
              subst (λ n. Began v images p first q ks w.accounts n
              (reverse (xs ++ effects_since (suc d) (b ∷ ps))) rest.level.point rest.level.kept
              rest.outside) (sym marks)
              (subst (λ es. Began v images p first q ks w.accounts (marks_before (suc d) ps)
              (reverse es) rest.level.point rest.level.kept rest.outside) since rest.began);
        }
  ]
    where
      same_number : (x y : ℕ) → (x == y) ≡ true → x ≡ y
      same_number x y h = grind (arith, nat_tests)

      further : (n d : ℕ) → suc d < suc (suc n) → (suc n == suc d) ≡ false → suc d < suc n
      further n d h e = grind (arith, nat_tests)

      within : (m n d : ℕ) → m ≡ n → suc d < n → suc d ≤ m
      within m n d e h = omega arith

  -- ---- the end of a fallen level's mark

  -- the level's mark leads to its end, where the last effects can be made too
  ends_so : (ks : List Mark) (a : Accounts) (n : ℕ) (es fs : List Effect) (pt : ℕ) (kept : Things) (ls : List Level) →
      Began v images p first q ks a n es pt kept ls → CanBeMade q fs a (outermost_touched ls) →
      let d = default_of v kept q pt in
      config_in (marks_on v images p (take n ks ++ Fell (es ++ fs) ∷ []) first) ≡ Some
      (config_with (accounts_by q fs a) kept (answer_innermost pt d.0 d.1 (levels_by q fs ls)))
  ends_so ks a n es fs pt kept ls h made =
      let gs = es ++ fs in
      let s = h.after.config.now.accounts in
      let w = h.after.config.now.things in
      let outer = h.asker ∷ h.outside in
      let t = outermost_touched outer in
      let touched : outermost_touched ls ≡ touched_by q es t = ap outermost_touched h.outer
      ∙ levels_touched q es h.asker h.outside in
      let all : CanBeMade q gs s t =
      made_more q es fs s t h.made (subst (λ x. CanBeMade q fs x (touched_by q es t)) h.accounts
      (subst (CanBeMade q fs a) touched made)) in
      let b = accounts_by q gs s in
      let led : effects_on (owner_among h.after.config.levels) gs h.after.config
      ≡ Some (config_with b w (h.own ∷ levels_by q gs outer)) =
      ap (λ xs. effects_on (owner_among xs) gs (config_with s w xs)) h.levels
      ∙ ap (λ i. effects_on i gs (config_with s w (h.own ∷ outer))) h.owner
      ∙ made_again q gs s w h.own outer all
      ∙ ap (λ xs. Some (config_with b w xs)) (levels_above q gs h.own h.asker h.outside) in
      let fell : fell_on v gs (length h.before.config.levels) h.after
      ≡ Some (trace_fallen v gs h.after (config_with b w (h.own ∷ levels_by q gs outer))) =
      ap (λ x. elim x as (λ _. Option Trace) [
        | true ↦
            fallen_if v gs h.after (effects_on (owner_among h.after.config.levels) gs h.after.config)
        | false ↦ None
      ])
      (number_is (length h.after.config.levels) (suc (length h.before.config.levels)) h.deeper)
      ∙ ap (fallen_if v gs h.after) led in
      let mark : mark_on v images p (Fell gs) h.before
      ≡ Some (trace_fallen v gs h.after (config_with b w (h.own ∷ levels_by q gs outer))) =
      ap (λ x. elim x as (λ _. Option Trace) [
        | None ↦ None
        | Some u ↦ fell_on v gs (length h.before.config.levels) u
      ]) h.asks ∙ fell in
      let accounts : b ≡ accounts_by q fs a = accounts_more q es fs s ∙ ap (accounts_by q fs) (sym h.accounts) in
      let levels : levels_by q gs outer ≡ levels_by q fs ls = levels_more q es fs outer
      ∙ ap (levels_by q fs) (sym h.outer) in
      ap config_in (marks_more v images p (take n ks) (Fell gs ∷ []) first h.before h.leads
      ∙ one_mark v images p (Fell gs) h.before ∙ mark)
      ∙ ended b (accounts_by q fs a) w kept h.own.owner h.own.point pt (levels_by q gs outer)
      (levels_by q fs ls) accounts (sym h.found) h.owner h.point levels
    where
      ended : (b c : Accounts) (w x : Things) (r pu pt : ℕ) (xs ys : List Level) → b ≡ c → w ≡ x →
          r ≡ q → pu ≡ pt → xs ≡ ys →
          let d = default_of v w r pu in let e = default_of v x q pt in
          Some (config_with b w (answer_innermost pu d.0 d.1 xs))
          ≡ Some (config_with c x (answer_innermost pt e.0 e.1 ys))
      ended b c w x r pu pt xs ys accounts things owner point levels = cc

-- ---- the law

-- what a drop comes to
is_dropped : (d e q r pt pu : ℕ) (c x : Cause) → Micro.Dropped d q pt c ≡ Micro.Dropped e r pu x →
    (d ≡ e) × (q ≡ r) × (pt ≡ pu)
is_dropped d e q r pt pu c x h = (cc, cc, cc)

-- where there is no such level nothing is dropped
not_dropped : (v : World) (w : Objects) (ls : List Level) (d : ℕ) (cause : Cause) → length ls ≤ d →
    (drop_level v w ls d cause).said ≡ Micro.Went
not_dropped v w [] d cause h = refl
not_dropped v w (l ∷ ls) d cause h =
    ap (λ (x : Bool). (elim x as (λ _. Outcome) [
      | true ↦ drop_innermost v w l ls cause
      | false ↦ drop_level v w ls d cause
    ]).said) (differs (length ls) d h)
    ∙ not_dropped v w ls d cause (less (length ls) d h)
  where
    differs : (n d : ℕ) → suc n ≤ d → (n == d) ≡ false
    differs n d h = grind (arith, nat_tests)

    less : (n d : ℕ) → suc n ≤ d → n ≤ d
    less n d h = omega arith

-- at most, or above
at_most_or_above : (n d : ℕ) → (n ≤ d) ⊎ (d < n)
at_most_or_above n d =
    elim (cases_Bool (nat_le n d)) [
      | inl low ↦ inl (within n d low)
      | inr high ↦ inr (above n d high)
    ]
  where
    within : (n d : ℕ) → nat_le n d ≡ true → n ≤ d
    within n d h = grind (arith, nat_tests)

    above : (n d : ℕ) → nat_le n d ≡ false → d < n
    above n d h = grind (arith, nat_tests)

-- the parts of a config
same_config : (c : Config) (a : Accounts) (w : Things) (ls : List Level) → c.now.accounts ≡ a →
    c.now.things ≡ w → c.levels ≡ ls → config_with a w ls ≡ c
same_config c a w ls e f g =
    ap (λ x. config_with x w ls) (sym e) ∙ ap (λ x. config_with c.now.accounts x ls) (sym f)
    ∙ ap (λ x. config_with c.now.accounts c.now.things x) (sym g)

module _ (v : World) (images : ImageTable) (p : ℕ) (first : Trace) (q : ℕ) where
  -- the history of a drop leads to its config
  abbrev Replays : List Mark → Trace → ℕ → Outcome → Type 0
  Replays ks now d o = config_in (marks_on v images p (fallen now ks o.effects d) first) ≡ Some o.config

  -- by the level that was dropped
  level_replays : (ks : List Mark) (w : Objects) (ls : List Level) (n : ℕ) (ps : List Past)
      (d r pt : ℕ) (cause why : Cause) (o : Outcome) →
      DroppedAt v images p first q ks w (marks_before (suc d) ps) (reverse (effects_since (suc d) ps)) o why →
      o.said ≡ Micro.Dropped (suc d) r pt cause → is_some (w.accounts.graft r pt) ≡ true →
      Replays ks (trace_with w ls n ps) (suc d) o
  level_replays ks w ls n ps d r pt cause why o at said stands =
      let l = at.level in
      let is = is_dropped (length at.outside) (suc d) l.owner r l.point pt why cause
      (ap (λ (x : Outcome). x.said) (sym at.is) ∙ said) in
      let here : is_some (w.accounts.graft q l.point) ≡ true =
      ap (λ i. is_some (w.accounts.graft i l.point)) (sym at.owner ∙ is.1)
      ∙ ap (λ i. is_some (w.accounts.graft r i)) is.2 ∙ stands in
      let made : CanBeMade q (Removed l.point ∷ []) w.accounts (outermost_touched at.outside) = (
        both_pass (is_some (w.accounts.graft q l.point))
            (is_held (outermost_touched at.outside (Graft q l.point))) here at.began.held,
        tt,
      ) in
      let ends = ends_so v images p first q ks w.accounts (marks_before (suc d) ps)
      (reverse (effects_since (suc d) ps)) (Removed l.point ∷ []) l.point l.kept at.outside
      at.began made in
      subst (Replays ks (trace_with w ls n ps) (suc d)) (sym at.is)
      (ends ∙ ap (λ i. let e = default_of v l.kept i l.point in
      Some (config_with (accounts_by i (Removed l.point ∷ []) w.accounts) l.kept
      (answer_innermost l.point e.0 e.1 at.outside))) (sym at.owner))

  -- the drop of any level above the outermost
  drop_replays : (ks : List Mark) (w : Objects) (ls : List Level) (n : ℕ) (ps : List Past)
      (d r pt : ℕ) (cause why : Cause) →
      HasPasts v images p first q ks w.accounts [] ls ps →
      (drop_level v w ls (suc d) why).said ≡ Micro.Dropped (suc d) r pt cause →
      is_some (w.accounts.graft r pt) ≡ true → Replays ks (trace_with w ls n ps) (suc d) (drop_level v w ls (suc d) why)
  drop_replays ks w ls n ps d r pt cause why h said stands = elim (at_most_or_above (length ls) (suc d)) [
    | inl none ↦ absurd (went_on r pt cause (sym (not_dropped v w ls (suc d) why none) ∙ said))
    | inr some ↦ level_replays ks w ls n ps d r pt cause why (drop_level v w ls (suc d) why)
        (dropped_at v images p first q ks w [] ls ps d why h some) said stands
  ]
    where
      went_on : (r pt : ℕ) (cause : Cause) → Micro.Went ≡ Micro.Dropped (suc d) r pt cause → ⊥
      went_on r pt cause e = cc

  -- an instruction that drops its level
  instruction_replays : (ks : List Mark) (w : Objects) (ls : List Level) (n : ℕ) (ps : List Past)
      (d r pt : ℕ) (cause : Cause) →
      HasPasts v images p first q ks w.accounts [] ls ps →
      (micro_on v images p w ls).said ≡ Micro.Dropped (suc d) r pt cause →
      is_some (w.accounts.graft r pt) ≡ true → Replays ks (trace_with w ls n ps) (suc d) (micro_on v images p w ls)
  instruction_replays ks w [] n ps d r pt cause h said stands = absurd h
  instruction_replays ks w (l ∷ []) n ps d r pt cause h said stands =
      let o = micro_on v images p w (l ∷ []) in
      let acts = instruction_acts v (λ x. Held.Exclusive) images p w l [] refl in
      let x = subst (λ y. Next v l.owner l.point l.kept l.touched (levels_by l.owner o.effects []) y
      o.config) said acts.next in
      absurd (no_level d (length (levels_by l.owner o.effects [])) x.level (levels_length l.owner o.effects []))
    where
      no_level : (d n : ℕ) → suc d ≡ n → n ≡ 0 → ⊥
      no_level d n e f = omega arith
  instruction_replays ks w (l ∷ k ∷ ls) n [] d r pt cause h said stands = absurd h
  instruction_replays ks w (l ∷ k ∷ ls) n (b ∷ ps) d r pt cause h said stands =
      let o = micro_on v images p w (l ∷ k ∷ ls) in
      let t = outermost_touched (k ∷ ls) in
      let held = ap (λ i. is_held (t (Graft i l.point))) h.0 ∙ h.1.held in
      let acts = subst (λ i. Acts v t i l.point l.kept l.touched w.accounts (k ∷ ls) o) h.0
      (instruction_acts v t images p w l (k ∷ ls) held) in
      let x = subst (λ y. Next v q l.point l.kept l.touched (levels_by q o.effects (k ∷ ls)) y
      o.config) said acts.next in
      let here : is_some (w.accounts.graft q l.point) ≡ true =
      ap (λ i. is_some (w.accounts.graft i l.point)) (sym x.owner)
      ∙ ap (λ i. is_some (w.accounts.graft r i)) (sym x.point) ∙ stands in
      let made = acts.made (subst (λ y. WhereDropped y (is_some (w.accounts.graft q l.point))) (sym said) here) in
      let e = default_of v l.kept q l.point in
      ends_so v images p first q ks w.accounts (marks_before (suc d) (b ∷ ps))
      (reverse (effects_since (suc d) (b ∷ ps))) o.effects l.point l.kept (k ∷ ls)
      (began_top v images p first q ks w.accounts [] l k ls b ps (suc d) h
      (sym (levels_length q o.effects (k ∷ ls)) ∙ sym x.level)) made
      ∙ ap Some (same_config o.config (accounts_by q o.effects w.accounts) l.kept (answer_innermost
      l.point e.0 e.1 (levels_by q o.effects (k ∷ ls))) acts.accounts x.things x.levels)

  -- either of them
  leads_to_drop : (ks : List Mark) (now : Trace) (o : Outcome) (d r pt : ℕ) (cause why : Cause) →
      HasPasts v images p first q ks now.config.now.accounts [] now.config.levels now.pasts →
      (o ≡ micro v images p now.config) ⊎ (o ≡ drop_level v now.config.now now.config.levels (suc d)
      why) → o.said ≡ Micro.Dropped (suc d) r pt cause →
      is_some (now.config.now.accounts.graft r pt) ≡ true → Replays ks now (suc d) o
  leads_to_drop ks now o d r pt cause why h (inl e) said stands =
      subst (Replays ks now (suc d)) (sym e)
      (instruction_replays ks now.config.now now.config.levels now.marks now.pasts d r pt cause h
      (ap (λ (x : Outcome). x.said) (sym e) ∙ said) stands)
  leads_to_drop ks now o d r pt cause why h (inr e) said stands =
      subst (Replays ks now (suc d)) (sym e)
      (drop_replays ks now.config.now now.config.levels now.marks now.pasts d r pt cause why h
      (ap (λ (x : Outcome). x.said) (sym e) ∙ said) stands)

-- by the point that is asked
replay_by : (v : World) (images : ImageTable) (s : Objects) (p : ℕ) (base : List Need)
    (feed : List ℕ) (ask : Option Point) (ks : List Mark) (now : Trace) (o : Outcome) (d q pt : ℕ)
    (cause why : Cause) →
    let start = λ (marks : List Mark). elim (begin_with images s p base feed ask) as (λ _. Option
    Trace) [ None ↦ None | Some c ↦ marks_on v images p marks (first_trace c) ] in
    start ks ≡ Some now → (o ≡ micro v images p now.config)
    ⊎ (o ≡ drop_level v now.config.now now.config.levels (suc d) why) →
    o.said ≡ Micro.Dropped (suc d) q pt cause → is_some (now.config.now.accounts.graft q pt) ≡ true →
    config_in (start (fallen now ks o.effects (suc d))) ≡ Some o.config
replay_by v images s p base feed None ks now o d q pt cause why leads by said stands = absurd (no_trace now leads)
replay_by v images s p base feed (Some a) ks now o d q pt cause why leads by said stands =
    let first = first_trace (begin_at images s p base feed a) in
    let led = marks_lead v images p first a.installer [] ks first now
    (record { leads = refl; marks = refl; pasts = refl }) leads in
    leads_to_drop v images p first a.installer ks now o d q pt cause why led.pasts by said stands

-- the history after the drop of a level above the outermost leads to the config that the drop gave, if its graft stood
pub falls_replay : (m : Meaning) → FallsReplay m
falls_replay m v images s p t ks now o d q pt cause why leads by said stands =
    replay_by v images s p (m.need v s p t) (m.feed t) (m.asks v s p t) ks now o d q pt cause why leads by said stands
