-- What the pasts of a trace tell of each level above 0: where it began, and that the effects since lead to it.
use Rattle.std.specs.Prelude.{◌≡◌, ℕ, suc, ◌+◌, ◌<◌, ◌≤◌, ◌==◌, ◌&&◌, not, nat_le, true, false}
use Rattle.std.specs.Prelude.{List, [], ◌∷◌, ◌++◌, length, take, reverse, Option, Some, None}
use Rattle.std.specs.Prelude.{is_some, ⊤}
use Rattle.std.proofs.Common.{arith, refl, subst, sym, ap, ◌∙◌, inl, inr}
use Rattle.std.proofs.lemmas.Bool.{cases_Bool}
use Rattle.std.proofs.lemmas.Bool.Decides.{nat_tests}
use Rattle.std.proofs.lemmas.List.{append_assoc, append-nil, reverse-append, reverse-reverse}
use Rattle.std.proofs.lemmas.List.{take-append-le, length-append}
use Rattle.kernel_model.specs.declared.Kind.{Kind}
use Rattle.kernel_model.specs.declared.Mode.{Mode}
use Rattle.kernel_model.specs.declared.Object.{Object}
use Rattle.kernel_model.specs.declared.Object.TheVariants.{Graft}
use Rattle.kernel_model.specs.World.{World, ImageTable}
use Rattle.kernel_model.specs.Objects.{Accounts, Things}
use Rattle.kernel_model.specs.Charges.{funds, charge, removed}
use Rattle.kernel_model.specs.Locks.{Touched, touch, is_held}
use Rattle.kernel_model.specs.Levels.{Level, Config, Effect, Asked, Charged, Removed, is_going_on}
use Rattle.kernel_model.specs.Levels.{level_at, touch_outermost, outermost_touched}
use Rattle.kernel_model.specs.GraftStep.{micro}
use Rattle.kernel_model.specs.History.{Mark, Past, Trace, effects_on, effect, marks_on}
use Rattle.kernel_model.specs.History.{effects_since, marks_before, config_if, with_accounts_of}
use Rattle.graft_laws.specs.Histories.{outside_of}
use Rattle.graft_laws.proofs.MarkLemmas.{effects_split, charged_split, removed_split}
use Rattle.graft_laws.proofs.OuterLemmas.{IsSameGraft, effect_then, touch_splits}
use Rattle.kernel_laws.proofs.SoundConfigLemmas.{at_top, at_inner, at_below}

-- ---- effects on other things, with other inner levels

-- level 0 touches the grafts of these points
abbrev pub touch_points : ℕ → List ℕ → List Level → List Level
touch_points q [] ls = ls
touch_points q (pt ∷ pts) ls = touch_points q pts (touch_outermost (Graft q pt) ls)

-- what level 0 holds then
pub outermost_after : (o : Object) (k : Level) (ks : List Level) → outermost_touched (touch_outermost o
    (k ∷ ks)) ≡ touch o Mode.Exclusive (outermost_touched (k ∷ ks))
outermost_after o k [] = refl
outermost_after o k (m ∷ ks) = inside k (touch_outermost o (m ∷ ks)) (touched_some m ks) ∙ outermost_after o m ks
  where
    touched_some : (m : Level) (ks : List Level) →
        (c : Level) × (cs : List Level) × (touch_outermost o (m ∷ ks) ≡ c ∷ cs)
    touched_some m [] = (record m { touched = touch o Mode.Exclusive m.touched }, [], refl)
    touched_some m (n ∷ ks) = (m, touch_outermost o (n ∷ ks), refl)

    inside : (k : Level) (xs : List Level) → (c : Level) × (cs : List Level) × (xs ≡ c ∷ cs) →
        outermost_touched (k ∷ xs) ≡ outermost_touched xs
    inside k xs e = subst (λ ys. outermost_touched (k ∷ ys) ≡ outermost_touched ys) (sym e.2) refl

-- effects of grafts of q lead from a state and levels to the same accounts and touched grafts,
-- whatever the things and the inner level
pub record Leads (q : ℕ) (es : List Effect) (a b : Accounts) (t : Touched) (pts : List ℕ) : Type 0 where
  pub on : (x : Things) (n k : Level) (ks : List Level) → outermost_touched (k ∷ ks) ≡ t →
      effects_on q es (record { now = record { accounts = a; things = x }; levels = n ∷ k ∷ ks })
      ≡ Some (record {
        now = record { accounts = b; things = x };
        levels = n ∷ touch_points q pts (k ∷ ks);
      })

-- where they lead from one config, they lead so from each like it
pub record LeadsTo (q : ℕ) (es : List Effect) (a : Accounts) (x : Things) (n k : Level)
    (ks : List Level) (d : Config) : Type 0 where
  pub accounts : Accounts
  pub points : List ℕ
  pub is : record { now = record { accounts = accounts; things = x }; levels = n ∷ touch_points q points (k ∷ ks) } ≡ d
  pub leads : Leads q es a accounts (outermost_touched (k ∷ ks)) points

pub effects_lead_to : (q : ℕ) (es : List Effect) (a : Accounts) (x : Things) (n k : Level)
    (ks : List Level) (d : Config) →
    effects_on q es (record { now = record { accounts = a; things = x }; levels = n ∷ k ∷ ks })
    ≡ Some d → LeadsTo q es a x n k ks d
effects_lead_to q [] a x n k ks d h =
    record {
      accounts = a;
      points = [];
      is = is_it (record { now = record { accounts = a; things = x }; levels = n ∷ k ∷ ks }) d h;
      leads = record { on = λ y m j js e. refl };
    }
  where
    is_it : (c d : Config) → Some c ≡ Some d → c ≡ d
    is_it c d h = cc
effects_lead_to q (Asked pt ∷ es) a x n k ks d h =
    let o = Graft q pt in
    let s = touch_splits o k ks in
    let rest = effects_lead_to q es a x n s.0 (touch_outermost o ks) d (subst (λ ls. effects_on q es
    (record { now = record { accounts = a; things = x }; levels = n ∷ ls }) ≡ Some d) s.1 h) in
    record {
      accounts = rest.accounts;
      points = pt ∷ rest.points;
      is =
          ap (λ ls. record {
            now = record { accounts = rest.accounts; things = x };
            levels = n ∷ touch_points q rest.points ls;
          }) s.1 ∙ rest.is;
      leads = record {
        on = λ y m j js e.
            let r = touch_splits o j js in
            let same = ap outermost_touched (sym r.1) ∙ outermost_after o j js
            ∙ ap (touch o Mode.Exclusive) e ∙ sym (outermost_after o k ks)
            ∙ ap outermost_touched s.1 in
            subst (λ ls. effects_on q es (record { now = record { accounts = a; things = y }; levels = m ∷ ls })
            ≡ Some (record {
              now = record { accounts = rest.accounts; things = y };
              levels = m ∷ touch_points q rest.points ls;
            })) (sym r.1) (rest.leads.on y m r.0 (touch_outermost o js) same);
      };
    }
effects_lead_to q (Charged pt kind ∷ es) a x n k ks d h =
    let c : Config = record { now = record { accounts = a; things = x }; levels = n ∷ k ∷ ks } in
    let s = effects_split q (Charged pt kind) es c d h in
    let f = charged_split q pt kind c s.0 s.1 in
    let rest = effects_lead_to q es (charge kind q pt a) x n k ks d
    (subst (λ (y : Config). effects_on q es y ≡ Some d) (sym f.2) s.2) in
    record {
      accounts = rest.accounts;
      points = rest.points;
      is = rest.is;
      leads = record {
        on = λ y m j js e.
            let u : Config = record { now = record { accounts = a; things = y }; levels = m ∷ j ∷ js } in
            effect_then q (Charged pt kind) es u (record {
              now = record { accounts = charge kind q pt a; things = y };
              levels = m ∷ j ∷ js;
            })
            (record {
              now = record { accounts = rest.accounts; things = y };
              levels = m ∷ touch_points q rest.points (j ∷ js);
            })
            (charged_like q pt kind a x y n m k j ks js e (s.1 ∙ ap Some (sym f.2))) (rest.leads.on y m j js e);
      };
    }
  where
    charged_like : (q pt : ℕ) (kind : Kind) (a : Accounts) (x y : Things) (n m k j : Level)
        (ks js : List Level) → outermost_touched (j ∷ js) ≡ outermost_touched (k ∷ ks) →
        effect q (Charged pt kind) (record { now = record { accounts = a; things = x }; levels = n ∷ k ∷ ks })
        ≡ Some (record { now = record { accounts = charge kind q pt a; things = x }; levels = n ∷ k ∷ ks }) →
        effect q (Charged pt kind) (record { now = record { accounts = a; things = y }; levels = m ∷ j ∷ js })
        ≡ Some (record { now = record { accounts = charge kind q pt a; things = y }; levels = m ∷ j ∷ js })
    charged_like q pt kind a x y n m k j ks js e h =
        let c : Config = record { now = record { accounts = a; things = x }; levels = n ∷ k ∷ ks } in
        let u : Config = record { now = record { accounts = a; things = y }; levels = m ∷ j ∷ js } in
        let f = charged_split q pt kind c (record {
          now = record { accounts = charge kind q pt a; things = x };
          levels = n ∷ k ∷ ks;
        }) h in
        ap (λ (t : Touched). config_if (is_some (a.graft q pt) && is_held (t (Graft q pt))
        && not (funds a q pt kind == 0)) (with_accounts_of (charge kind q pt a) u)) e
        ∙ ap (λ b. config_if (b && not (funds a q pt kind == 0)) (with_accounts_of (charge kind q pt a) u)) f.0
        ∙ ap (λ b. config_if b (with_accounts_of (charge kind q pt a) u)) (some_funds (funds a q pt kind) f.1)
      where
        some_funds : (n : ℕ) → 1 ≤ n → not (n == 0) ≡ true
        some_funds n e = grind (arith, nat_tests)
effects_lead_to q (Removed pt ∷ es) a x n k ks d h =
    let c : Config = record { now = record { accounts = a; things = x }; levels = n ∷ k ∷ ks } in
    let s = effects_split q (Removed pt) es c d h in
    let f = removed_split q pt c s.0 s.1 in
    let rest = effects_lead_to q es (removed q pt a) x n k ks d
    (subst (λ (y : Config). effects_on q es y ≡ Some d) (sym f.1) s.2) in
    record {
      accounts = rest.accounts;
      points = rest.points;
      is = rest.is;
      leads = record {
        on = λ y m j js e.
            let u : Config = record { now = record { accounts = a; things = y }; levels = m ∷ j ∷ js } in
            effect_then q (Removed pt) es u (record {
              now = record { accounts = removed q pt a; things = y };
              levels = m ∷ j ∷ js;
            })
            (record {
              now = record { accounts = rest.accounts; things = y };
              levels = m ∷ touch_points q rest.points (j ∷ js);
            })
            (ap (λ (t : Touched). config_if (is_some (a.graft q pt) && is_held (t (Graft q pt)))
            (with_accounts_of (removed q pt a) u)) e
            ∙ ap (λ b. config_if b (with_accounts_of (removed q pt a) u)) f.0)
            (rest.leads.on y m j js e);
      };
    }

-- ---- where levels began

-- Level l, inside others (outer), began at an ask behind n marks; the effects since (newest first)
-- lead from there to these accounts.
pub record HasRoot (v : World) (images : ImageTable) (p : ℕ) (t0 : Trace) (hs : List Mark)
    (a : Accounts) (effects : List Effect) (l : Level) (outer : List Level) (n : ℕ) : Type 0 where
  pub low : n ≤ length hs
  pub trace : Trace
  pub prefix : marks_on v images p (take n hs) t0 ≡ Some trace
  pub went : is_going_on (micro v images p trace.config).said ≡ true
  pub more : length (micro v images p trace.config).config.levels ≡ suc (length trace.config.levels)
  pub new : Level
  pub rest : List Level
  pub begun : (micro v images p trace.config).config.levels ≡ new ∷ rest
  pub owner : new.owner ≡ l.owner
  pub point : new.point ≡ l.point
  pub leads : effects_on new.owner (reverse effects) (micro v images p trace.config).config
      ≡ Some (record { now = record { accounts = a; things = l.kept }; levels = new ∷ outer })

module _ (v : World) (images : ImageTable) (p : ℕ) (t0 : Trace) where
  -- each level above 0 has such a beginning, where the effects of levels further inward come first
  abbrev pub AreRooted : List Mark → Accounts → List Effect → List Level → List Past → Type 0
  AreRooted hs a es [] ps = ⊥
  AreRooted hs a es (l ∷ []) (b ∷ []) = ⊤
  AreRooted hs a es (l ∷ []) ps = ⊥
  AreRooted hs a es (l ∷ k ∷ ls) [] = ⊥
  AreRooted hs a es (l ∷ k ∷ ls) (b ∷ ps) =
      HasRoot v images p t0 hs a (es ++ b.effects) l (k ∷ ls) b.began
      × AreRooted hs a (es ++ b.effects) (k ∷ ls) ps

  -- as many pasts as levels
  pub rooted_length : (hs : List Mark) (a : Accounts) (es : List Effect) (ls : List Level)
      (ps : List Past) → AreRooted hs a es ls ps → length ps ≡ length ls
  rooted_length hs a es [] ps h = absurd h
  rooted_length hs a es (l ∷ []) [] h = absurd h
  rooted_length hs a es (l ∷ []) (b ∷ []) h = refl
  rooted_length hs a es (l ∷ []) (b ∷ c ∷ ps) h = absurd h
  rooted_length hs a es (l ∷ k ∷ ls) [] h = absurd h
  rooted_length hs a es (l ∷ k ∷ ls) (b ∷ ps) h = ap suc (rooted_length hs a (es ++ b.effects) (k ∷ ls) ps h.1)

  -- the innermost past may take over effects from further inward
  pub rooted_over : (hs : List Mark) (a : Accounts) (es fs : List Effect) (ls : List Level)
      (b c : Past) (ps : List Past) → es ++ b.effects ≡ fs ++ c.effects → b.began ≡ c.began →
      AreRooted hs a es ls (b ∷ ps) → AreRooted hs a fs ls (c ∷ ps)
  rooted_over hs a es fs [] b c ps e n h = absurd h
  rooted_over hs a es fs (l ∷ []) b c [] e n h = tt
  rooted_over hs a es fs (l ∷ []) b c (d ∷ ps) e n h = absurd h
  rooted_over hs a es fs (l ∷ k ∷ ls) b c ps e n h = (
    subst (λ gs. HasRoot v images p t0 hs a gs l (k ∷ ls) c.began) e
        (subst (λ i. HasRoot v images p t0 hs a (es ++ b.effects) l (k ∷ ls) i) n h.0),
    subst (λ gs. AreRooted hs a gs (k ∷ ls) ps) e h.1,
  )

  -- further marks
  pub rooted_further : (hs gs : List Mark) (a : Accounts) (es : List Effect) (ls : List Level)
      (ps : List Past) → AreRooted hs a es ls ps → AreRooted (hs ++ gs) a es ls ps
  rooted_further hs gs a es [] ps h = absurd h
  rooted_further hs gs a es (l ∷ []) [] h = absurd h
  rooted_further hs gs a es (l ∷ []) (b ∷ []) h = tt
  rooted_further hs gs a es (l ∷ []) (b ∷ c ∷ ps) h = absurd h
  rooted_further hs gs a es (l ∷ k ∷ ls) [] h = absurd h
  rooted_further hs gs a es (l ∷ k ∷ ls) (b ∷ ps) h = (
    let r = h.0 in record {
      low = longer b.began (length hs) (length gs) (length (hs ++ gs)) (length-append hs gs) r.low;
      trace = r.trace;
      prefix = ap (λ ms. marks_on v images p ms t0) (take-append-le b.began hs gs r.low) ∙ r.prefix;
      went = r.went;
      more = r.more;
      new = r.new;
      rest = r.rest;
      begun = r.begun;
      owner = r.owner;
      point = r.point;
      leads = r.leads;
    },
    rooted_further hs gs a (es ++ b.effects) (k ∷ ls) ps h.1,
  )
    where
      longer : (n x y z : ℕ) → z ≡ x + y → n ≤ x → n ≤ z
      longer n x y z e h = omega arith

  -- ---- effects on

  -- effects after effects
  pub effects_both : (q : ℕ) (es fs : List Effect) (c d : Config) → effects_on q es c ≡ Some d →
      effects_on q (es ++ fs) c ≡ effects_on q fs d
  effects_both q [] fs c d h =
      ap (λ (x : Option Config). elim x as (λ _. Option Config) [
        | None ↦ None
        | Some y ↦ effects_on q fs y
      ]) h
  effects_both q (e ∷ es) fs c d h =
      let s = effects_split q e es c d h in
      ap (λ (x : Option Config). elim x as (λ _. Option Config) [
        | None ↦ None
        | Some y ↦ effects_on q (es ++ fs) y
      ]) s.1 ∙ effects_both q es fs s.0 d s.2

  pub touched_splits : (q : ℕ) (pts : List ℕ) (k : Level) (ks : List Level) →
      (c : Level) × (touch_points q pts (k ∷ ks) ≡ c ∷ touch_points q pts ks) × IsSameGraft c k
  touched_splits q [] k ks = (k, refl, record { owner = refl; point = refl; kept = refl })
  touched_splits q (pt ∷ pts) k ks =
      let s = touch_splits (Graft q pt) k ks in
      let r = touched_splits q pts s.0 (touch_outermost (Graft q pt) ks) in (
        r.0,
        ap (touch_points q pts) s.1 ∙ r.1,
        record {
          owner = r.2.owner ∙ s.2.owner;
          point = r.2.point ∙ s.2.point;
          kept = r.2.kept ∙ s.2.kept;
        },
      )

  -- the levels are all of grafts of one process
  abbrev pub AreOf : ℕ → List Level → Type 0
  AreOf q [] = ⊤
  AreOf q (l ∷ ls) = (l.owner ≡ q) × AreOf q ls

  -- after effects that lead on, all levels are rooted still
  pub rooted_on : (hs : List Mark) (q : ℕ) (fs : List Effect) (a b : Accounts) (pts : List ℕ)
      (es : List Effect) (l n : Level) (ls : List Level) (ps : List Past) → AreOf q (l ∷ ls) →
      Leads q fs a b (outermost_touched (l ∷ ls)) pts →
      IsSameGraft n l → AreRooted hs a es (l ∷ ls) ps →
      AreRooted hs b (reverse fs ++ es) (n ∷ touch_points q pts ls) ps
  rooted_on hs q fs a b pts es l n [] [] of leads same h = absurd h
  rooted_on hs q fs a b pts es l n [] (c ∷ []) of leads same h =
      subst (λ xs. AreRooted hs b (reverse fs ++ es) (n ∷ xs) (c ∷ []))
      (sym (touched_none q pts)) tt
    where
      touched_none : (q : ℕ) (pts : List ℕ) → touch_points q pts [] ≡ []
      touched_none q [] = refl
      touched_none q (pt ∷ pts) = touched_none q pts
  rooted_on hs q fs a b pts es l n [] (c ∷ d ∷ ps) of leads same h = absurd h
  rooted_on hs q fs a b pts es l n (k ∷ ls) [] of leads same h = absurd h
  rooted_on hs q fs a b pts es l n (k ∷ ls) (c ∷ ps) of leads same h =
      let s = touched_splits q pts k ls in
      let r = h.0 in
      let start = (micro v images p r.trace.config).config in
      let middle : Config = record { now = record { accounts = a; things = l.kept }; levels = r.new ∷ k ∷ ls } in
      let own = r.owner ∙ of.0 in
      let together : reverse (reverse fs ++ es ++ c.effects) ≡ reverse (es ++ c.effects) ++ fs =
      ap reverse (append_assoc (reverse fs) es c.effects)
      ∙ reverse-append (reverse fs) (es ++ c.effects)
      ∙ ap (λ gs. reverse (es ++ c.effects) ++ gs) (reverse-reverse fs) in
      let on : effects_on r.new.owner (reverse (reverse fs ++ es ++ c.effects)) start
      ≡ Some (record {
        now = record { accounts = b; things = l.kept };
        levels = r.new ∷ touch_points q pts (k ∷ ls);
      }) =
      ap (λ gs. effects_on r.new.owner gs start) together
      ∙ effects_both r.new.owner (reverse (es ++ c.effects)) fs start middle r.leads
      ∙ ap (λ i. effects_on i fs middle) own ∙ leads.on l.kept r.new k ls refl in
      subst (λ xs. AreRooted hs b (reverse fs ++ es) (n ∷ xs) (c ∷ ps)) (sym s.1) (
        record {
          low = r.low;
          trace = r.trace;
          prefix = r.prefix;
          went = r.went;
          more = r.more;
          new = r.new;
          rest = r.rest;
          begun = r.begun;
          owner = r.owner ∙ sym same.owner;
          point = r.point ∙ sym same.point;
          leads =
              subst (λ x. effects_on r.new.owner (reverse (reverse fs ++ es ++ c.effects)) start
              ≡ Some (record {
                now = record { accounts = b; things = x };
                levels = r.new ∷ s.0 ∷ touch_points q pts ls;
              })) (sym same.kept)
              (subst (λ xs. effects_on r.new.owner (reverse (reverse fs ++ es ++ c.effects)) start
              ≡ Some (record {
                now = record { accounts = b; things = l.kept };
                levels =
                    r.new ∷ xs;
              })) s.1 on);
        },
        subst (λ gs. AreRooted hs b gs (s.0 ∷ touch_points q pts ls) ps)
            (sym (append_assoc (reverse fs) es c.effects))
            (rooted_on hs q fs a b pts (es ++ c.effects) k s.0 ls ps of.1 leads s.2 h.1),
      )

  -- ---- a level by its number

  pub root_of : (hs : List Mark) (a : Accounts) (es : List Effect) (ls : List Level) (ps : List
      Past) (d : ℕ) (l : Level) → AreRooted hs a es ls ps → 1 ≤ d → level_at d ls ≡ Some l →
      HasRoot v images p t0 hs a (es ++ effects_since d ps) l (outside_of d ls) (marks_before d ps)
  root_of hs a es [] ps d l h some e = absurd h
  root_of hs a es (x ∷ []) ps d l h some e = absurd (above_none d some (at_below d (x ∷ []) l e))
    where
      above_none : (d : ℕ) → 1 ≤ d → d < 1 → ⊥
      above_none d h k = omega arith
  root_of hs a es (x ∷ k ∷ ls) [] d l h some e = absurd h
  root_of hs a es (x ∷ k ∷ ls) (b ∷ ps) d l h some e =
      let size = rooted_length hs a (es ++ b.effects) (k ∷ ls) ps h.1 in
      elim (cases_Bool (length (k ∷ ls) == d)) [
        | inl top ↦
            let here = is_it x l (sym (at_top d x (k ∷ ls) top) ∙ e) in
            let same = same_number (length ps) (length (k ∷ ls)) d size top in
            let since : effects_since d (b ∷ ps) ≡ b.effects = since_top d b ps same in
            subst (λ (y : Level). HasRoot v images p t0 hs a (es ++ effects_since d (b ∷ ps)) y
            (outside_of d (x ∷ k ∷ ls)) (marks_before d (b ∷ ps))) here
            (subst (λ gs. HasRoot v images p t0 hs a (es ++ gs) x
            (outside_of d (x ∷ k ∷ ls)) (marks_before d (b ∷ ps))) (sym since)
            (subst (λ xs. HasRoot v images p t0 hs a (es ++ b.effects) x xs
            (marks_before d (b ∷ ps))) (sym (outside_top d x (k ∷ ls) top))
            (subst (λ i. HasRoot v images p t0 hs a (es ++ b.effects) x (k ∷ ls) i) (sym (marks_top d b ps same)) h.0)))
        | inr inner ↦
            let further = sym (at_inner d x (k ∷ ls) inner) ∙ e in
            let low = subst (λ i. d < i) (sym size) (at_below d (k ∷ ls) l further) in
            let rest = root_of hs a (es ++ b.effects) (k ∷ ls) ps d l h.1 some further in
            subst (λ gs. HasRoot v images p t0 hs a gs l (outside_of d (x ∷ k ∷ ls))
            (marks_before d (b ∷ ps))) (append_assoc es b.effects (effects_since d ps)
            ∙ ap (λ gs. es ++ gs) (sym (since_inner d b ps low)))
            (subst (λ xs. HasRoot v images p t0 hs a (es ++ b.effects ++ effects_since d ps) l xs
            (marks_before d (b ∷ ps))) (sym (outside_inner d x (k ∷ ls) inner))
            (subst (λ i. HasRoot v images p t0 hs a (es ++ b.effects ++ effects_since d ps) l
            (outside_of d (k ∷ ls)) i) (sym (marks_inner d b ps low)) rest))
      ]
    where
      is_it : (x y : Level) → Some x ≡ Some y → x ≡ y
      is_it x y e = cc

      same_number : (i j d : ℕ) → i ≡ j → (j == d) ≡ true → i ≡ d
      same_number i j d e h = grind (arith, nat_tests)

      outside_top : (d : ℕ) (x : Level) (ls : List Level) → (length ls == d) ≡ true → outside_of d (x ∷ ls) ≡ ls
      outside_top d x ls h = ap (λ b. elim b as (λ _. List Level) [ true ↦ ls | false ↦ outside_of d ls ]) h

      outside_inner : (d : ℕ) (x : Level) (ls : List Level) → (length ls == d) ≡ false →
          outside_of d (x ∷ ls) ≡ outside_of d ls
      outside_inner d x ls h = ap (λ b. elim b as (λ _. List Level) [ true ↦ ls | false ↦ outside_of d ls ]) h

      at_most : (d i : ℕ) → i ≡ d → nat_le d i ≡ true
      at_most d i e = grind (arith, nat_tests)

      below_le : (d i : ℕ) → d < i → nat_le d i ≡ true
      below_le d i e = grind (arith, nat_tests)

      differs : (d i : ℕ) → d < i → (i == d) ≡ false
      differs d i e = grind (arith, nat_tests)

      is_same : (d i : ℕ) → i ≡ d → (i == d) ≡ true
      is_same d i e = grind (arith, nat_tests)

      since_none : (d : ℕ) (ps : List Past) → length ps ≤ d → effects_since d ps ≡ []
      since_none d [] h = refl
      since_none d (a ∷ ps) h =
          ap (λ b. elim b as (λ _. List Effect) [
            | true ↦ a.effects ++ effects_since d ps
            | false ↦ []
          ]) (not_le d (length ps) h)
        where
          not_le : (d i : ℕ) → suc i ≤ d → nat_le d i ≡ false
          not_le d i e = grind (arith, nat_tests)

      since_top : (d : ℕ) (b : Past) (ps : List Past) → length ps ≡ d → effects_since d (b ∷ ps) ≡ b.effects
      since_top d b ps e =
          ap (λ x. elim x as (λ _. List Effect) [
            | true ↦ b.effects ++ effects_since d ps
            | false ↦ []
          ]) (at_most d (length ps) e)
          ∙ ap (λ gs. b.effects ++ gs) (since_none d ps (subst (λ i. i ≤ d) (sym e) (le_self d))) ∙ append-nil b.effects
        where
          le_self : (d : ℕ) → d ≤ d
          le_self d = omega arith

      since_inner : (d : ℕ) (b : Past) (ps : List Past) → d < length ps →
          effects_since d (b ∷ ps) ≡ b.effects ++ effects_since d ps
      since_inner d b ps low =
          ap (λ x. elim x as (λ _. List Effect) [
            | true ↦ b.effects ++ effects_since d ps
            | false ↦ []
          ]) (below_le d (length ps) low)

      marks_top : (d : ℕ) (b : Past) (ps : List Past) → length ps ≡ d → marks_before d (b ∷ ps) ≡ b.began
      marks_top d b ps e =
          ap (λ x. elim x as (λ _. ℕ) [ true ↦ b.began | false ↦ marks_before d ps ])
          (is_same d (length ps) e)

      marks_inner : (d : ℕ) (b : Past) (ps : List Past) → d < length ps → marks_before d (b ∷ ps) ≡ marks_before d ps
      marks_inner d b ps low =
          ap (λ x. elim x as (λ _. ℕ) [ true ↦ b.began | false ↦ marks_before d ps ])
          (differs d (length ps) low)
