-- The drop of a level of a graft call that was replayed.
use Rattle.std.specs.Prelude.{◌≡◌, ◌≢◌, ℕ, suc, ◌<◌, ◌==◌, Bool, true, false, List, [], ◌∷◌, length, Contains, ⊤}
use Rattle.std.proofs.Common.{arith, refl, subst, sym, ap, ◌∙◌, inl, inr}
use Rattle.std.proofs.lemmas.Bool.{cases_Bool}
use Rattle.std.proofs.lemmas.Bool.Decides.{nat_tests}
use Rattle.kernel_model.specs.declared.Cause.{Cause}
use Rattle.kernel_model.specs.declared.Held.{Held}
use Rattle.kernel_model.specs.declared.Object.{Object}
use Rattle.kernel_model.specs.declared.Object.TheVariants.{Graft, Acct, Cell, OpenFile, Queue, Cache, Lock, Pol}
use Rattle.kernel_model.specs.World.{World}
use Rattle.kernel_model.specs.Objects.{Objects, Accounts, Things, SameAt, SameThing}
use Rattle.kernel_model.specs.Policies.{default_of}
use Rattle.kernel_model.specs.Locks.{is_held, is_held_exclusively}
use Rattle.kernel_model.specs.Levels.{Level, Config, Outcome, outermost_touched, answer_innermost}
use Rattle.kernel_model.specs.Levels.{state_without, drop_innermost, drop_level}
use Rattle.kernel_model.specs.InPlace.{is_changed_in}
use Rattle.kernel_model.specs.Sound.{IsSoundConfig}
use Rattle.kernel_model.specs.Alike.{is_held_in}
use Rattle.kernel_laws.proofs.SoundConfigLemmas.{drops_stay_sound}
use Rattle.graft_laws.specs.Histories.{IsReplayed, DropsReplay}
use Rattle.graft_laws.proofs.PointLemmas.{or_right}
use Rattle.graft_laws.proofs.HoldLemmas.{changed_held}
use Rattle.graft_laws.proofs.GrownLemmas.{grown_answer, grown_asks, grown_outermost, grown_unchanged}
use Rattle.graft_laws.proofs.ShapeLemmas.{contrary, FoundAsIn, found_grown, found_at_level, level_found}
use Rattle.graft_laws.proofs.ConfigAlikeLemmas.{asks_of_rest}
use Rattle.std.proofs.lemmas.List.Elements.{Contains-append_right}
use Rattle.kernel_model.specs.Charges.{removed}
use Rattle.graft_laws.specs.Alike.{AsksAreHeld}
use Rattle.kernel_laws.proofs.FrameLemmas.{same_then, differ_frame, remove_differs, other_than}
use Rattle.kernel_laws.proofs.LevelLemmas.{outer_changed}

-- ---- the level that is dropped

-- the drop of a level (l), with the levels outside it (rest)
pub record DropsAt (v : World) (s : Things) (w : Objects) (ls : List Level) (n : ℕ) (cause : Cause) : Type 0 where
  pub level : Level
  pub rest : List Level
  pub number : length rest ≡ n
  pub is : drop_level v w ls n cause ≡ drop_innermost v w level rest cause
  pub among : Contains ls level
  pub found : FoundAsIn s (level ∷ rest)
  pub asks : AsksAreHeld rest
  pub held : (o : Object) → is_held_in rest o ≡ true → is_held_in ls o ≡ true
  pub changed : (o : Object) → is_changed_in rest o ≡ true → is_changed_in ls o ≡ true
  pub outer : rest ≢ [] → (o : Object) → outermost_touched ls o ≡ Held.Exclusive →
      outermost_touched rest o ≡ Held.Exclusive

pub drops_at : (v : World) (s : Things) (w : Objects) (ls : List Level) (n : ℕ) (cause : Cause) →
    n < length ls → FoundAsIn s ls → AsksAreHeld ls → DropsAt v s w ls n cause
drops_at v s w [] n cause low found asks = absurd (none_below n low)
  where
    none_below : (k : ℕ) → k < 0 → ⊥
    none_below k h = omega arith
drops_at v s w (l ∷ ls) n cause low found asks = elim (cases_Bool (length ls == n)) [
  | inl top ↦ record {
    level = l;
    rest = ls;
    number = same_number (length ls) n top;
    is =
        ap (λ b. elim b as (λ _. Outcome) [
          | true ↦ drop_innermost v w l ls cause
          | false ↦ drop_level v w ls n cause
        ]) top;
    among = (0, below_suc (length ls), refl);
    found = found;
    asks = asks_of_rest l ls asks;
    held = λ o h. or_right (is_held (l.touched o)) (is_held_in ls o) h;
    changed = λ o h. or_right (is_held_exclusively (l.touched o)) (is_changed_in ls o) h;
    outer = λ some o h. outside l ls some o h;
  }
  | inr inner ↦
      let k = drops_at v s w ls n cause (lower n (length ls) low inner) found.1 (asks_of_rest l ls asks) in record {
        level = k.level;
        rest = k.rest;
        number = k.number;
        is =
            ap (λ b. elim b as (λ _. Outcome) [
              | true ↦ drop_innermost v w l ls cause
              | false ↦ drop_level v w ls n cause
            ]) inner ∙ k.is;
        among = Contains-append_right (l ∷ []) ls k.level k.among;
        found = k.found;
        asks = k.asks;
        held = λ o h. or_right (is_held (l.touched o)) (is_held_in ls o) (k.held o h);
        changed = λ o h. or_right (is_held_exclusively (l.touched o)) (is_changed_in ls o) (k.changed o h);
        outer = λ some o h. k.outer some o (outside l ls (not_empty ls k.level k.among) o h);
      }
]
  where
    same_number : (a b : ℕ) → (a == b) ≡ true → a ≡ b
    same_number a b e = grind (arith, nat_tests)

    below_suc : (n : ℕ) → 0 < suc n
    below_suc n = omega arith

    lower : (n m : ℕ) → n < suc m → (m == n) ≡ false → n < m
    lower n m h e = grind (arith, nat_tests)

    outside : (l : Level) (ls : List Level) → ls ≢ [] → (o : Object) →
        outermost_touched (l ∷ ls) o ≡ Held.Exclusive → outermost_touched ls o ≡ Held.Exclusive
    outside l [] some o h = absurd (some refl)
    outside l (k ∷ ls) some o h = h

    not_empty : (ls : List Level) (k : Level) → Contains ls k → ls ≢ []
    not_empty ls k c none = nothing k (subst (λ xs. Contains xs k) none c)
      where
        nothing : (k : Level) → Contains [] k → ⊥
        nothing k c = none_below c.0 c.1
          where
            none_below : (k : ℕ) → k < 0 → ⊥
            none_below k h = omega arith

-- where a level is left there was one at the number
pub drop_low : (v : World) (w : Objects) (ls : List Level) (n : ℕ) (cause : Cause) →
    (drop_level v w ls n cause).config.levels ≢ [] → n < length ls
drop_low v w [] n cause some = absurd (some refl)
drop_low v w (l ∷ ls) n cause some = low_by (length ls == n) refl some (drop_low v w ls n cause)
  where
    top : (n m : ℕ) → (m == n) ≡ true → n < suc m
    top n m e = grind (arith, nat_tests)

    further : (n m : ℕ) → n < m → n < suc m
    further n m h = omega arith

    low_by : (b : Bool) → (length ls == n) ≡ b → (elim b as (λ _. Outcome) [
      | true ↦ drop_innermost v w l ls cause
      | false ↦ drop_level v w ls n cause
    ]).config.levels ≢ [] →
        ((drop_level v w ls n cause).config.levels ≢ [] → n < length ls) → n < suc (length ls)
    low_by true e some rest = top n (length ls) e
    low_by false e some rest = further n (length ls) (rest some)

-- ---- what is left

-- the account or graft of an object
abbrev pub IsAccount : Object → Type 0
IsAccount (Graft q pt) = ⊤
IsAccount (Acct q) = ⊤
IsAccount o = ⊥

-- accounts as in a state, and things too
pub both_parts : (o : Object) (a : Accounts) (x : Things) (w s : Objects) →
    a ≡ w.accounts → (IsAccount o → SameAt o w s) → SameThing o x s.things →
    SameAt o (record { accounts = a; things = x }) s
both_parts (Graft q pt) a x w s e h k = (ap (λ (b : Accounts). b.graft q pt) e ∙ (h tt).0, k)
both_parts (Acct q) a x w s e h k = ap (λ (b : Accounts). b.acct q) e ∙ h tt
both_parts (Cell q i) a x w s e h k = k
both_parts (OpenFile q fd) a x w s e h k = k
both_parts Queue a x w s e h k = k
both_parts Cache a x w s e h k = k
both_parts (Lock u) a x w s e h k = k
both_parts (Pol i) a x w s e h k = k

-- a graft or an account that level 0 doesn't hold exclusively isn't held so by any
account_unchanged : (v : World) (s : Objects) (c : Config) (o : Object) →
    IsReplayed v s c → (outermost_touched c.levels o ≡ Held.Exclusive → ⊥) → IsAccount o →
    is_changed_in c.levels o ≡ false
account_unchanged v s c (Graft q pt) h none k = elim (cases_Bool (is_changed_in c.levels (Graft q pt))) [
  | inl some ↦ absurd (none (h.grafts q pt (changed_held c.levels (Graft q pt) some)))
  | inr same ↦ same
]
account_unchanged v s c (Acct q) h none k =
    elim (cases_Bool (is_changed_in c.levels (Acct q))) [
      | inl some ↦ absurd (none (h.accounts q some))
      | inr same ↦ same
    ]
account_unchanged v s c (Cell q i) h none k = absurd k
account_unchanged v s c (OpenFile q fd) h none k = absurd k
account_unchanged v s c Queue h none k = absurd k
account_unchanged v s c Cache h none k = absurd k
account_unchanged v s c (Lock u) h none k = absurd k
account_unchanged v s c (Pol i) h none k = absurd k

-- the levels outside the dropped one
rest_replays : (v : World) (s : Objects) (c : Config) (n : ℕ) (cause : Cause) → IsReplayed v s c →
    (d : DropsAt v s.things c.now c.levels n cause) → d.rest ≢ [] →
    IsSoundConfig v (drop_innermost v c.now d.level d.rest cause).config →
    IsReplayed v s (drop_innermost v c.now d.level d.rest cause).config
rest_replays v s c n cause h d some sound =
    let l = d.level in
    let x = default_of v l.kept l.owner l.point in
    let rs = answer_innermost l.point x.0 x.1 d.rest in
    let answered = grown_answer l.point x.0 x.1 d.rest in
    let outer : (o : Object) → outermost_touched c.levels o ≡ Held.Exclusive → outermost_touched rs o ≡ Held.Exclusive =
    λ o e. grown_outermost rs d.rest o answered (d.outer some o e) in
    let paid = h.sound.paid l d.among in
    record {
      sound = sound;
      asks = grown_asks rs d.rest answered d.asks;
      grafts =
          λ q pt e. outer (Graft q pt) (h.grafts q pt
          (d.held (Graft q pt) (answered_held l.point x.0 x.1 d.rest (Graft q pt) e)));
      accounts =
          λ q e. outer (Acct q)
          (h.accounts q (d.changed (Acct q) (answered_changed l.point x.0 x.1 d.rest (Acct q) e)));
      ranges = λ o e. h.ranges o (d.held o (answered_held l.point x.0 x.1 d.rest o e));
      now = λ o none.
          let thing = d.found.0 o (grown_unchanged rs d.rest o answered none) in
          let before : SameAt o (record { accounts = c.now.accounts; things = l.kept }) s =
          both_parts o c.now.accounts l.kept c.now s refl
          (λ k. h.now o (account_unchanged v s c o h (λ e. absurd
          (contrary (sym (outer_changed rs o (outer o e)) ∙ none))) k)) thing in
          same_then o (state_without l c.now) (record { accounts = c.now.accounts; things = l.kept }) s
          (differ_frame l.owner l.point (removed l.owner l.point c.now.accounts) c.now.accounts
          l.kept o (remove_differs l.owner l.point c.now.accounts)
          (other_than rs o (Graft l.owner l.point) none
          (outer_changed rs (Graft l.owner l.point) (outer (Graft l.owner l.point) paid.0)))
          (other_than rs o (Acct l.owner) none
          (outer_changed rs (Acct l.owner) (outer (Acct l.owner) paid.1)))) before;
      kept =
          λ i k o e none. found_at_level s.things rs i k o
          (found_grown s.things rs d.rest answered d.found.1) e none;
    }
  where
    answered_held : (pt r0 r1 : ℕ) (ls : List Level) (o : Object) →
        is_held_in (answer_innermost pt r0 r1 ls) o ≡ true → is_held_in ls o ≡ true
    answered_held pt r0 r1 [] o h = h
    answered_held pt r0 r1 (k ∷ ls) o h = h

    answered_changed : (pt r0 r1 : ℕ) (ls : List Level) (o : Object) →
        is_changed_in (answer_innermost pt r0 r1 ls) o ≡ true → is_changed_in ls o ≡ true
    answered_changed pt r0 r1 [] o h = h
    answered_changed pt r0 r1 (k ∷ ls) o h = h

pub drop_at : (v : World) (s : Objects) (c : Config) (n : ℕ) (cause : Cause) → IsReplayed v s c →
    n < length c.levels → DropsAt v s.things c.now c.levels n cause
drop_at v s c n cause h low =
    drops_at v s.things c.now c.levels n cause low (level_found s.things c.levels h.kept) h.asks

drop_some : (v : World) (s : Objects) (c : Config) (n : ℕ) (cause : Cause) → IsReplayed v s c →
    (drop_level v c.now c.levels n cause).config.levels ≢ [] →
    IsReplayed v s (drop_level v c.now c.levels n cause).config
drop_some v s c n cause h some =
    let d = drop_at v s c n cause h (drop_low v c.now c.levels n cause some) in
    subst (λ (o : Outcome). IsReplayed v s o.config) (sym d.is)
    (rest_replays v s c n cause h d (rest_some d.level d.rest (subst (λ (o : Outcome). o.config.levels ≢ []) d.is some))
    (subst (λ (o : Outcome). IsSoundConfig v o.config) d.is (drops_stay_sound v c n cause h.sound some)))
  where
    rest_some : (l : Level) (rest : List Level) → (drop_innermost v c.now l rest cause).config.levels ≢ [] → rest ≢ []
    rest_some l [] some none = some refl
    rest_some l (k ∷ rest) some none = bad k rest none
      where
        bad : (k : Level) (rest : List Level) → k ∷ rest ≡ [] → ⊥
        bad k rest h = cc

drop_none : (v : World) (s : Objects) (c : Config) (n : ℕ) (cause : Cause) (o : Object) →
    IsReplayed v s c → (drop_level v c.now c.levels n cause).config.levels ≡ [] →
    n < length c.levels →
    SameThing o (drop_level v c.now c.levels n cause).config.now.things s.things
drop_none v s c n cause o h none low =
    let d = drop_at v s c n cause h low in
    subst (λ (x : Outcome). SameThing o x.config.now.things s.things) (sym d.is)
    (kept_as d.level d.rest d.found (subst (λ (x : Outcome). x.config.levels ≡ []) d.is none))
  where
    kept_as : (l : Level) (rest : List Level) → FoundAsIn s.things (l ∷ rest) →
        (drop_innermost v c.now l rest cause).config.levels ≡ [] → SameThing o l.kept s.things
    kept_as l [] found none = found.0 o refl
    kept_as l (k ∷ rest) found none = absurd cc

pub drops_replay : DropsReplay
drops_replay = record { some = drop_some; none = drop_none }
