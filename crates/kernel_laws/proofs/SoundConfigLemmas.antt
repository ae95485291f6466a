-- A sound graft call has levels that are held and works on its own state, and the other way round.
use Rattle.std.specs.Prelude.{◌≡◌, ◌≢◌, ℕ, suc, ◌<◌, ◌≤◌, ◌==◌, ◌&&◌, ◌||◌, Bool, true, false, not}
use Rattle.std.specs.Prelude.{List, [], ◌∷◌, length, Option, Some, None, Contains, ⊤}
use Rattle.std.specs.List.{AllByRecursion}
use Rattle.std.proofs.Common.{arith, refl, subst, sym, ap, ◌∙◌, inl, inr}
use Rattle.std.proofs.lemmas.Bool.{cases_Bool, and_parts, eqb-true}
use Rattle.std.proofs.lemmas.Bool.Decides.{nat_tests}
use Rattle.kernel_model.specs.declared.Inverse.{Inverse}
use Rattle.kernel_model.specs.declared.Inverse.TheVariants.{Nice, Window, Mark, Tune, Segment}
use Rattle.kernel_model.specs.declared.Point.{Point}
use Rattle.kernel_model.specs.World.{World}
use Rattle.kernel_model.specs.Objects.{Objects, Accounts, Things}
use Rattle.kernel_model.specs.Access.{Found, undo_by, undo}
use Rattle.kernel_model.specs.UndoLog.{undo_all, undo_log, kept_by_log}
use Rattle.kernel_model.specs.Levels.{Level, Config, Effect, Asked, Charged, Removed, Outcome}
use Rattle.kernel_model.specs.Levels.{level_at, outermost_touched, drop_innermost, drop_level}
use Rattle.kernel_model.specs.GraftStep.{is_running, micro}
use Rattle.kernel_model.specs.Alike.{AreAlike}
use Rattle.kernel_model.specs.Claims.{ConfigsStaySound, EffectsStaySound}
use Rattle.kernel_model.specs.Charges.{funds, charge, removed}
use Rattle.kernel_model.specs.History.{is_found, config_if, with_accounts_of, effect}
use Rattle.kernel_model.specs.declared.Cause.{Cause}
use Rattle.kernel_model.specs.declared.Kind.{Kind}
use Rattle.kernel_laws.proofs.StoreLemmas.{charge_store, removed_store}
use Rattle.kernel_model.specs.Sound.{IsSoundStore, IsSoundConfig, once_if}
use Rattle.kernel_model.specs.Policies.{lives}
use Rattle.kernel_laws.specs.Soundness.{AreGraftsWork, found_by, IsAskedAt, WorksOn, DropsStaySound}
use Rattle.kernel_laws.specs.Undoing.{IsOnceIn}
use Rattle.kernel_laws.proofs.AccessLemmas.{nice_alike, window_alike, mark_alike, param_alike}
use Rattle.kernel_laws.proofs.HistoryLemmas.{own_work}
use Rattle.kernel_laws.proofs.InstructionLemmas.{instructions_work, asked_outside, drop_work}
use Rattle.kernel_laws.proofs.LevelLemmas.{IsHeld, AreApart, AreHeld, each_from, each_contains}
use Rattle.kernel_laws.proofs.ConfigLemmas.{levels_held, drop_held, outside_held}

-- ---- levels by number

-- a level's number is that of those outside it, or it is one of them
pub at_top : (d : ℕ) (x : Level) (ls : List Level) → (length ls == d) ≡ true → level_at d (x ∷ ls) ≡ Some x
at_top d x ls h = ap (λ b. elim b as (λ _. Option Level) [ true ↦ Some x | false ↦ level_at d ls ]) h

pub at_inner : (d : ℕ) (x : Level) (ls : List Level) → (length ls == d) ≡ false → level_at d (x ∷ ls) ≡ level_at d ls
at_inner d x ls h = ap (λ b. elim b as (λ _. Option Level) [ true ↦ Some x | false ↦ level_at d ls ]) h

-- levels are numbered below their count
pub at_below : (d : ℕ) (ls : List Level) (l : Level) → level_at d ls ≡ Some l → d < length ls
at_below d [] l h = absurd (none_some l h)
  where
    none_some : (l : Level) → None ≡ Some l → ⊥
    none_some l h = cc
at_below d (x ∷ ls) l h = elim (cases_Bool (length ls == d)) [
  | inl top ↦ here (length ls) d top
  | inr inner ↦ further d (length ls) (at_below d ls l (sym (at_inner d x ls inner) ∙ h))
]
  where
    here : (n d : ℕ) → (n == d) ≡ true → d < suc n
    here n d h = grind (arith, nat_tests)

    further : (d n : ℕ) → d < n → d < suc n
    further d n h = omega arith

-- a level outside is none of the top
below_differs : (n d : ℕ) → d < n → (n == d) ≡ false
below_differs n d h = grind (arith, nat_tests)

-- a level outside is one still
pub at_more : (d : ℕ) (x l : Level) (ls : List Level) → level_at d ls ≡ Some l → level_at d (x ∷ ls) ≡ Some l
at_more d x l ls h = at_inner d x ls (below_differs (length ls) d (at_below d ls l h)) ∙ h

-- the top
at_length : (x : Level) (ls : List Level) → level_at (length ls) (x ∷ ls) ≡ Some x
at_length x ls = at_top (length ls) x ls (is_itself (length ls))
  where
    is_itself : (n : ℕ) → (n == n) ≡ true
    is_itself n = grind (arith, nat_tests)

-- a graft that runs is that of a level
running_at : (ls : List Level) (q pt : ℕ) → is_running ls q pt ≡ true →
    (e : ℕ) × (n : Level) × (level_at e ls ≡ Some n) × (n.owner ≡ q) × (n.point ≡ pt)
running_at [] q pt h = absurd cc
running_at (k ∷ ks) q pt h = elim (cases_Bool (k.owner == q && k.point == pt)) [
  | inl own ↦ let b = and_parts (k.owner == q) (k.point == pt) own in
      (length ks, k, at_length k ks, eqb-true k.owner q b.0, eqb-true k.point pt b.1)
  | inr other ↦
      let f = running_at ks q pt (sym (ap (λ b. b || is_running ks q pt) other) ∙ h) in
      (f.0, f.1, at_more f.0 k f.1 ks f.2, f.3, f.4)
]

-- and the other way round
pub at_running : (ls : List Level) (e : ℕ) (n : Level) → level_at e ls ≡ Some n → is_running ls n.owner n.point ≡ true
at_running [] e n h = absurd (none_some n h)
  where
    none_some : (l : Level) → None ≡ Some l → ⊥
    none_some l h = cc
at_running (k ∷ ks) e n h = elim (cases_Bool (length ks == e)) [
  | inl top ↦ same_runs k n (is_running ks n.owner n.point) (sym (at_top e k ks top) ∙ h)
  | inr inner ↦ ap (λ b. k.owner == n.owner && k.point == n.point || b) (at_running ks e n
      (sym (at_inner e k ks inner) ∙ h)) ∙ or_true (k.owner == n.owner && k.point == n.point)
]
  where
    or_true : (b : Bool) → (b || true) ≡ true
    or_true true = refl
    or_true false = refl

    same_fields : (a b c d : ℕ) (r : Bool) → a ≡ c → b ≡ d → (a == c && b == d || r) ≡ true
    same_fields a b c d r e f = grind (arith, nat_tests)

    same_runs : (k n : Level) (b : Bool) → Some k ≡ Some n → (k.owner == n.owner && k.point == n.point || b) ≡ true
    same_runs k n b e =
        same_fields k.owner k.point n.owner n.point b
        (ap (λ (o : Option Level). elim o as (λ _. ℕ) [ None ↦ k.owner | Some x ↦ x.owner ]) e)
        (ap (λ (o : Option Level). elim o as (λ _. ℕ) [ None ↦ k.point | Some x ↦ x.point ]) e)

-- ---- grafts of levels are different ones

-- two levels of one graft are one
abbrev pub AreDifferent : List Level → Type 0
AreDifferent ls =
    (d e : ℕ) (l n : Level) → level_at d ls ≡ Some l → level_at e ls ≡ Some n → l.owner ≡ n.owner →
    l.point ≡ n.point → d ≡ e

apart_from : (ls : List Level) → AreDifferent ls → AreApart ls
apart_from [] h = tt
apart_from (l ∷ ls) h = (
  not_running (is_running ls l.owner l.point) refl,
  apart_from ls (λ d e x n hd he. h d e x n (at_more d l x ls hd) (at_more e l n ls he)),
)
  where
    not_below : (n e : ℕ) → n ≡ e → e < n → ⊥
    not_below n e h less = omega arith

    not_running : (b : Bool) → is_running ls l.owner l.point ≡ b → b ≡ false
    not_running false e = refl
    not_running true e =
        let f = running_at ls l.owner l.point e in
        absurd (not_below (length ls) f.0 (h (length ls) f.0 l f.1 (at_length l ls)
        (at_more f.0 l f.1 ls f.2) (sym f.3) (sym f.4)) (at_below f.0 ls f.1 f.2))

different_from : (ls : List Level) → AreApart ls → AreDifferent ls
different_from [] h d e l n hd he o p = absurd (none_some l hd)
  where
    none_some : (l : Level) → None ≡ Some l → ⊥
    none_some l h = cc
different_from (k ∷ ks) h d e l n hd he o p = elim (cases_Bool (length ks == d)) [
  | inl dtop ↦ elim (cases_Bool (length ks == e)) [
    | inl etop ↦ same_top (length ks) d e dtop etop
    | inr einner ↦ absurd (running_not k l n h.0 (sym (at_top d k ks dtop) ∙ hd) o p
        (at_running ks e n (sym (at_inner e k ks einner) ∙ he)))
  ]
  | inr dinner ↦ elim (cases_Bool (length ks == e)) [
    | inl etop ↦ absurd (running_not k n l h.0 (sym (at_top e k ks etop) ∙ he) (sym o) (sym p)
        (at_running ks d l (sym (at_inner d k ks dinner) ∙ hd)))
    | inr einner ↦ different_from ks h.1 d e l n
        (sym (at_inner d k ks dinner) ∙ hd) (sym (at_inner e k ks einner) ∙ he) o p
  ]
]
  where
    same_top : (m d e : ℕ) → (m == d) ≡ true → (m == e) ≡ true → d ≡ e
    same_top m d e x y = grind (arith, nat_tests)

    contrary : true ≡ false → ⊥
    contrary h = cc

    running_not : (k l n : Level) → is_running ks k.owner k.point ≡ false → Some k ≡ Some l →
        l.owner ≡ n.owner → l.point ≡ n.point →
        is_running ks n.owner n.point ≡ true → ⊥
    running_not k l n none e o p run =
        let owner : k.owner ≡ l.owner =
        ap (λ (x : Option Level). elim x as (λ _. ℕ) [ None ↦ k.owner | Some y ↦ y.owner ]) e in
        let point : k.point ≡ l.point =
        ap (λ (x : Option Level). elim x as (λ _. ℕ) [ None ↦ k.point | Some y ↦ y.point ]) e in
        contrary (sym run ∙ sym (ap (λ q. is_running ks q k.point) (owner ∙ o)
        ∙ ap (λ pt. is_running ks n.owner pt) (point ∙ p)) ∙ none)

-- ---- a state and what its records lead to

-- what an inverse changes grafts may change
alike_by : (s : Objects) (a : Accounts) (i : Inverse) (b : Option (ℕ → ℕ)) (w : Things) →
    AreAlike s (record { accounts = a; things = w }) →
    AreAlike s (record { accounts = a; things = undo_by i b w })
alike_by s a (Inverse.Cell q k v) b w l =
    record {
      files = l.files;
      queue = l.queue;
      handlers = l.handlers;
      lru = l.lru;
      frames = l.frames;
      locks = l.locks;
      policies = l.policies;
    }
alike_by s a (Nice q v) b w l =
    record {
      files = l.files;
      queue = l.queue ∙ sym (nice_alike q v w.queue);
      handlers = l.handlers;
      lru = l.lru;
      frames = l.frames;
      locks = l.locks;
      policies = l.policies;
    }
alike_by s a (Window q fd v) b w l =
    record {
      files = λ p i. l.files p i ∙ sym (window_alike q fd v p i w.file);
      queue = l.queue;
      handlers = l.handlers;
      lru = l.lru;
      frames = l.frames;
      locks = l.locks;
      policies = l.policies;
    }
alike_by s a (Mark f v) b w l =
    record {
      files = l.files;
      queue = l.queue;
      handlers = l.handlers;
      lru = l.lru;
      frames = λ g. l.frames g ∙ sym (mark_alike f v g w.cache.frame);
      locks = l.locks;
      policies = l.policies;
    }
alike_by s a (Tune kind k v) b w l =
    record {
      files = l.files;
      queue = l.queue;
      handlers = l.handlers;
      lru = l.lru;
      frames = l.frames;
      locks = l.locks;
      policies = λ i. l.policies i ∙ sym (param_alike kind v i w.pol);
    }
alike_by s a (Segment q pt) b w l =
    record {
      files = l.files;
      queue = l.queue;
      handlers = l.handlers;
      lru = l.lru;
      frames = l.frames;
      locks = l.locks;
      policies = l.policies;
    }

undo_alike : (s : Objects) (a : Accounts) (i : Found) (w : Things) → AreAlike s (record { accounts = a; things = w }) →
    AreAlike s (record { accounts = a; things = undo i w })
undo_alike s a i w l = alike_by s a i.inverse i.bytes w l

all_alike : (s : Objects) (a : Accounts) (is : List Found) (w : Things) →
    AreAlike s (record { accounts = a; things = w }) →
    AreAlike s (record { accounts = a; things = undo_all is w })
all_alike s a [] w h = h
all_alike s a (i ∷ is) w h = all_alike s a is (undo i w) (undo_alike s a i w h)

log_alike : (s : Objects) (a : Accounts) (log : List (List Found)) (w : Things) →
    AreAlike s (record { accounts = a; things = w }) →
    AllByRecursion (λ (x : Things). AreAlike s (record { accounts = a; things = x })) (kept_by_log w log)
log_alike s a [] w h = tt
log_alike s a (is ∷ log) w h = (all_alike s a is w h, log_alike s a log (undo_all is w) (all_alike s a is w h))

-- sound and alike things
both_work : (v : World) (s : Objects) (a : Accounts) (ls : List Level) →
    AllByRecursion (λ (l : Level). IsSoundStore v (record { accounts = a; things = l.kept })) ls →
    AllByRecursion (λ (x : Things). AreAlike s (record { accounts = a; things = x })) (found_by ls) →
    AreGraftsWork v s a (found_by ls)
both_work v s a [] sound alike = tt
both_work v s a (l ∷ ls) sound alike = (record { store = sound.0; alike = alike.0 }, both_work v s a ls sound.1 alike.1)

pub works_sound : (v : World) (s : Objects) (a : Accounts) (ls : List Level) → AreGraftsWork v s a (found_by ls) →
    AllByRecursion (λ (l : Level). IsSoundStore v (record { accounts = a; things = l.kept })) ls
works_sound v s a [] h = tt
works_sound v s a (l ∷ ls) h = (h.0.store, works_sound v s a ls h.1)

-- the point of level 0
abbrev point_of : List Level → Point
point_of [] = record { installer = 0; point = 0; args = [] }
point_of (l ∷ []) = record { installer = l.owner; point = l.point; args = l.args }
point_of (l ∷ k ∷ ls) = point_of (k ∷ ls)

asked_own : (ls : List Level) → IsAskedAt (point_of ls) ls
asked_own [] = tt
asked_own (l ∷ []) = (refl, refl, refl)
asked_own (l ∷ k ∷ ls) = asked_own (k ∷ ls)

-- a sound graft call works on its own working state
sound_works : (v : World) (c : Config) → IsSoundConfig v c → WorksOn v c.now (point_of c.levels) c
sound_works v c h =
    let own = own_work v c.now h.now in
    record {
      works = (
        own,
        (
          own,
          both_work v c.now c.now.accounts c.levels
              (each_from (λ (l : Level). IsSoundStore v (record {
                accounts = c.now.accounts;
                things = l.kept;
              })) c.levels (λ l k. h.found l k))
              (subst (AllByRecursion (λ (x : Things). AreAlike c.now
              (record { accounts = c.now.accounts; things = x }))) (sym h.kept)
              (log_alike c.now c.now.accounts (undo_log c.levels) c.now.things own.alike)),
        ),
      );
      asked = asked_own c.levels;
    }

-- its levels are held
pub sound_held : (v : World) (c : Config) → IsSoundConfig v c → AreHeld c.now c.levels
sound_held v c h =
    record {
      each = each_from (IsHeld (outermost_touched c.levels) c.now.accounts) c.levels
          (λ l k. record { stands = h.grafts l k; graft = (h.paid l k).0; acct = (h.paid l k).1 });
      apart = apart_from c.levels h.different;
      recorded = h.recorded;
      few = h.few;
      most = h.most;
      kept = h.kept;
    }

-- some level is one at least
some_levels : (ls : List Level) → ls ≢ [] → 1 ≤ length ls
some_levels [] h = absurd (h refl)
some_levels (l ∷ ls) h = one_more (length ls)
  where
    one_more : (n : ℕ) → 1 ≤ suc n
    one_more n = omega arith

-- a graft call whose levels are held, and which works on some state, is sound where it has a level
held_sound : (v : World) (s : Objects) (a : Point) (c : Config) → WorksOn v s a c →
    AreHeld c.now c.levels → c.levels ≢ [] → IsSoundConfig v c
held_sound v s a c work held some =
    let each = λ (l : Level) (k : Contains c.levels l).
    each_contains (IsHeld (outermost_touched c.levels) c.now.accounts) c.levels l held.each k in
    record {
      now = work.works.1.0.store;
      some = some_levels c.levels some;
      most = held.most;
      grafts = λ l k. (each l k).stands;
      different = different_from c.levels held.apart;
      paid = λ l k. ((each l k).graft, (each l k).acct);
      recorded = held.recorded;
      few = held.few;
      found =
          λ l k. each_contains (λ (x : Level). IsSoundStore v
          (record { accounts = c.now.accounts; things = x.kept })) c.levels l
          (works_sound v s c.now.accounts c.levels work.works.1.1) k;
      kept = held.kept;
    }

-- a process stands in a sound state's queue at most once
pub sound_once : (v : World) (s : Objects) → IsSoundStore v s → (q : ℕ) → IsOnceIn q s.things.queue
sound_once v s h q = subst (λ n. n ≤ 1) (sym (h.once q)) (once_at_most (lives s.things.queue q))
  where
    once_at_most : (b : Bool) → once_if b ≤ 1
    once_at_most true = omega arith
    once_at_most false = omega arith

-- a sound graft call is sound after each instruction that doesn't end it
pub configs_stay_sound : ConfigsStaySound
configs_stay_sound v images p c h some =
    let a = point_of c.levels in
    held_sound v c.now a (micro v images p c).config (instructions_work v images p c.now a c (sound_works v c h)).0
    (levels_held v images p c.now c.levels (sound_held v c h) (sound_once v c.now h.now)) some

-- ---- the drop of any level

-- on a state whose working things don't matter
pub drops_held : (v : World) (w : Objects) (x : Things) (ls : List Level) (d : ℕ) (cause : Cause) →
    AreHeld (record { accounts = w.accounts; things = x }) ls →
    AreHeld (drop_level v w ls d cause).config.now (drop_level v w ls d cause).config.levels
drops_held v w x [] d cause h = record { each = tt; apart = tt; recorded = tt; few = h.few; most = h.most; kept = refl }
drops_held v w x (l ∷ ls) d cause h =
    drops_by (length ls == d) (drops_held v w l.kept ls d cause
    (outside_held (record { accounts = w.accounts; things = x }) l ls h))
  where
    drops_by : (b : Bool) → AreHeld (drop_level v w ls d cause).config.now (drop_level v w ls d cause).config.levels →
        let o : Outcome = elim b as (λ _. Outcome) [
          | true ↦ drop_innermost v w l ls cause
          | false ↦ drop_level v w ls d cause
        ] in
        AreHeld o.config.now o.config.levels
    drops_by true further = drop_held v (record { accounts = w.accounts; things = x }) l ls cause h
    drops_by false further = further

drops_work : (v : World) (s : Objects) (a : Point) (w : Objects) (ls : List Level) (d : ℕ)
    (cause : Cause) → WorksOn v s a (record { now = w; levels = ls }) →
    WorksOn v s a (drop_level v w ls d cause).config
drops_work v s a w [] d cause h = h
drops_work v s a w (l ∷ ls) d cause h =
    drops_by (length ls == d)
    (drops_work v s a w ls d cause (record {
      works = (h.works.0, (h.works.1.0, h.works.1.1.1));
      asked = asked_outside a l ls h.asked;
    }))
  where
    drops_by : (b : Bool) → WorksOn v s a (drop_level v w ls d cause).config →
        let o : Outcome = elim b as (λ _. Outcome) [
          | true ↦ drop_innermost v w l ls cause
          | false ↦ drop_level v w ls d cause
        ] in
        WorksOn v s a o.config
    drops_by true further = (drop_work v s a w l ls cause h).0
    drops_by false further = further

-- a sound graft call is sound after the drop of a level above 0
pub drops_stay_sound : DropsStaySound
drops_stay_sound v c d cause h some =
    held_sound v c.now (point_of c.levels) (drop_level v c.now c.levels d cause).config
    (drops_work v c.now (point_of c.levels) c.now c.levels d cause (sound_works v c h))
    (drops_held v c.now c.now.things c.levels d cause (sound_held v c h)) some

-- ---- effects

-- a config, if there is one, has a sound store
abbrev HasSoundStore : World → Option Config → Type 0
HasSoundStore v None = ⊤
HasSoundStore v (Some c) = IsSoundStore v c.now

effect_charged : (v : World) (q pt : ℕ) (k : Kind) (c : Config) (b : Bool) →
    (is_found q pt c && not (funds c.now.accounts q pt k == 0)) ≡ b → IsSoundStore v c.now →
    HasSoundStore v (config_if b (with_accounts_of (charge k q pt c.now.accounts) c))
effect_charged v q pt k c true e h =
    charge_store v c.now q pt k h (some_funds (is_found q pt c) (funds c.now.accounts q pt k) e)
  where
    some_funds : (b : Bool) (n : ℕ) → (b && not (n == 0)) ≡ true → 1 ≤ n
    some_funds b n e = grind (arith, nat_tests)
effect_charged v q pt k c false e h = tt

effect_removed : (v : World) (q pt : ℕ) (c : Config) (b : Bool) → IsSoundStore v c.now →
    HasSoundStore v (config_if b (with_accounts_of (removed q pt c.now.accounts) c))
effect_removed v q pt c true h = removed_store v c.now q pt h
effect_removed v q pt c false h = tt

effect_sound : (v : World) (q : ℕ) (e : Effect) (c : Config) → IsSoundStore v c.now → HasSoundStore v (effect q e c)
effect_sound v q (Asked pt) c h = h
effect_sound v q (Charged pt k) c h =
    effect_charged v q pt k c (is_found q pt c && not (funds c.now.accounts q pt k == 0)) refl h
effect_sound v q (Removed pt) c h = effect_removed v q pt c (is_found q pt c) h

-- an effect that is made again leaves a sound store
pub effects_stay_sound : EffectsStaySound
effects_stay_sound v q e c d h is = subst (HasSoundStore v) is (effect_sound v q e c h)
