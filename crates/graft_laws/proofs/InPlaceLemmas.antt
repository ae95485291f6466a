-- What the one store holds: what a call holds exclusively as the call has it, and all else as it is committed.
use Rattle.std.specs.Prelude.{◌≡◌, ◌≢◌, ℕ, zero, suc, ◌+◌, ◌<◌, ◌≤◌, ◌==◌, ◌||◌, Bool, true, false}
use Rattle.std.specs.Prelude.{cond, List, [], ◌∷◌, length, map, slice_index_or, Option, Some, None}
use Rattle.std.specs.Prelude.{◌⊎◌}
use Rattle.std.specs.List.{list_any}
use Rattle.std.proofs.Common.{arith, refl, subst, sym, ap, ◌∙◌, inl, inr}
use Rattle.std.proofs.lemmas.Bool.{cases_Bool, eqb-true}
use Rattle.std.proofs.lemmas.Bool.Decides.{nat_tests}
use Rattle.kernel_model.specs.declared.Held.{Held}
use Rattle.kernel_model.specs.declared.Object.{Object}
use Rattle.kernel_model.specs.declared.Object.TheVariants.{Graft, Acct, Cell, OpenFile, Queue, Cache, Lock, Pol}
use Rattle.kernel_model.specs.World.{processes}
use Rattle.kernel_model.specs.Objects.{Objects, SameAt, mix}
use Rattle.kernel_model.specs.Meaning.{Meaning}
use Rattle.kernel_model.specs.Levels.{Level, Config, touched_at}
use Rattle.kernel_model.specs.History.{Mark, Trace, replay}
use Rattle.kernel_model.specs.Kernel.{Call, Kernel}
use Rattle.kernel_model.specs.Blocking.{config_in, levels_in, trace_of, config_of, levels_of, holds}
use Rattle.kernel_model.specs.InPlace.{Cut, no_cut, is_changed_in, cut_state, over, store_with}
use Rattle.kernel_model.specs.Sound.{IsSoundKernel, clash}
use Rattle.kernel_model.specs.Claims.{InPlaceReads}
use Rattle.kernel_model.specs.Laws.{Laws}
use Rattle.kernel_laws.specs.Undoing.{InversesUndo, ChangesAreOfOneObject}
use Rattle.graft_laws.proofs.UndoableLemmas.{Undoable, replay_undoable}
use Rattle.kernel_laws.proofs.FrameLemmas.{same_then}
use Rattle.graft_laws.proofs.HolderLemmas.{IsCountedFrom, changed_somewhere, processes_counted}
use Rattle.graft_laws.proofs.HistoryEffectLemmas.{none_some}
use Rattle.call_laws.specs.FileChanges.{same_self}

-- ---- what a level holds exclusively

-- ---- the numbers of processes

row_from : (f : ℕ → List Level) (n : ℕ) (xs : List ℕ) (i : ℕ) → IsCountedFrom n xs → i < length xs →
    slice_index_or (map f xs) i [] ≡ f (n + i)
row_from f n [] i h low = absurd (none_lower i low)
  where
    none_lower : (i : ℕ) → i < 0 → ⊥
    none_lower i h = omega arith
row_from f n (x ∷ xs) zero h low = ap f (h.0 ∙ plus_none n)
  where
    plus_none : (n : ℕ) → n ≡ n + 0
    plus_none n = omega arith
row_from f n (x ∷ xs) (suc i) h low = row_from f (suc n) xs i h.1 (less i (length xs) low) ∙ ap f (one_further n i)
  where
    less : (i n : ℕ) → suc i < suc n → i < n
    less i n h = omega arith

    one_further : (n i : ℕ) → suc n + i ≡ n + suc i
    one_further n i = omega arith

-- what stands for each process stands at its number, and nothing from 16 on
pub row_low : (f : ℕ → List Level) (p : ℕ) → p < 16 → slice_index_or (map f processes) p [] ≡ f p
row_low f p low = row_from f 0 processes p processes_counted low ∙ ap f (none_more p)
  where
    none_more : (p : ℕ) → 0 + p ≡ p
    none_more p = omega arith

row_none : (f : ℕ → List Level) (xs : List ℕ) (i : ℕ) → length xs ≤ i → slice_index_or (map f xs) i [] ≡ []
row_none f [] i h = refl
row_none f (x ∷ xs) zero h = absurd (none_less (length xs) h)
  where
    none_less : (n : ℕ) → suc n ≤ 0 → ⊥
    none_less n h = omega arith
row_none f (x ∷ xs) (suc i) h = row_none f xs i (less (length xs) i h)
  where
    less : (n i : ℕ) → suc n ≤ suc i → n ≤ i
    less n i h = omega arith

pub row_high : (f : ℕ → List Level) (p : ℕ) → 16 ≤ p → slice_index_or (map f processes) p [] ≡ []
row_high f p high = row_none f processes p high

-- a number stands in a list
abbrev pub is_in : ℕ → List ℕ → Bool
is_in p ps = list_any (λ q. q == p) ps

in_from : (n : ℕ) (xs : List ℕ) (p : ℕ) → IsCountedFrom n xs → n ≤ p → p < n + length xs → is_in p xs ≡ true
in_from n [] p h low high = absurd (none_between n p low high)
  where
    none_between : (n p : ℕ) → n ≤ p → p < n + 0 → ⊥
    none_between n p low high = omega arith
in_from n (x ∷ xs) p h low high = elim (cases_Bool (x == p)) [
  | inl here ↦ ap (λ b. b || is_in p xs) here
  | inr other ↦ ap (λ b. b || is_in p xs) other
      ∙ in_from (suc n) xs p h.1 (above x n p other h.0 low) (within n p (length xs) high)
]
  where
    above : (x n p : ℕ) → (x == p) ≡ false → x ≡ n → n ≤ p → suc n ≤ p
    above x n p other e low = grind (arith, nat_tests)

    within : (n p m : ℕ) → p < n + suc m → p < suc n + m
    within n p m h = omega arith

pub low_stands : (p : ℕ) → p < 16 → is_in p processes ≡ true
low_stands p low = in_from 0 processes p processes_counted (at_least p) (within p low)
  where
    at_least : (p : ℕ) → 0 ≤ p
    at_least p = omega arith

    within : (p : ℕ) → p < 16 → p < 0 + 16
    within p h = omega arith

-- ---- mixed states

mix_here : (o : Object) (test : Object → Bool) (w s : Objects) → test o ≡ true → SameAt o (mix test w s) w
mix_here (Graft q pt) test w s h = (
  ap (λ b. cond b (w.accounts.graft q pt) (s.accounts.graft q pt)) h,
  ap (λ b. cond b (w.things.segment q pt) (s.things.segment q pt)) h,
)
mix_here (Acct q) test w s h = ap (λ b. cond b (w.accounts.acct q) (s.accounts.acct q)) h
mix_here (Cell q k) test w s h = ap (λ b. cond b (w.things.cell q k) (s.things.cell q k)) h
mix_here (OpenFile q fd) test w s h = ap (λ b. cond b (w.things.file q fd) (s.things.file q fd)) h
mix_here Queue test w s h = (
  ap (λ b. cond b w.things.queue s.things.queue) h,
  ap (λ b. cond b w.things.handlers s.things.handlers) h,
)
mix_here Cache test w s h = ap (λ b. cond b w.things.cache s.things.cache) h
mix_here (Lock u) test w s h = ap (λ b. cond b (w.things.lock u) (s.things.lock u)) h
mix_here (Pol k) test w s h = ap (λ b. cond b (w.things.pol k) (s.things.pol k)) h

mix_other : (o : Object) (test : Object → Bool) (w s : Objects) → test o ≡ false → SameAt o (mix test w s) s
mix_other (Graft q pt) test w s h = (
  ap (λ b. cond b (w.accounts.graft q pt) (s.accounts.graft q pt)) h,
  ap (λ b. cond b (w.things.segment q pt) (s.things.segment q pt)) h,
)
mix_other (Acct q) test w s h = ap (λ b. cond b (w.accounts.acct q) (s.accounts.acct q)) h
mix_other (Cell q k) test w s h = ap (λ b. cond b (w.things.cell q k) (s.things.cell q k)) h
mix_other (OpenFile q fd) test w s h = ap (λ b. cond b (w.things.file q fd) (s.things.file q fd)) h
mix_other Queue test w s h = (
  ap (λ b. cond b w.things.queue s.things.queue) h,
  ap (λ b. cond b w.things.handlers s.things.handlers) h,
)
mix_other Cache test w s h = ap (λ b. cond b w.things.cache s.things.cache) h
mix_other (Lock u) test w s h = ap (λ b. cond b (w.things.lock u) (s.things.lock u)) h
mix_other (Pol k) test w s h = ap (λ b. cond b (w.things.pol k) (s.things.pol k)) h

-- what a call doesn't hold exclusively is as it was
over_other : (o : Object) (x : Option Config) (d : Option ℕ) (s : Objects) →
    is_changed_in (levels_in x) o ≡ false → SameAt o (over x d s) s
over_other o None d s h = same_self o s
over_other o (Some c) d s h = mix_other o (is_changed_in c.levels) (cut_state d c) s h

-- a config is that of a trace
pub config_is : (x : Option Trace) (c : Config) → config_in x ≡ Some c → (t : Trace) × (x ≡ Some t) × (t.config ≡ c)
config_is None c h = absurd (none_some c h)
config_is (Some t) c h = (t, refl, same_config t.config c h)
  where
    same_config : (x y : Config) → Some x ≡ Some y → x ≡ y
    same_config x y h = cc

module _ (m : Meaning) (k : Kernel) where
  -- ---- the store, object by object

  -- what no call holds exclusively is as it is committed
  pub store_other : (o : Object) (cut : Cut) (ps : List ℕ) →
      ((p : ℕ) → is_changed_in (levels_of m k p) o ≡ false) →
      SameAt o (store_with m k cut ps) k.objects
  store_other o cut [] none = same_self o k.objects
  store_other o cut (p ∷ ps) none =
      same_then o (store_with m k cut (p ∷ ps)) (store_with m k cut ps) k.objects (over_other o
      (config_of m k p) (cut p) (store_with m k cut ps) (none p)) (store_other o cut ps none)

  -- what a call alone holds exclusively is as the call has it below the cut
  pub store_own : (o : Object) (cut : Cut) (ps : List ℕ) (p : ℕ) (c : Config) → is_in p ps ≡ true →
      config_of m k p ≡ Some c → is_changed_in c.levels o ≡ true →
      ((q : ℕ) → q ≢ p → is_changed_in (levels_of m k q) o ≡ false) →
      SameAt o (store_with m k cut ps) (cut_state (cut p) c)
  store_own o cut [] p c stands is own others = absurd cc
  store_own o cut (q ∷ ps) p c stands is own others = elim (cases_Bool (q == p)) [
    | inl here ↦
        let s = store_with m k cut ps in
        subst (λ i. SameAt o (over (config_of m k i) (cut i) s) (cut_state (cut p) c)) (sym (eqb-true q p here))
        (subst (λ x. SameAt o (over x (cut p) s) (cut_state (cut p) c)) (sym is)
        (mix_here o (is_changed_in c.levels) (cut_state (cut p) c) s own))
    | inr other ↦
        same_then o (store_with m k cut (q ∷ ps)) (store_with m k cut ps) (cut_state (cut p) c)
        (over_other o (config_of m k q) (cut q) (store_with m k cut ps) (others q (differs q p other)))
        (store_own o cut ps p c (sym (ap (λ b. b || is_in p ps) other) ∙ stands) is own others)
  ]
    where
      differs : (q p : ℕ) → (q == p) ≡ false → q ≢ p
      differs q p h e = grind (arith, nat_tests)

  -- ---- calls of a sound kernel

  module _ (sound : IsSoundKernel m k) where
    -- who has a config is one of 16 processes
    pub caller_low : (p : ℕ) (c : Config) → config_of m k p ≡ Some c → p < 16
    caller_low p c h = low_by (k.call p) refl h
      where
        low_by : (x : Option Call) → k.call p ≡ x → config_in (trace_of m k p x) ≡ Some c → p < 16
        low_by None e h = absurd (none_some c h)
        low_by (Some call) e h = sound.state.store.numbers p (sound.callers p call e)

    -- a call with a level can be undone
    pub call_undoable : Laws m → InversesUndo → ChangesAreOfOneObject → (p : ℕ) (c : Config) →
        config_of m k p ≡ Some c → Undoable c
    call_undoable laws undoes own p c h = by_call (k.call p) refl h
      where
        by_marks : (call : Call) (x : Option (List Mark)) → k.call p ≡ Some call →
            config_in (elim x as (λ _. Option Trace) [
              | None ↦ None
              | Some ks ↦ replay m k.world k.images k.objects p call.stage ks
            ]) ≡ Some c → Undoable c
        by_marks call None is h = absurd (none_some c h)
        by_marks call (Some ks) is h =
            let f = config_is (replay m k.world k.images k.objects p call.stage ks) c h in
            subst Undoable f.2
            (replay_undoable undoes own k.world k.images p m laws k.objects call.stage ks f.0
            (sound.fit p call is) sound.state.store f.1)

        by_call : (x : Option Call) → k.call p ≡ x → config_in (trace_of m k p x) ≡ Some c → Undoable c
        by_call None is h = absurd (none_some c h)
        by_call (Some call) is h = by_marks call call.marks is h

    -- a call has a config where it changed an object
    pub changer_config : (p : ℕ) (o : Object) → is_changed_in (levels_of m k p) o ≡ true →
        (c : Config) × (config_of m k p ≡ Some c) × (is_changed_in c.levels o ≡ true)
    changer_config p o h = config_by (config_of m k p) h
      where
        config_by : (x : Option Config) → is_changed_in (levels_in x) o ≡ true →
            (c : Config) × (x ≡ Some c) × (is_changed_in c.levels o ≡ true)
        config_by None h = absurd cc
        config_by (Some c) h = (c, refl, h)

    -- no two calls changed one object
    pub others_apart : (p q : ℕ) (o : Object) → q ≢ p → is_changed_in (levels_of m k p) o ≡ true →
        is_changed_in (levels_of m k q) o ≡ false
    others_apart p q o ne own = apart_by (is_changed_in (levels_of m k q) o) refl
      where
        both_clash : (a b x y : Held) → a ≡ x → b ≡ y → x ≡ Held.Exclusive → y ≡ Held.Exclusive → clash a b ≡ false → ⊥
        both_clash a b x y e f g h none =
            contrary (sym (ap (λ i. clash i b) (e ∙ g) ∙ ap (clash Held.Exclusive) (f ∙ h)) ∙ none)
          where
            contrary : true ≡ false → ⊥
            contrary h = cc

        apart_by : (b : Bool) → is_changed_in (levels_of m k q) o ≡ b → b ≡ false
        apart_by false e = refl
        apart_by true e =
            let f = changer_config p o own in
            let g = changer_config q o e in
            let x = changed_somewhere (levels_of m k p) o own in
            let y = changed_somewhere (levels_of m k q) o e in
            absurd (both_clash (holds m k p x.0 o) (holds m k q y.0 o)
            (touched_at (levels_of m k p) x.0 o) (touched_at (levels_of m k q) y.0 o)
            (ap (λ ls. touched_at ls x.0 o) (row_low (levels_of m k) p (caller_low p f.0 f.1)))
            (ap (λ ls. touched_at ls y.0 o) (row_low (levels_of m k) q (caller_low q g.0 g.1)))
            x.2 y.2
            (sound.apart p q x.0 y.0 o (λ i. ne (sym i))))

    -- a call is among the processes
    pub caller_stands : (p : ℕ) (c : Config) → config_of m k p ≡ Some c → is_in p processes ≡ true
    caller_stands p c is = low_stands p (caller_low p c is)

    -- some call changed an object, or none did
    pub changer_below : (o : Object) (n : ℕ) →
        ((p : ℕ) × (is_changed_in (levels_of m k p) o ≡ true))
        ⊎ ((p : ℕ) → p < n → is_changed_in (levels_of m k p) o ≡ false)
    changer_below o zero = inr (λ p low. absurd (none_lower p low))
      where
        none_lower : (p : ℕ) → p < 0 → ⊥
        none_lower p h = omega arith
    changer_below o (suc n) = elim (changer_below o n) [
      | inl found ↦ inl found
      | inr none ↦ elim (cases_Bool (is_changed_in (levels_of m k n) o)) [
        | inl here ↦ inl (n, here)
        | inr other ↦ inr (λ p low. elim (cases_Bool (p == n)) [
          | inl same ↦ ap (λ i. is_changed_in (levels_of m k i) o) (eqb-true p n same) ∙ other
          | inr differs ↦ none p (below p n low differs)
        ])
      ]
    ]
      where
        below : (p n : ℕ) → p < suc n → (p == n) ≡ false → p < n
        below p n low h = grind (arith, nat_tests)

    pub changer : (o : Object) → ((p : ℕ) × (is_changed_in (levels_of m k p) o ≡ true))
        ⊎ ((p : ℕ) → is_changed_in (levels_of m k p) o ≡ false)
    changer o = elim (changer_below o 16) [
      | inl found ↦ inl found
      | inr none ↦ inr (λ p. none_by p (is_changed_in (levels_of m k p) o) refl (none p))
    ]
      where
        none_by : (p : ℕ) (b : Bool) → is_changed_in (levels_of m k p) o ≡ b →
            (p < 16 → is_changed_in (levels_of m k p) o ≡ false) →
            is_changed_in (levels_of m k p) o ≡ false
        none_by p false e none = e
        none_by p true e none = let f = changer_config p o e in none (caller_low p f.0 f.1)

-- the store in place has what a call holds exclusively as the call has it, and what none holds so as it is committed
pub in_place_reads : (m : Meaning) → InPlaceReads m
in_place_reads m =
    record {
      own = λ k p c o sound is changed.
          store_own m k o no_cut processes p c (caller_stands m k sound p c is) is changed
          (λ q ne. others_apart m k sound p q o ne (ap (λ x. is_changed_in (levels_in x) o) is ∙ changed));
      committed = λ k o none. store_other m k o no_cut processes none;
    }
