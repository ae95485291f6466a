-- Where the one store has each object from: the committed state, or a call that holds it exclusively.
use Rattle.std.specs.Prelude.{◌≡◌, ◌≢◌, ℕ, ◌<◌, nat_lt, Bool, true, false, cond, Option, Some, None, ◌⊎◌}
use Rattle.std.proofs.Common.{arith, refl, sym, ap, ◌∙◌, inl, inr}
use Rattle.std.proofs.lemmas.Bool.{cases_Bool}
use Rattle.std.proofs.lemmas.Bool.Decides.{nat_tests}
use Rattle.kernel_model.specs.declared.Object.{Object}
use Rattle.kernel_model.specs.declared.Object.TheVariants.{OpenFile, Queue, Cache, Lock, Pol}
use Rattle.kernel_model.specs.Objects.{Objects, CacheValue, SameAt, PolValue}
use Rattle.kernel_model.specs.Policies.{lives}
use Rattle.kernel_model.specs.Meaning.{Meaning}
use Rattle.kernel_model.specs.Levels.{Config}
use Rattle.kernel_model.specs.Kernel.{Kernel}
use Rattle.kernel_model.specs.Blocking.{levels_in, config_of, levels_of}
use Rattle.kernel_model.specs.InPlace.{in_place, is_changed_in}
use Rattle.kernel_model.specs.Sound.{IsSoundStore, IsSoundKernel, FitsDisk}
use Rattle.kernel_model.specs.Alike.{AreAlike, SameFiles, windowless, niceless, markless, is_held_in}
use Rattle.kernel_model.specs.Laws.{Laws}
use Rattle.kernel_laws.proofs.StepLemmas.{niceless_lives, alike_disk, no_file_high, no_file_beyond}
use Rattle.graft_laws.specs.Histories.{HasRange}
use Rattle.graft_laws.proofs.EffectLemmas.{same_back}
use Rattle.graft_laws.proofs.HolderLemmas.{apart_unchanged}
use Rattle.graft_laws.proofs.ShapeLemmas.{contrary}
use Rattle.graft_laws.proofs.InPlaceLemmas.{in_place_reads, changer, changer_config, caller_low}
use Rattle.placed_laws.proofs.GraftedLemmas.{grafted}
use Rattle.kernel_laws.proofs.SettleLemmas.{alike_self}
use Rattle.kernel_laws.proofs.FrameLemmas.{same_then}

-- a state with another's policies out of range
abbrev pub shown : Objects → Objects → Objects
shown s w =
    record w {
      things = record (w.things) {
        pol = λ kind. cond (nat_lt kind 3) (w.things.pol kind)
            (s.things.pol kind);
      };
    }

-- a sound state that is alike to the committed one has the same value of an object
pub record From (m : Meaning) (k : Kernel) (x : Objects) (o : Object) : Type 0 where
  pub state : Objects
  pub store : IsSoundStore k.world state
  pub alike : AreAlike k.objects state
  pub same : SameAt o x state

-- a store that is sound, and has what the store in place of a sound kernel has
pub record IsPlaced (m : Meaning) (k : Kernel) (x : Objects) : Type 0 where
  pub objects : (o : Object) → HasRange o → SameAt o x (in_place m k)
  pub store : IsSoundStore k.world x
  pub kernel : IsSoundKernel m k

lower_is : (x y : ℕ) → nat_lt x y ≡ true → x < y
lower_is x y h = grind (arith, nat_tests)

lower_true : (x y : ℕ) → x < y → nat_lt x y ≡ true
lower_true x y h = grind (arith, nat_tests)

module _ (m : Meaning) (laws : Laws m) (k : Kernel) (x : Objects) (here : IsPlaced m k x) where
  -- ---- one object

  -- what a call holds exclusively
  pub own : (p : ℕ) (c : Config) (o : Object) → config_of m k p ≡ Some c → HasRange o →
      is_changed_in c.levels o ≡ true → SameAt o x c.now
  own p c o is range changed =
      same_then o x (in_place m k) c.now (here.objects o range)
      ((in_place_reads m).own k p c o here.kernel is changed)

  -- what none holds exclusively
  pub committed : (o : Object) → HasRange o →
      ((q : ℕ) → is_changed_in (levels_of m k q) o ≡ false) → SameAt o x k.objects
  committed o range none =
      same_then o x (in_place m k) k.objects (here.objects o range)
      ((in_place_reads m).committed k o none)

  pub from : (o : Object) → HasRange o → From m k x o
  from o range = elim (changer m k here.kernel o) [
    | inl found ↦
        let f = changer_config m k here.kernel found.0 o found.1 in
        let work = (grafted m laws k here.kernel found.0 f.0 f.1).works.works.1.0 in
        record { state = f.0.now; store = work.store; alike = work.alike; same = own found.0 f.0 o f.1 range f.2 }
    | inr none ↦ record {
      state = k.objects;
      store = here.kernel.state.store;
      alike = alike_self k.objects;
      same = committed o range none;
    }
  ]

  -- who holds an object keeps the others from holding it exclusively
  pub others_free : (p : ℕ) (c : Config) (o : Object) → config_of m k p ≡ Some c →
      is_held_in c.levels o ≡ true → (q : ℕ) → q ≢ p → is_changed_in (levels_of m k q) o ≡ false
  others_free p c o is held q ne = elim (cases_Bool (is_changed_in (levels_of m k q) o)) [
    | inr none ↦ none
    | inl some ↦
        let f = changer_config m k here.kernel q o some in
        apart_unchanged m k p q o here.kernel (λ e. ne (sym e)) (caller_low m k here.kernel p c is)
        (caller_low m k here.kernel q f.0 f.1) (ap (λ y. is_held_in (levels_in y) o) is ∙ held)
  ]

  -- a call's levels don't hold it exclusively, and no other's do
  pub none_of : (p : ℕ) (o : Object) → is_changed_in (levels_of m k p) o ≡ false →
      ((q : ℕ) → q ≢ p → is_changed_in (levels_of m k q) o ≡ false) →
      (q : ℕ) → is_changed_in (levels_of m k q) o ≡ false
  none_of p o mine others q = by_number (eq_cases q p)
    where
      eq_cases : (q p : ℕ) → (q ≡ p) ⊎ (q ≢ p)
      eq_cases q p = grind (arith, nat_tests)

      by_number : (q ≡ p) ⊎ (q ≢ p) → is_changed_in (levels_of m k q) o ≡ false
      by_number (inl e) = ap (λ i. is_changed_in (levels_of m k i) o) e ∙ mine
      by_number (inr ne) = others q ne

  -- what a call holds the store has as the call has it
  pub held_same : (p : ℕ) (c : Config) (o : Object) → config_of m k p ≡ Some c →
      is_held_in c.levels o ≡ true → SameAt o c.now x
  held_same p c o is held =
      let g = grafted m laws k here.kernel p c is in
      let range = g.replayed.ranges o held in
      elim (cases_Bool (is_changed_in c.levels o)) [
        | inl changed ↦ same_back o x c.now (own p c o is range changed)
        | inr free ↦
            same_then o c.now k.objects x (g.replayed.now o free)
            (same_back o x k.objects (committed o range (none_of p o
            (ap (λ y. is_changed_in (levels_in y) o) is ∙ free) (others_free p c o is held))))
      ]

  -- ---- the whole store

  pub living : (q : ℕ) → lives x.things.queue q ≡ lives k.objects.things.queue q
  living q =
      let f = from Queue tt in
      ap (λ queue. lives queue q) f.same.0
      ∙ sym (niceless_lives k.objects.things.queue f.state.things.queue q f.alike.queue)

  pub files : (p : ℕ) → SameFiles p k.objects x
  files p fd = elim (cases_Bool (nat_lt p 16)) [
    | inr beyond ↦
        ap windowless (no_file_beyond k.world k.objects p fd (lives k.objects.things.queue p)
        here.kernel.state.store refl beyond
        ∙ sym (no_file_beyond k.world x p fd (lives x.things.queue p) here.store refl beyond))
    | inl within ↦ elim (cases_Bool (nat_lt fd 4)) [
      | inr high ↦
          ap windowless (no_file_high k.world k.objects p fd (k.objects.things.file p fd)
          here.kernel.state.store refl high
          ∙ sym (no_file_high k.world x p fd (x.things.file p fd) here.store refl high))
      | inl low ↦ let f = from (OpenFile p fd) (lower_is p 16 within, lower_is fd 4 low) in
          f.alike.files p fd ∙ ap windowless (sym f.same)
    ]
  ]

  pub locks : (u : ℕ) → k.objects.things.lock u ≡ x.things.lock u
  locks u = elim (cases_Bool (nat_lt u 16)) [
    | inl low ↦ let f = from (Lock u) (lower_is u 16 low) in f.alike.locks u ∙ sym f.same
    | inr high ↦ no_lock k.objects here.kernel.state.store (k.objects.things.lock u) refl high
        ∙ sym (no_lock x here.store (x.things.lock u) refl high)
  ]
    where
      no_lock : (s : Objects) → IsSoundStore k.world s → (y : Option ℕ) → s.things.lock u ≡ y →
          nat_lt u 16 ≡ false → y ≡ None
      no_lock s sound None e high = refl
      no_lock s sound (Some h) e high = contrary (sym (lower_true u 16 (sound.holders u h e).0) ∙ high)

  pub chosen : (kind : ℕ) → kind < 3 → (k.objects.things.pol kind).chosen ≡ (x.things.pol kind).chosen
  chosen kind low = let f = from (Pol kind) low in f.alike.policies kind ∙ ap (λ (y : PolValue). y.chosen) (sym f.same)

  pub queue : niceless k.objects.things.queue ≡ niceless x.things.queue
  queue = let f = from Queue tt in f.alike.queue ∙ ap niceless (sym f.same.0)

  pub handlers : k.objects.things.handlers ≡ x.things.handlers
  handlers = let f = from Queue tt in f.alike.handlers ∙ sym f.same.1

  pub lru : k.objects.things.cache.lru ≡ x.things.cache.lru
  lru = let f = from Cache tt in f.alike.lru ∙ ap (λ (c : CacheValue). c.lru) (sym f.same)

  pub frames : (i : ℕ) → markless (k.objects.things.cache.frame i) ≡ markless (x.things.cache.frame i)
  frames i = let f = from Cache tt in f.alike.frames i ∙ ap (λ (c : CacheValue). markless (c.frame i)) (sym f.same)

  -- but for policies out of range, it differs from the committed state alone in what grafts may change
  pub near : AreAlike k.objects (shown k.objects x)
  near =
      record {
        files = files;
        queue = queue;
        handlers = handlers;
        lru = lru;
        frames = frames;
        locks = locks;
        policies = λ kind. chosen_same kind (nat_lt kind 3) refl;
      }
    where
      chosen_same : (kind : ℕ) (b : Bool) → nat_lt kind 3 ≡ b → (k.objects.things.pol kind).chosen
          ≡ (cond b (x.things.pol kind) (k.objects.things.pol kind)).chosen
      chosen_same kind true e = chosen kind (lower_is kind 3 e)
      chosen_same kind false e = refl

  pub fits_disk : FitsDisk k.world x.things.cache
  fits_disk = alike_disk k.world k.objects (shown k.objects x) near here.kernel.state.disk
