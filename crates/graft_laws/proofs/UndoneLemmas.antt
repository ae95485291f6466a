-- Undoing calls in the one store, in any order of the calls, gives the store below the cut.
use Rattle.std.specs.Prelude.{◌≡◌, ◌≢◌, ℕ, suc, ◌<◌, ◌≤◌, ◌==◌, ◌||◌, nat_le, Bool, true, false}
use Rattle.std.specs.Prelude.{cond, List, [], ◌∷◌, ◌++◌, length, Option, Some, None, is_some}
use Rattle.std.specs.Prelude.{Contains}
use Rattle.std.specs.List.{AllByRecursion}
use Rattle.std.proofs.Common.{arith, refl, subst, sym, ap, ◌∙◌, inl, inr}
use Rattle.std.proofs.lemmas.Bool.{cases_Bool, eqb-true}
use Rattle.std.proofs.lemmas.Bool.Decides.{nat_tests}
use Rattle.std.proofs.lemmas.List.{append-nil}
use Rattle.std.proofs.lemmas.List.Elements.{All-contains, All-from_recursion}
use Rattle.kernel_model.specs.declared.Object.{Object}
use Rattle.kernel_model.specs.World.{processes}
use Rattle.kernel_model.specs.Objects.{Objects, Things, SameThing, mix_accounts}
use Rattle.kernel_model.specs.Access.{Found}
use Rattle.kernel_model.specs.Locks.{is_held_exclusively}
use Rattle.kernel_model.specs.Meaning.{Meaning}
use Rattle.kernel_model.specs.Levels.{Level, Config, level_at}
use Rattle.kernel_model.specs.UndoLog.{undo_all, undo_log, records_from}
use Rattle.kernel_model.specs.Kernel.{Kernel}
use Rattle.kernel_model.specs.Blocking.{levels_in, config_of, levels_of}
use Rattle.kernel_model.specs.InPlace.{Cut, no_cut, is_changed_in, kept_of, cut_state, over}
use Rattle.kernel_model.specs.InPlace.{undo_cut, store_with, store_below, in_place, undone}
use Rattle.kernel_model.specs.Sound.{IsSoundKernel, count_of}
use Rattle.kernel_model.specs.Claims.{UndoneIsBelow}
use Rattle.kernel_model.specs.Laws.{Laws}
use Rattle.kernel_laws.specs.Undoing.{InversesUndo, InversesChangeOneObject, ChangesAreOfOneObject}
use Rattle.graft_laws.proofs.ObjectLemmas.{undo_all_keeps, same_thing}
use Rattle.graft_laws.proofs.InverseLemmas.{thing_back, at_of}
use Rattle.graft_laws.proofs.InverseLemmas.{AllPass, pass_both, pass_more, undo_all_other}
use Rattle.graft_laws.proofs.RecordLemmas.{FoundByUndoing}
use Rattle.graft_laws.proofs.UndoableLemmas.{Undoable}
use Rattle.graft_laws.proofs.InPlaceLemmas.{store_other, store_own, caller_stands, call_undoable}
use Rattle.graft_laws.proofs.InPlaceLemmas.{changer_config, others_apart, changer}
use Rattle.kernel_laws.proofs.FrameLemmas.{thing_self, thing_then}
use Rattle.kernel_laws.proofs.ConfigLemmas.{undo_both}

-- ---- the records of levels

-- as many lists of records as levels
log_many : (ls : List Level) → length (undo_log ls) ≡ length ls
log_many [] = refl
log_many (l ∷ ls) = ap suc (log_many ls)

-- no records are of levels further inward than all
pub records_none : (d : ℕ) (ls : List Level) → length ls ≤ d → records_from d (undo_log ls) ≡ []
records_none d [] h = refl
records_none d (l ∷ ls) h =
    ap (λ b. elim b as (λ _. List Found) [
      | true ↦ l.records ++ records_from d (undo_log ls)
      | false ↦ []
    ]) (too_far d (length (undo_log ls)) (length ls) (log_many ls) h)
  where
    too_far : (d n k : ℕ) → n ≡ k → suc k ≤ d → nat_le d n ≡ false
    too_far d n k e h = grind (arith, nat_tests)

-- records of a level that isn't the innermost
pub records_more : (d : ℕ) (l : Level) (ls : List Level) → d ≤ length ls →
    records_from d (undo_log (l ∷ ls)) ≡ l.records ++ records_from d (undo_log ls)
records_more d l ls h =
    ap (λ b. elim b as (λ _. List Found) [
      | true ↦ l.records ++ records_from d (undo_log ls)
      | false ↦ []
    ]) (within d (length (undo_log ls)) (length ls) (log_many ls) h)
  where
    within : (d n k : ℕ) → n ≡ k → d ≤ k → nat_le d n ≡ true
    within d n k e h = grind (arith, nat_tests)

-- undone from a level inward, the records lead to what that level found
records_lead : (d : ℕ) (ls : List Level) (w : Things) → FoundByUndoing w ls → d < length ls →
    (x : Level) × (level_at d ls ≡ Some x) × (undo_all (records_from d (undo_log ls)) w ≡ x.kept)
records_lead d [] w h low = absurd (none_lower d low)
  where
    none_lower : (d : ℕ) → d < 0 → ⊥
    none_lower d h = omega arith
records_lead d (l ∷ ls) w h low = elim (cases_Bool (length ls == d)) [
  | inl top ↦
      let records : records_from d (undo_log (l ∷ ls)) ≡ l.records =
      records_more d l ls (at_most (length ls) d top)
      ∙ ap (λ is. l.records ++ is) (records_none d ls (at_least (length ls) d top))
      ∙ append-nil l.records in (
        l,
        ap (λ b. elim b as (λ _. Option Level) [ true ↦ Some l | false ↦ level_at d ls ]) top,
        ap (λ is. undo_all is w) records ∙ sym h.0,
      )
  | inr inner ↦
      let rest = records_lead d ls l.kept h.2 (further d (length ls) low inner) in (
        rest.0,
        ap (λ b. elim b as (λ _. Option Level) [ true ↦ Some l | false ↦ level_at d ls ]) inner ∙ rest.1,
        ap (λ is. undo_all is w) (records_more d l ls (below d (length ls) low))
            ∙ undo_both l.records (records_from d (undo_log ls)) w
            ∙ ap (undo_all (records_from d (undo_log ls))) (sym h.0) ∙ rest.2,
      )
]
  where
    at_most : (n d : ℕ) → (n == d) ≡ true → d ≤ n
    at_most n d e = grind (arith, nat_tests)

    at_least : (n d : ℕ) → (n == d) ≡ true → n ≤ d
    at_least n d e = grind (arith, nat_tests)

    further : (d n : ℕ) → d < suc n → (n == d) ≡ false → d < n
    further d n h e = grind (arith, nat_tests)

    below : (d n : ℕ) → d < suc n → d ≤ n
    below d n h = omega arith

-- there is no level from the count of them on
pub level_none : (d : ℕ) (ls : List Level) → length ls ≤ d → level_at d ls ≡ None
level_none d [] h = refl
level_none d (l ∷ ls) h =
    ap (λ b. elim b as (λ _. Option Level) [ true ↦ Some l | false ↦ level_at d ls ])
    (differs (length ls) d h) ∙ level_none d ls (less (length ls) d h)
  where
    differs : (n d : ℕ) → suc n ≤ d → (n == d) ≡ false
    differs n d h = grind (arith, nat_tests)

    less : (n d : ℕ) → suc n ≤ d → n ≤ d
    less n d h = omega arith

-- what a call's records above a cut lead to is its state below it
cut_undone : (x : Option ℕ) (c : Config) → Undoable c → (undo_cut x c.levels c.now).things ≡ (cut_state x c).things
cut_undone None c h = refl
cut_undone (Some d) c h = elim (cases_Bool (nat_le (length c.levels) d)) [
  | inl none ↦
      ap (λ is. undo_all is c.now.things) (records_none d c.levels (at_least d (length c.levels) none))
      ∙ ap (λ l. kept_of l c.now.things) (sym (level_none d c.levels (at_least d (length c.levels) none)))
  | inr some ↦
      let led = records_lead d c.levels c.now.things h.found (below d (length c.levels) some) in
      led.2 ∙ ap (λ l. kept_of l c.now.things) (sym led.1)
]
  where
    at_least : (d n : ℕ) → nat_le n d ≡ true → n ≤ d
    at_least d n e = grind (arith, nat_tests)

    below : (d n : ℕ) → nat_le n d ≡ false → d < n
    below d n e = grind (arith, nat_tests)

-- ---- records change what is held exclusively

records_pass : (d : ℕ) (ls : List Level) (w : Things) → FoundByUndoing w ls →
    AllPass (is_changed_in ls) (records_from d (undo_log ls))
records_pass d [] w h = tt
records_pass d (l ∷ ls) w h = pass_by (nat_le d (length (undo_log ls)))
    (pass_both (is_changed_in (l ∷ ls)) l.records (records_from d (undo_log ls)) h.1
    (pass_more (is_changed_in ls) (is_changed_in (l ∷ ls)) (records_from d (undo_log ls))
    (λ o e. or_passes (is_held_exclusively (l.touched o)) (is_changed_in ls o) e)
    (records_pass d ls l.kept h.2)))
  where
    or_passes : (a b : Bool) → b ≡ true → (a || b) ≡ true
    or_passes true b e = refl
    or_passes false b e = e

    pass_by : (b : Bool) → AllPass (is_changed_in (l ∷ ls)) (l.records ++ records_from d (undo_log ls)) →
        AllPass (is_changed_in (l ∷ ls)) (elim b as (λ _. List Found) [
          | true ↦ l.records ++ records_from d (undo_log ls)
          | false ↦ []
        ])
    pass_by true h = h
    pass_by false h = tt

-- ---- undoing one call

-- the accounts stay
cut_accounts : (x : Option ℕ) (ls : List Level) (s : Objects) → (undo_cut x ls s).accounts ≡ s.accounts
cut_accounts None ls s = refl
cut_accounts (Some d) ls s = refl

-- a call's records give the same value where there was the same
cut_same : (x : Option ℕ) (ls : List Level) (o : Object) (s t : Objects) →
    SameThing o s.things t.things → SameThing o (undo_cut x ls s).things (undo_cut x ls t).things
cut_same None ls o s t h = h
cut_same (Some d) ls o s t h = undo_all_keeps (records_from d (undo_log ls)) o s.things t.things h

-- and leave what the call didn't change
cut_other : InversesChangeOneObject →
    (x : Option ℕ) (ls : List Level) (w : Things) (o : Object) (s : Objects) → FoundByUndoing w ls →
    is_changed_in ls o ≡ false →
    SameThing o (undo_cut x ls s).things s.things
cut_other one None ls w o s h none = thing_self o s.things
cut_other one (Some d) ls w o s h none =
    undo_all_other one (is_changed_in ls) (records_from d (undo_log ls)) o s.things
    (records_pass d ls w h) none

-- ---- counts

-- a number that a list doesn't count isn't in it
not_counted : (p : ℕ) (ps : List ℕ) → count_of p ps ≡ 0 → AllByRecursion (λ q. q ≢ p) ps
not_counted p [] h = tt
not_counted p (q ∷ ps) h = elim (cases_Bool (q == p)) [
  | inl here ↦ absurd (counted (count_of p ps) (sym (ap (λ b. cond b (suc (count_of p ps)) (count_of p ps)) here) ∙ h))
  | inr other ↦ (
    differs q p other,
    not_counted p ps (sym (ap (λ b. cond b (suc (count_of p ps)) (count_of p ps)) other) ∙ h),
  )
]
  where
    counted : (n : ℕ) → suc n ≡ 0 → ⊥
    counted n h = omega arith

    differs : (q p : ℕ) → (q == p) ≡ false → q ≢ p
    differs q p h e = grind (arith, nat_tests)

not_contained : (p : ℕ) (ps : List ℕ) → count_of p ps ≡ 0 → Contains ps p → ⊥
not_contained p ps none h =
    All-contains (λ q. q ≢ p) ps p
    (All-from_recursion (λ q. q ≢ p) ps (not_counted p ps none)) h refl

module _ (m : Meaning) (k : Kernel) (cut : Cut) where
  -- ---- accounts

  undone_accounts : (ps : List ℕ) → (undone m k cut ps).accounts ≡ (in_place m k).accounts
  undone_accounts [] = refl
  undone_accounts (p ∷ ps) = cut_accounts (cut p) (levels_of m k p) (undone m k cut ps) ∙ undone_accounts ps

  below_accounts : (ps : List ℕ) → (store_with m k cut ps).accounts ≡ (store_with m k no_cut ps).accounts
  below_accounts [] = refl
  below_accounts (p ∷ ps) = over_by (config_of m k p) (cut p) (below_accounts ps)
    where
      now_accounts : (x : Option ℕ) (c : Config) → (cut_state x c).accounts ≡ c.now.accounts
      now_accounts None c = refl
      now_accounts (Some d) c = refl

      over_by : (x : Option Config) (d : Option ℕ) →
          (store_with m k cut ps).accounts ≡ (store_with m k no_cut ps).accounts →
          (over x d (store_with m k cut ps)).accounts ≡ (over x None (store_with m k no_cut ps)).accounts
      over_by None d h = h
      over_by (Some c) d h =
          ap (λ a. mix_accounts (is_changed_in c.levels) a (store_with m k cut ps).accounts)
          (now_accounts d c) ∙ ap (mix_accounts (is_changed_in c.levels) c.now.accounts) h

  module _ (laws : Laws m) (undoes : InversesUndo) (one : InversesChangeOneObject)
      (own : ChangesAreOfOneObject) (sound : IsSoundKernel m k) where
    -- ---- things

    -- undoing a call that didn't change an object leaves it
    undo_other : (p : ℕ) (o : Object) (s : Objects) → is_changed_in (levels_of m k p) o ≡ false →
        SameThing o (undo_cut (cut p) (levels_of m k p) s).things s.things
    undo_other p o s none = other_by (config_of m k p) refl none
      where
        other_by : (x : Option Config) → config_of m k p ≡ x →
            is_changed_in (levels_in x) o ≡ false →
            SameThing o (undo_cut (cut p) (levels_in x) s).things s.things
        other_by None e none = cut_other one (cut p) [] s.things o s tt none
        other_by (Some c) e none =
            cut_other one (cut p) c.levels c.now.things o s
            (call_undoable m k sound laws undoes own p c e).found none

    -- what no call changed is as in place
    undone_none : (ps : List ℕ) (o : Object) →
        ((p : ℕ) → is_changed_in (levels_of m k p) o ≡ false) →
        SameThing o (undone m k cut ps).things (in_place m k).things
    undone_none [] o none = thing_self o (in_place m k).things
    undone_none (p ∷ ps) o none =
        thing_then o (undone m k cut (p ∷ ps)).things (undone m k cut ps).things (in_place m
        k).things (undo_other p o (undone m k cut ps) (none p)) (undone_none ps o none)

    -- the same of what a call changed that isn't undone
    undone_without : (ps : List ℕ) (p : ℕ) (o : Object) → is_changed_in (levels_of m k p) o ≡ true →
        count_of p ps ≡ 0 → SameThing o (undone m k cut ps).things (in_place m k).things
    undone_without [] p o changed none = thing_self o (in_place m k).things
    undone_without (q ∷ ps) p o changed none =
        let rest = not_counted p (q ∷ ps) none in
        thing_then o (undone m k cut (q ∷ ps)).things (undone m k cut ps).things (in_place m k).things
        (undo_other q o (undone m k cut ps) (others_apart m k sound p q o rest.0 changed))
        (undone_without ps p o changed (fewer q p (count_of p ps) none))
      where
        fewer : (q p n : ℕ) → cond (q == p) (suc n) n ≡ 0 → n ≡ 0
        fewer q p n h = grind (arith, nat_tests)

    -- what a call changed that is undone once is as its records tell
    undone_with : (ps : List ℕ) (p : ℕ) (o : Object) → is_changed_in (levels_of m k p) o ≡ true → count_of p ps ≡ 1 →
        SameThing o (undone m k cut ps).things (undo_cut (cut p) (levels_of m k p) (in_place m k)).things
    undone_with [] p o changed once = absurd (none_one once)
      where
        none_one : ◌≡◌ {A = ℕ} 0 1 → ⊥
        none_one h = omega arith
    undone_with (q ∷ ps) p o changed once = elim (cases_Bool (q == p)) [
      | inl here ↦
          subst (λ i. SameThing o (undo_cut (cut i) (levels_of m k i) (undone m k cut ps)).things
          (undo_cut (cut p) (levels_of m k p) (in_place m k)).things) (sym (eqb-true q p here))
          (cut_same (cut p) (levels_of m k p) o (undone m k cut ps) (in_place m k)
          (undone_without ps p o changed (the_first (count_of p ps)
          (sym (ap (λ b. cond b (suc (count_of p ps)) (count_of p ps)) here) ∙ once))))
      | inr other ↦
          thing_then o (undone m k cut (q ∷ ps)).things (undone m k cut ps).things
          (undo_cut (cut p) (levels_of m k p) (in_place m k)).things
          (undo_other q o (undone m k cut ps) (others_apart m k sound p q o (differs q p other) changed))
          (undone_with ps p o changed (sym (ap (λ b. cond b (suc (count_of p ps)) (count_of p ps)) other) ∙ once))
    ]
      where
        the_first : (n : ℕ) → suc n ≡ 1 → n ≡ 0
        the_first n h = omega arith

        differs : (q p : ℕ) → (q == p) ≡ false → q ≢ p
        differs q p h e = grind (arith, nat_tests)

    -- whether it is undone or not, where every call that is cut is
    undone_own : (ps : List ℕ) (p : ℕ) (o : Object) → is_changed_in (levels_of m k p) o ≡ true →
        count_of p ps ≤ 1 → (is_some (cut p) ≡ true → Contains ps p) →
        SameThing o (undone m k cut ps).things (undo_cut (cut p) (levels_of m k p) (in_place m k)).things
    undone_own ps p o changed most cuts = elim (cases_Bool (count_of p ps == 0)) [
      | inl none ↦
          subst (λ x. SameThing o (undone m k cut ps).things (undo_cut x (levels_of m k p)
          (in_place m k)).things) (sym (uncut (cut p) refl (eqb-true (count_of p ps) 0 none)))
          (undone_without ps p o changed (eqb-true (count_of p ps) 0 none))
      | inr some ↦ undone_with ps p o changed (just_one (count_of p ps) most some)
    ]
      where
        uncut : (x : Option ℕ) → cut p ≡ x → count_of p ps ≡ 0 → x ≡ None
        uncut None e none = refl
        uncut (Some d) e none = absurd (not_contained p ps none (cuts (ap is_some e)))

        just_one : (n : ℕ) → n ≤ 1 → (n == 0) ≡ false → n ≡ 1
        just_one n h e = grind (arith, nat_tests)

    -- ---- the store below the cut

    -- what a call changed is as below the cut
    own_below : (ps : List ℕ) (p : ℕ) (o : Object) → is_changed_in (levels_of m k p) o ≡ true →
        count_of p ps ≤ 1 → (is_some (cut p) ≡ true → Contains ps p) →
        SameThing o (undone m k cut ps).things (store_below m k cut).things
    own_below ps p o changed most cuts =
        let f = changer_config m k sound p o changed in
        let c = f.0 in
        let others = λ (q : ℕ) (ne : q ≢ p). others_apart m k sound p q o ne changed in
        let stands = caller_stands m k sound p c f.1 in
        let placed = same_thing o (in_place m k) c.now (store_own m k o no_cut processes p c stands f.1 f.2 others) in
        let below = same_thing o (store_below m k cut) (cut_state (cut p) c)
        (store_own m k o cut processes p c stands f.1 f.2 others) in
        let records = cut_same (cut p) c.levels o (in_place m k) c.now placed in
        let led = subst (SameThing o (undo_cut (cut p) c.levels (in_place m k)).things)
        (cut_undone (cut p) c (call_undoable m k sound laws undoes own p c f.1)) records in
        let gone = subst (λ x. SameThing o (undone m k cut ps).things (undo_cut (cut p)
        (levels_in x) (in_place m k)).things) f.1 (undone_own ps p o changed most cuts) in
        thing_then o (undone m k cut ps).things (undo_cut (cut p) c.levels (in_place m k)).things
        (store_below m k cut).things gone
        (thing_then o (undo_cut (cut p) c.levels (in_place m k)).things (cut_state (cut p) c).things
        (store_below m k cut).things led
        (thing_back o (store_below m k cut).things (cut_state (cut p) c).things below))

    -- what no call changed is as committed
    none_below : (ps : List ℕ) (o : Object) →
        ((p : ℕ) → is_changed_in (levels_of m k p) o ≡ false) →
        SameThing o (undone m k cut ps).things (store_below m k cut).things
    none_below ps o none =
        thing_then o (undone m k cut ps).things (in_place m k).things (store_below m k cut).things
        (undone_none ps o none)
        (thing_then o (in_place m k).things k.objects.things (store_below m k cut).things
        (same_thing o (in_place m k) k.objects (store_other m k o no_cut processes none))
        (thing_back o (store_below m k cut).things k.objects.things
        (same_thing o (store_below m k cut) k.objects (store_other m k o cut processes none))))

    things_below : (ps : List ℕ) (o : Object) → ((p : ℕ) → count_of p ps ≤ 1) →
        ((p : ℕ) → is_some (cut p) ≡ true → Contains ps p) →
        SameThing o (undone m k cut ps).things (store_below m k cut).things
    things_below ps o most cuts = elim (changer m k sound o) [
      | inl found ↦ own_below ps found.0 o found.1 (most found.0) (cuts found.0)
      | inr none ↦ none_below ps o none
    ]

-- undoing calls above a cut, one after another in any order, gives the store below the cut
pub undone_is_below : InversesUndo → InversesChangeOneObject → ChangesAreOfOneObject → (m : Meaning) → UndoneIsBelow m
undone_is_below undoes one own m k cut ps o laws sound most cuts =
    at_of o (undone m k cut ps) (store_below m k cut)
    (undone_accounts m k cut ps ∙ sym (below_accounts m k cut processes))
    (things_below m k cut laws undoes one own sound ps o most cuts)
