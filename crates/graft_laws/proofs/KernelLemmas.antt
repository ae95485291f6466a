-- What of two calls that are alike is the same, and what the order of waiting keeps.
use Rattle.std.specs.Prelude.{◌≡◌, ◌≢◌, ℕ, zero, suc, ◌+◌, ◌<◌, ◌≤◌, ◌==◌, ◌||◌, Bool, true}
use Rattle.std.specs.Prelude.{false, cond, List, [], ◌∷◌, ◌++◌, length, map, slice_index_or}
use Rattle.std.specs.Prelude.{Contains, Option, Some}
use Rattle.std.specs.List.{AllByRecursion}
use Rattle.std.proofs.Common.{arith, refl, subst, sym, ap, ◌∙◌, inl, inr}
use Rattle.std.proofs.lemmas.Bool.{cases_Bool}
use Rattle.std.proofs.lemmas.Bool.Decides.{nat_tests}
use Rattle.kernel_model.specs.declared.Held.{Held}
use Rattle.kernel_model.specs.declared.Kind.TheVariants.{Steps}
use Rattle.kernel_model.specs.declared.Object.{Object}
use Rattle.kernel_model.specs.declared.Object.TheVariants.{Graft, Acct}
use Rattle.kernel_model.specs.World.{World, ImageTable, processes}
use Rattle.kernel_model.specs.Objects.{Objects, GraftValue, AcctValue, SameAt}
use Rattle.kernel_model.specs.Charges.{payer_balance}
use Rattle.kernel_model.specs.Machine.{next_call}
use Rattle.kernel_model.specs.Locks.{is_held, is_held_exclusively, untouched}
use Rattle.kernel_model.specs.Meaning.{Meaning}
use Rattle.kernel_model.specs.Levels.{Level, Config, image_of, code_in, code_of, limit_in}
use Rattle.kernel_model.specs.Levels.{level_at, touched_at, touched_in, outermost_touched}
use Rattle.kernel_model.specs.GraftStep.{is_spent, instruction_needs, next_needs}
use Rattle.kernel_model.specs.Kernel.{Waiter, Kernel, less_entry}
use Rattle.kernel_model.specs.Blocking.{levels_of, holds}
use Rattle.kernel_model.specs.InPlace.{is_changed_in}
use Rattle.kernel_model.specs.Sound.{clash, count_of}
use Rattle.kernel_model.specs.Alike.{LevelsAlike, ConfigsAlike, is_held_in}
use Rattle.graft_laws.specs.Histories.{IsReplayed}
use Rattle.graft_laws.proofs.PointLemmas.{or_left, or_right}
use Rattle.graft_laws.proofs.HoldLemmas.{outermost_held}
use Rattle.graft_laws.proofs.LevelsAlikeLemmas.{length_alike}
use Rattle.graft_laws.proofs.ShapeLemmas.{contrary}
use Rattle.kernel_laws.proofs.SettleLemmas.{less_own, less_other}

-- ---- calls that are alike

-- the next instruction needs the same
pub needs_alike : (v : World) (images : ImageTable) (s : Objects) (c d : Config) → IsReplayed v s c → ConfigsAlike c d →
    next_needs v images c.now.accounts c.levels ≡ next_needs v images d.now.accounts d.levels
needs_alike v images s c d h alike = by_levels c.levels d.levels h.sound.paid alike.levels alike.now
  where
    below_suc : (n : ℕ) → 0 < suc n
    below_suc n = omega arith

    by_levels : (ls ks : List Level) →
        ((l : Level) → Contains ls l → (outermost_touched ls (Graft l.owner l.point)
        ≡ Held.Exclusive) × (outermost_touched ls (Acct l.owner) ≡ Held.Exclusive)) →
        LevelsAlike ls ks → ((o : Object) → is_held_in ls o ≡ true → SameAt o c.now d.now) →
        next_needs v images c.now.accounts ls ≡ next_needs v images d.now.accounts ks
    by_levels [] [] paid levels now = refl
    by_levels (l ∷ ls) (k ∷ ks) paid levels now =
        let own = paid l (0, below_suc (length ls), refl) in
        let graft = (now (Graft l.owner l.point) (outermost_held (l ∷ ls) (Graft l.owner l.point) own.0)).0 in
        let acct = now (Acct l.owner) (outermost_held (l ∷ ls) (Acct l.owner) own.1) in
        let spent : is_spent c.now.accounts l ≡ is_spent d.now.accounts l =
        ap (λ (g : Option GraftValue). l.count == limit_in g
        || payer_balance Steps (c.now.accounts.acct l.owner) g == 0) graft
        ∙ ap (λ (x : AcctValue). l.count == limit_in (d.now.accounts.graft l.owner l.point)
        || payer_balance Steps x (d.now.accounts.graft l.owner l.point) == 0) acct in
        ap (λ b. cond b [] (instruction_needs v l
        (next_call (code_of images c.now.accounts l.owner l.point) l.machine))) spent
        ∙ ap (λ (g : Option GraftValue). cond (is_spent d.now.accounts l) []
        (instruction_needs v l (next_call (code_in (image_of images g)) l.machine))) graft
        ∙ ap (λ (m : Level). cond (is_spent d.now.accounts m) [] (instruction_needs v m
        (next_call (code_of images d.now.accounts m.owner m.point) m.machine))) levels.0
    by_levels [] (k ∷ ks) paid levels now = absurd levels
    by_levels (l ∷ ls) [] paid levels now = absurd levels

-- levels hold the same
pub touched_alike : (ls ks : List Level) (d : ℕ) → LevelsAlike ls ks → touched_at ls d ≡ touched_at ks d
touched_alike [] [] d h = refl
touched_alike (l ∷ ls) (k ∷ ks) d h =
    by_top (length ls == d) (length ks == d) (ap (λ n. n == d) (length_alike ls ks h.1))
    (touched_alike ls ks d h.1)
  where
    by_top : (b c : Bool) → b ≡ c → touched_at ls d ≡ touched_at ks d →
        touched_in (elim b as (λ _. Option Level) [ true ↦ Some l | false ↦ level_at d ls ])
        ≡ touched_in (elim c as (λ _. Option Level) [ true ↦ Some k | false ↦ level_at d ks ])
    by_top true true e rest = ap (λ (m : Level). m.touched) h.0
    by_top false false e rest = rest
    by_top true false e rest = absurd cc
    by_top false true e rest = absurd cc
touched_alike [] (k ∷ ks) d h = absurd h
touched_alike (l ∷ ls) [] d h = absurd h

-- ---- what one level holds the levels hold

pub held_at : (ls : List Level) (d : ℕ) (o : Object) → is_held (touched_at ls d o) ≡ true → is_held_in ls o ≡ true
held_at [] d o h = h
held_at (l ∷ ls) d o h = by_top (length ls == d) h (held_at ls d o)
  where
    by_top : (b : Bool) → is_held (touched_in
        (elim b as (λ _. Option Level) [ true ↦ Some l | false ↦ level_at d ls ]) o) ≡ true →
        (is_held (touched_at ls d o) ≡ true → is_held_in ls o ≡ true) → is_held_in (l ∷ ls) o ≡ true
    by_top true h rest = or_left (is_held (l.touched o)) (is_held_in ls o) h
    by_top false h rest = or_right (is_held (l.touched o)) (is_held_in ls o) (rest h)

pub changed_at : (ls : List Level) (d : ℕ) (o : Object) →
    is_held_exclusively (touched_at ls d o) ≡ true → is_changed_in ls o ≡ true
changed_at [] d o h = h
changed_at (l ∷ ls) d o h = by_top (length ls == d) h (changed_at ls d o)
  where
    by_top : (b : Bool) → is_held_exclusively (touched_in
        (elim b as (λ _. Option Level) [ true ↦ Some l | false ↦ level_at d ls ]) o) ≡ true →
        (is_held_exclusively (touched_at ls d o) ≡ true → is_changed_in ls o ≡ true) → is_changed_in (l ∷ ls) o ≡ true
    by_top true h rest = or_left (is_held_exclusively (l.touched o)) (is_changed_in ls o) h
    by_top false h rest = or_right (is_held_exclusively (l.touched o)) (is_changed_in ls o) (rest h)

-- beyond the processes nothing is held
pub holds_beyond : (m : Meaning) (k : Kernel) (p d : ℕ) → 16 ≤ p → holds m k p d ≡ untouched
holds_beyond m k p d h = ap (λ ls. touched_at ls d) (beyond (levels_of m k) processes p h)
  where
    beyond : (f : ℕ → List Level) (xs : List ℕ) (p : ℕ) → length xs ≤ p → slice_index_or (map f xs) p [] ≡ []
    beyond f [] p h = refl
    beyond f (x ∷ xs) zero h = absurd (none (length xs) h)
      where
        none : (n : ℕ) → suc n ≤ 0 → ⊥
        none n h = omega arith
    beyond f (x ∷ xs) (suc p) h = beyond f xs p (lower (length xs) p h)
      where
        lower : (n p : ℕ) → suc n ≤ suc p → n ≤ p
        lower n p h = omega arith

-- ---- conflicts

pub clash_none : (h : Held) → clash h Held.Free ≡ false
clash_none Held.Free = refl
clash_none Held.Shared = refl
clash_none Held.Exclusive = refl

pub clash_back : (h k : Held) → clash h k ≡ clash k h
clash_back Held.Free Held.Free = refl
clash_back Held.Free Held.Shared = refl
clash_back Held.Free Held.Exclusive = refl
clash_back Held.Shared Held.Free = refl
clash_back Held.Shared Held.Shared = refl
clash_back Held.Shared Held.Exclusive = refl
clash_back Held.Exclusive Held.Free = refl
clash_back Held.Exclusive Held.Shared = refl
clash_back Held.Exclusive Held.Exclusive = refl

-- a hold beside one that is exclusive only where the first isn't held, and that is held only where
-- the first isn't exclusive
pub clash_free : (h k : Held) → (is_held_exclusively k ≡ true → is_held h ≡ false) →
    (is_held k ≡ true → is_held_exclusively h ≡ false) → clash h k ≡ false
clash_free Held.Free k a b = refl
clash_free Held.Shared Held.Free a b = refl
clash_free Held.Shared Held.Shared a b = refl
clash_free Held.Shared Held.Exclusive a b = contrary (a refl)
clash_free Held.Exclusive Held.Free a b = refl
clash_free Held.Exclusive Held.Shared a b = contrary (b refl)
clash_free Held.Exclusive Held.Exclusive a b = contrary (b refl)

-- and what doesn't clash is so
pub clash_unheld : (h k : Held) → clash h k ≡ false → is_held_exclusively k ≡ true → is_held h ≡ false
clash_unheld Held.Free k e x = refl
clash_unheld Held.Shared Held.Free e x = contrary (sym x)
clash_unheld Held.Shared Held.Shared e x = contrary (sym x)
clash_unheld Held.Shared Held.Exclusive e x = contrary e
clash_unheld Held.Exclusive Held.Free e x = contrary (sym x)
clash_unheld Held.Exclusive Held.Shared e x = contrary e
clash_unheld Held.Exclusive Held.Exclusive e x = contrary e

pub clash_unchanged : (h k : Held) → clash h k ≡ false → is_held k ≡ true → is_held_exclusively h ≡ false
clash_unchanged Held.Free k e x = refl
clash_unchanged Held.Shared k e x = refl
clash_unchanged Held.Exclusive Held.Free e x = contrary (sym x)
clash_unchanged Held.Exclusive Held.Shared e x = contrary e
clash_unchanged Held.Exclusive Held.Exclusive e x = contrary e

-- ---- the order of waiting

-- the processes of entries
abbrev pub processes_in : List Waiter → List ℕ
processes_in es = map (λ (e : Waiter). e.process) es

pub count_both : (p : ℕ) (xs ys : List Waiter) → count_of p (processes_in (xs ++ ys))
    ≡ count_of p (processes_in xs) + count_of p (processes_in ys)
count_both p [] ys = zero_plus (count_of p (processes_in ys))
  where
    zero_plus : (n : ℕ) → n ≡ 0 + n
    zero_plus n = omega arith
count_both p (x ∷ xs) ys = count_by (x.process == p) (count_both p xs ys)
  where
    one_more : (a b c : ℕ) → a ≡ b + c → suc a ≡ suc b + c
    one_more a b c e = omega arith

    count_by : (b : Bool) → count_of p (processes_in (xs ++ ys))
        ≡ count_of p (processes_in xs) + count_of p (processes_in ys) →
        cond b (suc (count_of p (processes_in (xs ++ ys)))) (count_of p (processes_in (xs ++ ys)))
        ≡ cond b (suc (count_of p (processes_in xs))) (count_of p (processes_in xs)) + count_of p (processes_in ys)
    count_by true e =
        one_more (count_of p (processes_in (xs ++ ys))) (count_of p (processes_in xs))
        (count_of p (processes_in ys)) e
    count_by false e = e

pub count_less_own : (q : ℕ) (es : List Waiter) → count_of q (processes_in (less_entry q es)) ≡ 0
count_less_own q [] = refl
count_less_own q (e ∷ es) = elim (cases_Bool (e.process == q)) [
  | inl own ↦ ap (λ xs. count_of q (processes_in xs)) (less_own q e es own) ∙ count_less_own q es
  | inr other ↦ ap (λ xs. count_of q (processes_in xs)) (less_other q e es other)
      ∙ ap (λ b. cond b (suc (count_of q (processes_in (less_entry q es))))
      (count_of q (processes_in (less_entry q es)))) other ∙ count_less_own q es
]

pub count_less_other : (p q : ℕ) (es : List Waiter) → p ≢ q →
    count_of p (processes_in (less_entry q es)) ≡ count_of p (processes_in es)
count_less_other p q [] ne = refl
count_less_other p q (e ∷ es) ne = elim (cases_Bool (e.process == q)) [
  | inl own ↦ ap (λ xs. count_of p (processes_in xs)) (less_own q e es own) ∙ count_less_other p q es ne
      ∙ sym (ap (λ b. cond b (suc (count_of p (processes_in es))) (count_of p (processes_in es)))
      (not_it e.process p q own ne))
  | inr other ↦ ap (λ xs. count_of p (processes_in xs)) (less_other q e es other)
      ∙ ap (λ n. cond (e.process == p) (suc n) n) (count_less_other p q es ne)
]
  where
    not_it : (e p q : ℕ) → (e == q) ≡ true → p ≢ q → (e == p) ≡ false
    not_it e p q own ne =
        elim (cases_Bool (e == p)) [
          | inl same ↦ absurd (ne (both e p q own same))
          | inr other ↦ other
        ]
      where
        both : (e p q : ℕ) → (e == q) ≡ true → (e == p) ≡ true → p ≡ q
        both e p q a b = grind (arith, nat_tests)

-- what holds of each entry holds of those of others
pub each_less : (P Q : Waiter → Type 0) (q : ℕ) (es : List Waiter) →
    ((e : Waiter) → e.process ≢ q → P e → Q e) → AllByRecursion P es → AllByRecursion Q (less_entry q es)
each_less P Q q [] h each = tt
each_less P Q q (e ∷ es) h each = elim (cases_Bool (e.process == q)) [
  | inl own ↦ subst (AllByRecursion Q) (sym (less_own q e es own)) (each_less P Q q es h each.1)
  | inr other ↦ subst (AllByRecursion Q) (sym (less_other q e es other))
      (h e (differ e.process q other) each.0, each_less P Q q es h each.1)
]
  where
    differ : (x y : ℕ) → (x == y) ≡ false → x ≢ y
    differ x y h = λ e. differs x y h e
      where
        differs : (x y : ℕ) → (x == y) ≡ false → x ≡ y → ⊥
        differs x y h e = grind (arith, nat_tests)

pub each_both : (P : Waiter → Type 0) (xs ys : List Waiter) → AllByRecursion P xs →
    AllByRecursion P ys → AllByRecursion P (xs ++ ys)
each_both P [] ys h k = k
each_both P (x ∷ xs) ys h k = (h.0, each_both P xs ys h.1 k)
