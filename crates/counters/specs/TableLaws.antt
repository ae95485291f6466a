-- The table of counters meets the laws of tables of quick calls.
use Rattle.std.specs.Prelude.{◌≡◌, ℕ, suc, ◌+◌, ◌<◌, ◌≤◌, ◌==◌, nat_lt, Bool, true, false}
use Rattle.std.specs.Prelude.{List, [], ◌∷◌, length, None}
use Rattle.std.specs.List.{AllByRecursion as Each}
use Rattle.std.proofs.Common.{arith, refl, ap}
use Rattle.std.proofs.lemmas.Bool.Decides.{nat_tests}
use Rattle.kernel_model.specs.declared.Need.{Need}
use Rattle.kernel_model.specs.declared.Object.{Object}
use Rattle.kernel_model.specs.declared.Object.TheVariants.{Cell, Queue}
use Rattle.kernel_model.specs.declared.SysCall.{SysCall}
use Rattle.kernel_model.specs.declared.SysCall.TheVariants.{Poke, Peek}
use Rattle.kernel_model.specs.World.{World}
use Rattle.kernel_model.specs.Objects.{Objects, SameAt, same_object}
use Rattle.kernel_model.specs.Policies.{lives}
use Rattle.kernel_model.specs.Needs.{shared, exclusive}
use Rattle.kernel_model.specs.Events.{wanted}
use Rattle.kernel_model.specs.Sound.{IsSoundStore}
use Rattle.kernel_model.specs.Alike.{AgreeOn, is_needed_exclusively}
use Rattle.quick_calls.specs.FileChanges.{same_self}
use Rattle.quick_calls.specs.NeedOrder.{Follows}
use Rattle.quick_calls.specs.NeedRanges.{NeedIsInRange}
use Rattle.quick_calls.specs.SoundStores.{store_with_cell}
use Rattle.quick_calls.specs.QuickTables.{objects_after}
use Rattle.quick_calls.specs.QuickLaws.{QuickLaws, MayBeNeeded, ComeToTheSame, KeepsRest}
use Rattle.quick_calls.specs.QuickLaws.{is_disk_refusal}
use Rattle.quick_calls.specs.EarlyFaults.{is_for_disk}
use Rattle.quick_calls.specs.Agreeing.{same_first, agree_on_rest}
use Rattle.counters.specs.Table.{is_own, refusal, poke_needs, peek_needs, needs}
use Rattle.counters.specs.Table.{poked, peeked, does, counters}

-- ---- refusals

-- a call that isn't refused at once is the table's own
own_calls : (p : ℕ) (c : SysCall) → refusal p c ≡ None → is_own c ≡ true
own_calls p (Poke k x) h = refl
own_calls p (Peek k) h = refl
own_calls p c h = cc

-- none is refused at once because the disk failed
not_for_disk : (p : ℕ) (c : SysCall) → is_for_disk (refusal p c) ≡ false
not_for_disk p (Poke k x) = grind (arith, nat_tests)
not_for_disk p (Peek k) = grind (arith, nat_tests)
not_for_disk p c = refl

-- ---- needed objects

-- the next object depends on those before it: the queue shows whether process 0 lives
in_order : (c : SysCall) (s u : Objects) (p : ℕ) → Follows s u (needs c s p) (needs c u p)
in_order (Poke k x) s u p = (
  refl,
  λ same. by_life (lives s.things.queue 0) (lives u.things.queue 0) (k == 3)
      (ap (λ rows. lives rows 0) same.0),
)
  where
    by_life : (a b sets : Bool) → a ≡ b → Follows s u (poke_needs k a sets) (poke_needs k b sets)
    by_life true true true e = (refl, λ h. tt)
    by_life true true false e = (refl, λ h. (refl, λ g. tt))
    by_life false false sets e = tt
    by_life true false sets e = cc
    by_life false true sets e = cc
in_order (Peek k) s u p = (
  refl,
  λ same. by_life (lives s.things.queue 0) (lives u.things.queue 0)
      (ap (λ rows. lives rows 0) same.0),
)
  where
    by_life : (a b : Bool) → a ≡ b → Follows s u (peek_needs k a) (peek_needs k b)
    by_life true true e = (refl, λ h. tt)
    by_life false false e = tt
    by_life true false e = cc
    by_life false true e = cc
in_order c s u p = tt

-- at most three
are_few : (c : SysCall) (s : Objects) (p : ℕ) → length (needs c s p) ≤ 255
are_few (Poke k x) s p = by_case (lives s.things.queue 0) (k == 3)
  where
    by_case : (a sets : Bool) → suc (length (poke_needs k a sets)) ≤ 255
    by_case true true = omega arith
    by_case true false = omega arith
    by_case false sets = omega arith
are_few (Peek k) s p = by_life (lives s.things.queue 0)
  where
    by_life : (a : Bool) → suc (length (peek_needs k a)) ≤ 255
    by_life true = omega arith
    by_life false = omega arith
are_few c s p = omega arith

-- the queue and cells
right_kinds : (c : SysCall) (s : Objects) (p : ℕ) → Each (MayBeNeeded p c) (needs c s p)
right_kinds (Poke k x) s p = ((tt, refl, refl), by_case (lives s.things.queue 0) (k == 3))
  where
    by_case : (a sets : Bool) → Each (MayBeNeeded p (Poke k x)) (poke_needs k a sets)
    by_case true true = ((tt, refl, refl), tt)
    by_case true false = ((tt, refl, refl), ((tt, refl, refl), tt))
    by_case false sets = tt
right_kinds (Peek k) s p = ((tt, refl, refl), by_life (lives s.things.queue 0))
  where
    by_life : (a : Bool) → Each (MayBeNeeded p (Peek k)) (peek_needs k a)
    by_life true = ((tt, refl, refl), tt)
    by_life false = tt
right_kinds c s p = tt

-- each is wanted in its mode: an addition doesn't go to the limit
one_mode : (c : SysCall) (s : Objects) (p : ℕ) →
    Each (λ (n : Need). wanted n.object (needs c s p) ≡ n.mode) (needs c s p)
unfolding same_object
one_mode (Poke k x) s p = by_case (lives s.things.queue 0) (k == 3) refl
  where
    by_case : (a sets : Bool) → (k == 3) ≡ sets →
        Each (λ (n : Need). wanted n.object (shared Queue ∷ poke_needs k a sets) ≡ n.mode)
        (shared Queue ∷ poke_needs k a sets)
    by_case true true e = (refl, (grind (arith, nat_tests), tt))
    by_case true false e = (refl, (grind (arith, nat_tests), (grind (arith, nat_tests, e), tt)))
    by_case false sets e = (refl, tt)
one_mode (Peek k) s p = by_life (lives s.things.queue 0)
  where
    by_life : (a : Bool) →
        Each (λ (n : Need). wanted n.object (shared Queue ∷ peek_needs k a) ≡ n.mode)
        (shared Queue ∷ peek_needs k a)
    by_life true = (refl, (grind (arith, nat_tests), tt))
    by_life false = (refl, tt)
one_mode c s p = tt

-- the numbers are in their ranges, if the call isn't refused
in_ranges : (c : SysCall) (s : Objects) (p : ℕ) → p < 16 → refusal p c ≡ None →
    Each NeedIsInRange (needs c s p)
in_ranges (Poke k x) s p low granted =
    let l : k < 4 = grind (arith, nat_tests) in (tt, by_case l (lives s.things.queue 0) (k == 3))
  where
    by_case : k < 4 → (a sets : Bool) → Each NeedIsInRange (poke_needs k a sets)
    by_case l true true = ((omega arith, l), tt)
    by_case l true false = ((omega arith, omega arith), ((omega arith, l), tt))
    by_case l false sets = tt
in_ranges (Peek k) s p low granted =
    let l : k < 4 = grind (arith, nat_tests) in (tt, by_life l (lives s.things.queue 0))
  where
    by_life : k < 4 → (a : Bool) → Each NeedIsInRange (peek_needs k a)
    by_life l true = ((omega arith, l), tt)
    by_life l false = tt
in_ranges c s p low granted = tt

-- ---- what a call looks at and changes

-- states that agree on what a poke needs have the same counter, if process 0 lives
same_counter : (s u : Objects) (k : ℕ) (a sets : Bool) → AgreeOn (poke_needs k a sets) s u →
    a ≡ true → s.things.cell 0 k ≡ u.things.cell 0 k
same_counter s u k true true agree h = same_first (exclusive (Cell 0 k)) [] s u agree
same_counter s u k true false agree h =
    same_first (exclusive (Cell 0 k)) [] s u
    (agree_on_rest (shared (Cell 0 3)) (exclusive (Cell 0 k) ∷ []) s u agree)
same_counter s u k false sets agree h = cc

-- and the same limit, if it adds
same_limit : (s u : Objects) (k : ℕ) (a sets : Bool) → AgreeOn (poke_needs k a sets) s u →
    a ≡ true → sets ≡ false → s.things.cell 0 3 ≡ u.things.cell 0 3
same_limit s u k true false agree h e =
    same_first (shared (Cell 0 3)) (exclusive (Cell 0 k) ∷ []) s u agree
same_limit s u k true true agree h e = cc
same_limit s u k false sets agree h e = cc

-- equal counters are above equal limits alike
same_test : (l m c d x : ℕ) → l ≡ m → c ≡ d → nat_lt l (c + x) ≡ nat_lt m (d + x)
same_test l m c d x h k = grind (arith, nat_tests, h, k)

-- a poke comes to the same
poke_same : (s u : Objects) (k x : ℕ) (a b sets e f : Bool) → a ≡ b →
    (a ≡ true → s.things.cell 0 k ≡ u.things.cell 0 k) →
    (a ≡ true → sets ≡ false → e ≡ f) →
    ComeToTheSame s u (poked s k x a sets e) (poked u k x b sets f)
poke_same s u k x true true true e f h counter above = grind (arith, nat_tests)
poke_same s u k x true true false true true h counter above = refl
poke_same s u k x true true false false false h counter above =
    let same = counter refl in grind (arith, nat_tests, same)
poke_same s u k x true true false true false h counter above =
    let no : true ≡ false = above refl refl in absurd cc
poke_same s u k x true true false false true h counter above =
    let no : false ≡ true = above refl refl in absurd cc
poke_same s u k x false false sets e f h counter above = refl
poke_same s u k x true false sets e f h counter above = cc
poke_same s u k x false true sets e f h counter above = cc

-- and so does a peek
peek_same : (s u : Objects) (k : ℕ) (a b : Bool) → a ≡ b → AgreeOn (peek_needs k a) s u →
    ComeToTheSame s u (peeked s k a) (peeked u k b)
peek_same s u k true true h agree =
    let same = same_first (shared (Cell 0 k)) [] s u agree in
    grind (arith, nat_tests, same)
peek_same s u k false false h agree = refl
peek_same s u k true false h agree = cc
peek_same s u k false true h agree = cc

-- a call looks at what it needs alone
looks : (c : SysCall) (s u : Objects) (p : ℕ) → AgreeOn (needs c s p) s u →
    ComeToTheSame s u (does c s p) (does c u p)
looks (Poke k x) s u p agree =
    let a = lives s.things.queue 0 in
    let rest = poke_needs k a (k == 3) in
    let queue = same_first (shared Queue) rest s u agree in
    let cells = agree_on_rest (shared Queue) rest s u agree in
    poke_same s u k x a (lives u.things.queue 0) (k == 3)
    (nat_lt (s.things.cell 0 3) (s.things.cell 0 k + x))
    (nat_lt (u.things.cell 0 3) (u.things.cell 0 k + x))
    (ap (λ rows. lives rows 0) queue.0)
    (λ alive. same_counter s u k a (k == 3) cells alive)
    (λ alive adds. same_test (s.things.cell 0 3) (u.things.cell 0 3)
    (s.things.cell 0 k) (u.things.cell 0 k) x
    (same_limit s u k a (k == 3) cells alive adds)
    (same_counter s u k a (k == 3) cells alive))
looks (Peek k) s u p agree =
    let rest = peek_needs k (lives s.things.queue 0) in
    let queue = same_first (shared Queue) rest s u agree in
    peek_same s u k (lives s.things.queue 0) (lives u.things.queue 0)
    (ap (λ rows. lives rows 0) queue.0)
    (agree_on_rest (shared Queue) rest s u agree)
looks c s u p agree = refl

-- it changes what it needs exclusively alone
changes : (c : SysCall) (s : Objects) (p : ℕ) (o : Object) →
    is_needed_exclusively o (needs c s p) ≡ false → SameAt o (objects_after s (does c s p)) s
unfolding same_object
changes (Poke k x) s p o h =
    by_case (lives s.things.queue 0) (k == 3)
    (nat_lt (s.things.cell 0 3) (s.things.cell 0 k + x)) h
  where
    by_case : (a sets e : Bool) → is_needed_exclusively o (poke_needs k a sets) ≡ false →
        SameAt o (objects_after s (poked s k x a sets e)) s
    by_case true true e h = grind (arith, nat_tests)
    by_case true false true h = same_self o s
    by_case true false false h = grind (arith, nat_tests)
    by_case false sets e h = same_self o s
changes (Peek k) s p o h = by_life (lives s.things.queue 0)
  where
    by_life : (a : Bool) → SameAt o (objects_after s (peeked s k a)) s
    by_life true = same_self o s
    by_life false = same_self o s
changes c s p o h = same_self o s

-- ---- what a call keeps

-- a poke
poke_keeps : (s : Objects) (k x : ℕ) (a sets e : Bool) →
    KeepsRest s (objects_after s (poked s k x a sets e))
poke_keeps s k x a sets e = grind (arith, nat_tests)

-- a peek
peek_keeps : (s : Objects) (k : ℕ) (a : Bool) → KeepsRest s (objects_after s (peeked s k a))
peek_keeps s k a = grind (arith, nat_tests)

-- neither accounts, nor the queue, nor the cache change
keeps : (c : SysCall) (s : Objects) (p : ℕ) → KeepsRest s (objects_after s (does c s p))
keeps (Poke k x) s p =
    poke_keeps s k x (lives s.things.queue 0) (k == 3)
    (nat_lt (s.things.cell 0 3) (s.things.cell 0 k + x))
keeps (Peek k) s p = peek_keeps s k (lives s.things.queue 0)
keeps c s p = record { accounts = refl; queue = refl; cache = refl }

-- a sound store stays sound: process 0 lives in it
poke_store : (v : World) (s : Objects) (k x : ℕ) (a sets e : Bool) → IsSoundStore v s →
    IsSoundStore v (objects_after s (poked s k x a sets e))
poke_store v s k x true true e h = store_with_cell v s 0 k x h h.root
poke_store v s k x true false true h = h
poke_store v s k x true false false h =
    store_with_cell v s 0 k (s.things.cell 0 k + x) h h.root
poke_store v s k x false sets e h = h

-- a peek changes nothing
peek_store : (v : World) (s : Objects) (k : ℕ) (a : Bool) → IsSoundStore v s →
    IsSoundStore v (objects_after s (peeked s k a))
peek_store v s k true h = h
peek_store v s k false h = h

-- each call
sound : (c : SysCall) (v : World) (s : Objects) (p : ℕ) → IsSoundStore v s →
    IsSoundStore v (objects_after s (does c s p))
sound (Poke k x) v s p h =
    poke_store v s k x (lives s.things.queue 0) (k == 3)
    (nat_lt (s.things.cell 0 3) (s.things.cell 0 k + x)) h
sound (Peek k) v s p h = peek_store v s k (lives s.things.queue 0) h
sound c v s p h = h

-- a poke doesn't blame the disk
poke_no_fault : (s : Objects) (k x : ℕ) (a sets e : Bool) →
    is_disk_refusal (poked s k x a sets e) ≡ false
poke_no_fault s k x true true e = refl
poke_no_fault s k x true false true = refl
poke_no_fault s k x true false false = refl
poke_no_fault s k x false sets e = refl

-- nor does a peek
peek_no_fault : (s : Objects) (k : ℕ) (a : Bool) → is_disk_refusal (peeked s k a) ≡ false
peek_no_fault s k true = refl
peek_no_fault s k false = refl

-- no call does
no_fault : (c : SysCall) (s : Objects) (p : ℕ) → is_disk_refusal (does c s p) ≡ false
no_fault (Poke k x) s p =
    poke_no_fault s k x (lives s.things.queue 0) (k == 3)
    (nat_lt (s.things.cell 0 3) (s.things.cell 0 k + x))
no_fault (Peek k) s p = peek_no_fault s k (lives s.things.queue 0)
no_fault c s p = refl

-- The laws of tables of quick calls hold of counters.
pub laws_of_counters : QuickLaws counters
laws_of_counters =
    record {
      own = own_calls;
      no_early_fault = not_for_disk;
      order = in_order;
      few = are_few;
      kinds = right_kinds;
      modes = one_mode;
      ranges = in_ranges;
      looks = looks;
      changes = changes;
      keeps = keeps;
      store = λ c v s p granted alive h. sound c v s p h;
      no_fault = no_fault;
    }
