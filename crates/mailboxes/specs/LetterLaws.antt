-- The table of mailboxes meets the laws of tables of quick calls.
use Rattle.std.specs.Prelude.{◌≡◌, ℕ, suc, ◌<◌, ◌≤◌, ◌==◌, Bool, true, false, List, [], ◌∷◌, length, None}
use Rattle.std.specs.List.{AllByRecursion as Each}
use Rattle.std.proofs.Common.{arith, refl, ap}
use Rattle.std.proofs.lemmas.Bool.Decides.{nat_tests}
use Rattle.kernel_model.specs.declared.Need.{Need}
use Rattle.kernel_model.specs.declared.Object.{Object}
use Rattle.kernel_model.specs.declared.Object.TheVariants.{Queue, Cell}
use Rattle.kernel_model.specs.declared.SysCall.{SysCall}
use Rattle.kernel_model.specs.declared.SysCall.TheVariants.{Poke, Peek, TakeLock}
use Rattle.kernel_model.specs.World.{World}
use Rattle.kernel_model.specs.Objects.{Objects, SameAt, same_object}
use Rattle.kernel_model.specs.Policies.{lives}
use Rattle.kernel_model.specs.Needs.{shared, exclusive}
use Rattle.kernel_model.specs.Events.{wanted}
use Rattle.kernel_model.specs.Sound.{IsSoundStore}
use Rattle.kernel_model.specs.Alike.{AgreeOn, is_needed_exclusively}
use Rattle.quick_calls.specs.FileChanges.{same_self}
use Rattle.quick_calls.specs.NeedOrder.{Follows}
use Rattle.quick_calls.specs.NeedRanges.{NeedIsInRange}
use Rattle.quick_calls.specs.SoundStores.{store_with_cell}
use Rattle.quick_calls.specs.QuickTables.{objects_after}
use Rattle.quick_calls.specs.QuickLaws.{QuickLaws, MayBeNeeded, ComeToTheSame, KeepsRest, is_disk_refusal}
use Rattle.quick_calls.specs.EarlyFaults.{is_for_disk}
use Rattle.quick_calls.specs.Agreeing.{same_first, agree_on_rest}
use Rattle.mailboxes.specs.Mailboxes.{is_letter_call, letter_refusal, box_needs, letter_needs}
use Rattle.mailboxes.specs.Mailboxes.{post, letter_outcome, mailboxes}

-- ---- refusals

-- a call that isn't refused at once is one of the two
own_calls : (c : SysCall) → letter_refusal c ≡ None → is_letter_call c ≡ true
own_calls (Poke q x) h = refl
own_calls (Peek k) h = refl
own_calls c h = cc

-- none is refused at once because the disk failed
not_for_disk : (c : SysCall) → is_for_disk (letter_refusal c) ≡ false
not_for_disk (Poke q x) = grind (arith, nat_tests)
not_for_disk (Peek k) = grind (arith, nat_tests)
not_for_disk c = refl

-- ---- needed objects

-- the next object depends on those before it: whether a receiver lives is seen in the queue
letter_order : (c : SysCall) (s u : Objects) (p : ℕ) →
    Follows s u (letter_needs c s p) (letter_needs c u p)
letter_order (Poke q x) s u p =
    (refl, λ same. by_life (lives s.things.queue q) (lives u.things.queue q) (ap (λ rows. lives rows q) same.0))
  where
    by_life : (a b : Bool) → a ≡ b → Follows s u (box_needs q a) (box_needs q b)
    by_life true true e = (refl, λ h. tt)
    by_life false false e = tt
    by_life true false e = cc
    by_life false true e = cc
letter_order (Peek k) s u p = (refl, λ h. tt)
letter_order c s u p = tt

-- at most two
letters_few : (c : SysCall) (s : Objects) (p : ℕ) → length (letter_needs c s p) ≤ 255
letters_few (Poke q x) s p = by_life (lives s.things.queue q)
  where
    by_life : (b : Bool) → suc (length (box_needs q b)) ≤ 255
    by_life true = omega arith
    by_life false = omega arith
letters_few (Peek k) s p = omega arith
letters_few c s p = omega arith

-- the queue and cells
letter_kinds : (c : SysCall) (s : Objects) (p : ℕ) → Each (MayBeNeeded p c) (letter_needs c s p)
letter_kinds (Poke q x) s p = ((tt, refl, refl), by_life (lives s.things.queue q))
  where
    by_life : (b : Bool) → Each (MayBeNeeded p (Poke q x)) (box_needs q b)
    by_life true = ((tt, refl, refl), tt)
    by_life false = tt
letter_kinds (Peek k) s p = ((tt, refl, refl), tt)
letter_kinds c s p = tt

-- each is wanted in its mode
letter_modes : (c : SysCall) (s : Objects) (p : ℕ) →
    Each (λ (n : Need). wanted n.object (letter_needs c s p) ≡ n.mode) (letter_needs c s p)
unfolding same_object
letter_modes (Poke q x) s p = by_life (lives s.things.queue q)
  where
    by_life : (b : Bool) → Each (λ (n : Need). wanted n.object
        (shared Queue ∷ box_needs q b) ≡ n.mode)
        (shared Queue ∷ box_needs q b)
    by_life true = (refl, (grind (arith, nat_tests), tt))
    by_life false = (refl, tt)
letter_modes (Peek k) s p = (grind (arith, nat_tests), tt)
letter_modes c s p = tt

-- the numbers are in their ranges
letter_ranges : (c : SysCall) (s : Objects) (p : ℕ) → p < 16 → letter_refusal c ≡ None →
    Each NeedIsInRange (letter_needs c s p)
letter_ranges (Poke q x) s p low granted =
    let l : q < 16 = grind (arith, nat_tests) in (tt, by_life l (lives s.things.queue q))
  where
    by_life : q < 16 → (b : Bool) → Each NeedIsInRange (box_needs q b)
    by_life l true = ((l, omega arith), tt)
    by_life l false = tt
letter_ranges (Peek k) s p low granted = ((low, omega arith), tt)
letter_ranges c s p low granted = tt

-- ---- what a call looks at and changes

-- a post comes to the same if the receiver lives on both sides or on neither, and if it lives, its
-- box is empty on both sides or on neither
post_same : (s u : Objects) (q x : ℕ) (a b e f : Bool) → a ≡ b → (a ≡ true → e ≡ f) →
    ComeToTheSame s u (post s q x a e) (post u q x b f)
post_same s u q x true true true true h k = grind (arith, nat_tests)
post_same s u q x true true false false h k = refl
post_same s u q x true true true false h k = let no : true ≡ false = k refl in absurd cc
post_same s u q x true true false true h k = let no : false ≡ true = k refl in absurd cc
post_same s u q x false false e f h k = refl
post_same s u q x true false e f h k = cc
post_same s u q x false true e f h k = cc

-- states that agree on what a post needs have the same box, where the receiver lives
same_box : (s u : Objects) (q : ℕ) (b : Bool) → AgreeOn (box_needs q b) s u → b ≡ true →
    s.things.cell q 0 ≡ u.things.cell q 0
same_box s u q true agree h = same_first (exclusive (Cell q 0)) [] s u agree
same_box s u q false agree h = cc

-- each call comes to the same
letter_looks : (c : SysCall) (s u : Objects) (p : ℕ) → AgreeOn (letter_needs c s p) s u →
    ComeToTheSame s u (letter_outcome c s p) (letter_outcome c u p)
letter_looks (Poke q x) s u p agree =
    let box = box_needs q (lives s.things.queue q) in
    let queue = same_first (shared Queue) box s u agree in
    let rest = agree_on_rest (shared Queue) box s u agree in
    post_same s u q x (lives s.things.queue q) (lives u.things.queue q)
    (s.things.cell q 0 == 0) (u.things.cell q 0 == 0)
    (ap (λ rows. lives rows q) queue.0)
    (λ alive. ap (λ i. i == 0) (same_box s u q (lives s.things.queue q) rest alive))
letter_looks (Peek k) s u p agree =
    let same = same_first (exclusive (Cell p 0)) [] s u agree in
    grind (arith, nat_tests, same)
letter_looks c s u p agree = refl

-- a call changes the box that it needs, and nothing else
letter_changes : (c : SysCall) (s : Objects) (p : ℕ) (o : Object) →
    is_needed_exclusively o (letter_needs c s p) ≡ false →
    SameAt o (objects_after s (letter_outcome c s p)) s
unfolding same_object
letter_changes (Poke q x) s p o h = by_life (lives s.things.queue q) (s.things.cell q 0 == 0) h
  where
    by_life : (a e : Bool) → is_needed_exclusively o (box_needs q a) ≡ false →
        SameAt o (objects_after s (post s q x a e)) s
    by_life true true h = grind (arith, nat_tests)
    by_life true false h = same_self o s
    by_life false e h = same_self o s
letter_changes (Peek k) s p o h = grind (arith, nat_tests)
letter_changes c s p o h = same_self o s

-- ---- what a call keeps

-- a post
post_keeps : (s : Objects) (q x : ℕ) (a e : Bool) → KeepsRest s (objects_after s (post s q x a e))
post_keeps s q x a e = grind (arith, nat_tests)

-- each call
letter_keeps : (c : SysCall) (s : Objects) (p : ℕ) →
    KeepsRest s (objects_after s (letter_outcome c s p))
letter_keeps (Poke q x) s p =
    post_keeps s q x (lives s.things.queue q) (s.things.cell q 0 == 0)
letter_keeps (Peek k) s p = record { accounts = refl; queue = refl; cache = refl }
letter_keeps c s p = record { accounts = refl; queue = refl; cache = refl }

-- a sound store stays sound: a post goes to a process that lives
post_store : (v : World) (s : Objects) (q x : ℕ) (a e : Bool) →
    lives s.things.queue q ≡ a → IsSoundStore v s →
    IsSoundStore v (objects_after s (post s q x a e))
post_store v s q x true true alive h = store_with_cell v s q 0 x h alive
post_store v s q x true false alive h = h
post_store v s q x false e alive h = h

-- each call
letter_store : (c : SysCall) (v : World) (s : Objects) (p : ℕ) →
    lives s.things.queue p ≡ true → IsSoundStore v s →
    IsSoundStore v (objects_after s (letter_outcome c s p))
letter_store (Poke q x) v s p alive h =
    post_store v s q x (lives s.things.queue q) (s.things.cell q 0 == 0) refl h
letter_store (Peek k) v s p alive h = store_with_cell v s p 0 0 h alive
letter_store c v s p alive h = h

-- a post doesn't blame the disk
post_no_fault : (s : Objects) (q x : ℕ) (a e : Bool) → is_disk_refusal (post s q x a e) ≡ false
post_no_fault s q x true true = refl
post_no_fault s q x true false = refl
post_no_fault s q x false e = refl

-- no call does
letter_no_fault : (c : SysCall) (s : Objects) (p : ℕ) →
    is_disk_refusal (letter_outcome c s p) ≡ false
letter_no_fault (Poke q x) s p =
    post_no_fault s q x (lives s.things.queue q) (s.things.cell q 0 == 0)
letter_no_fault (Peek k) s p = refl
letter_no_fault c s p = refl

-- The laws of tables of quick calls hold of mailboxes.
pub laws_of_mailboxes : QuickLaws mailboxes
laws_of_mailboxes =
    record {
      own = λ p c h. own_calls c h;
      no_early_fault = λ p c. not_for_disk c;
      order = letter_order;
      few = letters_few;
      kinds = letter_kinds;
      modes = letter_modes;
      ranges = letter_ranges;
      looks = letter_looks;
      changes = letter_changes;
      keeps = letter_keeps;
      store = λ c v s p granted alive sound. letter_store c v s p alive sound;
      no_fault = letter_no_fault;
    }
