-- The levels that marks cut from records, as records and marks come and go at the end.
use Rattle.std.proofs.Common.{◌≡◌, ◌≢◌, ℕ, suc, ◌+◌, ◌-◌, ◌<◌, ◌≤◌, true, List, [], ◌∷◌, ◌++◌}
use Rattle.std.proofs.Common.{length, reverse, take, drop, Option, None, Some, refl, arith, sym}
use Rattle.std.proofs.Common.{◌∙◌, ap, subst}
use Rattle.std.specs.Prelude.{min, nat_le, is_some, IsSome, ◌↔◌}
use Rattle.std.specs.Option.{option_to_list}
use Rattle.std.proofs.lemmas.Bool.{and_parts, and_from}
use Rattle.std.proofs.lemmas.Bool.Decides.{nat_tests}
use Rattle.std.proofs.lemmas.List.{reverse-append, length-reverse, length-append, length-take, length-drop, drop-drop}
use Rattle.std.proofs.Math.Seq.{take-add}
use Rattle.undo_calls.specs.UndoLevels.{recorded, merged, innermost, newest, without_newest, cut}
use Rattle.undo_calls.specs.UndoLevels.{are_marks, levels_of, IsStack}

-- ---- what marks say

pub test-at_most : (m n : ℕ) → nat_le m n ≡ true → m ≤ n
test-at_most m n h = grind (arith, nat_tests)

at_most-test : (m n : ℕ) → m ≤ n → nat_le m n ≡ true
at_most-test m n h = grind (arith, nat_tests)

pub within : (m : ℕ) (ms : List ℕ) (n : ℕ) → are_marks (m ∷ ms) n ≡ true → m ≤ n
within m ms n h = test-at_most m n ((and_parts (nat_le m n) (are_marks ms m) h).0)

pub outside : (m : ℕ) (ms : List ℕ) (n : ℕ) → are_marks (m ∷ ms) n ≡ true → are_marks ms m ≡ true
outside m ms n h = (and_parts (nat_le m n) (are_marks ms m) h).1

pub marked : (m : ℕ) (ms : List ℕ) (n : ℕ) → m ≤ n → are_marks ms m ≡ true → are_marks (m ∷ ms) n ≡ true
marked m ms n small h = and_from (nat_le m n) (are_marks ms m) (at_most-test m n small) h

-- there may be more records where there is a level
marks_further : (ms : List ℕ) (k n : ℕ) → 0 < length ms → k ≤ n → are_marks ms k ≡ true → are_marks ms n ≡ true
marks_further [] k n some small h = absurd (let never : ⊥ = omega arith in never)
marks_further (m ∷ ms) k n some small h = marked m ms n (let inside = within m ms k h in omega arith) (outside m ms k h)

-- ---- marks and records, newest first

pub length-cut : {A : Type 0} (ms : List ℕ) (rs : List A) → length (cut ms rs) ≡ length ms
length-cut [] rs = refl
length-cut (m ∷ ms) rs = ap suc (length-cut ms (drop (length rs - m) rs))

suc-minus : (n m : ℕ) → m ≤ n → suc n - m ≡ suc (n - m)
suc-minus n m h = omega arith

cut-recorded : {A : Type 0} (ms : List ℕ) (rs : List A) (i : A) → are_marks ms (length rs) ≡ true →
    cut ms (i ∷ rs) ≡ recorded i (cut ms rs)
cut-recorded [] rs i h = refl
cut-recorded (m ∷ ms) rs i h =
    ap (λ k. take k (i ∷ rs) ∷ cut ms (drop k (i ∷ rs))) (suc-minus (length rs) m (within m ms (length rs) h))

cut-begun : {A : Type 0} (n : ℕ) (ms : List ℕ) (rs : List A) → length rs ≡ n → cut (n ∷ ms) rs ≡ [] ∷ cut ms rs
cut-begun n ms rs e = ap (λ k. take k rs ∷ cut ms (drop k rs)) (let none : length rs - n ≡ 0 = omega arith in none)

length-none : {A : Type 0} (k : ℕ) (rs : List A) → take k rs ≡ [] → min k (length rs) ≡ 0
length-none k rs e = sym (length-take k rs) ∙ ap length e

none-minus : (n m : ℕ) → m ≤ n → min (n - m) n ≡ 0 → n ≡ m
none-minus n m small e = grind (arith, nat_tests)

cut-empty : {A : Type 0} (m : ℕ) (ms : List ℕ) (rs : List A) →
    are_marks (m ∷ ms) (length rs) ≡ true → take (length rs - m) rs ≡ [] → length rs ≡ m
cut-empty m ms rs h e = none-minus (length rs) m (within m ms (length rs) h) (length-none (length rs - m) rs e)

minus-minus : (n m l : ℕ) → l ≤ m → m ≤ n → (n - m) + ((n - (n - m)) - l) ≡ n - l
minus-minus n m l a b = omega arith

cut-merged : {A : Type 0} (m : ℕ) (ms : List ℕ) (rs : List A) → 0 < length ms →
    are_marks (m ∷ ms) (length rs) ≡ true → cut ms rs ≡ merged (cut (m ∷ ms) rs)
cut-merged m [] rs some h = absurd (let never : ⊥ = omega arith in never)
cut-merged m (l ∷ ms) rs some h =
    let n = length rs in
    let k = n - m in
    let j = length (drop k rs) - l in
    let size : k + j ≡ n - l =
    ap (λ d. k + (d - l)) (length-drop k rs)
    ∙ minus-minus n m l (within l ms m (outside m (l ∷ ms) n h)) (within m (l ∷ ms) n h) in
    ap (λ d. take d rs ∷ cut ms (drop d rs)) (sym size)
    ∙ ap (λ is. is ∷ cut ms (drop (k + j) rs)) (take-add k j rs)
    ∙ ap (λ ds. (take k rs ++ take j (drop k rs)) ∷ cut ms ds) (sym (drop-drop j k rs))

-- ---- marks and records, oldest first

-- a list with one more at the end, newest first
reverse-more : {A : Type 0} (xs : List A) (x : A) → reverse (xs ++ x ∷ []) ≡ x ∷ reverse xs
reverse-more xs x = reverse-append xs (x ∷ [])

length-more : {A : Type 0} (xs : List A) (x : A) → length (xs ++ x ∷ []) ≡ suc (length xs)
length-more xs x = length-append xs (x ∷ []) ∙ (let e : length xs + 1 ≡ suc (length xs) = omega arith in e)

-- the marks of a stack, as its records newest first have them
in_order-newest : {A : Type 0} (marks : List ℕ) (records : List A) → IsStack marks records →
    are_marks (reverse marks) (length (reverse records)) ≡ true
in_order-newest marks records h =
    subst (λ n. are_marks (reverse marks) n ≡ true) (sym (length-reverse records)) h.in_order

-- the same where the last mark is seen
in_order-last : (marks : List ℕ) (m : ℕ) (n : ℕ) → are_marks (reverse (marks ++ m ∷ [])) n ≡ true →
    are_marks (m ∷ reverse marks) n ≡ true
in_order-last marks m n h = subst (λ ms. are_marks ms n ≡ true) (reverse-more marks m) h

pub length-levels : {A : Type 0} (marks : List ℕ) (records : List A) → length (levels_of marks records) ≡ length marks
length-levels marks records = length-cut (reverse marks) (reverse records) ∙ length-reverse marks

pub levels-more : {A : Type 0} (marks : List ℕ) (records : List A) (i : A) → IsStack marks records →
    levels_of marks (records ++ i ∷ []) ≡ recorded i (levels_of marks records)
levels-more marks records i h =
    ap (cut (reverse marks)) (reverse-more records i)
    ∙ cut-recorded (reverse marks) (reverse records) i (in_order-newest marks records h)

pub stack-more : {A : Type 0} (marks : List ℕ) (records : List A) (i : A) → IsStack marks records →
    0 < length marks → length records < 64 → IsStack marks (records ++ i ∷ [])
stack-more marks records i h some room =
    let len = length-more records i in
    let back = length-reverse marks in
    record {
      in_order =
          marks_further (reverse marks) (length records) (length (records ++ i ∷ [])) (omega arith)
          (omega arith) h.in_order;
      few_levels = h.few_levels;
      few = omega arith;
    }

pub levels-begun : {A : Type 0} (marks : List ℕ) (records : List A) (n : ℕ) → length records ≡ n →
    levels_of (marks ++ n ∷ []) records ≡ [] ∷ levels_of marks records
levels-begun marks records n e =
    ap (λ ms. cut ms (reverse records)) (reverse-more marks n)
    ∙ cut-begun n (reverse marks) (reverse records) (length-reverse records ∙ e)

pub stack-begun : {A : Type 0} (marks : List ℕ) (records : List A) (n : ℕ) → length records ≡ n →
    IsStack marks records → length marks < 4 → IsStack (marks ++ n ∷ []) records
stack-begun marks records n e h room =
    let len = length-more marks n in
    record {
      in_order =
          subst (λ ms. are_marks ms (length records) ≡ true) (sym (reverse-more marks n))
          (marked n (reverse marks) (length records) (omega arith)
          (subst (λ k. are_marks (reverse marks) k ≡ true) e h.in_order));
      few_levels = omega arith;
      few = h.few;
    }

-- the last record goes where it isn't older than the last mark
pub stack-popped : {A : Type 0} (marks : List ℕ) (m : ℕ) (records : List A) (i : A) →
    IsStack (marks ++ m ∷ []) (records ++ i ∷ []) → length (records ++ i ∷ []) ≢ m →
    IsStack (marks ++ m ∷ []) records
stack-popped marks m records i h other =
    let len = length-more records i in
    let last = in_order-last marks m (length (records ++ i ∷ [])) h.in_order in
    let inside = within m (reverse marks) (length (records ++ i ∷ [])) last in
    record {
      in_order =
          subst (λ ms. are_marks ms (length records) ≡ true) (sym (reverse-more marks m))
          (marked m (reverse marks) (length records)
          (omega (arith, other)) (outside m (reverse marks) (length (records ++ i ∷ [])) last));
      few_levels = h.few_levels;
      few = let few = h.few in omega arith;
    }

pub newest-recorded : {A : Type 0} (i : A) (log : List (List A)) → 0 < length log → newest (recorded i log) ≡ Some i
newest-recorded i [] some = absurd (let never : ⊥ = omega arith in never)
newest-recorded i (is ∷ log) some = refl

pub without-recorded : {A : Type 0} (i : A) (log : List (List A)) → without_newest (recorded i log) ≡ log
without-recorded i [] = refl
without-recorded i (is ∷ log) = refl

-- the innermost level has no record only where its mark is at their end
pub empty-at_mark : {A : Type 0} (marks : List ℕ) (m : ℕ) (records : List A) →
    IsStack (marks ++ m ∷ []) records → innermost (levels_of (marks ++ m ∷ []) records) ≡ [] →
    length records ≡ m
empty-at_mark marks m records h e =
    sym (length-reverse records)
    ∙ cut-empty m (reverse marks) (reverse records)
    (subst (λ ms. are_marks ms (length (reverse records)) ≡ true) (reverse-more marks m)
    (in_order-newest (marks ++ m ∷ []) records h))
    (subst (λ ms. innermost (cut ms (reverse records)) ≡ []) (reverse-more marks m) e)

pub stack-ended : {A : Type 0} (marks : List ℕ) (m : ℕ) (records : List A) →
    IsStack (marks ++ m ∷ []) records → length records ≡ m → IsStack marks records
stack-ended marks m records h e =
    let len = length-more marks m in
    let few = h.few_levels in
    record {
      in_order =
          subst (λ k. are_marks (reverse marks) k ≡ true) (sym e) (outside m (reverse marks)
          (length records) (in_order-last marks m (length records) h.in_order));
      few_levels = omega arith;
      few = h.few;
    }

pub levels-merged : {A : Type 0} (marks : List ℕ) (m : ℕ) (records : List A) →
    IsStack (marks ++ m ∷ []) records → 0 < length marks →
    levels_of marks records ≡ merged (levels_of (marks ++ m ∷ []) records)
levels-merged marks m records h some =
    cut-merged m (reverse marks) (reverse records) (let back = length-reverse marks in omega arith)
    (subst (λ ms. are_marks ms (length (reverse records)) ≡ true) (reverse-more marks m)
    (in_order-newest (marks ++ m ∷ []) records h))
    ∙ ap (λ ms. merged (cut ms (reverse records))) (sym (reverse-more marks m))

pub stack-merged : {A : Type 0} (marks : List ℕ) (m : ℕ) (records : List A) →
    IsStack (marks ++ m ∷ []) records → 0 < length marks → IsStack marks records
stack-merged marks m records h some =
    let len = length-more marks m in
    let few = h.few_levels in
    let back = length-reverse marks in
    let last = in_order-last marks m (length records) h.in_order in
    record {
      in_order =
          marks_further (reverse marks) m (length records) (omega arith) (within m (reverse marks)
          (length records) last) (outside m (reverse marks) (length records) last);
      few_levels = omega arith;
      few = h.few;
    }

-- ---- the same for what a stack is seen as

pub length-log : {A : Type 0} (marks : List ℕ) (records : List A) (log : List (List A)) →
    levels_of marks records ≡ log → length log ≡ length marks
length-log marks records log e = sym (ap length e) ∙ length-levels marks records

-- what is taken out last
pub last-of : {X : Type 0} (old new : List X) (r : Option X) → old ≡ new ++ option_to_list r →
    (IsSome r ↔ (0 < length old)) → 0 < length old → (x : X) × (r ≡ Some x) × (old ≡ new ++ x ∷ [])
last-of old new None e found some = let none = found.1 some in cc
last-of old new (Some x) e found some = (x, refl, e)

pub ended : {A : Type 0} (old new : List ℕ) (m : ℕ) (records : List A) (log : List (List A)) →
    old ≡ new ++ m ∷ [] → IsStack old records → levels_of old records ≡ log → innermost log ≡ [] →
    (log ≡ [] ∷ levels_of new records) × IsStack new records
ended old new m records log e h view none =
    let stack = subst (λ ms. IsStack ms records) e h in
    let seen : levels_of (new ++ m ∷ []) records ≡ log = ap (λ ms. levels_of ms records) (sym e) ∙ view in
    let here = empty-at_mark new m records stack (ap innermost seen ∙ none) in
    (sym seen ∙ levels-begun new records m here, stack-ended new m records stack here)

pub committed : {A : Type 0} (old new : List ℕ) (m : ℕ) (records : List A) (log : List (List A)) →
    old ≡ new ++ m ∷ [] → IsStack old records → levels_of old records ≡ log → 0 < length new →
    (levels_of new records ≡ merged log) × IsStack new records
committed old new m records log e h view some =
    let stack = subst (λ ms. IsStack ms records) e h in
    let seen : levels_of (new ++ m ∷ []) records ≡ log = ap (λ ms. levels_of ms records) (sym e) ∙ view in
    (levels-merged new m records stack some ∙ ap merged seen, stack-merged new m records stack some)

pub more-than_mark : {A : Type 0} (marks init : List ℕ) (m : ℕ) (records : List A) →
    marks ≡ init ++ m ∷ [] → IsStack marks records → length records ≢ m → 0 < length records
more-than_mark marks init m records e h other =
    let stack = subst (λ ms. IsStack ms records) e h in
    let inside = within m (reverse init) (length records) (in_order-last init m (length records) stack.in_order) in
    omega (arith, other)

-- the innermost level has no record where its mark is at the end of all
pub newest-none :
    {A : Type 0} (marks init : List ℕ) (m : ℕ) (records : List A) (log : List (List A)) →
    marks ≡ init ++ m ∷ [] → length records ≡ m → levels_of marks records ≡ log → None ≡ newest log
newest-none marks init m records log e here view =
    ap newest (sym (levels-begun init records m here) ∙ ap (λ ms. levels_of ms records) (sym e) ∙ view)

-- what stands where a record was taken out
pub record Popped {A : Type 0} (marks : List ℕ) (new : List A) (x : A) (log : List (List A)) : Type 0 where
  pub value : Some x ≡ newest log
  pub rest : levels_of marks new ≡ without_newest log
  pub stack : IsStack marks new

popped-seen : {A : Type 0} (init : List ℕ) (m : ℕ) (new : List A) (x : A) (log : List (List A)) →
    IsStack (init ++ m ∷ []) (new ++ x ∷ []) → length (new ++ x ∷ []) ≢ m →
    levels_of (init ++ m ∷ []) (new ++ x ∷ []) ≡ log → Popped (init ++ m ∷ []) new x log
popped-seen init m new x log h other view =
    let marks = init ++ m ∷ [] in
    let stack = stack-popped init m new x h other in
    let more = sym view ∙ levels-more marks new x stack in
    let levels = length-levels marks new in
    let len = length-more init m in
    record {
      value = sym (newest-recorded x (levels_of marks new) (omega arith)) ∙ ap newest (sym more);
      rest = sym (without-recorded x (levels_of marks new)) ∙ ap without_newest (sym more);
      stack = stack;
    }

pub popped : {A : Type 0} (marks init : List ℕ) (m : ℕ) (old new : List A) (x : A)
    (log : List (List A)) → marks ≡ init ++ m ∷ [] → old ≡ new ++ x ∷ [] → IsStack marks old →
    length old ≢ m → levels_of marks old ≡ log → Popped marks new x log
popped {A} marks init m old new x log e taken h other view =
    let stack = subst (λ ms. IsStack ms (new ++ x ∷ [])) e (subst (λ rs. IsStack marks rs) taken h) in
    let seen = ap (λ ms. levels_of ms (new ++ x ∷ [])) (sym e) ∙ ap (λ rs. levels_of marks rs) (sym taken) ∙ view in
    subst (λ ms. Popped ms new x log) (sym e)
    (popped-seen init m new x log stack (subst (λ (rs : List A). length rs ≢ m) taken other) seen)

-- the last of some marks
last-mark : (marks : List ℕ) → 0 < length marks → (init : List ℕ) × (m : ℕ) × (marks ≡ init ++ m ∷ [])
last-mark [] some = absurd (let never : ⊥ = omega arith in never)
last-mark (m ∷ []) some = ([], m, refl)
last-mark (m ∷ l ∷ ms) some =
    let rest = last-mark (l ∷ ms) (omega arith) in
    (m ∷ rest.0, rest.1, ap (λ ns. m ∷ ns) rest.2)

-- there is a level where the innermost one has a record
level-of_newest : {A : Type 0} (log : List (List A)) → is_some (newest log) ≡ true → 0 < length log
level-of_newest [] some = absurd (cc)
level-of_newest (is ∷ log) some = omega arith

-- and its mark isn't at the end of all records
record MarkBefore {A : Type 0} (marks : List ℕ) (records : List A) : Type 0 where
  init : List ℕ
  m : ℕ
  last : marks ≡ init ++ m ∷ []
  other : length records ≢ m

mark-before : {A : Type 0} (marks : List ℕ) (records : List A) (log : List (List A)) →
    levels_of marks records ≡ log → is_some (newest log) ≡ true → MarkBefore marks records
mark-before marks records log view some =
    let size = length-log marks records log view in
    let level = level-of_newest log some in
    let last = last-mark marks (omega arith) in
    record {
      init = last.0;
      m = last.1;
      last = last.2;
      other = λ here. let none = newest-none marks last.0 last.1 records log last.2 here view in cc;
    }

-- the innermost level's newest record is the last one of all
pub some-record : {A : Type 0} (marks : List ℕ) (records : List A) (log : List (List A)) →
    IsStack marks records → levels_of marks records ≡ log → is_some (newest log) ≡ true →
    0 < length records
some-record marks records log h view some =
    let mark = mark-before marks records log view some in
    more-than_mark marks mark.init mark.m records mark.last h mark.other

pub forgotten : {A : Type 0} (marks : List ℕ) (old new : List A) (x : A) (log : List (List A)) →
    old ≡ new ++ x ∷ [] → IsStack marks old → levels_of marks old ≡ log →
    is_some (newest log) ≡ true → Popped marks new x log
forgotten marks old new x log taken h view some =
    let mark = mark-before marks old log view some in
    popped marks mark.init mark.m old new x log mark.last taken h mark.other view
