-- The rows of the queue: who lives, how often a process stands there, nices and slices, through
-- each change of the queue.
use Rattle.std.specs.Prelude.{◌≡◌, ℕ, ◌+◌, ◌≤◌, ◌==◌, false, cond, not, ◌||◌, List, [], ◌∷◌, ◌++◌}
use Rattle.std.specs.Prelude.{filter, Contains, All}
use Rattle.std.proofs.Common.{arith, refl, sym, ap, ◌∙◌}
use Rattle.std.proofs.lemmas.Bool.Decides.{nat_tests}
use Rattle.std.proofs.lemmas.List.Folds.{list_any-append}
use Rattle.std.proofs.lemmas.List.Sums.{sum-map, sum_by-cons}
use Rattle.std.proofs.lemmas.List.Elements.{All-contains, All-weaker, All-contains_itself}
use Rattle.std.proofs.lemmas.List.Elements.{All-append, All-filter, All-map, All-push}
use Rattle.kernel_model.specs.declared.QueueRow.{QueueRow}
use Rattle.kernel_model.specs.Policies.{lives}
use Rattle.kernel_model.specs.Pieces.{to_back, add_slice}
use Rattle.kernel_model.specs.Queue.{one_more_slice, queue_without}
use Rattle.kernel_model.specs.Sound.{count_of, in_queue}
use Rattle.kernel_model.specs.Laws.{slices_in}

-- the rows of a process
abbrev of_process : ℕ → List QueueRow → List QueueRow
of_process p rows = filter (λ (r : QueueRow). r.process == p) rows

-- ---- who lives

-- in two parts
pub lives_append : (xs ys : List QueueRow) (q : ℕ) → lives (xs ++ ys) q ≡ (lives xs q || lives ys q)
lives_append xs ys q = list_any-append (λ (r : QueueRow). r.process == q) xs ys

-- without a process
pub lives_others : (p : ℕ) (rows : List QueueRow) (q : ℕ) →
    lives (queue_without p rows) q ≡ cond (q == p) false (lives rows q)
lives_others p [] q = grind arith
lives_others p (r ∷ rows) q = grind (arith, nat_tests, lives_others p rows q)

-- among the rows of one process
lives_own : (p : ℕ) (rows : List QueueRow) (q : ℕ) →
    lives (of_process p rows) q ≡ cond (q == p) (lives rows q) false
lives_own p [] q = grind arith
lives_own p (r ∷ rows) q = grind (arith, nat_tests, lives_own p rows q)

-- after a process went to the back
pub lives_to_back : (p : ℕ) (rows : List QueueRow) (q : ℕ) → lives (to_back p rows) q ≡ lives rows q
lives_to_back p rows q =
    grind (
      arith,
      lives_append (queue_without p rows) (of_process p rows) q,
      lives_others p rows q,
      lives_own p rows q,
    )

-- after a slice was given
pub lives_add_slice : (c : ℕ) (rows : List QueueRow) (q : ℕ) →
    lives (add_slice c rows) q ≡ lives rows q
lives_add_slice c [] q = refl
lives_add_slice c (r ∷ rows) q = grind (arith, nat_tests, lives_add_slice c rows q)

-- ---- how often a process stands there

-- in two parts
pub count_append : (xs ys : List QueueRow) (q : ℕ) →
    count_of q (in_queue (xs ++ ys)) ≡ count_of q (in_queue xs) + count_of q (in_queue ys)
count_append [] ys q = grind arith
count_append (r ∷ xs) ys q = grind (arith, nat_tests, count_append xs ys q)

-- without a process
pub count_others : (p : ℕ) (rows : List QueueRow) (q : ℕ) →
    count_of q (in_queue (queue_without p rows)) ≡ cond (q == p) 0 (count_of q (in_queue rows))
count_others p [] q = grind arith
count_others p (r ∷ rows) q = grind (arith, nat_tests, count_others p rows q)

-- among the rows of one process
count_own : (p : ℕ) (rows : List QueueRow) (q : ℕ) →
    count_of q (in_queue (of_process p rows)) ≡ cond (q == p) (count_of q (in_queue rows)) 0
count_own p [] q = grind arith
count_own p (r ∷ rows) q = grind (arith, nat_tests, count_own p rows q)

-- after a process went to the back
pub count_to_back : (p : ℕ) (rows : List QueueRow) (q : ℕ) →
    count_of q (in_queue (to_back p rows)) ≡ count_of q (in_queue rows)
count_to_back p rows q =
    grind (
      arith,
      count_append (queue_without p rows) (of_process p rows) q,
      count_others p rows q,
      count_own p rows q,
    )

-- after a slice was given
pub count_add_slice : (c : ℕ) (rows : List QueueRow) (q : ℕ) →
    count_of q (in_queue (add_slice c rows)) ≡ count_of q (in_queue rows)
count_add_slice c [] q = refl
count_add_slice c (r ∷ rows) q = grind (arith, nat_tests, count_add_slice c rows q)

-- ---- slices

-- all slices, row by row
abbrev total : List QueueRow → ℕ
total [] = 0
total (r ∷ rows) = r.slices + total rows

-- that is the sum
slices_total : (rows : List QueueRow) → slices_in rows ≡ total rows
slices_total [] = refl
slices_total (r ∷ rows) =
    sum-map (λ (x : QueueRow). x.slices) (r ∷ rows)
    ∙ sum_by-cons (λ (x : QueueRow). x.slices) r rows
    ∙ ap (λ n. r.slices + n) (sym (sum-map (λ (x : QueueRow). x.slices) rows) ∙ slices_total rows)

-- in two parts
total_append : (xs ys : List QueueRow) → total (xs ++ ys) ≡ total xs + total ys
total_append [] ys = grind arith
total_append (r ∷ xs) ys = grind (arith, total_append xs ys)

-- without a process, and its own
total_parts : (p : ℕ) (rows : List QueueRow) →
    total (queue_without p rows) + total (of_process p rows) ≡ total rows
total_parts p [] = grind arith
total_parts p (r ∷ rows) = grind (arith, nat_tests, total_parts p rows)

-- after a slice was given: no row has more than one slice more
total_add : (c : ℕ) (rows : List QueueRow) →
    total (add_slice c rows) ≤ total rows + count_of c (in_queue rows)
total_add c [] = grind arith
total_add c (r ∷ rows) = grind (arith, nat_tests, total_add c rows)

-- after a row without slices joined
pub slices_push : (rows : List QueueRow) (r : QueueRow) → r.slices ≡ 0 →
    slices_in (rows ++ r ∷ []) ≡ slices_in rows
slices_push rows r none =
    omega (arith, slices_total (rows ++ r ∷ []), total_append rows (r ∷ []), slices_total rows)

-- without a process
pub slices_others : (p : ℕ) (rows : List QueueRow) → slices_in (queue_without p rows) ≤ slices_in rows
slices_others p rows =
    omega (arith, slices_total (queue_without p rows), slices_total rows, total_parts p rows)

-- after a process went to the back
pub slices_to_back : (p : ℕ) (rows : List QueueRow) → slices_in (to_back p rows) ≡ slices_in rows
slices_to_back p rows = slices_total (to_back p rows)
    ∙ total_append (queue_without p rows) (of_process p rows) ∙ total_parts p rows
    ∙ sym (slices_total rows)

-- after a slice was given
pub slices_add : (c : ℕ) (rows : List QueueRow) →
    slices_in (add_slice c rows) ≤ slices_in rows + count_of c (in_queue rows)
slices_add c rows =
    omega (arith, slices_total (add_slice c rows), slices_total rows, total_add c rows)

-- ---- nices

-- nices are in their range
abbrev pub NicesFit : List QueueRow → Type 0
NicesFit rows = (r : QueueRow) → Contains rows r → r.nice ≤ 39

-- each row's
nices_all : (rows : List QueueRow) → NicesFit rows → All (λ (r : QueueRow). r.nice ≤ 39) rows
nices_all rows h =
    All-weaker (Contains rows) (λ (r : QueueRow). r.nice ≤ 39) h rows (All-contains_itself rows)

-- after a row joined
pub nices_push : (rows : List QueueRow) (r : QueueRow) → NicesFit rows → r.nice ≤ 39 →
    NicesFit (rows ++ r ∷ [])
nices_push rows r h low x c =
    All-contains (λ (y : QueueRow). y.nice ≤ 39) (rows
    ++ r ∷ []) x (All-push (λ (y : QueueRow). y.nice ≤ 39) rows r (nices_all rows h) low) c

-- without a process
pub nices_others : (p : ℕ) (rows : List QueueRow) → NicesFit rows → NicesFit (queue_without p rows)
nices_others p rows h x c =
    All-contains (λ (y : QueueRow). y.nice ≤ 39) (queue_without p rows) x
    (All-filter (λ (r : QueueRow). not (r.process == p)) (λ (y : QueueRow). y.nice ≤ 39) rows
    (nices_all rows h)) c

-- after a process went to the back
pub nices_to_back : (p : ℕ) (rows : List QueueRow) → NicesFit rows → NicesFit (to_back p rows)
nices_to_back p rows h x c =
    All-contains (λ (y : QueueRow). y.nice ≤ 39) (to_back p rows) x
    (All-append (λ (y : QueueRow). y.nice ≤ 39) (queue_without p rows) (of_process p rows)
    (All-filter (λ (r : QueueRow). not (r.process == p)) (λ (y : QueueRow). y.nice ≤ 39) rows
    (nices_all rows h))
    (All-filter (λ (r : QueueRow). r.process == p) (λ (y : QueueRow). y.nice ≤ 39) rows
    (nices_all rows h))) c

-- a row with a slice more
nice_of_slice : (c : ℕ) (r : QueueRow) → r.nice ≤ 39 →
    (cond (r.process == c) (record r { slices = one_more_slice r.slices }) r).nice ≤ 39
nice_of_slice c r h = grind (arith, nat_tests)

-- after a slice was given
pub nices_add_slice : (c : ℕ) (rows : List QueueRow) → NicesFit rows → NicesFit (add_slice c rows)
nices_add_slice c rows h x k =
    All-contains (λ (y : QueueRow). y.nice ≤ 39) (add_slice c rows) x
    (All-map (λ (y : QueueRow). y.nice ≤ 39)
    (λ (r : QueueRow). cond (r.process == c)
    (record r { slices = one_more_slice r.slices }) r) rows
    (All-weaker (λ (r : QueueRow). r.nice ≤ 39)
    (λ (r : QueueRow).
    (cond (r.process == c) (record r { slices = one_more_slice r.slices }) r).nice ≤ 39)
    (nice_of_slice c) rows (nices_all rows h))) k
