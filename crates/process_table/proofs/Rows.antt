-- Lemmas on the rows of the queue.
use Rattle.std.proofs.Common.{◌≡◌, ℕ, zero, suc, ◌+◌, ◌-◌, ◌<◌, ◌≤◌, Bool, true, false, cond, Some}
use Rattle.std.proofs.Common.{None, List, [], ◌∷◌, ◌++◌, length, filter, take, drop, get_or}
use Rattle.std.proofs.Common.{remove, not, ◌&&◌, ◌==◌, nat_le, refl, arith, subst, sym, ◌∙◌}
use Rattle.std.proofs.Common.{add-one, append_assoc, length-append}
use Rattle.std.specs.List.{list_all}
use Rattle.std.proofs.lemmas.Bool.Decides.{nat_tests}
use Rattle.std.proofs.lemmas.List.{append-nil, take_more, drop_more}
use Rattle.std.proofs.lemmas.List.Edits.{remove-append_right}
use Rattle.std.proofs.Math.Seq.{get_or-append_seam}
use Rattle.std.proofs.lemmas.List.Elements.{filter-append}
use Rattle.std.proofs.lemmas.List.Folds.{list_any-append, list_all-append}
use Rattle.kernel_model.specs.declared.QueueRow.{QueueRow}
use Rattle.kernel_model.specs.Queue.{IsLeastFree, new_row, queue_without}
use Rattle.kernel_model.specs.Policies.{lives}
use Rattle.kernel_model.specs.Needs.{free_process}
use Rattle.kernel_model.specs.Pieces.{to_back, add_slice}
use Rattle.kernel_model.specs.Access.{with_nice}
use Rattle.process_table.specs.Processes.{IsQueue}
use Rattle.process_table.proofs.Lists.{length-below}

-- ---- the least number that isn't living

-- a living number is passed over
pub free_process-living : (rows : List QueueRow) (n m p q : ℕ) → n ≡ suc m → q ≡ p + 1 →
    lives rows p ≡ true → free_process rows n p ≡ free_process rows m q
free_process-living rows n m p q e f h =
    rw (e, f, add-one)
    (subst (λ (b : Bool). elim b [ true ↦ free_process rows m (suc p) | false ↦ Some p ]
    ≡ free_process rows m (suc p)) (sym h) refl)

-- a number that isn't living is the answer
pub free_process-free : (rows : List QueueRow) (n p : ℕ) → 0 < n → lives rows p ≡ false → free_process rows n p ≡ Some p
free_process-free rows zero p some h = absurd (omega arith)
free_process-free rows (suc m) p some h =
    subst (λ (b : Bool). elim b [ true ↦ free_process rows m (suc p) | false ↦ Some p ] ≡ Some p) (sym h) refl

-- no number is left
pub free_process-none : (rows : List QueueRow) (n p : ℕ) → n ≡ 0 → free_process rows n p ≡ None
free_process-none rows n p e = rw e refl

-- ---- the rows of one process

-- the rows of a process
abbrev pub rows_of : ℕ → List QueueRow → List QueueRow
rows_of p rows = filter (λ (r : QueueRow). r.process == p) rows

-- a process that isn't living has no row
pub rows_of-gone : (p : ℕ) (rows : List QueueRow) → lives rows p ≡ false → length (rows_of p rows) ≡ 0
rows_of-gone p [] h = refl
rows_of-gone p (r ∷ rows) h = grind (arith, nat_tests, rows_of-gone p rows)

-- ---- room

-- where a number isn't living, fewer than 16 live
pub length-free : (rows : List QueueRow) (c : ℕ) → IsQueue rows → IsLeastFree rows c → length rows < 16
length-free rows c h free =
    let none : length (filter (λ (r : QueueRow). r.process == c) rows) < 1 =
    grind (arith, rows_of-gone c rows free.free) in
    length-below (λ (r : QueueRow). r.process) rows 0 16 1 c
    (λ k some. (omega arith, omega (arith, h.below k some))) h.once (omega arith)
    free.below none

-- ---- without a process

pub living-without : (q p : ℕ) (rows : List QueueRow) → lives (queue_without p rows) q ≡ (not (q == p) && lives rows q)
living-without q p [] = grind (arith, nat_tests)
living-without q p (r ∷ rows) = grind (arith, nat_tests, living-without q p rows)

pub rows_of-without : (q p : ℕ) (rows : List QueueRow) →
    length (rows_of q (queue_without p rows)) ≤ length (rows_of q rows)
rows_of-without q p [] = omega arith
rows_of-without q p (r ∷ rows) = grind (arith, nat_tests, rows_of-without q p rows)

pub nices-filter : (test : QueueRow → Bool) (rows : List QueueRow) →
    list_all (λ (r : QueueRow). nat_le r.nice 39) rows ≡ true →
    list_all (λ (r : QueueRow). nat_le r.nice 39) (filter test rows) ≡ true
nices-filter test [] h = refl
nices-filter test (r ∷ rows) h = grind (arith, nat_tests, nices-filter test rows)

-- ---- to the back

pub living-of : (q p : ℕ) (rows : List QueueRow) → lives (rows_of p rows) q ≡ (q == p && lives rows q)
living-of q p [] = grind (arith, nat_tests)
living-of q p (r ∷ rows) = grind (arith, nat_tests, living-of q p rows)

pub living-to_back : (q p : ℕ) (rows : List QueueRow) → lives (to_back p rows) q ≡ lives rows q
living-to_back q p rows =
    grind (
      arith,
      nat_tests,
      list_any-append (λ (r : QueueRow). r.process == q)
          (queue_without p rows) (rows_of p rows),
      living-without q p rows,
      living-of q p rows,
    )

pub rows_of-parted : (q p : ℕ) (rows : List QueueRow) → length (rows_of q
    (queue_without p rows)) + length (rows_of q (rows_of p rows)) ≡ length (rows_of q rows)
rows_of-parted q p [] = refl
rows_of-parted q p (r ∷ rows) = grind (arith, nat_tests, rows_of-parted q p rows)

pub rows_of-append : (q : ℕ) (xs ys : List QueueRow) →
    length (rows_of q (xs ++ ys)) ≡ length (rows_of q xs) + length (rows_of q ys)
rows_of-append q xs ys = rw filter-append (length-append (rows_of q xs) (rows_of q ys))

-- the rows once the first k were looked at: those that were passed, those that are left, and those
-- that went to the back
pub record IsTurned (p k : ℕ) (rows now : List QueueRow) (place : ℕ) : Type 0 where
  pub rows_are : now ≡ queue_without p (take k rows) ++ (drop k rows ++ rows_of p (take k rows))
  pub place_is : place ≡ length (queue_without p (take k rows))

-- a row of the process goes to the back
turned_back : (p : ℕ) (row : QueueRow) (seen left : List QueueRow) → (row.process == p) ≡ true →
    remove (queue_without p seen ++ (row ∷ (left ++ rows_of p seen))) (length (queue_without p seen)) ++ row ∷ []
    ≡ queue_without p (seen ++ row ∷ []) ++ (left ++ rows_of p (seen ++ row ∷ []))
turned_back p row seen left e =
    let gone = remove-append_right (queue_without p seen) (row ∷ (left ++ rows_of p seen))
    (length (queue_without p seen)) (length (queue_without p seen)) refl (omega arith) in
    let none : length (queue_without p seen) - length (queue_without p seen) ≡ 0 = omega arith in
    rw (gone, none, filter-append, filter-append, e) (simp (append_assoc, append-nil))

-- any other is passed
turned_past : (p : ℕ) (row : QueueRow) (seen left : List QueueRow) → (row.process == p) ≡ false →
    queue_without p seen ++ (row ∷ (left ++ rows_of p seen))
    ≡ queue_without p (seen ++ row ∷ []) ++ (left ++ rows_of p (seen ++ row ∷ []))
turned_past p row seen left e =
    rw (filter-append, filter-append, e) (simp (append_assoc, append-nil))

-- how many were passed
turned_place : (p : ℕ) (row : QueueRow) (seen : List QueueRow) →
    length (queue_without p (seen ++ row ∷ []))
    ≡ cond (row.process == p) (length (queue_without p seen)) (length (queue_without p seen) + 1)
turned_place p row seen = rw (filter-append, length-append) (grind (arith, nat_tests))

-- one more is looked at
pub turned_more : (p k : ℕ) (rows now new : List QueueRow) (place next : ℕ) → k < length rows →
    IsTurned p k rows now place
    → ((row : QueueRow) → get_or now place row ≡ row → new ≡ cond (row.process == p) (remove now place ++ row ∷ []) now)
    → ((row : QueueRow) → get_or now place row ≡ row → next ≡ cond (row.process == p) place (place + 1))
    → IsTurned p (k + 1) rows new next
turned_more p k rows now new place next lt t goes on =
    let row : QueueRow = get_or rows k (new_row 0) in
    let seen : List QueueRow = take k rows in
    let left : List QueueRow = drop (k + 1) rows in
    let parted : now ≡ queue_without p seen ++ (row ∷ (left ++ rows_of p seen)) =
    rw (drop_more rows k (new_row 0) lt) at t.rows_are in
    let is : get_or now place row ≡ row =
    rw (parted, t.place_is) (get_or-append_seam (queue_without p seen) row (left ++ rows_of p seen) row) in
    let more : take (k + 1) rows ≡ seen ++ row ∷ [] = take_more rows k (new_row 0) lt in
    record {
      rows_are =
          elim (row.process == p) as (λ b. (row.process == p) ≡ b → new
          ≡ queue_without p (take (k + 1) rows) ++ (left ++ rows_of p (take (k + 1) rows))) [
            | true ↦ λ e. rw (more, goes row is, e, parted, t.place_is) (turned_back p row seen left e)
            | false ↦ λ e. rw (more, goes row is, e, parted) (turned_past p row seen left e)
          ] refl;
      place_is = rw (more, on row is, t.place_is) (sym (turned_place p row seen));
    }

-- ---- with changed rows

pub living-nice : (q p v : ℕ) (rows : List QueueRow) → lives (with_nice p v rows) q ≡ lives rows q
living-nice q p v [] = refl
living-nice q p v (r ∷ rows) = grind (arith, nat_tests, living-nice q p v rows)

pub rows_of-nice : (q p v : ℕ) (rows : List QueueRow) →
    length (rows_of q (with_nice p v rows)) ≡ length (rows_of q rows)
rows_of-nice q p v [] = refl
rows_of-nice q p v (r ∷ rows) = grind (arith, nat_tests, rows_of-nice q p v rows)

pub nices-nice : (p v : ℕ) (rows : List QueueRow) → v ≤ 39 →
    list_all (λ (r : QueueRow). nat_le r.nice 39) rows ≡ true →
    list_all (λ (r : QueueRow). nat_le r.nice 39) (with_nice p v rows) ≡ true
nices-nice p v [] le h = refl
nices-nice p v (r ∷ rows) le h = grind (arith, nat_tests, nices-nice p v rows)

pub living-slice : (q p : ℕ) (rows : List QueueRow) → lives (add_slice p rows) q ≡ lives rows q
living-slice q p [] = refl
living-slice q p (r ∷ rows) = grind (arith, nat_tests, living-slice q p rows)

pub rows_of-slice : (q p : ℕ) (rows : List QueueRow) → length (rows_of q (add_slice p rows)) ≡ length (rows_of q rows)
rows_of-slice q p [] = refl
rows_of-slice q p (r ∷ rows) = grind (arith, nat_tests, rows_of-slice q p rows)

pub nices-slice : (p : ℕ) (rows : List QueueRow) →
    list_all (λ (r : QueueRow). nat_le r.nice 39) rows ≡ true →
    list_all (λ (r : QueueRow). nat_le r.nice 39) (add_slice p rows) ≡ true
nices-slice p [] h = refl
nices-slice p (r ∷ rows) h = grind (arith, nat_tests, nices-slice p rows)

-- ---- the queue stays one

pub opening-queue : IsQueue (new_row 0 ∷ [])
opening-queue = record {
  once = λ p. grind (arith, nat_tests);
  below = λ p h. grind (arith, nat_tests);
  nices = refl;
  root = refl;
}

pub spawned-queue : (c : ℕ) (rows : List QueueRow) → c < 16 → lives rows c ≡ false →
    IsQueue rows → IsQueue (rows ++ new_row c ∷ [])
spawned-queue c rows lt free h = record {
  once = λ p. grind (arith, nat_tests, rows_of-append p rows (new_row c ∷ []), rows_of-gone c rows free, h.once p);
  below =
      λ p living. grind (
        arith,
        nat_tests,
        list_any-append (λ (r : QueueRow). r.process == p) rows
            (new_row c ∷ []),
        h.below p,
      );
  nices = rw list_all-append (grind (arith, nat_tests, h.nices));
  root = rw list_any-append (grind (arith, nat_tests, h.root));
}

-- whoever lived before a process joined lives
pub living-spawned : (q c : ℕ) (rows : List QueueRow) → lives rows q ≡ true → lives (rows ++ new_row c ∷ []) q ≡ true
living-spawned q c rows h =
    grind
    (arith, nat_tests, list_any-append (λ (r : QueueRow). r.process == q) rows (new_row c ∷ []))

pub without-queue : (p : ℕ) (rows : List QueueRow) → 0 < p → IsQueue rows → IsQueue (queue_without p rows)
without-queue p rows pos h = record {
  once = λ q. grind (arith, rows_of-without q p rows, h.once q);
  below = λ q living. grind (arith, nat_tests, living-without q p rows, h.below q);
  nices = nices-filter (λ (r : QueueRow). not (r.process == p)) rows h.nices;
  root = grind (arith, nat_tests, living-without 0 p rows, h.root);
}

pub to_back-queue : (p : ℕ) (rows : List QueueRow) → IsQueue rows → IsQueue (to_back p rows)
to_back-queue p rows h = record {
  once =
      λ q. grind (
        arith,
        rows_of-append q (queue_without p rows) (rows_of p rows),
        rows_of-parted q p rows,
        h.once q,
      );
  below = λ q living. h.below q (sym (living-to_back q p rows) ∙ living);
  nices =
      rw list_all-append (rw (
        nices-filter (λ (r : QueueRow). not (r.process == p)) rows h.nices,
        nices-filter (λ (r : QueueRow). r.process == p) rows h.nices,
      ) refl);
  root = living-to_back 0 p rows ∙ h.root;
}

pub nice-queue : (p v : ℕ) (rows : List QueueRow) → v ≤ 39 → IsQueue rows → IsQueue (with_nice p v rows)
nice-queue p v rows le h = record {
  once = λ q. grind (arith, rows_of-nice q p v rows, h.once q);
  below = λ q living. h.below q (sym (living-nice q p v rows) ∙ living);
  nices = nices-nice p v rows le h.nices;
  root = living-nice 0 p v rows ∙ h.root;
}

pub slice-queue : (p : ℕ) (rows : List QueueRow) → IsQueue rows → IsQueue (add_slice p rows)
slice-queue p rows h = record {
  once = λ q. grind (arith, rows_of-slice q p rows, h.once q);
  below = λ q living. h.below q (sym (living-slice q p rows) ∙ living);
  nices = nices-slice p rows h.nices;
  root = living-slice 0 p rows ∙ h.root;
}
