-- The directory of a disk: at most 16 files, which lie on the disk.
use Rattle.std.specs.Prelude.{◌≡◌, ℕ, zero, suc, ◌+◌, ◌≤◌, Bool, true, false, cond, not, ◌&&◌}
use Rattle.std.specs.Prelude.{List, [], ◌∷◌, ◌++◌, length, slice_index_or, Option, Some, None}
use Rattle.std.specs.List.{list_any}
use Rattle.std.proofs.Common.{arith, refl, subst, ap, ◌∙◌, length-append}
use Rattle.std.proofs.lemmas.Bool.Decides.{nat_tests}
use Rattle.script_model.specs.declared.FileRow.{FileRow}
use Rattle.script_model.specs.Directory.{entries, with_entry, entry_bytes, entry_row, is_padded}
use Rattle.script_model.specs.Directory.{has_name, is_usable, lies_on_disk}

-- no entry
no_entry : (size : ℕ) (block : List ℕ) → entries size block 0 ≡ []
unfolding entries
no_entry size block = refl

-- one entry more
one_entry : (size : ℕ) (block : List ℕ) (n : ℕ) →
    entries size block (suc n) ≡ with_entry size (entry_bytes block n) (entry_row (entry_bytes block n))
    (entries size block n)
unfolding entries
one_entry size block n = refl

-- there are as many rows as entries
pub row_count : (size : ℕ) (block : List ℕ) (n : ℕ) → length (entries size block n) ≡ n
row_count size block zero = ap length (no_entry size block)
row_count size block (suc n) =
    let entry = entry_bytes block n in
    let x : Option FileRow = cond (is_usable size entry (entry_row entry) (entries size block n))
    (Some (entry_row entry)) None in
    ap length (one_entry size block n) ∙ length-append (entries size block n) (x ∷ [])
    ∙ omega (arith, row_count size block n)

-- a usable entry's file lies on the disk
usable_lies : (size : ℕ) (entry : List ℕ) (r : FileRow) (earlier : List (Option FileRow)) →
    is_usable size entry r earlier ≡ true → lies_on_disk size r ≡ true
unfolding is_usable
usable_lies size entry r earlier h =
    middle (is_padded entry r) (lies_on_disk size r) (not (list_any (has_name r.name) earlier)) h
  where
    middle : (a b c : Bool) → (a && b && c) ≡ true → b ≡ true
    middle a true c h = refl
    middle true false c h = absurd cc
    middle false false c h = absurd cc

-- a row at the end of others
last_row : (P : FileRow → Type 0) (xs : List (Option FileRow)) (x : Option FileRow) →
    ((k : ℕ) (r : FileRow) → slice_index_or xs k None ≡ Some r → P r) → ((r : FileRow) → x ≡ Some r → P r) →
    (k : ℕ) (r : FileRow) → slice_index_or (xs ++ x ∷ []) k None ≡ Some r → P r
last_row P [] x old new zero r e = new r e
last_row P [] x old new (suc k) r e = absurd cc
last_row P (y ∷ xs) x old new zero r e = old zero r e
last_row P (y ∷ xs) x old new (suc k) r e = last_row P xs x (λ j q f. old (suc j) q f) new k r e

-- the files of the rows lie on the disk
pub rows_lie : (size : ℕ) (block : List ℕ) (n k : ℕ) (r : FileRow) →
    slice_index_or (entries size block n) k None ≡ Some r → lies_on_disk size r ≡ true
rows_lie size block zero k r e =
    absurd (none_some k r
    (subst (λ (rows : List (Option FileRow)). slice_index_or rows k None ≡ Some r) (no_entry size block) e))
  where
    none_some : (k : ℕ) (r : FileRow) → slice_index_or [] k None ≡ Some r → ⊥
    none_some k r e = cc
rows_lie size block (suc n) k r e =
    let entry = entry_bytes block n in
    let row = entry_row entry in
    let earlier = entries size block n in
    last_row (λ (q : FileRow). lies_on_disk size q ≡ true) earlier
    (cond (is_usable size entry row earlier) (Some row) None) (rows_lie size block n)
    (λ q f. by_use (is_usable size entry row earlier) row q (λ used. usable_lies size entry row earlier used) f) k r
    (subst (λ (rows : List (Option FileRow)). slice_index_or rows k None ≡ Some r) (one_entry size block n) e)
  where
    by_use : (used : Bool) (x q : FileRow) → (used ≡ true → lies_on_disk size x ≡ true) →
        cond used (Some x) None ≡ Some q → lies_on_disk size q ≡ true
    by_use true x q h f = subst (λ (y : FileRow). lies_on_disk size y ≡ true) (is_it x q f) (h refl)
      where
        is_it : (x q : FileRow) → Some x ≡ Some q → x ≡ q
        is_it x q f = cc
    by_use false x q h f = absurd cc

-- a file that lies on the disk ends there
pub ends_on : (size : ℕ) (r : FileRow) → lies_on_disk size r ≡ true → r.start + r.blocks ≤ size
ends_on size r h = grind (arith, nat_tests, h)
