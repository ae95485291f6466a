-- The entries of a directory, one after another.
use Rattle.std.proofs.Common.{◌≡◌, ℕ, ◌+◌, List, [], ◌∷◌, ◌++◌, length, get_or, Option, None, Some}
use Rattle.std.proofs.Common.{true, refl, sym, subst, ◌∙◌, add-one, arith, inl, inr, length-append}
use Rattle.std.specs.Option.{IfSome}
use Rattle.std.proofs.lemmas.Bool.{cases_lt}
use Rattle.std.proofs.lemmas.List.{get_or_append_left, get_or_at, get_or_past}
use Rattle.kernel_data.specs.declared.FileRow.{FileRow}
use Rattle.kernel_data.specs.Directory.{entries, with_entry, entry_bytes, entry_row, lies_on_disk}

-- no entry
pub entries_none : (size : ℕ) (block : List ℕ) → entries size block 0 ≡ []
unfolding entries
entries_none size block = refl

-- one entry more
pub entries_more : (size : ℕ) (block : List ℕ) (n : ℕ) → entries size block (n + 1)
    ≡ with_entry size (entry_bytes block n) (entry_row (entry_bytes block n)) (entries size block n)
unfolding entries
entries_more size block n = rw add-one refl

-- a row that is there
file-here : (size : ℕ) (x : Option FileRow) (r : FileRow) →
    IfSome x (λ (y : FileRow). lies_on_disk size y ≡ true) → x ≡ Some r → lies_on_disk size r ≡ true
file-here size None r fits is = absurd (cc)
file-here size (Some y) r fits is =
    let same : y ≡ r = cc in
    subst (λ (w : FileRow). lies_on_disk size w ≡ true) same fits

-- one entry more, and the files that lie on the disk
pub files-push : (size : ℕ) (xs ys : List (Option FileRow)) (x : Option FileRow) →
    ((n : ℕ) (r : FileRow) → get_or xs n None ≡ Some r → lies_on_disk size r ≡ true)
    → IfSome x (λ (y : FileRow). lies_on_disk size y ≡ true) → ys ≡ xs ++ x ∷ [] →
    (n : ℕ) (r : FileRow) → get_or ys n None ≡ Some r → lies_on_disk size r ≡ true
files-push size xs ys x old new is n r here =
    let there : get_or (xs ++ x ∷ []) n None ≡ Some r = subst (λ w. get_or w n None ≡ Some r) is here in
    elim (cases_lt n (length xs)) [
      | inl below ↦ old n r (sym (get_or_append_left xs (x ∷ []) None n below) ∙ there)
      | inr from ↦
          elim (cases_lt (length xs) n) [
            | inl past ↦ let none : get_or (xs ++ x ∷ []) n None ≡ None = get_or_past (xs ++ x ∷ [])
                n None (omega (arith, length-append xs (x ∷ []))) in absurd (cc)
            | inr upto ↦ let same : length xs ≡ n = omega arith in
                file-here size x r new (sym (get_or_at xs x [] None n same) ∙ there)
          ]
    ]
