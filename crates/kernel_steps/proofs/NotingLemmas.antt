-- One more note of those that are kept as rows and bytes.
use Rattle.std.proofs.Common.{◌≡◌, ℕ, zero, suc, ◌≤◌, ◌+◌, ◌*◌, List, [], ◌∷◌, ◌++◌, take, length}
use Rattle.std.proofs.Common.{refl, ap, sym, ◌∙◌, arith, subst}
use Rattle.std.specs.Prelude.{cond, drop, replicate, ◌<◌, ◌-◌, Option, None, Some, IfSome}
use Rattle.std.proofs.lemmas.List.{length-append, length-replicate, length_push}
use Rattle.std.proofs.lemmas.List.Sums.{sum_by-append}
use Rattle.std.proofs.Math.Seq.{take-append_seam}
use Rattle.kernel_model.specs.declared.BareNote.{BareNote}
use Rattle.kernel_model.specs.declared.Note.{Note}
use Rattle.kernel_model.specs.Bare.{given_count, note_with, notes_with}
use Rattle.kernel_model.specs.Kernel.{gave_note}
use Rattle.kernel_steps.specs.Composing.{adds_none}
use Rattle.kernel_steps.specs.Faults.{fault_notes, is_fault_note}
use Rattle.kernel_steps.specs.Kept.{kept_full, kept_more}
use Rattle.kernel_steps.specs.Noting.{AreGiven, NotesFit}
use Rattle.kernel_steps.specs.Refines.{Adds}

-- the whole of a list
take_all : (xs : List ℕ) → take (length xs) xs ≡ xs
take_all [] = refl
take_all (x ∷ xs) = ap (λ zs. x ∷ zs) (take_all xs)

-- nothing behind
pub none_behind : (xs : List ℕ) → xs ++ [] ≡ xs
none_behind [] = refl
none_behind (x ∷ xs) = ap (λ zs. x ∷ zs) (none_behind xs)

-- the front of two lists
take_front : (n : ℕ) (xs ys : List ℕ) → n ≤ length xs → take n (xs ++ ys) ≡ take n xs
take_front zero xs ys h = refl
take_front (suc n) [] ys h = absurd (omega (arith, h))
take_front (suc n) (x ∷ xs) ys h = ap (λ zs. x ∷ zs) (take_front n xs ys (omega (arith, h)))

drop_front : (n : ℕ) (xs ys : List ℕ) → n ≤ length xs → drop n (xs ++ ys) ≡ drop n xs ++ ys
drop_front zero xs ys h = refl
drop_front (suc n) [] ys h = absurd (omega (arith, h))
drop_front (suc n) (x ∷ xs) ys h = drop_front n xs ys (omega (arith, h))

drop_all : (xs : List ℕ) → drop (length xs) xs ≡ []
drop_all [] = refl
drop_all (x ∷ xs) = drop_all xs

no_longer : (n : ℕ) (xs ys : List ℕ) → n ≤ length xs → n ≤ length (xs ++ ys)
no_longer zero xs ys h = omega arith
no_longer (suc n) [] ys h = absurd (omega (arith, h))
no_longer (suc n) (x ∷ xs) ys h = let less = no_longer n xs ys (omega (arith, h)) in omega (arith, less)

pub notes_added : (list : List BareNote) (bytes : List ℕ) (note : BareNote) (more : List ℕ) →
    AreGiven list bytes → given_count note ≡ length more →
    notes_with (list ++ note ∷ []) (bytes ++ more) ≡ notes_with list bytes ++ note_with note more ∷ []
notes_added [] bytes note more given count =
    ap (λ (bs : List ℕ). notes_with (note ∷ []) (bs ++ more)) given
    ∙ ap (λ (bs : List ℕ). note_with note bs ∷ []) (ap (λ n. take n more) count ∙ take_all more)
notes_added (x ∷ list) bytes note more given count =
    let n = given_count x in
    ap (λ (bs : List ℕ). note_with x bs ∷ notes_with (list ++ note ∷ []) (drop n (bytes ++ more)))
    (take_front n bytes more given.1)
    ∙ ap (λ (bs : List ℕ). note_with x (take n bytes) ∷ notes_with (list ++ note ∷ []) bs)
    (drop_front n bytes more given.1)
    ∙ ap (λ (ns : List Note). note_with x (take n bytes) ∷ ns) (notes_added list (drop n bytes) note more given.2 count)

pub given_added : (list : List BareNote) (bytes : List ℕ) (note : BareNote) (more : List ℕ) →
    AreGiven list bytes → given_count note ≡ length more → length more ≤ 512 →
    AreGiven (list ++ note ∷ []) (bytes ++ more)
given_added [] bytes note more given count few =
    subst (λ (bs : List ℕ). AreGiven (note ∷ []) (bs ++ more)) (sym given)
    (omega (arith, count, few), omega (arith, count), ap (λ n. drop n more) count ∙ drop_all more)
given_added (x ∷ list) bytes note more given count few =
    let n = given_count x in (
      given.0,
      no_longer n bytes more given.1,
      subst (AreGiven (list ++ note ∷ [])) (sym (drop_front n bytes more given.1))
          (given_added list (drop n bytes) note more given.2 count few),
    )

-- what is written through a list's own slice
written : (new old : List ℕ) (n : ℕ) → length new ≡ n → take n (new ++ drop (length new) old) ≡ new
written new old n h = rw (sym h) (take-append_seam new (drop (length new) old))

-- bytes put behind the first so many, after zeros that were put there before them
pub put_whole : (kept zeros reached put old : List ℕ) (n size : ℕ) (gave : Option (List ℕ)) →
    reached ≡ kept ++ zeros → size ≤ length kept → length put ≡ n →
    IfSome gave (λ b. take (size + length b) put ≡ take size reached ++ b) →
    IfSome gave (λ b. take (size + length b) (take n (put ++ drop (length put) old)) ≡ take size kept ++ b)
put_whole kept zeros reached put old n size None is within long given = tt
put_whole kept zeros reached put old n size (Some b) is within long given =
    ap (take (size + length b)) (written put old n long) ∙ given
    ∙ ap (λ xs. take size xs ++ b) is ∙ ap (λ xs. xs ++ b) (take_front size kept zeros within)

-- the bytes of the notes with those that were given behind them
pub given_whole : (bytes front more : List ℕ) (size : ℕ) (gave : Option (List ℕ)) →
    gave ≡ Some more → IfSome gave (λ b. take (size + length b) bytes ≡ front ++ b) →
    take (size + length more) bytes ≡ front ++ more
given_whole bytes front more size gave some given =
    subst (λ (o : Option (List ℕ)). IfSome o (λ b. take (size + length b) bytes ≡ front ++ b)) some given

-- as many bytes as were reached
pub reaches : (kept reached : List ℕ) (end : ℕ) → reached ≡ kept ++ replicate (end - length kept) 0 →
    end ≤ length reached
reaches kept reached end is =
    let long = ap length is in
    let both = length-append kept (replicate (end - length kept) 0) in
    let more = length-replicate {A = ℕ} (end - length kept) 0 in
    omega (arith, long, both, more)

-- one note more, and its bytes
pub fit_added : (list new_list : List BareNote) (bytes new_bytes more : List ℕ) (note : BareNote)
    (list_room bytes_room new_list_room new_bytes_room : ℕ) →
    NotesFit list bytes list_room bytes_room → length list < 530 → given_count note ≡ length more → length more ≤ 512 →
    new_list ≡ list ++ note ∷ [] → new_bytes ≡ bytes ++ more → new_list_room ≡ list_room → new_bytes_room ≡ bytes_room →
    NotesFit new_list new_bytes new_list_room new_bytes_room
fit_added list new_list bytes new_bytes more note list_room bytes_room new_list_room new_bytes_room
    fit room count few is_list is_bytes same_list same_bytes =
    let many : length new_list ≡ length list + 1 = ap length is_list ∙ length_push list note in
    let size : length new_bytes ≡ length bytes + length more = ap length is_bytes ∙ length-append bytes more in
    let few_bytes = fit.few_bytes in
    record {
      rows = same_list ∙ fit.rows;
      few = omega arith;
      room = same_bytes ∙ fit.room;
      few_bytes = omega arith;
      given = subst (λ xs. AreGiven xs new_bytes) (sym is_list)
          (subst (AreGiven (list ++ note ∷ [])) (sym is_bytes) (given_added list bytes note more fit.given count few));
    }

pub as_many : (list : List BareNote) (bytes : List ℕ) → length (notes_with list bytes) ≡ length list
as_many [] bytes = refl
as_many (x ∷ list) bytes = ap suc (as_many list (drop (given_count x) bytes))

-- ---- what was added to the notes that are kept

-- one more, where there is room
pub added_more : (old kept new : List Note) (note : Note) → kept ≡ old → new ≡ kept ++ note ∷ [] →
    length kept < 530 → Adds (note ∷ []) old new
added_more old kept new note same is room =
    record {
      first = λ all k. is ∙ kept_more kept all note (same ∙ k) room;
      faults =
          let a = ap fault_notes is in
          let b = ap fault_notes same in
          let parts = sum_by-append (λ n. cond (is_fault_note n) 1 0) kept (note ∷ []) in
          omega (arith, a, b, parts);
    }

-- and where there is none
pub added_full : (old kept : List Note) (note : Note) → kept ≡ old → 530 ≤ length kept → Adds (note ∷ []) old old
added_full old kept note same full =
    record { first = λ all k. sym same ∙ kept_full kept all note (same ∙ k) full; faults = omega arith }
