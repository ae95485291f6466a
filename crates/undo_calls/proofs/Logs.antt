-- The records of inverses and the segments beside them.
use Rattle.std.proofs.Common.{◌≡◌, ℕ, suc, ◌+◌, ◌-◌, ◌<◌, true, cond, List, [], ◌∷◌, ◌++◌, length}
use Rattle.std.proofs.Common.{map, Option, None, refl, arith, ◌∙◌, ap}
use Rattle.std.specs.Prelude.{slice_index_or, slice_set, is_some}
use Rattle.std.proofs.lemmas.List.{length-append, get_or-set_same, get_or-set_other}
use Rattle.kernel_model.specs.declared.Inverse.{Inverse}
use Rattle.ram_space.specs.Tables.{Table}
use Rattle.undo_calls.specs.UndoLevels.{Logged, bare, is_bare, logged_at, logged_from, logged_in}
use Rattle.undo_calls.specs.UndoLevels.{levels_of, newest, IsStack}
use Rattle.undo_calls.proofs.Cuts.{Popped, forgotten}

pub length-logged : (n : ℕ) (is : List Inverse) (kept : Table) → length (logged_from n is kept) ≡ length is
length-logged n [] kept = refl
length-logged n (i ∷ is) kept = ap suc (length-logged (suc n) is kept)

-- without the bytes they are the inverses
pub inverses-logged : (n : ℕ) (is : List Inverse) (kept : Table) →
    map (λ (r : Logged). r.inverse) (logged_from n is kept) ≡ is
inverses-logged n [] kept = refl
inverses-logged n (i ∷ is) kept = ap (λ js. i ∷ js) (inverses-logged (suc n) is kept)

-- one record more
logged-more : (n : ℕ) (is : List Inverse) (i : Inverse) (kept : Table) →
    logged_from n (is ++ i ∷ []) kept ≡ logged_from n is kept ++ logged_at i
    (slice_index_or kept (n + length is) None) ∷ []
logged-more n [] i kept = ap (λ k. logged_at i (slice_index_or kept k None) ∷ []) (let e : n ≡ n + 0 = omega arith in e)
logged-more n (j ∷ is) i kept =
    ap (λ rs. logged_at j (slice_index_or kept n None) ∷ rs)
    (logged-more (suc n) is i kept
    ∙ ap (λ k. logged_from (suc n) is kept ++ logged_at i (slice_index_or kept k None) ∷ []) (next-place n is))
  where
    next-place : (n : ℕ) (is : List Inverse) → suc n + length is ≡ n + suc (length is)
    next-place n is = omega arith

logged-end : (is : List Inverse) (i : Inverse) (kept : Table) → logged_in (is ++ i ∷ []) kept
    ≡ logged_in is kept ++ logged_at i (slice_index_or kept (length is) None) ∷ []
logged-end is i kept =
    logged-more 0 is i kept
    ∙ ap (λ k. logged_in is kept ++ logged_at i (slice_index_or kept k None) ∷ [])
    (let e : 0 + length is ≡ length is = omega arith in e)

pub logged-last : (is init : List Inverse) (i : Inverse) (kept : Table) →
    is ≡ init ++ i ∷ [] → logged_in is kept ≡ logged_in init kept ++ logged_at i
    (slice_index_or kept (length is - 1) None) ∷ []
logged-last is init i kept e =
    let size = ap length e ∙ length-append init (i ∷ []) in
    ap (λ js. logged_in js kept) e
    ∙ logged-end init i kept
    ∙ ap (λ k. logged_in init kept ++ logged_at i (slice_index_or kept k None) ∷ [])
    (let at_end : length init ≡ length is - 1 = omega arith in at_end)

-- segments behind theirs make no difference
logged-same : (n : ℕ) (is : List Inverse) (old new : Table) →
    ((m : ℕ) → m < n + length is → slice_index_or new m None ≡ slice_index_or old m None) →
    logged_from n is new ≡ logged_from n is old
logged-same n [] old new same = refl
logged-same n (i ∷ is) old new same =
    ap (λ c. logged_at i c ∷ logged_from (suc n) is new) (same n (omega arith))
    ∙ ap (λ rs. logged_at i (slice_index_or old n None) ∷ rs) (logged-same (suc n) is old new
    (λ m before. same m (omega arith)))

-- one record more, which has no bytes
logged-bare : (i : Inverse) (b : Option (List ℕ)) → is_bare i ≡ true → logged_at i b ≡ bare i
logged-bare i b none = ap (λ t. let r : Logged = record { inverse = i; bytes = cond t None b } in r) none

pub logged-more_bare : (is : List Inverse) (i : Inverse) (kept : Table) → is_bare i ≡ true →
    logged_in (is ++ i ∷ []) kept ≡ logged_in is kept ++ bare i ∷ []
logged-more_bare is i kept none =
    logged-end is i kept
    ∙ ap (λ r. logged_in is kept ++ r ∷ []) (logged-bare i (slice_index_or kept (length is) None) none)

own-segment : (place : ℕ) (old new : Table) (b : Option (List ℕ)) → place < length old →
    new ≡ slice_set old place b → slice_index_or new place None ≡ b
own-segment place old new b room put = ap (λ t. slice_index_or t place None) put ∙ get_or-set_same old place b None room

other-segment : (place m : ℕ) (old new : Table) (b : Option (List ℕ)) → m < place →
    new ≡ slice_set old place b → slice_index_or new m None ≡ slice_index_or old m None
other-segment place m old new b before put =
    ap (λ t. slice_index_or t m None) put ∙ get_or-set_other old place m b None (λ e. omega arith)

-- one record more, whose segment was put
pub logged-put :
    (is more : List Inverse) (i : Inverse) (old new : Table) (place : ℕ) (b : Option (List ℕ)) →
    place ≡ length is → more ≡ is ++ i ∷ [] → new ≡ slice_set old place b → length is < length old →
    logged_in more new ≡ logged_in is old ++ logged_at i b ∷ []
logged-put is more i old new place b at_end taken put room =
    let here = put ∙ ap (λ n. slice_set old n b) at_end in
    ap (λ js. logged_in js new) taken
    ∙ logged-end is i new
    ∙ ap (λ rs. rs ++ logged_at i (slice_index_or new (length is) None) ∷ [])
    (logged-same 0 is old new (λ m before. other-segment (length is) m old new b
    (let e : 0 + length is ≡ length is = omega arith in omega arith) here))
    ∙ ap (λ c. logged_in is old ++ logged_at i c ∷ []) (own-segment (length is) old new b room here)

-- the newest record of the innermost level goes where the last inverse does
pub logged-forgotten : (marks : List ℕ) (old new : List Inverse) (i : Inverse) (kept : Table)
    (log : List (List Logged)) → old ≡ new ++ i ∷ [] → IsStack marks (logged_in old kept) →
    levels_of marks (logged_in old kept) ≡ log →
    is_some (newest log) ≡ true → Popped marks (logged_in new kept)
    (logged_at i (slice_index_or kept (length old - 1) None)) log
logged-forgotten marks old new i kept log taken h view some =
    forgotten marks (logged_in old kept) (logged_in new kept)
    (logged_at i (slice_index_or kept (length old - 1) None)) log
    (logged-last old new i kept taken) h view some
