-- Rows of calls in flight and of their records.
use Rattle.std.proofs.Common.{◌≡◌, ◌-◌, ◌≤◌, ℕ, List, [], ◌∷◌, ◌++◌, Option, Some, None, map, option_map, length, get_or, take, drop, refl, sym, ap, ◌∙◌, arith}
use Rattle.std.proofs.lemmas.List.{length-map, map-append, take_rest}
use Rattle.kernel_data.specs.declared.RawRow.{RawRow}
use Rattle.kernel_data.specs.declared.TopRow.{TopRow}
use Rattle.kernel_data.specs.declared.WaitRow.{WaitRow}
use Rattle.kernel_model.specs.RawRows.{undo_row}
use Rattle.kernel_model.specs.Access.{Found}
use Rattle.kernel_model.specs.Blocking.{number_of_call}
use Rattle.kernel_model.specs.Kernel.{Call}
use Rattle.kernel_model.specs.UndoLog.{numbered_log, undo_log}
use Rattle.audit_levels.specs.declared.Level.{Level}
use Rattle.audit_levels.specs.declared.Record.{Record}
use Rattle.audit_levels.specs.Levels.{found_of, level_of, levels_of}
use Rattle.audit_kernel.specs.Rows.{record_row}
use Rattle.audit_kernel.proofs.Listing.{some_more}

-- a list is its first element and the others
pub first_and_rest : {A : Type 0} (xs : List A) (x : A) → 1 ≤ length xs → x ≡ get_or xs 0 x →
    x ∷ take (length xs - 1) (drop 1 xs) ≡ xs
first_and_rest {A} xs x long is = ap (λ (zs : List A). x ∷ zs) (take_rest xs 1) ∙ go xs long is
  where
    go : (ys : List A) → 1 ≤ length ys → x ≡ get_or ys 0 x → x ∷ drop 1 ys ≡ ys
    go [] long is = absurd (omega (arith, long))
    go (y ∷ ys) long is = ap (λ (z : A). z ∷ ys) is

-- a call in flight is seen by its number, what it waits for, and its innermost level
pub call_seen : (p n : ℕ) (o : Option Call) (w v : Option WaitRow) (t u : Option TopRow) →
    Some n ≡ number_of_call o → w ≡ v → t ≡ u →
    Some (RawRow.Call p n w t) ≡ option_map (λ (c : Call). RawRow.Call p c.number v u) o
call_seen p n None w v t u is waits top = absurd (grind (arith, is))
call_seen p n (Some c) w v t u is waits top =
    let number : n ≡ c.number = grind (arith, is) in
    ap (λ (x : Option WaitRow). Some (RawRow.Call p n x t)) waits
    ∙ ap (λ (x : Option TopRow). Some (RawRow.Call p n v x)) top
    ∙ ap (λ (m : ℕ). Some (RawRow.Call p m v u)) number

-- the records of a level, newest first
pub records_seen : (p d : ℕ) (rs : List Record) →
    map (undo_row p) (map (λ (i : Found). (d, i)) (map found_of rs)) ≡ map (record_row p d) rs
records_seen p d [] = refl
records_seen p d (r ∷ rs) = ap (λ (xs : List RawRow). record_row p d r ∷ xs) (records_seen p d rs)

-- the records of a level, and of those outside it
pub log_more : (bytes : ℕ → List ℕ) (p d : ℕ) (l : Level) (ls : List Level) (old mid new : List RawRow) →
    d ≡ length ls → mid ≡ old ++ map (record_row p d) l.records.items →
    new ≡ mid ++ map (undo_row p) (numbered_log (undo_log (levels_of bytes ls))) →
    new ≡ old ++ map (undo_row p) (numbered_log (undo_log (levels_of bytes (l ∷ ls))))
log_more bytes p d l ls old mid new is first others =
    let log : List (List Found) = undo_log (levels_of bytes ls) in
    let rest : List RawRow = map (undo_row p) (numbered_log log) in
    let here : List Found = map found_of l.records.items in
    let count : d ≡ length log =
    is ∙ sym (length-map ls (level_of bytes)) ∙ sym (length-map (levels_of bytes ls) _) in
    some_more old mid new (map (record_row p d) l.records.items) rest first others
    ∙ ap (λ (xs : List RawRow). old ++ (xs ++ rest)) (sym (records_seen p d l.records.items))
    ∙ ap (λ (n : ℕ). old ++ (map (undo_row p) (map (λ (i : Found). (n, i)) here) ++ rest)) count
    ∙ ap (λ (xs : List RawRow). old ++ xs)
    (sym (map-append (undo_row p) (map (λ (i : Found). (length log, i)) here) (numbered_log log)))
