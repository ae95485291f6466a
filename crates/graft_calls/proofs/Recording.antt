-- How many records there are, and a log with one more.
use Rattle.std.proofs.Common.{◌≡◌, ℕ, ◌+◌, ◌<◌, List, [], ◌∷◌, length, map, arith, refl, sym, ◌∙◌, ap}
use Rattle.std.proofs.lemmas.List.{length-map, length-append, length-reverse}
use Rattle.kernel_model.specs.Objects.{Things}
use Rattle.kernel_model.specs.Locks.{LockTable}
use Rattle.kernel_model.specs.GraftStep.{record_count}
use Rattle.kernel_model.specs.UndoLog.{numbered_log}
use Rattle.graft_levels.specs.UndoLevels.{Logged, found_of, innermost, recorded, records_of, by_age}
use Rattle.graft_levels.specs.declared.GraftLevel.{GraftLevel}
use Rattle.graft_levels.specs.Chains.{put_back, levels_in, outer}

numbered : (log : List (List Logged)) → length (records_of log) ≡ length (numbered_log log)
numbered log = length-map (by_age log) (λ (r : ℕ × Logged). r.1) ∙ length-reverse (numbered_log log)

counted : (p : ℕ) (ram : List ℕ) (t : LockTable) (gs : List GraftLevel) (log : List (List Logged))
    (w : Things) → length log ≡ length gs →
    record_count (levels_in p ram t gs log w) ≡ length (numbered_log log)
counted p ram t [] [] w same = refl
counted p ram t [] (is ∷ log) w same = absurd (omega arith)
counted p ram t (g ∷ gs) [] w same = absurd (omega arith)
counted p ram t (g ∷ gs) (is ∷ log) w same =
    ap (λ n. n + record_count (levels_in p ram t gs log (put_back is w))) (length-map is found_of)
    ∙ ap (λ n. length is + n) (counted p ram t gs log (put_back is w) (omega arith))
    ∙ ap (λ n. n + length (numbered_log log)) (sym (length-map is (λ i. let r : ℕ × Logged = (length log, i) in r)))
    ∙ sym (length-append (map (λ i. let r : ℕ × Logged = (length log, i) in r) is) (numbered_log log))

-- the levels have as many records as the log
pub record_count_is : (p : ℕ) (ram : List ℕ) (t : LockTable) (gs : List GraftLevel)
    (log : List (List Logged)) (w : Things) → length log ≡ length gs →
    record_count (levels_in p ram t gs log w) ≡ length (records_of log)
record_count_is p ram t gs log w same = counted p ram t gs log w same ∙ sym (numbered log)

-- a record comes to the innermost level
pub record_more : (i : Logged) (log : List (List Logged)) → 0 < length log →
    innermost (recorded i log) ≡ i ∷ innermost log
record_more i [] some = absurd (omega arith)
record_more i (is ∷ log) some = refl

pub record_outer : (i : Logged) (log : List (List Logged)) → outer (recorded i log) ≡ outer log
record_outer i [] = refl
record_outer i (is ∷ log) = refl

pub record_length : (i : Logged) (log : List (List Logged)) → length (recorded i log) ≡ length log
record_length i [] = refl
record_length i (is ∷ log) = refl
