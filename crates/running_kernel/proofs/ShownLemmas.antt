-- The rows of a call in flight, as its chain of levels has them.
use Rattle.std.proofs.Common.{◌≡◌, ℕ, zero, suc, ◌<◌, ◌-◌, ◌+◌, List, [], ◌∷◌, ◌++◌, Option, Some}
use Rattle.std.proofs.Common.{map, length, refl, ap, sym, ◌∙◌, arith}
use Rattle.std.specs.Prelude.{option_map, reverse, slice_get, slice_index, slice_index_or}
use Rattle.std.proofs.lemmas.List.{length-reverse, length-map, get_or-map, map-append}
use Rattle.std.proofs.lemmas.Grind.{reverse_onto}
use Rattle.std.proofs.lemmas.Option.{slice_get-map, slice_get-get_or}
use Rattle.kernel_data.specs.declared.Inverse.{Inverse}
use Rattle.kernel_data.specs.declared.RawRow.{RawRow}
use Rattle.kernel_data.specs.declared.TopRow.{TopRow}
use Rattle.kernel_data.specs.declared.WaitRow.{WaitRow}
use Rattle.kernel_data.specs.Objects.{Things}
use Rattle.kernel_model.specs.Locks.{LockTable}
use Rattle.kernel_model.specs.Levels.{Level}
use Rattle.kernel_model.specs.UndoLog.{undo_log, numbered_log}
use Rattle.kernel_model.specs.RawRows.{top_of, rows_of_levels, undo_row}
use Rattle.graft_levels.specs.UndoLevels.{Logged, bare, found_of, inverses_of, log_of, innermost, records_of, owners_of}
use Rattle.call_pieces.specs.Stores.{objects_of}
use Rattle.lock_table.specs.Masks.{held}
use Rattle.graft_levels.specs.declared.GraftLevel.{GraftLevel}
use Rattle.graft_levels.specs.Chains.{put_back, first_level, levels_in, levels_of, outer}
use Rattle.placed_laws.specs.Placed.{PlacedCall, placed_levels}
use Rattle.placed_laws.specs.PlacedRows.{placed_call_row, placed_level_rows, placed_undo_rows, placed_wait_row}
use Rattle.running_kernel.specs.declared.running.Flight.{Flight}
use Rattle.running_kernel.specs.declared.running.InFlight.{InFlight}
use Rattle.running_kernel.specs.declared.running.Running.{Running}
use Rattle.running_kernel.specs.Views.{placed_of, flight_of, chain_of, call_in_place, IsRunning}
use Rattle.running_kernel.proofs.ViewLemmas.{levels_in_place}
use Rattle.graft_levels.proofs.Views.{level_count}

-- ---- lists

-- the last of a list
get_last : {A : Type 0} (xs : List A) (x : A) (i : ℕ) → i ≡ length xs → slice_get (xs ++ x ∷ []) i ≡ Some x
get_last [] x zero h = refl
get_last [] x (suc i) h = absurd (omega (arith, h))
get_last (y ∷ xs) x zero h = absurd (omega (arith, h))
get_last (y ∷ xs) x (suc i) h = get_last xs x i (omega (arith, h))

-- those before it
get_before : {A : Type 0} (xs : List A) (x : A) (i : ℕ) → i < length xs → slice_get (xs ++ x ∷ []) i ≡ slice_get xs i
get_before [] x i h = absurd (omega (arith, h))
get_before (y ∷ xs) x zero h = refl
get_before (y ∷ xs) x (suc i) h = get_before xs x i (omega (arith, h))

-- a list from its other end
pub get_reversed : {A : Type 0} (xs : List A) (i k : ℕ) → i + k + 1 ≡ length xs →
    slice_get (reverse xs) k ≡ slice_get xs i
get_reversed [] i k h = absurd (omega (arith, h))
get_reversed (x ∷ xs) zero k h =
    ap (λ ys. slice_get ys k) (reverse_onto xs x [])
    ∙ get_last (reverse xs) x k (omega (arith, h, length-reverse xs))
get_reversed (x ∷ xs) (suc i) k h =
    ap (λ ys. slice_get ys k) (reverse_onto xs x [])
    ∙ get_before (reverse xs) x k (omega (arith, h, length-reverse xs))
    ∙ get_reversed xs i k (omega (arith, h))

-- ---- levels

-- the row of a level with so many outside it
abbrev top_row_of : ℕ → GraftLevel → TopRow
top_row_of n g = record { installer = g.owner; point = g.point; depth = n }

-- the innermost level
pub top_is : (p : ℕ) (ram : List ℕ) (t : LockTable) (gs : List GraftLevel) (log : List (List Logged)) (w : Things) →
    top_of (levels_in p ram t gs log w) ≡ option_map (top_row_of (length gs)) (first_level gs)
top_is p ram t [] log w = refl
top_is p ram t (g ∷ gs) log w =
    ap (λ n. Some (top_row_of (suc n) g)) (level_count p ram t gs (outer log) (put_back (innermost log) w))

-- there are as many rows
pub level_rows_many : (p : ℕ) (ls : List Level) → length (rows_of_levels p ls) ≡ length ls
level_rows_many p [] = refl
level_rows_many p (l ∷ ls) = ap suc (level_rows_many p ls)

-- the row of the level at a place from the inner end
row_inwards : (p : ℕ) (ram : List ℕ) (t : LockTable) (gs : List GraftLevel)
    (log : List (List Logged)) (w : Things) (i d : ℕ) (g : GraftLevel) → slice_get gs i ≡ Some g →
    i + d + 1 ≡ length gs →
    slice_get (rows_of_levels p (levels_in p ram t gs log w)) i ≡ Some (RawRow.Level p d g.owner g.point g.count)
row_inwards p ram t [] log w i d g h n = absurd (cc)
row_inwards p ram t (f ∷ gs) log w zero d g h n =
    let same : f ≡ g = cc in
    let depth : length (levels_in p ram t gs (outer log) (put_back (innermost log) w)) ≡ d =
    level_count p ram t gs (outer log) (put_back (innermost log) w) ∙ omega (arith, n) in
    ap (λ k. Some (RawRow.Level p k f.owner f.point f.count)) depth
    ∙ ap (λ (e : GraftLevel). Some (RawRow.Level p d e.owner e.point e.count)) same
row_inwards p ram t (f ∷ gs) log w (suc i) d g h n =
    row_inwards p ram t gs (outer log) (put_back (innermost log) w) i d g h (omega (arith, n))

-- the row of level d, of levels outermost first
pub level_row_is : (p : ℕ) (ram : List ℕ) (t : LockTable) (out gs : List GraftLevel)
    (log : List (List Logged)) (w : Things) (d : ℕ) (g : GraftLevel) → reverse out ≡ gs →
    d < length out → slice_get out d ≡ Some g →
    slice_get (reverse (rows_of_levels p (levels_in p ram t gs log w))) d
    ≡ Some (RawRow.Level p d g.owner g.point g.count)
level_row_is p ram t out gs log w d g out_is small here =
    let many : length gs ≡ length out = ap length (sym out_is) ∙ length-reverse out in
    let i = length out - 1 - d in
    let all : length (rows_of_levels p (levels_in p ram t gs log w)) ≡ length gs =
    level_rows_many p (levels_in p ram t gs log w) ∙ level_count p ram t gs log w in
    let inner : slice_get gs i ≡ Some g = ap (λ xs. slice_get xs i) (sym out_is)
    ∙ get_reversed out d i (omega (arith, small)) ∙ here in
    get_reversed (rows_of_levels p (levels_in p ram t gs log w)) i d (omega (arith, small, many, all))
    ∙ row_inwards p ram t gs log w i d g inner (omega (arith, small, many))

-- ---- records

-- the log of the levels of a chain, where it has as many
pub log_is : (p : ℕ) (ram : List ℕ) (t : LockTable) (gs : List GraftLevel)
    (log : List (List Logged)) (w : Things) → length log ≡ length gs →
    undo_log (levels_in p ram t gs log w) ≡ log_of log
log_is p ram t [] [] w h = refl
log_is p ram t [] (is ∷ log) w h = absurd (omega (arith, h))
log_is p ram t (g ∷ gs) [] w h = absurd (omega (arith, h))
log_is p ram t (g ∷ gs) (is ∷ log) w h =
    ap (λ l. map found_of is ∷ l) (log_is p ram t gs log (put_back is w) (omega (arith, h)))

-- a record with the level that owns it, by its inverse alone
abbrev inverse_row : ℕ → ℕ × Logged → RawRow
inverse_row p r = RawRow.Undo p r.0 r.1.inverse

-- the rows of a log are those of its inverses
rows_of_inverses : (p : ℕ) (log : List (List Logged)) →
    map (undo_row p) (numbered_log (log_of log)) ≡ map (inverse_row p) (numbered_log log)
rows_of_inverses p [] = refl
rows_of_inverses p (is ∷ log) =
    map-append (undo_row p) (map (λ f. (length (log_of log), f)) (map found_of is)) (numbered_log (log_of log))
    ∙ ap (λ rows. rows ++ map (undo_row p) (numbered_log (log_of log))) (of_level (length
    (log_of log)) (length log) is (length-map log (λ (rs : List Logged). map found_of rs)))
    ∙ ap (λ rows. map (inverse_row p) (map (λ i. (length log, i)) is) ++ rows) (rows_of_inverses p log)
    ∙ sym (map-append (inverse_row p) (map (λ i. (length log, i)) is) (numbered_log log))
  where
    of_level : (d e : ℕ) (is : List Logged) → d ≡ e → map (undo_row p)
        (map (λ f. (d, f)) (map found_of is)) ≡ map (inverse_row p) (map (λ i. (e, i)) is)
    of_level d e [] same = refl
    of_level d e (i ∷ is) same =
        ap (λ n. RawRow.Undo p n i.inverse ∷ map (undo_row p) (map (λ f. (d, f)) (map found_of is)))
        same ∙ ap (λ rows. RawRow.Undo p e i.inverse ∷ rows) (of_level d e is same)

-- as many as there are records
pub as_many_records : (log : List (List Logged)) → length (inverses_of log) ≡ length (numbered_log log)
as_many_records log =
    length-map (records_of log) (λ (f : Logged). f.inverse)
    ∙ length-map (reverse (numbered_log log)) (λ r. r.1) ∙ length-reverse (numbered_log log)

-- the row of the record at a place from the newest on, of owners and inverses from the oldest on
pub record_row_is : (p : ℕ) (log : List (List Logged)) (rs : List Inverse) (i owner : ℕ)
    (d : Inverse) → rs ≡ inverses_of log → i < length (numbered_log log) →
    owner ≡ slice_index (owners_of log) (length rs - 1 - i) →
    slice_get (map (undo_row p) (numbered_log (log_of log))) i
    ≡ Some (RawRow.Undo p owner (slice_index_or rs (length rs - 1 - i) d))
record_row_is p log rs i owner d rs_is small owner_is =
    let nl = numbered_log log in
    let none : ℕ × Logged = (0, bare d) in
    let many : length (reverse nl) ≡ length nl = length-reverse nl in
    let all : length rs ≡ length nl = ap length rs_is ∙ as_many_records log in
    let k = length rs - 1 - i in
    let within : k < length (reverse nl) = omega (arith, small, many, all) in
    let recorded : k < length (records_of log) =
    omega (arith, within, length-map (reverse nl) (λ (r : ℕ × Logged). r.1)) in
    let here : slice_get nl i ≡ Some (slice_index_or (reverse nl) k none) =
    sym (get_reversed nl i k (omega (arith, small, all))) ∙ slice_get-get_or (reverse nl) k none within in
    let owner_here : (slice_index_or (reverse nl) k none).0 ≡ owner =
    sym (owner_is ∙ get_or-map (λ (r : ℕ × Logged). r.0) (reverse nl) k none 0 within) in
    let record_here : (slice_index_or (reverse nl) k none).1.inverse ≡ slice_index_or rs k d =
    sym (ap (λ xs. slice_index_or xs k d) rs_is
    ∙ get_or-map (λ (f : Logged). f.inverse) (records_of log) k (bare d) d recorded
    ∙ ap (λ (f : Logged). f.inverse) (get_or-map (λ (r : ℕ × Logged). r.1) (reverse nl) k none (bare d) within)) in
    ap (λ rows. slice_get rows i) (rows_of_inverses p log)
    ∙ slice_get-map (inverse_row p) nl i ∙ ap (option_map (inverse_row p)) here
    ∙ ap (λ n. Some (RawRow.Undo p n (slice_index_or (reverse nl) k none).1.inverse)) owner_here
    ∙ ap (λ e. Some (RawRow.Undo p owner e)) record_here

-- ---- a running kernel

-- how many levels are shown
pub levels_many : {C B M : Type 0} {P : _} (x : Running C B M P) (p : ℕ) →
    length (placed_level_rows (placed_of x) p) ≡ length (chain_of x p).levels
levels_many x p =
    let ls = levels_of x.store x.locks (chain_of x p) p in
    ap (λ ks. length (reverse (rows_of_levels p ks))) (levels_in_place x p)
    ∙ length-reverse (rows_of_levels p ls) ∙ level_rows_many p ls
    ∙ level_count p x.store.ram (held x.locks) (chain_of x p).levels (chain_of x p).undo (objects_of x.store).things

-- the rows of its records
pub records_in_place : {C B M : Type 0} {P : _} (x : Running C B M P) (p : ℕ) → p < 16 → IsRunning x →
    placed_undo_rows (placed_of x) p ≡ map (undo_row p) (numbered_log (log_of (chain_of x p).undo))
records_in_place x p small r =
    ap (λ ks. map (undo_row p) (numbered_log (undo_log ks))) (levels_in_place x p)
    ∙ ap (λ l. map (undo_row p) (numbered_log l)) (log_is p x.store.ram (held x.locks) (chain_of x
    p).levels (chain_of x p).undo (objects_of x.store).things (r.placed p small).as_many)

-- the rows of its levels
pub level_rows_in_place : {C B M : Type 0} {P : _} (x : Running C B M P) (p : ℕ) →
    placed_level_rows (placed_of x) p ≡ reverse (rows_of_levels p (levels_of x.store x.locks (chain_of x p) p))
level_rows_in_place x p = ap (λ ks. reverse (rows_of_levels p ks)) (levels_in_place x p)

-- how many records are shown
pub records_many : {C B M : Type 0} {P : _} (x : Running C B M P) (p : ℕ) → p < 16 → IsRunning x →
    length (placed_undo_rows (placed_of x) p) ≡ length (numbered_log (chain_of x p).undo)
records_many x p small r =
    ap length (records_in_place x p small r) ∙ ap length (rows_of_inverses p (chain_of x p).undo)
    ∙ length-map (numbered_log (chain_of x p).undo) (inverse_row p)

-- the row of a call
pub call_row_is : {C B M : Type 0} {P : _} (x : Running C B M P) (p : ℕ) (f : InFlight)
    (waits : Option WaitRow) (top : Option TopRow) →
    (flight_of x.calls.items p).call ≡ Some f → waits ≡ placed_wait_row (placed_of x) p →
    top ≡ top_of (levels_of x.store x.locks (chain_of x p) p) →
    Some (RawRow.Call p f.number waits top) ≡ placed_call_row (placed_of x) p
call_row_is x p f waits top is waits_is innermost_is =
    let y = placed_of x in
    let row : PlacedCall → RawRow = λ c. RawRow.Call p c.number (placed_wait_row y p) (top_of (placed_levels y p)) in
    ap (λ (o : Option WaitRow). Some (RawRow.Call p f.number o top)) waits_is
    ∙ ap (λ (o : Option TopRow). Some (RawRow.Call p f.number (placed_wait_row y p) o))
    (innermost_is ∙ ap top_of (sym (levels_in_place x p)))
    ∙ sym (ap (λ (o : Option InFlight). option_map row (option_map call_in_place o)) is)

-- a process whose call has levels has a place
pub flight_there : (fs : List Flight) (p d : ℕ) → d < length (flight_of fs p).chain.levels → p < length fs
flight_there [] p d h = absurd (omega (arith, h))
flight_there (f ∷ fs) zero d h = omega arith
flight_there (f ∷ fs) (suc p) d h = let further = flight_there fs p d h in omega (arith, further)
