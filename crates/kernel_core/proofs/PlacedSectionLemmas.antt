-- The rows of the sections are those of the definitions.
use Rattle.std.proofs.Common.{◌≡◌, ℕ, ◌+◌, List, [], ◌∷◌, ◌++◌, Option, Some, None, refl, sym, ap}
use Rattle.std.proofs.Common.{◌∙◌, append_assoc, append-nil}
use Rattle.std.specs.Prelude.{◌*◌, ◌/◌, ◌%◌, cond, Bool, true, false, map, filter, filter_map, flat_map}
use Rattle.std.specs.List.{range_with_len, cons_option}
use Rattle.std.proofs.lemmas.List.Elements.{filter_map-append}
use Rattle.kernel_model.specs.declared.RawRow.{RawRow}
use Rattle.kernel_model.specs.World.{processes}
use Rattle.kernel_model.specs.Policies.{lives}
use Rattle.kernel_model.specs.RawRows.{living, points, acct_row, cells_row, open_row, open_rows}
use Rattle.kernel_model.specs.RawRows.{graft_row, graft_rows, pol_row, frame_row_of, lock_row}
use Rattle.placed_laws.specs.Placed.{Placed}
use Rattle.placed_laws.specs.PlacedRows.{placed_call_row, placed_level_rows, placed_undo_rows, placed_rows}
use Rattle.kernel_core.specs.declared.placed_rows.Section.TheVariants.{Accounts, Cells, Files, Grafts, Locks, Calls}
use Rattle.kernel_core.specs.PlacedSections.{as_list, sections, rows_in, rows_of}

-- places with a row or none
as_filtered : {A : Type 0} (f : ℕ → Option A) (ns : List ℕ) → flat_map (λ n. as_list (f n)) ns ≡ filter_map f ns
as_filtered f [] = refl
as_filtered f (n ∷ ns) = ap (λ ys. as_list (f n) ++ ys) (as_filtered f ns) ∙ first (f n) (filter_map f ns)
  where
    first : {A : Type 0} (o : Option A) (ys : List A) → as_list o ++ ys ≡ cons_option o ys
    first None ys = refl
    first (Some x) ys = refl

-- those that pass a test, changed
passed_rows : (t : ℕ → Bool) (f : ℕ → RawRow) (xs : List ℕ) →
    filter_map (λ n. cond (t n) (Some (f n)) None) xs ≡ map f (filter t xs)
passed_rows t f [] = refl
passed_rows t f (x ∷ xs) = one (t x) ∙ ap (λ ys. cond (t x) (f x ∷ ys) ys) (passed_rows t f xs) ∙ sym (other (t x))
  where
    one : (b : Bool) → cons_option (cond b (Some (f x)) None)
        (filter_map (λ n. cond (t n) (Some (f n)) None) xs) ≡ cond b (f x ∷ filter_map
        (λ n. cond (t n) (Some (f n)) None) xs) (filter_map (λ n. cond (t n) (Some (f n)) None) xs)
    one true = refl
    one false = refl

    other : (b : Bool) → map f (cond b (x ∷ filter t xs) (filter t xs))
        ≡ cond b (f x ∷ map f (filter t xs)) (map f (filter t xs))
    other true = refl
    other false = refl

-- rows of blocks of numbers are those of all these numbers
blocks_joined : {A : Type 0} (f : ℕ → Option A) (block : ℕ → List ℕ) (ps : List ℕ) →
    flat_map (λ p. filter_map f (block p)) ps ≡ filter_map f (flat_map block ps)
blocks_joined f block [] = refl
blocks_joined f block (p ∷ ps) =
    ap (λ ys. filter_map f (block p) ++ ys) (blocks_joined f block ps)
    ∙ sym (filter_map-append f (block p) (flat_map block ps))

-- the living processes by place
accounts_are : (x : Placed) → rows_in x Accounts ≡ map (acct_row x.objects) (living x.objects)
accounts_are x =
    as_filtered (λ n. cond (lives x.objects.things.queue n) (Some (acct_row x.objects n)) None) processes
    ∙ passed_rows (lives x.objects.things.queue) (acct_row x.objects) processes

cells_are : (x : Placed) → rows_in x Cells ≡ map (cells_row x.objects) (living x.objects)
cells_are x =
    as_filtered (λ n. cond (lives x.objects.things.queue n) (Some (cells_row x.objects n)) None) processes
    ∙ passed_rows (lives x.objects.things.queue) (cells_row x.objects) processes

-- the open files by place
files_are : (x : Placed) → rows_in x Files ≡ flat_map (open_rows x.world x.objects) processes
files_are x =
    as_filtered (λ n. open_row x.world x.objects (n / 4) (n % 4)) (range_with_len 0 64)
    ∙ sym (blocks_joined (λ n. open_row x.world x.objects (n / 4) (n % 4))
    (λ p. (4 * p) ∷ (4 * p + 1) ∷ (4 * p + 2) ∷ (4 * p + 3) ∷ []) processes)

-- the grafts by place
grafts_are : (x : Placed) → rows_in x Grafts ≡ flat_map (graft_rows x.objects) processes
grafts_are x =
    as_filtered (λ n. graft_row x.objects (n / 16) (n % 16)) (range_with_len 0 256)
    ∙ sym (blocks_joined (λ n. graft_row x.objects (n / 16) (n % 16)) (λ p. map (λ pt. 16 * p + pt) points) processes)

-- the user locks by place
locks_are : (x : Placed) → rows_in x Locks ≡ filter_map (lock_row x.objects) points
locks_are x = as_filtered (lock_row x.objects) points

-- the calls by place
calls_are : (x : Placed) → rows_in x Calls ≡ filter_map (placed_call_row x) processes
calls_are x = as_filtered (placed_call_row x) processes

-- the rows of all sections, of which six are these
abbrev pub joined : Placed → (accounts cells files grafts locks calls : List RawRow) → List RawRow
joined x accounts cells files grafts locks calls =
    RawRow.Clock x.clock ∷ RawRow.Queue x.objects.things.queue ∷ (accounts ++ (cells ++ (files ++ (grafts
    ++ (map (pol_row x.objects) (0 ∷ 1 ∷ 2 ∷ [])
    ++ (RawRow.Lru (filter_map (frame_row_of x.objects) x.objects.things.cache.lru) ∷ (locks
    ++ (calls ++ (flat_map (placed_level_rows x) processes ++ (flat_map (placed_undo_rows x) processes ++ []))))))))))

-- as sections
joined_sections : (x : Placed) → rows_of x sections ≡ joined x (rows_in x Accounts)
    (rows_in x Cells) (rows_in x Files) (rows_in x Grafts) (rows_in x Locks) (rows_in x Calls)
joined_sections x = refl

-- nine lists
grouped : {A : Type 0} (a b c d e f g h k : List A) → a ++ (b
    ++ (c ++ (d ++ (e ++ (f ++ (g ++ (h ++ k))))))) ≡ a ++ b ++ c ++ d ++ e ++ f ++ g ++ h ++ k
grouped a b c d e f g h k = simp append_assoc

-- twelve sections
regrouped : {A : Type 0} (x y z : A) (a b c d e f g h k : List A) →
    x ∷ y ∷ (a ++ (b ++ (c ++ (d ++ (e ++ (z ∷ (f ++ (g ++ (h ++ (k ++ []))))))))))
    ≡ x ∷ y ∷ a ++ b ++ c ++ d ++ e ++ z ∷ f ++ g ++ h ++ k
regrouped x y z a b c d e f g h k =
    ap (λ xs. x ∷ y ∷ xs)
    (ap (λ ks. a ++ (b ++ (c ++ (d ++ (e ++ (z ∷ (f ++ (g ++ (h ++ ks))))))))) (append-nil k)
    ∙ grouped a b c d e (z ∷ f) g h k)

-- six sections, one by one
joined_same : (x : Placed) (a b c d e f g h k m n o : List RawRow) → a ≡ g → b ≡ h → c ≡ k → d ≡ m →
    e ≡ n → f ≡ o → joined x a b c d e f ≡ joined x g h k m n o
joined_same x a b c d e f g h k m n o p q r s t u = rw (p, q, r, s, t, u) refl

-- as the rows of the kernel in place
joined_rows : (x : Placed) →
    joined x (map (acct_row x.objects) (living x.objects)) (map (cells_row x.objects)
    (living x.objects)) (flat_map (open_rows x.world x.objects) processes)
    (flat_map (graft_rows x.objects) processes)
    (filter_map (lock_row x.objects) points) (filter_map (placed_call_row x) processes) ≡ placed_rows x
joined_rows x =
    regrouped (RawRow.Clock x.clock) (RawRow.Queue x.objects.things.queue)
    (RawRow.Lru (filter_map (frame_row_of x.objects) x.objects.things.cache.lru))
    (map (acct_row x.objects) (living x.objects)) (map (cells_row x.objects) (living x.objects))
    (flat_map (open_rows x.world x.objects) processes)
    (flat_map (graft_rows x.objects) processes)
    (map (pol_row x.objects) (0 ∷ 1 ∷ 2 ∷ [])) (filter_map (lock_row x.objects) points)
    (filter_map (placed_call_row x) processes)
    (flat_map (placed_level_rows x) processes) (flat_map (placed_undo_rows x) processes)

-- the rows of all sections are those of the kernel in place
pub rows_are : (x : Placed) → rows_of x sections ≡ placed_rows x
rows_are x =
    joined_sections x
    ∙ joined_same x (rows_in x Accounts) (rows_in x Cells) (rows_in x Files) (rows_in x Grafts)
    (rows_in x Locks) (rows_in x Calls)
    (map (acct_row x.objects) (living x.objects)) (map (cells_row x.objects) (living x.objects))
    (flat_map (open_rows x.world x.objects) processes)
    (flat_map (graft_rows x.objects) processes)
    (filter_map (lock_row x.objects) points) (filter_map (placed_call_row x) processes)
    (accounts_are x) (cells_are x) (files_are x) (grafts_are x) (locks_are x) (calls_are x)
    ∙ joined_rows x
