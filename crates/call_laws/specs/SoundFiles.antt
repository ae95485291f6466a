-- A store stays sound when files are opened, closed, read and written; the blocks that reads and
-- writes fetch are on the disk.
use Rattle.std.specs.Prelude.{◌≡◌, ℕ, zero, suc, ◌+◌, ◌-◌, ◌<◌, ◌≤◌, min, nat_lt, Bool, true, false}
use Rattle.std.specs.Prelude.{cond, length, List, [], ◌∷◌, Option, None, Some, is_some, Result, Ok}
use Rattle.std.specs.Prelude.{Err, slice_index, slice_index_or}
use Rattle.std.proofs.Common.{arith, refl, subst, sym, ap, ◌∙◌}
use Rattle.std.proofs.lemmas.Bool.{and_parts, ltb-true}
use Rattle.std.proofs.lemmas.Bool.Decides.{nat_tests}
use Rattle.kernel_model.specs.declared.OpenRow.{OpenRow}
use Rattle.kernel_model.specs.declared.FileRow.{FileRow}
use Rattle.kernel_model.specs.declared.Refusal.{Refusal}
use Rattle.kernel_model.specs.World.{World, Blocks, file_row, blocks_of, block_of, entry_named, file_named, same_bytes}
use Rattle.kernel_model.specs.Objects.{Objects, CacheValue, PolValue}
use Rattle.kernel_model.specs.Policies.{lives, ahead_default, ahead_count}
use Rattle.kernel_model.specs.Needs.{file_block, file_block_in, is_within, ahead_block}
use Rattle.kernel_model.specs.Needs.{candidate_for, fetch_ask, victim_ask}
use Rattle.kernel_model.specs.Fetch.{Fetched, Got, Failed, fetch, fetch_ahead, with_patch}
use Rattle.kernel_model.specs.FilePieces.{with_cache, with_file, new_file, open_piece, close_piece}
use Rattle.kernel_model.specs.FilePieces.{read_on, with_ahead, ahead_by, read_piece, read_first}
use Rattle.kernel_model.specs.FilePieces.{read_second, read_third, read_first_at, read_third_at}
use Rattle.kernel_model.specs.FilePieces.{write_fetched, write_piece, free_descriptor}
use Rattle.kernel_model.specs.Sound.{IsSoundStore, IsSoundWorld, IsSoundFile, FitsDisk}
use Rattle.kernel_model.specs.Laws.{IsRightAnswer}
use Rattle.call_laws.specs.FreeNumbers.{free_descriptor_is}
use Rattle.call_laws.specs.SoundCaches.{IsSoundCache, cache_of_store, sound_patch}
use Rattle.call_laws.specs.FetchCases.{AllGot}
use Rattle.call_laws.specs.SoundFetches.{FetchReady}
use Rattle.call_laws.specs.SoundStores.{store_with_cache, store_with_file}

-- ---- open and close

-- an entry of the directory by its name is there, and not before this number
entry_found : (name : List ℕ) (k n : ℕ) (rows : List (Option FileRow)) →
    entry_named name k rows ≡ Some n → (i : ℕ) × (n ≡ k + i)
    × (is_some (slice_index_or rows i None) ≡ true)
entry_found name k n [] h = cc
entry_found name k n (None ∷ rows) h = let a = entry_found name (suc k) n rows h in
    (suc a.0, omega arith, a.2)
entry_found name k n (Some r ∷ rows) h =
    (elim (same_bytes r.name name) as
    (λ (b : Bool). elim b as (λ (q : Bool). Option ℕ) [
      | true ↦ Some k
      | false ↦ entry_named name (suc k) rows
    ] ≡ Some n →
    (i : ℕ) × (n ≡ k + i) × (is_some (slice_index_or (Some r ∷ rows) i None) ≡ true)) [
      | true ↦ λ found. let same : k ≡ n = cc in (0, omega arith, refl)
      | false ↦ λ found. let a = entry_found name (suc k) n rows found in
          (suc a.0, omega arith, a.2)
    ]) h

-- the usable entry of a name is one
named_usable : (v : World) (name : List ℕ) (n : ℕ) → file_named v name ≡ Some n →
    is_some (file_row v n) ≡ true
named_usable v name n h =
    let a = entry_found name 0 n v.directory h in
    let same : a.0 ≡ n = omega arith in subst (λ i. is_some (file_row v i) ≡ true) same a.2

-- a file that was just opened is sound
new_file_sound : (v : World) (n : ℕ) → is_some (file_row v n) ≡ true → IsSoundFile v (new_file n)
new_file_sound v n h =
    record { usable = h; count = omega arith; within = omega arith; window = omega arith }

-- a file opened
pub open_store : (v : World) (s : Objects) (p : ℕ) (name : List ℕ) (file fd : Option ℕ)
    (blocks : Blocks) → IsSoundStore v s → lives s.things.queue p ≡ true →
    file_named v name ≡ file → free_descriptor s.things p 4 0 ≡ fd →
    IsSoundStore v (open_piece s p file fd blocks).objects
open_store v s p name None fd blocks h alive e k = h
open_store v s p name (Some n) None blocks h alive e k = h
open_store v s p name (Some n) (Some fd) blocks h alive e k =
    store_with_file v s p fd (Some (new_file n)) h alive
    (free_descriptor_is s.things p 4 0 fd k).high
    (λ o same. let one : new_file n ≡ o = cc in
    subst (λ q. IsSoundFile v q) one (new_file_sound v n (named_usable v name n e)))

-- a file closed
pub close_store : (v : World) (s : Objects) (p fd : ℕ) (o : Option OpenRow) (blocks : Blocks) →
    IsSoundStore v s → lives s.things.queue p ≡ true → fd < 4 →
    IsSoundStore v (close_piece s p fd o blocks).objects
close_store v s p fd None blocks h alive low = h
close_store v s p fd (Some o) blocks h alive low =
    store_with_file v s p fd None h alive low (λ r e. cc)

-- ---- the blocks that are fetched

-- a block of a file lies on the disk and below 4,096
pub record IsFileBlock (v : World) (b : ℕ) : Type 0 where
  pub low : b < 4096
  pub on_disk : b < v.disk_size

-- a block within a file
within_file : (v : World) (n i : ℕ) (r : FileRow) (c : CacheValue) → IsSoundWorld v → FitsDisk v c →
    file_row v n ≡ Some r → i < r.blocks → IsFileBlock v (r.start + i)
within_file v n i r c w d e low = let a = w.files n r e in let b = d.files n r e in
    record { low = omega arith; on_disk = omega arith }

-- the block of a file that holds bytes
file_block_on : (v : World) (n : ℕ) (x : Option FileRow) (i off len b : ℕ) (c : CacheValue) →
    IsSoundWorld v → FitsDisk v c → file_row v n ≡ x →
    file_block_in x i off len ≡ Ok b → IsFileBlock v b
file_block_on v n None i off len b c w d e h = cc
file_block_on v n (Some r) i off len b c w d e h =
    (elim (is_within r i off len) as (λ (t : Bool). is_within r i off len ≡ t →
    cond {A = Result ℕ Refusal} t (Ok (r.start + i)) (Err Refusal.BadIndex) ≡ Ok b →
    IsFileBlock v b) [
      | true ↦ λ test k.
          let same : r.start + i ≡ b = cc in
          subst (λ z. IsFileBlock v z) same
          (within_file v n i r c w d e
          (ltb-true i r.blocks (and_parts (nat_lt i r.blocks) _ test).0))
      | false ↦ λ test k. cc
    ]) refl h

-- the block of an open file that holds bytes
pub file_block_is : (v : World) (o : Option OpenRow) (i off len b : ℕ) (c : CacheValue) →
    IsSoundWorld v → FitsDisk v c → file_block v o i off len ≡ Ok b → IsFileBlock v b
file_block_is v None i off len b c w d h = cc
file_block_is v (Some o) i off len b c w d h =
    file_block_on v o.file (file_row v o.file) i off len b c w d refl h

-- the next block ahead
ahead_block_on : (v : World) (o : OpenRow) (x : Option FileRow) (c : CacheValue) → IsSoundWorld v →
    FitsDisk v c → IsSoundFile v o → 1 ≤ o.count → file_row v o.file ≡ x →
    IsFileBlock v (elim x as (λ (q : Option FileRow). ℕ) [ None ↦ 0 | Some r ↦ r.start + o.start ])
ahead_block_on v o None c w d h some e = let k = h.usable in let z : false ≡ true =
    sym (ap is_some e) ∙ k in cc
ahead_block_on v o (Some r) c w d h some e =
    let k = h.within in
    let size : blocks_of v o.file ≡ r.blocks =
    ap (λ (q : Option FileRow). elim q as (λ (z : Option FileRow). ℕ) [
      | None ↦ 0
      | Some y ↦ y.blocks
    ]) e in
    within_file v o.file o.start r c w d e (omega arith)

-- the next block ahead of an open file
pub ahead_block_is : (v : World) (o : OpenRow) (b : ℕ) (c : CacheValue) → IsSoundWorld v →
    FitsDisk v c → IsSoundFile v o → 1 ≤ o.count →
    ahead_block v (Some o) ≡ Ok b → IsFileBlock v b
ahead_block_is v o b c w d h some e =
    let same : block_of v o.file o.start ≡ b = cc in
    subst (λ z. IsFileBlock v z) same (ahead_block_on v o (file_row v o.file) c w d h some refl)

-- ---- answers

-- a right answer of an eviction names a frame in use
right_victim : (s : Objects) (c : CacheValue) (b : ℕ) (candidate : Option ℕ)
    (answer : Option (List ℕ)) (a : List ℕ) → IsRightAnswer s (victim_ask c b candidate) answer →
    is_some candidate ≡ true → answer ≡ Some a →
    is_some (s.things.cache.frame (slice_index a 0)) ≡ true
right_victim s c b None answer a h there e = cc
right_victim s c b (Some f) None a h there e = cc
right_victim s c b (Some f) (Some x) a h there e =
    let same : x ≡ a = cc in
    subst (λ (q : List ℕ). is_some (s.things.cache.frame (slice_index q 0)) ≡ true) same h

-- what a fetch asks for
pub fetch_ready : (v : World) (s : Objects) (p b : ℕ) (answer : Option (List ℕ)) →
    IsSoundStore v s → lives s.things.queue p ≡ true → IsFileBlock v b →
    IsRightAnswer s (fetch_ask v s.things (Ok b)) answer →
    FetchReady v s.things.queue (s.things.pol 1) p b answer s.things.cache
fetch_ready v s p b answer h alive block right = record {
  sound = cache_of_store v s h;
  some = h.world.frames_some;
  caller = alive;
  block = block.low;
  right = λ a there e. right_victim s s.things.cache b
      (candidate_for v (s.things.pol 1) s.things.cache b) answer a right there e;
}

-- ---- read

-- a store with another sound cache and open file
store_with_both : (v : World) (s : Objects) (p fd : ℕ) (row : OpenRow) (c : CacheValue) →
    IsSoundStore v s → lives s.things.queue p ≡ true → fd < 4 →
    IsSoundCache v s.things.queue c → IsSoundFile v row →
    IsSoundStore v (with_file p fd (Some row) (with_cache c s))
store_with_both v s p fd row c h alive low cache file =
    store_with_file v (with_cache c s) p fd (Some row) (store_with_cache v s c h cache) alive low
    (λ o e. let same : row ≡ o = cc in subst (λ q. IsSoundFile v q) same file)

-- the first piece of a read, once its block is fetched
first_fetched : (v : World) (s : Objects) (blocks : Blocks) (p fd i off len : ℕ) (o : OpenRow)
    (f : Fetched) → IsSoundStore v s →
    lives s.things.queue p ≡ true → fd < 4 → IsSoundFile v o →
    AllGot (λ c after. IsSoundCache v s.things.queue c) f →
    IsSoundStore v (read_first s blocks p fd i off len o f).objects
first_fetched v s blocks p fd i off len o (Failed calls) h alive low file k = h
first_fetched v s blocks p fd i off len o (Got cache after frame calls) h alive low file k =
    store_with_both v s p fd (read_on i o) cache h alive low k
    (record {
      usable = file.usable;
      count = file.count;
      within = file.within;
      window = file.window;
    })

-- a later piece of a read, once its block is fetched
third_fetched : (v : World) (s : Objects) (blocks : Blocks) (p fd i off len : ℕ) (o : OpenRow)
    (f : Fetched) → IsSoundStore v s →
    lives s.things.queue p ≡ true → fd < 4 → IsSoundFile v o → 1 ≤ o.count →
    AllGot (λ c after. IsSoundCache v s.things.queue c) f →
    IsSoundStore v (read_third s blocks p fd i off len o f).objects
third_fetched v s blocks p fd i off len o (Failed calls) h alive low file some k = h
third_fetched v s blocks p fd i off len o (Got cache after frame calls) h alive low file some k =
    let count = file.count in
    let within = file.within in
    store_with_both v s p fd (with_ahead (o.start + 1) (o.count - 1) o) cache h alive low k
    (record {
      usable = file.usable;
      count = omega arith;
      within = omega arith;
      window = file.window;
    })

-- the first piece of a read
first_store : (r : Result ℕ Refusal) (v : World) (s : Objects) (blocks : Blocks)
    (p fd i off len : ℕ) (o : OpenRow) (answer : Option (List ℕ)) (io : List Bool) →
    IsSoundStore v s → lives s.things.queue p ≡ true → fd < 4 → IsSoundFile v o →
    ((b : ℕ) → r ≡ Ok b →
    AllGot (λ c after. IsSoundCache v s.things.queue c)
    (fetch v (s.things.pol 1) p b answer s.things.cache blocks io)) →
    IsSoundStore v (read_first_at r v s blocks p fd i off len o answer io).objects
first_store (Err refusal) v s blocks p fd i off len o answer io h alive low file k = h
first_store (Ok b) v s blocks p fd i off len o answer io h alive low file k =
    first_fetched v s blocks p fd i off len o
    (fetch v (s.things.pol 1) p b answer s.things.cache blocks io) h alive low file (k b refl)

-- a later piece of a read
third_store : (r : Result ℕ Refusal) (v : World) (s : Objects) (blocks : Blocks)
    (p fd i off len : ℕ) (o : OpenRow) (answer : Option (List ℕ)) (io : List Bool) →
    IsSoundStore v s → lives s.things.queue p ≡ true → fd < 4 → IsSoundFile v o → 1 ≤ o.count →
    ((b : ℕ) → r ≡ Ok b →
    AllGot (λ c after. IsSoundCache v s.things.queue c)
    (fetch_ahead v (s.things.pol 1) p b answer s.things.cache blocks io)) →
    IsSoundStore v (read_third_at r v s blocks p fd i off len o answer io).objects
third_store (Err refusal) v s blocks p fd i off len o answer io h alive low file some k = h
third_store (Ok b) v s blocks p fd i off len o answer io h alive low file some k =
    third_fetched v s blocks p fd i off len o
    (fetch_ahead v (s.things.pol 1) p b answer s.things.cache blocks io) h alive low file some
    (k b refl)

-- how many blocks the policy reads ahead: no more than the window and what is left
ahead_count_fits : (pol : PolValue) (seq : Bool) (window left : ℕ) → window ≤ 8 →
    (ahead_count pol seq window left ≤ 8) × (ahead_count pol seq window left ≤ left)
ahead_count_fits pol seq window left h = grind (arith, nat_tests)

-- what the default reads ahead lies within the file
default_fits : (v : World) (pol : PolValue) (o : OpenRow) → IsSoundFile v o →
    ((ahead_default v pol (Some o)).1 ≤ 8)
    × ((ahead_default v pol (Some o)).0 + (ahead_default v pol (Some o)).1 ≤ blocks_of v o.file)
default_fits v pol o h =
    let k = ahead_count_fits pol o.seq o.window
    (blocks_of v o.file - min o.next (blocks_of v o.file)) h.window in (k.0, omega arith)

-- what a read is to read ahead lies within the file
ahead_fits_file : (v : World) (pol : PolValue) (o : OpenRow) (answer : Option (List ℕ)) →
    IsSoundFile v o →
    ((a : List ℕ) → answer ≡ Some a → (slice_index a 1 ≤ 8)
    × (slice_index a 0 + slice_index a 1 ≤ blocks_of v o.file)) →
    ((ahead_by answer (ahead_default v pol (Some o))).1 ≤ 8)
    × ((ahead_by answer (ahead_default v pol (Some o))).0 +
    (ahead_by answer (ahead_default v pol (Some o))).1 ≤ blocks_of v o.file)
ahead_fits_file v pol o None h right = default_fits v pol o h
ahead_fits_file v pol o (Some a) h right = right a refl

-- the second piece of a read
second_store : (v : World) (s : Objects) (blocks : Blocks) (p fd i off len : ℕ) (o : OpenRow)
    (ahead : ℕ × ℕ) → IsSoundStore v s →
    lives s.things.queue p ≡ true → fd < 4 → IsSoundFile v o →
    ahead.1 ≤ 8 → ahead.0 + ahead.1 ≤ blocks_of v o.file →
    IsSoundStore v (read_second s blocks p fd i off len o ahead).objects
second_store v s blocks p fd i off len o ahead h alive low file few within =
    store_with_file v s p fd (Some (with_ahead ahead.0 ahead.1 o)) h alive low
    (λ r e. let same : with_ahead ahead.0 ahead.1 o ≡ r = cc in
    subst (λ q. IsSoundFile v q) same (record {
      usable = file.usable;
      count = few;
      within = within;
      window = file.window;
    }))

-- what a piece of a read asks for, by its number
pub record ReadReady (n : ℕ) (v : World) (s : Objects) (blocks : Blocks) (i off len : ℕ)
    (o : OpenRow) (p : ℕ) (answer : Option (List ℕ)) (io : List Bool) : Type 0 where
  pub first : (b : ℕ) → n ≡ 0 → file_block v (Some o) i off len ≡ Ok b →
      AllGot (λ c after. IsSoundCache v s.things.queue c)
      (fetch v (s.things.pol 1) p b answer s.things.cache blocks io)
  pub second : (a : List ℕ) → n ≡ 1 → answer ≡ Some a → (slice_index a 1 ≤ 8)
      × (slice_index a 0 + slice_index a 1 ≤ blocks_of v o.file)
  pub third : (b : ℕ) → 2 ≤ n → ahead_block v (Some o) ≡ Ok b →
      AllGot (λ c after. IsSoundCache v s.things.queue c)
      (fetch_ahead v (s.things.pol 1) p b answer s.things.cache blocks io)
  pub some : 2 ≤ n → 1 ≤ o.count

-- a piece of a read
pub read_store : (n : ℕ) (v : World) (s : Objects) (blocks : Blocks) (p fd i off len : ℕ)
    (row : Option OpenRow) (answer : Option (List ℕ)) (io : List Bool) →
    IsSoundStore v s → lives s.things.queue p ≡ true → fd < 4 →
    ((o : OpenRow) → row ≡ Some o → IsSoundFile v o
    × ReadReady n v s blocks i off len o p answer io) →
    IsSoundStore v (read_piece n v s blocks p fd i off len row answer io).objects
read_store n v s blocks p fd i off len None answer io h alive low k = h
read_store zero v s blocks p fd i off len (Some o) answer io h alive low k =
    first_store (file_block v (Some o) i off len) v s blocks p fd i off len o answer io h alive low
    (k o refl).0 (λ b e. (k o refl).1.first b refl e)
read_store (suc zero) v s blocks p fd i off len (Some o) answer io h alive low k =
    let fits = ahead_fits_file v (s.things.pol 0) o answer (k o refl).0
    (λ a e. (k o refl).1.second a refl e) in
    second_store v s blocks p fd i off len o
    (ahead_by answer (ahead_default v (s.things.pol 0) (Some o))) h alive low
    (k o refl).0 fits.0 fits.1
read_store (suc (suc n)) v s blocks p fd i off len (Some o) answer io h alive low k =
    third_store (ahead_block v (Some o)) v s blocks p fd i off len o answer io h alive low
    (k o refl).0 ((k o refl).1.some (omega arith)) (λ b e. (k o refl).1.third b (omega arith) e)

-- ---- write and sync

-- a write, once its block is fetched
write_fetched_store : (v : World) (s : Objects) (blocks : Blocks) (off : ℕ) (new : List ℕ)
    (f : Fetched) → IsSoundStore v s → off + length new ≤ 512 →
    AllGot (λ c after. IsSoundCache v s.things.queue c) f →
    IsSoundStore v (write_fetched s blocks off new f).objects
write_fetched_store v s blocks off new (Failed calls) h low k = h
write_fetched_store v s blocks off new (Got cache after frame calls) h low k =
    store_with_cache v s (with_patch frame off new cache) h
    (sound_patch v s.things.queue frame off new cache k low)

-- a write
pub write_store : (r : Result ℕ Refusal) (v : World) (s : Objects) (blocks : Blocks) (p off : ℕ)
    (new : List ℕ) (answer : Option (List ℕ)) (io : List Bool) →
    IsSoundStore v s → off + length new ≤ 512 →
    ((b : ℕ) → r ≡ Ok b →
    AllGot (λ c after. IsSoundCache v s.things.queue c)
    (fetch v (s.things.pol 1) p b answer s.things.cache blocks io)) →
    IsSoundStore v (write_piece r v s blocks p off new answer io).objects
write_store (Err refusal) v s blocks p off new answer io h low k = h
write_store (Ok b) v s blocks p off new answer io h low k =
    write_fetched_store v s blocks off new
    (fetch v (s.things.pol 1) p b answer s.things.cache blocks io) h low (k b refl)
