-- The numbers of the point that a piece asks are in their ranges, and its arguments are words.
use Rattle.std.specs.Prelude.{◌≡◌, ℕ, zero, suc, ◌+◌, ◌-◌, ◌*◌, ◌^◌, ◌<◌, ◌≤◌, min, Bool, true}
use Rattle.std.specs.Prelude.{false, cond, ◌==◌, nat_lt, nat_le, List, [], ◌∷◌, length, filter}
use Rattle.std.specs.Prelude.{slice_index, Contains, Option, Some, None, is_some, Result, Ok, Err}
use Rattle.std.specs.List.{AllByRecursion}
use Rattle.std.proofs.Common.{arith, refl, subst}
use Rattle.std.proofs.lemmas.Bool.{ltb-true, and_parts}
use Rattle.std.proofs.lemmas.List.{length-map}
use Rattle.std.proofs.lemmas.List.Elements.{recursion_from_All, All-weaker, All-contains_itself}
use Rattle.kernel_model.specs.declared.Point.{Point}
use Rattle.kernel_model.specs.declared.OpenRow.{OpenRow}
use Rattle.kernel_model.specs.declared.FileRow.{FileRow}
use Rattle.kernel_model.specs.declared.QueueRow.{QueueRow}
use Rattle.kernel_model.specs.declared.Refusal.{Refusal}
use Rattle.kernel_model.specs.declared.Refusal.TheVariants.{BadFd, BadIndex}
use Rattle.kernel_model.specs.declared.SysCall.{SysCall}
use Rattle.kernel_model.specs.declared.SysCall.TheVariants.{Yield, Read, Write}
use Rattle.kernel_model.specs.World.{World, ImageTable, file_row, blocks_of, block_of}
use Rattle.kernel_model.specs.Objects.{Objects, PolValue}
use Rattle.kernel_model.specs.Policies.{lives, victim_key, victim_among, next_process, first_nice}
use Rattle.kernel_model.specs.Policies.{nice_of, frames_of, is_owned, ahead_default, open_blocks}
use Rattle.kernel_model.specs.Early.{refused}
use Rattle.kernel_model.specs.Needs.{owner_asked, victim_ask, fetch_ask, candidate_by}
use Rattle.kernel_model.specs.Needs.{candidate_for, frame_of_block, free_frame, file_block}
use Rattle.kernel_model.specs.Needs.{file_block_in, is_within, ahead_block, slice_ask, yield_ask}
use Rattle.kernel_model.specs.Needs.{read_ask, piece_ask}
use Rattle.kernel_model.specs.Sound.{IsSoundStore, IsSoundFile, once_if, in_queue}
use Rattle.kernel_model.specs.Laws.{IsRightPoint}
use Rattle.call_laws.specs.GrantedCalls.{PieceStands}
use Rattle.call_laws.specs.Counts.{each_counted, counted_few}
use Rattle.call_laws.specs.Granted.{granted_below}
use Rattle.call_laws.specs.Numbers.{least_holds, rows_below, next_below, owner_below}
use Rattle.call_laws.specs.Stages.{ahead_count_most}

-- ---- words

-- no words
words_none : (top i : ℕ) → 0 < top → slice_index [] i < top
words_none top i l = l

-- a list of words with one more
words_more : (top x : ℕ) (xs : List ℕ) → x < top → ((i : ℕ) → slice_index xs i < top) → (i : ℕ) →
    slice_index (x ∷ xs) i < top
words_more top x xs l rest zero = l
words_more top x xs l rest (suc i) = rest i

-- a point of four words
right_point : (q pt a b c d : ℕ) → q < 16 → pt < 16 → a < 2 ^ 32 → b < 2 ^ 32 → c < 2 ^ 32 →
    d < 2 ^ 32 →
    IsRightPoint (record { installer = q; point = pt; args = a ∷ b ∷ c ∷ d ∷ [] })
right_point q pt a b c d l m la lb lc ld =
    record {
      graft = (l, m);
      four = refl;
      words = words_more (2 ^ 32) a (b ∷ c ∷ d ∷ []) la
          (words_more (2 ^ 32) b (c ∷ d ∷ []) lb (words_more (2 ^ 32) c (d ∷ []) lc
          (words_more (2 ^ 32) d [] ld (λ i. words_none (2 ^ 32) i (omega arith)))));
    }

-- a point that is the same as a right one
right_same : (a b : Point) → IsRightPoint a → Some a ≡ Some b → IsRightPoint b
right_same a b right e = let same : a ≡ b = cc in subst IsRightPoint same right

-- ---- frames

-- what stands at most once
pub once_few : (b : Bool) → once_if b ≤ 1
once_few true = omega arith
once_few false = omega arith

-- what stands at all
once_some : (b : Bool) → 1 ≤ once_if b → b ≡ true
once_some true l = refl
once_some false l = absurd (omega arith)

-- the numbers in the order of use are below 64
frames_below : (v : World) (s : Objects) → IsSoundStore v s →
    AllByRecursion (λ (f : ℕ). f < 64) s.things.cache.lru
frames_below v s sound =
    each_counted (λ (f : ℕ). f < 64) s.things.cache.lru
    (λ f l.
    let same = sound.in_use f in
    let m = sound.frame_numbers f
    (once_some (is_some (s.things.cache.frame f)) (omega (arith, l, same))) in
    let most = sound.world.frames_most in omega (arith, m, most))

-- at most 64 frames are in use
frames_few : (v : World) (s : Objects) → IsSoundStore v s → length s.things.cache.lru ≤ 64
frames_few v s sound =
    counted_few s.things.cache.lru 64
    (λ f. let same = sound.in_use f in let l = once_few (is_some (s.things.cache.frame f)) in
    omega (arith, same, l)) (frames_below v s sound)

-- one element more, or not
filter_step : {A : Type 0} (test : Bool) (x : A) (xs : List A) (n : ℕ) → length xs ≤ n →
    length (cond test (x ∷ xs) xs) ≤ suc n
filter_step true x xs n l = omega (arith, l)
filter_step false x xs n l = omega (arith, l)

-- a filter is no longer than the list
filter_few : {A : Type 0} (test : A → Bool) (xs : List A) → length (filter test xs) ≤ length xs
filter_few test [] = omega arith
filter_few test (x ∷ xs) = filter_step (test x) x (filter test xs) (length xs) (filter_few test xs)

-- a candidate that is chosen is one of those
candidate_is : (held free x : Option ℕ) (f : ℕ) → candidate_by held free x ≡ Some f → x ≡ Some f
candidate_is None None x f e = e
candidate_is None (Some g) x f e = cc
candidate_is (Some g) free x f e = cc

-- the candidate for eviction is below 64
candidate_below : (v : World) (s : Objects) (pol : PolValue) (b f : ℕ) → IsSoundStore v s →
    candidate_for v pol s.things.cache b ≡ Some f → f < 64
candidate_below v s pol b f sound e =
    least_holds (λ (g : ℕ). g < 64) (victim_key pol s.things.cache) s.things.cache.lru f
    (frames_below v s sound)
    (candidate_is (frame_of_block s.things.cache b) (free_frame s.things.cache v.frames 0)
    (victim_among pol s.things.cache s.things.cache.lru) f e)

-- the point of a victim
victim_right : (v : World) (s : Objects) (b : ℕ) (x : Option ℕ) (a : Point) → IsSoundStore v s →
    b < 2 ^ 32 → ((f : ℕ) → x ≡ Some f → f < 64) →
    victim_ask s.things.cache b x ≡ Some a → IsRightPoint a
victim_right v s b None a sound l k e = cc
victim_right v s b (Some f) a sound l k e =
    let few = filter_few (λ g. is_owned s.things.cache (owner_asked s.things.cache f) g)
    s.things.cache.lru in
    let most = frames_few v s sound in
    let low = k f refl in
    right_same _ a
    (right_point (owner_asked s.things.cache f) 4 f b
    (length (frames_of s.things.cache (owner_asked s.things.cache f))) 0
    (owner_below v s f sound)
    (omega arith) (omega (arith, low)) l (omega (arith, few, most)) (omega arith)) e

-- the point of a fetch of a block below 2 ^ 32
fetch_right : (v : World) (s : Objects) (r : Result ℕ Refusal) (a : Point) → IsSoundStore v s →
    ((b : ℕ) → r ≡ Ok b → b < 2 ^ 32) →
    fetch_ask v s.things r ≡ Some a → IsRightPoint a
fetch_right v s (Err why) a sound k e = cc
fetch_right v s (Ok b) a sound k e =
    victim_right v s b (candidate_for v (s.things.pol 1) s.things.cache b) a sound (k b refl)
    (λ f h. candidate_below v s (s.things.pol 1) b f sound h) e

-- ---- blocks

-- this block, or a refusal
abbrev block_if : Bool → ℕ → Result ℕ Refusal
block_if test x = cond test (Ok x) (Err BadIndex)

-- a block that isn't refused lies within the file
within_step : (test : Bool) (x b : ℕ) → block_if test x ≡ Ok b → (test ≡ true) × (x ≡ b)
within_step true x b e = (refl, cc)
within_step false x b e = cc

-- a block of a file is one of the disk
file_block_in_below : (r : Option FileRow) (i off len b : ℕ) →
    ((row : FileRow) → r ≡ Some row → row.start + row.blocks ≤ 4096) →
    file_block_in r i off len ≡ Ok b → b < 4096
file_block_in_below None i off len b k e = cc
file_block_in_below (Some r) i off len b k e =
    let within = within_step (is_within r i off len) (r.start + i) b e in
    let l = ltb-true i r.blocks
    (and_parts (nat_lt i r.blocks) (nat_le (512 * i + off + len) r.length) within.0).0 in
    let same = within.1 in let most = k r refl in omega (arith, l, same, most)

-- the block of a read or a write is a word
file_block_below : (v : World) (s : Objects) (o : Option OpenRow) (i off len b : ℕ) →
    IsSoundStore v s → file_block v o i off len ≡ Ok b → b < 2 ^ 32
file_block_below v s None i off len b sound e = cc
file_block_below v s (Some o) i off len b sound e =
    let l = file_block_in_below (file_row v o.file) i off len b
    (λ r h. sound.world.files o.file r h) e in omega (arith, l)

-- a file's blocks are at most those of the disk
blocks_step : (r : Option FileRow) →
    ((row : FileRow) → r ≡ Some row → row.start + row.blocks ≤ 4096) →
    elim r as (λ _. ℕ) [ None ↦ 0 | Some row ↦ row.blocks ] ≤ 4096
blocks_step None k = omega arith
blocks_step (Some r) k = let l = k r refl in omega (arith, l)

-- of each entry
blocks_few : (v : World) (s : Objects) (n : ℕ) → IsSoundStore v s → blocks_of v n ≤ 4096
blocks_few v s n sound = blocks_step (file_row v n) (λ r e. sound.world.files n r e)

-- a block of a file that ends on the disk is one of the disk
block_step : (r : Option FileRow) (i : ℕ) →
    ((row : FileRow) → r ≡ Some row → row.start + row.blocks ≤ 4096) →
    i ≤ elim r as (λ _. ℕ) [ None ↦ 0 | Some row ↦ row.blocks ] →
    elim r as (λ _. ℕ) [ None ↦ 0 | Some row ↦ row.start + i ] ≤ 4096
block_step None i k l = omega arith
block_step (Some r) i k l = let m = k r refl in omega (arith, l, m)

-- the block that is to be read ahead next
ahead_block_below : (v : World) (s : Objects) (o : Option OpenRow) (b : ℕ) → IsSoundStore v s →
    ((r : OpenRow) → o ≡ Some r → IsSoundFile v r) →
    ahead_block v o ≡ Ok b → b < 2 ^ 32
ahead_block_below v s None b sound k e = cc
ahead_block_below v s (Some o) b sound k e =
    let same : block_of v o.file o.start ≡ b = cc in
    let file = k o refl in
    let within = file.within in
    let l = block_step (file_row v o.file) o.start (λ r h. sound.world.files o.file r h)
    (omega (arith, within)) in omega (arith, same, l)

-- ---- the processor

-- the nice of the first row is one of the rows'
nice_step : (test : Bool) (r : QueueRow) (rows : List QueueRow) → r.nice ≤ 39 →
    first_nice rows ≤ 39 → first_nice (cond test (r ∷ rows) rows) ≤ 39
nice_step true r rows l m = l
nice_step false r rows l m = m

-- the first nice of some rows is one of the rows'
nice_most : (test : QueueRow → Bool) (rows : List QueueRow) →
    AllByRecursion (λ (r : QueueRow). r.nice ≤ 39) rows → first_nice (filter test rows) ≤ 39
nice_most test [] each = omega arith
nice_most test (r ∷ rows) each =
    nice_step (test r) r (filter test rows) each.0 (nice_most test rows each.1)

-- each row's nice is at most 39
nices : (v : World) (s : Objects) → IsSoundStore v s →
    AllByRecursion (λ (r : QueueRow). r.nice ≤ 39) s.things.queue
nices v s sound =
    recursion_from_All (λ (r : QueueRow). r.nice ≤ 39) s.things.queue
    (All-weaker (Contains s.things.queue) (λ (r : QueueRow). r.nice ≤ 39) sound.nices s.things.queue
    (All-contains_itself s.things.queue))

-- what holds of the process of each row
each_process : (rows : List QueueRow) → AllByRecursion (λ (r : QueueRow). r.process < 16) rows →
    AllByRecursion (λ (p : ℕ). p < 16) (in_queue rows)
each_process [] each = tt
each_process (r ∷ rows) each = (each.0, each_process rows each.1)

-- at most 16 processes live
queue_few : (v : World) (s : Objects) → IsSoundStore v s → length s.things.queue ≤ 16
queue_few v s sound =
    let l = counted_few (in_queue s.things.queue) 16
    (λ p. let same = sound.once p in let l = once_few (lives s.things.queue p) in
    omega (arith, same, l))
    (each_process s.things.queue (rows_below s.things.queue sound.numbers)) in
    let same = length-map s.things.queue (λ (r : QueueRow). r.process) in omega (arith, l, same)

-- the point of a candidate for the processor
slice_right : (v : World) (s : Objects) (x : Option ℕ) (a : Point) → IsSoundStore v s →
    ((c : ℕ) → x ≡ Some c → c < 16) →
    slice_ask v s.things x ≡ Some a → IsRightPoint a
slice_right v s None a sound k e = cc
slice_right v s (Some c) a sound k e =
    let l = k c refl in
    let nice = nice_most (λ (r : QueueRow). r.process == c) s.things.queue (nices v s sound) in
    let few = queue_few v s sound in
    right_same _ a
    (right_point c 5 c (nice_of s.things.queue c) (length s.things.queue) 0 l (omega arith)
    (omega (arith, l)) (omega (arith, nice))
    (omega (arith, few)) (omega arith)) e

-- the point of a yield
yield_right : (n : ℕ) (v : World) (s : Objects) (a : Point) → IsSoundStore v s →
    yield_ask n v s.things ≡ Some a → IsRightPoint a
yield_right zero v s a sound e = cc
yield_right (suc n) v s a sound e =
    slice_right v s (next_process (s.things.pol 2) s.things.queue) a sound
    (λ c h. next_below v s (s.things.pol 2) c sound h) e

-- ---- reading ahead

-- the blocks of an open file are at most those of the disk
open_blocks_few : (v : World) (s : Objects) (o : Option OpenRow) → IsSoundStore v s →
    open_blocks v o ≤ 4096
open_blocks_few v s None sound = omega arith
open_blocks_few v s (Some o) sound = blocks_few v s o.file sound

-- where reading ahead starts by default
default_start_few : (v : World) (s : Objects) (pol : PolValue) (o : Option OpenRow) →
    IsSoundStore v s → (ahead_default v pol o).0 ≤ 4096
default_start_few v s pol None sound = omega arith
default_start_few v s pol (Some o) sound = let l = blocks_few v s o.file sound in omega (arith, l)

-- and by how much
default_count_few : (v : World) (pol : PolValue) (o : Option OpenRow) →
    ((r : OpenRow) → o ≡ Some r → IsSoundFile v r) → (ahead_default v pol o).1 ≤ 8
default_count_few v pol None k = omega arith
default_count_few v pol (Some o) k =
    let l = ahead_count_most pol o.seq o.window
    (blocks_of v o.file - min o.next (blocks_of v o.file)) in
    let file = k o refl in let wide = file.window in omega (arith, l, wide)

-- the point of a read
read_right : (n : ℕ) (v : World) (s : Objects) (p fd i off len : ℕ) (a : Point) → IsSoundStore v s →
    p < 16 → fd < 4 →
    read_ask n v s.things p fd i off len ≡ Some a → IsRightPoint a
read_right zero v s p fd i off len a sound l m e =
    fetch_right v s (file_block v (s.things.file p fd) i off len) a sound
    (λ b h. file_block_below v s (s.things.file p fd) i off len b sound h) e
read_right (suc zero) v s p fd i off len a sound l m e =
    let start = default_start_few v s (s.things.pol 0) (s.things.file p fd) sound in
    let count = default_count_few v (s.things.pol 0) (s.things.file p fd)
    (λ r h. (sound.files p fd r h).1) in
    let most = open_blocks_few v s (s.things.file p fd) sound in
    right_same _ a
    (right_point p fd (ahead_default v (s.things.pol 0) (s.things.file p fd)).0
    (ahead_default v (s.things.pol 0) (s.things.file p fd)).1
    (open_blocks v (s.things.file p fd)) fd l (omega (arith, m)) (omega (arith, start))
    (omega (arith, count)) (omega (arith, most)) (omega (arith, m))) e
read_right (suc (suc n)) v s p fd i off len a sound l m e =
    fetch_right v s (ahead_block v (s.things.file p fd)) a sound
    (λ b h. ahead_block_below v s (s.things.file p fd) b sound (λ r k. (sound.files p fd r k).1) h)
    e

-- the point that a piece asks is a right one
pub piece_asks_right : (v : World) (images : ImageTable) (s : Objects) (p : ℕ) (c : SysCall) (n : ℕ)
    (a : Point) → PieceStands c n v images s p →
    piece_ask c n v s.things p ≡ Some a → IsRightPoint a
piece_asks_right v images s p Yield n a c e = yield_right n v s a c.store e
piece_asks_right v images s p (Read fd i off len) n a c e =
    read_right n v s p fd i off len a c.store (c.store.numbers p c.caller)
    (granted_below (Read fd i off len) 3 fd BadFd
    (refused (nat_lt 512 (off + len)) BadIndex None) c.granted.granted) e
piece_asks_right v images s p (Write fd i off bytes) n a c e =
    fetch_right v s (file_block v (s.things.file p fd) i off (length bytes)) a c.store
    (λ b h. file_block_below v s (s.things.file p fd) i off (length bytes) b c.store h) e
piece_asks_right v images s p call n a c e = cc
