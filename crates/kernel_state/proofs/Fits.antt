-- What always holds of a store stays.
use Rattle.std.proofs.Common.{◌≡◌, ℕ, ◌<◌, ◌≤◌, ◌==◌, ◌&&◌, Bool, true, false, cond, List, []}
use Rattle.std.proofs.Common.{length, set, replicate, zero, suc, option_map, Option, Some, None}
use Rattle.std.proofs.Common.{IfSome, refl, arith, sym, ◌∙◌, ap, subst, inl, inr, ◌+◌}
use Rattle.std.proofs.lemmas.Bool.{cases_eq}
use Rattle.std.proofs.lemmas.List.{get_or-set_same, get_or-set_other}
use Rattle.kernel_data.specs.declared.FrameRow.{FrameRow}
use Rattle.kernel_data.specs.declared.FileRow.{FileRow}
use Rattle.kernel_data.specs.Directory.{lies_on_disk}
use Rattle.kernel_model.specs.Fetch.{new_frame}
use Rattle.buffer_cache.specs.Frames.{Frames, row_at, with_row, IsFrames}
use Rattle.process_table.specs.Processes.{Table, Processes, processes_of, opening}
use Rattle.kernel_state.specs.CacheViews.{frame_bytes, value_with, frame_value, cache_value}
use Rattle.kernel_state.specs.declared.Store.{Store}
use Rattle.kernel_data.specs.declared.OpenRow.{OpenRow}
use Rattle.kernel_data.specs.World.{World, file_row, blocks_of}
use Rattle.kernel_data.specs.Objects.{Objects, Things, CacheValue, FrameValue, at}
use Rattle.kernel_model.specs.FilePieces.{with_cache, with_file, read_on, with_ahead}
use Rattle.kernel_model.specs.Sound.{IsSoundFile}
use Rattle.graft_accounts.specs.Table.{accounts_of}
use Rattle.kernel_state.specs.Stores.{objects_of, objects_with, cache_of, policies_of}
use Rattle.kernel_state.specs.Sound.{StoreFits}

-- files and frames are the same
pub fits_same : (count : ℕ) (v : World) (w u : Things) → StoreFits count v w → u.file ≡ w.file →
    u.cache ≡ w.cache → StoreFits count v u
fits_same count v w u h file cache =
    record {
      frames = h.frames;
      some = h.some;
      most = h.most;
      directory = h.directory;
      blocks = λ f x is. h.blocks f x (ap (λ (c : CacheValue). c.frame f) (sym cache) ∙ is);
      files = λ p fd o is. h.files p fd o (ap (λ (g : ℕ → ℕ → Option OpenRow). g p fd) (sym file) ∙ is);
    }

-- an open file, where one descriptor changed
file_at : (v : World) (row : Option OpenRow) (old : Option OpenRow) (test : Bool) (o : OpenRow) →
    IfSome row (λ r. IsSoundFile v r) → ((x : OpenRow) → old ≡ Some x → IsSoundFile v x)
    → cond test row old ≡ Some o → IsSoundFile v o
file_at v None old true o new was is = absurd (cc)
file_at v (Some r) old true o new was is = let same : r ≡ o = cc in subst (λ (x : OpenRow). IsSoundFile v x) same new
file_at v row old false o new was is = was o is

-- one descriptor changes
pub fits_file : (count : ℕ) (v : World) (s t : Objects) (p fd : ℕ) (row : Option OpenRow) →
    StoreFits count v s.things → IfSome row (λ r. IsSoundFile v r) → t ≡ with_file p fd row s
    → StoreFits count v t.things
fits_file count v s t p fd row h new is =
    let after : StoreFits count v (with_file p fd row s).things =
    record {
      frames = h.frames;
      some = h.some;
      most = h.most;
      directory = h.directory;
      blocks = h.blocks;
      files = λ q l o found. file_at v row (s.things.file q l) (q == p && l == fd) o new (h.files q l) found;
    } in
    subst (λ (x : Objects). StoreFits count v x.things) (sym is) after

-- an open file that changes in place stays one of a usable file
pub changed_sound : (v : World) (change : OpenRow → OpenRow) (row : Option OpenRow) →
    ((o : OpenRow) → row ≡ Some o → IsSoundFile v (change o))
    → IfSome (option_map change row) (λ r. IsSoundFile v r)
changed_sound v change None sound = tt
changed_sound v change (Some o) sound = sound o refl

-- it was read at a block
pub read_on_sound : (v : World) (i : ℕ) (o : OpenRow) → IsSoundFile v o → IsSoundFile v (read_on i o)
read_on_sound v i o h = record { usable = h.usable; count = h.count; within = h.within; window = h.window }

-- something else is to be read ahead of it
pub ahead_sound : (v : World) (start count : ℕ) (row : Option OpenRow) (o : OpenRow) → count ≤ 8 →
    IfSome row (λ r. start + count ≤ blocks_of v r.file) → row ≡ Some o → IsSoundFile v o →
    IsSoundFile v (with_ahead start count o)
ahead_sound v start count row o few within is h =
    record {
      usable = h.usable;
      count = few;
      within = subst (λ (x : Option OpenRow). IfSome x (λ r. start + count ≤ blocks_of v r.file)) is within;
      window = h.window;
    }

-- the cache changes, and each frame's block lies on the disk
pub fits_frames : (old new : ℕ) (v : World) (w u : Things) → StoreFits old v w → new ≡ old → u.file ≡ w.file
    → ((f : ℕ) (x : FrameValue) → u.cache.frame f ≡ Some x → x.block < v.disk_size) → StoreFits new v u
fits_frames old new v w u h count file blocks =
    record {
      frames = count ∙ h.frames;
      some = h.some;
      most = h.most;
      directory = h.directory;
      blocks = blocks;
      files = λ p fd o is. h.files p fd o (ap (λ (g : ℕ → ℕ → Option OpenRow). g p fd) (sym file) ∙ is);
    }

-- a frame's block, where one frame changed
block_at : (n : ℕ) (value old : Option FrameValue) (test : Bool) (x : FrameValue) →
    ((y : FrameValue) → value ≡ Some y → y.block < n) →
    ((y : FrameValue) → old ≡ Some y → y.block < n)
    → cond test value old ≡ Some x → x.block < n
block_at n value old true x new was is = new x is
block_at n value old false x new was is = was x is

-- a frame that was just filled
new_block : (n owner block : ℕ) (bytes : List ℕ) (y : FrameValue) → block < n →
    Some (new_frame owner block bytes) ≡ Some y → y.block < n
new_block n owner block bytes y less is =
    let same : new_frame owner block bytes ≡ y = cc in subst (λ (w : FrameValue). w.block < n) same less

-- the blocks of the frames, once one was filled
pub blocks_filled : (n f owner block : ℕ) (bytes : List ℕ) (c d : CacheValue) →
    ((g : ℕ) (y : FrameValue) → c.frame g ≡ Some y → y.block < n) → block < n
    → d.frame ≡ at f (Some (new_frame owner block bytes)) c.frame → (g : ℕ) (x : FrameValue) →
    d.frame g ≡ Some x → x.block < n
blocks_filled n f owner block bytes c d was less frames g x is =
    block_at n (Some (new_frame owner block bytes)) (c.frame g) (g == f) x
    (λ y new. new_block n owner block bytes y less new) (was g)
    (ap (λ (w : ℕ → Option FrameValue). w g) (sym frames) ∙ is)

-- ---- rows that change but for their blocks

-- the block of a row
abbrev row_block : Option FrameRow → Option ℕ
row_block o = option_map (λ (r : FrameRow). r.block) o

value_block : (m : List ℕ) (g : ℕ) (o : Option FrameRow) (x : FrameValue) →
    frame_value m g o ≡ Some x → row_block o ≡ Some x.block
value_block m g None x is = absurd (cc)
value_block m g (Some r) x is = ap (λ (w : Option FrameValue). option_map (λ (v : FrameValue). v.block) w) is

block_less : (m : List ℕ) (g b n : ℕ) (o : Option FrameRow) →
    ((y : FrameValue) → frame_value m g o ≡ Some y → y.block < n) → row_block o ≡ Some b → b < n
block_less m g b n None was is = absurd (cc)
block_less m g b n (Some r) was is =
    let same : r.block ≡ b = cc in
    subst (λ k. k < n) same (was (value_with (frame_bytes m g) r) refl)

changed_block : (change : FrameRow → FrameRow) (o : Option FrameRow) →
    ((r : FrameRow) → (change r).block ≡ r.block) → row_block (option_map change o) ≡ row_block o
changed_block change None same = refl
changed_block change (Some r) same = ap (λ (b : ℕ). Some b) (same r)

row_changed : (rows : List (Option FrameRow)) (change : FrameRow → FrameRow) (f g : ℕ) →
    ((r : FrameRow) → (change r).block ≡ r.block) → f < length rows
    → row_block (row_at (set rows f (option_map change (row_at rows f))) g) ≡ row_block (row_at rows g)
row_changed rows change f g same inside =
    let o = option_map change (row_at rows f) in
    elim (cases_eq g f) [
      | inl one ↦
          ap (λ h. row_block (row_at (set rows f o) h)) one
          ∙ ap (λ (r : Option FrameRow). row_block r) (get_or-set_same rows f o None inside)
          ∙ changed_block change (row_at rows f) same
          ∙ ap (λ h. row_block (row_at rows h)) (sym one)
      | inr apart ↦ ap (λ (r : Option FrameRow). row_block r) (get_or-set_other rows f g o None apart)
    ]

-- the blocks of the frames, once one changed but for its block
pub blocks_by : (change : FrameRow → FrameRow) (c d : Frames) (m n : List ℕ) (size f : ℕ) →
    ((r : FrameRow) → (change r).block ≡ r.block) → IsFrames c → f < 64 → d ≡ with_row f change c
    → ((g : ℕ) (y : FrameValue) → (cache_value c m).frame g ≡ Some y → y.block < size) →
    (g : ℕ) (x : FrameValue) → (cache_value d n).frame g ≡ Some x → x.block < size
blocks_by change c d m n size f same h less is was g x held =
    let inside : f < length c.rows = let len = h.rows in omega arith in
    let now : row_block (row_at d.rows g) ≡ Some x.block = value_block n g (row_at d.rows g) x held in
    let here : row_block (row_at c.rows g) ≡ Some x.block =
    sym (row_changed c.rows change f g same inside)
    ∙ ap (λ (w : Frames). row_block (row_at w.rows g)) (sym is) ∙ now in
    block_less m g x.block size (row_at c.rows g) (was g) here

-- the blocks of the frames, once one became clean or dirty
pub blocks_changed : (c d : Frames) (m n : List ℕ) (size f : ℕ) (dirty : Bool) → IsFrames c →
    f < 64 → d ≡ with_row f (λ (r : FrameRow). record r { dirty = dirty }) c
    → ((g : ℕ) (y : FrameValue) → (cache_value c m).frame g ≡ Some y → y.block < size) →
    (g : ℕ) (x : FrameValue) → (cache_value d n).frame g ≡ Some x → x.block < size
blocks_changed c d m n size f dirty h less is was =
    blocks_by (λ (r : FrameRow). record r { dirty = dirty }) c d m n size f
    (λ r. refl) h less is was

-- the block of a row in use
pub row_fits : (c : Frames) (m : List ℕ) (size f : ℕ) (r : FrameRow) →
    ((g : ℕ) (y : FrameValue) → (cache_value c m).frame g ≡ Some y → y.block < size) →
    row_at c.rows f ≡ Some r → r.block < size
row_fits c m size f r was is =
    was f (value_with (frame_bytes m f) r) (ap (λ (o : Option FrameRow). frame_value m f o) is)

-- ---- a store with another cache

pub stands_so : {B : Type 0} {P : _} (s : Store B P) (c : Frames) (m : List ℕ) (x : CacheValue) → cache_value c m ≡ x
    → objects_with (accounts_of s.accounts) (processes_of s.procs) (cache_value c m) (policies_of s)
    s.kept ≡ with_cache x (objects_of s)
stands_so s c m x is =
    ap (λ (w : CacheValue). objects_with (accounts_of s.accounts)
    (processes_of s.procs) w (policies_of s) s.kept) is

-- a store with other processes
pub stands_by : {B : Type 0} {P : _} (s : Store B P) (t : Table) (x : Processes) → processes_of t ≡ x
    → objects_with (accounts_of s.accounts) (processes_of t) (cache_of s) (policies_of s) s.kept
    ≡ objects_with (accounts_of s.accounts) x (cache_of s) (policies_of s) s.kept
stands_by s t x is =
    ap (λ (w : Processes). objects_with (accounts_of s.accounts) w (cache_of s)
    (policies_of s) s.kept) is

-- ---- a store after boot

pub none_used : (n f : ℕ) → row_at (replicate n (let o : Option FrameRow = None in o)) f ≡ None
none_used zero f = refl
none_used (suc n) zero = refl
none_used (suc n) (suc f) = none_used n f

-- no frame is in use and nothing is open
pub fits_new : (v : World) (w : Things) (c : Frames) (t : Table) (m : List ℕ) →
    c ≡ record { rows = replicate 64 None; order = []; count = v.frames } → processes_of t ≡ opening
    → w.cache ≡ cache_value c m → w.file ≡ (processes_of t).file → 1 ≤ v.disk_size → v.disk_size ≤ 4096
    → ((n : ℕ) (r : FileRow) → file_row v n ≡ Some r → lies_on_disk v.disk_size r ≡ true) → StoreFits c.count v w
fits_new v w c t m frames procs cache file some most directory =
    record {
      frames = ap (λ (x : Frames). x.count) frames;
      some = some;
      most = most;
      directory = directory;
      blocks = λ f x is.
          let row : row_at c.rows f ≡ None = ap (λ (y : Frames). row_at y.rows f) frames ∙ none_used 64 f in
          let none : w.cache.frame f ≡ None = ap (λ (y : CacheValue). y.frame f) cache
          ∙ ap (λ (o : Option FrameRow). frame_value m f o) row in
          absurd (cc);
      files = λ p fd o is.
          let none : w.file p fd ≡ None = ap (λ (y : ℕ → ℕ → Option OpenRow). y p fd) file
          ∙ ap (λ (y : Processes). y.file p fd) procs in
          absurd (cc);
    }
