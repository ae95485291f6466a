-- A level that begins.
use Rattle.std.proofs.Common.{◌≡◌, ℕ, ◌+◌, ◌*◌, ◌<◌, ◌≤◌, ◌&&◌, true, cond, nat_lt, List, [], ◌∷◌}
use Rattle.std.proofs.Common.{length, slice_index, Option, Some, None, arith, refl, sym, ◌∙◌, ap}
use Rattle.std.proofs.Common.{subst, ◌⊎◌}
use Rattle.std.proofs.Math.Path.{fun_ext}
use Rattle.kernel_model.specs.declared.FrameRow.{FrameRow}
use Rattle.kernel_model.specs.declared.Instr.{Instr}
use Rattle.kernel_model.specs.Machine.{first_machine, segment_base, fed}
use Rattle.kernel_model.specs.Objects.{Objects, Accounts, CacheValue, FrameValue}
use Rattle.kernel_model.specs.World.{Image, ImageTable}
use Rattle.kernel_model.specs.Boxed.{IsBoxed, IsInside}
use Rattle.kernel_model.specs.Locks.{LockTable}
use Rattle.kernel_model.specs.Levels.{new_level, image_of, code_in, base_of, first_segment, segment_with, keeps_in}
use Rattle.kernel_model.specs.Runs.{on_segment, segment_of}
use Rattle.graft_machine.specs.Cpu.{Cpu, machine_of, by_place}
use Rattle.kernel_state.specs.declared.Store.{Store}
use Rattle.kernel_state.specs.Table.{accounts_of}
use Rattle.kernel_state.specs.Processes.{processes_of}
use Rattle.kernel_state.specs.CacheViews.{cache_value, frame_value, frame_bytes, value_with}
use Rattle.kernel_state.specs.Sound.{StoreFits, things_with, kept_by, segment_number}
use Rattle.kernel_state.specs.Tables.{Table, segment_at}
use Rattle.std.proofs.lemmas.Bool.Decides.{nat_tests}
use Rattle.undo_calls.specs.UndoLevels.{Logged}
use Rattle.kernel_state.specs.Stores.{world_of_store, objects_with, objects_of, policies_of}
use Rattle.kernel_state.specs.Frames.{IsFrames, row_at}
use Rattle.graft_levels.specs.declared.GraftLevel.{GraftLevel}
use Rattle.graft_levels.specs.Chains.{level_in, levels_in}
use Rattle.graft_levels.specs.Calls.{AreInside, HasOtherMemory}
use Rattle.graft_levels.proofs.Feeding.{segment_is}
use Rattle.graft_levels.proofs.Memory.{same_cache, same_segment}
use Rattle.graft_levels.proofs.Views.{glued, levels_alike}

-- the level that begins, and the levels outside it
pub begun_levels : (images : ImageTable) (bytes : List ℕ) (w : Objects) (p base q pt : ℕ)
    (args feed : List ℕ) (ram mem : List ℕ) (t : LockTable) (cpu : Cpu) (gs news : List GraftLevel)
    (log more : List (List Logged)) (low : q < 16) (small : pt < 16) →
    news ≡ record {
      owner = q;
      point = pt;
      count = 0;
      args = args;
      machine = cpu;
      is_owner = low;
      is_point = small;
    } ∷ gs → more ≡ [] ∷ log → base ≡ base_of p (length gs) →
    machine_of cpu mem ≡ first_machine base args (by_place mem) →
    length bytes ≤ 4096 → length feed ≤ 512 →
    ((i : ℕ) → i < 4096 → slice_index mem (base + i) ≡ fed feed (λ k. slice_index bytes k) i) →
    ((a : ℕ) → (a < base) ⊎ (base + 4096 ≤ a) → slice_index mem a ≡ slice_index ram a) →
    ((i : ℕ) → slice_index bytes i ≡ first_segment images w q pt i) →
    levels_in p mem t news more w.things ≡ new_level images w p (length gs) q pt args feed
    (t p (length gs)) ∷ levels_in p ram t gs log w.things
begun_levels images bytes w p base q pt args feed ram mem t cpu gs news log more low small is_news
    is_more is_base begins few short same beyond first =
    let g : GraftLevel = record {
      owner = q;
      point = pt;
      count = 0;
      args = args;
      machine = cpu;
      is_owner = low;
      is_point = small;
    } in
    let l = level_in p (length gs) mem t g [] w.things in
    let segment : ℕ → ℕ = fed feed (first_segment images w q pt) in
    let memory : segment_of base (by_place mem) ≡ segment =
    segment_is mem bytes feed base few short same ∙ ap (fed feed) (fun_ext first) in
    let machine : on_segment (base_of p (length gs))
    (machine_of cpu mem) ≡ first_machine (base_of p (length gs)) args segment =
    ap (on_segment (base_of p (length gs))) begins
    ∙ ap (λ b. on_segment b (first_machine base args (by_place mem))) (sym is_base)
    ∙ ap (λ f. first_machine base args f) memory
    ∙ ap (λ b. first_machine b args segment) is_base in
    ap (λ xs. levels_in p mem t xs more w.things) is_news ∙ ap (λ xs. levels_in p mem t (g ∷ gs) xs w.things) is_more
    ∙ glued l _ (t p (length gs)) _ _ machine refl
    (levels_alike p mem ram t t gs log w.things (λ e lt. refl)
    (λ e c lt. same_segment p (length gs) e ram mem c
    (λ a out. beyond a (subst (λ b. (a < b) ⊎ (b + 4096 ≤ a)) (sym is_base) out)) lt))

-- what a segment begins as, where the image is loaded and this is kept
pub first_is : (images : ImageTable) (image : Image) (w : Objects) (q pt : ℕ) (kept : Option
    (ℕ → ℕ)) → image_of images (w.accounts.graft q pt) ≡ Some image → w.things.segment q pt ≡ kept →
    segment_with (Some image) image.keep kept ≡ first_segment images w q pt
first_is images image w q pt kept loaded is =
    ap (segment_with (Some image) image.keep) (sym is) ∙ ap (λ (o : Option Image). segment_with o
    (keeps_in o) (w.things.segment q pt)) (sym loaded)

-- what is kept for a graft at a point that there is
pub kept_within : (q pt : ℕ) (kept : Table) → q < 16 → pt < 16 →
    kept_by kept q pt ≡ segment_at kept (segment_number q pt)
kept_within q pt kept process point =
    let yes : (nat_lt q 16 && nat_lt pt 16) ≡ true = grind (arith, nat_tests, process, point) in
    ap (λ b. cond b (segment_at kept (segment_number q pt)) None) yes

-- it runs
pub begun_inside : (images : ImageTable) (image : Image) (a : Accounts) (p base q pt : ℕ)
    (args : List ℕ) (cpu : Cpu) (gs news : List GraftLevel) (low : q < 16) (small : pt < 16) →
    news ≡ record {
      owner = q;
      point = pt;
      count = 0;
      args = args;
      machine = cpu;
      is_owner = low;
      is_point = small;
    } ∷ gs → base ≡ base_of p (length gs) → IsBoxed image.code →
    ((code : List Instr) (slot : ℕ) (ram : List ℕ) → IsBoxed code → base ≡ segment_base slot →
    IsInside code slot (machine_of cpu ram)) → image_of images (a.graft q pt) ≡ Some image →
    AreInside images a p gs → AreInside images a p news
begun_inside images image a p base q pt args cpu gs news low small is_news is_base boxed inside loaded h =
    subst (AreInside images a p) (sym is_news) (
      record {
        count = omega arith;
        inside = λ ram. subst (λ c. IsInside c (4 * p + length gs) (machine_of cpu ram))
            (sym (ap code_in loaded)) (inside image.code (4 * p + length gs) ram boxed is_base);
      },
      h,
    )

-- ---- the store

-- the objects of a store, where memory has these bytes
abbrev pub objects_over : {B : Type 0} {P : _} → Store B P → List ℕ → Objects
objects_over s mem =
    objects_with (accounts_of s.accounts) (processes_of s.procs) (cache_value s.cache mem)
    (policies_of s) s.kept

-- what always holds of a store, where memory has these bytes
abbrev pub FitsOver : {B : Type 0} {P : _} → Store B P → List ℕ → Type 0
FitsOver s mem =
    StoreFits s.cache.count (world_of_store s)
    (things_with (processes_of s.procs) (cache_value s.cache mem) (policies_of s) s.kept)

-- other bytes outside the frames
pub same_objects : {B : Type 0} {P : _} (s : Store B P) (mem : List ℕ) → IsFrames s.cache →
    length s.ram ≡ 524288 → length mem ≡ 524288 →
    ((a : ℕ) → a < 262144 → slice_index mem a ≡ slice_index s.ram a) → objects_over s mem ≡ objects_of s
same_objects s mem frames size mem_size same =
    ap (λ (c : CacheValue). objects_with (accounts_of s.accounts) (processes_of s.procs) c
    (policies_of s) s.kept) (same_cache s.cache s.ram mem frames size mem_size same)

-- which holds whatever memory has: no block of a frame depends on it
pub memory_fits : {B : Type 0} {P : _} (s : Store B P) (mem : List ℕ) → FitsOver s mem
memory_fits s mem =
    let h = s.fits in
    record {
      frames = h.frames;
      some = h.some;
      most = h.most;
      directory = h.directory;
      blocks = λ f x is. by_row f x (row_at s.cache.rows f) refl is;
      files = h.files;
    }
  where
    by_row : (f : ℕ) (x : FrameValue) (r : Option FrameRow) → row_at s.cache.rows f ≡ r →
        frame_value mem f r ≡ Some x → x.block < s.size
    by_row f x None row is = absurd cc
    by_row f x (Some r) row is =
        let before = s.fits.blocks f (value_with (frame_bytes s.ram f) r) (ap (frame_value s.ram f) row) in
        let same : r.block ≡ x.block =
        ap (λ (o : Option FrameValue). elim o [ None ↦ r.block | Some y ↦ y.block ]) is in
        subst (λ n. n < s.size) same before

-- the objects of a store that is another one but for what memory has
pub over_memory : {B : Type 0} {P : _} (s u : Store B P) → HasOtherMemory s u → objects_of u ≡ objects_over s u.ram
over_memory s u rest = rw (rest.accounts, rest.procs, rest.cache, rest.shelf, rest.choice, rest.kept) refl
