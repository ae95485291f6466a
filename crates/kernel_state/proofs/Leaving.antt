-- What is left once a process left.
use Rattle.std.proofs.Common.{◌≡◌, ℕ, ◌<◌, ◌==◌, ◌&&◌, Bool, true, false, cond, not, List, [], ◌∷◌}
use Rattle.std.proofs.Common.{option_map, Option, Some, None, refl, sym, ◌∙◌, ap, arith}
use Rattle.std.proofs.Math.Path.{fun_ext}
use Rattle.std.proofs.Math.ListN.{get_or-map}
use Rattle.std.proofs.lemmas.Bool.Decides.{nat_tests}
use Rattle.kernel_data.specs.declared.FrameRow.{FrameRow}
use Rattle.kernel_data.specs.declared.OpenRow.{OpenRow}
use Rattle.kernel_data.specs.declared.QueueRow.{QueueRow}
use Rattle.kernel_data.specs.Objects.{Accounts, Things, CacheValue, FrameValue, PolValue}
use Rattle.kernel_data.specs.Policies.{lives}
use Rattle.kernel_data.specs.Queue.{queue_without}
use Rattle.kernel_model.specs.Pieces.{handed_over, things_without, account_closed, without_grafts}
use Rattle.kernel_data.specs.World.{World}
use Rattle.buffer_cache.specs.Frames as frames
use Rattle.buffer_cache.specs.Frames.{Frames, handed, row_at}
use Rattle.ram_space.specs.Tables.{Table}
use Rattle.process_table.specs.Processes.{Processes, without}
use Rattle.kernel_state.specs.CacheViews.{frame_value, cache_value}
use Rattle.kernel_state.specs.Stores.{objects_with}
use Rattle.kernel_state.specs.Sound.{StoreFits}

-- ---- frames

-- a frame that was handed over
value_handed : (m : List ℕ) (p q f : ℕ) (o : Option FrameRow) →
    frame_value m f (option_map (handed p q) o) ≡ handed_over p q (frame_value m f o)
value_handed m p q f None = refl
value_handed m p q f (Some r) = by_test (r.owner == p)
  where
    by_test : (t : Bool) → frame_value m f (Some (cond t (record r { owner = q }) r))
        ≡ frame_value m f (Some (record r { owner = cond t q r.owner }))
    by_test true = refl
    by_test false = refl

-- the cache whose frames were handed over
pub cache_handed : (c d : Frames) (m : List ℕ) (p q : ℕ) → d ≡ frames.handed_over p q c →
    cache_value d m ≡ record (cache_value c m) { frame = λ f. handed_over p q ((cache_value c m).frame f) }
cache_handed c d m p q is =
    ap (λ (x : Frames). cache_value x m) is
    ∙ ap (λ (g : ℕ → Option FrameValue). let x : CacheValue = record { frame = g; lru = c.order } in x)
    (fun_ext (λ f. ap (frame_value m f) (get_or-map (λ (r : Option FrameRow). option_map
    (handed p q) r) c.rows f None) ∙ value_handed m p q f (row_at c.rows f)))

-- ---- objects

-- the objects once a process left
pub objects_left : (p : ℕ) (a b : Accounts) (s t : Processes) (c d : CacheValue) (pol : ℕ →
    PolValue) (kept : Table) → b ≡ account_closed p (without_grafts p 16 a) → t ≡ without p s →
    d ≡ record c { frame = λ f. handed_over p 0 (c.frame f) } →
    objects_with b t d pol kept ≡ record {
      accounts = account_closed p (without_grafts p 16 a);
      things = things_without p (objects_with a s c pol kept).things;
    }
objects_left p a b s t c d pol kept accounts procs cache =
    ap (λ (x : Accounts). objects_with x t d pol kept) accounts
    ∙ ap (λ (x : Processes). objects_with (account_closed p (without_grafts p 16 a)) x d pol kept) procs
    ∙ ap (λ (x : CacheValue). objects_with (account_closed p (without_grafts p 16 a)) (without p s) x pol kept) cache

-- ---- who lives

pub lives_left : (p q : ℕ) (rows : List QueueRow) → lives (queue_without p rows) q ≡ (lives rows q && not (q == p))
lives_left p q [] = refl
lives_left p q (r ∷ rows) = grind (arith, nat_tests, lives_left p q rows)

-- ---- what always holds

left_block : (p n : ℕ) (o : Option FrameValue) (x : FrameValue) →
    ((y : FrameValue) → o ≡ Some y → y.block < n) → handed_over p 0 o ≡ Some x → x.block < n
left_block p n None x was is = absurd (cc)
left_block p n (Some y) x was is =
    let same : y.block ≡ x.block =
    ap (λ (z : Option FrameValue). elim z as (λ _. ℕ) [ None ↦ 0 | Some v ↦ v.block ]) is in
    let less = was y refl in omega arith

left_file : (t : Bool) (o : Option OpenRow) (x : OpenRow) → cond t None o ≡ Some x → o ≡ Some x
left_file true o x is = absurd (cc)
left_file false o x is = is

pub fits_left : (count_old count : ℕ) (v : World) (p : ℕ) (w u : Things) → StoreFits count_old v w →
    count ≡ count_old → u ≡ things_without p w → StoreFits count v u
fits_left count_old count v p w u h same is =
    record {
      frames = same ∙ h.frames;
      some = h.some;
      most = h.most;
      directory = h.directory;
      blocks =
          λ f x held. left_block p v.disk_size (w.cache.frame f) x (h.blocks f)
          (ap (λ (y : Things). y.cache.frame f) (sym is) ∙ held);
      files =
          λ q fd o opened. h.files q fd o
          (left_file (q == p) (w.file q fd) o (ap (λ (y : Things). y.file q fd) (sym is) ∙ opened));
    }
