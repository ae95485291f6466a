-- What accessors keep sound.
use Rattle.std.specs.Prelude.{◌≡◌, ℕ, ◌<◌, ◌≤◌, ◌==◌, Bool, true, false, cond, List, [], ◌∷◌}
use Rattle.std.specs.Prelude.{slice_get, Option, Some, None, Contains, ⊤}
use Rattle.std.proofs.Common.{arith, refl, subst, sym, ap, ◌∙◌, inl, inr}
use Rattle.std.proofs.lemmas.Bool.{cases_Bool, cond-true, cond-false}
use Rattle.std.proofs.lemmas.Bool.Decides.{nat_tests}
use Rattle.std.proofs.lemmas.List.Elements.{All-contains, All-map, All-weaker, All-contains_itself}
use Rattle.kernel_model.specs.declared.Cause.TheVariants.{BadArgument, NotYours}
use Rattle.kernel_model.specs.declared.Inverse.TheVariants.{Mark}
use Rattle.kernel_model.specs.declared.QueueRow.{QueueRow}
use Rattle.kernel_model.specs.declared.OpenRow.{OpenRow}
use Rattle.kernel_model.specs.World.{World}
use Rattle.kernel_model.specs.Objects.{Objects, Accounts, Things, FrameValue, PolValue, at, at2}
use Rattle.kernel_model.specs.Policies.{lives, frames_of}
use Rattle.kernel_model.specs.Access.{Access, Gives, Changes, Refuses, Callable, CellGet, CellSet}
use Rattle.kernel_model.specs.Access.{NiceGet, NiceSet, WindowGet, WindowSet, FramesMine, FrameAt}
use Rattle.kernel_model.specs.Access.{FrameBlock, FrameMark, TuneGet, TuneSet, TakeLock, callable}
use Rattle.kernel_model.specs.Access.{access_by, early_refusal, with_nice, with_window, with_mark}
use Rattle.kernel_model.specs.Access.{with_param, set_cell, set_nice, set_window, set_mark}
use Rattle.kernel_model.specs.Access.{set_param, set_segment, own_frame, window_change}
use Rattle.kernel_model.specs.Access.{tune_change, param_top, in_range, chosen_param}
use Rattle.kernel_model.specs.Sound.{IsSoundFile, IsSoundFrame}
use Rattle.kernel_model.specs.Alike.{windowless, markless, niceless}
use Rattle.call_laws.specs.Rows.{NicesFit}
use Rattle.call_laws.specs.SoundStores.{store_with_cell, store_with_file, store_with_cache}
use Rattle.call_laws.specs.SoundStores.{store_with_policy, store_with_queue}
use Rattle.call_laws.specs.SoundCaches.{cache_of_store, sound_reframed, block_at}
use Rattle.call_laws.specs.KeepingStore.{tuned_policy}
use Rattle.kernel_laws.proofs.StoreLemmas.{found_at, segment_store}
use Rattle.kernel_laws.proofs.UndoingLemmas.{nice_count}
use Rattle.kernel_laws.specs.Soundness.{IsGraftsWork}

-- ---- ranges that early refusals keep

nice_id : (id : ℕ) → callable id ≡ NiceSet → id ≡ 3
nice_id id h = grind (arith, nat_tests)

pub window_id : (id : ℕ) → callable id ≡ WindowSet → id ≡ 5
window_id id h = grind (arith, nat_tests)

mark_id : (id : ℕ) → callable id ≡ FrameMark → id ≡ 9
mark_id id h = grind (arith, nat_tests)

pub tune_id : (id : ℕ) → callable id ≡ TuneSet → id ≡ 11
tune_id id h = grind (arith, nat_tests)

nice_range : (highest r0 r1 q : ℕ) → early_refusal highest 3 r0 r1 q ≡ None → r0 ≤ 39
nice_range highest r0 r1 q h = grind (arith, nat_tests)

window_range : (highest r0 r1 q : ℕ) → early_refusal highest 5 r0 r1 q ≡ None → (r0 < 4) × (r1 ≤ 8)
window_range highest r0 r1 q h = (grind (arith, nat_tests), grind (arith, nat_tests))

mark_range : (highest r0 r1 q : ℕ) → early_refusal highest 9 r0 r1 q ≡ None → r1 ≤ 255
mark_range highest r0 r1 q h = grind (arith, nat_tests)

pub tune_range : (highest r0 r1 q : ℕ) → early_refusal highest 11 r0 r1 q ≡ None → r0 < 3
tune_range highest r0 r1 q h = grind (arith, nat_tests)

-- ---- the queue

-- who lives where a nice changed
nice_lives : (p n : ℕ) (rows : List QueueRow) (q : ℕ) → lives (with_nice p n rows) q ≡ lives rows q
nice_lives p n [] q = refl
nice_lives p n (r ∷ rows) q = grind (arith, nat_tests, nice_lives p n rows q)

-- a row with another nice
row_nice : (p n : ℕ) (r : QueueRow) → n ≤ 39 → r.nice ≤ 39 → (cond (r.process == p) (record r { nice = n }) r).nice ≤ 39
row_nice p n r low h = grind (arith, nat_tests)

-- nices stay in their range
nice_fits : (p n : ℕ) (rows : List QueueRow) → n ≤ 39 → NicesFit rows → NicesFit (with_nice p n rows)
nice_fits p n rows low h x c =
    All-contains (λ (y : QueueRow). y.nice ≤ 39) (with_nice p n rows) x
    (All-map (λ (y : QueueRow). y.nice ≤ 39) (λ (r : QueueRow). cond (r.process == p) (record r { nice = n }) r) rows
    (All-weaker (Contains rows) (λ (r : QueueRow). (cond (r.process == p) (record r { nice = n }) r).nice ≤ 39)
    (λ r k. row_nice p n r low (h r k)) rows (All-contains_itself rows))) c

-- nothing but nices changed
pub nice_alike : (p n : ℕ) (rows : List QueueRow) → niceless (with_nice p n rows) ≡ niceless rows
nice_alike p n [] = refl
nice_alike p n (r ∷ rows) = grind (arith, nat_tests, nice_alike p n rows)

-- ---- files, frames, policies

-- an open file with another window
window_sound : (v : World) (n : ℕ) (x o : OpenRow) → IsSoundFile v x → n ≤ 8 →
    with_window n (Some x) ≡ Some o → IsSoundFile v o
window_sound v n x o h low e =
    subst (λ (y : Option OpenRow). elim y as (λ _. Type 0) [ None ↦ ⊤ | Some z ↦ IsSoundFile v z ]) e
    (record { usable = h.usable; count = h.count; within = h.within; window = low })

-- the changed window is left out
pub window_alike : (q fd n p l : ℕ) (f : ℕ → ℕ → Option OpenRow) →
    windowless (at2 q fd (with_window n (f q fd)) f p l) ≡ windowless (f p l)
window_alike q fd n p l f = elim (found_at q fd p l (with_window n (f q fd)) f) [
  | inl a ↦ ap windowless a.2 ∙ same_windowless (f q fd)
      ∙ ap windowless (ap (λ i. f i fd) (sym a.0) ∙ ap (f p) (sym a.1))
  | inr a ↦ ap windowless a
]
  where
    same_windowless : (o : Option OpenRow) → windowless (with_window n o) ≡ windowless o
    same_windowless None = refl
    same_windowless (Some o) = refl

-- a changed mark leaves the block
mark_block : (n : ℕ) (o : Option FrameValue) → block_at (with_mark n o) ≡ block_at o
mark_block n None = refl
mark_block n (Some x) = refl

mark_blocks : (f n g : ℕ) (frame : ℕ → Option FrameValue) →
    block_at (at f (with_mark n (frame f)) frame g) ≡ block_at (frame g)
mark_blocks f n g frame = elim (cases_Bool (g == f)) [
  | inl e ↦ ap block_at (cond-true (g == f) (with_mark n (frame f)) (frame g) e)
      ∙ mark_block n (frame f) ∙ ap (λ i. block_at (frame i)) (sym (same_number g f e))
  | inr e ↦ ap block_at (cond-false (g == f) (with_mark n (frame f)) (frame g) e)
]
  where
    same_number : (g f : ℕ) → (g == f) ≡ true → g ≡ f
    same_number g f e = grind (arith, nat_tests)

-- a frame with another mark
mark_sound : (queue : List QueueRow) (n : ℕ) (o : Option FrameValue) (x : FrameValue) →
    ((y : FrameValue) → o ≡ Some y → IsSoundFrame queue y) → n ≤ 255 →
    with_mark n o ≡ Some x → IsSoundFrame queue x
mark_sound queue n None x h low e = absurd (none_some x e)
  where
    none_some : (x : FrameValue) → None ≡ Some x → ⊥
    none_some x e = cc
mark_sound queue n (Some y) x h low e =
    let k = h y refl in
    subst (λ (z : Option FrameValue). elim z as (λ _. Type 0) [ None ↦ ⊤ | Some u ↦ IsSoundFrame queue u ]) e
    (record { owner = k.owner; block = k.block; mark = low; bytes = k.bytes })

-- a frame at a changed place
mark_found : (queue : List QueueRow) (f n g : ℕ) (frame : ℕ → Option FrameValue) (x : FrameValue) →
    ((h : ℕ) (y : FrameValue) → frame h ≡ Some y → IsSoundFrame queue y) → n ≤ 255 →
    at f (with_mark n (frame f)) frame g ≡ Some x → IsSoundFrame queue x
mark_found queue f n g frame x h low e = elim (cases_Bool (g == f)) [
  | inl same ↦ mark_sound queue n (frame f) x (h f) low
      (sym (cond-true (g == f) (with_mark n (frame f)) (frame g) same) ∙ e)
  | inr other ↦ h g x (sym (cond-false (g == f) (with_mark n (frame f)) (frame g) other) ∙ e)
]

-- nothing but marks changed
pub mark_alike : (f n g : ℕ) (frame : ℕ → Option FrameValue) →
    markless (at f (with_mark n (frame f)) frame g) ≡ markless (frame g)
mark_alike f n g frame = elim (cases_Bool (g == f)) [
  | inl e ↦ ap markless (cond-true (g == f) (with_mark n (frame f)) (frame g) e)
      ∙ same_markless (frame f) ∙ ap (λ i. markless (frame i)) (sym (same_number g f e))
  | inr e ↦ ap markless (cond-false (g == f) (with_mark n (frame f)) (frame g) e)
]
  where
    same_markless : (o : Option FrameValue) → markless (with_mark n o) ≡ markless o
    same_markless None = refl
    same_markless (Some x) = refl

    same_number : (g f : ℕ) → (g == f) ≡ true → g ≡ f
    same_number g f e = grind (arith, nat_tests)

-- nothing but parameters changed
pub param_alike : (kind n k : ℕ) (pol : ℕ → PolValue) →
    (at kind (with_param n (pol kind)) pol k).chosen ≡ (pol k).chosen
param_alike kind n k pol = grind (arith, nat_tests)

-- ---- accessors

-- what a change leaves is a graft's work
abbrev pub LeavesWork : World → Objects → Accounts → Access → Type 0
LeavesWork v s a (Gives result) = ⊤
LeavesWork v s a (Changes result i u) = IsGraftsWork v s a u
LeavesWork v s a (Refuses cause) = ⊤

module _ (v : World) (s : Objects) (a : Accounts) where
  cell_work : (q k x : ℕ) (w : Things) → IsGraftsWork v s a w → lives w.queue q ≡ true →
      IsGraftsWork v s a (set_cell q k x w)
  cell_work q k x w h alive =
      let l = h.alike in
      record {
        store = store_with_cell v (record { accounts = a; things = w }) q k x h.store alive;
        alike =
            record {
              files = l.files;
              queue = l.queue;
              handlers = l.handlers;
              lru = l.lru;
              frames = l.frames;
              locks = l.locks;
              policies = l.policies;
            };
      }

  nice_work : (q n : ℕ) (w : Things) → IsGraftsWork v s a w → n ≤ 39 → IsGraftsWork v s a (set_nice q n w)
  nice_work q n w h low =
      let l = h.alike in
      record {
        store = store_with_queue v (record { accounts = a; things = w }) (with_nice q n w.queue) h.store
            (record {
              living = nice_lives q n w.queue;
              count = nice_count q n w.queue;
              nices = nice_fits q n w.queue low h.store.nices;
            });
        alike =
            record {
              files = l.files;
              queue = l.queue ∙ sym (nice_alike q n w.queue);
              handlers = l.handlers;
              lru = l.lru;
              frames = l.frames;
              locks = l.locks;
              policies = l.policies;
            };
      }

  window_work : (q fd n : ℕ) (o : OpenRow) (w : Things) → IsGraftsWork v s a w →
      lives w.queue q ≡ true → fd < 4 → n ≤ 8 → w.file q fd ≡ Some o →
      IsGraftsWork v s a (set_window q fd n w)
  window_work q fd n o w h alive few low e =
      let l = h.alike in
      record {
        store =
            store_with_file v (record { accounts = a; things = w }) q fd
            (with_window n (w.file q fd)) h.store alive few
            (λ x k. window_sound v n o x (h.store.files q fd o e).1 low (ap (with_window n) (sym e) ∙ k));
        alike = record {
          files = λ p i. l.files p i ∙ sym (window_alike q fd n p i w.file);
          queue = l.queue;
          handlers = l.handlers;
          lru = l.lru;
          frames = l.frames;
          locks = l.locks;
          policies = l.policies;
        };
      }

  mark_work : (f n : ℕ) (w : Things) → IsGraftsWork v s a w → n ≤ 255 → IsGraftsWork v s a (set_mark f n w)
  mark_work f n w h low =
      let l = h.alike in
      record {
        store =
            store_with_cache v (record { accounts = a; things = w })
            (record (w.cache) { frame = at f (with_mark n (w.cache.frame f)) w.cache.frame })
            h.store
            (sound_reframed v w.queue w.queue w.cache (at f (with_mark n (w.cache.frame f))
            w.cache.frame) (cache_of_store v (record { accounts = a; things = w }) h.store)
            (λ g. mark_blocks f n g w.cache.frame)
            (λ g x e. mark_found w.queue f n g w.cache.frame x h.store.frames low e));
        alike = record {
          files = l.files;
          queue = l.queue;
          handlers = l.handlers;
          lru = l.lru;
          frames = λ g. l.frames g ∙ sym (mark_alike f n g w.cache.frame);
          locks = l.locks;
          policies = l.policies;
        };
      }

  param_work : (kind k n : ℕ) (w : Things) → IsGraftsWork v s a w → kind < 3 →
      in_range (param_top kind (w.pol kind).chosen) k n ≡ true →
      IsGraftsWork v s a (set_param kind n w)
  param_work kind k n w h few fits =
      let l = h.alike in
      record {
        store = store_with_policy v (record { accounts = a; things = w }) kind (with_param n (w.pol kind)) h.store
            (tuned_policy kind k n (w.pol kind) (h.store.policies kind few) fits);
        alike = record {
          files = l.files;
          queue = l.queue;
          handlers = l.handlers;
          lru = l.lru;
          frames = l.frames;
          locks = l.locks;
          policies = λ i. l.policies i ∙ sym (param_alike kind n i w.pol);
        };
      }

  -- another segment is kept
  pub segment_work : (q pt : ℕ) (bytes : Option (ℕ → ℕ)) (w : Things) → IsGraftsWork v s a w →
      q < 16 → pt < 16 → IsGraftsWork v s a (set_segment q pt bytes w)
  segment_work q pt bytes w h process point =
      let l = h.alike in
      record {
        store = segment_store v (record { accounts = a; things = w }) q pt bytes h.store process point;
        alike =
            record {
              files = l.files;
              queue = l.queue;
              handlers = l.handlers;
              lru = l.lru;
              frames = l.frames;
              locks = l.locks;
              policies = l.policies;
            };
      }

  gives_work : (o : Option OpenRow) (id : ℕ) →
      LeavesWork v s a (elim o as (λ _. Access) [ None ↦ Refuses (BadArgument id) | Some r ↦ Gives r.window ])
  gives_work None id = tt
  gives_work (Some r) id = tt

  frame_work : (f : Option ℕ) (id : ℕ) → LeavesWork v s a
      (elim f as (λ _. Access) [ None ↦ Refuses (BadArgument id) | Some x ↦ Gives x ])
  frame_work None id = tt
  frame_work (Some x) id = tt

  windows_work : (o : Option OpenRow) (id fd n q : ℕ) (w : Things) → IsGraftsWork v s a w →
      lives w.queue q ≡ true → fd < 4 → n ≤ 8 → w.file q fd ≡ o →
      LeavesWork v s a (window_change id fd n q o w)
  windows_work None id fd n q w h alive few low e = tt
  windows_work (Some o) id fd n q w h alive few low e = window_work q fd n o w h alive few low e

  block_by : (b : Bool) (id : ℕ) (f : FrameValue) → LeavesWork v s a (cond b (Gives f.block) (Refuses (NotYours id)))
  block_by true id f = tt
  block_by false id f = tt

  block_work : (o : Option FrameValue) (id q : ℕ) → LeavesWork v s a (own_frame id q o (λ f. Gives f.block))
  block_work None id q = tt
  block_work (Some f) id q = block_by (f.owner == q) id f

  mark_by : (b : Bool) (id f n : ℕ) (x : FrameValue) (w : Things) → IsGraftsWork v s a w → n ≤ 255 →
      LeavesWork v s a (cond b (Changes x.mark (Mark f x.mark) (set_mark f n w)) (Refuses (NotYours id)))
  mark_by true id f n x w h low = mark_work f n w h low
  mark_by false id f n x w h low = tt

  marks_work : (o : Option FrameValue) (id q f n : ℕ) (w : Things) → IsGraftsWork v s a w → n ≤ 255 →
      LeavesWork v s a (own_frame id q o (λ x. Changes x.mark (Mark f x.mark) (set_mark f n w)))
  marks_work None id q f n w h low = tt
  marks_work (Some x) id q f n w h low = mark_by (x.owner == q) id f n x w h low

  tells_work : (b : Bool) (id x : ℕ) → LeavesWork v s a (cond b (Gives x) (Refuses (BadArgument id)))
  tells_work true id x = tt
  tells_work false id x = tt

  params_work : (b : Bool) (id kind k n : ℕ) (w : Things) →
      in_range (param_top kind (w.pol kind).chosen) k n ≡ b → IsGraftsWork v s a w → kind < 3 →
      LeavesWork v s a (cond b (tune_change kind k n (chosen_param (w.pol kind)) w) (Refuses (BadArgument id)))
  params_work true id kind k n w e h few = param_work kind k n w h few e
  params_work false id kind k n w e h few = tt

  -- what an accessor of a living process leaves, which isn't refused by its arguments
  pub access_work : (c : Callable) (highest id r0 r1 r2 q : ℕ) (w : Things) → callable id ≡ c →
      IsGraftsWork v s a w → lives w.queue q ≡ true →
      early_refusal highest id r0 r1 q ≡ None → LeavesWork v s a (access_by c id r0 r1 r2 q w)
  access_work CellGet highest id r0 r1 r2 q w e h alive early = tt
  access_work CellSet highest id r0 r1 r2 q w e h alive early = cell_work q r0 r1 w h alive
  access_work NiceGet highest id r0 r1 r2 q w e h alive early = tt
  access_work NiceSet highest id r0 r1 r2 q w e h alive early =
      nice_work q r0 w h (nice_range highest r0 r1 q
      (ap (λ i. early_refusal highest i r0 r1 q) (sym (nice_id id e)) ∙ early))
  access_work WindowGet highest id r0 r1 r2 q w e h alive early = gives_work (w.file q r0) id
  access_work WindowSet highest id r0 r1 r2 q w e h alive early =
      let range = window_range highest r0 r1 q
      (ap (λ i. early_refusal highest i r0 r1 q) (sym (window_id id e)) ∙ early) in
      windows_work (w.file q r0) id r0 r1 q w h alive range.0 range.1 refl
  access_work FramesMine highest id r0 r1 r2 q w e h alive early = tt
  access_work FrameAt highest id r0 r1 r2 q w e h alive early = frame_work (slice_get (frames_of w.cache q) r0) id
  access_work FrameBlock highest id r0 r1 r2 q w e h alive early = block_work (w.cache.frame r0) id q
  access_work FrameMark highest id r0 r1 r2 q w e h alive early =
      marks_work (w.cache.frame r0) id q r0 r1 w h (mark_range highest r0 r1 q
      (ap (λ i. early_refusal highest i r0 r1 q) (sym (mark_id id e)) ∙ early))
  access_work TuneGet highest id r0 r1 r2 q w e h alive early =
      tells_work (in_range (param_top r0 (w.pol r0).chosen) r1 0) id (chosen_param (w.pol r0))
  access_work TuneSet highest id r0 r1 r2 q w e h alive early =
      params_work (in_range (param_top r0 (w.pol r0).chosen) r1 r2) id r0 r1 r2 w refl h
      (tune_range highest r0 r1 q (ap (λ i. early_refusal highest i r0 r1 q) (sym (tune_id id e)) ∙ early))
  access_work TakeLock highest id r0 r1 r2 q w e h alive early = tt
