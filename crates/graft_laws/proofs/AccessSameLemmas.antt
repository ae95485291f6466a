-- A plain accessor does the same on things that agree on its object.
use Rattle.std.specs.Prelude.{◌≡◌, ℕ, ◌==◌, Bool, true, false, cond, length, slice_get, Option, Some, None}
use Rattle.std.proofs.Common.{arith, refl, subst, ap}
use Rattle.std.proofs.lemmas.Bool.Decides.{nat_tests}
use Rattle.kernel_model.specs.declared.Cause.TheVariants.{BadArgument, NotYours}
use Rattle.kernel_model.specs.declared.Inverse.{Inverse}
use Rattle.kernel_model.specs.declared.Inverse.TheVariants.{Nice, Window, Mark, Tune}
use Rattle.kernel_model.specs.declared.OpenRow.{OpenRow}
use Rattle.kernel_model.specs.declared.Object.{Object}
use Rattle.kernel_model.specs.declared.Object.TheVariants.{Cell, OpenFile, Queue, Cache, Lock, Pol}
use Rattle.kernel_model.specs.Objects.{Things, FrameValue, PolValue, CacheValue, SameThing}
use Rattle.kernel_model.specs.Policies.{nice_of, frames_of}
use Rattle.kernel_model.specs.Access.{bare_found, Access, Gives, Changes, Refuses, Callable}
use Rattle.kernel_model.specs.Access.{CellGet, CellSet, NiceGet, NiceSet, WindowGet, WindowSet}
use Rattle.kernel_model.specs.Access.{FramesMine, FrameAt, FrameBlock, FrameMark, TuneGet, TuneSet}
use Rattle.kernel_model.specs.Access.{TakeLock, callable, access_by, accessed, own_frame}
use Rattle.kernel_model.specs.Access.{window_change, tune_change, set_mark, param_top, in_range}
use Rattle.kernel_model.specs.Access.{chosen_param}
use Rattle.graft_laws.proofs.ObjectLemmas.{undo_keeps}

-- the object of an accessor
abbrev pub object_of : Callable → (r0 q : ℕ) → Object
object_of CellGet r0 q = Cell q r0
object_of CellSet r0 q = Cell q r0
object_of NiceGet r0 q = Queue
object_of NiceSet r0 q = Queue
object_of WindowGet r0 q = OpenFile q r0
object_of WindowSet r0 q = OpenFile q r0
object_of FramesMine r0 q = Cache
object_of FrameAt r0 q = Cache
object_of FrameBlock r0 q = Cache
object_of FrameMark r0 q = Cache
object_of TuneGet r0 q = Pol r0
object_of TuneSet r0 q = Pol r0
object_of TakeLock r0 q = Lock r0

pub accessed_object : (id r0 q : ℕ) → (accessed id r0 q).object ≡ object_of (callable id) r0 q
accessed_object id r0 q = grind (arith, nat_tests)

-- two accessors do the same: the same result, refusal and record, and where the things before agreed, those after agree
abbrev pub DoSame : (w u : Things) → Access → Access → Type 0
DoSame w u (Gives x) (Gives y) = x ≡ y
DoSame w u (Refuses x) (Refuses y) = x ≡ y
DoSame w u (Changes x i a) (Changes y j b) = (x ≡ y) × (i ≡ j) × ((o : Object) → SameThing o w u → SameThing o a b)
DoSame w u _ _ = ⊥

module _ (w u : Things) where
  window_got : (id : ℕ) (o : Option OpenRow) →
      DoSame w u (elim o as (λ _. Access) [ None ↦ Refuses (BadArgument id) | Some r ↦ Gives r.window ])
      (elim o as (λ _. Access) [ None ↦ Refuses (BadArgument id) | Some r ↦ Gives r.window ])
  window_got id None = refl
  window_got id (Some r) = refl

  window_set : (id fd v q : ℕ) (o : Option OpenRow) →
      DoSame w u (window_change id fd v q o w) (window_change id fd v q o u)
  window_set id fd v q None = refl
  window_set id fd v q (Some r) = (refl, refl, λ o h. undo_keeps (bare_found (Window q fd v)) o w u h)

  frame_got : (id : ℕ) (f : Option ℕ) →
      DoSame w u (elim f as (λ _. Access) [ None ↦ Refuses (BadArgument id) | Some x ↦ Gives x ])
      (elim f as (λ _. Access) [ None ↦ Refuses (BadArgument id) | Some x ↦ Gives x ])
  frame_got id None = refl
  frame_got id (Some x) = refl

  block_by : (b : Bool) (id : ℕ) (f : FrameValue) → DoSame w u (cond b (Gives f.block)
      (Refuses (NotYours id))) (cond b (Gives f.block) (Refuses (NotYours id)))
  block_by true id f = refl
  block_by false id f = refl

  block_got : (id q : ℕ) (o : Option FrameValue) →
      DoSame w u (own_frame id q o (λ f. Gives f.block)) (own_frame id q o (λ f. Gives f.block))
  block_got id q None = refl
  block_got id q (Some f) = block_by (f.owner == q) id f

  mark_by : (b : Bool) (id f n : ℕ) (x : FrameValue) →
      DoSame w u (cond b (Changes x.mark (Mark f x.mark) (set_mark f n w)) (Refuses (NotYours id)))
      (cond b (Changes x.mark (Mark f x.mark) (set_mark f n u)) (Refuses (NotYours id)))
  mark_by true id f n x = (refl, refl, λ o h. undo_keeps (bare_found (Mark f n)) o w u h)
  mark_by false id f n x = refl

  mark_set : (id q f n : ℕ) (o : Option FrameValue) →
      DoSame w u (own_frame id q o (λ x. Changes x.mark (Mark f x.mark) (set_mark f n w)))
      (own_frame id q o (λ x. Changes x.mark (Mark f x.mark) (set_mark f n u)))
  mark_set id q f n None = refl
  mark_set id q f n (Some x) = mark_by (x.owner == q) id f n x

  param_got : (b : Bool) (id : ℕ) (p : PolValue) → DoSame w u (cond b (Gives (chosen_param p))
      (Refuses (BadArgument id))) (cond b (Gives (chosen_param p)) (Refuses (BadArgument id)))
  param_got true id p = refl
  param_got false id p = refl

  param_set : (b : Bool) (id kind k n : ℕ) (p : PolValue) →
      DoSame w u (cond b (tune_change kind k n (chosen_param p) w) (Refuses (BadArgument id)))
      (cond b (tune_change kind k n (chosen_param p) u) (Refuses (BadArgument id)))
  param_set true id kind k n p = (refl, refl, λ o h. undo_keeps (bare_found (Tune kind k n)) o w u h)
  param_set false id kind k n p = refl

  -- by accessors
  pub access_same : (c : Callable) (id r0 r1 r2 q : ℕ) → SameThing (object_of c r0 q) w u →
      DoSame w u (access_by c id r0 r1 r2 q w) (access_by c id r0 r1 r2 q u)
  access_same CellGet id r0 r1 r2 q h = h
  access_same CellSet id r0 r1 r2 q h =
      (h, ap (Inverse.Cell q r0) h, λ o k. undo_keeps (bare_found (Inverse.Cell q r0 r1)) o w u k)
  access_same NiceGet id r0 r1 r2 q h = ap (λ rows. nice_of rows q) h.0
  access_same NiceSet id r0 r1 r2 q h = (
    ap (λ rows. nice_of rows q) h.0,
    ap (λ rows. Nice q (nice_of rows q)) h.0,
    λ o k. undo_keeps (bare_found (Nice q r0)) o w u k,
  )
  access_same WindowGet id r0 r1 r2 q h =
      subst (λ (y : Option OpenRow). DoSame w u (access_by WindowGet id r0 r1 r2 q w)
      (elim y as (λ _. Access) [ None ↦ Refuses (BadArgument id) | Some r ↦ Gives r.window ])) h
      (window_got id (w.file q r0))
  access_same WindowSet id r0 r1 r2 q h =
      subst (λ (y : Option OpenRow). DoSame w u (access_by WindowSet id r0 r1 r2 q w)
      (window_change id r0 r1 q y u)) h (window_set id r0 r1 q (w.file q r0))
  access_same FramesMine id r0 r1 r2 q h = ap (λ c. length (frames_of c q)) h
  access_same FrameAt id r0 r1 r2 q h =
      subst (λ (y : CacheValue). DoSame w u (access_by FrameAt id r0 r1 r2 q w)
      (elim (slice_get (frames_of y q) r0) as (λ _. Access) [
        | None ↦ Refuses (BadArgument id)
        | Some f ↦ Gives f
      ])) h
      (frame_got id (slice_get (frames_of w.cache q) r0))
  access_same FrameBlock id r0 r1 r2 q h =
      subst (λ (y : CacheValue). DoSame w u (access_by FrameBlock id r0 r1 r2 q w)
      (own_frame id q (y.frame r0) (λ f. Gives f.block))) h (block_got id q (w.cache.frame r0))
  access_same FrameMark id r0 r1 r2 q h =
      subst (λ (y : CacheValue). DoSame w u (access_by FrameMark id r0 r1 r2 q w)
      (own_frame id q (y.frame r0) (λ f. Changes f.mark (Mark r0 f.mark) (set_mark r0 r1 u)))) h
      (mark_set id q r0 r1 (w.cache.frame r0))
  access_same TuneGet id r0 r1 r2 q h =
      subst (λ (y : PolValue). DoSame w u (access_by TuneGet id r0 r1 r2 q w) (cond (in_range
      (param_top r0 y.chosen) r1 0) (Gives (chosen_param y)) (Refuses (BadArgument id)))) h
      (param_got (in_range (param_top r0 (w.pol r0).chosen) r1 0) id (w.pol r0))
  access_same TuneSet id r0 r1 r2 q h =
      subst (λ (y : PolValue). DoSame w u (access_by TuneSet id r0 r1 r2 q w)
      (cond (in_range (param_top r0 y.chosen) r1 r2) (tune_change r0 r1 r2 (chosen_param y) u)
      (Refuses (BadArgument id)))) h
      (param_set (in_range (param_top r0 (w.pol r0).chosen) r1 r2) id r0 r1 r2 (w.pol r0))
  access_same TakeLock id r0 r1 r2 q h = refl
