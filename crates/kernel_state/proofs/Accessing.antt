-- What the accessors of grafts look at and change.
use Rattle.std.proofs.Common.{◌≡◌, ℕ, ◌≤◌, ◌==◌, ◌||◌, Bool, true, false}
use Rattle.std.proofs.Common.{cond, List, [], ◌∷◌, length, map, filter, Option, Some}
use Rattle.std.proofs.Common.{None, nat_le, refl, arith, sym, ◌∙◌, ap}
use Rattle.std.specs.List.{list_any, list_all}
use Rattle.std.specs.Option.{is_some}
use Rattle.std.proofs.lemmas.Bool.Decides.{nat_tests}
use Rattle.std.proofs.lemmas.List.{get_or_past}
use Rattle.kernel_data.specs.declared.FrameRow.{FrameRow}
use Rattle.kernel_data.specs.declared.QueueRow.{QueueRow}
use Rattle.kernel_data.specs.Objects.{CacheValue}
use Rattle.kernel_data.specs.Policies.{lives, nice_of, first_nice, is_owned, frames_of}
use Rattle.kernel_model.specs.Access.{with_nice}
use Rattle.buffer_cache.specs.Frames.{Frames, row_at, in_use, IsFrames}

-- ---- nices

-- where all nices are at most 39, that of a process is
pub nice_below : (rows : List QueueRow) (p : ℕ) →
    list_all (λ (r : QueueRow). nat_le r.nice 39) rows ≡ true → nice_of rows p ≤ 39
nice_below [] p h = omega arith
nice_below (r ∷ rows) p h = by_case (r.process == p) (nice_below rows p (later h))
  where
    later : list_all (λ (x : QueueRow). nat_le x.nice 39) (r ∷ rows) ≡ true →
        list_all (λ (x : QueueRow). nat_le x.nice 39) rows ≡ true
    later all = grind (arith, nat_tests, all)

    here : r.nice ≤ 39
    here = grind (arith, nat_tests, h)

    by_case : (b : Bool) → nice_of rows p ≤ 39 →
        first_nice (cond b (r ∷ filter (λ (x : QueueRow). x.process == p) rows)
        (filter (λ (x : QueueRow). x.process == p) rows)) ≤ 39
    by_case true rest = here
    by_case false rest = rest

-- a row with another nice is of its process
same_process : (b : Bool) (r : QueueRow) (v q : ℕ) →
    ((cond b (record r { nice = v }) r).process == q) ≡ (r.process == q)
same_process true r v q = refl
same_process false r v q = refl

pub lives_nice : (p v q : ℕ) (rows : List QueueRow) → lives (with_nice p v rows) q ≡ lives rows q
lives_nice p v q [] = refl
lives_nice p v q (r ∷ rows) =
    ap (λ b. b || lives (with_nice p v rows) q) (same_process (r.process == p) r v q)
    ∙ ap (λ b. (r.process == q) || b) (lives_nice p v q rows)

-- ---- frames

-- a frame that isn't in use has no row
pub no_row : (c : Frames) (f : ℕ) → in_use f c ≡ false → row_at c.rows f ≡ None
no_row c f is = go (row_at c.rows f) is
  where
    go : (o : Option FrameRow) → is_some o ≡ false → o ≡ None
    go None h = refl
    go (Some r) h = absurd (cc)

-- nor has a number that no frame has
pub row_past : (c : Frames) (f : ℕ) → IsFrames c → 64 ≤ f → row_at c.rows f ≡ None
row_past c f h le = get_or_past c.rows f None (let len = h.rows in omega arith)

-- a frame that a test lets through passes it
passes : (p : ℕ → Bool) (fs : List ℕ) (f : ℕ) → list_any (λ g. g == f) (filter p fs) ≡ true → p f ≡ true
passes p [] f h = absurd (cc)
passes p (g ∷ fs) f h = go (p g) refl (passes p fs f) h
  where
    here : (b : Bool) → (g == f) ≡ b → p g ≡ true →
        (list_any (λ k. k == f) (filter p fs) ≡ true → p f ≡ true) →
        (b || list_any (λ k. k == f) (filter p fs)) ≡ true → p f ≡ true
    here true same e later any = let one : f ≡ g = grind (arith, nat_tests, same) in ap p one ∙ e
    here false same e later any = later any

    go : (b : Bool) → p g ≡ b → (list_any (λ k. k == f) (filter p fs) ≡ true → p f ≡ true) →
        list_any (λ k. k == f) (cond b (g ∷ filter p fs) (filter p fs)) ≡ true → p f ≡ true
    go false e later any = later any
    go true e later any = here (g == f) refl e later any

any_frame : (rows : List FrameRow) (f : ℕ) → list_any (λ (r : FrameRow). r.frame == f) rows
    ≡ list_any (λ g. g == f) (map (λ (r : FrameRow). r.frame) rows)
any_frame [] f = refl
any_frame (r ∷ rows) f = ap (λ b. (r.frame == f) || b) (any_frame rows f)

-- a frame that stands in a row is of the process
pub stands_owned : (c : CacheValue) (q f : ℕ) (rows slice : List FrameRow) →
    map (λ (r : FrameRow). r.frame) rows ≡ frames_of c q → slice ≡ rows →
    list_any (λ (r : FrameRow). r.frame == f) slice ≡ true → is_owned c q f ≡ true
stands_owned c q f rows slice is same any =
    passes (λ g. is_owned c q g) c.lru f
    (ap (λ gs. list_any (λ g. g == f) gs) (sym is) ∙ sym (any_frame rows f)
    ∙ ap (λ xs. list_any (λ (r : FrameRow). r.frame == f) xs) (sym same) ∙ any)

-- where there are no rows the process has no frame
pub none_owned : (c : CacheValue) (q : ℕ) (rows : List FrameRow) →
    map (λ (r : FrameRow). r.frame) rows ≡ frames_of c q → length rows ≡ 0 → frames_of c q ≡ []
none_owned c q [] is none = sym is
none_owned c q (r ∷ rows) is none = absurd (cc)

-- ---- accessors
