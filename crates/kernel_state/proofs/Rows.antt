-- The rows of the frames in use, in the order of use.
use Rattle.std.proofs.Common.{◌≡◌, ℕ, ◌==◌, ◌||◌, Bool, true, false, cond, List, [], ◌∷◌, All, map}
use Rattle.std.proofs.Common.{length, option_map, Option, Some, None, refl, sym, subst, ◌∙◌, ap}
use Rattle.std.proofs.Common.{arith}
use Rattle.std.proofs.lemmas.Bool.Decides.{nat_tests}
use Rattle.std.proofs.lemmas.List.Elements.{All-nil, All-cons}
use Rattle.std.specs.List.{filter_map, cons_option, list_any}
use Rattle.std.specs.Option.{is_some}
use Rattle.kernel_data.specs.declared.FrameRow.{FrameRow}
use Rattle.kernel_data.specs.Objects.{Objects, CacheValue, PolValue}
use Rattle.kernel_data.specs.Policies.{mark_of, victim_among}
use Rattle.kernel_model.specs.RawRows.{frame_row_of}
use Rattle.graft_points.specs.Views.{MarksOf}
use Rattle.buffer_cache.specs.Frames.{Frames, row_at, in_use, uses, IsFrames}
use Rattle.kernel_state.specs.CacheViews.{frame_value, cache_value}

-- a frame in use is shown as its row
row_shown : (w : Objects) (m : List ℕ) (f : ℕ) (o : Option FrameRow) (r : FrameRow) →
    w.things.cache.frame f ≡ frame_value m f o → o ≡ Some r → r.frame ≡ f →
    frame_row_of w f ≡ Some r
row_shown w m f o r value is number =
    ap (λ x. option_map (λ (y : _). let z : FrameRow = record {
      frame = f;
      owner = y.owner;
      block = y.block;
      dirty = y.dirty;
      mark = y.mark;
    } in z) x) (value ∙ ap (frame_value m f) is)
    ∙ ap (λ n. let z : FrameRow = record {
      frame = n;
      owner = r.owner;
      block = r.block;
      dirty = r.dirty;
      mark = r.mark;
    } in Some z) (sym number)

-- rows of these frames are the shown ones
pub rows_shown : (c : Frames) (m : List ℕ) (w : Objects) (order : List ℕ) (rows : List FrameRow) →
    IsFrames c → ((f : ℕ) → w.things.cache.frame f ≡ frame_value m f (row_at c.rows f)) →
    map (λ (r : FrameRow). Some r) rows ≡ map (row_at c.rows) order → rows ≡ filter_map (frame_row_of w) order
rows_shown c m w [] [] h value is = refl
rows_shown c m w [] (r ∷ rows) h value is = absurd (cc)
rows_shown c m w (f ∷ order) [] h value is = absurd (cc)
rows_shown c m w (f ∷ order) (r ∷ rows) h value is =
    let here : row_at c.rows f ≡ Some r = cc in
    let later : map (λ (x : FrameRow). Some x) rows ≡ map (row_at c.rows) order = cc in
    ap (λ (xs : List FrameRow). r ∷ xs) (rows_shown c m w order rows h value later)
    ∙ ap (λ o. cons_option o (filter_map (frame_row_of w) order))
    (sym (row_shown w m f (row_at c.rows f) r (value f) here (h.numbered f r here)))

-- ---- the candidate for eviction

-- the rows are those of the frames in order
pub frames_are : (c : Frames) (order : List ℕ) (rows : List FrameRow) → IsFrames c →
    map (λ (r : FrameRow). Some r) rows ≡ map (row_at c.rows) order →
    map (λ (r : FrameRow). r.frame) rows ≡ order
frames_are c [] [] h is = refl
frames_are c [] (r ∷ rows) h is = absurd (cc)
frames_are c (f ∷ order) [] h is = absurd (cc)
frames_are c (f ∷ order) (r ∷ rows) h is =
    let here : row_at c.rows f ≡ Some r = cc in
    let later : map (λ (x : FrameRow). Some x) rows ≡ map (row_at c.rows) order = cc in
    ap (λ (g : ℕ). g ∷ map (λ (x : FrameRow). x.frame) rows) (h.numbered f r here)
    ∙ ap (λ (gs : List ℕ). f ∷ gs) (frames_are c order rows h later)

-- a row shows its frame
own_row : (c : Frames) (f : ℕ) (r : FrameRow) → IsFrames c → row_at c.rows f ≡ Some r → row_at c.rows r.frame ≡ Some r
own_row c f r h is = ap (row_at c.rows) (h.numbered f r is) ∙ is

-- the rows show the marks of their frames
pub marks_are : (c : Frames) (m : List ℕ) (order : List ℕ) (rows : List FrameRow) → IsFrames c →
    map (λ (r : FrameRow). Some r) rows ≡ map (row_at c.rows) order →
    All (λ (r : FrameRow). mark_of (cache_value c m) r.frame ≡ r.mark) rows
marks_are c m order [] h is = All-nil _
marks_are c m [] (r ∷ rows) h is = absurd (cc)
marks_are c m (f ∷ order) (r ∷ rows) h is =
    let here : row_at c.rows f ≡ Some r = cc in
    let later : map (λ (x : FrameRow). Some x) rows ≡ map (row_at c.rows) order = cc in
    All-cons (λ (x : FrameRow). mark_of (cache_value c m) x.frame ≡ x.mark) r rows
    (ap (λ (o : Option FrameRow). elim (frame_value m r.frame o) as (λ _. ℕ) [
      | None ↦ 0
      | Some v ↦ v.mark
    ]) (own_row c f r h here)) (marks_are c m order rows h later)

-- a frame that stands in a row is in use
pub stands_used : (c : Frames) (f : ℕ) (order : List ℕ) (rows : List FrameRow) → IsFrames c →
    map (λ (r : FrameRow). Some r) rows ≡ map (row_at c.rows) order →
    list_any (λ (r : FrameRow). r.frame == f) rows ≡ true → in_use f c ≡ true
stands_used c f order [] h is any = absurd (cc)
stands_used c f [] (r ∷ rows) h is any = absurd (cc)
stands_used c f (g ∷ order) (r ∷ rows) h is any =
    let here : row_at c.rows g ≡ Some r = cc in
    let later : map (λ (x : FrameRow). Some x) rows ≡ map (row_at c.rows) order = cc in
    elim (r.frame == f) as (λ t. (r.frame == f) ≡ t → in_use f c ≡ true) [
      | true ↦ λ e. let one : f ≡ r.frame = grind (arith, nat_tests) in
          ap (λ k. in_use k c) one ∙ ap (λ o. is_some o) (own_row c g r h here)
      | false ↦ λ e. stands_used c f order rows h later
          (ap (λ t. t || list_any (λ (x : FrameRow). x.frame == f) rows) (sym e) ∙ any)
    ] refl

-- where there are no rows no frame is in use
pub none_used : (c : Frames) (f : ℕ) (order : List ℕ) (rows : List FrameRow) → IsFrames c →
    order ≡ c.order → map (λ (r : FrameRow). Some r) rows ≡ map (row_at c.rows) order →
    length rows ≡ 0 → in_use f c ≡ false
none_used c f [] rows h same is none = unused (in_use f c) (ap (uses f) same ∙ h.once f)
  where
    unused : (t : Bool) → ◌≡◌ {A = ℕ} 0 (cond t 1 0) → t ≡ false
    unused true e = absurd (cc)
    unused false e = refl
none_used c f (g ∷ order) [] h same is none = absurd (cc)
none_used c f (g ∷ order) (r ∷ rows) h same is none = absurd (cc)

-- what a policy evicts of the rows is the candidate
pub candidate_is : (c : Frames) (m : List ℕ) (order : List ℕ) (rows slice : List FrameRow)
    (pol asked : PolValue) (f : ℕ) → IsFrames c →
    map (λ (r : FrameRow). Some r) rows ≡ map (row_at c.rows) order → slice ≡ rows → asked ≡ pol →
    ((d : CacheValue) → MarksOf d slice →
    victim_among asked d (map (λ (r : FrameRow). r.frame) slice) ≡ Some f) →
    Some f ≡ victim_among pol (cache_value c m) order
candidate_is c m order rows slice pol asked f h is same chosen answers =
    let marks : MarksOf (cache_value c m) slice = record {
      marked = subst (λ (xs : List FrameRow).
          All (λ (r : FrameRow). mark_of (cache_value c m) r.frame ≡ r.mark) xs) (sym same)
          (marks_are c m order rows h is);
    } in
    let frames : map (λ (r : FrameRow). r.frame) slice ≡ order =
    ap (λ (xs : List FrameRow). map (λ (r : FrameRow). r.frame) xs) same
    ∙ frames_are c order rows h is in
    sym (answers (cache_value c m) marks) ∙ ap (λ (xs : List ℕ). victim_among asked (cache_value c m) xs) frames
    ∙ ap (λ (p : PolValue). victim_among p (cache_value c m) order) chosen

-- and it is in use
pub evicted_used : (c : Frames) (f : ℕ) (order : List ℕ) (rows slice : List FrameRow) → IsFrames c →
    map (λ (r : FrameRow). Some r) rows ≡ map (row_at c.rows) order → slice ≡ rows →
    list_any (λ (r : FrameRow). r.frame == f) slice ≡ true → in_use f c ≡ true
evicted_used c f order rows slice h is same any =
    stands_used c f order rows h is
    (ap (λ (xs : List FrameRow). list_any (λ (r : FrameRow). r.frame == f) xs) (sym same) ∙ any)

-- no row, as its test says
pub no_rows : (rows slice : List FrameRow) (test : Bool) → slice ≡ rows →
    test ≡ (length slice == 0) → test ≡ true → length rows ≡ 0
no_rows rows slice test same is holds = ap (λ (xs : List FrameRow). length xs) (sym same) ∙ grind (arith, nat_tests)

-- where there are no rows there is no candidate
pub no_candidate : (c : Frames) (d : CacheValue) (pol : PolValue) (order : List ℕ)
    (rows : List FrameRow) → map (λ (r : FrameRow). Some r) rows ≡ map (row_at c.rows) order →
    length rows ≡ 0 → ◌≡◌ {A = Option ℕ} None (victim_among pol d order)
no_candidate c d pol [] rows is none = refl
no_candidate c d pol (f ∷ order) [] is none = absurd (cc)
no_candidate c d pol (f ∷ order) (r ∷ rows) is none = absurd (omega (arith, none))
