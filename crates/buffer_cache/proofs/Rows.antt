-- What always holds of the frames.
use Rattle.std.proofs.Common.{◌≡◌, ℕ, zero, suc, ◌+◌, ◌<◌, ◌≤◌, ◌==◌, Bool, true, false, cond, not}
use Rattle.std.proofs.Common.{List, [], ◌∷◌, length, filter, map, get_or, set, replicate}
use Rattle.std.proofs.Common.{option_map, Option, Some, None, refl, arith, sym, ◌∙◌, ap, subst}
use Rattle.std.proofs.Common.{inl, inr}
use Rattle.std.specs.List.{count_by}
use Rattle.std.specs.Option.{is_some}
use Rattle.std.proofs.lemmas.Bool.{cases_lt, cases_eq}
use Rattle.std.proofs.lemmas.Bool.Decides.{nat_tests}
use Rattle.std.proofs.lemmas.List.{get_or-set_same, get_or-set_other, get_or_past, length-set, length-map}
use Rattle.std.proofs.lemmas.List.Sums.{sum_by-set, sum_by-cons, count_by-le-length}
use Rattle.kernel_data.specs.declared.FrameRow.{FrameRow}
use Rattle.buffer_cache.specs.Frames.{Frames, row_at, in_use, holds, newest, exchanged, filled}
use Rattle.buffer_cache.specs.Frames.{touched, swapped, handed, handed_over, uses, IsFrames}
use Rattle.buffer_cache.specs.BlockIndex.{IsIndex}
use Rattle.buffer_cache.proofs.Orders.{uses-newest, length-newest, uses-exchanged, exchanged-first}
use Rattle.buffer_cache.proofs.Orders.{exchanged-second, exchanged-neither, length-without}
use Rattle.buffer_cache.proofs.Orders.{uses-at}

-- how many frames are in use
abbrev used : List (Option FrameRow) → ℕ
used rows = count_by (λ (r : Option FrameRow). is_some r) rows

-- two rows are of one frame and one block, or neither is there
abbrev SameRow : Option FrameRow → Option FrameRow → Type 0
SameRow None None = Unit {0}
SameRow (Some x) (Some y) = (y.frame ≡ x.frame) × (y.block ≡ x.block)
SameRow None (Some y) = ⊥
SameRow (Some x) None = ⊥

same-in_use : (a b : Option FrameRow) → SameRow a b → is_some b ≡ is_some a
same-in_use None None same = refl
same-in_use (Some x) (Some y) same = refl
same-in_use None (Some y) same = absurd same
same-in_use (Some x) None same = absurd same

-- the other row of two that are the same
same-other : (a b : Option FrameRow) (y : FrameRow) → SameRow a b → b ≡ Some y →
    (x : FrameRow) × (a ≡ Some x) × (y.frame ≡ x.frame) × (y.block ≡ x.block)
same-other (Some x) (Some z) y same is =
    let one : z ≡ y = cc in (
      x,
      refl,
      subst (λ (w : FrameRow). w.frame ≡ x.frame) one same.0,
      subst (λ (w : FrameRow). w.block ≡ x.block) one same.1,
    )
same-other None None y same is = absurd (cc)
same-other None (Some z) y same is = absurd same
same-other (Some x) None y same is = absurd (cc)

-- rows of the same frames and blocks
pub IsFrames-same : (c : Frames) (rows : List (Option FrameRow)) → IsFrames c → length rows ≡ 64 →
    used rows ≡ used c.rows
    → ((g : ℕ) → SameRow (row_at c.rows g) (row_at rows g)) → IsFrames (record c { rows = rows })
IsFrames-same c rows h len count same =
    record {
      rows = len;
      least = h.least;
      most = h.most;
      once = λ g. rw (same-in_use (row_at c.rows g) (row_at rows g) (same g)) (h.once g);
      order = h.order ∙ sym count;
      below = λ g some. h.below g (sym (same-in_use (row_at c.rows g) (row_at rows g) (same g)) ∙ some);
      numbered =
          λ g y is. let old = same-other (row_at c.rows g) (row_at rows g) y (same g) is in
          old.2 ∙ h.numbered g old.0 old.1;
      one_frame =
          λ f g x y is-f is-g blocks.
          let old-f = same-other (row_at c.rows f) (row_at rows f) x (same f) is-f in
          let old-g = same-other (row_at c.rows g) (row_at rows g) y (same g) is-g in
          h.one_frame f g old-f.0 old-g.0 old-f.1 old-g.1 (sym old-f.3 ∙ blocks ∙ old-g.3);
    }

-- the index of rows of the same frames and blocks
pub IsIndex-same : (index : List ℕ) (old rows : List (Option FrameRow)) → IsIndex index old →
    ((g : ℕ) → SameRow (row_at old g) (row_at rows g)) → IsIndex index rows
IsIndex-same index old rows h same =
    record {
      blocks = h.blocks;
      frames = h.frames;
      below = λ f y is.
          let x = same-other (row_at old f) (row_at rows f) y (same f) is in
          subst (λ b. b < 4096) (sym x.3) (h.below f x.0 x.1);
      leads = λ f y is.
          let x = same-other (row_at old f) (row_at rows f) y (same f) is in
          subst (λ b. get_or index b 0 ≡ f) (sym x.3) (h.leads f x.0 x.1);
    }

-- a frame in use is one of the rows
pub row-inside : (rows : List (Option FrameRow)) (f : ℕ) (x : FrameRow) → row_at rows f ≡ Some x → f < length rows
row-inside rows f x is =
    elim (cases_lt f (length rows)) [
      | inl below ↦ below
      | inr past ↦ let none : row_at rows f ≡ None = get_or_past rows f None past in absurd (cc)
    ]

-- what one more row in use does to their number
used-set : (rows : List (Option FrameRow)) (f : ℕ) (r : FrameRow) → f < length rows →
    used (set rows f (Some r)) + cond (is_some (row_at rows f)) 1 0 ≡ used rows + 1
used-set rows f r below = sum_by-set (λ (o : Option FrameRow). cond (is_some o) 1 0) rows f (Some r) None below

-- rows in a `Some` are the same
some-same : (x y : FrameRow) → Some x ≡ Some y → x ≡ y
some-same x y is = cc

-- a row of the same frame and block
same-row : (a : Option FrameRow) (x y : FrameRow) → a ≡ Some x → y.frame ≡ x.frame →
    y.block ≡ x.block → SameRow a (Some y)
same-row (Some z) x y is frame block =
    let one : x ≡ z = cc in
    (subst (λ (w : FrameRow). y.frame ≡ w.frame) one frame, subst (λ (w : FrameRow). y.block ≡ w.block) one block)
same-row None x y is frame block = absurd (cc)

-- a row is the same as itself
same-self : (a : Option FrameRow) → SameRow a a
same-self None = tt
same-self (Some x) = (refl, refl)

-- one row with the same frame and block
pub set-same : (rows : List (Option FrameRow)) (f : ℕ) (x y : FrameRow) →
    row_at rows f ≡ Some x → y.frame ≡ x.frame → y.block ≡ x.block → (g : ℕ) →
    SameRow (row_at rows g) (row_at (set rows f (Some y)) g)
set-same rows f x y is frame block g =
    elim (cases_eq g f) [
      | inl one ↦
          subst (λ h. SameRow (row_at rows h) (row_at (set rows f (Some y)) h)) (sym one)
          (subst (λ o. SameRow (row_at rows f) o) (sym (get_or-set_same rows f (Some y) None
          (row-inside rows f x is))) (same-row (row_at rows f) x y is frame block))
      | inr other ↦ subst (λ o. SameRow (row_at rows g) o)
          (sym (get_or-set_other rows f g (Some y) None other)) (same-self (row_at rows g))
    ]

-- one row with the same frame and block, and what always holds of the cache
pub IsFrames-set : (c : Frames) (f : ℕ) (x y : FrameRow) → IsFrames c → row_at c.rows f ≡ Some x →
    y.frame ≡ x.frame → y.block ≡ x.block → IsFrames (record c { rows = set c.rows f (Some y) })
IsFrames-set c f x y h is frame block =
    let inside : f < length c.rows = row-inside c.rows f x is in
    let was : is_some (row_at c.rows f) ≡ true = ap (λ (o : Option FrameRow). is_some o) is in
    IsFrames-same c (set c.rows f (Some y)) h (length-set c.rows f (Some y) ∙ h.rows) (grind
    (arith, nat_tests, used-set c.rows f y inside, was)) (set-same c.rows f x y is frame block)

-- a row with another owner is the same but for the owner
handed-same : (from to : ℕ) (a : Option FrameRow) → SameRow a (option_map (handed from to) a)
handed-same from to None = tt
handed-same from to (Some x) =
    elim (x.owner == from) as (λ b. SameRow (Some x) (Some (cond b (record x { owner = to }) x)))
    [ true ↦ (refl, refl) | false ↦ (refl, refl) ]

-- rows with another owner
pub map-same : (from to : ℕ) (rows : List (Option FrameRow)) (g : ℕ) → SameRow (row_at rows g)
    (row_at (map (λ (r : Option FrameRow). option_map (handed from to) r) rows) g)
map-same from to [] g = tt
map-same from to (a ∷ rows) zero = handed-same from to a
map-same from to (a ∷ rows) (suc g) = map-same from to rows g

-- how many rows are in use once some have another owner
used-map : (from to : ℕ) (rows : List (Option FrameRow)) →
    used (map (λ (r : Option FrameRow). option_map (handed from to) r) rows) ≡ used rows
used-map from to [] = refl
used-map from to (a ∷ rows) =
    let one = λ (o : Option FrameRow). cond (is_some o) 1 0 in
    let same : is_some (option_map (handed from to) a) ≡ is_some a =
    same-in_use a (option_map (handed from to) a) (handed-same from to a) in
    sum_by-cons one (option_map (handed from to) a) (map (λ (r : Option FrameRow). option_map (handed from to) r) rows)
    ∙ ap (λ (b : Bool). cond b 1 0 + used (map (λ (r : Option FrameRow). option_map (handed from to) r) rows)) same
    ∙ ap (λ n. one a + n) (used-map from to rows) ∙ sym (sum_by-cons one a rows)

-- another owner, and what always holds of the cache
pub IsFrames-handed : (c : Frames) (from to : ℕ) → IsFrames c → IsFrames (handed_over from to c)
IsFrames-handed c from to h =
    IsFrames-same c (map (λ (r : Option FrameRow). option_map (handed from to) r) c.rows) h
    (length-map c.rows (λ (r : Option FrameRow). option_map (handed from to) r) ∙ h.rows)
    (used-map from to c.rows) (map-same from to c.rows)

-- a frame in use that is the newest, and what always holds of the cache
pub IsFrames-touched : (c : Frames) (f : ℕ) → IsFrames c → in_use f c ≡ true → IsFrames (touched f c)
IsFrames-touched c f h was =
    record {
      rows = h.rows;
      least = h.least;
      most = h.most;
      once =
          λ g. rw (uses-newest f g c.order) (elim (cases_eq g f) [
            | inl one ↦ rw one (grind (arith, nat_tests, was))
            | inr other ↦ grind (arith, nat_tests, h.once g, other)
          ]);
      order = grind (arith, nat_tests, length-newest f c.order, h.once f, h.order, was);
      below = h.below;
      numbered = h.numbered;
      one_frame = h.one_frame;
    }

-- of two frames in use the other one is in use too
exchanged-in_use : (c : Frames) (f g k : ℕ) → in_use f c ≡ true → in_use g c ≡ true →
    in_use (exchanged f g k) c ≡ in_use k c
exchanged-in_use c f g k first second =
    elim (cases_eq k f) [
      | inl one ↦ subst (λ j. in_use (exchanged f g j) c ≡ in_use j c) (sym one)
          (ap (λ j. in_use j c) (exchanged-first f g) ∙ second ∙ sym first)
      | inr other ↦
          elim (cases_eq k g) [
            | inl two ↦ subst (λ j. in_use (exchanged f g j) c ≡ in_use j c) (sym two)
                (ap (λ j. in_use j c) (exchanged-second f g) ∙ first ∙ sym second)
            | inr neither ↦ ap (λ j. in_use j c) (exchanged-neither f g k other neither)
          ]
    ]

-- two frames in use that change places, and what always holds of the cache
pub IsFrames-swapped : (c : Frames) (f g : ℕ) → IsFrames c → in_use f c ≡ true → in_use g c ≡ true →
    IsFrames (swapped f g c)
IsFrames-swapped c f g h first second =
    record {
      rows = h.rows;
      least = h.least;
      most = h.most;
      once =
          λ k. uses-exchanged f g k c.order ∙ h.once (exchanged f g k)
          ∙ ap (λ b. cond b 1 0) (exchanged-in_use c f g k first second);
      order = length-map c.order (exchanged f g) ∙ h.order;
      below = h.below;
      numbered = h.numbered;
      one_frame = h.one_frame;
    }

-- one row with the same frame and block, the index included
pub put-same : (c : Frames) (index : List ℕ) (rows : List (Option FrameRow)) (f : ℕ)
    (x y : FrameRow) → IsFrames c → IsIndex index c.rows → row_at c.rows f ≡ Some x
    → rows ≡ set c.rows f (Some y) → y.frame ≡ x.frame → y.block ≡ x.block →
    IsFrames (record c { rows = rows }) × IsIndex index rows
put-same c index rows f x y h ix is after frame block =
    subst (λ (w : List (Option FrameRow)). IsFrames (record c { rows = w }) × IsIndex index w) (sym after) (
      IsFrames-set c f x y h is frame block,
      IsIndex-same index c.rows (set c.rows f (Some y)) ix
          (set-same c.rows f x y is frame block),
    )

-- another owner, the index included
pub hand-same : (c : Frames) (index : List ℕ) (from to : ℕ) → IsFrames c → IsIndex index c.rows →
    IsFrames (handed_over from to c) × IsIndex index (handed_over from to c).rows
hand-same c index from to h ix = (
  IsFrames-handed c from to h,
  IsIndex-same index c.rows (handed_over from to c).rows ix
      (map-same from to c.rows),
)

-- there is room for a frame as the newest
pub newest-room : (c : Frames) (f : ℕ) → IsFrames c → f < c.count → length (filter (λ g. not (g == f)) c.order) < 64
newest-room c f h below =
    let inside : f < length c.rows = let r = h.rows in let m = h.most in omega arith in
    let r : FrameRow = record { frame = f; owner = 0; block = 0; dirty = false; mark = 0 } in
    let most : used (set c.rows f (Some r)) ≤ length (set c.rows f (Some r)) =
    count_by-le-length (λ (o : Option FrameRow). is_some o) (set c.rows f (Some r)) in
    let sums = used-set c.rows f r inside in
    let without = length-without f c.order in
    let once = h.once f in
    let order = h.order in
    let all : length (set c.rows f (Some r)) ≡ 64 = length-set c.rows f (Some r) ∙ h.rows in
    omega (arith, most, sums, without, once, order, all)

filled-once : (c : Frames) (f g : ℕ) (r : FrameRow) → IsFrames c → row_at (set c.rows f (Some r)) f ≡ Some r
    → ((g ≡ f → ⊥) → row_at (set c.rows f (Some r)) g ≡ row_at c.rows g) →
    cond (g == f) 1 (uses g c.order) ≡ cond (is_some (row_at (set c.rows f (Some r)) g)) 1 0
filled-once c f g r h here there =
    elim (cases_eq g f) [
      | inl one ↦
          let same : (g == f) ≡ true = grind (arith, nat_tests, one) in
          let now : is_some (row_at (set c.rows f (Some r)) g) ≡ true =
          subst (λ k. is_some (row_at (set c.rows f (Some r)) k) ≡ true) (sym one)
          (ap (λ (o : Option FrameRow). is_some o) here) in
          rw (same, now) refl
      | inr other ↦
          let apart : (g == f) ≡ false = grind (arith, nat_tests, other) in
          rw (apart, there other) (h.once g)
    ]

filled-order : (c : Frames) (f : ℕ) (r : FrameRow) → IsFrames c → f < length c.rows →
    length (newest f c.order) ≡ used (set c.rows f (Some r))
filled-order c f r h inside =
    let sums = used-set c.rows f r inside in
    let long = length-newest f c.order in
    let once = h.once f in
    let order = h.order in
    omega (arith, sums, long, once, order)

filled-below : (c : Frames) (f g : ℕ) (r : FrameRow) → IsFrames c → f < c.count →
    ((g ≡ f → ⊥) → row_at (set c.rows f (Some r)) g ≡ row_at c.rows g)
    → is_some (row_at (set c.rows f (Some r)) g) ≡ true → g < c.count
filled-below c f g r h below there some =
    elim (cases_eq g f) [
      | inl one ↦ omega arith
      | inr other ↦ h.below g (ap (λ (o : Option FrameRow). is_some o) (sym (there other)) ∙ some)
    ]

filled-number : (c : Frames) (f g : ℕ) (r x : FrameRow) → IsFrames c → r.frame ≡ f →
    row_at (set c.rows f (Some r)) f ≡ Some r
    → ((g ≡ f → ⊥) → row_at (set c.rows f (Some r)) g ≡ row_at c.rows g) →
    row_at (set c.rows f (Some r)) g ≡ Some x → x.frame ≡ g
filled-number c f g r x h number here there is =
    elim (cases_eq g f) [
      | inl one ↦
          let same : r ≡ x = some-same r x (sym here ∙ subst (λ k. row_at (set c.rows f (Some r)) k ≡ Some x) one is) in
          subst (λ (w : FrameRow). w.frame ≡ g) same (number ∙ sym one)
      | inr other ↦ h.numbered g x (sym (there other) ∙ is)
    ]

-- a row holds its own block
holds-own : (a : Option FrameRow) (b : ℕ) (x : FrameRow) → a ≡ Some x → x.block ≡ b → holds b a ≡ true
holds-own None b x is block = absurd (cc)
holds-own (Some z) b x is block =
    let same : x ≡ z = sym (some-same z x is) in
    let own : z.block ≡ b = subst (λ (w : FrameRow). w.block ≡ b) same block in grind (arith, nat_tests, own)

filled-one : (c : Frames) (f g k : ℕ) (r x y : FrameRow) → IsFrames c →
    ((j : ℕ) → holds r.block (row_at c.rows j) ≡ true → j ≡ f) →
    row_at (set c.rows f (Some r)) f ≡ Some r
    → ((g ≡ f → ⊥) → row_at (set c.rows f (Some r)) g ≡ row_at c.rows g) →
    ((k ≡ f → ⊥) → row_at (set c.rows f (Some r)) k ≡ row_at c.rows k)
    → row_at (set c.rows f (Some r)) g ≡ Some x → row_at (set c.rows f (Some r)) k ≡ Some y → x.block ≡ y.block → g ≡ k
filled-one c f g k r x y h alone here there-g there-k is-g is-k blocks =
    elim (cases_eq g f) [
      | inl one ↦
          elim (cases_eq k f) [
            | inl two ↦ one ∙ sym two
            | inr other ↦
                let same : r ≡ x = some-same r x
                (sym here ∙ subst (λ j. row_at (set c.rows f (Some r)) j ≡ Some x) one is-g) in
                let block : y.block ≡ r.block = sym blocks ∙ ap (λ (w : FrameRow). w.block) (sym same) in
                one ∙ sym (alone k (holds-own (row_at c.rows k) r.block y (sym (there-k other) ∙ is-k) block))
          ]
      | inr other ↦
          elim (cases_eq k f) [
            | inl two ↦
                let same : r ≡ y = some-same r y
                (sym here ∙ subst (λ j. row_at (set c.rows f (Some r)) j ≡ Some y) two is-k) in
                let block : x.block ≡ r.block = blocks ∙ ap (λ (w : FrameRow). w.block) (sym same) in
                alone g (holds-own (row_at c.rows g) r.block x (sym (there-g other) ∙ is-g) block) ∙ sym two
            | inr neither ↦ h.one_frame g k x y (sym (there-g other) ∙ is-g) (sym (there-k neither) ∙ is-k) blocks
          ]
    ]

-- a frame that was filled, and what always holds of the cache
pub IsFrames-filled : (c : Frames) (f : ℕ) (r : FrameRow) → IsFrames c → f < c.count → r.frame ≡ f
    → ((g : ℕ) → holds r.block (row_at c.rows g) ≡ true → g ≡ f) → IsFrames (filled f r c)
IsFrames-filled c f r h below number alone =
    let inside : f < length c.rows = let rows = h.rows in let most = h.most in omega arith in
    let here : row_at (set c.rows f (Some r)) f ≡ Some r = get_or-set_same c.rows f (Some r) None inside in
    let there : (g : ℕ) → (g ≡ f → ⊥) → row_at (set c.rows f (Some r)) g ≡ row_at c.rows g =
    λ g other. get_or-set_other c.rows f g (Some r) None other in
    record {
      rows = length-set c.rows f (Some r) ∙ h.rows;
      least = h.least;
      most = h.most;
      once = λ g. uses-newest f g c.order ∙ filled-once c f g r h here (there g);
      order = filled-order c f r h inside;
      below = λ g some. filled-below c f g r h below (there g) some;
      numbered = λ g x is. filled-number c f g r x h number here (there g) is;
      one_frame =
          λ g k x y is-g is-k blocks. filled-one c f g k r x y h alone here (there g) (there k)
          is-g is-k blocks;
    }

-- a frame that was filled, by the new rows and the new order
pub filled-new : (c : Frames) (rows : List (Option FrameRow)) (order : List ℕ) (f : ℕ)
    (r : FrameRow) → IsFrames c → f < c.count → r.frame ≡ f
    → ((g : ℕ) → holds r.block (row_at c.rows g) ≡ true → g ≡ f) → rows ≡ set c.rows f (Some r) →
    order ≡ newest f c.order
    → IsFrames (record { rows = rows; order = order; count = c.count })
filled-new c rows order f r h below number alone is-rows is-order =
    subst (λ w. IsFrames (record { rows = w; order = order; count = c.count })) (sym is-rows)
    (subst (λ w. IsFrames (record { rows = set c.rows f (Some r); order = w; count = c.count }))
    (sym is-order) (IsFrames-filled c f r h below number alone))

-- a frame that is the newest, by the new order
pub touched-new : (c : Frames) (order : List ℕ) (f : ℕ) → IsFrames c → in_use f c ≡ true →
    order ≡ newest f c.order → IsFrames (record { rows = c.rows; order = order; count = c.count })
touched-new c order f h was is-order =
    subst (λ w. IsFrames (record { rows = c.rows; order = w; count = c.count })) (sym is-order)
    (IsFrames-touched c f h was)

-- two frames that changed places, by the new order
pub swapped-new : (c : Frames) (order : List ℕ) (f g : ℕ) → IsFrames c → in_use f c ≡ true →
    in_use g c ≡ true → order ≡ map (exchanged f g) c.order
    → IsFrames (record { rows = c.rows; order = order; count = c.count })
swapped-new c order f g h first second is-order =
    subst (λ w. IsFrames (record { rows = c.rows; order = w; count = c.count })) (sym is-order)
    (IsFrames-swapped c f g h first second)

-- another owner, by the new rows
pub handed-new : (c : Frames) (index : List ℕ) (rows : List (Option FrameRow)) (from to : ℕ) →
    IsFrames c → IsIndex index c.rows
    → rows ≡ map (λ (r : Option FrameRow). option_map (handed from to) r) c.rows →
    IsFrames (record { rows = rows; order = c.order; count = c.count }) × IsIndex index rows
handed-new c index rows from to h ix is =
    subst (λ w. IsFrames (record { rows = w; order = c.order; count = c.count }) × IsIndex index w)
    (sym is) (hand-same c index from to h ix)

-- no frame is in use
none-used : {X : Type 0} (n f : ℕ) → get_or (replicate n (let o : Option X = None in o)) f None ≡ None
none-used zero f = refl
none-used (suc n) zero = refl
none-used (suc n) (suc f) = none-used n f

-- an index where no frame is in use
zero-at : (n b : ℕ) → ◌≡◌ {A = ℕ} (get_or (replicate n 0) b 0) 0
zero-at zero b = refl
zero-at (suc n) zero = refl
zero-at (suc n) (suc b) = zero-at n b

-- the cache at first
pub new-kept : (rows : List (Option FrameRow)) (order : List ℕ) (count : ℕ) (index : List ℕ) →
    2 ≤ count → count ≤ 64 → rows ≡ replicate 64 None → order ≡ []
    → index ≡ replicate 4096 0 → IsFrames (record { rows = rows; order = order; count = count }) × IsIndex index rows
new-kept rows order count index least most is-rows is-order is-index =
    let zero_there : (b : ℕ) → get_or index b 0 ≡ 0 = λ b. ap (λ w. get_or w b 0) is-index ∙ zero-at 4096 b in
    let none : (f : ℕ) → row_at rows f ≡ None = λ f. ap (λ w. row_at w f) is-rows ∙ none-used 64 f in
    let off : (f : ℕ) → is_some (row_at rows f) ≡ false = λ f. ap (λ (o : Option FrameRow). is_some o) (none f) in (
      record {
        rows = ap length is-rows;
        least = least;
        most = most;
        once = λ f. ap (λ w. uses f w) is-order ∙ ap (λ b. cond b 1 0) (sym (off f));
        order = ap length is-order ∙ ap (λ w. used w) (sym is-rows);
        below = λ f some. let no = off f in absurd (cc);
        numbered = λ f r is. let no = none f in absurd (cc);
        one_frame = λ f g x y is-f is-g blocks. let no = none f in absurd (cc);
      },
      record {
        blocks = ap length is-index;
        frames = λ b. omega (arith, zero_there b);
        below = λ f r is. let no = none f in absurd (cc);
        leads = λ f r is. let no = none f in absurd (cc);
      },
    )

-- the index where the block that a frame was filled with leads to it
lead-set : (rows : List (Option FrameRow)) (index : List ℕ) (f : ℕ) (r : FrameRow) →
    IsIndex index rows → f < length rows → f < 64 → r.block < 4096
    → ((g : ℕ) → holds r.block (row_at rows g) ≡ true → g ≡ f) → IsIndex (set index r.block f) (set rows f (Some r))
lead-set rows index f r h inside range below one =
    let first : r.block < length index = let blocks = h.blocks in omega arith in
    let there : row_at (set rows f (Some r)) f ≡ Some r = get_or-set_same rows f (Some r) None inside in
    record {
      blocks = length-set index r.block f ∙ h.blocks;
      frames = λ b.
          elim (cases_eq b r.block) [
            | inl same ↦ subst (λ c. get_or (set index r.block f) c 0 < 64) (sym same)
                (subst (λ g. g < 64) (sym (get_or-set_same index r.block f 0 first)) range)
            | inr other ↦ subst (λ g. g < 64) (sym (get_or-set_other index r.block b f 0 other)) (h.frames b)
          ];
      below = λ g x is.
          elim (cases_eq g f) [
            | inl same ↦ let here : row_at (set rows f (Some r)) f ≡ Some x =
                subst (λ k. row_at (set rows f (Some r)) k ≡ Some x) same is in
                let row : r ≡ x = cc in subst (λ (y : FrameRow). y.block < 4096) row below
            | inr other ↦ h.below g x (sym (get_or-set_other rows f g (Some r) None other) ∙ is)
          ];
      leads = λ g x is.
          elim (cases_eq g f) [
            | inl same ↦ let here : row_at (set rows f (Some r)) f ≡ Some x =
                subst (λ k. row_at (set rows f (Some r)) k ≡ Some x) same is in
                let row : r ≡ x = cc in
                subst (λ (y : FrameRow). get_or (set index r.block f) y.block 0 ≡ g) row
                (get_or-set_same index r.block f 0 first ∙ sym same)
            | inr other ↦ let was : row_at rows g ≡ Some x = sym (get_or-set_other rows f g (Some r) None other) ∙ is in
                let apart : x.block ≡ r.block → ⊥ =
                λ same. other (one g (holds-own (row_at rows g) r.block x was same)) in
                get_or-set_other index r.block x.block f 0 apart ∙ h.leads g x was
          ];
    }

-- the same, by the new rows and the new index
pub lead-new : (c : Frames) (index new : List ℕ) (rows : List (Option FrameRow)) (f : ℕ)
    (r : FrameRow) → IsFrames c → IsIndex index c.rows → f < c.count → r.block < 4096
    → ((g : ℕ) → holds r.block (row_at c.rows g) ≡ true → g ≡ f) → rows ≡ set c.rows f (Some r) →
    new ≡ set index r.block f → IsIndex new rows
lead-new c index new rows f r h ix below block one is-rows is-new =
    let long = h.rows in
    let most = h.most in
    subst (λ w. IsIndex w rows) (sym is-new)
    (subst (λ w. IsIndex (set index r.block f) w) (sym is-rows)
    (lead-set c.rows index f r ix (omega arith) (omega arith) block one))

-- a frame of the order of use is in use
pub order-used : (c : Frames) → IsFrames c → (i : ℕ) → i < length c.order → in_use (get_or c.order i 0) c ≡ true
order-used c h i inside =
    let some = uses-at c.order i inside in
    let once = h.once (get_or c.order i 0) in
    elim (in_use (get_or c.order i 0) c) as (λ b. in_use (get_or c.order i 0) c ≡ b → b ≡ true) [
      | true ↦ λ _. refl
      | false ↦ λ no. absurd (let none : uses (get_or c.order i 0) c.order ≡ 0 = once
          ∙ ap (λ b. cond b 1 0) no in omega arith)
    ] refl

-- another owner leaves in use what was in use
pub handed-used : (from to : ℕ) (rows : List (Option FrameRow)) (f : ℕ) → is_some (row_at
    (map (λ (r : Option FrameRow). option_map (handed from to) r) rows) f) ≡ is_some (row_at rows f)
handed-used from to rows f =
    same-in_use (row_at rows f)
    (row_at (map (λ (r : Option FrameRow). option_map (handed from to) r) rows) f)
    (map-same from to rows f)

-- no more rows are in use than there are frames, where those in use are below
used-below : (rows : List (Option FrameRow)) (n : ℕ) →
    ((g : ℕ) → is_some (row_at rows g) ≡ true → g < n) → used rows ≤ n
used-below [] n below = grind arith
used-below (a ∷ rows) zero below =
    let rest : used rows ≤ 0 = used-below rows zero
    (λ g some. let far = below (suc g) some in absurd (omega (arith, far))) in
    let sums = sum_by-cons (λ (o : Option FrameRow). cond (is_some o) 1 0) a rows in
    elim (is_some a) as (λ b. is_some a ≡ b → used (a ∷ rows) ≤ 0) [
      | true ↦ λ some. absurd (let far = below 0 some in omega (arith, far))
      | false ↦ λ none. let one : ◌≡◌ {A = ℕ} (cond (is_some a) 1 0) 0 =
          ap (λ b. cond b 1 0) none in omega (arith, rest, sums, one)
    ] refl
used-below (a ∷ rows) (suc n) below =
    let rest : used rows ≤ n = used-below rows n (λ g some. let far = below (suc g) some in omega (arith, far)) in
    let sums = sum_by-cons (λ (o : Option FrameRow). cond (is_some o) 1 0) a rows in
    elim (is_some a) as (λ b. is_some a ≡ b → used (a ∷ rows) ≤ suc n) [
      | true ↦ λ some. let one : ◌≡◌ {A = ℕ} (cond (is_some a) 1 0) 1 = ap (λ b. cond b 1 0) some in
          omega (arith, rest, sums, one)
      | false ↦ λ none. let one : ◌≡◌ {A = ℕ} (cond (is_some a) 1 0) 0 =
          ap (λ b. cond b 1 0) none in omega (arith, rest, sums, one)
    ] refl

-- where the order of use is as long as there are frames, each of them is in use
pub all-used : (c : Frames) → IsFrames c → length c.order ≡ c.count → (f : ℕ) → f < c.count → in_use f c ≡ true
all-used c h whole f below =
    let inside : f < length c.rows = let rows = h.rows in let most = h.most in omega arith in
    let r : FrameRow = record { frame = f; owner = 0; block = 0; dirty = false; mark = 0 } in
    let within : used (set c.rows f (Some r)) ≤ c.count =
    used-below (set c.rows f (Some r)) c.count (λ g some. filled-below c f g r h below
    (λ other. get_or-set_other c.rows f g (Some r) None other) some) in
    let sums = used-set c.rows f r inside in
    let order = h.order in
    elim (in_use f c) as (λ b. in_use f c ≡ b → b ≡ true) [
      | true ↦ λ _. refl
      | false ↦ λ no. let none : ◌≡◌ {A = ℕ} (cond (is_some (row_at c.rows f)) 1 0) 0 =
          ap (λ b. cond b 1 0) no in absurd (omega (arith, within, sums, order, whole, none))
    ] refl
