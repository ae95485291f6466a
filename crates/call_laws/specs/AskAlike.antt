-- On states that differ only in what grafts may change, pieces ask points of the same kind.
use Rattle.std.specs.Prelude.{◌≡◌, ℕ, zero, suc, ◌==◌, true, false, ◌&&◌, nat_lt, nat_le, min, List}
use Rattle.std.specs.Prelude.{[], ◌∷◌, length, Option, Some, None, is_some, Result, Ok, Err}
use Rattle.std.proofs.Common.{refl, ap, sym, subst, ◌∙◌}
use Rattle.std.proofs.lemmas.Bool.{and_parts, cond-true}
use Rattle.kernel_model.specs.declared.Point.{Point}
use Rattle.kernel_model.specs.declared.OpenRow.{OpenRow}
use Rattle.kernel_model.specs.declared.QueueRow.{QueueRow}
use Rattle.kernel_model.specs.declared.Refusal.{Refusal}
use Rattle.kernel_model.specs.declared.SysCall.{SysCall}
use Rattle.kernel_model.specs.declared.SysCall.TheVariants.{Yield, Read, Write}
use Rattle.kernel_model.specs.World.{World, blocks_of}
use Rattle.kernel_model.specs.Objects.{Objects, CacheValue, FrameValue, PolValue}
use Rattle.kernel_model.specs.Policies.{PointKind, Ahead, Victim, Next, kind_of, next_process}
use Rattle.kernel_model.specs.Policies.{victim_among, victim_key, ahead_default, open_blocks}
use Rattle.kernel_model.specs.Needs.{victim_ask, fetch_ask, candidate_by, candidate_for, frame_with}
use Rattle.kernel_model.specs.Needs.{frame_of_block, free_frame, file_block, ahead_block, slice_ask}
use Rattle.kernel_model.specs.Needs.{yield_ask, read_ask, piece_ask}
use Rattle.kernel_model.specs.Pieces.{piece_fits, read_fits}
use Rattle.kernel_model.specs.Alike.{AreAlike, windowless, markless, niceless}
use Rattle.kernel_model.specs.Laws.{SameKindOfPoint, SameAheadAsk}
use Rattle.call_laws.specs.Candidates.{has_first, least_stands, next_stands, candidate_by_same}
use Rattle.call_laws.specs.Stages.{same_windowless}

-- ---- what doesn't look at windows

-- the block that a read or a write names
file_block_windowless : (v : World) (i off len : ℕ) (o : Option OpenRow) →
    file_block v (windowless o) i off len ≡ file_block v o i off len
file_block_windowless v i off len None = refl
file_block_windowless v i off len (Some o) = refl

-- the block that is to be read ahead next
ahead_block_windowless : (v : World) (o : Option OpenRow) →
    ahead_block v (windowless o) ≡ ahead_block v o
ahead_block_windowless v None = refl
ahead_block_windowless v (Some o) = refl

-- the blocks of an open file
open_blocks_windowless : (v : World) (o : Option OpenRow) →
    open_blocks v (windowless o) ≡ open_blocks v o
open_blocks_windowless v None = refl
open_blocks_windowless v (Some o) = refl

-- where reading ahead starts by default
abbrev start_of : World → Option OpenRow → ℕ
start_of v None = 0
start_of v (Some o) = min o.next (blocks_of v o.file)

-- where reading ahead starts
start_windowless : (v : World) (o : Option OpenRow) → start_of v (windowless o) ≡ start_of v o
start_windowless v None = refl
start_windowless v (Some o) = refl

-- no policy decides that
default_start : (v : World) (pol : PolValue) (o : Option OpenRow) →
    (ahead_default v pol o).0 ≡ start_of v o
default_start v pol None = refl
default_start v pol (Some o) = refl

-- ---- what doesn't look at marks

-- what is chosen by whether a frame holds this block
abbrev if_holds : ℕ → Option ℕ → Option ℕ → Option FrameValue → Option ℕ
if_holds b found other x =
    elim x [ None ↦ other | Some r ↦ elim (r.block == b) [ true ↦ found | false ↦ other ] ]

-- the block of a frame, or 0
abbrev block_or_zero : Option FrameValue → ℕ
block_or_zero None = 0
block_or_zero (Some x) = x.block

-- that doesn't look at the mark
if_holds_same : (b : ℕ) (found other : Option ℕ) (x y : Option FrameValue) →
    markless x ≡ markless y → if_holds b found other x ≡ if_holds b found other y
if_holds_same b found other None None h = refl
if_holds_same b found other None (Some y) h = cc
if_holds_same b found other (Some x) None h = cc
if_holds_same b found other (Some x) (Some y) h =
    let same : x.block ≡ y.block = ap block_or_zero h in
    ap (λ n. elim (n == b) as (λ _. Option ℕ) [ true ↦ found | false ↦ other ]) same

-- the frame that holds a block
frame_with_same : (c d : CacheValue) (b : ℕ) (fs : List ℕ) →
    ((f : ℕ) → markless (c.frame f) ≡ markless (d.frame f)) → frame_with c b fs ≡ frame_with d b fs
frame_with_same c d b [] h = refl
frame_with_same c d b (f ∷ fs) h =
    ap (λ other. if_holds b (Some f) other (c.frame f)) (frame_with_same c d b fs h)
    ∙ if_holds_same b (Some f) (frame_with d b fs) (c.frame f) (d.frame f) (h f)

-- what is chosen by whether a frame is free
abbrev if_free : Option ℕ → Option ℕ → Option FrameValue → Option ℕ
if_free found other x = elim x [ None ↦ found | Some r ↦ other ]

-- that doesn't look at the mark either
if_free_same : (found other : Option ℕ) (x y : Option FrameValue) → markless x ≡ markless y →
    if_free found other x ≡ if_free found other y
if_free_same found other None None h = refl
if_free_same found other None (Some y) h = cc
if_free_same found other (Some x) None h = cc
if_free_same found other (Some x) (Some y) h = refl

-- the lowest free frame
free_frame_same : (c d : CacheValue) (n f : ℕ) →
    ((g : ℕ) → markless (c.frame g) ≡ markless (d.frame g)) → free_frame c n f ≡ free_frame d n f
free_frame_same c d zero f h = refl
free_frame_same c d (suc n) f h =
    ap (λ other. if_free (Some f) other (c.frame f)) (free_frame_same c d n (suc f) h)
    ∙ if_free_same (Some f) (free_frame d n (suc f)) (c.frame f) (d.frame f) (h f)

-- whether there is a candidate for eviction
candidate_alike : (v : World) (s u : Objects) (b : ℕ) → AreAlike s u →
    is_some (candidate_for v (s.things.pol 1) s.things.cache b)
    ≡ is_some (candidate_for v (u.things.pol 1) u.things.cache b)
candidate_alike v s u b h =
    let c = s.things.cache in let d = u.things.cache in
    let least_of_c = victim_among (s.things.pol 1) c c.lru in let least_of_d =
    victim_among (u.things.pol 1) d d.lru in
    let held : frame_of_block c b ≡ frame_of_block d b = ap (frame_with c b) h.lru
    ∙ frame_with_same c d b d.lru h.frames in
    candidate_by_same (frame_of_block c b) (free_frame c v.frames 0) least_of_c least_of_d
    (least_stands (victim_key (s.things.pol 1) c) c.lru ∙ ap (λ (fs : List ℕ). has_first fs) h.lru
    ∙ sym (least_stands (victim_key (u.things.pol 1) d) d.lru))
    ∙ ap (λ x. is_some (candidate_by x (free_frame c v.frames 0) least_of_d)) held
    ∙ ap (λ x. is_some (candidate_by (frame_of_block d b) x least_of_d))
    (free_frame_same c d v.frames 0 h.frames)

-- ---- kinds of points

-- two candidates for eviction, or none
victim_kind : (c d : CacheValue) (a b : ℕ) (x y : Option ℕ) → is_some x ≡ is_some y →
    SameKindOfPoint (victim_ask c a x) (victim_ask d b y)
victim_kind c d a b None None h = tt
victim_kind c d a b None (Some g) h = cc
victim_kind c d a b (Some f) None h = cc
victim_kind c d a b (Some f) (Some g) h = refl

-- two fetches of one block
fetch_kind : (v : World) (s u : Objects) (r t : Result ℕ Refusal) → AreAlike s u → r ≡ t →
    SameKindOfPoint (fetch_ask v s.things r) (fetch_ask v u.things t)
fetch_kind v s u (Err why) (Err other) h e = tt
fetch_kind v s u (Err why) (Ok b) h e = cc
fetch_kind v s u (Ok a) (Err why) h e = cc
fetch_kind v s u (Ok a) (Ok b) h e =
    let same : a ≡ b = cc in
    victim_kind s.things.cache u.things.cache a b
    (candidate_for v (s.things.pol 1) s.things.cache a)
    (candidate_for v (u.things.pol 1) u.things.cache b)
    (candidate_alike v s u a h
    ∙ ap (λ n. is_some (candidate_for v (u.things.pol 1) u.things.cache n)) same)

-- two candidates for the processor, or none
slice_kind : (v : World) (s u : Objects) (x y : Option ℕ) → is_some x ≡ is_some y →
    SameKindOfPoint (slice_ask v s.things x) (slice_ask v u.things y)
slice_kind v s u None None h = tt
slice_kind v s u None (Some g) h = cc
slice_kind v s u (Some f) None h = cc
slice_kind v s u (Some f) (Some g) h = refl

-- whether a queue is empty doesn't look at nices
first_niceless : (rows : List QueueRow) → has_first (niceless rows) ≡ has_first rows
first_niceless [] = refl
first_niceless (r ∷ rows) = refl

-- the two pieces of a yield
yield_kind : (n : ℕ) (v : World) (s u : Objects) → AreAlike s u →
    SameKindOfPoint (yield_ask n v s.things) (yield_ask n v u.things)
yield_kind zero v s u h = tt
yield_kind (suc n) v s u h =
    slice_kind v s u (next_process (s.things.pol 2) s.things.queue)
    (next_process (u.things.pol 2) u.things.queue)
    (next_stands (s.things.pol 2) s.things.queue ∙ sym (first_niceless s.things.queue)
    ∙ ap (λ (rows : List QueueRow). has_first rows) h.queue
    ∙ first_niceless u.things.queue ∙ sym (next_stands (u.things.pol 2) u.things.queue))

-- the block of a read or write is the same
file_block_alike : (v : World) (s u : Objects) (p fd i off len : ℕ) → AreAlike s u →
    file_block v (s.things.file p fd) i off len ≡ file_block v (u.things.file p fd) i off len
file_block_alike v s u p fd i off len h =
    same_windowless (λ o. file_block v o i off len) (file_block_windowless v i off len)
    (s.things.file p fd) (u.things.file p fd) (h.files p fd)

-- the three kinds of pieces of a read
read_kind : (n : ℕ) (v : World) (s u : Objects) (p fd i off len : ℕ) → AreAlike s u →
    SameKindOfPoint (read_ask n v s.things p fd i off len) (read_ask n v u.things p fd i off len)
read_kind zero v s u p fd i off len h =
    fetch_kind v s u (file_block v (s.things.file p fd) i off len)
    (file_block v (u.things.file p fd) i off len) h (file_block_alike v s u p fd i off len h)
read_kind (suc zero) v s u p fd i off len h = refl
read_kind (suc (suc n)) v s u p fd i off len h =
    fetch_kind v s u (ahead_block v (s.things.file p fd)) (ahead_block v (u.things.file p fd)) h
    (same_windowless (ahead_block v) (ahead_block_windowless v) (s.things.file p fd)
    (u.things.file p fd) (h.files p fd))

-- on alike states a piece asks a point of the same kind, or none
pub piece_kind : (c : SysCall) (n : ℕ) (v : World) (s u : Objects) (p : ℕ) → AreAlike s u →
    SameKindOfPoint (piece_ask c n v s.things p) (piece_ask c n v u.things p)
piece_kind Yield n v s u p h = yield_kind n v s u h
piece_kind (Read fd i off len) n v s u p h = read_kind n v s u p fd i off len h
piece_kind (Write fd i off bytes) n v s u p h =
    fetch_kind v s u (file_block v (s.things.file p fd) i off (length bytes))
    (file_block v (u.things.file p fd) i off (length bytes)) h
    (file_block_alike v s u p fd i off (length bytes) h)
piece_kind c n v s u p h = tt

-- ---- asks to read ahead

-- what is said by the kind of a point, said of the kind itself
other_kind : (k l : PointKind) (a b : Point) → k ≡ l → SameAheadAsk l a b → SameAheadAsk k a b
other_kind k l a b e h = subst (λ (j : PointKind). SameAheadAsk j a b) (sym e) h

-- the number of a point, or 0
abbrev point_or_zero : Option Point → ℕ
point_or_zero None = 0
point_or_zero (Some a) = a.point

-- the point of a victim is 4
victim_point : (c : CacheValue) (b : ℕ) (x : Option ℕ) (a : Point) → victim_ask c b x ≡ Some a →
    a.point ≡ 4
victim_point c b None a e = cc
victim_point c b (Some f) a e = sym (ap point_or_zero e)

-- a fetch asks no reading ahead
fetch_ahead_alike : (v : World) (s u : Objects) (r : Result ℕ Refusal) (a b : Point) →
    fetch_ask v s.things r ≡ Some a → SameAheadAsk (kind_of a.point) a b
fetch_ahead_alike v s u (Err why) a b e = cc
fetch_ahead_alike v s u (Ok n) a b e =
    other_kind (kind_of a.point) Victim a b
    (ap kind_of (victim_point s.things.cache n
    (candidate_for v (s.things.pol 1) s.things.cache n) a e)) tt

-- the point of a candidate for the processor is 5
slice_point : (v : World) (s : Objects) (x : Option ℕ) (a : Point) →
    slice_ask v s.things x ≡ Some a → a.point ≡ 5
slice_point v s None a e = cc
slice_point v s (Some c) a e = sym (ap point_or_zero e)

-- a yield asks no reading ahead
yield_ahead_alike : (n : ℕ) (v : World) (s : Objects) (a b : Point) →
    yield_ask n v s.things ≡ Some a → SameAheadAsk (kind_of a.point) a b
yield_ahead_alike zero v s a b e = cc
yield_ahead_alike (suc n) v s a b e =
    other_kind (kind_of a.point) Next a b
    (ap kind_of (slice_point v s (next_process (s.things.pol 2) s.things.queue) a e)) tt

-- the point of reading ahead of p's descriptor fd
abbrev point_for : (p fd start count blocks : ℕ) → Point
point_for p fd start count blocks =
    record { installer = p; point = fd; args = start ∷ count ∷ blocks ∷ fd ∷ [] }

-- points of one descriptor with the same start and the same blocks
same_points : (p fd start other count more blocks left : ℕ) (a b : Point) →
    Some (point_for p fd start count blocks) ≡ Some a →
    Some (point_for p fd other more left) ≡ Some b → start ≡ other → blocks ≡ left →
    SameAheadAsk Ahead a b
same_points p fd start other count more blocks left a b e f h l =
    let here : point_for p fd start count blocks ≡ a = cc in
    let there : point_for p fd other more left ≡ b = cc in
    subst (λ (x : Point). SameAheadAsk Ahead x b) here
    (subst (λ (y : Point). SameAheadAsk Ahead (point_for p fd start count blocks) y) there (
      refl,
      refl,
      h,
      l,
      refl,
    ))

-- the points of descriptors are those of reading ahead
descriptor_kind : (fd : ℕ) → nat_lt fd 4 ≡ true → kind_of fd ≡ Ahead
descriptor_kind fd low = cond-true (nat_lt fd 4) Ahead _ low

-- so is the point that the second piece of a read asks
ahead_kind : (p fd start count blocks : ℕ) (a : Point) → nat_lt fd 4 ≡ true →
    Some (point_for p fd start count blocks) ≡ Some a → kind_of a.point ≡ Ahead
ahead_kind p fd start count blocks a low e = ap kind_of (sym (ap point_or_zero e))
    ∙ descriptor_kind fd low

-- the second piece of a read asks the same reading ahead, and the others none
read_ahead_alike : (n : ℕ) (v : World) (s u : Objects) (p fd i off len : ℕ) (a b : Point) →
    nat_lt fd 4 ≡ true → AreAlike s u →
    read_ask n v s.things p fd i off len ≡ Some a → read_ask n v u.things p fd i off len ≡ Some b →
    SameAheadAsk (kind_of a.point) a b
read_ahead_alike zero v s u p fd i off len a b low h e f =
    fetch_ahead_alike v s u (file_block v (s.things.file p fd) i off len) a b e
read_ahead_alike (suc zero) v s u p fd i off len a b low h e f =
    let o = s.things.file p fd in let r = u.things.file p fd in
    other_kind (kind_of a.point) Ahead a b
    (ahead_kind p fd (ahead_default v (s.things.pol 0) o).0 (ahead_default v (s.things.pol 0) o).1
    (open_blocks v o) a low e)
    (same_points p fd (ahead_default v (s.things.pol 0) o).0 (ahead_default v (u.things.pol 0) r).0
    (ahead_default v (s.things.pol 0) o).1 (ahead_default v (u.things.pol 0) r).1 (open_blocks v o)
    (open_blocks v r) a b e f
    (default_start v (s.things.pol 0) o
    ∙ same_windowless (start_of v) (start_windowless v) o r (h.files p fd)
    ∙ sym (default_start v (u.things.pol 0) r))
    (same_windowless (open_blocks v) (open_blocks_windowless v) o r (h.files p fd)))
read_ahead_alike (suc (suc n)) v s u p fd i off len a b low h e f =
    fetch_ahead_alike v s u (ahead_block v (s.things.file p fd)) a b e

-- on alike states a piece asks the same reading ahead, but for the count
pub piece_ahead_alike : (c : SysCall) (n : ℕ) (v : World) (s u : Objects) (p : ℕ) (a b : Point) →
    piece_fits c n s.things p ≡ true → AreAlike s u →
    piece_ask c n v s.things p ≡ Some a → piece_ask c n v u.things p ≡ Some b →
    SameAheadAsk (kind_of a.point) a b
piece_ahead_alike Yield n v s u p a b fits h e f = yield_ahead_alike n v s a b e
piece_ahead_alike (Read fd i off len) n v s u p a b fits h e f =
    read_ahead_alike n v s u p fd i off len a b
    (and_parts (nat_lt fd 4) (nat_le n 2 && read_fits n (s.things.file p fd)) fits).0 h e f
piece_ahead_alike (Write fd i off bytes) n v s u p a b fits h e f =
    fetch_ahead_alike v s u (file_block v (s.things.file p fd) i off (length bytes)) a b e
piece_ahead_alike c n v s u p a b fits h e f = cc
