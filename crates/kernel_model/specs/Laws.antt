-- The laws that every table of calls must meet. The trait `Rules` in the crate's code asks for
-- their proof with each table; a proof about the kernel for every table may use nothing else of the
-- table.
use Rattle.std.specs.Prelude.{◌≡◌, ℕ, suc, ◌+◌, ◌-◌, ◌<◌, ◌≤◌, ◌^◌, Bool, true, false, not, ◌&&◌}
use Rattle.std.specs.Prelude.{◌==◌, List, [], ◌∷◌, ◌++◌, length, take, map, sum, nat_le, ◌≢◌}
use Rattle.std.specs.Prelude.{Contains, Option, Some, None, is_some, Ok, slice_index, ⊤}
use Rattle.std.specs.List.{list_any, AllByRecursion}
use Rattle.std.specs.Result.{is_ok}
use Rattle.kernel_data.specs.declared.Need.{Need}
use Rattle.kernel_data.specs.declared.Point.{Point}
use Rattle.kernel_data.specs.declared.Object.{Object}
use Rattle.kernel_data.specs.declared.Object.TheVariants.{Graft, Acct, Cell, OpenFile, Queue, Cache, Lock, Pol}
use Rattle.kernel_data.specs.declared.SysCall.{SysCall}
use Rattle.kernel_data.specs.declared.SysCall.TheVariants.{Sync, TakeLock}
use Rattle.kernel_data.specs.declared.Refusal.{Refusal}
use Rattle.kernel_data.specs.declared.Refusal.TheVariants.{DiskFault}
use Rattle.kernel_data.specs.declared.QueueRow.{QueueRow}
use Rattle.kernel_data.specs.World.{World, ImageTable, Blocks}
use Rattle.kernel_data.specs.Objects.{Objects, SameAt}
use Rattle.kernel_data.specs.Policies.{PointKind, Ahead, Victim, Next, Serve, Stream, kind_of, lives}
use Rattle.kernel_model.specs.Meaning.{Meaning, Stage, Answer, HasWholeBody, registers_of, Piece}
use Rattle.kernel_model.specs.Meaning.{After, Continues, Fails}
use Rattle.kernel_model.specs.Needs.{point_needs}
use Rattle.kernel_model.specs.Sound.{IsSoundStore, ImagesAreLoaded, FitsDisk, HasWholeBlocks}
use Rattle.kernel_model.specs.Events.{wanted}
use Rattle.kernel_model.specs.Alike.{AgreeOn, SameLiving, SameFiles, AreAlike, Extends, is_needed}
use Rattle.kernel_model.specs.Alike.{is_needed_exclusively}

-- ---- words of the laws

-- the numbers of an object are in their ranges
abbrev pub IsInRange : Object → Type 0
IsInRange (Graft q pt) = (q < 16) × (pt < 16)
IsInRange (Acct q) = q < 16
IsInRange (Cell q k) = (q < 16) × (k < 4)
IsInRange (OpenFile q fd) = (q < 16) × (fd < 4)
IsInRange Queue = ⊤
IsInRange Cache = ⊤
IsInRange (Lock u) = u < 16
IsInRange (Pol kind) = kind < 3

-- a point's numbers are in their ranges, and its arguments are four words
pub record IsRightPoint (a : Point) : Type 0 where
  pub graft : IsInRange (Graft a.installer a.point)
  pub four : length a.args ≡ 4
  pub words : (i : ℕ) → slice_index a.args i < 2 ^ 32

-- a needed open file belongs to the caller
abbrev pub IsOwnFile : ℕ → Object → Type 0
IsOwnFile p (OpenFile q fd) = q ≡ p
IsOwnFile p _ = ⊤

-- the holder of a user lock is a blocker too, but only for the lock that a `lock` call takes
abbrev pub waits_for_user : SysCall → Object → Bool
waits_for_user (TakeLock u) (Lock l) = u == l
waits_for_user _ _ = false

-- the objects that a point adds
abbrev pub needs_of_point : Objects → Point → List Need
needs_of_point s a = point_needs s.accounts a.installer a.point

-- a list of objects without those of the point at its end
abbrev pub before_point : Objects → Point → List Need → List Need
before_point s a ns = take (length ns - length (needs_of_point s a)) ns

-- two points are of the same kind, or both sides have none
abbrev pub SameKindOfPoint : Option Point → Option Point → Type 0
SameKindOfPoint None None = ⊤
SameKindOfPoint (Some a) (Some b) = kind_of a.point ≡ kind_of b.point
SameKindOfPoint _ _ = ⊥

-- two asks to read ahead are the same except for the count; two asks to serve are the same, and so
-- are two to change a stream
abbrev pub SameAheadAsk : PointKind → Point → Point → Type 0
SameAheadAsk Ahead a b =
    (a.installer ≡ b.installer) × (a.point ≡ b.point)
    × (slice_index a.args 0 ≡ slice_index b.args 0)
    × (slice_index a.args 2 ≡ slice_index b.args 2) × (slice_index a.args 3 ≡ slice_index b.args 3)
SameAheadAsk Serve a b = a ≡ b
SameAheadAsk Stream a b = a ≡ b
SameAheadAsk _ a b = ⊤

-- An answer that this kind of point accepts. For eviction it is any frame in use: the candidate of
-- the state in which the piece runs may have another owner than the one that was asked.
abbrev pub accepted_by : PointKind → Objects → List ℕ → List ℕ → Bool
accepted_by Ahead s args answer = nat_le (slice_index answer 1) 8
    && nat_le (slice_index answer 0 + slice_index answer 1) (slice_index args 2)
accepted_by Victim s args answer = is_some (s.things.cache.frame (slice_index answer 0))
accepted_by Next s args answer = lives s.things.queue (slice_index answer 0)
accepted_by Serve s args answer = nat_le (slice_index answer 0) 512
accepted_by Stream s args answer = slice_index answer 0 == slice_index args 0

-- an answer is given only if a point is asked, and the point accepts it
abbrev pub IsRightAnswer : Objects → Option Point → Option (List ℕ) → Type 0
IsRightAnswer s ask None = ⊤
IsRightAnswer s None (Some answer) = ⊥
IsRightAnswer s (Some a) (Some answer) = accepted_by (kind_of a.point) s a.args answer ≡ true

-- the call has another piece after this one
abbrev pub continues : After → Bool
continues (Continues t) = true
continues _ = false

-- two pieces do the same, as far as these objects are concerned
pub record PieceAlike (ns : List Need) (a b : Piece) : Type 0 where
  pub objects : AgreeOn ns a.objects b.objects
  pub blocks : a.blocks ≡ b.blocks
  pub gave : a.gave ≡ b.gave
  pub after : a.after ≡ b.after
  pub calls : a.calls ≡ b.calls

-- all slices together
abbrev pub slices_in : List QueueRow → ℕ
slices_in rows = sum (map (λ (r : QueueRow). r.slices) rows)

-- a point that had no graft has one
abbrev pub is_new_graft : Objects → Objects → (q pt : ℕ) → Bool
is_new_graft s u q pt = not (is_some (s.accounts.graft q pt)) && is_some (u.accounts.graft q pt)

-- a call is at a stage: the store is sound, the caller lives, the call is granted, and the stage
-- fits
pub record IsStanding (m : Meaning) (v : World) (images : ImageTable) (s : Objects) (p : ℕ)
    (t : Stage) : Type 0 where
  pub store : IsSoundStore v s
  pub caller : lives s.things.queue p ≡ true
  pub granted : is_ok (m.early v images p t.call) ≡ true
  pub fits : m.fits v s p t ≡ true

-- the conditions of a piece: its call is at this stage, the cache fits the disk, and the answer is
-- right
pub record IsReady (m : Meaning) (v : World) (images : ImageTable) (s : Objects) (p : ℕ) (t : Stage)
    (answer : Option Answer) : Type 0 where
  pub standing : IsStanding m v images s p t
  pub disk : FitsDisk v s.things.cache
  pub right : IsRightAnswer s (m.asks v s p t) (registers_of answer)
  pub body : HasWholeBody answer

-- the objects that tell whether an answer of a point is valid
abbrev pub answer_objects : PointKind → List Object
answer_objects Ahead = []
answer_objects Victim = Cache ∷ []
answer_objects Next = Queue ∷ []
answer_objects Serve = []
answer_objects Stream = []

-- ---- the laws

module _ (m : Meaning) where
  -- If a piece needs a graft, it needs it exclusively.
  abbrev pub NeedsGraftsExclusively : Type 0
  NeedsGraftsExclusively =
      (v : World) (s : Objects) (p : ℕ) (t : Stage) (q pt : ℕ) → m.fits v s p t ≡ true →
      is_needed (Graft q pt) (m.need v s p t) ≡ true →
      is_needed_exclusively (Graft q pt) (m.need v s p t) ≡ true

  -- A piece needs each object in one mode.
  abbrev pub NeedsHaveOneMode : Type 0
  NeedsHaveOneMode =
      (v : World) (s : Objects) (p : ℕ) (t : Stage) (n : Need) → m.fits v s p t ≡ true →
      Contains (m.need v s p t) n →
      wanted n.object (m.need v s p t) ≡ n.mode

  -- A piece that asks a point needs the objects that tell whether an answer of that point is valid.
  abbrev pub NeedsAnswers : Type 0
  NeedsAnswers =
      (v : World) (images : ImageTable) (s : Objects) (p : ℕ) (t : Stage) (a : Point) →
      IsStanding m v images s p t → m.asks v s p t ≡ Some a →
      AllByRecursion (λ (o : Object). is_needed o (m.need v s p t) ≡ true)
      (answer_objects (kind_of a.point))

  -- The objects that a piece needs.
  pub record NeedLaws : Type 0 where
    -- if states agree on the first objects of the list, they have the same next one, or both none
    pub prefix : (v : World) (s u : Objects) (p : ℕ) (t : Stage) (i : ℕ) → m.fits v s p t ≡ true →
        m.fits v u p t ≡ true →
        AgreeOn (take i (m.need v s p t)) s u →
        take (suc i) (m.need v s p t) ≡ take (suc i) (m.need v u p t)
    -- a needed open file belongs to the caller
    pub files : (v : World) (s : Objects) (p : ℕ) (t : Stage) (n : Need) → m.fits v s p t ≡ true →
        Contains (m.need v s p t) n → IsOwnFile p n.object
    -- the holder of a user lock hinders only a `lock` of it
    pub user : (v : World) (s : Objects) (p : ℕ) (t : Stage) (n : Need) → m.fits v s p t ≡ true →
        Contains (m.need v s p t) n →
        n.by_user ≡ waits_for_user t.call n.object
    -- there are at most 255
    pub most : (v : World) (s : Objects) (p : ℕ) (t : Stage) → m.fits v s p t ≡ true →
        length (m.need v s p t) ≤ 255
    -- their numbers are in their ranges
    pub ranges : (v : World) (images : ImageTable) (s : Objects) (p : ℕ) (t : Stage) (n : Need) →
        IsStanding m v images s p t → Contains (m.need v s p t) n → IsInRange n.object
    -- if the piece asks a point, the list ends with that point's objects
    pub point : (v : World) (s : Objects) (p : ℕ) (t : Stage) (a : Point) → m.fits v s p t ≡ true →
        m.asks v s p t ≡ Some a →
        m.need v s p t ≡ before_point s a (m.need v s p t) ++ needs_of_point s a
    -- grafts are needed exclusively
    pub grafts : NeedsGraftsExclusively
    -- each object is needed in one mode
    pub modes : NeedsHaveOneMode
    -- the objects that tell whether an answer is valid are needed
    pub answers : NeedsAnswers

  -- The points that pieces ask.
  pub record AskLaws : Type 0 where
    -- on states that agree on the objects of the piece, it asks the same point
    pub looks : (v : World) (s u : Objects) (p : ℕ) (t : Stage) → m.fits v s p t ≡ true →
        m.fits v u p t ≡ true →
        AgreeOn (m.need v s p t) s u → m.asks v s p t ≡ m.asks v u p t
    -- its numbers are in their ranges, and its arguments are four words
    pub ranges : (v : World) (images : ImageTable) (s : Objects) (p : ℕ) (t : Stage) (a : Point) →
        IsStanding m v images s p t → m.asks v s p t ≡ Some a → IsRightPoint a
    -- on alike states the piece asks points of the same kind, or none on both
    pub alike : (v : World) (s u : Objects) (p : ℕ) (t : Stage) → m.fits v s p t ≡ true →
        AreAlike s u →
        SameKindOfPoint (m.asks v s p t) (m.asks v u p t)
    -- on alike states the objects before the point are the same
    pub alike_before : (v : World) (s u : Objects) (p : ℕ) (t : Stage) (a b : Point) →
        m.fits v s p t ≡ true → AreAlike s u →
        m.asks v s p t ≡ Some a → m.asks v u p t ≡ Some b →
        before_point s a (m.need v s p t) ≡ before_point u b (m.need v u p t)
    -- on alike states the piece asks for the same read-ahead except for the count, for the same
    -- serving, and for the same change of a stream
    pub alike_ahead : (v : World) (s u : Objects) (p : ℕ) (t : Stage) (a b : Point) →
        m.fits v s p t ≡ true → AreAlike s u →
        m.asks v s p t ≡ Some a → m.asks v u p t ≡ Some b → SameAheadAsk (kind_of a.point) a b

  -- What a piece looks at and changes.
  pub record FootprintLaws : Type 0 where
    -- on states that agree on what it needs, and on who lives, a piece does the same
    pub looks : (v : World) (images : ImageTable) (s u : Objects) (blocks : Blocks) (p : ℕ)
        (t : Stage) (answer : Option Answer) (io : List Bool) →
        IsReady m v images s p t answer → IsReady m v images u p t answer →
        AgreeOn (m.need v s p t) s u → SameLiving s u →
        PieceAlike (m.need v s p t) (m.piece v images s blocks p t answer io)
        (m.piece v images u blocks p t answer io)
    -- a piece changes only objects that it needs exclusively
    pub changes : (v : World) (images : ImageTable) (s : Objects) (blocks : Blocks) (p : ℕ)
        (t : Stage) (answer : Option Answer) (io : List Bool) (o : Object) →
        IsReady m v images s p t answer → IsInRange o →
        is_needed_exclusively o (m.need v s p t) ≡ false →
        SameAt o (m.piece v images s blocks p t answer io).objects s
    -- a piece that asks a point looks only at the objects before those of the point
    pub asking_looks : (v : World) (images : ImageTable) (s u : Objects) (blocks : Blocks) (p : ℕ)
        (t : Stage) (answer : Option Answer) (io : List Bool) (a : Point) →
        IsReady m v images s p t answer → IsReady m v images u p t answer →
        m.asks v s p t ≡ Some a →
        AgreeOn (before_point s a (m.need v s p t)) s u → SameLiving s u →
        PieceAlike (before_point s a (m.need v s p t)) (m.piece v images s blocks p t answer io)
        (m.piece v images u blocks p t answer io)
    -- and changes only objects before those of the point
    pub asking_changes : (v : World) (images : ImageTable) (s : Objects) (blocks : Blocks) (p : ℕ)
        (t : Stage) (answer : Option Answer) (io : List Bool) (a : Point) (o : Object) →
        IsReady m v images s p t answer → IsInRange o → m.asks v s p t ≡ Some a →
        is_needed_exclusively o (before_point s a (m.need v s p t)) ≡ false →
        SameAt o (m.piece v images s blocks p t answer io).objects s

  -- A piece that is refused changes neither the state nor the disk's blocks, except that a `sync`
  -- keeps what it wrote.
  abbrev pub RefusalsChangeNothing : Type 0
  RefusalsChangeNothing =
      (v : World) (images : ImageTable) (s : Objects) (blocks : Blocks) (p : ℕ) (t : Stage)
      (answer : Option Answer) (io : List Bool) (why : Refusal) →
      t.call ≢ Sync → (m.piece v images s blocks p t answer io).after ≡ Fails why →
      ((m.piece v images s blocks p t answer io).objects ≡ s)
      × ((m.piece v images s blocks p t answer io).blocks ≡ blocks)

  -- What a piece keeps, and what it may do only once.
  pub record PieceLaws : Type 0 where
    -- a sound store stays sound
    pub store : (v : World) (images : ImageTable) (s : Objects) (blocks : Blocks) (p : ℕ)
        (t : Stage) (answer : Option Answer) (io : List Bool) →
        IsReady m v images s p t answer → HasWholeBlocks v blocks →
        IsSoundStore v (m.piece v images s blocks p t answer io).objects
    -- the images of grafts stay loaded
    pub images_loaded : (v : World) (images : ImageTable) (s : Objects) (blocks : Blocks) (p : ℕ)
        (t : Stage) (answer : Option Answer) (io : List Bool) →
        IsReady m v images s p t answer → ImagesAreLoaded images s.accounts →
        ImagesAreLoaded images (m.piece v images s blocks p t answer io).objects.accounts
    -- what fits the disk still fits
    pub disk : (v : World) (images : ImageTable) (s : Objects) (blocks : Blocks) (p : ℕ) (t : Stage)
        (answer : Option Answer) (io : List Bool) →
        IsReady m v images s p t answer →
        FitsDisk v (m.piece v images s blocks p t answer io).objects.things.cache
    -- a refusal changes nothing (`RefusalsChangeNothing`)
    pub refused : RefusalsChangeNothing
    -- blocks stay whole
    pub whole_blocks : (v : World) (images : ImageTable) (s : Objects) (blocks : Blocks) (p : ℕ)
        (t : Stage) (answer : Option Answer) (io : List Bool) →
        IsReady m v images s p t answer → HasWholeBlocks v blocks →
        HasWholeBlocks v (m.piece v images s blocks p t answer io).blocks
    -- a piece ends no process except the caller
    pub others_live : (v : World) (images : ImageTable) (s : Objects) (blocks : Blocks) (p q : ℕ)
        (t : Stage) (answer : Option Answer) (io : List Bool) →
        IsReady m v images s p t answer → q ≢ p → lives s.things.queue q ≡ true →
        lives (m.piece v images s blocks p t answer io).objects.things.queue q ≡ true
    -- a piece that ends the caller ends its call
    pub caller_lives : (v : World) (images : ImageTable) (s : Objects) (blocks : Blocks) (p : ℕ)
        (t : Stage) (answer : Option Answer) (io : List Bool) →
        IsReady m v images s p t answer →
        continues (m.piece v images s blocks p t answer io).after ≡ true →
        lives (m.piece v images s blocks p t answer io).objects.things.queue p ≡ true
    -- a piece installs at most one graft
    pub one_graft : (v : World) (images : ImageTable) (s : Objects) (blocks : Blocks) (p : ℕ)
        (t : Stage) (answer : Option Answer) (io : List Bool) (q pt r pu : ℕ) →
        IsReady m v images s p t answer →
        is_new_graft s (m.piece v images s blocks p t answer io).objects q pt ≡ true →
        is_new_graft s (m.piece v images s blocks p t answer io).objects r pu ≡ true → (q ≡ r)
        × (pt ≡ pu)
    -- and then ends its call
    pub graft_ends : (v : World) (images : ImageTable) (s : Objects) (blocks : Blocks) (p : ℕ)
        (t : Stage) (answer : Option Answer) (io : List Bool) (q pt : ℕ) →
        IsReady m v images s p t answer →
        is_new_graft s (m.piece v images s blocks p t answer io).objects q pt ≡ true →
        continues (m.piece v images s blocks p t answer io).after ≡ false
    -- a piece gives at most one slice
    pub one_slice : (v : World) (images : ImageTable) (s : Objects) (blocks : Blocks) (p : ℕ)
        (t : Stage) (answer : Option Answer) (io : List Bool) →
        IsReady m v images s p t answer →
        slices_in (m.piece v images s blocks p t answer io).objects.things.queue
        ≤ slices_in s.things.queue + 1
    -- and then ends its call
    pub slice_ends : (v : World) (images : ImageTable) (s : Objects) (blocks : Blocks) (p : ℕ)
        (t : Stage) (answer : Option Answer) (io : List Bool) →
        IsReady m v images s p t answer →
        slices_in s.things.queue < slices_in
        (m.piece v images s blocks p t answer io).objects.things.queue →
        continues (m.piece v images s blocks p t answer io).after ≡ false

  -- A piece and its disk calls.
  pub record DiskLaws : Type 0 where
    -- a piece depends on what its own disk calls do, and on nothing that later ones do
    pub own_calls : (v : World) (images : ImageTable) (s : Objects) (blocks : Blocks) (p : ℕ)
        (t : Stage) (answer : Option Answer) (io rest : List Bool) →
        (m.piece v images s blocks p t answer io).calls ≤ length io →
        m.piece v images s blocks p t answer (io ++ rest) ≡ m.piece v images s blocks p t answer io
    -- it makes at most as many disk calls as there are frames
    pub few_calls : (v : World) (images : ImageTable) (s : Objects) (blocks : Blocks) (p : ℕ)
        (t : Stage) (answer : Option Answer) (io : List Bool) →
        IsReady m v images s p t answer → (m.piece v images s blocks p t answer io).calls ≤ v.frames
    -- it is refused with a disk fault only if one of them failed
    pub fault : (v : World) (images : ImageTable) (s : Objects) (blocks : Blocks) (p : ℕ)
        (t : Stage) (answer : Option Answer) (io : List Bool) →
        (m.piece v images s blocks p t answer io).after ≡ Fails DiskFault →
        list_any (λ failed. failed) (take (m.piece v images s blocks p t answer io).calls io) ≡ true

  -- At which stages a call may be, and for how long.
  pub record StageLaws : Type 0 where
    -- a call begins at a stage that fits
    pub first : (v : World) (images : ImageTable) (s : Objects) (p : ℕ) (c : SysCall) (t : Stage) →
        m.early v images p c ≡ Ok t → m.fits v s p t ≡ true
    -- that is a stage of the call itself
    pub same_call : (v : World) (images : ImageTable) (p : ℕ) (c : SysCall) (t : Stage) →
        m.early v images p c ≡ Ok t → t.call ≡ c
    -- a piece goes on to a stage that fits
    pub next : (v : World) (images : ImageTable) (s : Objects) (blocks : Blocks) (p : ℕ)
        (t u : Stage) (answer : Option Answer) (io : List Bool) →
        IsReady m v images s p t answer →
        (m.piece v images s blocks p t answer io).after ≡ Continues u →
        m.fits v (m.piece v images s blocks p t answer io).objects p u ≡ true
    -- and to one of the same call
    pub same_call_next : (v : World) (images : ImageTable) (s : Objects) (blocks : Blocks) (p : ℕ)
        (t u : Stage) (answer : Option Answer) (io : List Bool) →
        IsReady m v images s p t answer →
        (m.piece v images s blocks p t answer io).after ≡ Continues u → u.call ≡ t.call
    -- whether a stage fits depends only on the caller's open files, without their windows
    pub fits_same : (v : World) (s u : Objects) (p : ℕ) (t : Stage) → SameFiles p s u →
        m.fits v s p t ≡ m.fits v u p t
    -- a granted call is also granted when more images are loaded
    pub more_images : (v : World) (images more : ImageTable) (p : ℕ) (c : SysCall) (t : Stage) →
        Extends images more →
        m.early v images p c ≡ Ok t → m.early v more p c ≡ Ok t
    -- 1 to 15 pieces are left
    pub some_left : (v : World) (images : ImageTable) (s : Objects) (p : ℕ) (t : Stage) →
        IsStanding m v images s p t →
        (1 ≤ m.left v s p t) × (m.left v s p t ≤ 15)
    -- and fewer after each
    pub left_falls : (v : World) (images : ImageTable) (s : Objects) (blocks : Blocks) (p : ℕ)
        (t u : Stage) (answer : Option Answer) (io : List Bool) →
        IsReady m v images s p t answer →
        (m.piece v images s blocks p t answer io).after ≡ Continues u →
        m.left v (m.piece v images s blocks p t answer io).objects p u < m.left v s p t
    -- how many are left depends only on the caller's open files, without their windows
    pub left_same : (v : World) (s u : Objects) (p : ℕ) (t : Stage) → SameFiles p s u →
        m.left v s p t ≡ m.left v u p t

-- The laws of a table of calls: of its needs, asks, footprints, pieces, disk calls and stages.
pub record Laws (m : Meaning) : Type 0 where
  pub need : NeedLaws m
  pub ask : AskLaws m
  pub footprint : FootprintLaws m
  pub piece : PieceLaws m
  pub disk_calls : DiskLaws m
  pub stages : StageLaws m
