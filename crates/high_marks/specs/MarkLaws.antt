-- The table of high marks meets the laws of every table. Its pieces change what pieces of the plain
-- table change, so most laws are those of the plain table for the call as that is to do it.
use Rattle.std.specs.Prelude.{◌≡◌, ◌≢◌, ℕ, ◌<◌, max, nat_lt, Bool, true, false, List, Option, Some, None}
use Rattle.std.specs.Result.{is_ok}
use Rattle.std.proofs.Common.{refl, sym, subst, ap, ◌∙◌}
use Rattle.std.proofs.lemmas.Bool.{or_left}
use Rattle.kernel_model.specs.declared.Need.{Need}
use Rattle.kernel_model.specs.declared.Point.{Point}
use Rattle.kernel_model.specs.declared.Object.TheVariants.{Cell}
use Rattle.kernel_model.specs.declared.Refusal.{Refusal}
use Rattle.kernel_model.specs.declared.Refusal.TheVariants.{BadIndex, DiskFault}
use Rattle.kernel_model.specs.declared.SysCall.{SysCall}
use Rattle.kernel_model.specs.declared.SysCall.TheVariants.{Poke, Sync}
use Rattle.kernel_model.specs.World.{World, ImageTable, Blocks}
use Rattle.kernel_model.specs.Objects.{Objects, Things}
use Rattle.kernel_model.specs.SameObject.{same_object_self}
use Rattle.kernel_model.specs.Meaning.{Stage, Answer, After, Continues, Fails, registers_of}
use Rattle.kernel_model.specs.Alike.{AgreeOn, SameLiving, is_needed_exclusively}
use Rattle.kernel_model.specs.Early.{TOP_POINT, refused, begins_unless, plain_early}
use Rattle.kernel_model.specs.Needs.{piece_needs, piece_ask}
use Rattle.kernel_model.specs.Pieces.{plain_calls, piece_fits, pieces_left}
use Rattle.kernel_model.specs.Laws.{Laws, NeedLaws, AskLaws, FootprintLaws, PieceLaws, DiskLaws}
use Rattle.kernel_model.specs.Laws.{StageLaws, IsStanding, IsReady, IsRightAnswer, PieceAlike}
use Rattle.kernel_model.specs.Laws.{before_point, continues}
use Rattle.call_pieces.specs.PlainLaws.{laws_of_plain}
use Rattle.high_marks.specs.HighMarks.{as_plain, told_after, told, high_marks}

-- ---- the call as the plain table does it

-- whether a call begins has to do with its refusal alone
same_start : (r : Option Refusal) (c d : SysCall) →
    is_ok (begins_unless c r) ≡ is_ok (begins_unless d r)
same_start None c d = refl
same_start (Some why) c d = refl

-- it begins where the call begins
same_granted : (w : Objects) (v : World) (images : ImageTable) (p : ℕ) (c : SysCall) →
    is_ok (plain_early TOP_POINT v images p (as_plain w p c))
    ≡ is_ok (plain_early TOP_POINT v images p c)
same_granted w v images p (Poke k x) =
    same_start (refused (nat_lt 3 k) BadIndex None) (as_plain w p (Poke k x)) (Poke k x)
same_granted w v images p c = refl

-- it needs the same objects
same_needs : (w : Objects) (c : SysCall) (n : ℕ) (v : World) (s : Objects) (p : ℕ) →
    piece_needs (as_plain w p c) n v s p ≡ piece_needs c n v s p
same_needs w (Poke k x) n v s p = refl
same_needs w c n v s p = refl

-- it asks the same point
same_asks : (w : Objects) (c : SysCall) (n : ℕ) (v : World) (u : Things) (p : ℕ) →
    piece_ask (as_plain w p c) n v u p ≡ piece_ask c n v u p
same_asks w (Poke k x) n v u p = refl
same_asks w c n v u p = refl

-- it stands at the same stages
same_fits : (w : Objects) (c : SysCall) (n : ℕ) (u : Things) (p : ℕ) →
    piece_fits (as_plain w p c) n u p ≡ piece_fits c n u p
same_fits w (Poke k x) n u p = refl
same_fits w c n u p = refl

-- it takes as many pieces
same_left : (w : Objects) (c : SysCall) (n : ℕ) (u : Things) (p : ℕ) →
    pieces_left (as_plain w p c) n u p ≡ pieces_left c n u p
same_left w (Poke k x) n u p = refl
same_left w c n u p = refl

-- only a sync is done as one
same_sync : (w : Objects) (p : ℕ) (c : SysCall) → c ≢ Sync → as_plain w p c ≢ Sync
same_sync w p (Poke k x) other = λ e. absurd cc
same_sync w p c other = other

-- states in which the cell is the same have the same call done
same_call : (c : SysCall) (n : ℕ) (v : World) (s u : Objects) (p : ℕ) →
    AgreeOn (piece_needs c n v s p) s u → as_plain u p c ≡ as_plain s p c
same_call (Poke k x) n v s u p same =
    let there = or_left _ _ (same_object_self (Cell p k)) in
    ap (λ (i : ℕ). Poke k (max x i)) (sym (same (Cell p k) there))
same_call c n v s u p same = refl

-- a call that asks a point is done as it is
asks_as_it_is : (w : Objects) (c : SysCall) (n : ℕ) (v : World) (u : Things) (p : ℕ) (a : Point) →
    piece_ask c n v u p ≡ Some a → as_plain w p c ≡ c
asks_as_it_is w (Poke k x) n v u p a asks = cc
asks_as_it_is w c n v u p a asks = refl

-- ---- what comes after

-- what is refused, the plain table refuses
told_fails : (c : SysCall) (after : After) (why : Refusal) → told_after c after ≡ Fails why →
    after ≡ Fails why
told_fails (Poke k x) after why h = cc
told_fails c after why h = h

-- what goes on goes on in the plain table
told_goes_on : (c : SysCall) (after : After) (u : Stage) → told_after c after ≡ Continues u →
    after ≡ Continues u
told_goes_on (Poke k x) after u h = cc
told_goes_on c after u h = h

-- and it is no poke
goes_on_as_it_is : (w : Objects) (p : ℕ) (c : SysCall) (after : After) (u : Stage) →
    told_after (as_plain w p c) after ≡ Continues u → as_plain w p c ≡ c
goes_on_as_it_is w p (Poke k x) after u h = cc
goes_on_as_it_is w p c after u h = refl

-- the same of whether it goes on
told_continues : (c : SysCall) (after : After) → continues (told_after c after) ≡ true →
    continues after ≡ true
told_continues (Poke k x) after h = cc
told_continues c after h = h

-- what ends in the plain table ends
told_ends : (c : SysCall) (after : After) → continues after ≡ false →
    continues (told_after c after) ≡ false
told_ends (Poke k x) after h = refl
told_ends c after h = h

-- ---- pieces

-- the stage of the call as the plain table does it
abbrev stage_in : Objects → ℕ → Stage → Stage
stage_in s p t = record t { call = as_plain s p t.call }

-- a call stands in the plain table where it stands here
stands : (v : World) (images : ImageTable) (s : Objects) (p : ℕ) (t : Stage) →
    IsStanding high_marks v images s p t → IsStanding plain_calls v images s p t
stands v images s p t h =
    record { store = h.store; caller = h.caller; granted = h.granted; fits = h.fits }

-- and is ready there as the plain table does it
ready : (v : World) (images : ImageTable) (s : Objects) (p : ℕ) (t : Stage)
    (answer : Option Answer) → IsReady high_marks v images s p t answer →
    IsReady plain_calls v images s p (stage_in s p t) answer
ready v images s p t answer h =
    record {
      standing = record {
        store = h.standing.store;
        caller = h.standing.caller;
        granted = same_granted s v images p t.call ∙ h.standing.granted;
        fits = same_fits s t.call t.piece s.things p ∙ h.standing.fits;
      };
      disk = h.disk;
      right = subst (λ (ask : Option Point). IsRightAnswer s ask (registers_of answer))
          (sym (same_asks s t.call t.piece v s.things p)) h.right;
      body = h.body;
    }

-- two pieces of one call that do the same in the plain table do the same here
alike : (ns : List Need) (v : World) (images : ImageTable) (s u : Objects) (blocks : Blocks)
    (p : ℕ) (t : Stage) (answer : Option Answer) (io : List Bool) →
    as_plain u p t.call ≡ as_plain s p t.call →
    PieceAlike ns (plain_calls.piece v images s blocks p (stage_in s p t) answer io)
    (plain_calls.piece v images u blocks p (stage_in s p t) answer io) →
    PieceAlike ns (high_marks.piece v images s blocks p t answer io)
    (high_marks.piece v images u blocks p t answer io)
alike ns v images s u blocks p t answer io same h =
    let c = as_plain s p t.call in
    subst (λ (d : SysCall). PieceAlike ns (high_marks.piece v images s blocks p t answer io)
    (told d (plain_calls.piece v images u blocks p (record t { call = d }) answer io))) (sym same)
    record {
      objects = h.objects;
      blocks = h.blocks;
      gave = h.gave;
      after = ap (told_after c) h.after;
      calls = h.calls;
    }

-- the other state is ready too for the call that is done in the first
ready_too : (v : World) (images : ImageTable) (s u : Objects) (p : ℕ) (t : Stage)
    (answer : Option Answer) → as_plain u p t.call ≡ as_plain s p t.call →
    IsReady high_marks v images u p t answer → IsReady plain_calls v images u p (stage_in s p t) answer
ready_too v images s u p t answer same k =
    subst (λ (d : SysCall). IsReady plain_calls v images u p (record t { call = d }) answer) same
    (ready v images u p t answer k)

-- ---- the laws

-- the laws of the objects of pieces are the plain table's
needs_of_marks : NeedLaws high_marks
needs_of_marks =
    record {
      prefix = laws_of_plain.need.prefix;
      files = laws_of_plain.need.files;
      user = laws_of_plain.need.user;
      most = laws_of_plain.need.most;
      ranges = λ v images s p t n h.
          laws_of_plain.need.ranges v images s p t n (stands v images s p t h);
      point = laws_of_plain.need.point;
      grafts = laws_of_plain.need.grafts;
      modes = laws_of_plain.need.modes;
      answers = λ v images s p t a h.
          laws_of_plain.need.answers v images s p t a (stands v images s p t h);
    }

-- so are those of the points that pieces ask
asks_of_marks : AskLaws high_marks
asks_of_marks =
    record {
      looks = laws_of_plain.ask.looks;
      ranges = λ v images s p t a h.
          laws_of_plain.ask.ranges v images s p t a (stands v images s p t h);
      alike = laws_of_plain.ask.alike;
      alike_before = laws_of_plain.ask.alike_before;
      alike_ahead = laws_of_plain.ask.alike_ahead;
    }

-- a piece looks at what it needs and at nothing else: a poke at its cell
looks_of_marks : (v : World) (images : ImageTable) (s u : Objects) (blocks : Blocks) (p : ℕ)
    (t : Stage) (answer : Option Answer) (io : List Bool) →
    IsReady high_marks v images s p t answer → IsReady high_marks v images u p t answer →
    AgreeOn (piece_needs t.call t.piece v s p) s u → SameLiving s u →
    PieceAlike (piece_needs t.call t.piece v s p)
    (high_marks.piece v images s blocks p t answer io)
    (high_marks.piece v images u blocks p t answer io)
looks_of_marks v images s u blocks p t answer io h k agree living =
    let ns = piece_needs t.call t.piece v s p in
    let e = same_needs s t.call t.piece v s p in
    let same = same_call t.call t.piece v s u p agree in
    alike ns v images s u blocks p t answer io same
    (subst (λ (ms : List Need).
    PieceAlike ms (plain_calls.piece v images s blocks p (stage_in s p t) answer io)
    (plain_calls.piece v images u blocks p (stage_in s p t) answer io)) e
    (laws_of_plain.footprint.looks v images s u blocks p (stage_in s p t) answer io
    (ready v images s p t answer h) (ready_too v images s u p t answer same k)
    (subst (λ (ms : List Need). AgreeOn ms s u) (sym e) agree) living))

-- a piece that asks is the plain table's
asking_looks_of_marks : (v : World) (images : ImageTable) (s u : Objects) (blocks : Blocks)
    (p : ℕ) (t : Stage) (answer : Option Answer) (io : List Bool) (a : Point) →
    IsReady high_marks v images s p t answer → IsReady high_marks v images u p t answer →
    piece_ask t.call t.piece v s.things p ≡ Some a →
    AgreeOn (before_point s a (piece_needs t.call t.piece v s p)) s u → SameLiving s u →
    PieceAlike (before_point s a (piece_needs t.call t.piece v s p))
    (high_marks.piece v images s blocks p t answer io)
    (high_marks.piece v images u blocks p t answer io)
asking_looks_of_marks v images s u blocks p t answer io a h k asks agree living =
    let ns = before_point s a (piece_needs t.call t.piece v s p) in
    let e = ap (before_point s a) (same_needs s t.call t.piece v s p) in
    let same = asks_as_it_is u t.call t.piece v s.things p a asks
    ∙ sym (asks_as_it_is s t.call t.piece v s.things p a asks) in
    alike ns v images s u blocks p t answer io same
    (subst (λ (ms : List Need).
    PieceAlike ms (plain_calls.piece v images s blocks p (stage_in s p t) answer io)
    (plain_calls.piece v images u blocks p (stage_in s p t) answer io)) e
    (laws_of_plain.footprint.asking_looks v images s u blocks p (stage_in s p t) answer io a
    (ready v images s p t answer h) (ready_too v images s u p t answer same k)
    (same_asks s t.call t.piece v s.things p ∙ asks)
    (subst (λ (ms : List Need). AgreeOn ms s u) (sym e) agree) living))

-- the laws of what a piece looks at and changes
footprint_of_marks : FootprintLaws high_marks
footprint_of_marks =
    record {
      looks = looks_of_marks;
      changes = λ v images s blocks p t answer io o h range none.
          laws_of_plain.footprint.changes v images s blocks p (stage_in s p t) answer io o
          (ready v images s p t answer h) range
          (ap (is_needed_exclusively o) (same_needs s t.call t.piece v s p) ∙ none);
      asking_looks = asking_looks_of_marks;
      asking_changes = λ v images s blocks p t answer io a o h range asks none.
          laws_of_plain.footprint.asking_changes v images s blocks p (stage_in s p t) answer io a
          o (ready v images s p t answer h) range
          (same_asks s t.call t.piece v s.things p ∙ asks)
          (ap (λ (ns : List Need). is_needed_exclusively o (before_point s a ns))
          (same_needs s t.call t.piece v s p) ∙ none);
    }

-- the laws of what a piece keeps
pieces_of_marks : PieceLaws high_marks
pieces_of_marks =
    record {
      store = λ v images s blocks p t answer io h.
          laws_of_plain.piece.store v images s blocks p (stage_in s p t) answer io
          (ready v images s p t answer h);
      images_loaded = λ v images s blocks p t answer io h.
          laws_of_plain.piece.images_loaded v images s blocks p (stage_in s p t) answer io
          (ready v images s p t answer h);
      disk = λ v images s blocks p t answer io h.
          laws_of_plain.piece.disk v images s blocks p (stage_in s p t) answer io
          (ready v images s p t answer h);
      refused = λ v images s blocks p t answer io why other fails.
          laws_of_plain.piece.refused v images s blocks p (stage_in s p t) answer io why
          (same_sync s p t.call other)
          (told_fails (as_plain s p t.call)
          (plain_calls.piece v images s blocks p (stage_in s p t) answer io).after why fails);
      whole_blocks = λ v images s blocks p t answer io h.
          laws_of_plain.piece.whole_blocks v images s blocks p (stage_in s p t) answer io
          (ready v images s p t answer h);
      others_live = λ v images s blocks p q t answer io h.
          laws_of_plain.piece.others_live v images s blocks p q (stage_in s p t) answer io
          (ready v images s p t answer h);
      caller_lives = λ v images s blocks p t answer io h on.
          laws_of_plain.piece.caller_lives v images s blocks p (stage_in s p t) answer io
          (ready v images s p t answer h)
          (told_continues (as_plain s p t.call)
          (plain_calls.piece v images s blocks p (stage_in s p t) answer io).after on);
      one_graft = λ v images s blocks p t answer io q pt r pu h.
          laws_of_plain.piece.one_graft v images s blocks p (stage_in s p t) answer io q pt r pu
          (ready v images s p t answer h);
      graft_ends = λ v images s blocks p t answer io q pt h new.
          told_ends (as_plain s p t.call)
          (plain_calls.piece v images s blocks p (stage_in s p t) answer io).after
          (laws_of_plain.piece.graft_ends v images s blocks p (stage_in s p t) answer io q pt
          (ready v images s p t answer h) new);
      one_slice = λ v images s blocks p t answer io h.
          laws_of_plain.piece.one_slice v images s blocks p (stage_in s p t) answer io
          (ready v images s p t answer h);
      slice_ends = λ v images s blocks p t answer io h more.
          told_ends (as_plain s p t.call)
          (plain_calls.piece v images s blocks p (stage_in s p t) answer io).after
          (laws_of_plain.piece.slice_ends v images s blocks p (stage_in s p t) answer io
          (ready v images s p t answer h) more);
    }

-- the laws of disk calls
disk_calls_of_marks : DiskLaws high_marks
disk_calls_of_marks =
    record {
      own_calls = λ v images s blocks p t answer io rest few.
          ap (told (as_plain s p t.call))
          (laws_of_plain.disk_calls.own_calls v images s blocks p (stage_in s p t) answer io rest
          few);
      few_calls = λ v images s blocks p t answer io h.
          laws_of_plain.disk_calls.few_calls v images s blocks p (stage_in s p t) answer io
          (ready v images s p t answer h);
      fault = λ v images s blocks p t answer io fails.
          laws_of_plain.disk_calls.fault v images s blocks p (stage_in s p t) answer io
          (told_fails (as_plain s p t.call)
          (plain_calls.piece v images s blocks p (stage_in s p t) answer io).after DiskFault fails);
    }

-- the laws of stages
stages_of_marks : StageLaws high_marks
stages_of_marks =
    record {
      first = laws_of_plain.stages.first;
      same_call = laws_of_plain.stages.same_call;
      next = λ v images s blocks p t u answer io h on.
          laws_of_plain.stages.next v images s blocks p (stage_in s p t) u answer io
          (ready v images s p t answer h)
          (told_goes_on (as_plain s p t.call)
          (plain_calls.piece v images s blocks p (stage_in s p t) answer io).after u on);
      same_call_next = λ v images s blocks p t u answer io h on.
          let after = (plain_calls.piece v images s blocks p (stage_in s p t) answer io).after in
          laws_of_plain.stages.same_call_next v images s blocks p (stage_in s p t) u answer io
          (ready v images s p t answer h)
          (told_goes_on (as_plain s p t.call) after u on)
          ∙ goes_on_as_it_is s p t.call after u on;
      fits_same = laws_of_plain.stages.fits_same;
      more_images = laws_of_plain.stages.more_images;
      some_left = λ v images s p t h.
          laws_of_plain.stages.some_left v images s p t (stands v images s p t h);
      left_falls = λ v images s blocks p t u answer io h on.
          let x = plain_calls.piece v images s blocks p (stage_in s p t) answer io in
          subst (λ (n : ℕ). plain_calls.left v x.objects p u < n)
          (same_left s t.call t.piece s.things p)
          (laws_of_plain.stages.left_falls v images s blocks p (stage_in s p t) u answer io
          (ready v images s p t answer h)
          (told_goes_on (as_plain s p t.call) x.after u on));
      left_same = laws_of_plain.stages.left_same;
    }

-- The laws of a table hold of high marks.
pub laws_of_high_marks : Laws high_marks
laws_of_high_marks =
    record {
      need = needs_of_marks;
      ask = asks_of_marks;
      footprint = footprint_of_marks;
      piece = pieces_of_marks;
      disk_calls = disk_calls_of_marks;
      stages = stages_of_marks;
    }
