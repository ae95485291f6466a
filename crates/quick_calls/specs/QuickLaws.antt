-- What has to hold of a table of quick calls, and that it meets the laws of every table then.
use Rattle.std.specs.Prelude.{◌≡◌, ℕ, ◌<◌, ◌≤◌, ◌==◌, ◌&&◌, Bool, true, false, List, [], ◌∷◌, length}
use Rattle.std.specs.Prelude.{Option, None, Some, Ok, ⊤}
use Rattle.std.specs.List.{AllByRecursion as Each}
use Rattle.std.specs.Result.{is_ok}
use Rattle.std.proofs.Common.{arith, refl, sym, ap, subst, ◌∙◌}
use Rattle.std.proofs.lemmas.Bool.{or_left}
use Rattle.kernel_model.specs.declared.Need.{Need}
use Rattle.kernel_model.specs.declared.Object.{Object}
use Rattle.kernel_model.specs.declared.Object.TheVariants.{Graft, Queue, Cell, Acct, OpenFile, Cache, Lock, Pol}
use Rattle.kernel_model.specs.declared.Refusal.{Refusal}
use Rattle.kernel_model.specs.declared.SysCall.{SysCall}
use Rattle.kernel_model.specs.World.{World, Blocks}
use Rattle.kernel_model.specs.Objects.{Objects, SameAt, same_object}
use Rattle.kernel_model.specs.SameObject.{same_object_self}
use Rattle.kernel_model.specs.Policies.{lives}
use Rattle.kernel_model.specs.Meaning.{Stage, stage, Piece, Continues, Fails}
use Rattle.kernel_model.specs.Early.{begins_unless}
use Rattle.kernel_model.specs.Events.{wanted}
use Rattle.kernel_model.specs.Sound.{IsSoundStore}
use Rattle.kernel_model.specs.Alike.{AgreeOn, Keeps, is_needed, is_needed_exclusively}
use Rattle.kernel_model.specs.Laws.{Laws, NeedLaws, AskLaws, FootprintLaws, PieceLaws, DiskLaws}
use Rattle.kernel_model.specs.Laws.{StageLaws, IsOwnFile, waits_for_user, PieceAlike, continues}
use Rattle.call_laws.specs.NeedParts.{each_contains}
use Rattle.call_laws.specs.NeedOrder.{Follows, follows_next}
use Rattle.call_laws.specs.NeedRanges.{NeedIsInRange}
use Rattle.call_laws.specs.QuickPieces.{is_disk_fault, is_faulty}
use Rattle.call_pieces.specs.EarlyFaults.{is_for_disk}
use Rattle.quick_calls.specs.QuickTables.{Outcome, Leaves, Refused, QuickTable, objects_after}
use Rattle.quick_calls.specs.QuickTables.{piece_of_outcome, quick_meaning}

-- ---- what has to hold of a table

-- a call comes to a refusal because the disk failed
abbrev pub is_disk_refusal : Outcome → Bool
is_disk_refusal (Leaves u reply) = false
is_disk_refusal (Refused why) = is_disk_fault why

-- an object is a graft
abbrev pub is_graft : Object → Bool
is_graft (Graft q pt) = true
is_graft o = false

-- what a call of process p may need: open files of its own, and no graft; the holder of a user lock
-- hinders a call that takes it alone
abbrev pub MayBeNeeded : ℕ → SysCall → Need → Type 0
MayBeNeeded p c n =
    IsOwnFile p n.object × (n.by_user ≡ waits_for_user c n.object) × (is_graft n.object ≡ false)

-- two states come to the same: where they were the same they are so afterwards, and the answers are
-- equal
abbrev pub ComeToTheSame : (s u : Objects) → Outcome → Outcome → Type 0
ComeToTheSame s u (Leaves x reply) (Leaves y answer) = Keeps s u x y × (reply ≡ answer)
ComeToTheSame s u (Refused why) (Refused wherefore) = why ≡ wherefore
ComeToTheSame s u _ _ = ⊥

-- accounts, queue and cache stay
pub record KeepsRest (s u : Objects) : Type 0 where
  pub accounts : u.accounts ≡ s.accounts
  pub queue : u.things.queue ≡ s.things.queue
  pub cache : u.things.cache ≡ s.things.cache

-- What has to hold of a table of quick calls.
pub record QuickLaws (x : QuickTable) : Type 0 where
  -- a call that isn't refused at once is the table's own
  pub own : (p : ℕ) (c : SysCall) → x.refusal p c ≡ None → x.owns c ≡ true
  -- no call is refused at once because the disk failed
  pub no_early_fault : (p : ℕ) (c : SysCall) → is_for_disk (x.refusal p c) ≡ false
  -- the next object of the list depends on the objects before it alone
  pub order : (c : SysCall) (s u : Objects) (p : ℕ) → Follows s u (x.need c s p) (x.need c u p)
  -- at most 255 objects
  pub few : (c : SysCall) (s : Objects) (p : ℕ) → length (x.need c s p) ≤ 255
  -- of the kinds that may be needed
  pub kinds : (c : SysCall) (s : Objects) (p : ℕ) → Each (MayBeNeeded p c) (x.need c s p)
  -- each in one mode
  pub modes : (c : SysCall) (s : Objects) (p : ℕ) →
      Each (λ (n : Need). wanted n.object (x.need c s p) ≡ n.mode) (x.need c s p)
  -- with numbers in their ranges
  pub ranges : (c : SysCall) (s : Objects) (p : ℕ) → p < 16 → x.refusal p c ≡ None →
      Each NeedIsInRange (x.need c s p)
  -- a call looks at what it needs alone
  pub looks : (c : SysCall) (s u : Objects) (p : ℕ) → AgreeOn (x.need c s p) s u →
      ComeToTheSame s u (x.does c s p) (x.does c u p)
  -- it changes what it needs exclusively alone
  pub changes : (c : SysCall) (s : Objects) (p : ℕ) (o : Object) →
      is_needed_exclusively o (x.need c s p) ≡ false →
      SameAt o (objects_after s (x.does c s p)) s
  -- and neither accounts, nor the queue, nor the cache
  pub keeps : (c : SysCall) (s : Objects) (p : ℕ) → KeepsRest s (objects_after s (x.does c s p))
  -- a sound store stays sound
  pub store : (c : SysCall) (v : World) (s : Objects) (p : ℕ) → x.refusal p c ≡ None →
      lives s.things.queue p ≡ true → IsSoundStore v s →
      IsSoundStore v (objects_after s (x.does c s p))
  -- no call blames the disk
  pub no_fault : (c : SysCall) (s : Objects) (p : ℕ) → is_disk_refusal (x.does c s p) ≡ false

-- ---- the laws of needed objects and of points

-- a granted call isn't refused
pub granted_none : (c : SysCall) (r : Option Refusal) → is_ok (begins_unless c r) ≡ true → r ≡ None
granted_none c None h = refl
granted_none c (Some why) h = cc

-- what is no graft isn't one
other_object : (q pt : ℕ) (o : Object) → is_graft o ≡ false → same_object (Graft q pt) o ≡ false
unfolding same_object
other_object q pt (Graft r pu) h = cc
other_object q pt (Acct r) h = refl
other_object q pt (Cell r k) h = refl
other_object q pt (OpenFile r fd) h = refl
other_object q pt Queue h = refl
other_object q pt Cache h = refl
other_object q pt (Lock u) h = refl
other_object q pt (Pol kind) h = refl

-- neither of two holds
neither : (a b : Bool) → a ≡ false → b ≡ false → (elim a [ true ↦ true | false ↦ b ]) ≡ false
neither true b h k = cc
neither false b h k = k

-- no graft is needed
no_graft : (p : ℕ) (c : SysCall) (q pt : ℕ) (ns : List Need) → Each (MayBeNeeded p c) ns →
    is_needed (Graft q pt) ns ≡ false
no_graft p c q pt [] each = refl
no_graft p c q pt (n ∷ ns) each =
    let here = other_object q pt n.object each.0.2 in
    let rest = no_graft p c q pt ns each.1 in
    grind (arith, here, rest)

-- the laws of needed objects
needs_of_quick : (x : QuickTable) → QuickLaws x → NeedLaws (quick_meaning x)
needs_of_quick x l =
    record {
      prefix = λ v s u p t i h k a.
          follows_next s u (x.need t.call s p) (x.need t.call u p) i (l.order t.call s u p) a;
      files = λ v s p t n h c.
          (each_contains (MayBeNeeded p t.call) (x.need t.call s p) n (l.kinds t.call s p) c).0;
      user = λ v s p t n h c.
          (each_contains (MayBeNeeded p t.call) (x.need t.call s p) n (l.kinds t.call s p) c).1;
      most = λ v s p t h. l.few t.call s p;
      ranges = λ v images s p t n h c.
          each_contains NeedIsInRange (x.need t.call s p) n
          (l.ranges t.call s p (h.store.numbers p h.caller)
          (granted_none t.call (x.refusal p t.call) h.granted)) c;
      point = λ v s p t a h e. cc;
      grafts = λ v s p t q pt h e.
          let no : true ≡ false =
          sym e ∙ no_graft p t.call q pt (x.need t.call s p) (l.kinds t.call s p) in absurd cc;
      modes = λ v s p t n h c.
          each_contains (λ (m : Need). wanted m.object (x.need t.call s p) ≡ m.mode)
          (x.need t.call s p) n (l.modes t.call s p) c;
      answers = λ v images s p t a h e. cc;
    }

-- no piece asks a point
asks_of_quick : (x : QuickTable) → AskLaws (quick_meaning x)
asks_of_quick x =
    record {
      looks = λ v s u p t h k a. refl;
      ranges = λ v images s p t a h e. cc;
      alike = λ v s u p t h a. tt;
      alike_before = λ v s u p t a b h k e f. cc;
      alike_ahead = λ v s u p t a b h k e f. cc;
    }

-- ---- what a piece looks at and changes

-- two pieces that come to the same are alike on what the states agree on
alike_on : (ns : List Need) (s u : Objects) (blocks : Blocks) (a b : Outcome) → AgreeOn ns s u →
    ComeToTheSame s u a b →
    PieceAlike ns (piece_of_outcome s blocks a) (piece_of_outcome u blocks b)
alike_on ns s u blocks (Leaves w reply) (Leaves y answer) agree same =
    record {
      objects = λ o e. same.0 o (agree o e);
      blocks = refl;
      gave = refl;
      after = ap (λ (r : _). Rattle.kernel_model.specs.Meaning.EndsWith r) same.1;
      calls = refl;
    }
alike_on ns s u blocks (Refused why) (Refused wherefore) agree same =
    record {
      objects = λ o e. agree o e;
      blocks = refl;
      gave = refl;
      after = ap Fails same;
      calls = refl;
    }
alike_on ns s u blocks (Leaves w reply) (Refused why) agree same = absurd same
alike_on ns s u blocks (Refused why) (Leaves w reply) agree same = absurd same

-- the objects of a piece
objects_of_piece : (s : Objects) (blocks : Blocks) (a : Outcome) →
    (piece_of_outcome s blocks a).objects ≡ objects_after s a
objects_of_piece s blocks (Leaves u reply) = refl
objects_of_piece s blocks (Refused why) = refl

-- the laws of what a piece looks at and changes
footprint_of_quick : (x : QuickTable) → QuickLaws x → FootprintLaws (quick_meaning x)
footprint_of_quick x l =
    record {
      looks = λ v images s u blocks p t answer io ready other agree living.
          alike_on (x.need t.call s p) s u blocks (x.does t.call s p) (x.does t.call u p) agree
          (l.looks t.call s u p agree);
      changes = λ v images s blocks p t answer io o ready range free.
          subst (λ (w : Objects). SameAt o w s)
          (sym (objects_of_piece s blocks (x.does t.call s p)))
          (l.changes t.call s p o free);
      asking_looks = λ v images s u blocks p t answer io a ready other asks agree living. cc;
      asking_changes = λ v images s blocks p t answer io a o ready range asks free. cc;
    }

-- ---- what a piece keeps

-- A piece keeps accounts, queue, cache and disk, makes no call of the disk, and ends its call.
record IsSmall (s : Objects) (blocks : Blocks) (a : Piece) : Type 0 where
  pub accounts : a.objects.accounts ≡ s.accounts
  pub queue : a.objects.things.queue ≡ s.things.queue
  pub cache : a.objects.things.cache ≡ s.things.cache
  pub disk : a.blocks ≡ blocks
  pub calls : a.calls ≡ 0
  pub stops : continues a.after ≡ false
  pub faultless : is_faulty a.after ≡ false

-- what a quick call comes to
small_outcome : (s : Objects) (blocks : Blocks) (a : Outcome) → KeepsRest s (objects_after s a) →
    is_disk_refusal a ≡ false → IsSmall s blocks (piece_of_outcome s blocks a)
small_outcome s blocks (Leaves u reply) kept fault =
    record {
      accounts = kept.accounts;
      queue = kept.queue;
      cache = kept.cache;
      disk = refl;
      calls = refl;
      stops = refl;
      faultless = refl;
    }
small_outcome s blocks (Refused why) kept fault =
    record {
      accounts = refl;
      queue = refl;
      cache = refl;
      disk = refl;
      calls = refl;
      stops = refl;
      faultless = fault;
    }

-- each piece of a table
small : (x : QuickTable) → QuickLaws x → (c : SysCall) (s : Objects) (blocks : Blocks) (p : ℕ) →
    IsSmall s blocks (piece_of_outcome s blocks (x.does c s p))
small x l c s blocks p =
    small_outcome s blocks (x.does c s p) (l.keeps c s p) (l.no_fault c s p)

-- a refusal changes nothing
refused_keeps : (s : Objects) (blocks : Blocks) (a : Outcome) (why : Refusal) →
    (piece_of_outcome s blocks a).after ≡ Fails why →
    ((piece_of_outcome s blocks a).objects ≡ s) × ((piece_of_outcome s blocks a).blocks ≡ blocks)
refused_keeps s blocks (Leaves u reply) why h = cc
refused_keeps s blocks (Refused other) why h = (refl, refl)

-- the laws of what a piece keeps
pieces_of_quick : (x : QuickTable) → QuickLaws x → PieceLaws (quick_meaning x)
pieces_of_quick x l =
    record {
      store = λ v images s blocks p t answer io ready whole.
          subst (λ (w : Objects). IsSoundStore v w)
          (sym (objects_of_piece s blocks (x.does t.call s p)))
          (l.store t.call v s p
          (granted_none t.call (x.refusal p t.call) ready.standing.granted)
          ready.standing.caller ready.standing.store);
      images_loaded = λ v images s blocks p t answer io ready loaded.
          let same = (small x l t.call s blocks p).accounts in rw same loaded;
      disk = λ v images s blocks p t answer io ready.
          let same = (small x l t.call s blocks p).cache in rw same ready.disk;
      refused = λ v images s blocks p t answer io why other fails.
          refused_keeps s blocks (x.does t.call s p) why fails;
      whole_blocks = λ v images s blocks p t answer io ready whole.
          let same = (small x l t.call s blocks p).disk in rw same whole;
      others_live = λ v images s blocks p q t answer io ready other alive.
          ap (λ rows. lives rows q) (small x l t.call s blocks p).queue ∙ alive;
      caller_lives = λ v images s blocks p t answer io ready on.
          ap (λ rows. lives rows p) (small x l t.call s blocks p).queue ∙ ready.standing.caller;
      one_graft = λ v images s blocks p t answer io q pt r pu ready new other.
          let same = (small x l t.call s blocks p).accounts in grind (arith, same, new);
      graft_ends = λ v images s blocks p t answer io q pt ready new.
          (small x l t.call s blocks p).stops;
      one_slice = λ v images s blocks p t answer io ready.
          let same = (small x l t.call s blocks p).queue in grind (arith, same);
      slice_ends = λ v images s blocks p t answer io ready more.
          (small x l t.call s blocks p).stops;
    }

-- the laws of disk calls: there are none
disk_calls_of_quick : (x : QuickTable) → QuickLaws x → DiskLaws (quick_meaning x)
disk_calls_of_quick x l =
    record {
      own_calls = λ v images s blocks p t answer io rest few. refl;
      few_calls = λ v images s blocks p t answer io ready.
          let none = (small x l t.call s blocks p).calls in omega (arith, none);
      fault = λ v images s blocks p t answer io fails.
          let no : true ≡ false =
          sym (ap is_faulty fails) ∙ (small x l t.call s blocks p).faultless in absurd cc;
    }

-- ---- stages

-- a call that isn't refused begins before its piece
begun : (c : SysCall) (r : Option Refusal) (t : Stage) → begins_unless c r ≡ Ok t →
    (t ≡ stage c 0) × (r ≡ None)
begun c None t h = (cc, refl)
begun c (Some why) t h = cc

-- no piece goes on
stops_here : (x : QuickTable) → QuickLaws x → (c : SysCall) (s : Objects) (blocks : Blocks) (p : ℕ)
    (u : Stage) {A : Type 0} →
    (piece_of_outcome s blocks (x.does c s p)).after ≡ Continues u → A
stops_here x l c s blocks p u on =
    let no : true ≡ false = sym (ap continues on) ∙ (small x l c s blocks p).stops in absurd cc

-- the laws of stages
stages_of_quick : (x : QuickTable) → QuickLaws x → StageLaws (quick_meaning x)
stages_of_quick x l =
    record {
      first = λ v images s p c t h.
          let b = begun c (x.refusal p c) t h in
          subst (λ (u : Stage). (x.owns u.call && u.piece == 0) ≡ true) (sym b.0)
          (ap (λ own. own && true) (l.own p c b.1));
      same_call = λ v images p c t h.
          ap (λ (u : Stage). u.call) (begun c (x.refusal p c) t h).0;
      next = λ v images s blocks p t u answer io ready on. stops_here x l t.call s blocks p u on;
      same_call_next = λ v images s blocks p t u answer io ready on.
          stops_here x l t.call s blocks p u on;
      fits_same = λ v s u p t h. refl;
      more_images = λ v images more p c t ext h. h;
      some_left = λ v images s p t h. (omega arith, omega arith);
      left_falls = λ v images s blocks p t u answer io ready on.
          stops_here x l t.call s blocks p u on;
      left_same = λ v s u p t h. refl;
    }

-- A table of quick calls that meets these laws meets the laws of every table.
pub laws_of_quick : (x : QuickTable) → QuickLaws x → Laws (quick_meaning x)
laws_of_quick x l =
    record {
      need = needs_of_quick x l;
      ask = asks_of_quick x;
      footprint = footprint_of_quick x l;
      piece = pieces_of_quick x l;
      disk_calls = disk_calls_of_quick x l;
      stages = stages_of_quick x l;
    }
