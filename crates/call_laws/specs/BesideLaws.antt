-- Two tables of calls, each of which meets the laws of every table, meet them as one table. Each
-- law is that of the table whose call it is; a call goes on as itself, and so in its own table.
use Rattle.std.specs.Prelude.{◌≡◌, ◌<◌, ℕ, Bool, true, false, Option}
use Rattle.std.proofs.Common.{subst, sym}
use Rattle.kernel_model.specs.declared.SysCall.{SysCall}
use Rattle.kernel_model.specs.World.{World, ImageTable}
use Rattle.kernel_model.specs.Objects.{Objects}
use Rattle.kernel_model.specs.Meaning.{Meaning, Stage, Answer}
use Rattle.kernel_model.specs.Beside.{beside}
use Rattle.kernel_model.specs.Laws.{Laws, NeedLaws, AskLaws, FootprintLaws, PieceLaws, DiskLaws}
use Rattle.kernel_model.specs.Laws.{StageLaws, IsStanding, IsReady}

-- the one table where the test holds, else the other
abbrev table_by : Bool → (a b : Meaning) → Meaning
table_by owned a b = beside (λ c. owned) a b

-- whichever it is, it meets the laws
laws_by : (owned : Bool) (a b : Meaning) → Laws a → Laws b → Laws (table_by owned a b)
laws_by true a b la lb = la
laws_by false a b la lb = lb

module _ (owns : SysCall → Bool) (a b : Meaning) (la : Laws a) (lb : Laws b) where
  -- the table of a call
  abbrev table_of : SysCall → Meaning
  table_of c = table_by (owns c) a b

  -- and its laws
  laws_of : (c : SysCall) → Laws (table_of c)
  laws_of c = laws_by (owns c) a b la lb

  -- a call that stands at a stage stands there in its own table
  stands : (v : World) (images : ImageTable) (s : Objects) (p : ℕ) (t : Stage) →
      IsStanding (beside owns a b) v images s p t →
      IsStanding (table_of t.call) v images s p t
  stands v images s p t h =
      record { store = h.store; caller = h.caller; granted = h.granted; fits = h.fits }

  -- and its next piece is ready in it
  ready : (v : World) (images : ImageTable) (s : Objects) (p : ℕ) (t : Stage)
      (answer : Option Answer) → IsReady (beside owns a b) v images s p t answer →
      IsReady (table_of t.call) v images s p t answer
  ready v images s p t answer h =
      record {
        standing = stands v images s p t h.standing;
        disk = h.disk;
        right = h.right;
        body = h.body;
      }

  -- the laws of the objects of pieces
  needs_of_beside : NeedLaws (beside owns a b)
  needs_of_beside =
      record {
        prefix = λ v s u p t. (laws_of t.call).need.prefix v s u p t;
        files = λ v s p t. (laws_of t.call).need.files v s p t;
        user = λ v s p t. (laws_of t.call).need.user v s p t;
        most = λ v s p t. (laws_of t.call).need.most v s p t;
        ranges = λ v images s p t n h.
            (laws_of t.call).need.ranges v images s p t n (stands v images s p t h);
        point = λ v s p t. (laws_of t.call).need.point v s p t;
        grafts = λ v s p t. (laws_of t.call).need.grafts v s p t;
        modes = λ v s p t. (laws_of t.call).need.modes v s p t;
        answers = λ v images s p t point h.
            (laws_of t.call).need.answers v images s p t point (stands v images s p t h);
      }

  -- the laws of the points that pieces ask
  asks_of_beside : AskLaws (beside owns a b)
  asks_of_beside =
      record {
        looks = λ v s u p t. (laws_of t.call).ask.looks v s u p t;
        ranges = λ v images s p t point h.
            (laws_of t.call).ask.ranges v images s p t point (stands v images s p t h);
        alike = λ v s u p t. (laws_of t.call).ask.alike v s u p t;
        alike_before = λ v s u p t. (laws_of t.call).ask.alike_before v s u p t;
        alike_ahead = λ v s u p t. (laws_of t.call).ask.alike_ahead v s u p t;
      }

  -- the laws of what pieces look at and change
  footprint_of_beside : FootprintLaws (beside owns a b)
  footprint_of_beside =
      record {
        looks = λ v images s u blocks p t answer io h k.
            (laws_of t.call).footprint.looks v images s u blocks p t answer io
            (ready v images s p t answer h) (ready v images u p t answer k);
        changes = λ v images s blocks p t answer io o h.
            (laws_of t.call).footprint.changes v images s blocks p t answer io o
            (ready v images s p t answer h);
        asking_looks = λ v images s u blocks p t answer io point h k.
            (laws_of t.call).footprint.asking_looks v images s u blocks p t answer io point
            (ready v images s p t answer h) (ready v images u p t answer k);
        asking_changes = λ v images s blocks p t answer io point o h.
            (laws_of t.call).footprint.asking_changes v images s blocks p t answer io point o
            (ready v images s p t answer h);
      }

  -- the laws of what pieces keep
  pieces_of_beside : PieceLaws (beside owns a b)
  pieces_of_beside =
      record {
        store = λ v images s blocks p t answer io h.
            (laws_of t.call).piece.store v images s blocks p t answer io
            (ready v images s p t answer h);
        images_loaded = λ v images s blocks p t answer io h.
            (laws_of t.call).piece.images_loaded v images s blocks p t answer io
            (ready v images s p t answer h);
        disk = λ v images s blocks p t answer io h.
            (laws_of t.call).piece.disk v images s blocks p t answer io
            (ready v images s p t answer h);
        refused = λ v images s blocks p t.
            (laws_of t.call).piece.refused v images s blocks p t;
        whole_blocks = λ v images s blocks p t answer io h.
            (laws_of t.call).piece.whole_blocks v images s blocks p t answer io
            (ready v images s p t answer h);
        others_live = λ v images s blocks p q t answer io h.
            (laws_of t.call).piece.others_live v images s blocks p q t answer io
            (ready v images s p t answer h);
        caller_lives = λ v images s blocks p t answer io h.
            (laws_of t.call).piece.caller_lives v images s blocks p t answer io
            (ready v images s p t answer h);
        one_graft = λ v images s blocks p t answer io q pt r pu h.
            (laws_of t.call).piece.one_graft v images s blocks p t answer io q pt r pu
            (ready v images s p t answer h);
        graft_ends = λ v images s blocks p t answer io q pt h.
            (laws_of t.call).piece.graft_ends v images s blocks p t answer io q pt
            (ready v images s p t answer h);
        one_slice = λ v images s blocks p t answer io h.
            (laws_of t.call).piece.one_slice v images s blocks p t answer io
            (ready v images s p t answer h);
        slice_ends = λ v images s blocks p t answer io h.
            (laws_of t.call).piece.slice_ends v images s blocks p t answer io
            (ready v images s p t answer h);
      }

  -- the laws of disk calls
  disk_calls_of_beside : DiskLaws (beside owns a b)
  disk_calls_of_beside =
      record {
        own_calls = λ v images s blocks p t.
            (laws_of t.call).disk_calls.own_calls v images s blocks p t;
        few_calls = λ v images s blocks p t answer io h.
            (laws_of t.call).disk_calls.few_calls v images s blocks p t answer io
            (ready v images s p t answer h);
        fault = λ v images s blocks p t. (laws_of t.call).disk_calls.fault v images s blocks p t;
      }

  -- the laws of stages; a stage of the same call is one of the same table
  stages_of_beside : StageLaws (beside owns a b)
  stages_of_beside =
      record {
        first = λ v images s p c t e.
            subst (λ (d : SysCall). (table_of d).fits v s p t ≡ true)
            (sym ((laws_of c).stages.same_call v images p c t e))
            ((laws_of c).stages.first v images s p c t e);
        same_call = λ v images p c. (laws_of c).stages.same_call v images p c;
        next = λ v images s blocks p t u answer io h e.
            let stages = (laws_of t.call).stages in
            let k = ready v images s p t answer h in
            let now = ((table_of t.call).piece v images s blocks p t answer io).objects in
            subst (λ (d : SysCall). (table_of d).fits v now p u ≡ true)
            (sym (stages.same_call_next v images s blocks p t u answer io k e))
            (stages.next v images s blocks p t u answer io k e);
        same_call_next = λ v images s blocks p t u answer io h.
            (laws_of t.call).stages.same_call_next v images s blocks p t u answer io
            (ready v images s p t answer h);
        fits_same = λ v s u p t. (laws_of t.call).stages.fits_same v s u p t;
        more_images = λ v images more p c. (laws_of c).stages.more_images v images more p c;
        some_left = λ v images s p t h.
            (laws_of t.call).stages.some_left v images s p t (stands v images s p t h);
        left_falls = λ v images s blocks p t u answer io h e.
            let stages = (laws_of t.call).stages in
            let k = ready v images s p t answer h in
            let now = ((table_of t.call).piece v images s blocks p t answer io).objects in
            subst (λ (d : SysCall). (table_of d).left v now p u < (table_of t.call).left v s p t)
            (sym (stages.same_call_next v images s blocks p t u answer io k e))
            (stages.left_falls v images s blocks p t u answer io k e);
        left_same = λ v s u p t. (laws_of t.call).stages.left_same v s u p t;
      }

-- Two tables that meet the laws meet them as one, whichever calls are whose.
abbrev pub TablesStandBeside : Type 0
TablesStandBeside =
    (owns : SysCall → Bool) (a b : Meaning) → Laws a → Laws b → Laws (beside owns a b)

-- each family of laws
pub laws_of_beside : (owns : SysCall → Bool) (a b : Meaning) → Laws a → Laws b →
    Laws (beside owns a b)
laws_of_beside owns a b la lb =
    record {
      need = needs_of_beside owns a b la lb;
      ask = asks_of_beside owns a b la lb;
      footprint = footprint_of_beside owns a b la lb;
      piece = pieces_of_beside owns a b la lb;
      disk_calls = disk_calls_of_beside owns a b la lb;
      stages = stages_of_beside owns a b la lb;
    }
