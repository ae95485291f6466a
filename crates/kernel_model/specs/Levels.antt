-- A graft call is a working state and one to four levels, innermost first. This file says how a
-- level begins, how its answer goes to its asker, and how it is dropped.
use Rattle.std.specs.Prelude.{ℕ, ◌+◌, ◌*◌, min, Bool, true, false, ◌==◌, List, [], ◌∷◌, Option}
use Rattle.std.specs.Prelude.{Some, None, length, slice_get, slice_index}
use Rattle.kernel_data.specs.declared.Object.{Object}
use Rattle.kernel_data.specs.declared.Mode.{Mode}
use Rattle.kernel_data.specs.declared.Kind.{Kind}
use Rattle.kernel_data.specs.declared.Need.{Need}
use Rattle.kernel_data.specs.declared.Cause.{Cause}
use Rattle.kernel_model.specs.declared.Micro.{Micro}
use Rattle.kernel_data.specs.declared.Instr.{Instr}
use Rattle.kernel_data.specs.Objects.{Objects, Things, Accounts, GraftValue, at}
use Rattle.kernel_data.specs.World.{World, Image, ImageTable}
use Rattle.graft_code.specs.Machine.{Machine, first_machine, segment_base, fed, bytes_given}
use Rattle.kernel_data.specs.Policies.{PointKind, Ahead, Victim, Next, Serve, Stream, kind_of, default_of, or_zero}
use Rattle.kernel_model.specs.Locks.{Touched, touch, touch_all, untouched}
use Rattle.kernel_model.specs.Access.{Found}
use Rattle.kernel_model.specs.Meaning.{Answer, bare_answer}
use Rattle.kernel_model.specs.Charges.{removed}

-- ---- levels, configs, outcomes

-- a level of a graft call
pub record Level : Type 0 where
  -- the installer and the point of its graft
  pub owner : ℕ
  pub point : ℕ
  pub machine : Machine
  -- how many instructions it has taken
  pub count : ℕ
  -- how it holds each object
  pub touched : Touched
  -- the arguments that it was given
  pub args : List ℕ
  -- what its changing accessors found, newest first
  pub records : List Found
  -- the objects as it found them when it began, except accounts and grafts
  pub kept : Things

-- a graft call: the working state and the levels, innermost first
pub record Config : Type 0 where
  pub now : Objects
  pub levels : List Level

-- what an instruction, or a drop, does beyond its level: it asked a point, was charged, or lost a
-- graft
pub data Effect : Type 0 where
  Asked : (point : ℕ) → Effect
  Charged : (point : ℕ) → Kind → Effect
  Removed : (point : ℕ) → Effect

-- the outcome of one instruction, or of the drop of a level: what is said of it, the config after
-- it, and its effects in order
pub record Outcome : Type 0 where
  pub said : Micro
  pub config : Config
  pub effects : List Effect

-- the outcome if the call goes on with this state and these levels
abbrev pub goes_on : Objects → List Level → Outcome
goes_on w ls = record { said = Micro.Went; config = record { now = w; levels = ls }; effects = [] }

-- an outcome with one more effect in front
abbrev pub with_effect : Effect → Outcome → Outcome
with_effect e r = record r { effects = e ∷ r.effects }

-- an outcome says that the call goes on
abbrev pub is_going_on : Micro → Bool
is_going_on Micro.Went = true
is_going_on _ = false

-- ---- a level begins

-- the image of a graft
abbrev pub image_of : ImageTable → Option GraftValue → Option Image
image_of images None = None
image_of images (Some g) = images g.image

-- the code of an image
abbrev pub code_in : Option Image → List Instr
code_in None = []
code_in (Some i) = i.code

-- the data bytes of an image
abbrev pub body_in : Option Image → List ℕ
body_in None = []
body_in (Some i) = i.body

-- the code of the graft at (q, pt)
abbrev pub code_of : ImageTable → Accounts → (q pt : ℕ) → List Instr
code_of images w q pt = code_in (image_of images (w.graft q pt))

-- an image keeps the segments of its grafts
abbrev pub keeps_in : Option Image → Bool
keeps_in None = false
keeps_in (Some i) = i.keep

-- the data bytes of an image by place, and zeros after them
abbrev pub data_of : Option Image → ℕ → ℕ
data_of image i = or_zero (slice_get (body_in image) i)

-- what a segment contains at first: the bytes that were kept, if the image keeps segments and there
-- are some; otherwise the image's data
abbrev pub segment_with : Option Image → (keeps : Bool) → (kept : Option (ℕ → ℕ)) → ℕ → ℕ
segment_with image true (Some bytes) = bytes
segment_with image true None = data_of image
segment_with image false kept = data_of image

-- what the segment of the graft at (q, pt) contains at first
abbrev pub first_segment : ImageTable → Objects → (q pt : ℕ) → ℕ → ℕ
first_segment images w q pt =
    let image = image_of images (w.accounts.graft q pt) in
    segment_with image (keeps_in image) (w.things.segment q pt)

-- the limit of a graft
abbrev pub limit_in : Option GraftValue → ℕ
limit_in None = 0
limit_in (Some g) = g.limit

-- the base of the segment of level d of a call of process p
abbrev pub base_of : (p d : ℕ) → ℕ
base_of p d = segment_base (4 * p + d)

-- A level begins at instruction 0, with its arguments in r0 to r3, its segment's base in r15 and
-- zeros in the other registers. Its segment contains what was kept, or the image's data and then
-- zeros, and over that the bytes that the level is fed. It has taken no instruction, has no record,
-- and keeps the things as it found them.
abbrev pub new_level : ImageTable → Objects → (p d q pt : ℕ) → (args feed : List ℕ) → Touched →
    Level
new_level images w p d q pt args feed touched =
    record {
      owner = q;
      point = pt;
      machine = first_machine (base_of p d) args
          (fed feed (first_segment images w q pt));
      count = 0;
      touched = touched;
      args = args;
      records = [];
      kept = w.things;
    }

-- ---- the levels changed

-- a level with this machine
abbrev pub with_machine : Machine → Level → Level
with_machine m l = record l { machine = m }

-- a level that touched these objects as well
abbrev pub with_touched : List Need → Level → Level
with_touched ns l = record l { touched = touch_all ns l.touched }

-- level 0 touches one more object
abbrev pub touch_outermost : Object → List Level → List Level
touch_outermost o [] = []
touch_outermost o (l ∷ []) = record l { touched = touch o Mode.Exclusive l.touched } ∷ []
touch_outermost o (l ∷ k ∷ ls) = l ∷ touch_outermost o (k ∷ ls)

-- how level 0 holds an object
abbrev pub outermost_touched : List Level → Touched
outermost_touched [] = untouched
outermost_touched (l ∷ []) = l.touched
outermost_touched (l ∷ k ∷ ls) = outermost_touched (k ∷ ls)

-- level d, counted from the outermost
abbrev pub level_at : ℕ → List Level → Option Level
level_at d [] = None
level_at d (l ∷ ls) = elim (length ls == d) [ true ↦ Some l | false ↦ level_at d ls ]

-- how a level holds objects, if there is one
abbrev pub touched_in : Option Level → Touched
touched_in None = untouched
touched_in (Some l) = l.touched

-- how level d holds objects
abbrev pub touched_at : List Level → ℕ → Touched
touched_at ls d = touched_in (level_at d ls)

-- the answer of a nested ask goes to its asker: r0, and for read-ahead r1 too
abbrev pub answered : PointKind → (r0 r1 : ℕ) → Machine → Machine
answered Ahead r0 r1 m = record { regs = at 1 r1 (at 0 r0 m.regs); pc = m.pc; memory = m.memory }
answered Victim r0 r1 m = record { regs = at 0 r0 m.regs; pc = m.pc; memory = m.memory }
answered Next r0 r1 m = record { regs = at 0 r0 m.regs; pc = m.pc; memory = m.memory }
answered Serve r0 r1 m = record { regs = at 0 r0 m.regs; pc = m.pc; memory = m.memory }
answered Stream r0 r1 m = record { regs = at 0 r0 m.regs; pc = m.pc; memory = m.memory }

-- the innermost level gets the answer of the point that it asked
abbrev pub answer_innermost : (pt r0 r1 : ℕ) → List Level → List Level
answer_innermost pt r0 r1 [] = []
answer_innermost pt r0 r1 (l ∷ ls) = with_machine (answered (kind_of pt) r0 r1 l.machine) l ∷ ls

-- ---- an answer

-- the bytes that an answer gives: as many as its r0 says, and at most 512
abbrev pub body_in_segment : List ℕ → (ℕ → ℕ) → List ℕ
body_in_segment registers memory = bytes_given (min (slice_index registers 0) 512) memory

-- the answer of the innermost level: these registers, and the bytes that its segment gives
abbrev pub answer_of : List ℕ → List Level → Answer
answer_of registers [] = bare_answer registers
answer_of registers (l ∷ ls) =
    record { registers = registers; body = body_in_segment registers l.machine.memory }

-- ---- a drop

-- After the drop of a level all things are as the level found them. Accounts and grafts stay as
-- they were, except that the level's graft is removed and its balances go back.
abbrev pub state_without : Level → Objects → Objects
state_without l w = record { accounts = removed l.owner l.point w.accounts; things = l.kept }

-- the levels outside a dropped one; the innermost of them gets the default answer on the state
-- after the drop
abbrev pub asker_of : World → Level → Things → List Level → List Level
asker_of v l w ls = let d = default_of v w l.owner l.point in answer_innermost l.point d.0 d.1 ls

-- Dropping level l, when those further inward are gone, leaves the state without it. Its asker, the
-- first of the levels ls outside it, gets the default answer on that state and goes on. The outcome
-- says level, graft and cause.
abbrev pub drop_innermost : World → Objects → Level → List Level → Cause → Outcome
drop_innermost v w l ls cause =
    record {
      said = Micro.Dropped (length ls) l.owner l.point cause;
      config = record { now = state_without l w; levels = asker_of v l l.kept ls };
      effects = Removed l.point ∷ [];
    }

-- dropping level d, counted from the outermost, ends it and all levels further inward
abbrev pub drop_level : World → Objects → List Level → ℕ → Cause → Outcome
drop_level v w [] d cause = goes_on w []
drop_level v w (l ∷ ls) d cause =
    elim (length ls == d) [
      | true ↦ drop_innermost v w l ls cause
      | false ↦ drop_level v w ls d cause
    ]
