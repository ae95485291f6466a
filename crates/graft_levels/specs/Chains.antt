-- Which graft call a chain of levels is in place: on a store, with the lock table and an undo log.
use Rattle.std.specs.Prelude.{◌≡◌, ℕ, Bool, ◌&&◌, ◌==◌, List, [], ◌∷◌, length, map, slice_index}
use Rattle.std.specs.Prelude.{slice_index_or, Option, Some, None}
use Rattle.kernel_model.specs.Access.{set_segment}
use Rattle.kernel_model.specs.Charges.{charge}
use Rattle.kernel_model.specs.declared.Kind.TheVariants.{Records}
use Rattle.std.specs.List.{list_any}
use Rattle.kernel_model.specs.declared.Micro.{Micro}
use Rattle.kernel_model.specs.Objects.{Objects, Things}
use Rattle.kernel_model.specs.Locks.{LockTable}
use Rattle.kernel_model.specs.UndoLog.{undo_all}
use Rattle.kernel_model.specs.Levels.{Level, Config, Outcome, base_of, answer_of}
use Rattle.kernel_model.specs.Runs.{on_segment, segment_of}
use Rattle.lock_table.specs.declared.Holds.{Holds}
use Rattle.lock_table.specs.Masks.{held}
use Rattle.undo_calls.specs.UndoLevels.{Logged, found_of, innermost}
use Rattle.graft_machine.specs.Cpu.{machine_of}
use Rattle.kernel_state.specs.declared.Store.{Store}
use Rattle.kernel_state.specs.Sound.{segment_number}
use Rattle.kernel_state.specs.Stores.{objects_of, body_at}
use Rattle.kernel_state.specs.Tables.{Table}
use Rattle.graft_levels.specs.declared.GraftLevel.{GraftLevel}
use Rattle.graft_levels.specs.declared.Chain.{Chain}
use Rattle.graft_levels.specs.declared.Innermost.{Innermost}

-- ---- levels

-- what records put back, the first one first
abbrev pub put_back : List Logged → Things → Things
put_back is w = undo_all (map found_of is) w

-- the same on a whole state
abbrev pub put_back_on : List Logged → Objects → Objects
put_back_on is s = record s { things = put_back is s.things }

-- the log without the records of the innermost level
abbrev pub outer : List (List Logged) → List (List Logged)
outer [] = []
outer (is ∷ log) = log

-- level d of process p, whose segment is in this memory and which holds what the table says; it has
-- these records, and found these things when it began
abbrev pub level_in : (p d : ℕ) → List ℕ → LockTable → GraftLevel → List Logged → Things → Level
level_in p d ram t g is kept =
    record {
      owner = g.owner;
      point = g.point;
      machine = on_segment (base_of p d) (machine_of g.machine ram);
      count = g.count;
      touched = t p d;
      args = g.args;
      records = map found_of is;
      kept = kept;
    }

-- The levels of process p, innermost first, where these are the things now: what a level found is
-- what undoing its records and those further inward gives.
abbrev pub levels_in : ℕ → List ℕ → LockTable → List GraftLevel → List (List Logged) → Things →
    List Level
levels_in p ram t [] log w = []
levels_in p ram t (g ∷ gs) log w =
    level_in p (length gs) ram t g (innermost log) (put_back (innermost log) w)
    ∷ levels_in p ram t gs (outer log) (put_back (innermost log) w)

-- a level inside these others, whose records are the innermost of the log
abbrev pub level_on : ℕ → List ℕ → LockTable → GraftLevel → List GraftLevel →
    List (List Logged) → Things → Level
level_on p ram t g gs log w =
    level_in p (length gs) ram t g (innermost log) (put_back (innermost log) w)

-- those others
abbrev pub outer_on : ℕ → List ℕ → LockTable → List GraftLevel → List (List Logged) → Things →
    List Level
outer_on p ram t gs log w = levels_in p ram t gs (outer log) (put_back (innermost log) w)

-- the bytes that are kept for the graft at (q, pt), if there are some
abbrev pub kept_bytes : Table → (q pt : ℕ) → Option (List ℕ)
kept_bytes kept q pt = slice_index_or kept (segment_number q pt) None

-- A state where the segment of the graft at (q, pt), which this memory has at this base, is kept
-- and one of records charged.
abbrev pub kept_on : (q pt base : ℕ) → List ℕ → Objects → Objects
kept_on q pt base ram s =
    record {
      accounts = charge Records q pt s.accounts;
      things = set_segment q pt (Some (segment_of base (λ a. slice_index ram a))) s.things;
    }

-- the innermost level, if there is one
abbrev pub first_level : List GraftLevel → Option GraftLevel
first_level [] = None
first_level (g ∷ gs) = Some g

-- the graft at (q, pt) is a level
abbrev pub is_running_in : List GraftLevel → (q pt : ℕ) → Bool
is_running_in gs q pt = list_any (λ (g : GraftLevel). g.owner == q && g.point == pt) gs

-- ---- on a store

-- the levels of a chain of process p
abbrev pub levels_of : {B : Type 0} {P : _} → Store B P → List (List Holds) → Chain → ℕ → List Level
levels_of s t c p = levels_in p s.ram (held t) c.levels c.undo (objects_of s).things

-- the graft call of a chain of process p
abbrev pub call_of : {B : Type 0} {P : _} → Store B P → List (List Holds) → Chain → ℕ → Config
call_of s t c p = record { now = objects_of s; levels = levels_of s t c p }

-- a level that was taken from the inner end of a chain, whose records are still in the log
abbrev pub level_of : {B : Type 0} {P : _} → Store B P → List (List Holds) → Chain → ℕ →
    GraftLevel → Level
level_of s t c p g =
    level_on p s.ram (held t) g c.levels c.undo (objects_of s).things

-- the levels outside it
abbrev pub outer_of : {B : Type 0} {P : _} → Store B P → List (List Holds) → Chain → ℕ → List Level
outer_of s t c p = outer_on p s.ram (held t) c.levels c.undo (objects_of s).things

-- the innermost level, which was taken out of a chain, and the levels outside it
abbrev pub level_taken : {B : Type 0} {P : _} → Store B P → List (List Holds) → Innermost → Chain →
    Level
level_taken s t g c = level_of s t c g.process g.level

abbrev pub outer_taken : {B : Type 0} {P : _} → Store B P → List (List Holds) → Innermost → Chain →
    List Level
outer_taken s t g c = outer_of s t c g.process

-- all these levels
abbrev pub levels_taken : {B : Type 0} {P : _} → Store B P → List (List Holds) → Innermost →
    Chain → List Level
levels_taken s t g c = level_taken s t g c ∷ outer_taken s t g c

-- ---- outcomes

-- what an outcome says, and the graft call after it; its effects aren't kept
abbrev pub came : Outcome → Micro × Config
came o = (o.said, o.config)

-- Where the levels of process p gave an answer, this memory has what the answer gives: the body
-- stands in it.
abbrev pub HasAnswer : Micro → (ram : List ℕ) → (p : ℕ) → List Level → Type 0
HasAnswer said ram p levels =
    (registers : List ℕ) → said ≡ Micro.Completed registers →
    answer_of registers levels
    ≡ record { registers = registers; body = body_at ram p registers }
