-- Graft calls of the code as those of the definitions.
use Rattle.std.specs.Prelude.{◌≡◌, ℕ, suc, false, cond, List, [], ◌∷◌, Option, Some, None}
use Rattle.std.specs.Prelude.{find, map, option_map}
use Rattle.kernel_model.specs.declared.Object.{Object}
use Rattle.kernel_model.specs.declared.Held.{Held}
use Rattle.kernel_model.specs.declared.Held.TheVariants.{Free}
use Rattle.kernel_model.specs.Objects.{Objects, same_object}
use Rattle.kernel_model.specs.Access.{Found}
use Rattle.kernel_model.specs.Locks.{Touched, stronger}
use Rattle.kernel_model.specs.Levels as levels
use Rattle.kernel_model.specs.Machine as machine
use Rattle.audit_machine.specs.declared.Machine.{Machine}
use Rattle.audit_machine.specs.declared.Done.{Done}
use Rattle.audit_machine.specs.declared.Done.TheVariants.{Called}
use Rattle.audit_machine.specs.Machine.{machine_of, goes_on}
use Rattle.audit_table.specs.Tables.{by_place}
use Rattle.audit_state.specs.Accounts.{accounts_of}
use Rattle.audit_state.specs.Things.{things_of, kept_of}
use Rattle.audit_levels.specs.declared.Touch.{Touch}
use Rattle.audit_levels.specs.declared.Record.{Record}
use Rattle.audit_levels.specs.declared.Level.{Level}
use Rattle.audit_levels.specs.declared.Config.{Config}
use Rattle.audit_levels.specs.declared.Effect.{Effect}
use Rattle.audit_levels.specs.declared.Effect.TheVariants.{Asked, Charged, Removed}
use Rattle.audit_levels.specs.declared.Outcome.{Outcome}

-- ---- touched objects

-- how an object is held, by the row that is found of it
abbrev pub held_in : Option Touch → Held
held_in None = Free
held_in (Some t) = t.held

-- how each object is held
abbrev pub touched_of : List Touch → Touched
touched_of ts o = held_in (find (λ (t : Touch). same_object o t.object) ts)

-- how many rows stand before the first of an object
abbrev pub touches_before : Object → List Touch → ℕ
touches_before o [] = 0
touches_before o (t ∷ ts) = cond (same_object o t.object) 0 (suc (touches_before o ts))

-- one object is held so, and the others as before
abbrev pub held_at : Object → Held → Touched → Touched
held_at o h t a = cond (same_object a o) h (t a)

-- the objects of rows are held in the stronger of the way of t and that of u, one after the other
abbrev pub joined_rows : Touched → List Touch → Touched → Touched
joined_rows t [] u = u
joined_rows t (r ∷ rs) u =
    joined_rows t rs (held_at r.object (stronger (t r.object) (u r.object)) u)

-- ---- levels and graft calls

-- what a change found
abbrev pub found_of : Record → Found
found_of r = record { inverse = r.inverse; bytes = option_map kept_of r.kept }

-- a level, where the frames hold these bytes
abbrev pub level_of : (ℕ → List ℕ) → Level → levels.Level
level_of bytes l =
    record {
      owner = l.owner;
      point = l.point;
      machine = machine_of l.machine;
      count = l.count;
      touched = touched_of l.touched.items;
      args = l.args;
      records = map found_of l.records.items;
      kept = things_of bytes l.kept;
    }

-- levels, where the frames hold these bytes
abbrev pub levels_of : (ℕ → List ℕ) → List Level → List levels.Level
levels_of bytes ls = map (level_of bytes) ls

-- what a graft call works on
abbrev pub now_of : (ℕ → List ℕ) → Config → Objects
now_of bytes c = record { accounts = accounts_of c.accounts; things = things_of bytes c.things }

-- a graft call
abbrev pub config_of : (ℕ → List ℕ) → Config → levels.Config
config_of bytes c = record { now = now_of bytes c; levels = levels_of bytes c.levels.items }

-- ---- what an instruction came to

-- an effect
abbrev pub effect_of : Effect → levels.Effect
effect_of (Asked pt) = levels.Asked pt
effect_of (Charged pt k) = levels.Charged pt k
effect_of (Removed pt) = levels.Removed pt

-- what an instruction came to, where this is the graft call after it
abbrev pub outcome_of : Outcome → levels.Config → levels.Outcome
outcome_of o c = record { said = o.said; config = c; effects = map effect_of o.effects.items }

-- ---- a machine after its instruction

-- A machine was this one before its instruction: where that ended it, it still is, and a call
-- leaves the registers.
pub record HasMachine (d : Done) (m : Machine) (old : machine.Machine) : Type 0 where
  pub ended : goes_on d ≡ false → machine_of m ≡ old
  pub called : (id : ℕ) → d ≡ Called id → by_place m.regs ≡ old.regs
