-- What a disk tells, and what a list of its calls says of them: for each call in order whether it
-- failed.
use Rattle.std.specs.Prelude.{◌≡◌, ℕ, zero, suc, ◌+◌, ◌-◌, ◌^◌, ◌≤◌, min, Bool, List, [], ◌∷◌}
use Rattle.std.specs.Prelude.{length, option_map, Option, Some, slice_index_or}
use Rattle.std.specs.List.{count_by}
use Rattle.vino_base.specs.Calls.{Plan, after_call, call_fails}
use Rattle.vino_base.specs.Disks.{DiskSeen}
use Rattle.kernel_data.specs.World.{Blocks}

-- the blocks of a list by number, nothing beyond its end
abbrev pub blocks_in : List (List ℕ) → Blocks
blocks_in bs b = slice_index_or bs b []

-- a disk tells its blocks, and they are these
abbrev pub Knows : Option (List (List ℕ)) → Blocks → Type 0
Knows known blocks = option_map blocks_in known ≡ Some blocks

-- how many of these calls failed
abbrev pub failures : List Bool → ℕ
failures io = count_by (λ failed. failed) io

-- what the next calls of a plan do
abbrev pub planned : ℕ → Plan → List Bool
planned zero p = []
planned (suc n) p = call_fails p ∷ planned n (after_call p)

-- a plan after so many calls
abbrev pub plan_after : ℕ → Plan → Plan
plan_after zero p = p
plan_after (suc n) p = plan_after n (after_call p)

-- From one moment to another a disk had these calls: its size is the same, its count of faults rose
-- by those that failed, or stands at its end, and where it tells its plan they are what the plan
-- gave.
pub record Made (d e : DiskSeen) (io : List Bool) : Type 0 where
  pub size : e.size ≡ d.size
  pub later : d.faults ≤ e.faults
  pub counted : min (d.faults + failures io) (2 ^ 64 - 1) ≤ e.faults
  pub calls : (p : Plan) → d.plan ≡ Some p → io ≡ planned (length io) p
  pub plan_is : (p : Plan) → d.plan ≡ Some p → e.plan ≡ Some (plan_after (length io) p)

-- A list of calls went on with what a disk did, which kept its size: whenever the list began, it
-- says what the disk did from there on.
pub record CallsExtend (d e : DiskSeen) (io io_new : List Bool) : Type 0 where
  pub size : e.size ≡ d.size
  pub made : (first : DiskSeen) → Made first d io → Made first e io_new
