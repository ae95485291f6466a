-- What contracts see of a disk, and what a call makes of it.
use Rattle.std.specs.Prelude.{ℕ, Bool, cond, List, Option, option_map, slice_set}
use Rattle.vino_base.specs.Calls.{Plan, after_call}

-- what is seen of a disk: how many blocks it has, the blocks and the plan of its calls, where it
-- tells them, and how many faults it had. Reads and writes count together in the plan.
pub record DiskSeen : Type 0 where
  pub size : ℕ
  pub known : Option (List (List ℕ))
  pub plan : Option Plan
  pub faults : ℕ

-- a disk after one more call, which left its blocks, with so many faults
abbrev pub called : (faults : ℕ) → DiskSeen → DiskSeen
called faults d =
    record {
      size = d.size;
      known = d.known;
      plan = option_map after_call d.plan;
      faults = faults;
    }

-- the blocks after a write of block b, which failed or not: a failed one leaves them
abbrev pub blocks_written : (b : ℕ) → (bytes : List ℕ) → (failed : Bool) → List (List ℕ) →
    List (List ℕ)
blocks_written b bytes failed bs = cond failed bs (slice_set bs b bytes)

-- a disk after a write of block b, which failed or not, with so many faults
abbrev pub written : (b : ℕ) → (bytes : List ℕ) → (failed : Bool) → (faults : ℕ) → DiskSeen →
    DiskSeen
written b bytes failed faults d =
    record {
      size = d.size;
      known = option_map (blocks_written b bytes failed) d.known;
      plan = option_map after_call d.plan;
      faults = faults;
    }
