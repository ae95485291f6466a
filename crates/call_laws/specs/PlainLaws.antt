-- All laws of a table of calls hold of the system calls.
use Rattle.std.specs.Prelude.{ℕ, ◌≤◌}
use Rattle.std.proofs.Common.{arith}
use Rattle.kernel_model.specs.Early.{TOP_POINT}
use Rattle.kernel_model.specs.Pieces.{plain_calls, plain_upto}
use Rattle.kernel_model.specs.Laws.{Laws}
use Rattle.call_laws.specs.Asks.{asks_of_plain}
use Rattle.call_laws.specs.DiskCalls.{disk_calls_of_plain}
use Rattle.call_laws.specs.Footprint.{footprint_of_plain}
use Rattle.call_laws.specs.Keeping.{pieces_of_plain}
use Rattle.call_laws.specs.Needs.{needs_of_plain}
use Rattle.call_laws.specs.Stages.{stages_of_plain}

-- the laws of needs, of asking, of what a piece looks at, changes and keeps, of disk calls and of
-- stages
pub laws_of_plain_upto : (top : ℕ) → top ≤ 15 → Laws (plain_upto top)
laws_of_plain_upto top most =
    record {
      need = needs_of_plain top most;
      ask = asks_of_plain top most;
      footprint = footprint_of_plain top;
      piece = pieces_of_plain top most;
      disk_calls = disk_calls_of_plain top;
      stages = stages_of_plain top most;
    }

-- the calls that are built meet them
pub laws_of_plain : Laws plain_calls
laws_of_plain = laws_of_plain_upto TOP_POINT (omega arith)
