use Rattle.std.proofs.Common.{arith}
use Rattle.lock_table.specs.Masks.{held}
use Rattle.call_pieces.specs.Stores.{objects_of}
use Rattle.running_kernel.specs.Views.{chain_of}
use Rattle.running_kernel.proofs.SegmentLemmas.{byte-of_innermost}
use Rattle.running_kernel.proofs.running.Running.innermost_byte.Goals as goal

pub returns : goal.returns
returns g c =
    let x = c.args.self.now in
    let chain = chain_of x c.args.p in
    grind (
      arith,
      byte-of_innermost chain.levels c.args.p c.args.at x.store.ram (held x.locks)
          chain.undo (objects_of x.store).things,
    )
