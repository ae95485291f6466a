-- The innermost level is that of the chain.
use Rattle.std.proofs.Common.{arith}
use Rattle.running_kernel.proofs.ShownLemmas.{top_is}
use Rattle.running_kernel.proofs.shown.top_row.Goals as goal

pub returns : goal.returns
returns c =
    λ p ram t log w. grind (
      arith,
      top_is p ram t c.args.levels.now log w,
      c.count.ensures.value,
      c.innermost.ensures,
      c.in_ok-level.was,
    )
