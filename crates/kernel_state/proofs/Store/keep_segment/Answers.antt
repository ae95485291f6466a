use Rattle.std.proofs.Common.{arith, rules}
use Rattle.kernel_state.proofs.Keeping.{segment_kept}
use Rattle.kernel_state.proofs.Store.keep_segment.Goals as goal

pub returns : goal.returns
returns g c =
    let s = c.args.self.now in
    segment_kept s _ c.args.at.process c.args.at.point c.args.base c.bytes-bytes.result.now c.bytes-bytes.ensures.value
    (omega (arith, c.bytes-bytes.ensures.size, c.requires)) (search rules)
