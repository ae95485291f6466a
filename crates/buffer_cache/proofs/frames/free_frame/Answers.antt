use Rattle.std.proofs.Common.{Option, take, arith, sym}
use Rattle.std.specs.Option.{is_none}
use Rattle.kernel_data.specs.declared.FrameRow.{FrameRow}
use Rattle.buffer_cache.proofs.Finding.{position-found, position-missing}
use Rattle.buffer_cache.proofs.frames.free_frame.Goals as goal

pub returns-then-is_none-clause-value : goal.returns-then-is_none-clause-value
returns-then-is_none-clause-value c =
    sym (position-found (λ (r : Option FrameRow). is_none r)
    (take c.args.count c.args.rows.now) c.loop-f.f (omega arith)
    (grind (arith, c.is_none.ensures, c.if-is_none.true)) c.loop-f.invariant)

pub returns-clause-value : goal.returns-clause-value
returns-clause-value c =
    sym (position-missing (λ (r : Option FrameRow). is_none r) (take c.args.count c.args.rows.now)
    (λ k below. c.loop-f.invariant k (omega arith)))
