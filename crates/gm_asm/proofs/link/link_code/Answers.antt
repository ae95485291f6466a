use Rattle.std.proofs.Common.{arith}
use Rattle.gm_asm.specs.State.{placed_view, is_placed_instr}
use Rattle.gm_asm.proofs.Linking.{all_at, Links-more, Links-refuses}
use Rattle.gm_asm.proofs.link.link_code.Goals as goal

pub link_one-requires : goal.link_one-requires
link_one-requires c = all_at is_placed_instr c.args.code.now c.loop-placed.placed-index _ c.requires (omega arith)

pub returns-in-Err-clause-err : goal.returns-in-Err-clause-err
returns-in-Err-clause-err c =
    Links-refuses _ placed_view c.args.code.now c.loop-placed.placed-index _ _ c.in-Err.fault
    c.loop-placed.invariant (omega arith) c.in-Err.ensures.err

pub loop-placed-preserved : goal.loop-placed-preserved
loop-placed-preserved c =
    rw c.in_ok-push-in-Ok.ensures
    (Links-more _ placed_view c.args.code.now c.loop-placed.placed-index _ _ c.in-Ok.instr
    c.loop-placed.invariant (omega arith) c.in-Ok.ensures.ok c.in-Ok.ensures.fit)
