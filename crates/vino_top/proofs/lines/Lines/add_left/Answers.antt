-- The lines of one process more.
use Rattle.std.proofs.Common.{arith}
use Rattle.running_kernel.specs.Views.{placed_of}
use Rattle.vino_top.proofs.RowLemmas.{left_more, left_all}
use Rattle.vino_top.proofs.lines.Lines.add_left.Goals as goal

pub loop-p-preserved : goal.loop-p-preserved
loop-p-preserved g c =
    record {
      lines =
          left_more (placed_of c.args.kernel.now.running) c.loop-p.p c.loop-p.self
          c.add_left_of.new.self c.loop-p.invariant.lines c.add_left_of.ensures.value;
      room = omega (arith, c.loop-p.invariant.room, c.add_left_of.ensures.fits);
    }

pub returns : goal.returns
returns g c =
    left_all (placed_of c.args.kernel.now.running) c.loop-p.p c.loop-p.self
    (omega (arith, c.loop-p-test.false)) (omega arith) c.loop-p.invariant.lines
