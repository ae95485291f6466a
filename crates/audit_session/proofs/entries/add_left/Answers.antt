use Rattle.std.proofs.Common.{arith}
use Rattle.audit_kernel.specs.Runs.{kernel_of}
use Rattle.audit_session.proofs.Lines.{left_more, left_all}
use Rattle.audit_session.proofs.entries.add_left.Goals as goal

pub loop-p-preserved : goal.loop-p-preserved
loop-p-preserved c =
    left_more (kernel_of c.args.run.now) c.loop-p.p c.args.out.now c.loop-p.out c.add_left_of.new.out
    c.loop-p.invariant c.in_ok-add_left_of.ensures

pub returns : goal.returns
returns c =
    left_all (kernel_of c.args.run.now) c.loop-p.p c.args.out.now c.loop-p.out (omega (arith, c.loop-p-test.false))
    (omega arith) c.loop-p.invariant
