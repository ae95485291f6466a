use Rattle.std.proofs.Common.{◌≡◌, ◌-◌, ◌+◌, suc, option_map, sym, ap, ◌∙◌, arith}
use Rattle.audit_kernel.specs.Runs.{run_of, blocker_of}
use Rattle.audit_kernel.proofs.Turning.{at_end, at_blocker, at_step, settles}
use Rattle.audit_kernel.proofs.Run.steps.Goals as goal

pub returns-else-takes_steps-clause-run : goal.returns-else-takes_steps-clause-run
returns-else-takes_steps-clause-run c =
    let less : c.args.most - c.loop-taken.taken ≡ suc (c.args.most - (c.loop-taken.taken + 1)) = omega arith in
    at_end c.args.p (c.args.most - (c.loop-taken.taken + 1)) (c.args.most - c.loop-taken.taken)
    c.loop-taken.taken (run_of c.loop-taken.self) _ less
    (sym c.takes_steps.ensures ∙ c.if-takes_steps.false) c.loop-taken.invariant.0

pub returns-in-Some-clause-run : goal.returns-in-Some-clause-run
returns-in-Some-clause-run c =
    let less : c.args.most - c.loop-taken.taken ≡ suc (c.args.most - (c.loop-taken.taken + 1)) = omega arith in
    at_blocker c.args.p (c.args.most - (c.loop-taken.taken + 1)) (c.args.most - c.loop-taken.taken)
    c.loop-taken.taken (run_of c.loop-taken.self) (run_of c.settle-in-Some.new.self)
    (blocker_of c.in-Some.b) _ less
    (sym c.takes_steps.ensures ∙ c.if-takes_steps.true)
    (sym c.in_ok-blocker.ensures ∙ ap (option_map blocker_of) c.in-Some.is)
    (settles c.in_ok-settle-in-Some.ensures.run c.in_ok-join-in-Some.ensures.run)
    c.loop-taken.invariant.0

pub loop-taken-preserved : goal.loop-taken-preserved
loop-taken-preserved c =
    let less : c.args.most - c.loop-taken.taken ≡ suc (c.args.most - (c.loop-taken.taken + 1)) = omega arith in
    let more : c.loop-taken.taken + 1 ≡ suc c.loop-taken.taken = omega arith in (
      (at_step c.args.p (c.args.most - (c.loop-taken.taken + 1)) (c.args.most - c.loop-taken.taken)
          c.loop-taken.taken (c.loop-taken.taken + 1) (run_of c.loop-taken.self)
          (run_of c.settle.new.self) _ less more
          (sym c.takes_steps.ensures ∙ c.if-takes_steps.true)
          (sym c.in_ok-blocker.ensures ∙ ap (option_map blocker_of) c.in-None.is)
          (settles c.in_ok-settle-in-None.ensures.run c.in_ok-step-in-None.ensures.run)
          c.loop-taken.invariant.0),
      c.in_ok-settle-in-None.ensures.kept,
    )
