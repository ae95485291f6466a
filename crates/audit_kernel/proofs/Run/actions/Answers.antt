use Rattle.std.proofs.Common.{◌≡◌, ◌-◌, ◌+◌, suc, option_map, sym, ap, ◌∙◌, arith}
use Rattle.audit_kernel.specs.Runs.{run_of, waiter_of}
use Rattle.audit_kernel.proofs.Acting.{none_over, one_acted}
use Rattle.audit_kernel.proofs.Run.actions.Goals as goal

pub returns-in-None-clause-run : goal.returns-in-None-clause-run
returns-in-None-clause-run c =
    let less : c.args.most - c.loop-done.done ≡ suc (c.args.most - (c.loop-done.done + 1)) = omega arith in
    none_over (c.args.most - (c.loop-done.done + 1)) (c.args.most - c.loop-done.done)
    (run_of c.loop-done.self) _ less (ap (option_map waiter_of) (sym c.in-None.is) ∙ c.over.ensures)
    c.loop-done.invariant.0

pub loop-done-preserved : goal.loop-done-preserved
loop-done-preserved c =
    let less : c.args.most - c.loop-done.done ≡ suc (c.args.most - (c.loop-done.done + 1)) = omega arith in (
      (one_acted (c.args.most - (c.loop-done.done + 1)) (c.args.most - c.loop-done.done)
          (waiter_of c.in-Some.e) (run_of c.loop-done.self) (run_of c.act.new.self)
          (run_of c.settle.new.self) _ less
          (ap (option_map waiter_of) (sym c.in-Some.is) ∙ c.over.ensures)
          c.in_ok-act-in-Some.ensures.run c.in_ok-settle-in-Some.ensures.run c.loop-done.invariant.0),
      c.in_ok-settle-in-Some.ensures.kept,
    )
