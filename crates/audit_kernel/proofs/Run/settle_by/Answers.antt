use Rattle.std.proofs.Common.{◌≡◌, ◌-◌, ◌+◌, suc, sym, ap, ◌∙◌, arith}
use Rattle.kernel_model.specs.AllCalls.{all_calls}
use Rattle.kernel_model.specs.Kernel.{Run}
use Rattle.kernel_model.specs.Settle.{step}
use Rattle.audit_kernel.specs.Runs.{run_of}
use Rattle.audit_kernel.proofs.Settling.{none_taken, step_taken}
use Rattle.audit_kernel.proofs.Run.settle_by.Goals as goal

pub loop-turn-preserved : goal.loop-turn-preserved
loop-turn-preserved c =
    let less : c.args.most - c.loop-turn.turn ≡ suc (c.args.most - (c.loop-turn.turn + 1)) = omega arith in (
      (step_taken (c.args.most - (c.loop-turn.turn + 1)) (c.args.most - c.loop-turn.turn) c.in-Some.p
          (run_of c.loop-turn.self) (run_of c.step.new.self) _ less
          (sym c.in-Some.is ∙ c.in_ok-first_free.ensures.free)
          (c.in_ok-step-in-Some.ensures.run
          ∙ ap (λ (r : Run). step all_calls c.in-Some.p r)
          (c.in_ok-first_free.ensures.same c.in-Some.p c.in-Some.is))
          c.loop-turn.invariant.0),
      c.in_ok-step-in-Some.ensures.kept,
    )

pub returns-in-None-clause-run : goal.returns-in-None-clause-run
returns-in-None-clause-run c =
    let less : c.args.most - c.loop-turn.turn ≡ suc (c.args.most - (c.loop-turn.turn + 1)) = omega arith in
    none_taken (c.args.most - (c.loop-turn.turn + 1)) (c.args.most - c.loop-turn.turn)
    (run_of c.loop-turn.self) (run_of c.first_free.new.self) _ less
    (sym c.in-None.is ∙ c.in_ok-first_free.ensures.free)
    (c.in_ok-first_free.ensures.rested c.in-None.is) c.loop-turn.invariant.0
