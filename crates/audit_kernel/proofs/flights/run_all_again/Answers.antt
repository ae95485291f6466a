use Rattle.std.proofs.Common.{refl, arith, ◌∙◌}
use Rattle.audit_kernel.proofs.Rerunning.{kept_more, all_kept}
use Rattle.audit_kernel.proofs.flights.run_all_again.Goals as goal

pub loop-i-init : goal.loop-i-init
loop-i-init c = ((λ q lt. absurd (omega (arith, lt))), (λ q. refl), refl)

pub loop-i-preserved : goal.loop-i-preserved
loop-i-preserved c =
    let old = c.loop-i.invariant in
    let step = c.in_ok-run_again.ensures in (
      (kept_more c.args.setting.now c.args.store.now c.loop-i.flights.items
          c.run_again.new.flights.items c.loop-i.i c.in_ok-p.p (c.in_ok-p.ensures ∙ c.in_ok-word_of.ensures)
          old.0 step.kept step.others),
      (λ q. step.call q ∙ old.1 q),
      step.size ∙ old.2,
    )

pub returns-clause-call : goal.returns-clause-call
returns-clause-call c = c.loop-i.invariant.1

pub returns-clause-kept : goal.returns-clause-kept
returns-clause-kept c =
    all_kept c.args.setting.now c.args.store.now c.loop-i.flights.items c.loop-i.i
    (omega (arith, c.loop-i.invariant.2, c.loop-i-test.false)) c.loop-i.invariant.0
