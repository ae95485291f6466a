use Rattle.std.proofs.Common.{sym, refl, ◌∙◌}
use Rattle.kernel_model.specs.declared.Kind.TheVariants.{Steps}
use Rattle.graft_accounts.specs.Points.{place_of}
use Rattle.graft_accounts.specs.Sums.{paid, paid_at}
use Rattle.graft_accounts.proofs.Stepping.{billed_seen, funded_seen}
use Rattle.graft_accounts.proofs.Totals.{totals_with}
use Rattle.graft_accounts.proofs.accounts.Accounts.charge_steps.Goals as goal

pub returns-in-Some : goal.returns-in-Some
returns-in-Some c =
    record {
      value =
          (let stands = rw c.place.ensures.value at (sym c.standing.ensures ∙ c.in-Some.is) in
          billed_seen c.args.n c.args.self.now c.pay.new.self c.args.at.process c.args.at.point
          c.in-Some.standing c.pay.ensures.was
          c.args.at.is_process c.args.at.is_point stands c.if-standing.true (rw c.from.ensures at c.pay.ensures.value));
      sums =
          totals_with c.args.self.now c.pay.new.self Steps
          (paid c.args.at.process c.from.result c.args.self.now.steps) c.pay.ensures.value refl
          c.pay.ensures.was c.pay.ensures.sound;
    }

pub returns-in-Some-2 : goal.returns-in-Some-2
returns-in-Some-2 c =
    record {
      value =
          (let stands = rw c.place.ensures.value at (sym c.standing.ensures ∙ c.in-Some.is) in
          funded_seen c.args.n c.args.self.now c.pay_at.new.self c.args.at.process c.args.at.point
          c.in-Some.standing c.pay_at.ensures.was
          c.args.at.is_process c.args.at.is_point stands c.if-standing.false
          (rw c.from-in-Some-2.ensures at c.pay_at.ensures.value));
      sums =
          totals_with c.args.self.now c.pay_at.new.self Steps (paid_at c.args.at.process
          (place_of c.args.at) c.from-in-Some-2.result c.args.self.now.steps)
          c.pay_at.ensures.value refl
          c.pay_at.ensures.was c.pay_at.ensures.sound;
    }
