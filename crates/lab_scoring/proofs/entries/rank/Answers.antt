-- The entries are sorted by an order, and stay in it where they tie.
use Rattle.std.proofs.Common.{◌≡◌, rules}
use Rattle.std.proofs.lemmas.Fn.{always_returns_same}
use Rattle.std.specs.Ordering.{is_lt}
use Rattle.lab_scoring.specs.Ranking.{is_before}
use Rattle.lab_scoring.proofs.Order.{is_order}
use Rattle.lab_scoring.proofs.entries.rank.Goals as goal

pub returns-in-Ok : goal.returns-in-Ok
returns-in-Ok c =
    record {
      same = c.in-Ok.ensures.permutation;
      ordered = c.in-Ok.ensures.sorted (is_before c.args.most) (is_order c.args.most)
          (always_returns_same _ (λ a r. is_lt r ≡ is_before c.args.most a.0.now a.1.0.now) _
          (λ a r q k. search rules));
      stable = c.in-Ok.ensures.stable (is_before c.args.most) (is_order c.args.most)
          (always_returns_same _ (λ a r. is_lt r ≡ is_before c.args.most a.0.now a.1.0.now) _
          (λ a r q k. search rules));
    }
