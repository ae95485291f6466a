use Rattle.std.proofs.Common.{ℕ, sym, ap, List}
use Rattle.std.proofs.Math.Seq.{drop-cons}
use Rattle.run_audit.specs.Progress.{at_end}
use Rattle.run_audit.proofs.comparing.conclude.Goals as goal

pub returns-then-place-claim : goal.returns-then-place-claim
returns-then-place-claim c =
    let claim = c.args.claim.now in
    let p = c.args.place in
    rw c.if-place.false (sym (ap (λ (xs : List ℕ). at_end xs p.line) (drop-cons claim p.at 0 c.if-place-claim.true)))
