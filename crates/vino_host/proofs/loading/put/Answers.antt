use Rattle.std.proofs.Common.{length, ap, ◌∙◌, arith, List, ℕ, ◌+◌, ◌-◌}
use Rattle.std.proofs.lemmas.Slice.{drop-put_mid}
use Rattle.vino_host.proofs.loading.put.Goals as goal

pub returns-clause-back : goal.returns-clause-back
returns-clause-back c n far =
    drop-put_mid c.args.at (c.args.at + length c.args.bytes.now - c.args.at) c.args.to.now
    c.copy_from_slice.new.self n (omega (arith, far)) (omega (arith, c.requires))
    (ap (λ (xs : List ℕ). length xs) c.copy_from_slice.ensures.after ∙ omega arith)
