use Rattle.std.proofs.Common.{◌≡◌, length, arith, sym}
use Rattle.std.proofs.lemmas.Bool.Decides.{nat_tests}
use Rattle.ram_space.proofs.Lists.{put_none}
use Rattle.ram_space.proofs.Ram.+copy_in.Goals as goal

pub returns-then-is_empty-clause-value : goal.returns-then-is_empty-clause-value
returns-then-is_empty-clause-value _ c =
    sym (put_none c.args.a c.args.from.now c.args.self.now
    (let e : length c.args.from.now ≡ 0 = grind (arith, nat_tests, c.is_empty.ensures, c.if-is_empty.true) in e))
