use Rattle.vino_host.proofs.Storing.{CodePut}
use Rattle.vino_host.proofs.loading.put_code.Given as goal

abbrev pub invariant-loop-k : goal.invariant-loop-k
invariant-loop-k l = CodePut l.at l.code l.fn.to l.to l.k
