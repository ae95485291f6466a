use Rattle.box_rewriter.proofs.Simulation.{rewriting}
use Rattle.box_rewriter.proofs.laws.boxed_does_what_raw_does.Goals as goal

pub returns : goal.returns
returns c = rewriting
