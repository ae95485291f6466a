use Rattle.vino_top.proofs.AnsweredLemmas.{answers_before_reads}
use Rattle.vino_top.proofs.laws.answers_before_reads.Goals as goal

pub returns : goal.returns
returns c = answers_before_reads
