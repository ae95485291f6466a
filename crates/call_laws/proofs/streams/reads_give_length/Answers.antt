use Rattle.call_laws.specs.StreamReads.{reads_give_length}
use Rattle.call_laws.proofs.streams.reads_give_length.Goals as goal

pub returns : goal.returns
returns c = reads_give_length
