use Rattle.graft_laws.proofs.ReplayLemmas.{instructions_replay}
use Rattle.graft_laws.proofs.histories.instructions_replay.Goals as goal

pub returns : goal.returns
returns c = instructions_replay
