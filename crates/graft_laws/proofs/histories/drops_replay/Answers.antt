use Rattle.graft_laws.proofs.DropReplayLemmas.{drops_replay}
use Rattle.graft_laws.proofs.histories.drops_replay.Goals as goal

pub returns : goal.returns
returns c = drops_replay
