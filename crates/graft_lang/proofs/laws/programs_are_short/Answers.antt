use Rattle.graft_lang.proofs.Sizes as sizes
use Rattle.graft_lang.proofs.laws.programs_are_short.Goals as goal

pub returns : goal.returns
returns c = sizes.programs_are_short
