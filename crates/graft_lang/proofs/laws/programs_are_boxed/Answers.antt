use Rattle.graft_lang.proofs.Boxing as boxing
use Rattle.graft_lang.proofs.laws.programs_are_boxed.Goals as goal

pub returns : goal.returns
returns c = boxing.programs_are_boxed
