-- Nothing was counted.
use Rattle.std.proofs.Common.{refl}
use Rattle.vino_top.proofs.SessionLemmas.{first_patience}
use Rattle.vino_top.proofs.session.Session.new.Goals as goal

pub returns-in-Ok-new-clause-begun : goal.returns-in-Ok-new-clause-begun
returns-in-Ok-new-clause-begun g c =
    record { setup = first_patience; booted = refl; lines = refl; events = refl; refused = refl }
