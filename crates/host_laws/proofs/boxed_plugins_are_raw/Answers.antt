use Rattle.host_laws.proofs.BoxedRuns.{boxed_plugins_are_raw}
use Rattle.host_laws.proofs.boxed_plugins_are_raw.Goals as goal

pub returns : goal.returns
returns c =
    boxed_plugins_are_raw c.stays_inside.ensures c.rewritten_is_boxed.ensures c.boxed_does_what_raw_does.ensures
