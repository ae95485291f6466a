use Rattle.std.proofs.Common.{refl}
use Rattle.vino_host.proofs.calls.wait.Goals as goal

pub returns : goal.returns
returns c segment = rw (c.full_answer.ensures segment, c.saturating_sub.ensures) refl
