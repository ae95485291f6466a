use Rattle.std.proofs.Common.{refl}
use Rattle.vino_host.proofs.calls.complete.Goals as goal

pub returns : goal.returns
returns c segment =
    rw (
      c.full_answer.ensures segment,
      c.saturating_sub-steps.ensures,
      c.given_bytes-given.ensures,
      c.reg.ensures,
      c.release.ensures,
    )
    refl
