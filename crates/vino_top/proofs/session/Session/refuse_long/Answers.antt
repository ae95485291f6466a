-- A line that is too long is refused with its code.
use Rattle.std.proofs.Common.{ap}
use Rattle.vino_top.specs.Standing.{seen_of}
use Rattle.vino_top.proofs.SessionLemmas.{line_after_refusal, line_too_long}
use Rattle.vino_top.proofs.session.Session.refuse_long.Goals as goal

pub refuse-requires : goal.refuse-requires
refuse-requires g c = c.clear.ensures

pub returns-then-self-clause-runs : goal.returns-then-self-clause-runs
returns-then-self-clause-runs g c = λ place text d long.
    line_after_refusal place (seen_of c.args.self.now) text _ d c.if-self.true
    c.clear.ensures

pub returns-clause-runs : goal.returns-clause-runs
returns-clause-runs g c = λ place text d long.
    line_too_long place (seen_of c.args.self.now) (seen_of c.refuse.new.self) text _ d
    c.if-self.false long (ap (λ s. seen_of s) c.refuse.ensures.state)
    c.refuse.ensures.text
