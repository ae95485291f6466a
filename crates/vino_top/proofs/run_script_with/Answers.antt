-- Without memory nothing was read, written or called.
use Rattle.std.proofs.Common.{subst, sym}
use Rattle.vino_top.specs.Bounds.{IsSessionOver}
use Rattle.vino_top.specs.Run.{devices}
use Rattle.vino_top.proofs.EndLemmas.{no_memory}
use Rattle.vino_top.proofs.run_script_with.Goals as goal

pub returns-in-Err : goal.returns-in-Err
returns-in-Err g c =
    no_memory _ (devices (g.S.Source.seen c.args.src.now) (g.K.Sink.seen c.args.out.now)
    (g.D.Disk.seen c.args.disk.now))

pub start-requires-clause-within : goal.start-requires-clause-within
start-requires-clause-within g c = λ size.
    subst (IsSessionOver g.C.Meaning.Rules.meaning size) (sym c.in-Ok-new.ensures.session) (c.in-Ok.ensures.within size)

pub returns-in_default : goal.returns-in_default
returns-in_default g c =
    no_memory _ (devices (g.S.Source.seen c.args.src.now) (g.K.Sink.seen c.args.out.now)
    (g.D.Disk.seen c.args.disk.now))
