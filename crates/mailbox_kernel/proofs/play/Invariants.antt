use Rattle.kernel_host.specs.Hosts.{IsHost}
use Rattle.mailbox_kernel.proofs.play.Given as goal

abbrev pub invariant-loop-event : goal.invariant-loop-event
invariant-loop-event g l =
    IsHost g.C.Meaning.Rules.meaning (g.D.Disk.seen l.disk).size l.host
