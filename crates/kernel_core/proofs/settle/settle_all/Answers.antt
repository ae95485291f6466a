use Rattle.std.proofs.Common.{sym, ◌∙◌, arith, length}
use Rattle.std.proofs.lemmas.Bool.Decides.{nat_tests}
use Rattle.running_kernel.proofs.PlainLemmas.{no_level}
use Rattle.kernel_core.proofs.AloneLemmas.{went_empty}
use Rattle.kernel_core.proofs.settle.settle_all.Goals as goal

pub returns-then-is_empty : goal.returns-then-is_empty
returns-then-is_empty g c =
    let a = c.args in
    went_empty g.C.Meaning.Rules.meaning 256 a.running.now a.trace.now.notes (g.D.Disk.seen a.disk.now)
    (no_level a.running.now.order (grind (arith, nat_tests, c.is_empty.ensures, c.if-is_empty.true)))
    c.requires.running c.requires.abstraction
