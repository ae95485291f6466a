use Rattle.running_kernel.specs.Views.{placed_of}
use Rattle.placed_laws.proofs.UndoLaws.{calls_undo_to_committed}
use Rattle.kernel_core.proofs.kernel.Kernel.event.Goals as goal

pub returns-clause-undone : goal.returns-clause-undone
returns-clause-undone g c =
    calls_undo_to_committed g.C.Meaning.Rules.meaning g.C.Meaning.Rules.laws
    (placed_of c.event.new.running)
