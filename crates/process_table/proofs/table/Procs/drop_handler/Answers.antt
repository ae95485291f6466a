use Rattle.std.proofs.Common.{not}
use Rattle.kernel_model.specs.Handlers.{is_handler, handlers_pass}
use Rattle.process_table.proofs.Handlers.{low_pass}
use Rattle.process_table.proofs.Tables.{handled}
use Rattle.process_table.proofs.table.Procs.drop_handler.Goals as goal

pub invariant_of-self : goal.invariant_of-self
invariant_of-self c =
    rw c.remove_handler.ensures
    (handled _ _ c.self.invariant (handlers_pass _ _ c.self.invariant.sound.handlers)
    (low_pass (λ x. not (is_handler c.args.q c.args.pt x)) c.self.inside.handlers.items
    c.self.invariant.sound.processes))
