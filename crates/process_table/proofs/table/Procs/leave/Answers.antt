use Rattle.std.proofs.Common.{◌∙◌}
use Rattle.process_table.proofs.Tables.{left}
use Rattle.process_table.proofs.table.Procs.leave.Goals as goal

pub invariant_of-self : goal.invariant_of-self
invariant_of-self c =
    rw (c.take_out.ensures, c.free_locks.ensures, c.remove_handlers.ensures)
    (left _ c.args.p _ _ c.requires.not_root (c.clear_cells.auto.cells ∙ c.self.invariant.cells)
    (c.close_files.auto.files ∙ c.self.invariant.files)
    c.clear_cells.ensures c.close_files.ensures c.self.invariant)
