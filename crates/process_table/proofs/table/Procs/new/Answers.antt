use Rattle.process_table.proofs.Tables.{opened}
use Rattle.process_table.proofs.table.Procs.new.Goals as goal

pub invariant_of-result : goal.invariant_of-result
invariant_of-result c =
    rw (c.new.ensures, c.new-2.ensures)
    (opened _ _ _ c.zero_cells.ensures.len c.closed_files.ensures.len c.free_holders.ensures.len
    c.zero_cells.ensures.value c.closed_files.ensures.value c.free_holders.ensures.value)
