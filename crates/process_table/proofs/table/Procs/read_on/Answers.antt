use Rattle.std.proofs.Common.{ℕ, Option, option_map, ap, sym}
use Rattle.kernel_model.specs.declared.OpenRow.{OpenRow}
use Rattle.kernel_model.specs.FilePieces.{read_on}
use Rattle.process_table.specs.Processes.{processes_of}
use Rattle.process_table.specs.contracts.table.Procs.{the_view}
use Rattle.process_table.proofs.Tables.{file_becomes}
use Rattle.process_table.proofs.table.Procs.read_on.Goals as goal

pub returns : goal.returns
returns c =
    rw (sym c.self.view_is)
    (ap (λ (x : ℕ → ℕ → Option OpenRow). record (processes_of (the_view c.self.inside)) { file = x })
    (file_becomes c.self.inside.files c.args.p c.args.fd c.place.result c.row_read_on.new.row
    (option_map (read_on c.args.i)) c.self.invariant.files c.requires.process c.requires.number
    c.place.ensures c.row_read_on.ensures))
