use Rattle.std.proofs.Common.{List, ◌-◌, ◌++◌, length, take, drop, map, ap, ◌∙◌}
use Rattle.kernel_model.specs.RawRows.{undo_row}
use Rattle.kernel_model.specs.UndoLog.{numbered_log, undo_log}
use Rattle.audit_levels.specs.declared.Level.{Level}
use Rattle.audit_levels.specs.declared.Record.{Record}
use Rattle.audit_levels.specs.Levels.{levels_of}
use Rattle.audit_kernel.specs.Rows.{record_row}
use Rattle.audit_kernel.proofs.Logging.{first_and_rest, log_more}
use Rattle.audit_kernel.proofs.call_rows.+add_log.Goals as goal

pub returns-in_ok-add_log-in-len1-up : goal.returns-in_ok-add_log-in-len1-up
returns-in_ok-add_log-in-len1-up t c = λ bytes.
    let p = c.args.p in
    let levels = c.args.levels.now in
    let old = c.args.rows.now.items in
    let depth = c.in_ok-depth-in-len1-up.depth in
    log_more bytes p depth c.l-item.result (take (length levels - 1) (drop 1 levels)) old c.add_records.new.rows.items
    c.add_log.new.rows.items c.in_ok-depth-in-len1-up.ensures
    (c.in_ok-add_records-in-len1-up.ensures
    ∙ ap (λ (rs : List Record). old ++ map (record_row p depth) rs) c.deref.ensures.value)
    (c.in_ok-add_log-in-len1-up.ensures bytes)
    ∙ ap (λ (ls : List Level). old ++ map (undo_row p) (numbered_log (undo_log (levels_of bytes ls))))
    (first_and_rest levels c.l-item.result c.in-len1-up.len_at_least c.l-item.is)
