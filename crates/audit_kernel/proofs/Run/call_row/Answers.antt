use Rattle.std.proofs.Common.{◌==◌, List, find, map, sym, ap, ◌∙◌}
use Rattle.kernel_model.specs.AllCalls.{all_calls}
use Rattle.kernel_model.specs.Blocking.{levels_of}
use Rattle.kernel_model.specs.Kernel as model
use Rattle.kernel_model.specs.Levels.{Level}
use Rattle.kernel_model.specs.RawRows as raw
use Rattle.audit_pieces.specs.Stores.{page_of}
use Rattle.audit_kernel.specs.declared.Waiter.{Waiter}
use Rattle.audit_kernel.specs.Runs.{kernel_of, waiter_of}
use Rattle.audit_kernel.proofs.Logging.{call_seen}
use Rattle.audit_kernel.proofs.Run.call_row.Goals as goal

pub returns-in_ok-top-in-Some : goal.returns-in_ok-top-in-Some
returns-in_ok-top-in-Some c =
    let k = kernel_of c.args.self.now in
    let p = c.args.p in
    call_seen p c.in-Some.number (k.call p) c.wait_row-wait.result (raw.wait_row k p)
    c.in_ok-top-in-Some.top (raw.top_of (levels_of all_calls k p))
    (sym c.in-Some.is ∙ c.call_number.ensures)
    (c.wait_row-wait.ensures
    ∙ ap (λ (es : List Waiter). raw.wait_by (find (λ (e : model.Waiter). e.process == p) (map waiter_of es)))
    c.as_slice.ensures.value)
    (c.in_ok-top-in-Some.ensures (page_of c.args.self.now.store)
    ∙ ap (λ (ls : List Level). raw.top_of ls) c.levels.ensures)
