use Rattle.std.proofs.Common.{ℕ, List, ap, sym, ◌∙◌}
use Rattle.kernel_model.specs.AllCalls.{all_calls}
use Rattle.kernel_model.specs.Locks.{Touched, hinders}
use Rattle.kernel_model.specs.Levels.{Level, touched_at}
use Rattle.kernel_model.specs.Blocking as blocking
use Rattle.audit_pieces.specs.Stores.{page_of}
use Rattle.audit_kernel.specs.Runs.{kernel_of}
use Rattle.audit_kernel.proofs.Holding.{locks_at}
use Rattle.audit_kernel.proofs.Run.is_placed_holder.Goals as goal

pub returns : goal.returns
returns c =
    let k = kernel_of c.args.self.now in
    let o = c.args.object in
    let mode = c.args.mode in
    c.hinders.ensures (page_of c.args.self.now.store)
    ∙ ap (λ (ls : List Level). hinders o mode (touched_at ls)) c.levels.ensures
    ∙ ap (λ (t : ℕ → Touched). hinders o mode t)
    (sym (locks_at (blocking.levels_of all_calls k) c.args.q c.requires.place))
