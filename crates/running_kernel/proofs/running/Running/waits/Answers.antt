use Rattle.std.proofs.Common.{◌∙◌, sym}
use Rattle.running_kernel.proofs.QueryLemmas.{order_has}
use Rattle.running_kernel.proofs.running.Running.waits.Goals as goal

pub returns : goal.returns
returns g c = c.has.ensures ∙ sym (order_has c.args.p c.args.self.now.order)
