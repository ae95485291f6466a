use Rattle.std.proofs.Common.{ℕ, List, ◌++◌, filter, sym, ap, ◌∙◌}
use Rattle.kernel_data.specs.declared.QueueRow.{QueueRow}
use Rattle.kernel_data.specs.Policies.{lives}
use Rattle.kernel_data.specs.World.{processes}
use Rattle.audit_kernel.proofs.Run.living.Goals as goal

pub returns : goal.returns
returns c =
    let queue = c.things_at.result.now.queue.items in
    c.in_ok-add_living.ensures
    ∙ ap (λ (xs : List ℕ). xs ++ filter (lives queue) c.numbers.result) c.new-living.ensures.items
    ∙ ap (λ (ps : List ℕ). filter (lives queue) ps) c.numbers.ensures
    ∙ ap (λ (q : List QueueRow). filter (lives q) processes) (sym c.things_at.ensures.0)
