use Rattle.std.proofs.Common.{◌≡◌, max, ◌∷◌, drop}
use Rattle.kernel_model.specs.declared.QueueRow.{QueueRow}
use Rattle.kernel_model.specs.Policies.{least}
use Rattle.graft_points.proofs.least.lowest_nice.Given as goal

abbrev pub invariant-loop-row : goal.invariant-loop-row
invariant-loop-row l =
    let key = λ (r : QueueRow). max r.nice l.floor in
    least key (l.best ∷ drop l.row-index l.rows) ≡ least key l.rows
