use Rattle.std.proofs.Common.{◌≡◌, max, ◌∷◌, drop}
use Rattle.kernel_model.specs.declared.FrameRow.{FrameRow}
use Rattle.kernel_model.specs.Policies.{least}
use Rattle.graft_points.proofs.least.lowest_marked.Given as goal

abbrev pub invariant-loop-row : goal.invariant-loop-row
invariant-loop-row l =
    let key = λ (r : FrameRow). max r.mark l.floor in
    least key (l.best ∷ drop l.row-index l.rows) ≡ least key l.rows
