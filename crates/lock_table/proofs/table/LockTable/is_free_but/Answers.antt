use Rattle.std.proofs.Common.{List, ap, sym, ◌∙◌}
use Rattle.kernel_model.specs.Locks.{lowest_holder}
use Rattle.lock_table.specs.declared.Holds.{Holds}
use Rattle.lock_table.specs.Masks.{held}
use Rattle.lock_table.proofs.HoldingLemmas.{nobody_but}
use Rattle.lock_table.proofs.table.LockTable.is_free_but.Goals as goal

pub returns : goal.returns
returns c = λ empty o mode.
    ap (λ (xs : List (List Holds)). lowest_holder (held xs) c.args.p o mode) (sym c.self.view_is)
    ∙ nobody_but c.self.inside.holding c.others.result c.self.inside.calls.items c.args.p o mode
    c.others.ensures (c.is_empty.ensures.none empty) c.self.invariant.1
