use Rattle.audit_needs.proofs.NeedLists.{all_added}
use Rattle.audit_needs.proofs.plain_needs.exit_needs.Goals as goal

pub returns : goal.returns
returns c =
    all_added _ _ _ _ _ _ _ _ _ _ _ _ _ _ _ _ _ c.in_ok-exclusive.ensures
    c.in_ok-exclusive-2.ensures c.in_ok-exclusive-3.ensures c.in_ok-exclusive-4.ensures
    c.in_ok-grafts.ensures c.in_ok-files.ensures c.in_ok-cells.ensures c.in_ok-locks.ensures
