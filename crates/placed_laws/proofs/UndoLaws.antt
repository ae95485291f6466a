-- The laws of this crate, each by its function's name: proofs of other crates cite them here.
use Rattle.kernel_model.specs.Meaning.{Meaning}
use Rattle.kernel_model.specs.InPlace.{undone, store_below}
use Rattle.kernel_model.specs.Laws.{Laws}
use Rattle.graft_laws.proofs.HistoryLaws.{undone_is_below}
use Rattle.placed_laws.specs.Undone.{placed_undone, UndoneInPlace, UndoneIsCommitted}
use Rattle.placed_laws.specs.Undone.{CallsUndoToCommitted, DropsLeadToStoreBelow}
use Rattle.placed_laws.specs.Undone.{DropsLeaveTheStoreBelow}
use Rattle.placed_laws.proofs.CommittedLemmas as Committed
use Rattle.placed_laws.proofs.DropLemmas.{drops_leave_the_store_below, drops_lead_below}
use Rattle.placed_laws.proofs.InPlaceLemmas.{undone_alike_in_place}
use Rattle.kernel_laws.proofs.FrameLemmas.{same_then}

pub undone_in_place : (m : Meaning) → UndoneInPlace m
undone_in_place m x k cut ps o laws stands range once all =
    same_then o (placed_undone x cut ps) (undone m k cut ps) (store_below m k cut)
    (undone_alike_in_place m x k cut ps o stands range) (undone_is_below m k cut ps o laws stands.kernel once all)

pub drops_undo : (m : Meaning) → DropsLeaveTheStoreBelow m
drops_undo m = drops_leave_the_store_below m (undone_is_below m)

pub undone_is_committed : (m : Meaning) → UndoneIsCommitted m
undone_is_committed = Committed.undone_is_committed

pub calls_undo_to_committed : (m : Meaning) → Laws m → CallsUndoToCommitted m
calls_undo_to_committed m laws = Committed.undoes_to_committed m laws (undone_in_place m) (undone_is_committed m)

pub drops_lead_to_store_below : (m : Meaning) → Laws m → DropsLeadToStoreBelow m
drops_lead_to_store_below m laws = drops_lead_below m laws (drops_undo m)
