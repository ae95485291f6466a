-- What is left leads where all of it leads.
use Rattle.std.proofs.Common.{◌≡◌, ◌-◌}
use Rattle.kernel_model.specs.Needs.{free_process}
use Rattle.audit_needs.proofs.plain_needs.free_process.Given as goal

abbrev pub invariant-loop-p : goal.invariant-loop-p
invariant-loop-p l =
    free_process l.things.queue.items (16 - l.p) l.p ≡ free_process l.things.queue.items 16 0
