use Rattle.std.proofs.Common.{subst, sym, slice_index}
use Rattle.kernel_model.specs.Objects.{Objects}
use Rattle.graft_accessors.specs.Accesses.{CanBeUndone}
use Rattle.kernel_state.specs.Stores.{objects_of}
use Rattle.graft_accessors.proofs.Undoing.{kept_by_access}
use Rattle.graft_accessors.proofs.apply.Goals as goal

pub returns-clause-kept : goal.returns-clause-kept
returns-clause-kept g c = λ i h.
    subst (λ (s : Objects). CanBeUndone i s.things) (sym c.change.ensures.objects)
    (kept_by_access c.args.id (slice_index c.args.args 0) (slice_index c.args.args 1)
    (slice_index c.args.args 2) c.args.q i (objects_of c.args.store.now).things h)
