use Rattle.std.proofs.Common.{subst, sym}
use Rattle.std.specs.Option.{option_copied}
use Rattle.kernel_model.specs.declared.Inverse.TheVariants.{Cell, Nice, Window, Mark, Tune, Segment}
use Rattle.kernel_model.specs.Objects.{Objects}
use Rattle.kernel_state.specs.Tables.{by_place}
use Rattle.graft_accessors.specs.Accesses.{CanBeUndone}
use Rattle.kernel_state.specs.Stores.{objects_of}
use Rattle.graft_accessors.proofs.Undoing.{kept_by_undo}
use Rattle.graft_accessors.proofs.undo.Goals as goal

pub returns-in-Cell-clause-kept : goal.returns-in-Cell-clause-kept
returns-in-Cell-clause-kept g c = λ i h.
    subst (λ (s : Objects). CanBeUndone i s.things) (sym c.set_cell.ensures.objects)
    (kept_by_undo (Cell c.in-Cell.q c.in-Cell.k c.in-Cell.v) i
    (by_place (option_copied c.args.bytes)) (objects_of c.args.store.now).things h)

pub returns-in-Nice-clause-kept : goal.returns-in-Nice-clause-kept
returns-in-Nice-clause-kept g c = λ i h.
    subst (λ (s : Objects). CanBeUndone i s.things) (sym c.set_nice.ensures.objects)
    (kept_by_undo (Nice c.in-Nice.q c.in-Nice.v) i (by_place (option_copied c.args.bytes))
    (objects_of c.args.store.now).things h)

pub returns-in-Window-clause-kept : goal.returns-in-Window-clause-kept
returns-in-Window-clause-kept g c = λ i h.
    subst (λ (s : Objects). CanBeUndone i s.things) (sym c.set_window.ensures.objects)
    (kept_by_undo (Window c.in-Window.q c.in-Window.fd c.in-Window.v) i
    (by_place (option_copied c.args.bytes)) (objects_of c.args.store.now).things h)

pub returns-in-Mark-clause-kept : goal.returns-in-Mark-clause-kept
returns-in-Mark-clause-kept g c = λ i h.
    subst (λ (s : Objects). CanBeUndone i s.things) (sym c.set_mark.ensures.objects)
    (kept_by_undo (Mark c.from.result c.in-Mark.v) i (by_place (option_copied c.args.bytes))
    (objects_of c.args.store.now).things h)

pub returns-in-Tune-clause-kept : goal.returns-in-Tune-clause-kept
returns-in-Tune-clause-kept g c = λ i h.
    subst (λ (s : Objects). CanBeUndone i s.things) (sym c.set_param.ensures.changed.objects)
    (kept_by_undo (Tune c.in-Tune.kind 0 c.in-Tune.v) i (by_place (option_copied c.args.bytes))
    (objects_of c.args.store.now).things h)

pub returns-in-Segment-clause-kept : goal.returns-in-Segment-clause-kept
returns-in-Segment-clause-kept g c = λ i h.
    subst (λ (s : Objects). CanBeUndone i s.things) (sym c.put_segment.ensures.objects)
    (kept_by_undo (Segment c.in-Segment.q c.in-Segment.pt) i (by_place (option_copied c.args.bytes))
    (objects_of c.args.store.now).things h)
