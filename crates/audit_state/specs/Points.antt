-- What kind of point a number names.
use Rattle.kernel_model.specs.Policies as model
use Rattle.audit_state.specs.declared.PointKind.{PointKind}
use Rattle.audit_state.specs.declared.PointKind.TheVariants.{Ahead, Victim, Next, Serve, Stream}

-- the kind of the definitions
abbrev pub point_kind : PointKind → model.PointKind
point_kind Ahead = model.Ahead
point_kind Victim = model.Victim
point_kind Next = model.Next
point_kind Serve = model.Serve
point_kind Stream = model.Stream
