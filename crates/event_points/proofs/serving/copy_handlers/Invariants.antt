use Rattle.std.proofs.Common.{◌≡◌, take}
use Rattle.kernel_model.specs.Handlers.{handlers_at}
use Rattle.event_points.proofs.serving.copy_handlers.Given as goal

abbrev pub invariant-loop-h : goal.invariant-loop-h
invariant-loop-h l = l.to.items ≡ handlers_at l.pt (take l.h-index l.handlers)
