use Rattle.std.proofs.Common.{◌≡◌, ℕ, List, true, subst, sym, nat_lt}
use Rattle.std.specs.List.{list_all}
use Rattle.kernel_model.specs.declared.BareCall.{BareCall}
use Rattle.kernel_model.specs.Bare.{call_with}
use Rattle.kernel_model.specs.EventPoints.{event_fits}
use Rattle.call_pieces.specs.Works.{stage_of}
use Rattle.event_points.proofs.HandlerLists.{stand_at_points}
use Rattle.event_points.proofs.needs.need.Goals as goal

pub handler_needs-requires-clause-points : goal.handler_needs-requires-clause-points
handler_needs-requires-clause-points g c =
    let w = c.args.work.now in
    let fits = subst (λ (k : BareCall). event_fits (call_with k w.bytes.items) (stage_of w) ≡ true)
    c.in-Serve-2.is c.requires.ready.fits in
    subst (λ (hs : List (ℕ × ℕ)). list_all (λ (h : ℕ × ℕ). nat_lt h.1 16) hs ≡ true)
    (sym c.as_slice.ensures.value)
    (stand_at_points w.piece c.in-Serve-2.field-0 w.handlers.items w.answers c.if-work-eq0.false fits)
