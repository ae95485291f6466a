use Rattle.std.proofs.Common.{◌+◌, ◌∙◌, sym, ap}
use Rattle.std.specs.Prelude.{slice_range}
use Rattle.call_needs.proofs.BodyLaws.{bytes_in_frame}
use Rattle.call_needs.proofs.bodies.frame_range.Goals as goal

pub returns-clause-value : goal.returns-clause-value
returns-clause-value g c =
    let s = c.args.store.now in
    c.bytes.ensures.value
    ∙ ap (λ n. slice_range s.ram (n + c.args.off) (n + c.args.off + c.args.len)) c.start_of.ensures
    ∙ sym (bytes_in_frame s.cache s.ram c.args.f c.args.off c.args.len c.requires.in_cache c.requires.inside)
