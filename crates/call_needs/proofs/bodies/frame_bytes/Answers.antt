use Rattle.std.proofs.Common.{◌+◌, ◌≤◌, length, ◌∙◌, sym, ap, arith}
use Rattle.std.specs.Prelude.{slice_range}
use Rattle.call_needs.proofs.BodyLaws.{bytes_of_frame, range_long}
use Rattle.call_needs.proofs.bodies.frame_bytes.Goals as goal

pub unreachable-requires : goal.unreachable-requires
unreachable-requires g c =
    let ram = c.args.store.now.ram in
    let a = c.start_of.result in
    let inside : a + 512 ≤ length ram =
    omega (arith, c.start_of.ensures, c.bytes-bytes.ensures.size, c.ranges.f) in
    c.in-None.ensures.cases (ap length c.bytes-bytes.ensures.value ∙ range_long ram a 512 inside)

pub returns : goal.returns
returns g c =
    let s = c.args.store.now in
    c.in-Some.ensures.cases.same
    ∙ c.bytes-bytes.ensures.value
    ∙ ap (λ n. slice_range s.ram n (n + 512)) c.start_of.ensures
    ∙ sym (bytes_of_frame s.cache s.ram c.args.f c.requires)
