use Rattle.std.proofs.Common.{◌+◌, ◌∙◌, sym, ap}
use Rattle.std.specs.Prelude.{slice_range}
use Rattle.kernel_model.specs.Levels.{base_of}
use Rattle.call_needs.proofs.BodyLaws.{body_is}
use Rattle.call_needs.proofs.bodies.copy_body.Goals as goal

pub returns : goal.returns
returns g c =
    let ram = c.args.store.now.ram in
    let place = base_of c.args.p 0 + 2048 in
    c.take_bytes.ensures
    ∙ c.bytes.ensures.value
    ∙ ap (λ a. slice_range ram a (a + c.body_len.result)) c.body_place.ensures.place
    ∙ ap (λ n. slice_range ram place (place + n)) c.body_len.ensures
    ∙ sym (body_is ram c.args.p c.args.answer c.bytes.ensures.size c.requires.process)
