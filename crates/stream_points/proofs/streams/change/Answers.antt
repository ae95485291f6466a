use Rattle.std.proofs.Common.{◌≡◌, ℕ, List, length, ap, ◌∙◌, arith}
use Rattle.kernel_model.specs.StreamPoints.{through}
use Rattle.call_pieces.specs.Stores.{objects_of}
use Rattle.call_pieces.specs.Needing.{block_meant}
use Rattle.call_pieces.specs.Works.{answer_seen}
use Rattle.stream_points.proofs.Continuing.{out_length, write_continues}
use Rattle.stream_points.proofs.streams.change.Goals as goal

pub returns-clause-gone : goal.returns-clause-gone
returns-clause-gone g c =
    λ _.
    let s = c.args.store.now in
    let w = c.args.work.now in
    let given = w.bytes.items in
    let within = c.requires.inside in
    let out = through (answer_seen s.ram w.caller c.args.answer) given in
    let same : length out ≡ length given =
    out_length (objects_of s)
    (block_meant s w.caller c.args.fd c.args.i c.args.off (length given)) _ w.caller c.args.i
    c.args.off c.args.fd given s.ram c.args.answer (omega (arith, within))
    (c.in_default.ensures.value
    ∙ ap (λ (xs : List ℕ).
    block_meant s w.caller c.args.fd c.args.i c.args.off (length xs)) c.as_slice.ensures.value)
    c.requires.right in
    write_continues w _ c.args.fd c.args.i c.args.off given out c.requires.call c.requires.first
    (omega (arith, within, same)) c.carry_out.ensures
