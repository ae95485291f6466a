use Rattle.std.proofs.Common.{sym, ◌∙◌}
use Rattle.call_pieces.specs.Stores.{world_of_store}
use Rattle.stream_points.proofs.Granting.{refused_as_plain}
use Rattle.stream_points.proofs.begin.refusal.Goals as goal

pub returns-in_default : goal.returns-in_default
returns-in_default g c =
    λ table tells.
    let bytes = c.args.bytes.now in
    c.refusal_upto-in_default.ensures table tells
    ∙ refused_as_plain (world_of_store c.args.store.now) table c.args.p c.args.call bytes
    (sym (c.is_stream_call.ensures bytes) ∙ c.if-is_stream_call.true) c.in_default.not-StreamRead
    c.in_default.not-StreamWrite
