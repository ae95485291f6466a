use Rattle.std.proofs.Common.{arith}
use Rattle.gm_image.proofs.Reading.{read_raw-parts}
use Rattle.gm_image.proofs.read_raw.Goals as goal

pub returns-clause-err : goal.returns-clause-err
returns-clause-err c =
    rw (
      read_raw-parts c.args.bytes.now c.as_slice.result.now c.word_at-n.result c.word_at-d.result
          (omega arith) c.if-ne.ensures
          c.as_slice.ensures c.word_at-n.ensures c.word_at-d.ensures (omega arith) (omega arith) (omega arith),
      ← c.split_at.ensures.back,
    )
    c.read_parts.ensures.err
